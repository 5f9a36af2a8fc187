-- A position in the piece that it belongs to, by the numbers that the exact rules take of it.
use Rattle.std.specs.Prelude.{◌≡◌, List, ℕ, ◌+◌, ℤ, ◌+ℤ◌, ◌-ℤ◌, Option, None, Some}
use Rattle.std.proofs.Common.{sym, subst, subst₂, SFits}
use Rattle.std.specs.Int.{w32}
use Rattle.integers.specs.Arguments.{same₄}
use Rattle.rules.specs.Limits.{unit}
use Rattle.rules.specs.Known.{unit_size}
use Rattle.table.specs.Table.{Table, entry, step}
use Rattle.table.specs.Accepted.{Accepted}
use Rattle.position.specs.declared.Spot.{Spot}
use Rattle.position.specs.InPiece.{InPiece}
use Rattle.position.specs.Position.{WithinKnots, Belongs}
use Rattle.position.specs.Pieces.{within_list, inside_piece}

-- "width h = right knot − left knot", "rise z = right value − left value", "m, n = left and right slope", "t = position − left knot"; the right value is an
-- entry of 32 bits as the left one is
pub record SpotOn (ks vs ss : List ℤ) (i : ℕ) (x left h z m n t : ℤ) : Type 0 where
  pub belongs : Belongs ks x i
  pub left_is : left ≡ entry vs i
  pub h_is : h ≡ step ks i
  pub z_is : z ≡ step vs i
  pub m_is : m ≡ entry ss i
  pub n_is : n ≡ entry ss (i + 1)
  pub t_is : t ≡ x -ℤ entry ks i
  pub right_fits : SFits w32 (left +ℤ z)

-- where a position lies: outside the knots, or in its piece
pub data SoughtIn (ks vs ss : List ℤ) (x : ℤ) : Option Spot → Type 0 where
  outside : (WithinKnots ks x → ⊥) → SoughtIn ks vs ss x None
  on : {s : Spot} → WithinKnots ks x → SpotOn ks vs ss s.piece x s.left s.h s.z s.m s.n s.t → SoughtIn ks vs ss x (Some s)

pub sought_outside : {ks vs ss : List ℤ} {x : ℤ} → SoughtIn ks vs ss x None → WithinKnots ks x → ⊥
sought_outside (outside f) = f

pub sought_on : {ks vs ss : List ℤ} {x : ℤ} {s : Spot} → SoughtIn ks vs ss x (Some s) → WithinKnots ks x × SpotOn ks vs ss s.piece x s.left s.h s.z s.m s.n s.t
sought_on (on w s) = (w, s)

-- what is said of a spot's numbers is said of the lists'
pub of_spot : {ks vs ss : List ℤ} {i : ℕ} {x left h z m n t : ℤ} (R : ℤ → ℤ → ℤ → ℤ → ℤ → ℤ → Type 0) → SpotOn ks vs ss i x left h z m n t → R left h z m n t
    → R (entry vs i) (step ks i) (step vs i) (entry ss i) (entry ss (i + 1)) (x -ℤ entry ks i)
of_spot {ks} {vs} {i = i} {x} {h = h} {z} {m} {n} R s r =
    same₄ (λ (h z m n : ℤ). R (entry vs i) h z m n (x -ℤ entry ks i)) s.h_is s.z_is s.m_is s.n_is
    (subst₂ (λ (left t : ℤ). R left h z m n t) s.left_is s.t_is r)

pub inside_accepted : {tab : Table} {i : ℕ} {x : ℤ} → Accepted tab → Belongs tab.knots x i
    → InPiece (unit tab.s) (step tab.knots i) (step tab.values i) (entry tab.slopes i) (entry tab.slopes (i + 1)) (x -ℤ entry tab.knots i)
inside_accepted {i = i} a b =
    let l = within_list b in record { unit = unit_size a.unit; width = a.limits.widths i l; rise = a.limits.rises i l; monotone = a.pieces i l; place = inside_piece a.limits b }

pub inside_spot : {tab : Table} {i : ℕ} {x left h z m n t : ℤ} → Accepted tab → SpotOn tab.knots tab.values tab.slopes i x left h z m n t → InPiece (unit tab.s) h z m n t
inside_spot {tab} {t = t} a s =
    same₄ (λ (h z m n : ℤ). InPiece (unit tab.s) h z m n t) (sym s.h_is) (sym s.z_is) (sym s.m_is) (sym s.n_is)
    (subst (InPiece (unit tab.s) _ _ _ _) (sym s.t_is) (inside_accepted a s.belongs))
