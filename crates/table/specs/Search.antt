-- What the search for a faulty piece asks of a piece, and what it answers. Nobody has to believe this file: `first` promises `Given`.
use Rattle.std.specs.Prelude.{◌≡◌, refl, List, [], ◌∷◌, ℕ, zero, suc, ◌-◌, ◌^◌, ◌≤◌, ◌<◌, ℤ, set, Option, None, Some}
use Rattle.std.proofs.Common.{sym, ap, subst, arith, length-set, SFits, to_z, of_z, to_z-of_z}
use Rattle.std.specs.Int.Signed.{mag}
use Rattle.std.specs.Int.{w32, w64}
use Rattle.integers.specs.Within.{Within}
use Rattle.table.specs.declared.changed.Change.{Change}
use Rattle.table.specs.Table.{Table, table, entry, point_count}
use Rattle.rules.specs.Causes.{number_of}
use Rattle.rules.specs.declared.Cause.{Cause}
use Rattle.rules.specs.declared.Cause.TheVariants as causes
use Rattle.table.specs.declared.search.Fault.{Fault}
use Rattle.table.specs.declared.search.Fault.TheVariants.{Width, Rise, Bend}
use Rattle.table.specs.declared.search.Found.{Found}

-- the numbers of the causes of a piece, of what is found in one, and of what a search finds: 0 where it finds nothing
abbrev pub fault_number : Fault → ℕ
fault_number Width = 3
fault_number Rise = 4
fault_number Bend = 5

abbrev pub found_number : Option Fault → ℕ
found_number None = 0
found_number (Some f) = fault_number f

abbrev pub found_in : Option Found → ℕ
found_in None = 0
found_in (Some f) = fault_number f.fault

abbrev pub found_at : Option Found → ℕ
found_at None = 0
found_at (Some f) = f.piece

abbrev pub cause_of : Fault → Cause
cause_of Width = causes.Width
cause_of Rise = causes.Rise
cause_of Bend = causes.Bend

-- what is asked before it
abbrev pub one_before : Fault → Option Fault
one_before Width = None
one_before Rise = Some Width
one_before Bend = Some Rise

pub caused : (f : Fault) → number_of (cause_of f) ≡ fault_number f
caused Width = refl
caused Rise = refl
caused Bend = refl

pub one_less : (f e : Fault) → Some e ≡ one_before f → (3 < fault_number f) × (fault_number e ≡ fault_number f - 1)
one_less Width e p = absurd cc
one_less Rise Width p = (omega arith, refl)
one_less Rise Rise p = absurd cc
one_less Rise Bend p = absurd cc
one_less Bend Width p = absurd cc
one_less Bend Rise p = (omega arith, refl)
one_less Bend Bend p = absurd cc

pub the_first : (f : Fault) → None ≡ one_before f → 3 < fault_number f → ⊥
the_first Width p l = omega (arith, l)
the_first Rise p l = absurd cc
the_first Bend p l = absurd cc

-- the points that are asked: as they are, or as they would be after a change
abbrev pub knots_of : Option Change → List ℤ → List ℤ
knots_of None ks = ks
knots_of (Some c) ks = set ks c.point c.knot

abbrev pub values_of : Option Change → List ℤ → List ℤ
values_of None vs = vs
values_of (Some c) vs = set vs c.point c.value

abbrev pub asked : Option Change → Table → Table
asked p t = table t.s (knots_of p t.knots) (values_of p t.values) t.slopes

pub as_many : (p : Option Change) (t : Table) → point_count (asked p t) ≡ point_count t
as_many None t = refl
as_many (Some c) t = length-set t.knots c.point c.knot

-- the causes of a piece are 3, 4 and 5
pub record Askable (last : ℕ) : Type 0 where
  pub low : 3 ≤ last
  pub high : last ≤ 5

pub askable : (f : Fault) → Askable (fault_number f)
askable Width = record { low = omega arith; high = omega arith }
askable Rise = record { low = omega arith; high = omega arith }
askable Bend = record { low = omega arith; high = omega arith }

-- n numbers from a on, as an order of causes
abbrev pub numbers : (a n : ℕ) → List ℕ
numbers a zero = []
numbers a (suc n) = a ∷ numbers (suc a) n

-- the slope at point i, where a bend is asked for
pub record SlopeFor (last : ℕ) (slopes : List ℤ) (i : ℕ) (m : ℤ) : Type 0 where
  pub is : 5 ≤ last → m ≡ entry slopes i

-- a number of 32 bits as it is read
pub record Read (x r : ℤ) : Type 0 where
  pub is : r ≡ x
  pub within : Within 2147483648 r

pub as_read : {x r : ℤ} → mag r < 2 ^ 63 → Read x r → Read x (to_z w64 (of_z w64 r))
as_read {x} ok = subst (Read x) (sym (to_z-of_z {w = w64} (record { sfits = ok })))

-- a list with a new entry as it came in
pub as_it_came : (list : List ℤ) (at : ℕ) {new : ℤ} → SFits w32 new → set list at (to_z w32 (of_z w32 new)) ≡ set list at new
as_it_came list at f = ap (set list at) (to_z-of_z f)

-- point i
pub record EndAt (knots values slopes : List ℤ) (last i : ℕ) (knot value slope : ℤ) : Type 0 where
  pub knot_read : Read (entry knots i) knot
  pub value_read : Read (entry values i) value
  pub slope_read : SlopeFor last slopes i slope

module _ (H : ℕ → ℕ → Type 0) where
  -- none of the causes from 3 up to `last` holds at the place
  abbrev pub SoundAt : (last i : ℕ) → Type 0
  SoundAt last i = (c : ℕ) → 3 ≤ c → c ≤ last → H c i → ⊥

  -- the first of them that holds there, or 0
  pub data FaultAt (last i : ℕ) : ℕ → Type 0 where
    sound : SoundAt last i → FaultAt last i 0
    faulty : {c : ℕ} → 3 ≤ suc c → suc c ≤ last → H (suc c) i → SoundAt c i → FaultAt last i (suc c)

  pub is_sound : {last i n : ℕ} → n ≡ 0 → FaultAt last i n → SoundAt last i
  is_sound e (sound s) = s
  is_sound e (faulty a b h s) = absurd (omega (arith, e))

  -- the first place, `from` or after it, at which one does, and the first of them there; or 0 at place 0
  pub data Scanned (last from : ℕ) : ℕ → ℕ → Type 0 where
    clean : ((q : ℕ) → from ≤ q → SoundAt last q) → Scanned last from 0 0
    found : {c p : ℕ} → from ≤ p → FaultAt last p (suc c) → ((q : ℕ) → from ≤ q → q < p → SoundAt last q) → Scanned last from (suc c) p
