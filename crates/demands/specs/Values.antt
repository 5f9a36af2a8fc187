-- What the demands call nearest to the exact value is what is promised: the left value plus one quotient, rounded, both ways.
use Rattle.std.specs.Prelude.{◌≡◌, [], ◌∷◌, ℕ, suc, ℤ, pos, negsuc, neg_ℤ, ◌+ℤ◌, ◌-ℤ◌, ◌*ℤ◌, ◌≤ℤ◌, ◌<ℤ◌}
use Rattle.std.proofs.Common.{sym, subst, ⊎_elim, arith}
use Rattle.integers.specs.Promise.{Nearest, magnitude}
use Rattle.integers.specs.Linear.{lin, says}
use Rattle.integers.specs.Order.{0≤_number, <ℤ→≤ℤ, ≤ℤ_antisym, ≤ℤ_or-<ℤ}
use Rattle.integers.specs.Nearest.{nearest_of_lem, nearest_unique}
use Rattle.cubic.specs.Value.{numerator, denominator}
use Rattle.cubic.proofs.Rounded.{0<_denominator}
use Rattle.rules.specs.Limits.{unit, UnitWithin, WidthWithin}
use Rattle.rules.specs.Known.{unit_size, 0<_unit, 0<_width}
use Rattle.table.specs.Table.{Table, entry}
use Rattle.table.specs.Accepted.{PointsWithin}
use Rattle.position.specs.Pieces.{within_list}
use Rattle.curve.specs.Curve.{risen_on, ValueAt}
use Rattle.demands.specs.Demands.{NearestToExact, ExactRounded}

-- ---- twice a distance from n/d, times d: it is at most d in size and, if it is d, positive

strictly : (x d : ℤ) → x ≤ℤ d → (x ≡ d → ⊥) → x <ℤ d
strictly x d l f = ⊎_elim (λ m. absurd (f (≤ℤ_antisym l m))) (λ m. m) (≤ℤ_or-<ℤ d x)

to_size : (x : ℤ) {d : ℤ} → x ≤ℤ d → neg_ℤ x <ℤ d → (magnitude x ≤ℤ d) × (magnitude x ≡ d → pos 0 <ℤ x)
to_size (pos n) {d} l m = (l, λ e. above (pos n) d e m)
  where
    above : (x d : ℤ) → x ≡ d → neg_ℤ x <ℤ d → pos 0 <ℤ x
    above x d = lin (x ∷ d ∷ []) (search says depth 30 fits 9000) (omega arith)
to_size (negsuc n) {d} l m = (<ℤ→≤ℤ m, λ e. absurd (never (pos (suc n)) d e m))
  where
    never : (x d : ℤ) → x ≡ d → x <ℤ d → ⊥
    never x d = lin (x ∷ d ∷ []) (search says depth 30 fits 9000) (omega arith)

from_size : (x : ℤ) {d : ℤ} → pos 0 <ℤ d → magnitude x ≤ℤ d → (magnitude x ≡ d → pos 0 <ℤ x) → (x ≤ℤ d) × (neg_ℤ x <ℤ d)
from_size (pos n) {d} h l f = (l, below_it (pos n) d h (0≤_number n))
  where
    below_it : (x d : ℤ) → pos 0 <ℤ d → pos 0 ≤ℤ x → neg_ℤ x <ℤ d
    below_it x d = lin (x ∷ d ∷ []) (search says depth 30 fits 9000) (omega arith)
from_size (negsuc n) {d} h l f = (at_most_it (pos (suc n)) d h (0≤_number (suc n)), strictly (pos (suc n)) d l (λ e. (f e).lt))
  where
    at_most_it : (x d : ℤ) → pos 0 <ℤ d → pos 0 ≤ℤ x → neg_ℤ x ≤ℤ d
    at_most_it x d = lin (x ∷ d ∷ []) (search says depth 30 fits 9000) (omega arith)

-- ---- so of a piece

minus : (x y : ℤ) → neg_ℤ (pos 2 *ℤ (x -ℤ y)) ≡ pos 2 *ℤ (y -ℤ x)
minus x y = lin (x ∷ y ∷ []) (search says depth 30 fits 9000) (omega arith)

so_once : (x : ℤ) → pos 0 <ℤ (pos 2 *ℤ x) → pos 0 <ℤ x
so_once x = lin (x ∷ []) (search says depth 30 fits 9000) (omega arith)

so_twice : (x : ℤ) → pos 0 <ℤ x → pos 0 <ℤ (pos 2 *ℤ x)
so_twice x = lin (x ∷ []) (search says depth 30 fits 9000) (omega arith)

module _ (U h z m n left t v : ℤ) where
  to_exact : Nearest (numerator U h z m n t) (denominator U h) (v -ℤ left) → NearestToExact U h z m n left t v
  to_exact e =
      let x = (v -ℤ left) *ℤ denominator U h in
      let y = numerator U h z m n t in
      let s = to_size (pos 2 *ℤ (x -ℤ y)) e.above (subst (λ (w : ℤ). w <ℤ denominator U h) (sym (minus x y)) e.below) in
      record { at_most_a_half_away = s.0; a_half_goes_up = λ g. so_once (x -ℤ y) (s.1 g) }

  from_exact : pos 0 <ℤ denominator U h → NearestToExact U h z m n left t v → Nearest (numerator U h z m n t) (denominator U h) (v -ℤ left)
  from_exact d₀ e =
      let x = (v -ℤ left) *ℤ denominator U h in
      let y = numerator U h z m n t in
      let s = from_size (pos 2 *ℤ (x -ℤ y)) d₀ e.at_most_a_half_away (λ g. so_twice (x -ℤ y) (e.a_half_goes_up g)) in
      record { above = s.0; below = subst (λ (w : ℤ). w <ℤ denominator U h) (minus x y) s.1 }

-- ---- and of a table whose unit and points are within the limits

positive : {s : ℕ} {h : ℤ} → UnitWithin s → WidthWithin h → pos 0 <ℤ denominator (unit s) h
positive u w = 0<_denominator (0<_unit (unit_size u)) (0<_width w)

pub the_value_is_exact : {t : Table} {x v : ℤ} → UnitWithin t.s → PointsWithin t.knots t.values → ValueAt t x v → ExactRounded t x v
the_value_is_exact {t} {x} {v} u p a =
    record {
      piece = a.piece;
      belongs = a.belongs;
      nearest = to_exact _ _ _ _ _ _ _ _ (subst (Nearest _ _) (sym (less v (entry t.values a.piece) (risen_on t a.piece x) a.is)) (nearest_of_lem _ (positive u (p.widths a.piece (within_list a.belongs)))));
    }
  where
    less : (v l r : ℤ) → v ≡ l +ℤ r → v -ℤ l ≡ r
    less v l r = lin (v ∷ l ∷ r ∷ []) (search says depth 30 fits 9000) (omega arith)

pub the_exact_is_the_value : {t : Table} {x v : ℤ} → UnitWithin t.s → PointsWithin t.knots t.values → ExactRounded t x v → ValueAt t x v
the_exact_is_the_value {t} {x} {v} u p e =
    let d₀ = positive u (p.widths e.piece (within_list e.belongs)) in
    record {
      piece = e.piece;
      belongs = e.belongs;
      is = more v (entry t.values e.piece) (risen_on t e.piece x) (nearest_unique d₀ (from_exact _ _ _ _ _ _ _ _ d₀ e.nearest) (nearest_of_lem _ d₀));
    }
  where
    more : (v l r : ℤ) → v -ℤ l ≡ r → v ≡ l +ℤ r
    more v l r = lin (v ∷ l ∷ r ∷ []) (search says depth 30 fits 9000) (omega arith)
