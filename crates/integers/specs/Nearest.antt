-- The nearest whole number, a half going up: it is one floor, there is one only, and it keeps order, multiples and whole numbers added.
use Rattle.std.specs.Prelude.{◌≡◌, [], ◌∷◌, ℤ, pos, negsuc, ◌+ℤ◌, ◌-ℤ◌, ◌*ℤ◌, ◌≤ℤ◌, ◌<ℤ◌}
use Rattle.std.proofs.Common.{sym, ◌∙◌, subst, ⊎_elim, arith, div-add-mod', mod-lt}
use Rattle.std.specs.Int.Signed.{quot_z, lt_z_yes}
use Rattle.integers.specs.Promise.{Floor, Nearest, Rounded, nearest_of}
use Rattle.integers.specs.Ring.{ring, quote}
use Rattle.integers.specs.Linear.{lin, says}
use Rattle.integers.specs.Order.{at_most, less, pos-≤, 0≤_number, 0≤_gap, 0<_gap, 0≤_product, 0<_product, <ℤ→≤ℤ, ≤ℤ_or-<ℤ}
use Rattle.integers.specs.Division.{one_more, floor_of_lem, floor_mono, floor_unique, no_floor}

-- ---- it is the floor of 2n + d by 2d

two : {d : ℤ} → pos 0 <ℤ d → pos 0 <ℤ (pos 2 *ℤ d)
two h = 0<_product {x = pos 2} (lt_z_yes tt) h

to_floor : {n d q : ℤ} → Nearest n d q → Floor (pos 2 *ℤ n +ℤ d) (pos 2 *ℤ d) q
to_floor {n} {d} {q} e =
    record {
      low = at_most (d -ℤ pos 2 *ℤ (q *ℤ d -ℤ n)) (ring (n ∷ d ∷ q ∷ []) (search quote depth 30 fits 9000) tt) (0≤_gap e.above);
      high = less (d -ℤ pos 2 *ℤ (n -ℤ q *ℤ d)) (ring (n ∷ d ∷ q ∷ []) (search quote depth 30 fits 9000) tt) (0<_gap e.below);
    }

from_floor : {n d q : ℤ} → Floor (pos 2 *ℤ n +ℤ d) (pos 2 *ℤ d) q → Nearest n d q
from_floor {n} {d} {q} f =
    record {
      above = at_most (pos 2 *ℤ n +ℤ d -ℤ q *ℤ (pos 2 *ℤ d)) (ring (n ∷ d ∷ q ∷ []) (search quote depth 30 fits 9000) tt) (0≤_gap f.low);
      below = less ((q +ℤ pos 1) *ℤ (pos 2 *ℤ d) -ℤ (pos 2 *ℤ n +ℤ d)) (ring (n ∷ d ∷ q ∷ []) (search quote depth 30 fits 9000) tt) (0<_gap f.high);
    }

pub nearest_of_lem : (n : ℤ) {d : ℤ} → pos 0 <ℤ d → Nearest n d (nearest_of n d)
nearest_of_lem n h = from_floor (floor_of_lem _ (two h))

-- ---- it keeps the order, and there is one

pub nearest_mono : {m n d q r : ℤ} → pos 0 <ℤ d → m ≤ℤ n → Nearest m d q → Nearest n d r → q ≤ℤ r
nearest_mono {m} {n} {d} h l e f = floor_mono (two h) (both m n d l) (to_floor e) (to_floor f)
  where
    both : (m n d : ℤ) → m ≤ℤ n → (pos 2 *ℤ m +ℤ d) ≤ℤ (pos 2 *ℤ n +ℤ d)
    both m n d = lin (m ∷ n ∷ d ∷ []) (search says depth 30 fits 9000) (omega arith)

pub nearest_unique : {n d q r : ℤ} → pos 0 <ℤ d → Nearest n d q → Nearest n d r → q ≡ r
nearest_unique h e f = floor_unique (two h) (to_floor e) (to_floor f)

-- ---- whole numbers, a common factor, and a whole number added

pub nearest_whole : (q : ℤ) {d : ℤ} → pos 0 <ℤ d → Nearest (q *ℤ d) d q
nearest_whole q {d} h = let s = none (q *ℤ d) d h in record { above = s.0; below = s.1 }
  where
    none : (x d : ℤ) → pos 0 <ℤ d → ((pos 2 *ℤ (x -ℤ x)) ≤ℤ d) × ((pos 2 *ℤ (x -ℤ x)) <ℤ d)
    none x d = lin (x ∷ d ∷ []) (search says depth 30 fits 9000) (omega arith)

pub nearest_scale : {c n d q : ℤ} → pos 0 <ℤ c → Nearest n d q → Nearest (c *ℤ n) (c *ℤ d) q
nearest_scale {c} {n} {d} {q} h e =
    record {
      above = at_most (c *ℤ (d -ℤ pos 2 *ℤ (q *ℤ d -ℤ n))) (ring (c ∷ n ∷ d ∷ q ∷ []) (search quote depth 30 fits 9000) tt) (0≤_product (<ℤ→≤ℤ h) (0≤_gap e.above));
      below = less (c *ℤ (d -ℤ pos 2 *ℤ (n -ℤ q *ℤ d))) (ring (c ∷ n ∷ d ∷ q ∷ []) (search quote depth 30 fits 9000) tt) (0<_product h (0<_gap e.below));
    }

-- so the left value plus the quotient rounded is the whole rounded. It is not so of a half that goes away from zero, or to the even number.
pub nearest_shift : (k : ℤ) {n d q : ℤ} → Nearest n d q → Nearest (k *ℤ d +ℤ n) d (k +ℤ q)
nearest_shift k {n} {d} {q} e =
    record {
      above = at_most (d -ℤ pos 2 *ℤ (q *ℤ d -ℤ n)) (ring (k ∷ n ∷ d ∷ q ∷ []) (search quote depth 30 fits 9000) tt) (0≤_gap e.above);
      below = less (d -ℤ pos 2 *ℤ (n -ℤ q *ℤ d)) (ring (k ∷ n ∷ d ∷ q ∷ []) (search quote depth 30 fits 9000) tt) (0<_gap e.below);
    }

-- ---- the floor that the code takes: e is a half of d, rounded down

pub record Half (d e : ℤ) : Type 0 where
  pub low : pos 0 ≤ℤ e
  pub twice : (pos 2 *ℤ e) ≤ℤ d
  pub most : d ≤ℤ (pos 2 *ℤ e +ℤ pos 1)

pub half_of : {d : ℤ} → pos 1 ≤ℤ d → Half d (quot_z d (pos 2))
half_of {d = pos d} h =
    let e = div-add-mod' d 2 in
    let r = mod-lt d {m = 2} (omega arith) in
    record { low = 0≤_number _; twice = pos-≤ (omega arith); most = pos-≤ (omega arith) }
half_of {d = negsuc d} h = absurd h.le

pub half_added : (n : ℤ) {d e q : ℤ} → Half d e → Floor (n +ℤ e) d q → Nearest n d q
half_added n {d} {e} {q} h f =
    let s = sides n d e (q *ℤ d) h.twice h.most f.low (subst (λ (v : ℤ). (n +ℤ e) <ℤ v) (sym (one_more q d)) f.high) in
    record { above = s.0; below = s.1 }
  where
    sides : (n d e x : ℤ) → (pos 2 *ℤ e) ≤ℤ d → d ≤ℤ (pos 2 *ℤ e +ℤ pos 1) → x ≤ℤ (n +ℤ e) → (n +ℤ e) <ℤ (x +ℤ d) → ((pos 2 *ℤ (x -ℤ n)) ≤ℤ d) × ((pos 2 *ℤ (n -ℤ x)) <ℤ d)
    sides n d e x = lin (n ∷ d ∷ e ∷ x ∷ []) (search says depth 30 fits 9000) (omega arith)

-- and where d is taken off n first
pub half_added_after : (n : ℤ) {d e q : ℤ} → Half d e → Floor (n -ℤ d +ℤ e) d q → Nearest n d (q +ℤ pos 1)
half_added_after n {d} {e} {q} h f =
    half_added n h
    (record {
      low = at_most (n -ℤ d +ℤ e -ℤ q *ℤ d) (ring (n ∷ d ∷ e ∷ q ∷ []) (search quote depth 30 fits 9000) tt) (0≤_gap f.low);
      high = less ((q +ℤ pos 1) *ℤ d -ℤ (n -ℤ d +ℤ e)) (ring (n ∷ d ∷ e ∷ q ∷ []) (search quote depth 30 fits 9000) tt) (0<_gap f.high);
    })

-- ---- for any d

pub rounded_is : (n d : ℤ) → Rounded n d (nearest_of n d)
rounded_is n d = record { nearest = nearest_of_lem n; otherwise = λ l. sym (no_floor (pos 2 *ℤ n +ℤ d) (less_than_1 d l)) }
  where
    less_than_1 : (d : ℤ) → d ≤ℤ pos 0 → (pos 2 *ℤ d) <ℤ pos 1
    less_than_1 d = lin (d ∷ []) (search says depth 30 fits 9000) (omega arith)

pub one_rounded : {n d q r : ℤ} → Rounded n d q → Rounded n d r → q ≡ r
one_rounded {d = d} e f = ⊎_elim (λ l. e.otherwise l ∙ sym (f.otherwise l)) (λ h. nearest_unique h (e.nearest h) (f.nearest h)) (≤ℤ_or-<ℤ d (pos 0))
