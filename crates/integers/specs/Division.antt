-- Division of a signed number by a positive one, rounded down, and how the machine's division toward zero comes to it.
use Rattle.std.specs.Prelude.{◌≡◌, refl, [], ◌∷◌, ℕ, zero, suc, ◌+◌, ◌*◌, ◌/◌, ◌%◌, ◌≤◌, ◌<◌, ℤ, pos, negsuc, neg_ℤ, nat_abs, ◌+ℤ◌, ◌-ℤ◌, ◌*ℤ◌, ◌≤ℤ◌, ◌<ℤ◌}
use Rattle.std.proofs.Common.{sym, ◌∙◌, ap, subst, subst₂, zero-le, arith, div-add-mod', mod-lt, div-le_self, lt_of_le_of_lt, SFits, of_z}
use Rattle.std.proofs.Math.IntN.{*ℤ_comm}
use Rattle.std.specs.Int.Signed.{mag, quot_z, rem_z, mag_rem, ≤ℤ_refl}
use Rattle.std.specs.Int.{Width}
use Rattle.integers.specs.Promise.{Floor, floor_of, magnitude, with_sign, toward_zero}
use Rattle.integers.specs.Ring.{ring, quote}
use Rattle.integers.specs.Linear.{lin, says}
use Rattle.integers.specs.Order.{≤ℤ-<ℤ_trans, ≤ℤ_trans, ≤ℤ_antisym, <ℤ_cancel, minus_twice, pos-≤, 0≤_number, 0<_suc}
use Rattle.integers.specs.Within.{nat_abs_minus}
use Rattle.integers.specs.Parts.{≤_to, ≤_from, <_from, <_to, from_parts, diff_neg, diff_add, diff_self}

-- ---- order

-- rounding down keeps the order
pub floor_mono : {m n d q r : ℤ} → pos 0 <ℤ d → m ≤ℤ n → Floor m d q → Floor n d r → q ≤ℤ r
floor_mono {m} {n} {d} {q} {r} h l f g =
    below (<ℤ_cancel h (subst₂ ◌<ℤ◌ (*ℤ_comm q d) (*ℤ_comm (r +ℤ pos 1) d) (≤ℤ-<ℤ_trans (≤ℤ_trans f.low l) g.high)))
  where
    below : {q r : ℤ} → q <ℤ (r +ℤ pos 1) → q ≤ℤ r
    below {q} {r} = lin (q ∷ r ∷ []) (search says depth 30 fits 9000) (omega arith)

-- and there is one whole number that it gives
pub floor_unique : {n d q r : ℤ} → pos 0 <ℤ d → Floor n d q → Floor n d r → q ≡ r
floor_unique {n} h f g = ≤ℤ_antisym (floor_mono h (≤ℤ_refl n) f g) (floor_mono h (≤ℤ_refl n) g f)

-- ---- from the quotient toward zero

negated : (x y z : ℤ) → neg_ℤ (x *ℤ y +ℤ z) ≡ neg_ℤ x *ℤ y +ℤ neg_ℤ z
negated x y z = ring (x ∷ y ∷ z ∷ []) (search quote depth 30 fits 9000) tt

-- n = quotient·d + remainder
pub quot_rem : (n : ℤ) (d : ℕ) → n ≡ quot_z n (pos d) *ℤ pos d +ℤ rem_z n (pos d)
quot_rem (pos n) d = ap pos (sym (div-add-mod' n d))
quot_rem (negsuc n) d =
    ap (λ (v : ℕ). neg_ℤ (pos v)) (sym (div-add-mod' (suc n) d)) ∙ negated (pos (suc n / d)) (pos d) (pos (suc n % d))

-- the remainder is smaller than d either way
rem_small : (n : ℤ) (d : ℕ) → zero < d → (neg_ℤ (pos d) <ℤ rem_z n (pos d)) × (rem_z n (pos d) <ℤ pos d)
rem_small (pos n) d h =
    let r = mod-lt n h in
    (<_from (neg_ℤ (pos d)) (pos (n % d)) (omega (arith, (diff_neg (diff_self (pos d))).same)), <_from (pos (n % d)) (pos d) (omega arith))
rem_small (negsuc n) d h =
    let r = mod-lt (suc n) h in
    let m = (diff_neg (diff_self (pos (suc n % d)))).same in (
      <_from (neg_ℤ (pos d)) (neg_ℤ (pos (suc n % d))) (omega (arith, (diff_neg (diff_self (pos d))).same)),
      <_from (neg_ℤ (pos (suc n % d))) (pos d) (omega arith),
    )

pub one_more : (q d : ℤ) → q *ℤ d +ℤ d ≡ (q +ℤ pos 1) *ℤ d
one_more q d = ring (q ∷ d ∷ []) (search quote depth 30 fits 9000) tt

pub floor_exact : (n : ℤ) (d : ℕ) → zero < d → pos 0 ≤ℤ rem_z n (pos d) → Floor n (pos d) (quot_z n (pos d))
floor_exact n d h r =
    let q = quot_z n (pos d) in
    let s = sides (q *ℤ pos d) n (rem_z n (pos d)) (pos d) (quot_rem n d) r (rem_small n d h).1 in
    record { low = s.0; high = subst (λ (v : ℤ). n <ℤ v) (one_more q (pos d)) s.1 }
  where
    sides : (x n r d : ℤ) → n ≡ x +ℤ r → pos 0 ≤ℤ r → r <ℤ d → (x ≤ℤ n) × (n <ℤ (x +ℤ d))
    sides x n r d = lin (x ∷ n ∷ r ∷ d ∷ []) (search says depth 30 fits 9000) (omega arith)

pub floor_less : (n : ℤ) (d : ℕ) → zero < d → rem_z n (pos d) <ℤ pos 0 → Floor n (pos d) (quot_z n (pos d) -ℤ pos 1)
floor_less n d h r =
    let q = quot_z n (pos d) in
    let s = sides (q *ℤ pos d) n (rem_z n (pos d)) (pos d) (quot_rem n d) r (rem_small n d h).0 in
    record { low = subst (λ (v : ℤ). v ≤ℤ n) (one_less q (pos d)) s.0; high = subst (λ (v : ℤ). n <ℤ v) (back q (pos d)) s.1 }
  where
    sides : (x n r d : ℤ) → n ≡ x +ℤ r → r <ℤ pos 0 → neg_ℤ d <ℤ r → ((x -ℤ d) ≤ℤ n) × (n <ℤ x)
    sides x n r d = lin (x ∷ n ∷ r ∷ d ∷ []) (search says depth 30 fits 9000) (omega arith)

    one_less : (q d : ℤ) → q *ℤ d -ℤ d ≡ (q -ℤ pos 1) *ℤ d
    one_less q d = ring (q ∷ d ∷ []) (search quote depth 30 fits 9000) tt

    back : (q d : ℤ) → q *ℤ d ≡ (q -ℤ pos 1 +ℤ pos 1) *ℤ d
    back q d = ring (q ∷ d ∷ []) (search quote depth 30 fits 9000) tt

-- ---- the definition is the floor

pub floor_is : (n : ℤ) (d : ℕ) → Floor n (pos (suc d)) (floor_of n (pos (suc d)))
floor_is (pos n) d =
    let e = div-add-mod' n (suc d) in
    let r = mod-lt n {m = suc d} (omega arith) in
    record {
      low = pos-≤ (omega arith);
      high = <_from (pos n) (pos ((n / suc d + 1) * suc d)) (omega arith);
    }
floor_is (negsuc n) d =
    let e = div-add-mod' n (suc d) in
    let r = mod-lt n {m = suc d} (omega arith) in
    record {
      low = ≤_from (neg_ℤ (pos (suc (n / suc d) * suc d))) (negsuc n) (omega (arith, (diff_neg (diff_self (pos (suc (n / suc d) * suc d)))).same));
      high = subst (λ (v : ℤ). negsuc n <ℤ v) (sym (next (n / suc d) (suc d))) (<_from (negsuc n) (neg_ℤ (pos (n / suc d * suc d))) (omega (arith, (diff_neg (diff_self (pos (n / suc d * suc d)))).same)));
    }
  where
    next : (k d : ℕ) → (negsuc k +ℤ pos 1) *ℤ pos d ≡ neg_ℤ (pos (k * d))
    next k d = ap (λ (v : ℤ). v *ℤ pos d) (up k) ∙ sym (product (pos k) (pos d))
      where
        up : (k : ℕ) → negsuc k +ℤ pos 1 ≡ neg_ℤ (pos k)
        up k = from_parts _ _ (omega (arith, (diff_add (diff_self (negsuc k)) (diff_self (pos 1))).same, (diff_neg (diff_self (pos k))).same))

        product : (x y : ℤ) → neg_ℤ (x *ℤ y) ≡ neg_ℤ x *ℤ y
        product x y = ring (x ∷ y ∷ []) (search quote depth 30 fits 9000) tt

-- ---- sizes: neither the floor nor the quotient is larger than the number

pub mag_floor : (n d : ℤ) → mag (floor_of n d) ≤ mag n
mag_floor n (pos zero) = zero-le
mag_floor (pos n) (pos (suc d)) = div-le_self n (suc d)
mag_floor (negsuc n) (pos (suc d)) = div-le_self n (suc d)
mag_floor n (negsuc d) = zero-le

mag_minus : (m n : ℕ) → m ≤ suc n → mag (neg_ℤ (pos m)) ≤ n
mag_minus zero n h = zero-le
mag_minus (suc m) n h = omega arith

pub mag_quot : (n : ℤ) (d : ℕ) → mag (quot_z n (pos d)) ≤ mag n
mag_quot (pos n) d = div-le_self n d
mag_quot (negsuc n) d = mag_minus (suc n / d) n (div-le_self (suc n) d)

pub nat_abs_quot : (n d : ℤ) → nat_abs (quot_z n d) ≤ nat_abs n
nat_abs_quot (pos n) (pos d) = div-le_self n d
nat_abs_quot (pos n) (negsuc d) = subst (λ (m : ℕ). m ≤ n) (sym (nat_abs_minus (pos (n / suc d)))) (div-le_self n (suc d))
nat_abs_quot (negsuc n) (pos d) = subst (λ (m : ℕ). m ≤ suc n) (sym (nat_abs_minus (pos (suc n / d)))) (div-le_self (suc n) d)
nat_abs_quot (negsuc n) (negsuc d) = div-le_self (suc n) (suc d)

-- ---- what a proof of code cites, for any d ≥ 1

-- a divisor is not 0, seen at its bits
pub positive_bits : (w : Width) {d : ℤ} → pos 1 ≤ℤ d → zero < of_z w d
positive_bits w {d = pos d} h = omega (arith, ≤_to (pos 1) (pos d) h)
positive_bits w {d = negsuc d} h = absurd h.le

pub quot_fits : (w : Width) {n d : ℤ} → pos 1 ≤ℤ d → SFits w n → SFits w (quot_z n d)
quot_fits w {n} {d = pos d} h f = record { sfits = lt_of_le_of_lt (mag_quot n d) f.sfits }
quot_fits w {n} {d = negsuc d} h f = absurd h.le

pub rem_fits : (w : Width) {n : ℤ} (d : ℤ) → SFits w n → SFits w (rem_z n d)
rem_fits w {n} d f = record { sfits = lt_of_le_of_lt (mag_rem n d) f.sfits }

pub floor_fits : (w : Width) {n : ℤ} (d : ℤ) → SFits w n → SFits w (floor_of n d)
floor_fits w {n} d f = record { sfits = lt_of_le_of_lt (mag_floor n d) f.sfits }

pub quot_floor : (n : ℤ) {d : ℤ} → pos 1 ≤ℤ d → pos 0 ≤ℤ rem_z n d → quot_z n d ≡ floor_of n d
quot_floor n {d = pos zero} h r = absurd h.le
quot_floor n {d = pos (suc d)} h r = floor_unique {n = n} {d = pos (suc d)} (0<_suc d) (floor_exact n (suc d) (omega arith) r) (floor_is n d)
quot_floor n {d = negsuc d} h r = absurd h.le

pub less_floor : (n : ℤ) {d : ℤ} → pos 1 ≤ℤ d → rem_z n d <ℤ pos 0 → quot_z n d -ℤ pos 1 ≡ floor_of n d
less_floor n {d = pos zero} h r = absurd h.le
less_floor n {d = pos (suc d)} h r = floor_unique {n = n} {d = pos (suc d)} (0<_suc d) (floor_less n (suc d) (omega arith) r) (floor_is n d)
less_floor n {d = negsuc d} h r = absurd h.le

pub no_floor : (n : ℤ) {d : ℤ} → d <ℤ pos 1 → pos 0 ≡ floor_of n d
no_floor n {d = pos zero} h = refl
no_floor n {d = pos (suc d)} h = absurd (omega (arith, <_to (pos (suc d)) (pos 1) h))
no_floor n {d = negsuc d} h = refl

-- ---- toward zero

-- the machine's quotient is the one toward zero
pub quot_toward : (n : ℤ) {d : ℤ} → pos 1 ≤ℤ d → quot_z n d ≡ toward_zero n d
quot_toward n {d = pos zero} h = absurd h.le
quot_toward (pos n) {d = pos (suc d)} h = refl
quot_toward (negsuc n) {d = pos (suc d)} h = refl
quot_toward n {d = negsuc d} h = absurd h.le

-- a number with a positive factor
pub toward_scaled : {k : ℤ} → pos 0 <ℤ k → (z d : ℤ) → toward_zero (k *ℤ z) d ≡ with_sign z (floor_of (k *ℤ magnitude z) d)
toward_scaled {k = pos zero} h z d = absurd h.lt
toward_scaled {k = pos (suc k)} h (pos n) d = refl
toward_scaled {k = pos (suc k)} h (negsuc n) d = below (suc k * suc n) (omega arith)
  where
    below : (m : ℕ) → zero < m → toward_zero (neg_ℤ (pos m)) d ≡ neg_ℤ (floor_of (pos m) d)
    below zero l = absurd (omega (arith, l))
    below (suc m) l = refl
toward_scaled {k = negsuc k} h z d = absurd h.lt

-- and of a number that is not below 0 it is the floor
pub toward_floor : {n : ℤ} (d : ℤ) → pos 0 ≤ℤ n → toward_zero n d ≡ floor_of n d
toward_floor {n = pos n} d h = refl
toward_floor {n = negsuc n} d h = absurd h.le

-- ---- what a floor is at least and at most

pub 0≤_floor : {n : ℤ} (d : ℤ) → pos 0 ≤ℤ n → pos 0 ≤ℤ floor_of n d
0≤_floor {n = pos n} (pos zero) h = 0≤_number 0
0≤_floor {n = pos n} (pos (suc d)) h = 0≤_number _
0≤_floor {n = pos n} (negsuc d) h = 0≤_number 0
0≤_floor {n = negsuc n} d h = absurd h.le

pub floor_at_most : {n : ℤ} (d : ℤ) → pos 0 ≤ℤ n → floor_of n d ≤ℤ n
floor_at_most {n = pos n} (pos zero) h = 0≤_number n
floor_at_most {n = pos n} (pos (suc d)) h = pos-≤ (div-le_self n (suc d))
floor_at_most {n = pos n} (negsuc d) h = 0≤_number n
floor_at_most {n = negsuc n} d h = absurd h.le

pub floor_of_lem : (n : ℤ) {d : ℤ} → pos 0 <ℤ d → Floor n d (floor_of n d)
floor_of_lem n {d = pos zero} h = absurd h.lt
floor_of_lem n {d = pos (suc d)} h = floor_is n d
floor_of_lem n {d = negsuc d} h = absurd h.lt

pub floor_low : (n : ℤ) {d : ℤ} → pos 0 <ℤ d → (floor_of n d *ℤ d) ≤ℤ n
floor_low n h = (floor_of_lem n h).low

-- nothing, divided
pub floor_nothing : (d : ℤ) → floor_of (pos 0) d ≡ pos 0
floor_nothing d = ≤ℤ_antisym (floor_at_most d (0≤_number 0)) (0≤_floor d (0≤_number 0))

-- a number turned over, toward zero
pub toward_minus : (n d : ℤ) → toward_zero (neg_ℤ n) d ≡ neg_ℤ (toward_zero n d)
toward_minus (pos zero) d = floor_nothing d ∙ ap neg_ℤ (sym (floor_nothing d))
toward_minus (pos (suc n)) d = refl
toward_minus (negsuc n) d = sym (minus_twice (floor_of (pos (suc n)) d))
