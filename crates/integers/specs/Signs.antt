-- Magnitudes and signs: of a number on one side of 0, and of two whose product is above 0.
use Rattle.std.specs.Prelude.{◌≡◌, refl, [], ℕ, zero, suc, ◌*◌, ℤ, pos, negsuc, neg_ℤ, ◌*ℤ◌, ◌≤ℤ◌, ◌<ℤ◌}
use Rattle.std.proofs.Common.{sym, ap, arith}
use Rattle.integers.specs.Promise.{magnitude, with_sign}
use Rattle.integers.specs.Parts.{<_from, <_to}
use Rattle.integers.specs.Linear.{lin, says}
use Rattle.integers.specs.Order.{0<_suc, 0≤_number, minus_product}
use Rattle.integers.specs.Within.{nat_abs_minus}

-- ---- one number

pub magnitude_up : (x : ℤ) → pos 0 ≤ℤ x → magnitude x ≡ x
magnitude_up (pos n) h = refl
magnitude_up (negsuc n) h = absurd h.le

pub magnitude_down : (x : ℤ) → x <ℤ pos 0 → magnitude x ≡ neg_ℤ x
magnitude_down (pos n) h = absurd (omega (arith, <_to (pos n) (pos 0) h))
magnitude_down (negsuc n) h = refl

pub sign_up : (s x : ℤ) → pos 0 ≤ℤ s → with_sign s x ≡ x
sign_up (pos n) x h = refl
sign_up (negsuc n) x h = absurd h.le

pub sign_down : (s x : ℤ) → s <ℤ pos 0 → with_sign s x ≡ neg_ℤ x
sign_down (pos n) x h = absurd (omega (arith, <_to (pos n) (pos 0) h))
sign_down (negsuc n) x h = refl

-- turned over, it is as large
pub magnitude_minus : (x : ℤ) → magnitude (neg_ℤ x) ≡ magnitude x
magnitude_minus x = ap pos (nat_abs_minus x)

-- a multiple of its magnitude, with its sign
pub signed_multiple : (k x : ℤ) → with_sign x (k *ℤ magnitude x) ≡ k *ℤ x
signed_multiple k (pos n) = refl
signed_multiple k (negsuc n) = sym (minus_product k (pos (suc n)))

-- three ways: above 0, below it, or 0
pub by_sign : {X : Type 0} (x : ℤ) → (pos 0 <ℤ x → X) → (x <ℤ pos 0 → X) → (x ≡ pos 0 → X) → X
by_sign (pos zero) up down level = level refl
by_sign (pos (suc n)) up down level = up (0<_suc n)
by_sign (negsuc n) up down level = down (<_from (negsuc n) (pos 0) (omega arith))

-- ---- two numbers

not_below : (n : ℕ) → pos 0 <ℤ neg_ℤ (pos n) → ⊥
not_below n = lin [] (search says depth 30 fits 9000) (omega arith)

-- neither is 0
pub 0<_magnitude : (x y : ℤ) → pos 0 <ℤ (x *ℤ y) → pos 0 <ℤ magnitude x
0<_magnitude (pos zero) (pos b) h = absurd (nothing b h)
  where
    nothing : (b : ℕ) → pos 0 <ℤ pos (0 * b) → ⊥
    nothing b = lin [] (search says depth 30 fits 9000) (omega arith)
0<_magnitude (pos zero) (negsuc b) h = absurd (not_below (0 * suc b) h)
0<_magnitude (pos (suc a)) y h = 0<_suc a
0<_magnitude (negsuc a) y h = 0<_suc a

-- both are on one side of 0
pub same_sign : (x y : ℤ) → pos 0 <ℤ (x *ℤ y) → (m : ℤ) → with_sign x m ≡ with_sign y m
same_sign (pos a) (pos b) h m = refl
same_sign (pos a) (negsuc b) h m = absurd (not_below (a * suc b) h)
same_sign (negsuc a) (pos b) h m = absurd (not_below (suc a * b) h)
same_sign (negsuc a) (negsuc b) h m = refl

pub other_up : (x y : ℤ) → pos 0 <ℤ (x *ℤ y) → pos 0 ≤ℤ x → pos 0 ≤ℤ y
other_up (pos a) (pos b) h p = 0≤_number b
other_up (pos a) (negsuc b) h p = absurd (not_below (a * suc b) h)
other_up (negsuc a) y h p = absurd p.le

pub other_down : (x y : ℤ) → pos 0 <ℤ (x *ℤ y) → x <ℤ pos 0 → y <ℤ pos 0
other_down (pos a) y h p = absurd (omega (arith, <_to (pos a) (pos 0) p))
other_down (negsuc a) (pos b) h p = absurd (not_below (suc a * b) h)
other_down (negsuc a) (negsuc b) h p = <_from (negsuc b) (pos 0) (omega arith)
