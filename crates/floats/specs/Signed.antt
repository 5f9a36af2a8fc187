-- A whole number by its sign and its size, as a float has it: a zero has either sign.
use Rattle.std.specs.Prelude.{◌≡◌, refl, [], ◌∷◌, Bool, true, false, ℕ, zero, suc, ◌+◌, ◌-◌, ◌*◌, ◌≤◌, ◌<◌, ℤ, pos, negsuc, neg_ℤ, nat_abs, ◌+ℤ◌, ◌*ℤ◌, T}
use Rattle.std.proofs.Common.{arith}
use Rattle.std.specs.Float.Ieee.{unlike}
use Rattle.integers.specs.Linear.{lin, says}
use Rattle.integers.specs.Ring.{ring, quote}
use Rattle.integers.specs.Within.{nat_abs_minus}
use Rattle.floats.specs.Promise.{negative}

abbrev pub signed : Bool → ℕ → ℤ
signed false k = pos k
signed true k = neg_ℤ (pos k)

pub size_of : (s : Bool) (k : ℕ) → nat_abs (signed s k) ≡ k
size_of false k = refl
size_of true k = nat_abs_minus (pos k)

-- every number is its size with its sign
pub own_sign : (n : ℤ) → n ≡ signed (negative n) (nat_abs n)
own_sign (pos n) = refl
own_sign (negsuc n) = refl

-- and that is the only sign that it has, unless it is 0 with the other
pub sign_of : (s : Bool) (k : ℕ) → (T s → 0 < k) → negative (signed s k) ≡ s
sign_of false k h = refl
sign_of true zero h = absurd (omega (arith, h tt))
sign_of true (suc k) h = refl

-- ---- a product: of unlike signs it is negative

pub signed_product : (s t : Bool) (k l : ℕ) → signed s k *ℤ signed t l ≡ signed (unlike s t) (k * l)
signed_product false false k l = refl
signed_product false true k l = second (pos k) (pos l)
  where
    second : (x y : ℤ) → x *ℤ neg_ℤ y ≡ neg_ℤ (x *ℤ y)
    second x y = ring (x ∷ y ∷ []) (search quote depth 30 fits 9000) tt
signed_product true false k l = first (pos k) (pos l)
  where
    first : (x y : ℤ) → neg_ℤ x *ℤ y ≡ neg_ℤ (x *ℤ y)
    first x y = ring (x ∷ y ∷ []) (search quote depth 30 fits 9000) tt
signed_product true true k l = both (pos k) (pos l)
  where
    both : (x y : ℤ) → neg_ℤ x *ℤ neg_ℤ y ≡ x *ℤ y
    both x y = ring (x ∷ y ∷ []) (search quote depth 30 fits 9000) tt

-- ---- a sum: of like signs it has both sizes, of unlike signs their difference and the sign of the larger

pub like_sum : (s : Bool) (k l : ℕ) → signed s k +ℤ signed s l ≡ signed s (k + l)
like_sum false k l = refl
like_sum true k l = both (pos k) (pos l)
  where
    both : (x y : ℤ) → neg_ℤ x +ℤ neg_ℤ y ≡ neg_ℤ (x +ℤ y)
    both x y = ring (x ∷ y ∷ []) (search quote depth 30 fits 9000) tt

-- the first is the larger, or they are equal
pub larger_first : (k l : ℕ) → l ≤ k → pos k +ℤ neg_ℤ (pos l) ≡ pos (k - l)
larger_first k l h = lin [] (search says depth 30 fits 9000) (omega arith)

pub larger_second : (k l : ℕ) → k ≤ l → pos k +ℤ neg_ℤ (pos l) ≡ neg_ℤ (pos (l - k))
larger_second k l h = lin [] (search says depth 30 fits 9000) (omega arith)
