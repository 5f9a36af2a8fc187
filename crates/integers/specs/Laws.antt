-- The laws of ℤ's product that the kit lacks, by parts.
use mathlib.Core.Path.{◌≡◌, ◌∙◌}
use Rattle.std.specs.Prelude.{◌+◌, ℤ, pos, negsuc, neg_ℤ, ◌+ℤ◌, ◌-ℤ◌, ◌*ℤ◌}
use Rattle.std.proofs.Common.{arith}
use Rattle.std.proofs.Math.IntN.{*ℤ_comm}
use Rattle.integers.specs.Parts.{P, Q, diff_self, diff_add, diff_neg, diff_mul, times, from_parts, to_parts}

pub *ℤ_distribˡ : (x y z : ℤ) → x *ℤ (y +ℤ z) ≡ x *ℤ y +ℤ x *ℤ z
*ℤ_distribˡ x y z =
    let s = (diff_add (diff_self y) (diff_self z)).same in
    from_parts _ _
    (omega
    (arith, (diff_mul x (y +ℤ z)).same, times (P x) s, times (Q x) s, (diff_add (diff_mul x y) (diff_mul x z)).same))

pub *ℤ_assoc : (x y z : ℤ) → (x *ℤ y) *ℤ z ≡ x *ℤ (y *ℤ z)
*ℤ_assoc x y z =
    let l = (diff_mul x y).same in
    let r = (diff_mul y z).same in
    from_parts _ _
    (omega
    (arith, (diff_mul (x *ℤ y) z).same, (diff_mul x (y *ℤ z)).same, times (P z) l, times (Q z) l, times (P x) r, times (Q x) r))

pub *ℤ_distribʳ : (x y z : ℤ) → (x +ℤ y) *ℤ z ≡ x *ℤ z +ℤ y *ℤ z
*ℤ_distribʳ x y z =
    *ℤ_comm (x +ℤ y) z ∙ *ℤ_distribˡ z x y ∙ mathlib.Core.Path.ap₂ ◌+ℤ◌ (*ℤ_comm z x) (*ℤ_comm z y)

pub *ℤ_one : (x : ℤ) → x *ℤ pos 1 ≡ x
*ℤ_one x = from_parts _ _ (omega (arith, (diff_mul x (pos 1)).same))

pub *ℤ_minus : (x : ℤ) → negsuc 0 *ℤ x ≡ neg_ℤ x
*ℤ_minus x = from_parts _ _ (omega (arith, (diff_mul (negsuc 0) x).same, (diff_neg (diff_self x)).same))

pub +ℤ_swap : (a b c d : ℤ) → (a +ℤ b) +ℤ (c +ℤ d) ≡ (a +ℤ c) +ℤ (b +ℤ d)
+ℤ_swap a b c d = from_parts _ _ (omega (arith, sum a b c d, sum a c b d))
  where
    sum : (a b c d : ℤ) → P ((a +ℤ b) +ℤ (c +ℤ d)) + ((Q a + Q b) + (Q c + Q d)) ≡ (P a + P b) + (P c + P d) + Q ((a +ℤ b) +ℤ (c +ℤ d))
    sum a b c d = (diff_add (diff_add (diff_self a) (diff_self b)) (diff_add (diff_self c) (diff_self d))).same

pub equal_of_gap : (x y : ℤ) → x -ℤ y ≡ pos 0 → x ≡ y
equal_of_gap x y h = from_parts _ _ (omega (arith, (diff_add (diff_self x) (diff_neg (diff_self y))).same, to_parts h))
