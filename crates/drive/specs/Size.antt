-- What it is for a piece not to be too large: each step of its numerator is a whole number that a 64-bit float holds.
use Rattle.std.specs.Prelude.{◌≡◌, refl, Bool, not, ◌*◌, ◌^◌, ◌≤◌, ℤ, pos, negsuc, neg_ℤ, nat_abs, ◌*ℤ◌, ◌<ℤ◌}
use Rattle.std.proofs.Common.{sym, ap, subst, ⊎_elim, arith, le_refl, le_trans, mul-le-mul, lit≤}
use Rattle.integers.specs.Promise.{Between, Decided, holds, fails, magnitude}
use Rattle.integers.specs.Order.{≤_pos, ≤ℤ_or-<ℤ}
use Rattle.integers.specs.Decided.{beyond}
use Rattle.integers.specs.Within.{nat_abs_product, within_product}
use Rattle.integers.specs.Arguments.{same₄}
use Rattle.cubic.proofs.Small.{monotone_small}
use Rattle.cubic.specs.Horner.{HornerWithin}
use Rattle.cubic.proofs.Horner.{horner_within}
use Rattle.rules.specs.Limits.{WidthWithin, TooLarge}
use Rattle.rules.specs.Known.{unit_within_256}
use Rattle.piece.specs.Cubic.{Coefficients}
use Rattle.position.specs.InPiece.{InPiece}

-- |z|·h³ is the size of z·h³
size_is : (h z : ℤ) → WidthWithin h → magnitude (z *ℤ (h *ℤ h *ℤ h)) ≡ magnitude z *ℤ (h *ℤ h *ℤ h)
size_is (pos k) z w = ap pos (nat_abs_product z (pos (k * k * k)))
size_is (negsuc k) z w = absurd w.low.le

pub decided_by_size : (h z : ℤ) {b : Bool} → WidthWithin h → Decided (Between (neg_ℤ (pos (2 ^ 40))) (z *ℤ (h *ℤ h *ℤ h)) (pos (2 ^ 40))) b → Decided (TooLarge h z) (not b)
decided_by_size h z {b} w d = also (beyond (2 ^ 40) d)
  where
    also : {b : Bool} → Decided (pos (2 ^ 40) <ℤ magnitude (z *ℤ (h *ℤ h *ℤ h))) b → Decided (TooLarge h z) b
    also (holds l) = holds (record { above = subst (λ (v : ℤ). pos (2 ^ 40) <ℤ v) (size_is h z w) l })
    also (fails f) = fails (λ l. f (subst (λ (v : ℤ). pos (2 ^ 40) <ℤ v) (sym (size_is h z w)) l.above))

-- ---- the steps

width_size : (h : ℤ) → WidthWithin h → (1 ≤ nat_abs h) × (nat_abs h ≤ 1024)
width_size (pos k) w = (≤_pos w.low, ≤_pos w.high)
width_size (negsuc k) w = absurd w.low.le

cubed : (h z : ℤ) → WidthWithin h → (TooLarge h z → ⊥) → nat_abs z * (nat_abs h * nat_abs h * nat_abs h) ≤ 2 ^ 40
cubed (pos k) z w f = ⊎_elim ≤_pos (λ l. absurd (f (record { above = l }))) (≤ℤ_or-<ℤ (magnitude z *ℤ (pos k *ℤ pos k *ℤ pos k)) (pos (2 ^ 40)))
cubed (negsuc k) z w f = absurd w.low.le

pub steps_exact : {U h z m n t first second third : ℤ} → InPiece U h z m n t → (TooLarge h z → ⊥) → Coefficients U h z m n first second third → HornerWithin (2 ^ 53) first second third t h
steps_exact {U} {h} {z} {m} {n} {t} o f c =
    let w = width_size h o.width in
    let size = cubed h z o.width f in
    let small = monotone_small {M = 256 * nat_abs z} o.monotone (within_product (unit_within_256 o.unit) (record { size = le_refl (nat_abs z) })) in
    same₄ (λ (first second third _ : ℤ). HornerWithin (2 ^ 53) first second third t h) {u = t} (sym c.first_is) (sym c.second_is) (sym c.third_is) refl
    (horner_within {H = nat_abs h} small o.place.low o.place.high (record { size = le_refl (nat_abs h) }) w.0 (le_trans (mul-le-mul w.1 w.1) (lit≤ tt))
    (omega (arith, size)))
