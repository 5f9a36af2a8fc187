-- The verdict of a monotone piece, by the order of its rise and 0.
use Rattle.std.specs.Prelude.{◌≡◌, refl, ℕ, zero, suc, ℤ, pos, negsuc, ◌<ℤ◌}
use Rattle.std.proofs.Common.{ap, subst, not-suc-le-zero, ltb→lt}
use Rattle.cubic.specs.Piece.{Monotone}
use Rattle.rules.specs.Limits.{unit, UnitWithin, WidthWithin, RiseWithin}
use Rattle.piece.specs.Promise.{Finding, rising, falling, flat, ruling, leaning, Judged, monotone}

up : {z : ℤ} → pos 0 <ℤ z → leaning z ≡ rising
up {z = pos zero} h = absurd h.lt
up {z = pos (suc n)} h = refl
up {z = negsuc n} h = absurd h.lt

down : {z : ℤ} → z <ℤ pos 0 → leaning z ≡ falling
down {z = pos zero} h = absurd h.lt
down {z = pos (suc n)} h = absurd (not-suc-le-zero (ltb→lt (suc n) 0 h.lt))
down {z = negsuc n} h = refl

level : {z : ℤ} → z ≡ pos 0 → leaning z ≡ flat
level h = ap leaning h

module _ {s : ℕ} {h z m n : ℤ} (u : UnitWithin s) (w : WidthWithin h) (r : RiseWithin z) where
  pub is_rising : pos 0 <ℤ z → Monotone (unit s) h z m n → Judged s h z m n (ruling 0 0 rising)
  is_rising p k = subst (λ (v : Finding). Judged s h z m n (ruling 0 0 v)) (up p) (monotone u w r k)

  pub is_falling : z <ℤ pos 0 → Monotone (unit s) h z m n → Judged s h z m n (ruling 0 0 falling)
  is_falling p k = subst (λ (v : Finding). Judged s h z m n (ruling 0 0 v)) (down p) (monotone u w r k)

  pub is_flat : z ≡ pos 0 → Monotone (unit s) h z m n → Judged s h z m n (ruling 0 0 flat)
  is_flat p k = subst (λ (v : Finding). Judged s h z m n (ruling 0 0 v)) (level p) (monotone u w r k)
