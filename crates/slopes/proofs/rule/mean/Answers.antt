-- Every step fits, and the quotient is at most three times the left piece's slope.
use Rattle.std.specs.Prelude.{◌≡◌, List, [], ◌∷◌, ℤ, pos, ◌+ℤ◌, ◌*ℤ◌, ◌≤ℤ◌, ◌<ℤ◌}
use Rattle.std.proofs.Common.{sym, ◌∙◌, ap, subst, to_z-of_z}
use Rattle.std.specs.Int.Signed.{quot_z}
use Rattle.integers.specs.Ring.{ring, quote}
use Rattle.integers.specs.Within.{Within}
use Rattle.integers.specs.Order.{<ℤ→≤ℤ, 0<→1≤, signs, positives}
use Rattle.integers.specs.Division.{quot_toward, toward_floor}
use Rattle.integers.specs.Sizes.{Known, known, fits, sized, plain_is, code}
use Rattle.integers.specs.Tests.{zeros, not_zero}
use Rattle.cubic.specs.Slopes.{mean_above, mean_below, mean}
use Rattle.rules.specs.declared.limits.SlopeUnit.{SlopeUnit}
use Rattle.rules.specs.declared.limits.Extent.{Extent}
use Rattle.rules.specs.Known.{0<_unit, 0<_width}
use Rattle.slopes.specs.Sizes.{beside, mean_within, slope_fits}
use Rattle.slopes.proofs.rule.mean.Goals as goal

-- the product of the rises is known too
module _ (unit : SlopeUnit) (left right : Extent) {both : ℤ} (product : both ≡ left.z *ℤ right.z) where
  product_size : Within 1099511627776 both
  product_size = subst (Within 1099511627776) (sym product) (sized (beside unit left right) (search code depth 30 fits 9000) tt)

  abbrev given : List Known
  given = known both 1099511627776 product_size ∷ beside unit left right

-- between two rises the sum below is above 0, and the code's quotient is the mean
module _ (unit : SlopeUnit) (left right : Extent) (up : pos 0 <ℤ left.z) (up_too : pos 0 <ℤ right.z) where
  divisor : pos 1 ≤ℤ mean_below left.h left.z right.h right.z
  divisor = let h₁ = 0<_width left.width in let h₂ = 0<_width right.width in 0<→1≤ (search positives depth 9 fits 9000)

  is_mean : {both : ℤ} → both ≡ left.z *ℤ right.z → quot_z (pos 3 *ℤ unit.size *ℤ (left.h +ℤ right.h) *ℤ both) (mean_below left.h left.z right.h right.z) ≡ mean unit.size left.h left.z right.h right.z
  is_mean product =
      let u = <ℤ→≤ℤ (0<_unit unit.within) in
      let h₁ = <ℤ→≤ℤ (0<_width left.width) in
      let z₁ = <ℤ→≤ℤ up in
      let h₂ = <ℤ→≤ℤ (0<_width right.width) in
      let z₂ = <ℤ→≤ℤ up_too in
      ap (λ (b : ℤ). quot_z (pos 3 *ℤ unit.size *ℤ (left.h +ℤ right.h) *ℤ b) (mean_below left.h left.z right.h right.z)) product
      ∙ ap (λ (n : ℤ). quot_z n (mean_below left.h left.z right.h right.z)) (ring (unit.size ∷ left.h ∷ left.z ∷ right.h ∷ right.z ∷ []) (search quote depth 30 fits 9000) tt)
      ∙ quot_toward (mean_above unit.size left.h left.z right.h right.z) divisor
      ∙ toward_floor (mean_below left.h left.z right.h right.z) (search signs depth 9 fits 9000)

  built : {m : ℤ} → m ≡ mean unit.size left.h left.z right.h right.z → record { value : m ≡ mean unit.size left.h left.z right.h right.z; size : Within 805306368 m }
  built e = record { value = e; size = subst (Within 805306368) (sym e) (mean_within unit left right up up_too) }

pub overflow_mul-above-2 : goal.overflow_mul-above-2
overflow_mul-above-2 c = fits (beside c.args.unit c.args.left c.args.right) (search code depth 30 fits 9000) tt

pub overflow_mul-above-3 : goal.overflow_mul-above-3
overflow_mul-above-3 c = fits (given c.args.unit c.args.left c.args.right c.requires.both) (search code depth 30 fits 9000) tt

pub overflow_mul-below-2 : goal.overflow_mul-below-2
overflow_mul-below-2 c = fits (beside c.args.unit c.args.left c.args.right) (search code depth 30 fits 9000) tt

pub overflow_mul-below-3 : goal.overflow_mul-below-3
overflow_mul-below-3 c = fits (beside c.args.unit c.args.left c.args.right) (search code depth 30 fits 9000) tt

pub overflow_mul-below-5 : goal.overflow_mul-below-5
overflow_mul-below-5 c = fits (beside c.args.unit c.args.left c.args.right) (search code depth 30 fits 9000) tt

pub overflow_mul-below-6 : goal.overflow_mul-below-6
overflow_mul-below-6 c = fits (beside c.args.unit c.args.left c.args.right) (search code depth 30 fits 9000) tt

pub overflow_add-below-3 : goal.overflow_add-below-3
overflow_add-below-3 c = fits (beside c.args.unit c.args.left c.args.right) (search code depth 30 fits 9000) tt

pub nonzero_div-steepness : goal.nonzero_div-steepness
nonzero_div-steepness c =
    let Γ = given c.args.unit c.args.left c.args.right c.requires.both in
    (not_zero Γ (search zeros depth 30 fits 9000) tt (divisor c.args.unit c.args.left c.args.right c.requires.left_rises c.requires.right_rises), fits Γ (search code depth 30 fits 9000) tt)

pub overflow_cast-result : goal.overflow_cast-result
overflow_cast-result c =
    let a = c.args in
    let r = c.requires in
    slope_fits (plain_is {Γ = given a.unit a.left a.right r.both} (search code depth 30 fits 9000) tt ∙ is_mean a.unit a.left a.right r.left_rises r.right_rises r.both) (mean_within a.unit a.left a.right r.left_rises r.right_rises)

pub returns : goal.returns
returns c =
    let a = c.args in
    let r = c.requires in
    built a.unit a.left a.right r.left_rises r.right_rises
    (to_z-of_z (overflow_cast-result c) ∙ plain_is {Γ = given a.unit a.left a.right r.both} (search code depth 30 fits 9000) tt ∙ is_mean a.unit a.left a.right r.left_rises r.right_rises r.both)
