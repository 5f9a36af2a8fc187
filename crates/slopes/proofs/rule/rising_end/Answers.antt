-- Each way through the code is one case of the rule for an end piece that does not fall, and every step fits.
use Rattle.std.specs.Prelude.{◌≡◌, ℤ, pos, ◌*ℤ◌, ◌≤ℤ◌, ◌<ℤ◌}
use Rattle.std.proofs.Common.{◌∙◌, to_z-of_z}
use Rattle.std.specs.Int.{w64}
use Rattle.std.specs.Int.Signed.{quot_z}
use Rattle.integers.specs.Order.{<ℤ→≤ℤ, 0<→1≤, 0≤_number, 0≤_product}
use Rattle.integers.specs.Division.{positive_bits, quot_toward, toward_floor}
use Rattle.integers.specs.Sizes.{fits, plain_is, code}
use Rattle.integers.specs.Tests.{tests, passed, passed_at_most, failed, zeros, not_zero}
use Rattle.cubic.specs.Slopes.{end_above, end_below, end_slope}
use Rattle.cubic.proofs.End.{0<_end_below, rising_level, rising_bound, rising_quotient}
use Rattle.rules.specs.declared.limits.SlopeUnit.{SlopeUnit}
use Rattle.rules.specs.declared.limits.Extent.{Extent}
use Rattle.rules.specs.Known.{0<_unit, 0<_width}
use Rattle.slopes.specs.Sizes.{beside, end_within, slope_fits}
use Rattle.slopes.proofs.rule.rising_end.Goals as goal

-- beside an end piece that does not fall
module _ (unit : SlopeUnit) (first next : Extent) (up : pos 0 ≤ℤ first.z) where
  abbrev above : ℤ
  above = end_above first.h first.z next.h next.z

  abbrev below : ℤ
  below = end_below first.h next.h

  abbrev slope : ℤ
  slope = end_slope unit.size first.h first.z next.h next.z

  is_level : above ≤ℤ pos 0 → pos 0 ≡ slope
  is_level = rising_level (0<_unit unit.within) (0<_width first.width) (0<_width next.width) up next.z

  is_bound : (pos 3 *ℤ first.z *ℤ below) <ℤ (above *ℤ first.h) → quot_z (unit.size *ℤ (pos 3 *ℤ first.z)) first.h ≡ slope
  is_bound beyond =
      quot_toward (unit.size *ℤ (pos 3 *ℤ first.z)) first.width.low
      ∙ toward_floor first.h (0≤_product (<ℤ→≤ℤ (0<_unit unit.within)) (0≤_product (0≤_number 3) up))
      ∙ rising_bound (0<_unit unit.within) (0<_width first.width) (0<_width next.width) up next.z beyond

  divisor : pos 1 ≤ℤ below
  divisor = 0<→1≤ (0<_end_below (0<_width first.width) (0<_width next.width))

  is_quotient : pos 0 <ℤ above → (above *ℤ first.h) ≤ℤ (pos 3 *ℤ first.z *ℤ below) → quot_z (unit.size *ℤ above) below ≡ slope
  is_quotient a b =
      quot_toward (unit.size *ℤ above) divisor
      ∙ toward_floor below (0≤_product (<ℤ→≤ℤ (0<_unit unit.within)) (<ℤ→≤ℤ a))
      ∙ rising_quotient (0<_unit unit.within) (0<_width first.width) (0<_width next.width) up next.z a b

pub overflow_mul-above-2 : goal.overflow_mul-above-2
overflow_mul-above-2 c = fits (beside c.args.unit c.args.first c.args.next) (search code depth 30 fits 9000) tt

pub overflow_mul-above-3 : goal.overflow_mul-above-3
overflow_mul-above-3 c = fits (beside c.args.unit c.args.first c.args.next) (search code depth 30 fits 9000) tt

pub overflow_mul-above-4 : goal.overflow_mul-above-4
overflow_mul-above-4 c = fits (beside c.args.unit c.args.first c.args.next) (search code depth 30 fits 9000) tt

pub overflow_mul-above-5 : goal.overflow_mul-above-5
overflow_mul-above-5 c = fits (beside c.args.unit c.args.first c.args.next) (search code depth 30 fits 9000) tt

pub overflow_sub-above : goal.overflow_sub-above
overflow_sub-above c = fits (beside c.args.unit c.args.first c.args.next) (search code depth 30 fits 9000) tt

pub returns-then-above-le0 : goal.returns-then-above-le0
returns-then-above-le0 c =
    let a = c.args in
    is_level a.unit a.first a.next c.requires (passed_at_most (beside a.unit a.first a.next) c.if-above-le0.true (search tests depth 30 fits 9000) tt)

pub overflow_mul-below : goal.overflow_mul-below
overflow_mul-below c = fits (beside c.args.unit c.args.first c.args.next) (search code depth 30 fits 9000) tt

pub overflow_add-below : goal.overflow_add-below
overflow_add-below c = fits (beside c.args.unit c.args.first c.args.next) (search code depth 30 fits 9000) tt

pub overflow_mul-below-2 : goal.overflow_mul-below-2
overflow_mul-below-2 c = fits (beside c.args.unit c.args.first c.args.next) (search code depth 30 fits 9000) tt

pub overflow_mul-z1 : goal.overflow_mul-z1
overflow_mul-z1 c = fits (beside c.args.unit c.args.first c.args.next) (search code depth 30 fits 9000) tt

pub overflow_mul-z1-2 : goal.overflow_mul-z1-2
overflow_mul-z1-2 c = fits (beside c.args.unit c.args.first c.args.next) (search code depth 30 fits 9000) tt

pub overflow_mul-above-6 : goal.overflow_mul-above-6
overflow_mul-above-6 c = fits (beside c.args.unit c.args.first c.args.next) (search code depth 30 fits 9000) tt

pub overflow_mul-bound : goal.overflow_mul-bound
overflow_mul-bound c = fits (beside c.args.unit c.args.first c.args.next) (search code depth 30 fits 9000) tt

pub overflow_mul-bound-then-z1-below : goal.overflow_mul-bound-then-z1-below
overflow_mul-bound-then-z1-below c = fits (beside c.args.unit c.args.first c.args.next) (search code depth 30 fits 9000) tt

pub nonzero_div-bound : goal.nonzero_div-bound
nonzero_div-bound c = (positive_bits w64 c.args.first.width.low, fits (beside c.args.unit c.args.first c.args.next) (search code depth 30 fits 9000) tt)

pub overflow_cast-result : goal.overflow_cast-result
overflow_cast-result c = fits (beside c.args.unit c.args.first c.args.next) (search code depth 30 fits 9000) tt

pub returns-then-z1-below : goal.returns-then-z1-below
returns-then-z1-below c =
    let a = c.args in
    let Γ = beside a.unit a.first a.next in
    plain_is {Γ = Γ} (search code depth 30 fits 9000) tt ∙ is_bound a.unit a.first a.next c.requires (passed Γ c.if-z1-below.true (search tests depth 30 fits 9000) tt)

pub overflow_mul-quotient : goal.overflow_mul-quotient
overflow_mul-quotient c = fits (beside c.args.unit c.args.first c.args.next) (search code depth 30 fits 9000) tt

pub nonzero_div-quotient : goal.nonzero_div-quotient
nonzero_div-quotient c =
    let Γ = beside c.args.unit c.args.first c.args.next in
    (not_zero Γ (search zeros depth 30 fits 9000) tt (divisor c.args.unit c.args.first c.args.next c.requires), fits Γ (search code depth 30 fits 9000) tt)

pub overflow_cast-result-2 : goal.overflow_cast-result-2
overflow_cast-result-2 c =
    let a = c.args in
    let Γ = beside a.unit a.first a.next in
    slope_fits
    (plain_is {Γ = Γ} (search code depth 30 fits 9000) tt
    ∙ is_quotient a.unit a.first a.next c.requires (failed Γ c.if-above-le0.false (search tests depth 30 fits 9000) tt) (failed Γ c.if-z1-below.false (search tests depth 30 fits 9000) tt))
    (end_within a.unit a.first a.next)

pub returns : goal.returns
returns c =
    let a = c.args in
    let Γ = beside a.unit a.first a.next in
    to_z-of_z (overflow_cast-result-2 c)
    ∙ plain_is {Γ = Γ} (search code depth 30 fits 9000) tt
    ∙ is_quotient a.unit a.first a.next c.requires (failed Γ c.if-above-le0.false (search tests depth 30 fits 9000) tt) (failed Γ c.if-z1-below.false (search tests depth 30 fits 9000) tt)
