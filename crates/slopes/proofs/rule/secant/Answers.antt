-- The machine rounds toward zero, and the quotient is no larger than the number divided.
use Rattle.std.specs.Prelude.{◌*ℤ◌}
use Rattle.std.proofs.Common.{◌∙◌}
use Rattle.integers.specs.Division.{quot_toward}
use Rattle.integers.specs.Sizes.{fits, plain_is, code}
use Rattle.slopes.specs.Sizes.{alone}
use Rattle.slopes.proofs.rule.secant.Goals as goal

pub overflow_mul-steepness : goal.overflow_mul-steepness
overflow_mul-steepness c = fits (alone c.args.unit c.args.only) (search code depth 30 fits 9000) tt

pub overflow_cast-result : goal.overflow_cast-result
overflow_cast-result c = fits (alone c.args.unit c.args.only) (search code depth 30 fits 9000) tt

pub returns : goal.returns
returns c =
    plain_is {Γ = alone c.args.unit c.args.only} (search code depth 30 fits 9000) tt
    ∙ quot_toward (c.args.unit.size *ℤ c.args.only.z) c.args.only.width.low
