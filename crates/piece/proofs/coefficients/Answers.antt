-- Within the limits each step stays below 2^44.
use Rattle.std.specs.Prelude.{refl, List, [], ◌∷◌, ℤ}
use Rattle.std.proofs.Common.{◌∙◌}
use Rattle.std.specs.Int.{w32}
use Rattle.integers.specs.Sizes.{Known, known, held, fits, plain_is, code}
use Rattle.integers.specs.Arguments.{arguments, plainly₅}
use Rattle.rules.specs.Known.{known_unit, known_width, known_rise}
use Rattle.piece.specs.declared.Units.{Units}
use Rattle.piece.specs.Sizes.{Moderate}
use Rattle.piece.specs.Cubic.{UnitsOf, of_units}
use Rattle.piece.proofs.coefficients.Goals as goal

abbrev made : (u : Units) → Moderate u.rise u.a u.b → List Known
made u m = known u.rise _ m.rise ∷ known u.a _ m.start ∷ known u.b _ m.end ∷ []

pub overflow_mul-result-2 : goal.overflow_mul-result-2
overflow_mul-result-2 c = fits (made c.in_units-rise.result c.in_units-rise.ensures.moderate) (search code depth 30 fits 9000) tt

pub overflow_sub-result : goal.overflow_sub-result
overflow_sub-result c = fits (made c.in_units-rise.result c.in_units-rise.ensures.moderate) (search code depth 30 fits 9000) tt

pub overflow_sub-result-2 : goal.overflow_sub-result-2
overflow_sub-result-2 c = fits (made c.in_units-rise.result c.in_units-rise.ensures.moderate) (search code depth 30 fits 9000) tt

pub overflow_add-result : goal.overflow_add-result
overflow_add-result c = fits (made c.in_units-rise.result c.in_units-rise.ensures.moderate) (search code depth 30 fits 9000) tt

pub overflow_mul-result-3 : goal.overflow_mul-result-3
overflow_mul-result-3 c = fits (made c.in_units-rise.result c.in_units-rise.ensures.moderate) (search code depth 30 fits 9000) tt

pub overflow_sub-result-3 : goal.overflow_sub-result-3
overflow_sub-result-3 c = fits (made c.in_units-rise.result c.in_units-rise.ensures.moderate) (search code depth 30 fits 9000) tt

-- `∙ refl` compares the plain value alone, so that another coefficient is refused in plain sight
pub returns : goal.returns
returns c =
    let r = c.in_units-rise.result in
    let Γ = made r c.in_units-rise.ensures.moderate in
    let given = known_unit c.args.unit.size c.args.unit.within ∷ known_width c.args.extent.h c.args.extent.width ∷ known_rise c.args.extent.z c.args.extent.rise ∷ held w32 c.args.m c.ranges.m ∷ held w32 c.args.n c.ranges.n ∷ [] in
    of_units (plainly₅ given (λ (U h z m n : ℤ). UnitsOf U h z m n r.rise r.a r.b) c.in_units-rise.ensures.units_of (search code depth 30 fits 9000) (search arguments depth 30 fits 9000) tt)
    (plain_is {Γ = Γ} (search code depth 30 fits 9000) tt) (plain_is {Γ = Γ} (search code depth 30 fits 9000) tt ∙ refl) (plain_is {Γ = Γ} (search code depth 30 fits 9000) tt)
