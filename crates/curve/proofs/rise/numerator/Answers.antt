-- 19·2^58 bounds the last step.
use Rattle.std.specs.Prelude.{refl, List, [], ◌∷◌, ℤ, pos}
use Rattle.std.proofs.Common.{◌∙◌}
use Rattle.integers.specs.Promise.{Between}
use Rattle.integers.specs.Sizes.{Known, known, fits, plain_is, code}
use Rattle.rules.specs.Known.{known_width, known_inside}
use Rattle.rules.specs.Limits.{WidthWithin}
use Rattle.piece.specs.declared.Cubic.{Cubic}
use Rattle.curve.specs.Sizes.{Small}
use Rattle.curve.proofs.rise.numerator.Goals as goal

-- what the caller says of the numbers
abbrev given : (c : Cubic) {t h : ℤ} → Small c.first c.second c.third → WidthWithin h → Between (pos 0) t h → List Known
given c {t} {h} s w b = known c.first _ s.one ∷ known c.second _ s.two ∷ known c.third _ s.three ∷ known_width h w ∷ known_inside t w b ∷ []

pub overflow_add-result : goal.overflow_add-result
overflow_add-result c = let r = c.requires in fits (given c.args.cubic r.small r.width_within r.between) (search code depth 30 fits 9000) tt

pub overflow_mul-result-3 : goal.overflow_mul-result-3
overflow_mul-result-3 c = let r = c.requires in fits (given c.args.cubic r.small r.width_within r.between) (search code depth 30 fits 9000) tt

pub overflow_mul-result-5 : goal.overflow_mul-result-5
overflow_mul-result-5 c = let r = c.requires in fits (given c.args.cubic r.small r.width_within r.between) (search code depth 30 fits 9000) tt

pub overflow_add-result-2 : goal.overflow_add-result-2
overflow_add-result-2 c = let r = c.requires in fits (given c.args.cubic r.small r.width_within r.between) (search code depth 30 fits 9000) tt

pub overflow_mul-result-6 : goal.overflow_mul-result-6
overflow_mul-result-6 c = let r = c.requires in fits (given c.args.cubic r.small r.width_within r.between) (search code depth 30 fits 9000) tt

-- `∙ refl` compares the plain value alone, so that another step is refused in plain sight
pub returns : goal.returns
returns c = let r = c.requires in plain_is {Γ = given c.args.cubic r.small r.width_within r.between} (search code depth 30 fits 9000) tt ∙ refl
