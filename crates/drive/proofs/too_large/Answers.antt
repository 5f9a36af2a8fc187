-- The size of z·h³ is |z|·h³.
use Rattle.std.specs.Prelude.{List, [], ◌∷◌, ℤ}
use Rattle.integers.specs.Promise.{Between, Decided}
use Rattle.integers.specs.Sizes.{Known, fits, code}
use Rattle.integers.specs.Arguments.{arguments, plainly₃}
use Rattle.rules.specs.declared.limits.Extent.{Extent}
use Rattle.rules.specs.Known.{known_width, known_rise}
use Rattle.drive.specs.Size.{decided_by_size}
use Rattle.drive.proofs.too_large.Goals as goal

abbrev given : Extent → List Known
given e = known_width e.h e.width ∷ known_rise e.z e.rise ∷ []

pub overflow_mul-h : goal.overflow_mul-h
overflow_mul-h c = fits (given c.args.extent) (search code depth 30 fits 9000) tt

pub overflow_mul-h-2 : goal.overflow_mul-h-2
overflow_mul-h-2 c = fits (given c.args.extent) (search code depth 30 fits 9000) tt

pub overflow_mul-extent : goal.overflow_mul-extent
overflow_mul-extent c = fits (given c.args.extent) (search code depth 30 fits 9000) tt

pub returns : goal.returns
returns c =
    let e = c.args.extent in
    decided_by_size e.h e.z {b = c.between.result} e.width (plainly₃ (given e) (λ (l x h : ℤ). Decided (Between l x h) c.between.result) c.between.ensures (search arguments depth 30 fits 9000) tt)
