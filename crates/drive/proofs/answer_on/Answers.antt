-- A piece that is too large is refused, and of any other the drive is told.
use Rattle.std.specs.Prelude.{ℤ}
use Rattle.std.proofs.Common.{subst₂}
use Rattle.integers.specs.Promise.{Decided}
use Rattle.integers.specs.Decided.{told, denied}
use Rattle.rules.specs.Limits.{TooLarge}
use Rattle.drive.specs.Refused.{refused_there, told_there}
use Rattle.drive.proofs.answer_on.Goals as goal

pub returns-then-too_large : goal.returns-then-too_large
returns-then-too_large c = refused_there (subst₂ TooLarge c.extent.ensures.h c.extent.ensures.z (told c.too_large.ensures c.if-too_large.true))

pub told-requires : goal.told-requires
told-requires c = subst₂ (λ (h z : ℤ). TooLarge h z → ⊥) c.extent.ensures.h c.extent.ensures.z (denied c.too_large.ensures c.if-too_large.false)

pub returns : goal.returns
returns c = told_there (subst₂ (λ (h z : ℤ). TooLarge h z → ⊥) c.extent.ensures.h c.extent.ensures.z (denied c.too_large.ensures c.if-too_large.false)) c.told.ensures
