-- A piece that is not too large leaves each number and step within 2^53.
use Rattle.std.specs.Prelude.{List, [], ◌∷◌, ◌^◌, ℤ}
use Rattle.std.proofs.Common.{rules, ◌∙◌, subst, to_z, of_z}
use Rattle.std.specs.Int.{w32, w64}
use Rattle.std.specs.Float.{binary64}
use Rattle.integers.specs.Sizes.{Known, known, held, fits, plain_is, code}
use Rattle.integers.specs.Arguments.{arguments, as_coded₁, as_coded₂}
use Rattle.floats.specs.Promise.{Exactly}
use Rattle.floats.proofs.Cast.{may_cast, cast_is}
use Rattle.cubic.specs.Horner.{HornerWithin}
use Rattle.rules.specs.Limits.{TooLarge}
use Rattle.rules.specs.Known.{known_unit, known_width, known_rise, known_inside}
use Rattle.piece.specs.Cubic.{Coefficients, as_handed, by_coefficients}
use Rattle.position.specs.declared.inside.Inside.{Inside}
use Rattle.drive.specs.Size.{steps_exact}
use Rattle.drive.proofs.moving.Goals as goal

-- what is known of a place in an accepted piece
abbrev given : (at : Inside) → List Known
given at =
    known_unit at.unit.size at.in_piece.unit
    ∷ known_width at.spot.h at.in_piece.width
    ∷ known_rise at.spot.z at.in_piece.rise
    ∷ known_inside at.spot.t at.in_piece.width at.in_piece.place
    ∷ []

module _ (at : Inside) (f : TooLarge at.spot.h at.spot.z → ⊥) {first second third : ℤ} (are : Coefficients at.unit.size at.spot.h at.spot.z at.spot.m at.spot.n first second third) where
  steps : HornerWithin (2 ^ 53) first second third at.spot.t at.spot.h
  steps = steps_exact at.in_piece f are

  abbrev with_cubic : List Known
  with_cubic = known first _ steps.one ∷ known second _ steps.two ∷ known third _ steps.three ∷ given at

pub numerator-requires : goal.numerator-requires
numerator-requires c =
    let at = c.args.at in
    let r = c.coefficients-cubic.result in
    let are : Coefficients at.unit.size at.spot.h at.spot.z at.spot.m at.spot.n r.first r.second r.third = as_handed c.extent.ensures.h c.extent.ensures.z (search rules) (search rules) c.coefficients-cubic.ensures in
    as_coded₂ (given at) (HornerWithin (2 ^ 53) r.first r.second r.third) (search arguments depth 30 fits 9000) tt (steps at c.requires are)

pub overflow_mul-result : goal.overflow_mul-result
overflow_mul-result c = fits (given c.args.at) (search code depth 30 fits 9000) tt

pub overflow_mul-result-2 : goal.overflow_mul-result-2
overflow_mul-result-2 c = fits (given c.args.at) (search code depth 30 fits 9000) tt

pub overflow_mul-result-3 : goal.overflow_mul-result-3
overflow_mul-result-3 c = fits (given c.args.at) (search code depth 30 fits 9000) tt

pub int_to_float-result-2 : goal.int_to_float-result-2
int_to_float-result-2 c = may_cast binary64 (given c.args.at) (search code depth 30 fits 9000) tt

pub returns : goal.returns
returns c =
    let at = c.args.at in
    let r = c.coefficients-cubic.result in
    let are : Coefficients at.unit.size at.spot.h at.spot.z at.spot.m at.spot.n r.first r.second r.third = as_handed c.extent.ensures.h c.extent.ensures.z (search rules) (search rules) c.coefficients-cubic.ensures in
    record {
      left = cast_is binary64 (held w32 at.spot.left (search rules) ∷ []) (search code depth 30 fits 9000) tt;
      numerator =
          subst (λ (v : ℤ). Exactly binary64 v c.numerator.result) (plain_is {Γ = with_cubic at c.requires are} (search code depth 30 fits 9000) tt ∙ by_coefficients are at.spot.t)
          c.numerator.ensures;
      denominator = cast_is binary64 (given at) (search code depth 30 fits 9000) tt;
    }
