-- The sizes of an accepted piece's coefficients leave room for the cubic, and the denominator for its own.
use Rattle.std.specs.Prelude.{◌≡◌, List, [], ◌∷◌, ℤ, pos}
use Rattle.std.proofs.Common.{rules, sym, ◌∙◌, ap, subst, SFits, to_z, of_z}
use Rattle.std.specs.Int.{w32, w64}
use Rattle.integers.specs.Promise.{Between, Rounded, nearest_of}
use Rattle.integers.specs.Within.{Within}
use Rattle.integers.specs.Nearest.{rounded_is, one_rounded}
use Rattle.integers.specs.Sizes.{Known, known, held, fits, sized, plain_is, code, returned}
use Rattle.integers.specs.Arguments.{arguments, plainly₂, plainly₅}
use Rattle.cubic.specs.Value.{numerator, denominator}
use Rattle.cubic.proofs.InOrder.{the_cubic_is_within}
use Rattle.cubic.proofs.Small.{monotone_small}
use Rattle.rules.specs.Known.{known_unit, known_width, known_rise, known_inside}
use Rattle.piece.specs.Cubic.{Coefficients, as_handed, by_coefficients}
use Rattle.position.specs.declared.inside.Inside.{Inside}
use Rattle.curve.specs.Sizes.{Small}
use Rattle.curve.proofs.rise.risen.Goals as goal

-- what is known of a place in an accepted piece
abbrev given : (at : Inside) → List Known
given at =
    known_unit at.unit.size at.in_piece.unit
    ∷ known_width at.spot.h at.in_piece.width
    ∷ known_rise at.spot.z at.in_piece.rise
    ∷ known_inside at.spot.t at.in_piece.width at.in_piece.place
    ∷ []

module _ (at : Inside) where
  -- so is of its coefficients
  small : {first second third : ℤ} → Coefficients at.unit.size at.spot.h at.spot.z at.spot.m at.spot.n first second third → Small first second third
  small are =
      let k = monotone_small {M = 268435456} at.in_piece.monotone (sized (given at) (search code depth 30 fits 9000) tt) in
      record { one = subst (Within _) (sym are.first_is) k.start; two = subst (Within _) (sym are.second_is) k.second; three = subst (Within _) (sym are.third_is) k.third }

  abbrev with_cubic : {first second third : ℤ} → Coefficients at.unit.size at.spot.h at.spot.z at.spot.m at.spot.n first second third → List Known
  with_cubic {first} {second} {third} are = known first _ (small are).one ∷ known second _ (small are).two ∷ known third _ (small are).three ∷ given at

  -- nowhere larger than at the right end, where it is Z·h³
  cubic_within : {x : ℤ} → x ≡ numerator at.unit.size at.spot.h at.spot.z at.spot.m at.spot.n at.spot.t → Within 288230376151711744 x
  cubic_within e =
      let o = at.in_piece in
      subst (Within _) (sym e) (the_cubic_is_within o.monotone at.spot.t at.spot.h o.place.low o.place.high o.width.low (sized (given at) (search code depth 30 fits 9000) tt))

pub numerator-above-requires-clause-small : goal.numerator-above-requires-clause-small
numerator-above-requires-clause-small c = small c.args.at (as_handed c.extent.ensures.h c.extent.ensures.z (search rules) (search rules) c.coefficients-cubic.ensures)

pub overflow_mul-h : goal.overflow_mul-h
overflow_mul-h c = fits (given c.args.at) (search code depth 30 fits 9000) tt

pub overflow_mul-h-2 : goal.overflow_mul-h-2
overflow_mul-h-2 c = fits (given c.args.at) (search code depth 30 fits 9000) tt

pub overflow_mul-at : goal.overflow_mul-at
overflow_mul-at c = fits (given c.args.at) (search code depth 30 fits 9000) tt

pub returns : goal.returns
returns c =
    let at = c.args.at in
    let are : Coefficients at.unit.size at.spot.h at.spot.z at.spot.m at.spot.n c.coefficients-cubic.result.first c.coefficients-cubic.result.second c.coefficients-cubic.result.third =
    as_handed c.extent.ensures.h c.extent.ensures.z (search rules) (search rules) c.coefficients-cubic.ensures in
    let is_cubic : c.numerator-above.result ≡ numerator at.unit.size at.spot.h at.spot.z at.spot.m at.spot.n at.spot.t =
    c.numerator-above.ensures ∙ plain_is {Γ = with_cubic at are} (search code depth 30 fits 9000) tt ∙ by_coefficients are at.spot.t in
    let quotient : Rounded c.numerator-above.result (denominator at.unit.size at.spot.h) c.nearest_div.result =
    plainly₂ (known c.numerator-above.result _ (cubic_within at is_cubic) ∷ given at) (λ (n d : ℤ). Rounded n d c.nearest_div.result) c.nearest_div.ensures (search arguments depth 30 fits 9000) tt in
    returned w64 c.nearest_div.type_inv (one_rounded quotient (rounded_is _ _) ∙ ap (λ (v : ℤ). nearest_of v (denominator at.unit.size at.spot.h)) is_cubic)
