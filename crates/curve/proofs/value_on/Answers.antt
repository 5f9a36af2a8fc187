-- The value lies between the piece's two values, each of which fits 32 bits.
use Rattle.std.specs.Prelude.{◌≡◌, List, [], ◌∷◌, ℤ, ◌+ℤ◌, ◌-ℤ◌}
use Rattle.std.proofs.Common.{rules, refl, arith, sym, ◌∙◌, ap, subst, SFits, to_z-of_z}
use Rattle.std.specs.Int.{w32}
use Rattle.integers.specs.Linear.{lin, says}
use Rattle.integers.specs.Within.{Within}
use Rattle.integers.specs.Sizes.{Known, known, held, fits, plain_is, code}
use Rattle.cubic.specs.Value.{risen}
use Rattle.position.specs.declared.inside.Inside.{Inside}
use Rattle.curve.specs.OnPiece.{risen_within, value_fits}
use Rattle.curve.proofs.value_on.Goals as goal

module _ (at : Inside) (f : SFits w32 at.spot.left) {x : ℤ} (e : x ≡ risen at.unit.size at.spot.h at.spot.z at.spot.m at.spot.n at.spot.t) where
  abbrev summands : List Known
  summands = held w32 at.spot.left f ∷ known x 1048576 (subst (Within 1048576) (sym e) (risen_within at.in_piece)) ∷ []

  -- what the code adds up is the value, and it fits
  is_value : at.spot.left +ℤ x ≡ at.spot.left +ℤ risen at.unit.size at.spot.h at.spot.z at.spot.m at.spot.n at.spot.t
  is_value = ap (λ (w : ℤ). at.spot.left +ℤ w) e

  value_fits_32 : SFits w32 (at.spot.left +ℤ x)
  value_fits_32 = subst (λ (v : ℤ). SFits w32 v) (sym is_value) (value_fits at.in_piece w32 {right = at.spot.left +ℤ at.spot.z} (across at.spot.left at.spot.z) f at.right_fits)
    where
      across : (l z : ℤ) → z ≡ l +ℤ z -ℤ l
      across l z = lin (l ∷ z ∷ []) (search says depth 30 fits 9000) (omega arith)

pub overflow_add-result : goal.overflow_add-result
overflow_add-result c = fits (summands c.args.at (search rules) c.risen-risen.ensures) (search code depth 30 fits 9000) tt

fits_32 : goal.overflow_cast-result-2
fits_32 c =
    let at = c.args.at in
    subst (λ (v : ℤ). SFits w32 v) (sym (plain_is {Γ = summands at (search rules) c.risen-risen.ensures} (search code depth 30 fits 9000) tt ∙ refl)) (value_fits_32 at (search rules) c.risen-risen.ensures)

pub overflow_cast-result-2 : goal.overflow_cast-result-2
overflow_cast-result-2 c = fits_32 c

pub returns : goal.returns
returns c =
    let at = c.args.at in
    to_z-of_z (fits_32 c) ∙ plain_is {Γ = summands at (search rules) c.risen-risen.ensures} (search code depth 30 fits 9000) tt ∙ is_value at (search rules) c.risen-risen.ensures
