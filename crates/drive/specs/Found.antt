-- Every float answer on a table of 32-bit values has what to tell: the promise of `float_answer` is not empty.
use Rattle.std.specs.Prelude.{◌≡◌, refl, [], ◌∷◌, ℕ, ◌<◌, ◌^◌, ℤ, pos, length}
use Rattle.std.proofs.Common.{subst, ⊎_elim, arith, le_trans, lit≤, SFits}
use Rattle.std.specs.Int.Signed.{nat_abs-le}
use Rattle.std.specs.Float.{binary64}
use Rattle.std.specs.Float.Ieee.{of_int}
use Rattle.std.specs.Int.{w32}
use Rattle.integers.specs.Within.{Within}
use Rattle.integers.specs.Sizes.{sized, code}
use Rattle.integers.specs.Decided.{alike_or_not, <ℤ_or_not, ≡ℤ_or_not}
use Rattle.floats.proofs.Exactly.{cast_exactly}
use Rattle.cubic.specs.Value.{numerator, denominator}
use Rattle.rules.specs.Limits.{TooLarge}
use Rattle.rules.specs.Known.{known_unit, known_width}
use Rattle.rules.specs.Refusals.{Given}
use Rattle.rules.specs.Order.{front, behind, clear}
use Rattle.rules.specs.Found.{SomeGiven, found_on, found_as, answered_beside}
use Rattle.table.specs.Table.{Table, entry}
use Rattle.table.specs.Accepted.{Accepted}
use Rattle.position.specs.Position.{evaluation_order}
use Rattle.position.specs.Pieces.{within_list}
use Rattle.position.specs.Refused.{accepted_at}
use Rattle.position.specs.InPiece.{InPiece}
use Rattle.position.specs.Spot.{inside_accepted}
use Rattle.position.specs.Found.{SomePiece, every_position_has_an_answer, piece_at}
use Rattle.piece.specs.Cubic.{Coefficients, by_coefficients}
use Rattle.drive.specs.Drive.{Telling, dwell, move, ToldIn, dwells, moves, ToldAt, HoldsFor, too_large, float_order, resting, Driving}
use Rattle.drive.specs.Size.{steps_exact}
use Rattle.drive.specs.Refused.{as_evaluated, evaluated_too, accepted_for, refused_large, taken_small}

-- ---- the refusal

module _ (t : Table) (x : ℤ) where
  size_given : Accepted t → SomePiece t.knots x → SomeGiven (HoldsFor t x) (8 ∷ [])
  size_given a i =
      ⊎_elim (λ l. record { number = 8; place = i.piece; given = refused_large a i.belongs l }) (λ f. record { number = 0; place = 0; given = taken_small a i.belongs f })
      (alike_or_not (λ l. record { above = l }) (λ l. l.above) (<ℤ_or_not _ _))

  pub every_float_answer_is_refused_or_not : SomeGiven (HoldsFor t x) float_order
  every_float_answer_is_refused_or_not =
      found_on (found_as (λ _ _. as_evaluated) (every_position_has_an_answer t x))
      (λ g. let e = evaluated_too g in size_given (accepted_at refl e) (piece_at t x refl e))

-- ---- what is told

module _ {U left h z m n t : ℤ} (o : InPiece U h z m n t) (fits : Within (2 ^ 53) left) (small : TooLarge h z → ⊥) where
  above_within : Within (2 ^ 53) (numerator U h z m n t)
  above_within =
      let c : Coefficients U h z m n _ _ _ = record { first_is = refl; second_is = refl; third_is = refl } in
      subst (Within (2 ^ 53)) (by_coefficients c t) (steps_exact o small c).last

  below_within : Within (2 ^ 53) (denominator U h)
  below_within = sized (known_unit U o.unit ∷ known_width h o.width ∷ []) (search code depth 30 fits 9000) tt

  told_in : (a : Telling) × ToldIn U left h z m n t a
  told_in =
      ⊎_elim (λ e. (dwell (of_int binary64 left), dwells e (cast_exactly binary64 left fits)))
      (λ f. (move _ _ _, moves f (cast_exactly binary64 left fits) (cast_exactly binary64 _ above_within) (cast_exactly binary64 _ below_within))) (≡ℤ_or_not z (pos 0))

wide : (v : ℤ) → SFits w32 v → Within (2 ^ 53) v
wide v f = record { size = le_trans (nat_abs-le v f.sfits) (lit≤ tt) }

module _ (t : Table) (x : ℤ) (fits : (i : ℕ) → i < length t.values → SFits w32 (entry t.values i)) where
  told_at : {n p : ℕ} → n ≡ 0 → Given (HoldsFor t x) float_order n p → (a : Telling) × ToldAt t x a
  told_at e g =
      let a = accepted_for e g in
      let i = piece_at t x refl (evaluated_too (front evaluation_order (8 ∷ []) e g)) in
      let l = within_list i.belongs in
      let size = wide (entry t.values i.piece) (fits i.piece (omega (arith, a.limits.lengths))) in
      let r = told_in (inside_accepted a i.belongs) size (λ s. clear e (behind evaluation_order e g) i.piece (too_large i.belongs s)) in
      (r.0, record { piece = i.piece; belongs = i.belongs; is = r.1 })

pub record SomeDriving (t : Table) (x : ℤ) : Type 0 where
  pub number : ℕ
  pub place : ℕ
  pub told : Telling
  pub driving : Driving t x number place told

pub every_float_answer_of_32_bit_values_tells : (t : Table) (x : ℤ) → ((i : ℕ) → i < length t.values → SFits w32 (entry t.values i)) → SomeDriving t x
every_float_answer_of_32_bit_values_tells t x fits =
    let g = every_float_answer_is_refused_or_not t x in
    let a = answered_beside {Right = ToldAt t x} {otherwise = resting} g.number (λ e. told_at t x fits e g.given) in
    record { number = g.number; place = g.place; told = a.answer; driving = record { refusal = g.given; answer = a.right } }
