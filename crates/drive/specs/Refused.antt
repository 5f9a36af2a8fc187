-- When a float answer is refused: the causes that evaluation has are asked as there.
use Rattle.std.specs.Prelude.{◌≡◌, refl, [], ◌∷◌, ℕ, ◌+◌, ℤ, pos, ◌-ℤ◌, false, Result, Ok, Err}
use Rattle.std.proofs.Common.{subst, arith}
use Rattle.std.specs.Float.{fin}
use Rattle.rules.specs.declared.Refused.{Refused}
use Rattle.rules.specs.Causes.{answer_or}
use Rattle.rules.specs.Limits.{unit, TooLarge}
use Rattle.rules.specs.Refusals.{Given, done, refused, passed, nothing, answered}
use Rattle.rules.specs.Order.{Same, one_more_cause, other_way, carried, front, went_on}
use Rattle.table.specs.Table.{Table, entry, step}
use Rattle.table.specs.Accepted.{Accepted}
use Rattle.position.specs.Position.{Belongs, HoldsAt, of_table, evaluation_order}
use Rattle.position.specs.Pieces.{one_piece}
use Rattle.position.specs.Refused.{accepted_at}
use Rattle.drive.specs.declared.Answer.{Answer}
use Rattle.drive.specs.declared.Answer.TheVariants.{Dwell}
use Rattle.drive.specs.Drive.{Telling, told_of, telling, resting, ToldIn, HoldsFor, of_position, too_large, float_order, Driving}

-- what is answered in piece i, with slopes in 1/U: 8 where it is too large, and else what the drive is told
pub data AnsweredOn (U : ℤ) (i : ℕ) (left h z m n t : ℤ) : (number place : ℕ) → Telling → Type 0 where
  refused_there : TooLarge h z → AnsweredOn U i left h z m n t 8 i resting
  told_there : {a : Telling} → (TooLarge h z → ⊥) → ToldIn U left h z m n t a → AnsweredOn U i left h z m n t 0 0 a

module _ {t : Table} {x : ℤ} where
  position_alone : (c p : ℕ) → (c ≡ 8 → ⊥) → HoldsFor t x c p → HoldsAt t x c p
  position_alone c p f (of_position h) = h
  position_alone c p f (too_large b l) = absurd (f refl)

  same_causes : Same (HoldsAt t x) (HoldsFor t x) evaluation_order
  same_causes = one_more_cause 8 evaluation_order (λ _ _. of_position) position_alone tt

  pub as_evaluated : {n p : ℕ} → Given (HoldsAt t x) evaluation_order n p → Given (HoldsFor t x) evaluation_order n p
  as_evaluated = carried same_causes

  pub evaluated_too : {n p : ℕ} → Given (HoldsFor t x) evaluation_order n p → Given (HoldsAt t x) evaluation_order n p
  evaluated_too = carried (other_way same_causes)

  -- what is known where nothing is refused
  pub accepted_for : {n p : ℕ} → n ≡ 0 → Given (HoldsFor t x) float_order n p → Accepted t
  accepted_for e g = accepted_at refl (evaluated_too (front evaluation_order (8 ∷ []) e g))

  -- the position's piece, of which there is one
  module _ {i : ℕ} (a : Accepted t) (b : Belongs t.knots x i) where
    at_its_piece : (p : ℕ) → HoldsFor t x 8 p → (p ≡ i) × TooLarge (step t.knots i) (step t.values i)
    at_its_piece p (of_position (of_table h)) = elim h [ ]
    at_its_piece p (too_large c l) =
        let e = one_piece a.limits c b in (e, subst (λ (j : ℕ). TooLarge (step t.knots j) (step t.values j)) e l)

    pub refused_large : TooLarge (step t.knots i) (step t.values i) → Given (HoldsFor t x) (8 ∷ []) 8 i
    refused_large l = refused (too_large b l) (λ q m h. absurd (omega (arith, m, (at_its_piece q h).0)))

    pub taken_small : (TooLarge (step t.knots i) (step t.values i) → ⊥) → Given (HoldsFor t x) (8 ∷ []) 0 0
    taken_small f = passed (λ p h. f (at_its_piece p h).1) done

    -- what is answered in its piece is answered at the position, where nothing before it refuses
    pub driving_on : {n p number place : ℕ} {a : Telling} → n ≡ 0 → Given (HoldsAt t x) evaluation_order n p
        → AnsweredOn (unit t.s) i (entry t.values i) (step t.knots i) (step t.values i) (entry t.slopes i) (entry t.slopes (i + 1)) (x -ℤ entry t.knots i) number place a
        → Driving t x number place a
    driving_on e g (refused_there l) = record { refusal = went_on e (as_evaluated g) (refused_large l); answer = nothing }
    driving_on e g (told_there f o) =
        record { refusal = went_on e (as_evaluated g) (taken_small f); answer = answered (record { piece = i; belongs = b; is = o }) }

-- what an answer tells is what it says beside its refusal, where a dwell at 0 stands for the answer of a refused call
pub told_anyway : (r : Result Answer Refused) → telling r ≡ told_of (answer_or (Dwell (fin false 0 (pos 0))) r)
told_anyway (Ok a) = refl
told_anyway (Err r) = refl
