-- Each case of what the drive is told, as a record.
use Rattle.std.specs.Prelude.{refl, ℕ, ℤ, pos, ◌≡◌, Float, false, Result}
use Rattle.std.proofs.Common.{to_z-of_z, subst, sym, ◌∙◌, ap}
use Rattle.std.specs.Float.{fin, binary64}
use Rattle.std.specs.Float.Ieee.{of_bits}
use lib.Ieee.Bits.{of_bits-fits}
use Rattle.floats.specs.Promise.{Exactly}
use Rattle.floats.proofs.Exactly.{zero_in_code, one_float, plus_zero}
use Rattle.rules.specs.declared.Refused.{Refused}
use Rattle.rules.specs.Causes.{number, place, answer_or}
use Rattle.table.specs.Table.{Table}
use Rattle.drive.specs.declared.Answer.{Answer}
use Rattle.drive.specs.declared.Answer.TheVariants.{Dwell}
use Rattle.drive.specs.Drive.{told_of, telling, Driving}
use Rattle.drive.specs.Refused.{told_anyway}
use Rattle.exports.specs.Cases.{dwells, moves}
use Rattle.exports.proofs.answers.negwafir_float_answer.Goals as goal

-- as code has it: `1.0`
one_in_code : Exactly binary64 (pos 1) (of_bits binary64 4607182418800017408)
unfolding of_bits
one_in_code = record { held = of_bits-fits binary64 4607182418800017408; value = (refl, refl) }

-- what crosses is what `float_answer` says of the position itself
crosses : {t : Table} {x : ℤ} {zero : Float} {k p : ℕ} {a b : Answer} (r : Result Answer Refused) → Driving t x (number r) (place r) (telling r)
    → k ≡ number r → p ≡ place r → b ≡ answer_or (Dwell zero) r → b ≡ a → zero ≡ fin false 0 (pos 0) → Driving t x k p (told_of a)
crosses {t} {x} {zero} {a = a} r d e f g h z =
    let told : telling r ≡ told_of a = told_anyway r ∙ ap (λ (u : Float). told_of (answer_or (Dwell u) r)) (sym z) ∙ ap told_of (sym g ∙ h) in
    rw (e, f) (subst (Driving t x (number r) (place r)) told d)

pub returns-in-Dwell : goal.returns-in-Dwell
returns-in-Dwell c =
    let says = c.crossed-answer.ensures in
    dwells {level = c.in-Dwell.level} (crosses c.float_answer.result (rw (to_z-of_z c.ranges.position) at c.float_answer.ensures) says.number says.place says.answer c.in-Dwell.is (one_float zero_in_code (plus_zero binary64)))
    zero_in_code one_in_code

pub returns-in-Move : goal.returns-in-Move
returns-in-Move c =
    let says = c.crossed-answer.ensures in
    moves (crosses c.float_answer.result (rw (to_z-of_z c.ranges.position) at c.float_answer.ensures) says.number says.place says.answer c.in-Move.is (one_float zero_in_code (plus_zero binary64)))
