-- 8 is asked of the position's piece once all before it has passed.
use Rattle.std.specs.Prelude.{refl, [], ◌∷◌, ℤ}
use Rattle.std.proofs.Common.{subst, to_z-of_z}
use Rattle.std.proofs.lemmas.Result.{err_from_is_err_and}
use Rattle.rules.specs.Causes.{number, place}
use Rattle.rules.specs.Limits.{unit}
use Rattle.rules.specs.Numbered.{never_0}
use Rattle.rules.specs.Order.{refused_answer, stopped}
use Rattle.position.specs.Refused.{accepted_at}
use Rattle.position.specs.Spot.{of_spot}
use Rattle.drive.specs.Drive.{telling}
use Rattle.drive.specs.Refused.{AnsweredOn, as_evaluated, driving_on}
use Rattle.drive.proofs.float_answer.Goals as goal

pub returns-in_err-find : goal.returns-in_err-find
returns-in_err-find c =
    let p = err_from_is_err_and c.from_residual.result c.from_residual.ensures.1 in
    let f = rw (to_z-of_z c.ranges.position) at c.in_err-find.ensures in
    let n = never_0 c.in_err-find.field-0.0.cause in
    rw (p.1, p.2) (record { refusal = stopped (8 ∷ []) n (as_evaluated f.refusal); answer = refused_answer n })

pub returns : goal.returns
returns c =
    let at = c.in_ok-find.field-0 in
    let f = rw (to_z-of_z c.ranges.position) at c.in_ok-find.ensures in
    driving_on (accepted_at refl f.refusal) f.inside.spot.belongs refl f.refusal
    (of_spot (λ (left h z m n t : ℤ). AnsweredOn (unit c.args.table.s) at.spot.piece left h z m n t (number c.answer_on.result) (place c.answer_on.result) (telling c.answer_on.result)) f.inside.spot
    (subst (λ (U : ℤ). AnsweredOn U at.spot.piece at.spot.left at.spot.h at.spot.z at.spot.m at.spot.n at.spot.t (number c.answer_on.result) (place c.answer_on.result) (telling c.answer_on.result)) f.inside.unit_is c.answer_on.ensures))
