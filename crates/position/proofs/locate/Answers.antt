-- What is answered of the place is its piece.
use Rattle.std.specs.Prelude.{refl}
use Rattle.std.proofs.Common.{to_z-of_z}
use Rattle.std.proofs.lemmas.Result.{err_from_is_err_and}
use Rattle.rules.specs.Numbered.{never_0}
use Rattle.rules.specs.Order.{refused_answer, right_answer}
use Rattle.position.proofs.locate.Goals as goal

pub returns-in_err-find : goal.returns-in_err-find
returns-in_err-find c =
    let p = err_from_is_err_and c.from_residual.result c.from_residual.ensures.1 in
    let f = rw (to_z-of_z c.ranges.position) at c.in_err-find.ensures in
    rw (p.1, p.2) (record { refusal = f.refusal; piece = refused_answer (never_0 c.in_err-find.field-0.0.cause) })

pub returns : goal.returns
returns c =
    let f = rw (to_z-of_z c.ranges.position) at c.in_ok-find.ensures in record { refusal = f.refusal; piece = right_answer refl f.inside.spot.belongs }
