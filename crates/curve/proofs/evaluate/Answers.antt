-- The value is worked out where nothing refuses the table or the position.
use Rattle.std.specs.Prelude.{◌≡◌, refl, ℤ, ◌+ℤ◌}
use Rattle.std.proofs.Common.{◌∙◌, ap, to_z-of_z}
use Rattle.std.specs.Int.{w32}
use Rattle.std.proofs.lemmas.Result.{err_from_is_err_and}
use Rattle.integers.specs.Sizes.{returned}
use Rattle.cubic.specs.Value.{risen}
use Rattle.rules.specs.Limits.{unit}
use Rattle.rules.specs.Numbered.{never_0}
use Rattle.rules.specs.Order.{refused_answer, right_answer}
use Rattle.position.specs.Spot.{of_spot}
use Rattle.curve.proofs.evaluate.Goals as goal

pub returns-in_err-find : goal.returns-in_err-find
returns-in_err-find c =
    let p = err_from_is_err_and c.from_residual.result c.from_residual.ensures.1 in
    let f = rw (to_z-of_z c.ranges.position) at c.in_err-find.ensures in
    rw (p.1, p.2) (record { refusal = f.refusal; value = refused_answer (never_0 c.in_err-find.field-0.0.cause) })

pub returns : goal.returns
returns c =
    let at = c.in_ok-find.field-0 in
    let f = rw (to_z-of_z c.ranges.position) at c.in_ok-find.ensures in
    let says = c.value_on.ensures ∙ ap (λ (U : ℤ). at.spot.left +ℤ risen U at.spot.h at.spot.z at.spot.m at.spot.n at.spot.t) f.inside.unit_is in
    record {
      refusal = f.refusal;
      value =
          right_answer refl
          (record {
            piece = at.spot.piece;
            belongs = f.inside.spot.belongs;
            is = returned w32 c.value_on.type_inv (of_spot (λ (left h z m n t : ℤ). c.value_on.result ≡ left +ℤ risen (unit c.args.table.s) h z m n t) f.inside.spot says);
          });
    }
