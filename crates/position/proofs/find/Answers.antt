-- The position is sought where nothing refuses the table.
use Rattle.std.specs.Prelude.{refl, ℤ, None, Some}
use Rattle.std.proofs.Common.{subst, sym, to_z-of_z}
use Rattle.std.proofs.lemmas.Result.{err_from_is_err_and}
use Rattle.rules.specs.Numbered.{never_0}
use Rattle.table.specs.Held.{held}
use Rattle.table.specs.Accepted.{accepted_table}
use Rattle.position.specs.InPiece.{InPiece}
use Rattle.position.specs.Refused.{table_refused, position_refused, none_refused}
use Rattle.position.specs.Spot.{SoughtIn, sought_outside, sought_on, inside_spot}
use Rattle.position.proofs.find.Goals as goal

pub returns-in_err-check : goal.returns-in_err-check
returns-in_err-check c =
    let p = err_from_is_err_and c.from_residual.result c.from_residual.ensures.1 in
    rw (p.1, p.2) (record { refusal = table_refused c.in_err-check.ensures (never_0 c.in_err-check.field-0.0.cause); inside = tt })

pub invariant_of-points : goal.invariant_of-points
invariant_of-points c = record { within = (accepted_table {t = held c.args.table} refl c.in_ok-check.ensures).limits }

pub seek-requires : goal.seek-requires
seek-requires c = (accepted_table {t = held c.args.table} refl c.in_ok-check.ensures).slopes

pub returns-in_default : goal.returns-in_default
returns-in_default c =
    let t = held c.args.table in
    rw c.by.ensures
    (record {
      refusal = position_refused c.in_ok-check.ensures refl (sought_outside (subst (λ (x : ℤ). SoughtIn t.knots t.values t.slopes x None) (to_z-of_z c.ranges.position) c.in_default.ensures));
      inside = tt;
    })

pub unit-requires : goal.unit-requires
unit-requires c = (accepted_table {t = held c.args.table} refl c.in_ok-check.ensures).unit

pub invariant_of-result : goal.invariant_of-result
invariant_of-result c =
    let t = held c.args.table in
    let on = (sought_on c.in-Some.ensures).1 in
    let at = c.in-Some.spot in
    record {
      in_piece = subst (λ (U : ℤ). InPiece U at.h at.z at.m at.n at.t) (sym c.unit.ensures) (inside_spot {tab = t} (accepted_table refl c.in_ok-check.ensures) on);
      right_fits = on.right_fits;
    }

pub returns : goal.returns
returns c =
    let t = held c.args.table in
    let on = sought_on (subst (λ (x : ℤ). SoughtIn t.knots t.values t.slopes x (Some c.in-Some.spot)) (to_z-of_z c.ranges.position) c.in-Some.ensures) in
    record { refusal = none_refused c.in_ok-check.ensures refl on.0; inside = record { unit_is = c.unit.ensures; spot = on.1 } }
