-- What no cause refuses is written, and the slopes that depend on the point are renewed.
use Rattle.std.specs.Prelude.{List, ℤ}
use Rattle.std.proofs.Common.{refl, sym, ◌∙◌, ap, ap₂, subst₂, rules, arith, length-set, SFits, to_z, of_z}
use Rattle.std.specs.Int.{w32}
use Rattle.table.specs.Table.{table}
use Rattle.table.specs.Search.{as_it_came}
use Rattle.table.specs.WouldBe.{changed_by}
use Rattle.table.specs.AfterChange.{point_there, unit_then_and_before, accepted_then, equally_long}
use Rattle.table.specs.Accepted.{PointsWithin}
use Rattle.slopes.specs.Slopes.{built_slope}
use Rattle.change.specs.Change.{renewed}
use Rattle.change.proofs.point.Goals as goal

pub offset_bounds-knots-change : goal.offset_bounds-knots-change
offset_bounds-knots-change c = let l = point_there c.args.change _ refl c.in_ok-changed_points.ensures in search rules

pub bounds-knots-change : goal.bounds-knots-change
bounds-knots-change c = point_there c.args.change _ refl c.in_ok-changed_points.ensures

pub offset_bounds-values-change : goal.offset_bounds-values-change
offset_bounds-values-change c = let l = point_there c.args.change _ refl c.in_ok-changed_points.ensures in search rules

pub bounds-values-change : goal.bounds-values-change
bounds-values-change c =
    let g = c.in_ok-changed_points.ensures in omega (arith, point_there c.args.change _ refl g, (equally_long c.args.change _ refl g).values)

pub unit-requires : goal.unit-requires
unit-requires c = unit_then_and_before c.args.change _ refl c.in_ok-changed_points.ensures

pub invariant_of-points : goal.invariant_of-points
invariant_of-points c =
    let a = c.args in
    let knot_fits : SFits w32 a.change.knot = search rules in
    let value_fits : SFits w32 a.change.value = search rules in
    record {
      within =
          subst₂ PointsWithin (sym (as_it_came a.knots.now a.change.point knot_fits)) (sym (as_it_came a.values.now a.change.point value_fits))
          (accepted_then a.change _ refl c.in_ok-changed_points.ensures);
    }

pub renew-requires-clause-slopes_len : goal.renew-requires-clause-slopes_len
renew-requires-clause-slopes_len c =
    (equally_long c.args.change _ refl c.in_ok-changed_points.ensures).slopes ∙ sym (length-set c.args.knots.now c.args.change.point _)

pub renew-requires-clause-k_in_bounds : goal.renew-requires-clause-k_in_bounds
renew-requires-clause-k_in_bounds c =
    omega (arith, point_there c.args.change _ refl c.in_ok-changed_points.ensures, length-set c.args.knots.now c.args.change.point (to_z w32 (of_z w32 c.args.change.knot)))

pub returns : goal.returns
returns c =
    let a = c.args in
    let then = changed_by a.change (table a.s a.knots.now a.values.now a.slopes.now) in
    let knot_fits : SFits w32 a.change.knot = search rules in
    let value_fits : SFits w32 a.change.value = search rules in
    let knots = as_it_came a.knots.now a.change.point knot_fits in
    let values = as_it_came a.values.now a.change.point value_fits in
    record {
      refusal = c.in_ok-changed_points.ensures;
      unit_kept = refl;
      knots = knots;
      values = values;
      slopes =
          c.renew.ensures
          ∙ ap₂ (λ (ks vs : List ℤ). renewed a.change.point (built_slope c.unit.result.size ks vs) a.slopes.now) knots values
          ∙ ap (λ (U : ℤ). renewed a.change.point (built_slope U then.knots then.values) a.slopes.now) c.unit.ensures;
    }
