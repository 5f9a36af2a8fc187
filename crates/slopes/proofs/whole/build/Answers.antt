-- What no cause refuses is written at the first point, between, and at the last.
use Rattle.std.specs.Prelude.{◌-◌, refl, ℤ, length}
use Rattle.std.proofs.Common.{◌∙◌, ap}
use Rattle.table.specs.Accepted.{unit_asked, lengths_asked, accepted_points}
use Rattle.slopes.specs.Slopes.{built_slope, built_slopes}
use Rattle.slopes.specs.Put.{put, put_ends}
use Rattle.slopes.proofs.whole.build.Goals as goal

pub unit-unit-requires : goal.unit-unit-requires
unit-unit-requires c = unit_asked refl c.in_ok-points.ensures

pub invariant_of-points : goal.invariant_of-points
invariant_of-points c = record { within = accepted_points refl c.in_ok-points.ensures }

pub renew-requires-clause-slopes_len : goal.renew-requires-clause-slopes_len
renew-requires-clause-slopes_len c = (lengths_asked refl c.in_ok-points.ensures).slopes

pub inner-requires : goal.inner-requires
inner-requires c = c.renew.auto.slopes ∙ (lengths_asked refl c.in_ok-points.ensures).slopes

pub renew-requires-2-clause-slopes_len : goal.renew-requires-2-clause-slopes_len
renew-requires-2-clause-slopes_len c = c.inner.auto.slopes ∙ c.renew.auto.slopes ∙ (lengths_asked refl c.in_ok-points.ensures).slopes

pub returns : goal.returns
returns c =
    let a = c.args in
    let ks = a.knots.now in
    let vs = a.values.now in
    let n = length ks in
    let built = built_slope c.unit-unit.result.size ks vs in
    let accepted = c.in_ok-points.ensures in
    record {
      refusal = accepted;
      slopes =
          c.renew-2.ensures
          ∙ ap (put built (n - 1) (n - (n - 1))) (c.inner.ensures ∙ ap (put built 1 (n - 2)) c.renew.ensures)
          ∙ put_ends built a.slopes.now n (accepted_points refl accepted).count.low (lengths_asked refl accepted).slopes
          ∙ ap (λ (U : ℤ). built_slopes U ks vs) c.unit-unit.ensures;
    }
