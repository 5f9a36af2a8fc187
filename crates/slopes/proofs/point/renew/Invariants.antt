-- Up to where the loop stands the slopes are in their places.
use Rattle.std.specs.Prelude.{◌≡◌, ◌-◌}
use Rattle.slopes.specs.Slopes.{built_slope}
use Rattle.slopes.specs.Put.{put}
use Rattle.slopes.proofs.point.renew.Given as goal

abbrev pub invariant-loop-i : goal.invariant-loop-i
invariant-loop-i l = l.slopes ≡ put (built_slope l.unit.size l.points.knots.now l.points.values.now) l.from (l.i - l.from) l.initial.slopes
