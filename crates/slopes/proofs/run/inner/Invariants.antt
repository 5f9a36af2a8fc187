-- Up to where the loop stands the slopes are in their places, and the piece on its left is at hand.
use Rattle.std.specs.Prelude.{◌≡◌, ◌-◌}
use Rattle.table.specs.Table.{step}
use Rattle.slopes.specs.Slopes.{built_slope}
use Rattle.slopes.specs.Put.{put}
use Rattle.slopes.proofs.run.inner.Given as goal

abbrev pub invariant-loop-i : goal.invariant-loop-i
invariant-loop-i l =
    record {
      h : l.left.h ≡ step l.points.knots.now (l.i - 1);
      z : l.left.z ≡ step l.points.values.now (l.i - 1);
      slopes : l.slopes ≡ put (built_slope l.unit.size l.points.knots.now l.points.values.now) 1 (l.i - 1) l.initial.slopes;
    }
