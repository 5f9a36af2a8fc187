-- Up to where the loop stands every piece is sound, and the point there is at hand.
use Rattle.std.specs.Prelude.{ℕ, ◌-◌, ◌≤◌, ◌<◌, length}
use Rattle.table.specs.Held.{held}
use Rattle.table.specs.Table.{Holds}
use Rattle.table.specs.Search.{fault_number, asked, EndAt, SoundAt}
use Rattle.table.proofs.search.scan.Given as goal

abbrev pub invariant-loop-i : goal.invariant-loop-i
invariant-loop-i l =
    let t = asked l.change (held l.table) in
    record {
      there : l.i < length l.table.knots.now;
      behind : l.from ≤ l.i;
      end_is : EndAt t.knots t.values t.slopes (fault_number l.last) l.i l.left.knot l.left.value l.left.slope;
      sound : (q : ℕ) → q < l.i → l.from ≤ q → SoundAt (Holds t) (fault_number l.last) q;
    }

abbrev pub decreases-loop-i : goal.decreases-loop-i
decreases-loop-i l = length l.table.knots.now - l.i
