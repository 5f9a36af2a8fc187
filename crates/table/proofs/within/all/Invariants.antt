-- None is counted exactly if every piece, up to where the loop stands, is within the limits.
use Rattle.std.specs.Prelude.{◌+◌, ◌≤◌}
use Rattle.table.specs.Pieces.{PiecesWithin, Faults}
use Rattle.table.proofs.within.all.Given as goal

abbrev pub invariant-loop-i : goal.invariant-loop-i
invariant-loop-i l =
    record {
      few : l.faults ≤ l.i + l.i;
      counted : Faults (PiecesWithin l.knots l.values l.from l.i) l.faults;
    }
