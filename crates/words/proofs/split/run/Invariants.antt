-- The run from `from` ends where the run from the present position ends.
use Rattle.std.proofs.Common.{◌≡◌}
use Rattle.words.specs.Words.{run_end, alike}
use Rattle.words.proofs.split.run.Given as goal

abbrev pub invariant-loop-i : goal.invariant-loop-i
invariant-loop-i l = run_end (alike l.blank) l.line l.from ≡ run_end (alike l.blank) l.line l.i
