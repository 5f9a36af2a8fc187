-- The row of the numbers that were passed is appended.
use Rattle.std.proofs.Common.{take}
use Rattle.words.specs.Lines.{Appended}
use Rattle.lists.specs.Lists.{row_of}
use Rattle.lists.proofs.row.append_row.Given as goal

abbrev pub invariant-loop-i : goal.invariant-loop-i
invariant-loop-i l = Appended l.fn.into l.held (row_of (take l.i l.list)) l.into l.n
