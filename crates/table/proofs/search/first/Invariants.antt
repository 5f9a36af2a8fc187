-- What was found stands, but for what comes before it further on.
use Rattle.table.specs.Held.{held}
use Rattle.table.specs.Table.{Holds}
use Rattle.table.specs.Search.{fault_number, asked}
use Rattle.table.specs.Scan.{Standing}
use Rattle.table.proofs.search.first.Given as goal

abbrev pub invariant-loop-earlier : goal.invariant-loop-earlier
invariant-loop-earlier l = Standing (Holds (asked l.change (held l.table))) (fault_number l.fn.last) (fault_number l.found.fault) l.found.piece

abbrev pub decreases-loop-earlier : goal.decreases-loop-earlier
decreases-loop-earlier l = fault_number l.found.fault
