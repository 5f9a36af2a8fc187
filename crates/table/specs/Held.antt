-- A table as it is lent, as the exact rules speak of it: the number of its slope unit, and what its lists hold. Whoever believes a promise about a lent table believes this file.
use Rattle.table.specs.declared.Table as declared
use Rattle.table.specs.Table.{Table, table}

abbrev pub held : declared.Table → Table
held t = table t.s t.knots.now t.values.now t.slopes.now
