-- The entry that is asked for is, behind the entries that were passed, the one that comes so many later.
use Rattle.std.proofs.Common.{◌≡◌, ◌-◌, drop}
use Rattle.answers.specs.Texts.{entry_of}
use Rattle.answers.proofs.texts.entry.Given as goal

abbrev pub invariant-loop : goal.invariant-loop
invariant-loop l = entry_of l.k l.texts ≡ entry_of (l.k - l.counter) (drop l.start l.texts)
