-- The words from the present position on are those that are left when the words before the counter's are passed.
use Rattle.std.proofs.Common.{◌≡◌, ◌-◌, drop}
use Rattle.words.specs.Words.{words_of}
use Rattle.commands.proofs.numbers.word_at.Given as goal

abbrev pub invariant-loop : goal.invariant-loop
invariant-loop l = drop (l.counter - 1) (words_of (drop l.from l.line)) ≡ words_of (drop l.at l.line)
