-- The words counted and those from the present position on are all the words. The measure is what is left of the line.
use Rattle.std.proofs.Common.{◌≡◌, length, drop, ◌+◌, ◌-◌, ◌≤◌}
use Rattle.words.specs.Words.{words_of}
use Rattle.words.proofs.split.count.Given as goal

abbrev pub invariant-loop-word : goal.invariant-loop-word
invariant-loop-word l =
    record {
      all : l.n + length (words_of (drop l.at l.line)) ≡ length (words_of (drop l.from l.line));
      few : l.n ≤ l.at;
    }

abbrev pub decreases-loop-word : goal.decreases-loop-word
decreases-loop-word l = length l.line - l.at
