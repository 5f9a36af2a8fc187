-- The words passed are numbers, so that the first fault is that of the words from the present position on. The measure is what is left of the line.
use Rattle.std.proofs.Common.{◌≡◌, ◌≤◌, ◌-◌, suc, length, drop}
use Rattle.words.specs.Words.{words_of}
use Rattle.commands.specs.Commands.{first_fault}
use Rattle.commands.proofs.numbers.are_numbers.Given as goal

abbrev pub invariant-loop-word : goal.invariant-loop-word
invariant-loop-word l =
    record {
      left : first_fault 0 1 (words_of (drop l.from l.line)) ≡ first_fault 0 (suc l.k) (words_of (drop l.at l.line));
      few : l.k ≤ l.at;
    }

abbrev pub decreases-loop-word : goal.decreases-loop-word
decreases-loop-word l = length l.line - l.at
