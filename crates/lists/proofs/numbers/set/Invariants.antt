-- The numbers that were passed stand in front of the list, and those from the present position on are left.
use Rattle.std.proofs.Common.{◌≡◌, ◌++◌, take, drop}
use Rattle.words.specs.Words.{words_of}
use Rattle.lists.specs.Lists.{numbers_of}
use Rattle.lists.proofs.numbers.set.Given as goal

abbrev pub invariant-loop-n : goal.invariant-loop-n
invariant-loop-n l =
    record {
      all : numbers_of (drop 1 (words_of l.line)) ≡ take l.n l.list ++ numbers_of (words_of (drop l.at l.line));
      behind : drop l.n l.list ≡ drop l.n l.fn.list;
    }
