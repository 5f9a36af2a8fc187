-- The byte is first found from `from` on where it is from the present position on.
use Rattle.std.proofs.Common.{◌≡◌}
use Rattle.words.specs.Lines.{first_of}
use Rattle.words.proofs.stream.find.Given as goal

abbrev pub invariant-loop-i : goal.invariant-loop-i
invariant-loop-i l = first_of l.byte l.bytes l.from ≡ first_of l.byte l.bytes l.i
