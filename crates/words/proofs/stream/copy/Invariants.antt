-- Up to where the loop stands the bytes are copied.
use Rattle.std.specs.Prelude.{◌≡◌, length}
use Rattle.std.proofs.Math.Seq.{paste}
use Rattle.words.proofs.stream.copy.Given as goal

abbrev pub invariant-loop-i : goal.invariant-loop-i
invariant-loop-i l =
    record {
      copied : l.into ≡ paste l.initial.into 0 l.from l.i;
      long : length l.into ≡ length l.initial.into;
    }
