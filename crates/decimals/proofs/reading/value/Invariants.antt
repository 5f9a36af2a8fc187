-- What is asked is the value of the digits that are left, behind the sum of those that were passed.
use Rattle.std.proofs.Common.{◌≡◌, true, drop}
use Rattle.decimals.specs.Decimal.{are_digits, natural}
use Rattle.decimals.proofs.reading.value.Given as goal

abbrev pub invariant-loop-b : goal.invariant-loop-b
invariant-loop-b l =
    record {
      left : are_digits (drop l.b-index l.text) ≡ true;
      same : natural 0 l.text ≡ natural l.sum (drop l.b-index l.text);
    }
