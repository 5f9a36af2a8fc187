-- Each case by its number.
use Rattle.exports.specs.Cases.{not_decimal, too_large}
use Rattle.exports.proofs.kinds.kind_of.Goals as goal

pub returns-in-NotDecimal : goal.returns-in-NotDecimal
returns-in-NotDecimal c = rw c.in-NotDecimal.is not_decimal

pub returns-in-TooLarge : goal.returns-in-TooLarge
returns-in-TooLarge c = rw c.in-TooLarge.is too_large
