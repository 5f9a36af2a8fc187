-- Each case of the word, as a record.
use Rattle.exports.specs.Cases.{found, nothing}
use Rattle.exports.proofs.text.negwafir_next_word.Goals as goal

pub returns-in-Some : goal.returns-in-Some
returns-in-Some c = rw (← c.next_word.ensures, c.in-Some.is) found

pub returns-in-None : goal.returns-in-None
returns-in-None c = rw (← c.next_word.ensures, c.in-None.is) nothing
