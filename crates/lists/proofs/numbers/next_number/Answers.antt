-- `lists::numbers::next_number` meets its contract: a word, or none, by the walk over the words, and what the word says.
use Rattle.std.proofs.Common.{sym, ap, ◌∙◌, FitsSigned, w32, rules}
use Rattle.std.proofs.lemmas.Int.{to_z-of_z}
use Rattle.decimals.specs.Decimal.{number32_of}
use Rattle.lists.specs.Next.{no_word_says, a_number, no_number}
use Rattle.lists.proofs.numbers.next_number.Goals as goal

pub returns-in_err-word : goal.returns-in_err-word
returns-in_err-word c = rw c.from_residual.ensures (no_word_says _ _ (sym c.in_err-word.ensures))

pub returns-in_err-number : goal.returns-in_err-number
returns-in_err-number c =
    let said = c.whole32.ensures ∙ ap number32_of c.part.ensures in
    rw c.from_residual-in_err-number.ensures (no_number _ _ _ _ (sym c.in_ok-word.ensures) said c.in_err-number.ensures.value)

pub returns : goal.returns
returns c =
    let said = c.whole32.ensures ∙ ap number32_of c.part.ensures in
    let fits : FitsSigned w32 c.in_ok-number.number = search rules in
    rw (to_z-of_z w32 c.in_ok-number.number fits) (a_number _ _ _ _ (sym c.in_ok-word.ensures) said _ c.in_ok-number.ensures.value)
