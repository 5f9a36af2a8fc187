-- Each turn passes a word, by the law of the walk; where there is none the words are too few.
use Rattle.std.proofs.Common.{◌≡◌, ℕ, ◌+◌, ◌-◌, ◌<◌, ◌≤◌, List, [], ◌∷◌, sym, ap, ◌∙◌, length, drop, get_or, arith, length-drop, drop-drop}
use Rattle.std.proofs.lemmas.List.{get_or-drop}
use Rattle.std.proofs.lemmas.Result.{err_from_is_err_and}
use Rattle.words.specs.Walk.{a_word, no_word}
use Rattle.commands.proofs.numbers.word_at.Goals as goal

-- the words, of which those before word i have been passed
module _ (words : List (List ℕ)) (i : ℕ) where
  too_few : drop (i - 1) words ≡ [] → (k : ℕ) → 1 ≤ k → i ≤ k → length words < k
  too_few none k some within = omega (arith, length-drop (i - 1) words, ap length none)

  module _ {word : List ℕ} {rest : List (List ℕ)} (found : drop (i - 1) words ≡ word ∷ rest) where
    enough : i ≤ length words
    enough = omega (arith, length-drop (i - 1) words, ap length found)

    here : get_or words (i - 1) [] ≡ word
    here = let same : i - 1 + 0 ≡ i - 1 = omega arith in sym (rw same at (get_or-drop (i - 1) words 0 [])) ∙ ap (λ (l : List (List ℕ)). get_or l 0 []) found

    passed : 1 ≤ i → drop (i + 1 - 1) words ≡ rest
    passed one = let on : i + 1 - 1 ≡ i - 1 + 1 = omega arith in rw on (sym (drop-drop 1 (i - 1) words) ∙ ap (drop 1) found)

pub returns-in_err-at : goal.returns-in_err-at
returns-in_err-at c =
    let none = no_word _ _ (sym c.next_word.ensures ∙ c.in_err-at.ensures.ok_part) in
    let few = too_few _ c.loop.counter (c.loop.invariant ∙ none) c.args.k c.requires (omega arith) in
    let fault = rw c.in_err-at.ensures.ok_part at c.in_err-at.ensures.value in
    let p = err_from_is_err_and c.from_residual.result c.from_residual.ensures.1 in
    rw (p.1, p.2) (few, cc)

pub loop-preserved : goal.loop-preserved
loop-preserved c =
    let found = a_word _ _ _ (sym c.next_word.ensures ∙ c.in_ok-at.ensures.ok_part) in
    passed _ c.loop.counter (c.loop.invariant ∙ found.first) (omega arith)

pub returns-in_err-word : goal.returns-in_err-word
returns-in_err-word c =
    let none = no_word _ _ (sym c.next_word-2.ensures ∙ c.in_err-word.ensures.ok_part) in
    let few = too_few _ c.loop.counter (c.loop.invariant ∙ none) c.args.k c.requires (omega arith) in
    let fault = rw c.in_err-word.ensures.ok_part at c.in_err-word.ensures.value in
    let p = err_from_is_err_and c.from_residual-in_err-word.result c.from_residual-in_err-word.ensures.1 in
    rw (p.1, p.2) (few, cc)

pub returns : goal.returns
returns c =
    let found = a_word _ _ _ (sym c.next_word-2.ensures ∙ c.in_ok-word.ensures.ok_part) in
    let at = c.loop.invariant ∙ found.first in
    let last : c.loop.counter ≡ c.args.k = omega arith in
    rw (← last) (enough _ c.loop.counter at, c.part.ensures ∙ sym (here _ c.loop.counter at))
