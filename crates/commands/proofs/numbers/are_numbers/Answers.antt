-- A turn passes one word, by the law of the walk.
use Rattle.std.proofs.Common.{◌≡◌, ℕ, ◌+◌, suc, List, ◌∷◌, Ok, Err, ℤ, sym, ap, ◌∙◌, drop, arith, add-one}
use Rattle.std.proofs.lemmas.Result.{err_from_is_err_and}
use borrow.Author.Tests.{lt-leb}
use Rattle.commands.specs.declared.Fault.{Fault}
use Rattle.words.specs.Words.{words_of}
use Rattle.words.specs.Walk.{a_word, no_word}
use Rattle.commands.specs.Commands.{said32, first_fault}
use Rattle.commands.proofs.numbers.are_numbers.Goals as goal

module _ (k : ℕ) (word : List ℕ) (words : List (List ℕ)) where
  stops : {f : Fault} → said32 (k + 1) word ≡ Err f → first_fault 0 (suc k) (word ∷ words) ≡ Err f
  stops {f} e = let e' : said32 (suc k) word ≡ Err f = rw add-one at e in rw (lt-leb (suc k) 0 (omega arith), e')

  goes_on : {n : ℤ} → said32 (k + 1) word ≡ Ok n → first_fault 0 (suc k) (word ∷ words) ≡ first_fault 0 (suc (k + 1)) words
  goes_on {n} e = let e' : said32 (suc k) word ≡ Ok n = rw add-one at e in rw (add-one, lt-leb (suc k) 0 (omega arith), e')

pub returns-in_err-number32 : goal.returns-in_err-number32
returns-in_err-number32 c =
    let first = rw (← c.part.ensures) at (a_word _ _ _ (sym c.in-Some.ensures)).first in
    let stop = stops c.loop-word.k c.part.result.now (words_of (drop c.in-Some.word.end c.args.line.now)) (sym c.in_err-number32.ensures) in
    let p = err_from_is_err_and c.from_residual.result c.from_residual.ensures.1 in
    rw (p.1, p.2) (sym (c.loop-word.invariant.left ∙ ap (first_fault 0 (suc c.loop-word.k)) first ∙ stop))

pub loop-word-preserved : goal.loop-word-preserved
loop-word-preserved c =
    let found = a_word _ _ _ (sym c.in-Some.ensures) in
    let first = rw (← c.part.ensures) at found.first in
    let on = goes_on c.loop-word.k c.part.result.now (words_of (drop c.in-Some.word.end c.args.line.now)) (sym c.in_ok-number32.ensures) in
    record { left = c.loop-word.invariant.left ∙ ap (first_fault 0 (suc c.loop-word.k)) first ∙ on; few = omega arith }

pub returns : goal.returns
returns c = sym (c.loop-word.invariant.left ∙ ap (first_fault 0 (suc c.loop-word.k)) (no_word _ _ (sym c.in_default.ensures)))
