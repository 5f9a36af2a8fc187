-- The number that comes next in a line, and so all numbers from there on.
use Rattle.std.specs.Prelude.{ℕ, ◌≡◌, refl, List, [], ◌∷◌, ℤ, drop, Option, Some, None, MatchOption, Result, Ok, Err}
use Rattle.std.specs.Result.{result_ok}
use Rattle.std.proofs.Common.{ap, sym, ◌∙◌}
use Rattle.words.specs.declared.split.Word.{Word}
use Rattle.words.specs.Words.{next_word, words_of, part_of}
use Rattle.words.specs.Walk.{a_word, no_word}
use Rattle.decimals.specs.declared.reading.NotNumber.{NotNumber}
use Rattle.decimals.specs.Decimal.{number32_of}
use Rattle.lists.specs.Lists.{before, numbers_of}

-- the number, and those behind its word; none where there is none next
abbrev pub numbers_next : List ℕ → Option (ℤ × ℕ) → List ℤ
numbers_next line (Some next) = next.0 ∷ numbers_of (words_of (drop next.1 line))
numbers_next line None = []

-- of any words in a row: where there is none, and of the first
pub no_words_say : {words : List (List ℕ)} → words ≡ [] → numbers_of words ≡ []
unfolding numbers_of
no_words_say e = ap numbers_of e

pub first_word_says : {words rest : List (List ℕ)} {word : List ℕ} {said : Result ℤ NotNumber} → words ≡ word ∷ rest → said ≡ number32_of word → numbers_of words ≡ before said (numbers_of rest)
unfolding numbers_of
first_word_says e p = rw (e, p)

-- where no word is next there is none
pub no_word_says : (line : List ℕ) (from : ℕ) → next_word line from ≡ None → numbers_of (words_of (drop from line)) ≡ []
no_word_says line from e = no_words_say (no_word line from e)

-- the next word says a number before those behind it, or none
module _ (line : List ℕ) (from : ℕ) (word : Word) (said : Result ℤ NotNumber) (found : next_word line from ≡ Some word) (e : said ≡ number32_of (part_of line word.start word.end)) where
  pub a_word_says : numbers_of (words_of (drop from line)) ≡ before said (numbers_of (words_of (drop word.end line)))
  a_word_says = first_word_says (a_word line from word found).first e

  pub a_number : (n : ℤ) → Some n ≡ result_ok said → numbers_of (words_of (drop from line)) ≡ n ∷ numbers_of (words_of (drop word.end line))
  a_number n p = a_word_says ∙ by_said said p
    where
      by_said : (r : Result ℤ NotNumber) → Some n ≡ result_ok r → before r (numbers_of (words_of (drop word.end line))) ≡ n ∷ numbers_of (words_of (drop word.end line))
      by_said (Ok z) q = let same : z ≡ n = cc in rw same
      by_said (Err d) q = cc

  pub no_number : None ≡ result_ok said → numbers_of (words_of (drop from line)) ≡ []
  no_number p = a_word_says ∙ by_said said p
    where
      by_said : (r : Result ℤ NotNumber) → None ≡ result_ok r → before r (numbers_of (words_of (drop word.end line))) ≡ []
      by_said (Ok z) q = cc
      by_said (Err d) q = refl

-- behind the first word are the others, and where there is no word there are none
pub behind : (line : List ℕ) (first : Option Word) (r : ℕ) → first ≡ next_word line 0 → MatchOption first (r ≡ 0) (λ word. r ≡ word.end)
    → words_of (drop r line) ≡ drop 1 (words_of line)
behind line None r e p = let none = no_word line 0 (sym e) in rw p (none ∙ sym (ap (drop 1) none))
behind line (Some word) r e p = rw p (sym (ap (drop 1) (a_word line 0 word (sym e)).first))
