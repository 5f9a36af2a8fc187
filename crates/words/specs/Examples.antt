-- Worked examples of the definitions, each by computing it.
use Rattle.std.specs.Prelude.{ℕ, ◌≡◌, refl, List, [], ◌∷◌, Some, None}
use Rattle.words.specs.Words.{front, next_word, words_after, words_of}
use Rattle.words.specs.Lines.{without_return}

-- `ab`, tab, space, `c`
line : List ℕ
line = 97 ∷ 98 ∷ 9 ∷ 32 ∷ 99 ∷ []

words_of_line : words_of line ≡ (97 ∷ 98 ∷ []) ∷ (99 ∷ []) ∷ []
unfolding line words_after
words_of_line = refl

second_word : next_word line 2 ≡ Some (record { start = 4; end = 5 })
unfolding line front
second_word = refl

no_third_word : next_word line 5 ≡ None
unfolding line front
no_third_word = refl

one_return : without_return (97 ∷ 13 ∷ 13 ∷ []) ≡ 97 ∷ 13 ∷ []
one_return = refl
