-- Worked examples of the definitions, each by computing it.
use Rattle.std.specs.Prelude.{ℕ, ◌≡◌, refl, List, [], ◌∷◌, pos, negsuc}
use Rattle.words.specs.Words.{words_after, words_of}
use Rattle.decimals.specs.Decimal.{are_digits, natural}
use Rattle.decimals.specs.Text.{spelled}
use Rattle.lists.specs.Lists.{numbers_of, spaced, row_of, Setting}

-- `7 -12` and `7 x 3`
two_numbers : List ℕ
two_numbers = 55 ∷ 32 ∷ 45 ∷ 49 ∷ 50 ∷ []

x_between : List ℕ
x_between = 55 ∷ 32 ∷ 120 ∷ 32 ∷ 51 ∷ []

up_to_the_first_that_is_none : numbers_of (words_of x_between) ≡ pos 7 ∷ []
unfolding x_between words_after are_digits natural numbers_of
up_to_the_first_that_is_none = refl

-- two numbers in front of a list of three, and of one
room_for_both : Setting (pos 1 ∷ pos 2 ∷ pos 3 ∷ []) (pos 7 ∷ negsuc 11 ∷ []) (pos 7 ∷ negsuc 11 ∷ pos 3 ∷ []) 2
room_for_both = record { counted = refl; placed = refl }

room_for_one : Setting (pos 1 ∷ []) (pos 7 ∷ negsuc 11 ∷ []) (pos 7 ∷ []) 1
room_for_one = record { counted = refl; placed = refl }

-- the row `7 -12`
row_of_two : row_of (pos 7 ∷ negsuc 11 ∷ []) ≡ two_numbers
unfolding two_numbers spelled spaced
row_of_two = refl

row_of_none : row_of [] ≡ []
unfolding spaced
row_of_none = refl
