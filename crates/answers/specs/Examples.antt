-- Worked examples of the definitions, each by computing it.
use Rattle.std.specs.Prelude.{ℕ, ◌≡◌, refl, true, List, [], ◌∷◌, pos, negsuc}
use Rattle.words.specs.Words.{front}
use Rattle.decimals.specs.Text.{spelled}
use Rattle.answers.specs.declared.filling.Signed.{Signed}
use Rattle.answers.specs.Filling.{natural_as, whole_as, signed_text, filled}
use Rattle.answers.specs.Texts.{entry_of}

-- −0, as a float can be, and −42
minus_zero : signed_text (record { negative = true; size = 0 }) ≡ 45 ∷ 48 ∷ []
unfolding spelled
minus_zero = refl

minus_forty_two : signed_text (whole_as (negsuc 41)) ≡ 45 ∷ 52 ∷ 50 ∷ []
unfolding spelled
minus_forty_two = refl

numbers : List Signed
numbers = natural_as 7 ∷ whole_as (negsuc 0) ∷ whole_as (pos 3) ∷ []

-- `$=#,#` with the text `ab` is `ab=7,-1`
text_and_two_numbers : filled (36 ∷ 61 ∷ 35 ∷ 44 ∷ 35 ∷ []) (97 ∷ 98 ∷ []) numbers ≡ 97 ∷ 98 ∷ 61 ∷ 55 ∷ 44 ∷ 45 ∷ 49 ∷ []
unfolding numbers filled spelled
text_and_two_numbers = refl

-- `####!` is `7-13!`: there is no fourth number
a_fourth_place : filled (35 ∷ 35 ∷ 35 ∷ 35 ∷ 33 ∷ []) [] numbers ≡ 55 ∷ 45 ∷ 49 ∷ 51 ∷ 33 ∷ []
unfolding numbers filled spelled
a_fourth_place = refl

-- `$$` with the text `#` is `##`: what is filled in is no template
a_text_with_a_place : filled (36 ∷ 36 ∷ []) (35 ∷ []) numbers ≡ 35 ∷ 35 ∷ []
unfolding numbers filled
a_text_with_a_place = refl

-- `ab`, LF, LF, `c`: three texts, of which the second is empty and the last has no LF
texts : List ℕ
texts = 97 ∷ 98 ∷ 10 ∷ 10 ∷ 99 ∷ []

first_text : entry_of 0 texts ≡ 97 ∷ 98 ∷ []
unfolding texts entry_of front
first_text = refl

empty_text : entry_of 1 texts ≡ []
unfolding texts entry_of front
empty_text = refl

last_text : entry_of 2 texts ≡ 99 ∷ []
unfolding texts entry_of front
last_text = refl

no_fourth_text : entry_of 3 texts ≡ []
unfolding texts entry_of front
no_fourth_text = refl
