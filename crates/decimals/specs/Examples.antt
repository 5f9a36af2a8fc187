-- Worked examples of the definitions, each by computing it.
use Rattle.std.specs.Prelude.{ℕ, ◌≡◌, refl, List, [], ◌∷◌, pos, negsuc, Ok, Err}
use Rattle.std.proofs.Math.Option.{some, none}
use Rattle.decimals.specs.declared.reading.NotNumber.TheVariants.{NotDecimal, TooLarge}
use Rattle.decimals.specs.Decimal.{are_digits, natural, value_of, number_of}
use Rattle.decimals.specs.Text.{spelled, text_of}

-- `-007`, `-`, and a space before a digit
minus_seven : value_of (45 ∷ 48 ∷ 48 ∷ 55 ∷ []) ≡ some (negsuc 6)
unfolding are_digits natural
minus_seven = refl

sign_alone : value_of (45 ∷ []) ≡ none
sign_alone = refl

space_in_front : number_of (32 ∷ 49 ∷ []) ≡ Err NotDecimal
unfolding are_digits
space_in_front = refl

-- 9223372036854775800 with another last digit
limit : ℕ → List ℕ
limit last = 57 ∷ 50 ∷ 50 ∷ 51 ∷ 51 ∷ 55 ∷ 50 ∷ 48 ∷ 51 ∷ 54 ∷ 56 ∷ 53 ∷ 52 ∷ 55 ∷ 55 ∷ 53 ∷ 56 ∷ 48 ∷ last ∷ []

-- the greatest and the least number of 64 bits, and the next after either
greatest : number_of (limit 55) ≡ Ok (pos 9223372036854775807)
unfolding limit are_digits natural
greatest = refl

past_greatest : number_of (limit 56) ≡ Err TooLarge
unfolding limit are_digits natural
past_greatest = refl

least : number_of (45 ∷ limit 56) ≡ Ok (negsuc 9223372036854775807)
unfolding limit are_digits natural
least = refl

past_least : number_of (45 ∷ limit 57) ≡ Err TooLarge
unfolding limit are_digits natural
past_least = refl

text_of_minus_forty_two : text_of (negsuc 41) ≡ 45 ∷ 52 ∷ 50 ∷ []
unfolding spelled
text_of_minus_forty_two = refl
