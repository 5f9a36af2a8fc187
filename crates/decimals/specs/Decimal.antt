-- What a whole decimal number is, as text and as a value. Text is the list of its bytes, of any length.
use Rattle.std.specs.Prelude.{ℕ, ◌+◌, ◌-◌, ◌*◌, Bool, true, false, cond, ◌&&◌, List, [], ◌∷◌, ℤ, pos, neg_ℤ, ltb, leb, eqb, Result, Ok, Err}
use Rattle.std.proofs.Math.Option.{Option, some, none}
use Rattle.std.specs.Int.Signed.{le_z}
use Rattle.decimals.specs.declared.reading.NotNumber.{NotNumber}
use Rattle.decimals.specs.declared.reading.NotNumber.TheVariants.{NotDecimal, TooLarge}

-- a digit is one of the bytes `0` to `9`
abbrev pub is_digit : ℕ → Bool
is_digit b = cond (ltb b 48) false (leb b 57)

-- every byte is a digit
unfoldable pub are_digits : List ℕ → Bool
are_digits [] = true
are_digits (b ∷ bs) = cond (is_digit b) (are_digits bs) false

-- the value of digits that follow on `before`: each digit counts once, and what stands before it ten times
unfoldable pub natural : ℕ → List ℕ → ℕ
natural before [] = before
natural before (b ∷ bs) = natural (before * 10 + (b - 48)) bs

-- the value of one or more digits
abbrev pub digits_of : List ℕ → Option ℕ
digits_of [] = none
digits_of (b ∷ bs) = cond (are_digits (b ∷ bs)) (some (natural 0 (b ∷ bs))) none

-- a value under a sign
abbrev pub signed : (ℕ → ℤ) → Option ℕ → Option ℤ
signed sign none = none
signed sign (some n) = some (sign n)

-- the value of a whole decimal number: an optional `-`, and one or more digits
abbrev pub value_of : List ℕ → Option ℤ
value_of [] = none
value_of (b ∷ bs) = cond (eqb b 45) (signed (λ (n : ℕ). neg_ℤ (pos n)) (digits_of bs)) (signed pos (digits_of (b ∷ bs)))

-- the numbers of 64 bits: from −2⁶³ to 2⁶³ − 1
abbrev pub fits64 : ℤ → Bool
fits64 z = le_z (neg_ℤ (pos 9223372036854775808)) z && le_z z (pos 9223372036854775807)

-- the numbers of 32 bits: from −2³¹ to 2³¹ − 1
abbrev pub fits32 : ℤ → Bool
fits32 z = le_z (neg_ℤ (pos 2147483648)) z && le_z z (pos 2147483647)

-- a value as a number of 64 bits: itself where it fits
abbrev pub fit64 : ℤ → Result ℤ NotNumber
fit64 z = cond (fits64 z) (Ok z) (Err TooLarge)

-- a value as a number of 32 bits: itself where it fits
abbrev pub fit32 : ℤ → Result ℤ NotNumber
fit32 z = cond (fits32 z) (Ok z) (Err TooLarge)

-- a value, or none where the text is not decimal, as a number of 64 bits
abbrev pub number : Option ℤ → Result ℤ NotNumber
number none = Err NotDecimal
number (some z) = fit64 z

-- the same as a number of 32 bits
abbrev pub number32 : Option ℤ → Result ℤ NotNumber
number32 none = Err NotDecimal
number32 (some z) = fit32 z

-- what text says as a number of 64 bits: its value where it is decimal and the value fits
abbrev pub number_of : List ℕ → Result ℤ NotNumber
number_of text = number (value_of text)

-- what text says as a number of 32 bits: its value where it is decimal and the value fits
abbrev pub number32_of : List ℕ → Result ℤ NotNumber
number32_of text = number32 (value_of text)

-- a magnitude that is held against a limit
abbrev pub bounded : ℕ → ℕ → Result ℕ NotNumber
bounded most n = cond (leb n most) (Ok n) (Err TooLarge)

-- the magnitude that digits say, if they are digits
abbrev pub magnitude_of : ℕ → Option ℕ → Result ℕ NotNumber
magnitude_of most none = Err NotDecimal
magnitude_of most (some n) = bounded most n
