-- What a template says, filled in with a text and numbers.
use Rattle.std.specs.Prelude.{ℕ, suc, true, false, cond, List, [], ◌∷◌, ◌++◌, eqb, drop, ℤ, pos, negsuc}
use Rattle.decimals.specs.Text.{decimal_of}
use Rattle.answers.specs.declared.filling.Signed.{Signed}

-- a number as it is written: whether a `-` stands before it, and its size
abbrev pub natural_as : ℕ → Signed
natural_as n = record { negative = false; size = n }

abbrev pub whole_as : ℤ → Signed
whole_as (pos n) = record { negative = false; size = n }
whole_as (negsuc n) = record { negative = true; size = suc n }

-- its text: its digits, behind a `-` where it has one
abbrev pub signed_text : Signed → List ℕ
signed_text number = cond number.negative (45 ∷ decimal_of number.size) (decimal_of number.size)

-- the text of the first of some numbers, and nothing where there is none
abbrev pub next_text : List Signed → List ℕ
next_text [] = []
next_text (number ∷ numbers) = signed_text number

-- what stands for a byte of a template: the next number for `#`, the text for `$`, and for any other byte itself
abbrev pub in_place : ℕ → List ℕ → List Signed → List ℕ
in_place byte text numbers = cond (eqb byte 35) (next_text numbers) (cond (eqb byte 36) text (byte ∷ []))

-- the numbers that are left behind it
abbrev pub left_behind : ℕ → List Signed → List Signed
left_behind byte numbers = cond (eqb byte 35) (drop 1 numbers) numbers

-- the whole template, byte by byte
unfoldable pub filled : List ℕ → List ℕ → List Signed → List ℕ
filled [] text numbers = []
filled (byte ∷ template) text numbers = in_place byte text numbers ++ filled template text (left_behind byte numbers)
