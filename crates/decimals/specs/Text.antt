-- The decimal text of a whole number: no zero in front, and `-` before a negative one.
use Rattle.std.specs.Prelude.{ℕ, zero, suc, ◌+◌, ◌/◌, ◌%◌, cond, List, [], ◌∷◌, ◌++◌, ltb, ℤ, pos, negsuc}

-- the digits of n, by at most so many divisions by ten: those of a tenth of it, rounded down, and the last digit
unfoldable pub spelled : ℕ → ℕ → List ℕ
spelled zero n = (48 + n) ∷ []
spelled (suc divisions) n = cond (ltb n 10) ((48 + n) ∷ []) (spelled divisions (n / 10) ++ ((48 + n % 10) ∷ []))

-- the digits of n: n divisions are enough
abbrev pub decimal_of : ℕ → List ℕ
decimal_of n = spelled n n

-- the text of a number: its digits, behind a `-` where it is negative
abbrev pub text_of : ℤ → List ℕ
text_of (pos n) = decimal_of n
text_of (negsuc n) = 45 ∷ decimal_of (suc n)
