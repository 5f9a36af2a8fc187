-- What the words of a line say as a list of numbers of 32 bits, and what a list says as text. A word is the list of its bytes.
use Rattle.std.specs.Prelude.{ℕ, ◌≡◌, List, [], ◌∷◌, ◌++◌, ℤ, length, take, drop, Result, Ok, Err}
use Rattle.decimals.specs.declared.reading.NotNumber.{NotNumber}
use Rattle.decimals.specs.Decimal.{number32_of}
use Rattle.decimals.specs.Text.{text_of}

-- a number before others, and nothing where it is none
abbrev pub before : Result ℤ NotNumber → List ℤ → List ℤ
before (Ok n) ns = n ∷ ns
before (Err e) ns = []

-- the numbers that words say, up to the first word that is none
unfoldable pub numbers_of : List (List ℕ) → List ℤ
numbers_of [] = []
numbers_of (w ∷ ws) = before (number32_of w) (numbers_of ws)

-- What `set` answers and leaves: as many of the numbers as the list has room for, in front of what stood behind them.
pub record Setting (list numbers after : List ℤ) (r : ℕ) : Type 0 where
  pub counted : r ≡ length (take (length list) numbers)
  pub placed : after ≡ take (length list) numbers ++ drop r list

-- the text of each number behind a space, which is the byte 32
unfoldable pub spaced : List ℤ → List ℕ
spaced [] = []
spaced (n ∷ ns) = 32 ∷ (text_of n ++ spaced ns)

-- the row: without the space before the first
abbrev pub row_of : List ℤ → List ℕ
row_of list = drop 1 (spaced list)
