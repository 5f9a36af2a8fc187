-- What the bytes of a line are, out of a stream of bytes.
use Rattle.std.specs.Prelude.{ℕ, ◌-◌, ◌≡◌, Bool, not, cond, List, ◌++◌, eqb, length, take, drop, get_or}
use Rattle.words.specs.Words.{run_end}

-- any byte but this one
abbrev pub other : ℕ → ℕ → Bool
other byte b = not (eqb b byte)

-- the first position, `from` or after it, that holds the byte, or at which the bytes have ended
abbrev pub first_of : ℕ → List ℕ → ℕ → ℕ
first_of byte bytes from = run_end (other byte) bytes from

-- a line without its last byte, where that is a CR
abbrev pub without_return : List ℕ → List ℕ
without_return line = cond (eqb (get_or line (length line - 1) 0) 13) (take (length line - 1) line) line

-- the first `held` bytes of a buffer and more bytes behind them, cut off where the buffer ends
abbrev pub joined : List ℕ → ℕ → List ℕ → List ℕ
joined buffer held more = take (length buffer) (take held buffer ++ more)

-- What `append` answers and leaves: how many bytes are joined, and these in front, with what stood there before behind them.
pub record Appended (before : List ℕ) (held : ℕ) (more after : List ℕ) (r : ℕ) : Type 0 where
  pub counted : r ≡ length (joined before held more)
  pub buffer : after ≡ joined before held more ++ drop r before
