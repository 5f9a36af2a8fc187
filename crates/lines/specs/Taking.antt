-- A piece of a line, out of a chunk of a stream: where it ends, and what is so once it is taken.
use Rattle.std.specs.Prelude.{ℕ, ◌+◌, ◌≡◌, Bool, cond, List, ltb, length}
use Rattle.words.specs.Words.{part_of}
use Rattle.words.specs.Lines.{first_of, Appended}

-- the piece ends before the next LF, which is the byte 10, or with the chunk, or at `from` past its end
abbrev pub end_of : List ℕ → ℕ → ℕ
end_of chunk from = first_of 10 chunk from

-- the next line starts behind the LF, or where the piece has ended in a chunk of this size that has no more
abbrev pub behind : ℕ → ℕ → ℕ
behind end size = cond (ltb end size) (end + 1) end

-- What `take` answers and leaves: the piece is appended to what was held of the line, and the line is whole where an LF has ended it.
pub record Taking (before : List ℕ) (held : ℕ) (chunk : List ℕ) (from : ℕ) (after : List ℕ) (n next : ℕ) (whole : Bool) : Type 0 where
  pub gathered : Appended before held (part_of chunk from (end_of chunk from)) after n
  pub following : next ≡ behind (end_of chunk from) (length chunk)
  pub ended : whole ≡ ltb (end_of chunk from) (length chunk)
