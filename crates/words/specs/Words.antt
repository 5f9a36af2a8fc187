-- What the words of a line are. A line is the list of its bytes.
use Rattle.std.specs.Prelude.{ℕ, suc, ◌+◌, ◌-◌, Bool, true, false, cond, List, [], ◌∷◌, ◌++◌, length, take, drop, ltb, eqb, Option, Some, None}
use Rattle.std.specs.Bool.{beq}
use Rattle.words.specs.declared.split.Word.{Word}

-- a space or a tab separates words; any other byte belongs to one
abbrev pub is_separator : ℕ → Bool
is_separator b = cond (eqb b 32) true (eqb b 9)

-- the test for separators, `alike true`, and the test for bytes of words, `alike false`
abbrev pub alike : Bool → ℕ → Bool
alike blank b = beq (is_separator b) blank

-- how many elements at the front of a list pass the test, before the first that does not
unfoldable pub front : (ℕ → Bool) → List ℕ → ℕ
front test [] = 0
front test (b ∷ bs) = cond (test b) (suc (front test bs)) 0

-- the first position, `from` or after it, at which the byte does not pass the test or the line has ended
abbrev pub run_end : (ℕ → Bool) → List ℕ → ℕ → ℕ
run_end test line from = from + front test (drop from line)

-- the word that starts at `start`, where the line goes so far
abbrev word_from : List ℕ → ℕ → Option Word
word_from line start = cond (ltb start (length line)) (Some (record { start = start; end = run_end (alike false) line start })) None

-- the next word starts at the first position, `from` or after it, that holds no separator, and ends before the next separator or
-- with the line; there is none where separators alone are left
abbrev pub next_word : List ℕ → ℕ → Option Word
next_word line from = word_from line (run_end (alike true) line from)

-- a word put before others, where it is not empty
abbrev pub close : List ℕ → List (List ℕ) → List (List ℕ)
close [] ws = ws
close (b ∷ bs) ws = (b ∷ bs) ∷ ws

-- the words of a line of which the bytes `begun` of a first word have been passed
unfoldable pub words_after : List ℕ → List ℕ → List (List ℕ)
words_after begun [] = close begun []
words_after begun (b ∷ bs) = cond (is_separator b) (close begun (words_after [] bs)) (words_after (begun ++ (b ∷ [])) bs)

-- the words of a line, each a list of bytes, from the left
abbrev pub words_of : List ℕ → List (List ℕ)
words_of line = words_after [] line

-- the bytes at the positions from `start` up to and without `end`, as far as the line has them
abbrev pub part_of : List ℕ → ℕ → ℕ → List ℕ
part_of line start end = take (end - start) (drop start line)
