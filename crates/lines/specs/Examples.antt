-- Worked examples of the definitions, each by computing it.
use Rattle.std.specs.Prelude.{ℕ, refl, true, false, List, [], ◌∷◌}
use Rattle.words.specs.Words.{front}
use Rattle.lines.specs.Taking.{Taking}

-- `ab`, LF, `c`
chunk : List ℕ
chunk = 97 ∷ 98 ∷ 10 ∷ 99 ∷ []

-- `x` was held: `xab` ends with the LF, and the next line starts behind it
first_line : Taking (120 ∷ 0 ∷ 0 ∷ 0 ∷ []) 1 chunk 0 (120 ∷ 97 ∷ 98 ∷ 0 ∷ []) 3 3 true
unfolding chunk front
first_line = record { gathered = record { counted = refl; buffer = refl }; following = refl; ended = refl }

-- `c` is the beginning of one
second_line : Taking (120 ∷ 97 ∷ 98 ∷ 0 ∷ []) 0 chunk 3 (99 ∷ 97 ∷ 98 ∷ 0 ∷ []) 1 4 false
unfolding chunk front
second_line = record { gathered = record { counted = refl; buffer = refl }; following = refl; ended = refl }

-- what finds no room is left out
no_room : Taking (120 ∷ 0 ∷ []) 1 chunk 0 (120 ∷ 97 ∷ []) 2 3 true
unfolding chunk front
no_room = record { gathered = record { counted = refl; buffer = refl }; following = refl; ended = refl }
