-- Wrong programs with lines and lists of the workbench, each refuted by what it would answer to one call, or leave in a buffer or a list, as in `WrongText.antt`. A call is written by
-- its arguments, what the buffer or list that it changes may hold when it returns, and what may be answered to it, last. Text is the list of its bytes: 97 to 99 are `a` to `c`, 107
-- and 120 `k` and `x`, 32 is a space, 44 a comma, 10 an LF, 45 a `-`, and 48 to 57 are the digits.
use Rattle.std.proofs.Common.{ap}
use Rattle.std.specs.Prelude.{Bool, true, false, List, [], ◌∷◌, map, ℕ, ℤ, pos, negsuc}
use contract.Lifetimes.{Lfts}
use Rattle.words.specs.Words.{front, words_after}
use Rattle.decimals.specs.Decimal.{are_digits, natural}
use Rattle.decimals.specs.Text.{spelled}
use Rattle.lists.specs.Lists.{numbers_of, spaced}
use Rattle.demands.specs.ByContract.{to_change, list}
use Rattle.demands.proofs.InstancesBelow.{bytes}
use Rattle.demands.specs.Refuting.{numbers_differ, lists_differ}
use Rattle.lines.proofs.take.Reads as lines-take
use Rattle.lists.proofs.set.Reads as lists-set
use Rattle.lists.proofs.append_row.Reads as lists-append_row

abbrev two : Lfts 2
two = ([], ([], tt))

-- what is answered, as numbers to be compared
abbrev bit : Bool → ℤ
bit true = pos 1
bit false = pos 0

-- ---- lines::take

abbrev take : (line : List ℕ) (held : ℕ) (chunk : List ℕ) (from : ℕ) (after : List ℕ) (n next : ℕ) (whole : Bool) → Type 0
take line held chunk from after n next whole =
    lines-take.Post two (to_change line, (held, (bytes chunk, (from, tt)))) (record { held = n; next = next; whole = whole }) (to_change after, (held, (bytes chunk, (from, tt))))

-- of `a`, LF, `b` the line `a` is held, without its LF
pub line_feed_held : take (0 ∷ 0 ∷ []) 0 (97 ∷ 10 ∷ 98 ∷ []) 0 (97 ∷ 10 ∷ []) 2 2 true → ⊥
unfolding front
line_feed_held p = numbers_differ tt (ap pos p.gathered.counted)

-- of `a`, LF, `b`, from 2 on, `b` is held, and not `a`
pub taken_from_the_front : take (0 ∷ 0 ∷ []) 0 (97 ∷ 10 ∷ 98 ∷ []) 2 (97 ∷ 0 ∷ []) 1 3 false → ⊥
unfolding front
taken_from_the_front p = lists_differ tt (ap (map pos) p.gathered.buffer)

-- `b` comes behind the `a` that is held, and not over it
pub held_of_a_line_lost : take (97 ∷ 0 ∷ []) 1 (98 ∷ 10 ∷ []) 0 (98 ∷ 0 ∷ []) 1 2 true → ⊥
unfolding front
held_of_a_line_lost p = numbers_differ tt (ap pos p.gathered.counted)

-- the next line of `a`, LF, `b` starts at 2, behind the LF
pub next_line_at_the_line_feed : take (0 ∷ 0 ∷ []) 0 (97 ∷ 10 ∷ 98 ∷ []) 0 (97 ∷ 0 ∷ []) 1 1 true → ⊥
unfolding front
next_line_at_the_line_feed p = numbers_differ tt (ap pos p.following)

-- where `a` ends with its chunk the next line starts there, and not behind that
pub next_line_behind_the_chunk : take (0 ∷ 0 ∷ []) 0 (97 ∷ []) 0 (97 ∷ 0 ∷ []) 1 2 false → ⊥
unfolding front
next_line_behind_the_chunk p = numbers_differ tt (ap pos p.following)

-- the line is not whole then, as more of it may come
pub line_ended_by_its_chunk : take (0 ∷ 0 ∷ []) 0 (97 ∷ []) 0 (97 ∷ 0 ∷ []) 1 1 true → ⊥
unfolding front
line_ended_by_its_chunk p = numbers_differ tt (ap bit p.ended)

-- an LF that is the chunk's last byte ends a line
pub line_feed_at_the_end_passed_over : take (0 ∷ 0 ∷ []) 0 (97 ∷ 10 ∷ []) 0 (97 ∷ 0 ∷ []) 1 2 false → ⊥
unfolding front
line_feed_at_the_end_passed_over p = numbers_differ tt (ap bit p.ended)

-- ---- lists::set

abbrev set : (before : List ℤ) (line : List ℕ) (after : List ℤ) (r : ℕ) → Type 0
set before line after r = lists-set.Post two (to_change before, (bytes line, tt)) r (to_change after, (bytes line, tt))

-- the first word is the command, even where it is a number: `1 2` puts 2 there
pub command_taken_for_a_number : set (pos 0 ∷ pos 0 ∷ []) (49 ∷ 32 ∷ 50 ∷ []) (pos 1 ∷ pos 2 ∷ []) 2 → ⊥
unfolding words_after are_digits natural numbers_of
command_taken_for_a_number p = numbers_differ tt (ap pos p.counted)

-- nothing is put there behind a word that is no number: `k 7 x 3` puts 7 there
pub set_past_a_fault : set (pos 0 ∷ pos 0 ∷ []) (107 ∷ 32 ∷ 55 ∷ 32 ∷ 120 ∷ 32 ∷ 51 ∷ []) (pos 7 ∷ pos 3 ∷ []) 2 → ⊥
unfolding words_after are_digits natural numbers_of
set_past_a_fault p = numbers_differ tt (ap pos p.counted)

-- the numbers stand in the order of the words
pub numbers_set_from_the_right : set (pos 0 ∷ pos 0 ∷ []) (107 ∷ 32 ∷ 55 ∷ 32 ∷ 56 ∷ []) (pos 8 ∷ pos 7 ∷ []) 2 → ⊥
unfolding words_after are_digits natural numbers_of
numbers_set_from_the_right p = lists_differ tt p.placed

-- what stands behind them stays
pub rest_of_the_list_cleared : set (pos 1 ∷ pos 2 ∷ []) (107 ∷ 32 ∷ 55 ∷ []) (pos 7 ∷ pos 0 ∷ []) 1 → ⊥
unfolding words_after are_digits natural numbers_of
rest_of_the_list_cleared p = lists_differ tt p.placed

-- what finds no room is not counted: of 7 and 8 a list of one number takes 7
pub set_and_counted_without_room : set (pos 0 ∷ []) (107 ∷ 32 ∷ 55 ∷ 32 ∷ 56 ∷ []) (pos 7 ∷ []) 2 → ⊥
unfolding words_after are_digits natural numbers_of
set_and_counted_without_room p = numbers_differ tt (ap pos p.counted)

-- what is counted is put there
pub counted_and_not_set : set (pos 0 ∷ []) (107 ∷ 32 ∷ 55 ∷ []) (pos 0 ∷ []) 1 → ⊥
unfolding words_after are_digits natural numbers_of
counted_and_not_set p = lists_differ tt p.placed

-- and what is put there is counted
pub set_and_not_counted : set (pos 0 ∷ []) (107 ∷ 32 ∷ 55 ∷ []) (pos 7 ∷ []) 0 → ⊥
unfolding words_after are_digits natural numbers_of
set_and_not_counted p = numbers_differ tt (ap pos p.counted)

-- ---- lists::append_row

abbrev append_row : (before : List ℕ) (held : ℕ) (row : List ℤ) (after : List ℕ) (r : ℕ) → Type 0
append_row before held row after r = lists-append_row.Post two (to_change before, (held, (list row, tt))) r (to_change after, (held, (list row, tt)))

-- 7 and −8 are written `7 -8`, and not `7-8`
pub no_space_between : append_row (0 ∷ 0 ∷ 0 ∷ 0 ∷ []) 0 (pos 7 ∷ negsuc 7 ∷ []) (55 ∷ 45 ∷ 56 ∷ 0 ∷ []) 3 → ⊥
unfolding spelled spaced
no_space_between p = numbers_differ tt (ap pos p.counted)

-- nor `7,-8`
pub comma_between : append_row (0 ∷ 0 ∷ 0 ∷ 0 ∷ []) 0 (pos 7 ∷ negsuc 7 ∷ []) (55 ∷ 44 ∷ 45 ∷ 56 ∷ []) 4 → ⊥
unfolding spelled spaced
comma_between p = lists_differ tt (ap (map pos) p.buffer)

-- no space stands in front, and none behind
pub space_in_front_of_the_row : append_row (0 ∷ 0 ∷ []) 0 (pos 7 ∷ []) (32 ∷ 55 ∷ []) 2 → ⊥
unfolding spelled spaced
space_in_front_of_the_row p = numbers_differ tt (ap pos p.counted)

pub space_behind_the_row : append_row (0 ∷ 0 ∷ []) 0 (pos 7 ∷ []) (55 ∷ 32 ∷ []) 2 → ⊥
unfolding spelled spaced
space_behind_the_row p = numbers_differ tt (ap pos p.counted)

-- the first number behind what is held has no space before it: 7 behind `a` gives `a7`
pub space_behind_what_is_held : append_row (97 ∷ 0 ∷ 0 ∷ []) 1 (pos 7 ∷ []) (97 ∷ 32 ∷ 55 ∷ []) 3 → ⊥
unfolding spelled spaced
space_behind_what_is_held p = numbers_differ tt (ap pos p.counted)

-- and `a` stays
pub row_over_what_is_held : append_row (97 ∷ 0 ∷ []) 1 (pos 7 ∷ []) (55 ∷ 0 ∷ []) 1 → ⊥
unfolding spelled spaced
row_over_what_is_held p = numbers_differ tt (ap pos p.counted)

-- the last number is written too
pub last_number_left_out : append_row (0 ∷ 0 ∷ 0 ∷ []) 0 (pos 7 ∷ pos 8 ∷ []) (55 ∷ 0 ∷ 0 ∷ []) 1 → ⊥
unfolding spelled spaced
last_number_left_out p = numbers_differ tt (ap pos p.counted)
