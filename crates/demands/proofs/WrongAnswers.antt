-- Wrong programs with answers as text, each refuted by what it would answer to one call, or leave in a buffer, as in `WrongText.antt`, where the bytes are told. Besides, 33 is `!`, 35 the
-- place of a number, `#`, 36 that of the text, `$`, 44 a `,` and 46 a `.`.
use Rattle.std.proofs.Common.{ap}
use Rattle.std.specs.Prelude.{Bool, true, false, List, [], ◌∷◌, map, ℕ, ℤ, pos, negsuc}
use Rattle.words.specs.Words.{front}
use Rattle.decimals.specs.Text.{spelled}
use Rattle.answers.specs.declared.filling.Signed.{Signed}
use Rattle.answers.specs.Filling.{filled}
use Rattle.answers.specs.Texts.{entry_of}
use Rattle.demands.specs.ByContract.{to_change}
use Rattle.demands.proofs.InstancesBelow.{bytes, three_numbers}
use Rattle.demands.specs.Refuting.{lists_differ}
use Rattle.answers.proofs.filling.SignedFromU64.from.Reads as answers-natural
use Rattle.answers.proofs.filling.SignedFromI64.from.Reads as answers-whole
use Rattle.answers.proofs.filling.SignedFromI32.from.Reads as answers-whole32
use Rattle.answers.proofs.fill.Reads as answers-fill
use Rattle.answers.proofs.entry.Reads as answers-entry

-- a number, and a number as it is written, each as a list to be compared
abbrev number : ℕ → List ℤ
number n = pos n ∷ []

abbrev bit : Bool → ℕ
bit true = 1
bit false = 0

abbrev sign_and_size : Signed → List ℤ
sign_and_size s = pos (bit s.negative) ∷ pos s.size ∷ []

-- ---- answers::Signed::from, of 64 bits without a sign

abbrev natural : ℕ → (negative : Bool) (size : ℕ) → Type 0
natural n negative size = answers-natural.Post tt (n, tt) (record { negative = negative; size = size }) (n, tt)

-- 5 has no `-`
pub natural_below_zero : natural 5 true 5 → ⊥
natural_below_zero p = lists_differ tt (ap sign_and_size p)

-- 5 is not 0
pub natural_always_0 : natural 5 false 0 → ⊥
natural_always_0 p = lists_differ tt (ap sign_and_size p)

-- 18446744073709551615 is no −1
pub natural_as_its_bits : natural 18446744073709551615 true 1 → ⊥
natural_as_its_bits p = lists_differ tt (ap sign_and_size p)

-- ---- answers::Signed::from, of 64 bits

abbrev whole : ℤ → (negative : Bool) (size : ℕ) → Type 0
whole n negative size = answers-whole.Post tt (n, tt) (record { negative = negative; size = size }) (n, tt)

-- −5 is not 5
pub whole_without_its_sign : whole (negsuc 4) false 5 → ⊥
whole_without_its_sign p = lists_differ tt (ap sign_and_size p)

-- 5 is not −5
pub every_whole_below_zero : whole (pos 5) true 5 → ⊥
every_whole_below_zero p = lists_differ tt (ap sign_and_size p)

-- 0 is not −0
pub whole_minus_zero : whole (pos 0) true 0 → ⊥
whole_minus_zero p = lists_differ tt (ap sign_and_size p)

-- −9223372036854775808 is 9223372036854775808 in size, and not one less, as the greatest number is
pub least_whole_too_small : whole (negsuc 9223372036854775807) true 9223372036854775807 → ⊥
least_whole_too_small p = lists_differ tt (ap sign_and_size p)

-- ---- answers::Signed::from, of 32 bits

abbrev whole32 : ℤ → (negative : Bool) (size : ℕ) → Type 0
whole32 n negative size = answers-whole32.Post tt (n, tt) (record { negative = negative; size = size }) (n, tt)

-- −5 is not 5
pub whole32_without_its_sign : whole32 (negsuc 4) false 5 → ⊥
whole32_without_its_sign p = lists_differ tt (ap sign_and_size p)

-- −1 is not its bits, 4294967295
pub whole32_as_its_bits : whole32 (negsuc 0) false 4294967295 → ⊥
whole32_as_its_bits p = lists_differ tt (ap sign_and_size p)

-- −2147483648 is 2147483648 in size, and not one less
pub least_whole32_too_small : whole32 (negsuc 2147483647) true 2147483647 → ⊥
least_whole32_too_small p = lists_differ tt (ap sign_and_size p)

-- ---- answers::fill

-- with the numbers 7, −0 and 3
abbrev fill : (before : List ℕ) (held : ℕ) (template text after : List ℕ) (r : ℕ) → Type 0
fill before held template text after r =
    answers-fill.Post ([], ([], ([], ([], tt)))) (to_change before, (held, (bytes template, (bytes text, (three_numbers, tt))))) r
    (to_change after, (held, (bytes template, (bytes text, (three_numbers, tt)))))

-- `#,#` is `7,-0`, and not `7,7`
pub first_number_again : fill (46 ∷ 46 ∷ 46 ∷ 46 ∷ []) 0 (35 ∷ 44 ∷ 35 ∷ []) [] (55 ∷ 44 ∷ 55 ∷ 46 ∷ []) 3 → ⊥
unfolding filled spelled
first_number_again p = lists_differ tt (ap (map pos) p.buffer)

-- and not `3,-0`
pub numbers_from_the_last : fill (46 ∷ 46 ∷ 46 ∷ 46 ∷ []) 0 (35 ∷ 44 ∷ 35 ∷ []) [] (51 ∷ 44 ∷ 45 ∷ 48 ∷ []) 4 → ⊥
unfolding filled spelled
numbers_from_the_last p = lists_differ tt (ap (map pos) p.buffer)

-- and not `7,0`, as −0 has its `-`
pub minus_zero_without_its_sign : fill (46 ∷ 46 ∷ 46 ∷ 46 ∷ []) 0 (35 ∷ 44 ∷ 35 ∷ []) [] (55 ∷ 44 ∷ 48 ∷ 46 ∷ []) 3 → ⊥
unfolding filled spelled
minus_zero_without_its_sign p = lists_differ tt (ap (map pos) p.buffer)

-- `####` is `7-03`, and the numbers do not begin again
pub numbers_begin_again : fill (46 ∷ 46 ∷ 46 ∷ 46 ∷ 46 ∷ []) 0 (35 ∷ 35 ∷ 35 ∷ 35 ∷ []) [] (55 ∷ 45 ∷ 48 ∷ 51 ∷ 55 ∷ []) 5 → ⊥
unfolding filled spelled
numbers_begin_again p = lists_differ tt (ap (map pos) p.buffer)

-- nor is a fourth place left as it is
pub fourth_place_left : fill (46 ∷ 46 ∷ 46 ∷ 46 ∷ 46 ∷ []) 0 (35 ∷ 35 ∷ 35 ∷ 35 ∷ []) [] (55 ∷ 45 ∷ 48 ∷ 51 ∷ 35 ∷ []) 5 → ⊥
unfolding filled spelled
fourth_place_left p = lists_differ tt (ap (map pos) p.buffer)

-- `$!` with the text `ab` is `ab!`, and not itself
pub text_left_out : fill (46 ∷ 46 ∷ 46 ∷ []) 0 (36 ∷ 33 ∷ []) (97 ∷ 98 ∷ []) (36 ∷ 33 ∷ 46 ∷ []) 2 → ⊥
unfolding filled
text_left_out p = lists_differ tt (ap (map pos) p.buffer)

-- `$$` with the text `a` is `aa`, and not the text once
pub text_put_once : fill (46 ∷ 46 ∷ 46 ∷ []) 0 (36 ∷ 36 ∷ []) (97 ∷ []) (97 ∷ 46 ∷ 46 ∷ []) 1 → ⊥
unfolding filled
text_put_once p = lists_differ tt (ap (map pos) p.buffer)

-- `$` with the text `#` is `#`, and no number: a text is no template
pub text_filled_in_too : fill (46 ∷ 46 ∷ []) 0 (36 ∷ []) (35 ∷ []) (55 ∷ 46 ∷ []) 1 → ⊥
unfolding filled
text_filled_in_too p = lists_differ tt (ap (map pos) p.buffer)

-- `!` behind `a` is `a!`
pub filled_in_at_the_front : fill (97 ∷ 46 ∷ []) 1 (33 ∷ []) [] (33 ∷ 46 ∷ []) 1 → ⊥
unfolding filled
filled_in_at_the_front p = lists_differ tt (ap (map pos) p.buffer)

-- what finds no room is not counted
pub filled_in_without_room : fill (46 ∷ []) 0 (33 ∷ 33 ∷ []) [] (33 ∷ []) 2 → ⊥
unfolding filled
filled_in_without_room p = lists_differ tt (ap number p.counted)

-- an empty template counts no more bytes than the buffer has
pub more_held_than_there_is : fill (97 ∷ []) 5 [] [] (97 ∷ []) 5 → ⊥
unfolding filled
more_held_than_there_is p = lists_differ tt (ap number p.counted)

-- the bytes behind what is put stay
pub filled_in_and_changed_behind : fill (46 ∷ 46 ∷ []) 0 (33 ∷ []) [] (33 ∷ 0 ∷ []) 1 → ⊥
unfolding filled
filled_in_and_changed_behind p = lists_differ tt (ap (map pos) p.buffer)

-- ---- answers::entry

abbrev entry : List ℕ → ℕ → (r : List ℕ) → Type 0
entry texts k r = answers-entry.Post ([], tt) (bytes texts, (k, tt)) (bytes r) (bytes texts, (k, tt))

-- of `a`, LF, `b`, LF the first entry is `a`, without its LF
pub line_feed_kept : entry (97 ∷ 10 ∷ 98 ∷ 10 ∷ []) 0 (97 ∷ 10 ∷ []) → ⊥
unfolding entry_of front
line_feed_kept p = lists_differ tt (ap (map pos) p)

-- and not all that follows
pub entry_to_the_end : entry (97 ∷ 10 ∷ 98 ∷ 10 ∷ []) 0 (97 ∷ 10 ∷ 98 ∷ 10 ∷ []) → ⊥
unfolding entry_of front
entry_to_the_end p = lists_differ tt (ap (map pos) p)

-- entry 1 is `b`: they are counted from 0
pub entries_counted_from_1 : entry (97 ∷ 10 ∷ 98 ∷ 10 ∷ []) 1 (97 ∷ []) → ⊥
unfolding entry_of front
entries_counted_from_1 p = lists_differ tt (ap (map pos) p)

-- there is no entry 5, and the last one is not taken for it
pub last_entry_for_none : entry (97 ∷ 10 ∷ 98 ∷ []) 5 (98 ∷ []) → ⊥
unfolding entry_of front
last_entry_for_none p = lists_differ tt (ap (map pos) p)
