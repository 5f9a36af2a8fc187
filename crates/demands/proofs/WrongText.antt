-- Wrong programs with text, each refuted by what it would answer to one call, or leave in a buffer, as in `WrongNumbers.antt`. A call is written by its arguments and what may be
-- answered to it, last; one that changes a buffer has before that what the buffer may hold when it returns. Where a function and the one that C links promise the same, a theorem
-- speaks of both. Text is the list of its bytes: 97, 98, 99 and 100 are `a` to `d`, 120 and 121 `x` and `y`, 32 is a space, 9 a tab, 10 an LF, 13 a CR, 43 a `+`, 45 a `-`, and
-- 48 to 57 are the digits.
use Rattle.std.specs.Prelude.{◌≡◌, Bool, true, false, not, ◌&&◌, ◌⊎◌, List, [], ◌∷◌, ◌++◌, ℕ, zero, suc, ◌+◌, ◌/◌, ◌%◌, T, ltb, eqb, ℤ, pos, negsuc, Option, Some, None, Result, Ok, Err}
use Rattle.std.proofs.Common.{sym, ap, subst, ◌∙◌, ltb-true, ltb-false, T_not, leb→le}
use Rattle.std.proofs.Math.Dec.{eqb_refl}
use contract.Lifetimes.{Lfts}
use Rattle.std.specs.Borrow.{Bor}
use Rattle.words.specs.Words.{front, words_after}
use Rattle.words.specs.Lines.{Appended}
use Rattle.words.specs.Runs.{by_test}
use Rattle.words.specs.declared.split.Word.{Word}
use Rattle.decimals.specs.Decimal.{are_digits, natural}
use Rattle.decimals.specs.Text.{spelled, decimal_of}
use Rattle.decimals.specs.Spelling.{one_digit, by_tenths}
use Rattle.decimals.specs.declared.reading.NotNumber.{NotNumber}
use Rattle.decimals.specs.declared.reading.NotNumber.TheVariants.{NotDecimal, TooLarge}
use Rattle.exports.specs.declared.text.Span.{Span}
use Rattle.exports.specs.declared.text.Read.{Read}
use Rattle.exports.specs.declared.text.Read32.{Read32}
use Rattle.exports.specs.Cases.{found, nothing, NumberAs}
use Rattle.exports.specs.Determined.{one_span, one_read, one_read32}
use Rattle.demands.specs.ByContract.{to_change}
use Rattle.demands.proofs.WrongNumbers.{either}
use Rattle.words.proofs.find.Reads as words-find
use Rattle.words.proofs.content.Reads as words-content
use Rattle.words.proofs.next_word.Reads as words-next_word
use Rattle.words.proofs.count.Reads as words-count
use Rattle.words.proofs.part.Reads as words-part
use Rattle.words.proofs.append.Reads as words-append
use Rattle.decimals.proofs.whole.Reads as decimals-whole
use Rattle.decimals.proofs.whole32.Reads as decimals-whole32
use Rattle.decimals.proofs.append_natural.Reads as decimals-append_natural
use Rattle.decimals.proofs.append_whole.Reads as decimals-append_whole
use Rattle.decimals.proofs.append_whole32.Reads as decimals-append_whole32
use Rattle.exports.proofs.negwafir_find.Reads as exports-negwafir_find
use Rattle.exports.proofs.negwafir_content.Reads as exports-negwafir_content
use Rattle.exports.proofs.negwafir_next_word.Reads as exports-negwafir_next_word
use Rattle.exports.proofs.negwafir_count_words.Reads as exports-negwafir_count_words
use Rattle.exports.proofs.negwafir_part.Reads as exports-negwafir_part
use Rattle.exports.proofs.negwafir_append.Reads as exports-negwafir_append
use Rattle.exports.proofs.negwafir_whole.Reads as exports-negwafir_whole
use Rattle.exports.proofs.negwafir_whole32.Reads as exports-negwafir_whole32
use Rattle.exports.proofs.negwafir_append_natural.Reads as exports-negwafir_append_natural
use Rattle.exports.proofs.negwafir_append_whole.Reads as exports-negwafir_append_whole
use Rattle.exports.proofs.negwafir_append_whole32.Reads as exports-negwafir_append_whole32

-- a lent buffer or text
abbrev bytes : List ℕ → Bor (List ℕ)
bytes bs = record { ref_ptr = (0, 0); now = bs }

abbrev one : Lfts 1
one = ([], tt)

abbrev two : Lfts 2
two = ([], ([], tt))

-- the texts `9223372036854775808`, which is 2⁶³, `2147483648`, which is 2³¹, and `20000000000000000000`
abbrev digits_of_2⁶³ : List ℕ
digits_of_2⁶³ = 57 ∷ 50 ∷ 50 ∷ 51 ∷ 51 ∷ 55 ∷ 50 ∷ 48 ∷ 51 ∷ 54 ∷ 56 ∷ 53 ∷ 52 ∷ 55 ∷ 55 ∷ 53 ∷ 56 ∷ 48 ∷ 56 ∷ []

abbrev digits_of_2³¹ : List ℕ
digits_of_2³¹ = 50 ∷ 49 ∷ 52 ∷ 55 ∷ 52 ∷ 56 ∷ 51 ∷ 54 ∷ 52 ∷ 56 ∷ []

abbrev digits_of_2-10¹⁹ : List ℕ
digits_of_2-10¹⁹ = 50 ∷ 48 ∷ 48 ∷ 48 ∷ 48 ∷ 48 ∷ 48 ∷ 48 ∷ 48 ∷ 48 ∷ 48 ∷ 48 ∷ 48 ∷ 48 ∷ 48 ∷ 48 ∷ 48 ∷ 48 ∷ 48 ∷ 48 ∷ []

-- two lists that are worked out and differ
abbrev same : List ℕ → List ℕ → Bool
same [] [] = true
same [] (y ∷ ys) = false
same (x ∷ xs) [] = false
same (x ∷ xs) (y ∷ ys) = eqb x y && same xs ys

and : (a b : Bool) → T a → T b → T (a && b)
and true b s t = t
and false b s t = absurd s

same_list : (xs : List ℕ) → T (same xs xs)
same_list [] = tt
same_list (x ∷ xs) = and (eqb x x) (same xs xs) (eqb_refl x) (same_list xs)

differ : {xs ys : List ℕ} → xs ≡ ys → T (not (same xs ys)) → ⊥
differ {xs} {ys} e t = T_not (same xs ys) t (subst (λ (zs : List ℕ). T (same xs zs)) e (same_list xs))

-- what else is answered, as a list to be compared
abbrev number : ℕ → List ℕ
number n = n ∷ []

abbrev integer : ℤ → List ℕ
integer (pos n) = 0 ∷ n ∷ []
integer (negsuc n) = 1 ∷ n ∷ []

abbrev word : Option Word → List ℕ
word (Some w) = w.start ∷ w.end ∷ []
word None = []

abbrev bit : Bool → ℕ
bit true = 1
bit false = 0

abbrev span : Span → List ℕ
span s = bit s.found ∷ s.start ∷ s.end ∷ []

abbrev kind_and_value : Read → List ℕ
kind_and_value r = r.kind ∷ integer r.value

abbrev kind_and_value32 : Read32 → List ℕ
kind_and_value32 r = r.kind ∷ integer r.value

abbrev read : Result ℤ NotNumber → List ℕ
read (Ok n) = 0 ∷ integer n
read (Err NotDecimal) = 1 ∷ []
read (Err TooLarge) = 2 ∷ []

-- ---- words::next_word

abbrev next_word : List ℕ → ℕ → (r : Option Word) → Type 0
next_word line from r = words-next_word.Post one (bytes line, (from, tt)) r (bytes line, (from, tt))

abbrev next_word_in-C : List ℕ → ℕ → Bool → (start end : ℕ) → Type 0
next_word_in-C line from is start end =
    exports-negwafir_next_word.Post one (bytes line, (from, tt)) (record { found = is; start = start; end = end }) (bytes line, (from, tt))

-- `a`, tab, `b` is two words, and not one
pub tab_in_a_word : next_word (97 ∷ 9 ∷ 98 ∷ []) 0 (Some (record { start = 0; end = 3 })) → ⊥
unfolding front
tab_in_a_word p = differ (ap word p) tt

-- the second word of `a b`, looked for from 1, ends at 3, and not where the search began
pub word_ends_where_the_search_began : next_word (97 ∷ 32 ∷ 98 ∷ []) 1 (Some (record { start = 2; end = 1 })) → ⊥
unfolding front
word_ends_where_the_search_began p = differ (ap word p) tt

-- it starts at 2, and not at the space where the search began
pub word_starts_where_the_search_began : next_word (97 ∷ 32 ∷ 98 ∷ []) 1 (Some (record { start = 1; end = 3 })) → ⊥
unfolding front
word_starts_where_the_search_began p = differ (ap word p) tt

-- a space alone has no word
pub word_of_a_space : next_word (32 ∷ []) 0 (Some (record { start = 0; end = 1 })) → ⊥
unfolding front
word_of_a_space p = differ (ap word p) tt

-- the word of `ab` is from 0 to 2, and not from 2 to 0
pub word_ends_exchanged : next_word_in-C (97 ∷ 98 ∷ []) 0 true 2 0 → ⊥
unfolding front
word_ends_exchanged p = differ (ap span (one_span p found)) tt

-- an empty line has no word, not even an empty one from 0 to 0
pub word_of_nothing : next_word_in-C [] 0 true 0 0 → ⊥
unfolding front
word_of_nothing p = differ (ap span (one_span p nothing)) tt

-- where there is no word both positions are 0, and not where the search ended
pub positions_of_nothing : next_word_in-C (32 ∷ []) 0 false 1 1 → ⊥
unfolding front
positions_of_nothing p = differ (ap span (one_span p nothing)) tt

-- ---- words::count

abbrev count : List ℕ → ℕ → (r : ℕ) → Type 0
count line from r =
    words-count.Post one (bytes line, (from, tt)) r (bytes line, (from, tt)) ⊎ exports-negwafir_count_words.Post one (bytes line, (from, tt)) r (bytes line, (from, tt))

-- `a b` has two words, and not four
pub words_counted_twice : count (97 ∷ 32 ∷ 98 ∷ []) 0 4 → ⊥
unfolding words_after
words_counted_twice p = differ (ap number (either p)) tt

-- an empty line has none
pub empty_word_counted : count [] 0 1 → ⊥
unfolding words_after
empty_word_counted p = differ (ap number (either p)) tt

-- `a b` from 1 on has one
pub words_counted_from_the_front : count (97 ∷ 32 ∷ 98 ∷ []) 1 2 → ⊥
unfolding words_after
words_counted_from_the_front p = differ (ap number (either p)) tt

-- ---- words::part

abbrev part : List ℕ → ℕ → ℕ → (r : List ℕ) → Type 0
part line start end r = words-part.Post one (bytes line, (start, (end, tt))) (bytes r) (bytes line, (start, (end, tt)))

abbrev part_length : List ℕ → ℕ → ℕ → (r : ℕ) → Type 0
part_length line start end r = exports-negwafir_part.Post one (bytes line, (start, (end, tt))) r (bytes line, (start, (end, tt)))

-- `ab c` from 0 to 2 is `ab`, and not the rest of the line
pub part_to_the_end : part (97 ∷ 98 ∷ 32 ∷ 99 ∷ []) 0 2 (97 ∷ 98 ∷ 32 ∷ 99 ∷ []) → ⊥
part_to_the_end p = differ p tt

-- `ab c` from 3 to 4 is `c`, and not the line up to there
pub part_from_the_front : part (97 ∷ 98 ∷ 32 ∷ 99 ∷ []) 3 4 (97 ∷ 98 ∷ 32 ∷ 99 ∷ []) → ⊥
part_from_the_front p = differ p tt

-- `abc` from 1 to 3 has two bytes, and three from the front
pub part_measured_from_the_front : part_length (97 ∷ 98 ∷ 99 ∷ []) 1 3 3 → ⊥
part_measured_from_the_front p = differ (ap number p) tt

-- `abc` from 1 to 2 has one byte, and two to its end
pub part_measured_to_the_end : part_length (97 ∷ 98 ∷ 99 ∷ []) 1 2 2 → ⊥
part_measured_to_the_end p = differ (ap number p) tt

-- no more than the line has is measured: `abc` from 1 to 9 has two bytes, and not eight
pub part_measured_past_the_end : part_length (97 ∷ 98 ∷ 99 ∷ []) 1 9 8 → ⊥
part_measured_past_the_end p = differ (ap number p) tt

-- ---- words::find

abbrev find : List ℕ → (from byte r : ℕ) → Type 0
find bs from byte r =
    words-find.Post one (bytes bs, (from, (byte, tt))) r (bytes bs, (from, (byte, tt))) ⊎ exports-negwafir_find.Post one (bytes bs, (from, (byte, tt))) r (bytes bs, (from, (byte, tt)))

-- the first LF of `ab`, LF is at 2, and not where the search began
pub found_where_the_search_began : find (97 ∷ 98 ∷ 10 ∷ []) 0 10 0 → ⊥
unfolding front
found_where_the_search_began p = differ (ap number (either p)) tt

-- the first LF of `a`, LF, `b`, LF from 2 on is at 3, and not the one at 1
pub found_from_the_front : find (97 ∷ 10 ∷ 98 ∷ 10 ∷ []) 2 10 1 → ⊥
unfolding front
found_from_the_front p = differ (ap number (either p)) tt

-- `ab` has no LF: the answer is 2, where it has ended
pub found_where_there_is_none : find (97 ∷ 98 ∷ []) 0 10 1 → ⊥
unfolding front
found_where_there_is_none p = differ (ap number (either p)) tt

-- ---- words::content

abbrev content : List ℕ → (r : List ℕ) → Type 0
content line r = words-content.Post one (bytes line, tt) (bytes r) (bytes line, tt)

abbrev content_length : List ℕ → (r : ℕ) → Type 0
content_length line r = exports-negwafir_content.Post one (bytes line, tt) r (bytes line, tt)

-- `a`, LF is kept whole: it is a CR that is taken off
pub line_feed_taken_off : content (97 ∷ 10 ∷ []) (97 ∷ []) → ⊥
line_feed_taken_off p = differ p tt

-- `ab`, CR is `ab`: it is the last byte that is asked about
pub first_byte_asked : content (97 ∷ 98 ∷ 13 ∷ []) (97 ∷ 98 ∷ 13 ∷ []) → ⊥
first_byte_asked p = differ p tt

-- `a`, CR, CR loses one of them
pub every_return_taken_off : content (97 ∷ 13 ∷ 13 ∷ []) (97 ∷ []) → ⊥
every_return_taken_off p = differ p tt

-- `ab`, CR has two bytes without the CR
pub return_counted : content_length (97 ∷ 98 ∷ 13 ∷ []) 3 → ⊥
return_counted p = differ (ap number p) tt

-- `ab`, LF has three bytes
pub line_feed_not_counted : content_length (97 ∷ 98 ∷ 10 ∷ []) 2 → ⊥
line_feed_not_counted p = differ (ap number p) tt

-- ---- words::append

abbrev append : (before : List ℕ) (held : ℕ) (more after : List ℕ) (r : ℕ) → Type 0
append before held more after r =
    words-append.Post two (to_change before, (held, (bytes more, tt))) r (to_change after, (held, (bytes more, tt)))
    ⊎ exports-negwafir_append.Post two (to_change before, (held, (bytes more, tt))) r (to_change after, (held, (bytes more, tt)))

-- `cd` appended to a buffer of three bytes that holds `ab` gives `abc`, and not `cb` and the byte that stood there
pub held_bytes_overwritten : append (97 ∷ 98 ∷ 120 ∷ []) 2 (99 ∷ 100 ∷ []) (99 ∷ 98 ∷ 120 ∷ []) 3 → ⊥
held_bytes_overwritten p = differ (either p).buffer tt

-- `b` appended to one that holds `a` gives two bytes, and not `b` alone
pub appended_at_the_front : append (97 ∷ 120 ∷ []) 1 (98 ∷ []) (98 ∷ 120 ∷ []) 1 → ⊥
appended_at_the_front p = differ (ap number (either p).counted) tt

-- what is put there is counted: `c` behind `ab` gives three bytes
pub put_and_not_counted : append (97 ∷ 98 ∷ 120 ∷ []) 2 (99 ∷ []) (97 ∷ 98 ∷ 99 ∷ []) 2 → ⊥
put_and_not_counted p = differ (ap number (either p).counted) tt

-- what finds no room is not counted: `cd` behind `ab` gives three in a buffer of three
pub counted_without_room : append (97 ∷ 98 ∷ 120 ∷ []) 2 (99 ∷ 100 ∷ []) (97 ∷ 98 ∷ 99 ∷ []) 4 → ⊥
counted_without_room p = differ (ap number (either p).counted) tt

-- the bytes behind them stay: `c` behind `ab` leaves the fourth byte of the buffer as it was
pub changed_behind_the_answer : append (97 ∷ 98 ∷ 120 ∷ 121 ∷ []) 2 (99 ∷ []) (97 ∷ 98 ∷ 99 ∷ 0 ∷ []) 3 → ⊥
changed_behind_the_answer p = differ (either p).buffer tt

-- what is counted is put there: the third byte of `abx` is then `c`, and not `x`
pub counted_and_not_put : append (97 ∷ 98 ∷ 120 ∷ []) 2 (99 ∷ []) (97 ∷ 98 ∷ 120 ∷ []) 3 → ⊥
counted_and_not_put p = differ (either p).buffer tt

-- ---- decimals::whole

abbrev whole : List ℕ → (r : Result ℤ NotNumber) → Type 0
whole text r = decimals-whole.Post one (bytes text, tt) r (bytes text, tt)

abbrev whole_in-C : List ℕ → (kind : ℕ) (value : ℤ) → Type 0
whole_in-C text kind value = exports-negwafir_whole.Post one (bytes text, tt) (record { kind = kind; value = value }) (bytes text, tt)

-- `10` is 10, and 9 in base nine
pub base_nine : whole (49 ∷ 48 ∷ []) (Ok (pos 9)) → ⊥
unfolding are_digits natural
base_nine p = differ (ap read p) tt

-- `0` is 0, and not 1
pub digit_off_by_one : whole (48 ∷ []) (Ok (pos 1)) → ⊥
unfolding are_digits natural
digit_off_by_one p = differ (ap read p) tt

-- `-5` is −5, and not 5
pub sign_dropped : whole (45 ∷ 53 ∷ []) (Ok (pos 5)) → ⊥
unfolding are_digits natural
sign_dropped p = differ (ap read p) tt

-- `-5` is a number, as `-` is a sign
pub minus_no_sign : whole (45 ∷ 53 ∷ []) (Err NotDecimal) → ⊥
unfolding are_digits natural
minus_no_sign p = differ (ap read p) tt

-- `+5` is no number, as `+` is no sign
pub plus_a_sign : whole (43 ∷ 53 ∷ []) (Ok (pos 5)) → ⊥
unfolding are_digits natural
plus_a_sign p = differ (ap read p) tt

-- 9223372036854775808 is no number of 64 bits, whichever might be taken for it
pub limit_too_large : (n : ℤ) → whole digits_of_2⁶³ (Ok n) → ⊥
unfolding are_digits natural
limit_too_large n p = differ (ap read p) tt

-- −9223372036854775808 is a number of 64 bits
pub least_number_lost : whole (45 ∷ digits_of_2⁶³) (Err TooLarge) → ⊥
unfolding are_digits natural
least_number_lost p = differ (ap read p) tt

-- 20000000000000000000 wraps to 1553255926290448384 in 64 bits, and is too large
pub sum_wraps : whole digits_of_2-10¹⁹ (Ok (pos 1553255926290448384)) → ⊥
unfolding are_digits natural
sum_wraps p = differ (ap read p) tt

-- `5` is kind 0, and not that of what is too large
pub number_of_another_kind : whole_in-C (53 ∷ []) 2 (pos 5) → ⊥
unfolding are_digits natural
number_of_another_kind p = differ (ap kind_and_value (one_read p NumberAs.whole)) tt

-- `x` is no decimal number, kind 1, and not too large
pub kinds_exchanged : whole_in-C (120 ∷ []) 2 (pos 0) → ⊥
unfolding are_digits natural
kinds_exchanged p = differ (ap kind_and_value (one_read p NumberAs.not_decimal)) tt

-- where the text is no number the value is 0, and nothing else
pub value_of_no_number : whole_in-C (120 ∷ []) 1 (pos 7) → ⊥
unfolding are_digits natural
value_of_no_number p = differ (ap kind_and_value (one_read p NumberAs.not_decimal)) tt

-- 9223372036854775808 is too large, kind 2, and not kind 0, whichever number might be taken for it
pub too_large_called_a_number : (n : ℤ) → whole_in-C digits_of_2⁶³ 0 n → ⊥
unfolding are_digits natural
too_large_called_a_number n p = differ (ap kind_and_value (one_read p NumberAs.too_large)) tt

-- ---- decimals::whole32

abbrev whole32 : List ℕ → (r : Result ℤ NotNumber) → Type 0
whole32 text r = decimals-whole32.Post one (bytes text, tt) r (bytes text, tt)

abbrev whole32_in-C : List ℕ → (kind : ℕ) (value : ℤ) → Type 0
whole32_in-C text kind value = exports-negwafir_whole32.Post one (bytes text, tt) (record { kind = kind; value = value }) (bytes text, tt)

-- 2147483648 is no number of 32 bits, whichever might be taken for it
pub limit32_too_large : (n : ℤ) → whole32 digits_of_2³¹ (Ok n) → ⊥
unfolding are_digits natural
limit32_too_large n p = differ (ap read p) tt

-- −2147483648 is a number of 32 bits
pub least32_lost : whole32 (45 ∷ digits_of_2³¹) (Err TooLarge) → ⊥
unfolding are_digits natural
least32_lost p = differ (ap read p) tt

-- `x` is no decimal number, kind 1, and not too large
pub kinds32_exchanged : whole32_in-C (120 ∷ []) 2 (pos 0) → ⊥
unfolding are_digits natural
kinds32_exchanged p = differ (ap kind_and_value32 (one_read32 p NumberAs.not_decimal)) tt

-- 2147483648 is too large, kind 2, and does not wrap
pub number32_wraps : whole32_in-C digits_of_2³¹ 0 (negsuc 2147483647) → ⊥
unfolding are_digits natural
number32_wraps p = differ (ap kind_and_value32 (one_read32 p NumberAs.too_large)) tt

-- where it is too large the value is 0, and not the largest number
pub value_of_no_number32 : whole32_in-C digits_of_2³¹ 2 (pos 2147483647) → ⊥
unfolding are_digits natural
value_of_no_number32 p = differ (ap kind_and_value32 (one_read32 p NumberAs.too_large)) tt

-- ---- decimals::append_natural

abbrev append_natural : (before : List ℕ) (held : ℕ) (n : ℕ) (after : List ℕ) (r : ℕ) → Type 0
append_natural before held n after r =
    decimals-append_natural.Post one (to_change before, (held, (n, tt))) r (to_change after, (held, (n, tt)))
    ⊎ exports-negwafir_append_natural.Post one (to_change before, (held, (n, tt))) r (to_change after, (held, (n, tt)))

-- so many divisions by ten leave one digit of n, and then they are enough to write it
abbrev short : (divisions n : ℕ) → Bool
short zero n = ltb n 10
short (suc divisions) n = short divisions (n / 10)

enough : (f n : ℕ) → T (short f n) → spelled f n ≡ decimal_of n
unfolding spelled
enough zero n t = one_digit n (leb→le (suc n) 10 t)
enough (suc f) n t =
    by_test (ltb n 10)
    (λ (e : ltb n 10 ≡ true). rw e (one_digit n (ltb-true n 10 e)))
    (λ (e : ltb n 10 ≡ false). rw e (ap (λ (l : List ℕ). l ++ ((48 + n % 10) ∷ [])) (enough f (n / 10) t) ∙ by_tenths n (ltb-false n 10 e)))

written_so : (f n : ℕ) {before after : List ℕ} {held r : ℕ} → T (short f n) → Appended before held (decimal_of n) after r → Appended before held (spelled f n) after r
written_so f n {before} {after} {held} {r} t p = subst (λ (ds : List ℕ). Appended before held ds after r) (sym (enough f n t)) p

-- 5 is written `5`, and not `05`
pub zero_in_front : append_natural (120 ∷ 120 ∷ []) 0 5 (48 ∷ 53 ∷ []) 2 → ⊥
unfolding spelled
zero_in_front p = differ (ap number (either p).counted) tt

-- 10 is written `10`, and not `11`, though nine leaves 1 over
pub last_digit_by_nine : append_natural (120 ∷ 120 ∷ []) 0 10 (49 ∷ 49 ∷ []) 2 → ⊥
unfolding spelled
last_digit_by_nine p = differ (either p).buffer tt

-- 18446744073709551615 is written with its twenty digits, and not as `-1`
pub natural_as_signed : append_natural (120 ∷ 120 ∷ 120 ∷ []) 0 18446744073709551615 (45 ∷ 49 ∷ 120 ∷ []) 2 → ⊥
unfolding spelled
natural_as_signed p = differ (ap number (written_so 19 18446744073709551615 tt (either p)).counted) tt

-- ---- decimals::append_whole

abbrev append_whole : (before : List ℕ) (held : ℕ) (n : ℤ) (after : List ℕ) (r : ℕ) → Type 0
append_whole before held n after r =
    decimals-append_whole.Post one (to_change before, (held, (n, tt))) r (to_change after, (held, (n, tt)))
    ⊎ exports-negwafir_append_whole.Post one (to_change before, (held, (n, tt))) r (to_change after, (held, (n, tt)))

-- −5 is written `-5`, and not `+5`
pub sign_written_plus : append_whole (120 ∷ 120 ∷ []) 0 (negsuc 4) (43 ∷ 53 ∷ []) 2 → ⊥
unfolding spelled
sign_written_plus p = differ (either p).buffer tt

-- −5 is not written `5`, over the sign
pub sign_overwritten : append_whole (120 ∷ 120 ∷ []) 0 (negsuc 4) (53 ∷ 120 ∷ []) 1 → ⊥
unfolding spelled
sign_overwritten p = differ (ap number (either p).counted) tt

-- 5 behind `a` leaves `a5`, and not `5`
pub whole_at_the_front : append_whole (97 ∷ 120 ∷ []) 1 (pos 5) (53 ∷ 120 ∷ []) 1 → ⊥
unfolding spelled
whole_at_the_front p = differ (ap number (either p).counted) tt

-- nor are two bytes counted and the `a` written over
pub whole_over_what_is_held : append_whole (97 ∷ 120 ∷ []) 1 (pos 5) (53 ∷ 120 ∷ []) 2 → ⊥
unfolding spelled
whole_over_what_is_held p = differ (either p).buffer tt

-- ---- decimals::append_whole32

abbrev append_whole32 : (before : List ℕ) (held : ℕ) (n : ℤ) (after : List ℕ) (r : ℕ) → Type 0
append_whole32 before held n after r =
    decimals-append_whole32.Post one (to_change before, (held, (n, tt))) r (to_change after, (held, (n, tt)))
    ⊎ exports-negwafir_append_whole32.Post one (to_change before, (held, (n, tt))) r (to_change after, (held, (n, tt)))

-- 5 is written `5`, and not `0`
pub number32_always_0 : append_whole32 (120 ∷ []) 0 (pos 5) (48 ∷ []) 1 → ⊥
unfolding spelled
number32_always_0 p = differ (either p).buffer tt

-- 5 behind `ab` gives three bytes, and not `5b` and one
pub number32_overwrites : append_whole32 (97 ∷ 98 ∷ 120 ∷ []) 2 (pos 5) (53 ∷ 98 ∷ 120 ∷ []) 1 → ⊥
unfolding spelled
number32_overwrites p = differ (ap number (either p).counted) tt

-- where it is written it is counted, so that nothing is written over it: after 5 in a buffer that held nothing the answer is 1, and not 0
pub number32_not_counted : append_whole32 (120 ∷ []) 0 (pos 5) (53 ∷ []) 0 → ⊥
unfolding spelled
number32_not_counted p = differ (ap number (either p).counted) tt

-- 5 in a buffer of two bytes leaves the second as it was
pub number32_changes_behind_the_answer : append_whole32 (120 ∷ 121 ∷ []) 0 (pos 5) (53 ∷ 0 ∷ []) 1 → ⊥
unfolding spelled
number32_changes_behind_the_answer p = differ (either p).buffer tt
