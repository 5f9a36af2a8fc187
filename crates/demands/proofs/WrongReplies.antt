-- Wrong programs with the replies of the workbench, each refuted by the line that it would put into an empty buffer for one reply. A comment has the text of that line, and why it is wrong.
use Rattle.std.specs.Prelude.{ℕ, zero, suc, ◌+◌, ◌/◌, ◌%◌, ◌≤◌, ◌≡◌, refl, Bool, true, false, cond, T, eqb, ltb, Result, Ok, Err, List, [], ◌∷◌, ◌++◌, get_or, drop, ℤ, pos, negsuc, Float, length}
use Rattle.std.proofs.Common.{ap, sym, subst, ◌∙◌, arith, ltb-true, ltb-false}
use Rattle.std.specs.Float.{fin}
use Rattle.words.specs.Runs.{by_test}
use Rattle.words.specs.Lines.{Appended}
use Rattle.decimals.specs.Text.{spelled, decimal_of}
use Rattle.answers.specs.Filling.{filled}
use Rattle.commands.specs.declared.Fault.{Fault}
use Rattle.commands.specs.declared.Fault.TheVariants.{TooLong, NoCommand, TooFew, TooMany, NoList, NotDecimal, Beyond32, Beyond64, BeyondUnsigned}
use Rattle.rules.specs.declared.Refused.{Refused}
use Rattle.rules.specs.declared.Cause.{Cause}
use Rattle.rules.specs.declared.Cause.TheVariants as cause
use Rattle.piece.specs.declared.Verdict.TheVariants.{Rising, Falling, Flat, Bends}
use Rattle.drive.specs.declared.Answer.TheVariants.{Dwell, Move}
use Rattle.replies.specs.declared.Reply.{Reply}
use Rattle.replies.specs.declared.Reply.TheVariants.{Silent, Wrong, Done, Count, Judged, Valued, Driven, SlopeUnit, Numbered}
use Rattle.replies.specs.Floats.{float_as}
use Rattle.replies.specs.Replies.{fault_line, refused_line, line_of}
use Rattle.demands.specs.ByContract.{to_change}
use Rattle.demands.specs.Refuting.{lists_differ}
use Rattle.replies.proofs.append_reply.Reads as replies-append_reply

-- `append_reply`, of a buffer of which `held` bytes are held
abbrev append : (before : List ℕ) (held : ℕ) → Reply → (after : List ℕ) (r : ℕ) → Type 0
append before held reply after r = replies-append_reply.Post ([], tt) (to_change before, (held, (reply, tt))) r (to_change after, (held, (reply, tt)))

-- a buffer of `.` that has room for one byte more than a line
abbrev room : List ℕ → List ℕ
room [] = 46 ∷ []
room (b ∷ bs) = 46 ∷ room bs

-- the reply is written as this line, and the byte behind it stays
abbrev writes : Reply → List ℕ → Type 0
writes reply line = append (room line) 0 reply (line ++ (46 ∷ [])) (length line)

-- what is answered where nothing is refused: that it is done, a value, a dwell and a move
abbrev is_done : Reply
is_done = Done (Ok tt)

abbrev valued : ℤ → Reply
valued v = Valued (Ok v)

abbrev dwells : Float → Reply
dwells level = Driven (Ok (Dwell level))

abbrev moves : (left numerator denominator : Float) → Reply
moves left numerator denominator = Driven (Ok (Move (record { left = left; numerator = numerator; denominator = denominator })))

abbrev integers : List ℕ → List ℤ
integers [] = []
integers (n ∷ ns) = pos n ∷ integers ns

-- ---- the line of a fault: its number, and what is wrong with it

-- `? line 11: too few words`: the line is 12
pub fault_of_another_line : writes (Wrong 12 TooFew) (63 ∷ 32 ∷ 108 ∷ 105 ∷ 110 ∷ 101 ∷ 32 ∷ 49 ∷ 49 ∷ 58 ∷ 32 ∷ 116 ∷ 111 ∷ 111 ∷ 32 ∷ 102 ∷ 101 ∷ 119 ∷ 32 ∷ 119 ∷ 111 ∷ 114 ∷ 100 ∷ 115 ∷ 10 ∷ []) → ⊥
unfolding line_of fault_line filled spelled
fault_of_another_line p = lists_differ tt (ap integers p.buffer)

-- `too few words`: nor is it left out
pub fault_without_its_line : writes (Wrong 12 TooFew) (116 ∷ 111 ∷ 111 ∷ 32 ∷ 102 ∷ 101 ∷ 119 ∷ 32 ∷ 119 ∷ 111 ∷ 114 ∷ 100 ∷ 115 ∷ 10 ∷ []) → ⊥
unfolding line_of fault_line filled spelled
fault_without_its_line p = lists_differ tt (ap integers p.buffer)

-- `? line 12: number 1 is not a whole decimal number`: the number is 2
pub fault_of_another_number : writes (Wrong 12 (NotDecimal 2)) (63 ∷ 32 ∷ 108 ∷ 105 ∷ 110 ∷ 101 ∷ 32 ∷ 49 ∷ 50 ∷ 58 ∷ 32 ∷ 110 ∷ 117 ∷ 109 ∷ 98 ∷ 101 ∷ 114 ∷ 32 ∷ 49 ∷ 32 ∷ 105 ∷ 115 ∷ 32 ∷ 110 ∷ 111 ∷ 116 ∷ 32 ∷ 97 ∷ 32 ∷ 119 ∷ 104 ∷ 111 ∷ 108 ∷ 101 ∷ 32 ∷ 100 ∷ 101 ∷ 99 ∷ 105 ∷ 109 ∷ 97 ∷ 108 ∷ 32 ∷ 110 ∷ 117 ∷ 109 ∷ 98 ∷ 101 ∷ 114 ∷ 10 ∷ []) → ⊥
unfolding line_of fault_line filled spelled
fault_of_another_number p = lists_differ tt (ap integers p.buffer)

-- `? line 2: number 12 is not a whole decimal number`: line 12, number 2
pub line_and_number_exchanged : writes (Wrong 12 (NotDecimal 2)) (63 ∷ 32 ∷ 108 ∷ 105 ∷ 110 ∷ 101 ∷ 32 ∷ 50 ∷ 58 ∷ 32 ∷ 110 ∷ 117 ∷ 109 ∷ 98 ∷ 101 ∷ 114 ∷ 32 ∷ 49 ∷ 50 ∷ 32 ∷ 105 ∷ 115 ∷ 32 ∷ 110 ∷ 111 ∷ 116 ∷ 32 ∷ 97 ∷ 32 ∷ 119 ∷ 104 ∷ 111 ∷ 108 ∷ 101 ∷ 32 ∷ 100 ∷ 101 ∷ 99 ∷ 105 ∷ 109 ∷ 97 ∷ 108 ∷ 32 ∷ 110 ∷ 117 ∷ 109 ∷ 98 ∷ 101 ∷ 114 ∷ 10 ∷ []) → ⊥
unfolding line_of fault_line filled spelled
line_and_number_exchanged p = lists_differ tt (ap integers p.buffer)

-- `? line 1: number 3 does not fit 64 bits`: 32 bits
pub beyond_32_told_as_64 : writes (Wrong 1 (Beyond32 3)) (63 ∷ 32 ∷ 108 ∷ 105 ∷ 110 ∷ 101 ∷ 32 ∷ 49 ∷ 58 ∷ 32 ∷ 110 ∷ 117 ∷ 109 ∷ 98 ∷ 101 ∷ 114 ∷ 32 ∷ 51 ∷ 32 ∷ 100 ∷ 111 ∷ 101 ∷ 115 ∷ 32 ∷ 110 ∷ 111 ∷ 116 ∷ 32 ∷ 102 ∷ 105 ∷ 116 ∷ 32 ∷ 54 ∷ 52 ∷ 32 ∷ 98 ∷ 105 ∷ 116 ∷ 115 ∷ 10 ∷ []) → ⊥
unfolding line_of fault_line filled spelled
beyond_32_told_as_64 p = lists_differ tt (ap integers p.buffer)

-- `? line 1: number 3 does not fit 32 bits`: 64 bits
pub beyond_64_told_as_32 : writes (Wrong 1 (Beyond64 3)) (63 ∷ 32 ∷ 108 ∷ 105 ∷ 110 ∷ 101 ∷ 32 ∷ 49 ∷ 58 ∷ 32 ∷ 110 ∷ 117 ∷ 109 ∷ 98 ∷ 101 ∷ 114 ∷ 32 ∷ 51 ∷ 32 ∷ 100 ∷ 111 ∷ 101 ∷ 115 ∷ 32 ∷ 110 ∷ 111 ∷ 116 ∷ 32 ∷ 102 ∷ 105 ∷ 116 ∷ 32 ∷ 51 ∷ 50 ∷ 32 ∷ 98 ∷ 105 ∷ 116 ∷ 115 ∷ 10 ∷ []) → ⊥
unfolding line_of fault_line filled spelled
beyond_64_told_as_32 p = lists_differ tt (ap integers p.buffer)

-- `? line 1: number 3 does not fit 32 bits`: it is not decimal
pub no_number_told_as_beyond : writes (Wrong 1 (NotDecimal 3)) (63 ∷ 32 ∷ 108 ∷ 105 ∷ 110 ∷ 101 ∷ 32 ∷ 49 ∷ 58 ∷ 32 ∷ 110 ∷ 117 ∷ 109 ∷ 98 ∷ 101 ∷ 114 ∷ 32 ∷ 51 ∷ 32 ∷ 100 ∷ 111 ∷ 101 ∷ 115 ∷ 32 ∷ 110 ∷ 111 ∷ 116 ∷ 32 ∷ 102 ∷ 105 ∷ 116 ∷ 32 ∷ 51 ∷ 50 ∷ 32 ∷ 98 ∷ 105 ∷ 116 ∷ 115 ∷ 10 ∷ []) → ⊥
unfolding line_of fault_line filled spelled
no_number_told_as_beyond p = lists_differ tt (ap integers p.buffer)

-- `? line 1: too many words`: there are too few
pub too_few_told_as_too_many : writes (Wrong 1 TooFew) (63 ∷ 32 ∷ 108 ∷ 105 ∷ 110 ∷ 101 ∷ 32 ∷ 49 ∷ 58 ∷ 32 ∷ 116 ∷ 111 ∷ 111 ∷ 32 ∷ 109 ∷ 97 ∷ 110 ∷ 121 ∷ 32 ∷ 119 ∷ 111 ∷ 114 ∷ 100 ∷ 115 ∷ 10 ∷ []) → ⊥
unfolding line_of fault_line filled spelled
too_few_told_as_too_many p = lists_differ tt (ap integers p.buffer)

-- `? line 1: too few words`: there are too many
pub too_many_told_as_too_few : writes (Wrong 1 TooMany) (63 ∷ 32 ∷ 108 ∷ 105 ∷ 110 ∷ 101 ∷ 32 ∷ 49 ∷ 58 ∷ 32 ∷ 116 ∷ 111 ∷ 111 ∷ 32 ∷ 102 ∷ 101 ∷ 119 ∷ 32 ∷ 119 ∷ 111 ∷ 114 ∷ 100 ∷ 115 ∷ 10 ∷ []) → ⊥
unfolding line_of fault_line filled spelled
too_many_told_as_too_few p = lists_differ tt (ap integers p.buffer)

-- `? line 1: no such command`: the list is unknown
pub no_list_told_as_no_command : writes (Wrong 1 NoList) (63 ∷ 32 ∷ 108 ∷ 105 ∷ 110 ∷ 101 ∷ 32 ∷ 49 ∷ 58 ∷ 32 ∷ 110 ∷ 111 ∷ 32 ∷ 115 ∷ 117 ∷ 99 ∷ 104 ∷ 32 ∷ 99 ∷ 111 ∷ 109 ∷ 109 ∷ 97 ∷ 110 ∷ 100 ∷ 10 ∷ []) → ⊥
unfolding line_of fault_line filled spelled
no_list_told_as_no_command p = lists_differ tt (ap integers p.buffer)

-- `? line 1: no such list`: the command is unknown
pub no_command_told_as_no_list : writes (Wrong 1 NoCommand) (63 ∷ 32 ∷ 108 ∷ 105 ∷ 110 ∷ 101 ∷ 32 ∷ 49 ∷ 58 ∷ 32 ∷ 110 ∷ 111 ∷ 32 ∷ 115 ∷ 117 ∷ 99 ∷ 104 ∷ 32 ∷ 108 ∷ 105 ∷ 115 ∷ 116 ∷ 10 ∷ []) → ⊥
unfolding line_of fault_line filled spelled
no_command_told_as_no_list p = lists_differ tt (ap integers p.buffer)

-- `? line 1: too many words`: the line is too long
pub too_long_told_as_too_many : writes (Wrong 1 TooLong) (63 ∷ 32 ∷ 108 ∷ 105 ∷ 110 ∷ 101 ∷ 32 ∷ 49 ∷ 58 ∷ 32 ∷ 116 ∷ 111 ∷ 111 ∷ 32 ∷ 109 ∷ 97 ∷ 110 ∷ 121 ∷ 32 ∷ 119 ∷ 111 ∷ 114 ∷ 100 ∷ 115 ∷ 10 ∷ []) → ⊥
unfolding line_of fault_line filled spelled
too_long_told_as_too_many p = lists_differ tt (ap integers p.buffer)

-- `refused 1 at 0: too few words`: it is no refusal
pub fault_told_as_a_refusal : writes (Wrong 1 TooFew) (114 ∷ 101 ∷ 102 ∷ 117 ∷ 115 ∷ 101 ∷ 100 ∷ 32 ∷ 49 ∷ 32 ∷ 97 ∷ 116 ∷ 32 ∷ 48 ∷ 58 ∷ 32 ∷ 116 ∷ 111 ∷ 111 ∷ 32 ∷ 102 ∷ 101 ∷ 119 ∷ 32 ∷ 119 ∷ 111 ∷ 114 ∷ 100 ∷ 115 ∷ 10 ∷ []) → ⊥
unfolding line_of fault_line filled spelled
fault_told_as_a_refusal p = lists_differ tt (ap integers p.buffer)

-- `? line 12: number 1 does not fit 32 bits`: its limits are others than those of 32 bits with a sign
pub beyond_unsigned_told_as_32 : writes (Wrong 12 (BeyondUnsigned 1)) (63 ∷ 32 ∷ 108 ∷ 105 ∷ 110 ∷ 101 ∷ 32 ∷ 49 ∷ 50 ∷ 58 ∷ 32 ∷ 110 ∷ 117 ∷ 109 ∷ 98 ∷ 101 ∷ 114 ∷ 32 ∷ 49 ∷ 32 ∷ 100 ∷ 111 ∷ 101 ∷ 115 ∷ 32 ∷ 110 ∷ 111 ∷ 116 ∷ 32 ∷ 102 ∷ 105 ∷ 116 ∷ 32 ∷ 51 ∷ 50 ∷ 32 ∷ 98 ∷ 105 ∷ 116 ∷ 115 ∷ 10 ∷ []) → ⊥
unfolding line_of fault_line filled spelled
beyond_unsigned_told_as_32 p = lists_differ tt (ap integers p.buffer)

-- `? line 12: number 1 does not fit 64 bits`: nor those of 64
pub beyond_unsigned_told_as_64 : writes (Wrong 12 (BeyondUnsigned 1)) (63 ∷ 32 ∷ 108 ∷ 105 ∷ 110 ∷ 101 ∷ 32 ∷ 49 ∷ 50 ∷ 58 ∷ 32 ∷ 110 ∷ 117 ∷ 109 ∷ 98 ∷ 101 ∷ 114 ∷ 32 ∷ 49 ∷ 32 ∷ 100 ∷ 111 ∷ 101 ∷ 115 ∷ 32 ∷ 110 ∷ 111 ∷ 116 ∷ 32 ∷ 102 ∷ 105 ∷ 116 ∷ 32 ∷ 54 ∷ 52 ∷ 32 ∷ 98 ∷ 105 ∷ 116 ∷ 115 ∷ 10 ∷ []) → ⊥
unfolding line_of fault_line filled spelled
beyond_unsigned_told_as_64 p = lists_differ tt (ap integers p.buffer)

-- `? line 12: number 1 is not a whole decimal number`: it is a number
pub beyond_unsigned_told_as_no_number : writes (Wrong 12 (BeyondUnsigned 1)) (63 ∷ 32 ∷ 108 ∷ 105 ∷ 110 ∷ 101 ∷ 32 ∷ 49 ∷ 50 ∷ 58 ∷ 32 ∷ 110 ∷ 117 ∷ 109 ∷ 98 ∷ 101 ∷ 114 ∷ 32 ∷ 49 ∷ 32 ∷ 105 ∷ 115 ∷ 32 ∷ 110 ∷ 111 ∷ 116 ∷ 32 ∷ 97 ∷ 32 ∷ 119 ∷ 104 ∷ 111 ∷ 108 ∷ 101 ∷ 32 ∷ 100 ∷ 101 ∷ 99 ∷ 105 ∷ 109 ∷ 97 ∷ 108 ∷ 32 ∷ 110 ∷ 117 ∷ 109 ∷ 98 ∷ 101 ∷ 114 ∷ 10 ∷ []) → ⊥
unfolding line_of fault_line filled spelled
beyond_unsigned_told_as_no_number p = lists_differ tt (ap integers p.buffer)

-- `? line 12: number 1 is not in 0 to 8`: the limit is that of a line, and not of a table
pub beyond_unsigned_told_as_beyond_8 : writes (Wrong 12 (BeyondUnsigned 1)) (63 ∷ 32 ∷ 108 ∷ 105 ∷ 110 ∷ 101 ∷ 32 ∷ 49 ∷ 50 ∷ 58 ∷ 32 ∷ 110 ∷ 117 ∷ 109 ∷ 98 ∷ 101 ∷ 114 ∷ 32 ∷ 49 ∷ 32 ∷ 105 ∷ 115 ∷ 32 ∷ 110 ∷ 111 ∷ 116 ∷ 32 ∷ 105 ∷ 110 ∷ 32 ∷ 48 ∷ 32 ∷ 116 ∷ 111 ∷ 32 ∷ 56 ∷ 10 ∷ []) → ⊥
unfolding line_of fault_line filled spelled
beyond_unsigned_told_as_beyond_8 p = lists_differ tt (ap integers p.buffer)

-- `refused 12 at 0: the slope unit is not in 0 to 8`: nor is it a table's refusal
pub beyond_unsigned_told_as_a_refusal : writes (Wrong 12 (BeyondUnsigned 1)) (114 ∷ 101 ∷ 102 ∷ 117 ∷ 115 ∷ 101 ∷ 100 ∷ 32 ∷ 49 ∷ 50 ∷ 32 ∷ 97 ∷ 116 ∷ 32 ∷ 48 ∷ 58 ∷ 32 ∷ 116 ∷ 104 ∷ 101 ∷ 32 ∷ 115 ∷ 108 ∷ 111 ∷ 112 ∷ 101 ∷ 32 ∷ 117 ∷ 110 ∷ 105 ∷ 116 ∷ 32 ∷ 105 ∷ 115 ∷ 32 ∷ 110 ∷ 111 ∷ 116 ∷ 32 ∷ 105 ∷ 110 ∷ 32 ∷ 48 ∷ 32 ∷ 116 ∷ 111 ∷ 32 ∷ 56 ∷ 10 ∷ []) → ⊥
unfolding line_of fault_line filled spelled
beyond_unsigned_told_as_a_refusal p = lists_differ tt (ap integers p.buffer)

-- `? line 12: number 2 is not in 0 to 4294967295`: the number is 1
pub beyond_unsigned_of_another_number : writes (Wrong 12 (BeyondUnsigned 1)) (63 ∷ 32 ∷ 108 ∷ 105 ∷ 110 ∷ 101 ∷ 32 ∷ 49 ∷ 50 ∷ 58 ∷ 32 ∷ 110 ∷ 117 ∷ 109 ∷ 98 ∷ 101 ∷ 114 ∷ 32 ∷ 50 ∷ 32 ∷ 105 ∷ 115 ∷ 32 ∷ 110 ∷ 111 ∷ 116 ∷ 32 ∷ 105 ∷ 110 ∷ 32 ∷ 48 ∷ 32 ∷ 116 ∷ 111 ∷ 32 ∷ 52 ∷ 50 ∷ 57 ∷ 52 ∷ 57 ∷ 54 ∷ 55 ∷ 50 ∷ 57 ∷ 53 ∷ 10 ∷ []) → ⊥
unfolding line_of fault_line filled spelled
beyond_unsigned_of_another_number p = lists_differ tt (ap integers p.buffer)

-- `? line 11: number 1 is not in 0 to 4294967295`: the line is 12
pub beyond_unsigned_of_another_line : writes (Wrong 12 (BeyondUnsigned 1)) (63 ∷ 32 ∷ 108 ∷ 105 ∷ 110 ∷ 101 ∷ 32 ∷ 49 ∷ 49 ∷ 58 ∷ 32 ∷ 110 ∷ 117 ∷ 109 ∷ 98 ∷ 101 ∷ 114 ∷ 32 ∷ 49 ∷ 32 ∷ 105 ∷ 115 ∷ 32 ∷ 110 ∷ 111 ∷ 116 ∷ 32 ∷ 105 ∷ 110 ∷ 32 ∷ 48 ∷ 32 ∷ 116 ∷ 111 ∷ 32 ∷ 52 ∷ 50 ∷ 57 ∷ 52 ∷ 57 ∷ 54 ∷ 55 ∷ 50 ∷ 57 ∷ 53 ∷ 10 ∷ []) → ⊥
unfolding line_of fault_line filled spelled
beyond_unsigned_of_another_line p = lists_differ tt (ap integers p.buffer)

-- `? line 1: number 3 is not in 0 to 4294967295`: 32 bits with a sign
pub beyond_32_told_as_unsigned : writes (Wrong 1 (Beyond32 3)) (63 ∷ 32 ∷ 108 ∷ 105 ∷ 110 ∷ 101 ∷ 32 ∷ 49 ∷ 58 ∷ 32 ∷ 110 ∷ 117 ∷ 109 ∷ 98 ∷ 101 ∷ 114 ∷ 32 ∷ 51 ∷ 32 ∷ 105 ∷ 115 ∷ 32 ∷ 110 ∷ 111 ∷ 116 ∷ 32 ∷ 105 ∷ 110 ∷ 32 ∷ 48 ∷ 32 ∷ 116 ∷ 111 ∷ 32 ∷ 52 ∷ 50 ∷ 57 ∷ 52 ∷ 57 ∷ 54 ∷ 55 ∷ 50 ∷ 57 ∷ 53 ∷ 10 ∷ []) → ⊥
unfolding line_of fault_line filled spelled
beyond_32_told_as_unsigned p = lists_differ tt (ap integers p.buffer)

-- `? line 1: number 3 is not in 0 to 4294967295`: 64 bits
pub beyond_64_told_as_unsigned : writes (Wrong 1 (Beyond64 3)) (63 ∷ 32 ∷ 108 ∷ 105 ∷ 110 ∷ 101 ∷ 32 ∷ 49 ∷ 58 ∷ 32 ∷ 110 ∷ 117 ∷ 109 ∷ 98 ∷ 101 ∷ 114 ∷ 32 ∷ 51 ∷ 32 ∷ 105 ∷ 115 ∷ 32 ∷ 110 ∷ 111 ∷ 116 ∷ 32 ∷ 105 ∷ 110 ∷ 32 ∷ 48 ∷ 32 ∷ 116 ∷ 111 ∷ 32 ∷ 52 ∷ 50 ∷ 57 ∷ 52 ∷ 57 ∷ 54 ∷ 55 ∷ 50 ∷ 57 ∷ 53 ∷ 10 ∷ []) → ⊥
unfolding line_of fault_line filled spelled
beyond_64_told_as_unsigned p = lists_differ tt (ap integers p.buffer)

-- ---- a refusal: its number, its place and the number's cause

-- `refused 3 at 2: a rise is outside its limits`: 3 is a width
pub cause_of_another_number : writes (Done (Err (record { cause = cause.Width; place = 2 }))) (114 ∷ 101 ∷ 102 ∷ 117 ∷ 115 ∷ 101 ∷ 100 ∷ 32 ∷ 51 ∷ 32 ∷ 97 ∷ 116 ∷ 32 ∷ 50 ∷ 58 ∷ 32 ∷ 97 ∷ 32 ∷ 114 ∷ 105 ∷ 115 ∷ 101 ∷ 32 ∷ 105 ∷ 115 ∷ 32 ∷ 111 ∷ 117 ∷ 116 ∷ 115 ∷ 105 ∷ 100 ∷ 101 ∷ 32 ∷ 105 ∷ 116 ∷ 115 ∷ 32 ∷ 108 ∷ 105 ∷ 109 ∷ 105 ∷ 116 ∷ 115 ∷ 10 ∷ []) → ⊥
unfolding line_of fault_line filled spelled
cause_of_another_number p = lists_differ tt (ap integers p.buffer)

-- `refused 2 at 3: a width is not in 1 to 1024`: 3 at 2
pub place_and_number_exchanged : writes (Done (Err (record { cause = cause.Width; place = 2 }))) (114 ∷ 101 ∷ 102 ∷ 117 ∷ 115 ∷ 101 ∷ 100 ∷ 32 ∷ 50 ∷ 32 ∷ 97 ∷ 116 ∷ 32 ∷ 51 ∷ 58 ∷ 32 ∷ 97 ∷ 32 ∷ 119 ∷ 105 ∷ 100 ∷ 116 ∷ 104 ∷ 32 ∷ 105 ∷ 115 ∷ 32 ∷ 110 ∷ 111 ∷ 116 ∷ 32 ∷ 105 ∷ 110 ∷ 32 ∷ 49 ∷ 32 ∷ 116 ∷ 111 ∷ 32 ∷ 49 ∷ 48 ∷ 50 ∷ 52 ∷ 10 ∷ []) → ⊥
unfolding line_of fault_line filled spelled
place_and_number_exchanged p = lists_differ tt (ap integers p.buffer)

-- `refused 3 at 2: `: 3 has a cause
pub refused_without_a_cause : writes (Done (Err (record { cause = cause.Width; place = 2 }))) (114 ∷ 101 ∷ 102 ∷ 117 ∷ 115 ∷ 101 ∷ 100 ∷ 32 ∷ 51 ∷ 32 ∷ 97 ∷ 116 ∷ 32 ∷ 50 ∷ 58 ∷ 32 ∷ 10 ∷ []) → ⊥
unfolding line_of fault_line filled spelled
refused_without_a_cause p = lists_differ tt (ap integers p.buffer)

-- `refused 3: a width is not in 1 to 1024`: it has a place
pub refused_without_its_place : writes (Done (Err (record { cause = cause.Width; place = 2 }))) (114 ∷ 101 ∷ 102 ∷ 117 ∷ 115 ∷ 101 ∷ 100 ∷ 32 ∷ 51 ∷ 58 ∷ 32 ∷ 97 ∷ 32 ∷ 119 ∷ 105 ∷ 100 ∷ 116 ∷ 104 ∷ 32 ∷ 105 ∷ 115 ∷ 32 ∷ 110 ∷ 111 ∷ 116 ∷ 32 ∷ 105 ∷ 110 ∷ 32 ∷ 49 ∷ 32 ∷ 116 ∷ 111 ∷ 32 ∷ 49 ∷ 48 ∷ 50 ∷ 52 ∷ 10 ∷ []) → ⊥
unfolding line_of fault_line filled spelled
refused_without_its_place p = lists_differ tt (ap integers p.buffer)

-- `refused 1 at 0: fewer than 2 or more than 1024 points`: 1 is the lengths
pub causes_counted_from_0 : writes (Done (Err (record { cause = cause.Lengths; place = 0 }))) (114 ∷ 101 ∷ 102 ∷ 117 ∷ 115 ∷ 101 ∷ 100 ∷ 32 ∷ 49 ∷ 32 ∷ 97 ∷ 116 ∷ 32 ∷ 48 ∷ 58 ∷ 32 ∷ 102 ∷ 101 ∷ 119 ∷ 101 ∷ 114 ∷ 32 ∷ 116 ∷ 104 ∷ 97 ∷ 110 ∷ 32 ∷ 50 ∷ 32 ∷ 111 ∷ 114 ∷ 32 ∷ 109 ∷ 111 ∷ 114 ∷ 101 ∷ 32 ∷ 116 ∷ 104 ∷ 97 ∷ 110 ∷ 32 ∷ 49 ∷ 48 ∷ 50 ∷ 52 ∷ 32 ∷ 112 ∷ 111 ∷ 105 ∷ 110 ∷ 116 ∷ 115 ∷ 10 ∷ []) → ⊥
unfolding line_of fault_line filled spelled
causes_counted_from_0 p = lists_differ tt (ap integers p.buffer)

-- `refused 99 at 0: the slope unit is not in 0 to 8`: 99 has no cause
pub no_cause_told_as_the_last : writes (Numbered 99 0) (114 ∷ 101 ∷ 102 ∷ 117 ∷ 115 ∷ 101 ∷ 100 ∷ 32 ∷ 57 ∷ 57 ∷ 32 ∷ 97 ∷ 116 ∷ 32 ∷ 48 ∷ 58 ∷ 32 ∷ 116 ∷ 104 ∷ 101 ∷ 32 ∷ 115 ∷ 108 ∷ 111 ∷ 112 ∷ 101 ∷ 32 ∷ 117 ∷ 110 ∷ 105 ∷ 116 ∷ 32 ∷ 105 ∷ 115 ∷ 32 ∷ 110 ∷ 111 ∷ 116 ∷ 32 ∷ 105 ∷ 110 ∷ 32 ∷ 48 ∷ 32 ∷ 116 ∷ 111 ∷ 32 ∷ 56 ∷ 10 ∷ []) → ⊥
unfolding line_of fault_line filled spelled
no_cause_told_as_the_last p = lists_differ tt (ap integers p.buffer)

-- `refused 12 at 0: `: 12 has a cause
pub unit_refused_without_a_cause : writes (Done (Err (record { cause = cause.SlopeUnit; place = 0 }))) (114 ∷ 101 ∷ 102 ∷ 117 ∷ 115 ∷ 101 ∷ 100 ∷ 32 ∷ 49 ∷ 50 ∷ 32 ∷ 97 ∷ 116 ∷ 32 ∷ 48 ∷ 58 ∷ 32 ∷ 10 ∷ []) → ⊥
unfolding line_of fault_line filled spelled
unit_refused_without_a_cause p = lists_differ tt (ap integers p.buffer)

-- `refused 12 at 0: piece too large for the exact float answer`: and that of 8 is another
pub unit_told_as_a_size : writes (Done (Err (record { cause = cause.SlopeUnit; place = 0 }))) (114 ∷ 101 ∷ 102 ∷ 117 ∷ 115 ∷ 101 ∷ 100 ∷ 32 ∷ 49 ∷ 50 ∷ 32 ∷ 97 ∷ 116 ∷ 32 ∷ 48 ∷ 58 ∷ 32 ∷ 112 ∷ 105 ∷ 101 ∷ 99 ∷ 101 ∷ 32 ∷ 116 ∷ 111 ∷ 111 ∷ 32 ∷ 108 ∷ 97 ∷ 114 ∷ 103 ∷ 101 ∷ 32 ∷ 102 ∷ 111 ∷ 114 ∷ 32 ∷ 116 ∷ 104 ∷ 101 ∷ 32 ∷ 101 ∷ 120 ∷ 97 ∷ 99 ∷ 116 ∷ 32 ∷ 102 ∷ 108 ∷ 111 ∷ 97 ∷ 116 ∷ 32 ∷ 97 ∷ 110 ∷ 115 ∷ 119 ∷ 101 ∷ 114 ∷ 10 ∷ []) → ⊥
unfolding line_of fault_line filled spelled
unit_told_as_a_size p = lists_differ tt (ap integers p.buffer)

-- `refused 9 at 0: the slope unit is not in 0 to 8`: 9 has no cause, and yet is counted
pub empty_causes_passed_over : writes (Numbered 9 0) (114 ∷ 101 ∷ 102 ∷ 117 ∷ 115 ∷ 101 ∷ 100 ∷ 32 ∷ 57 ∷ 32 ∷ 97 ∷ 116 ∷ 32 ∷ 48 ∷ 58 ∷ 32 ∷ 116 ∷ 104 ∷ 101 ∷ 32 ∷ 115 ∷ 108 ∷ 111 ∷ 112 ∷ 101 ∷ 32 ∷ 117 ∷ 110 ∷ 105 ∷ 116 ∷ 32 ∷ 105 ∷ 115 ∷ 32 ∷ 110 ∷ 111 ∷ 116 ∷ 32 ∷ 105 ∷ 110 ∷ 32 ∷ 48 ∷ 32 ∷ 116 ∷ 111 ∷ 32 ∷ 56 ∷ 10 ∷ []) → ⊥
unfolding line_of fault_line filled spelled
empty_causes_passed_over p = lists_differ tt (ap integers p.buffer)

-- `refused 10 at 0: the slope unit is not in 0 to 8`: nor has 10
pub cause_of_12_for_10 : writes (Numbered 10 0) (114 ∷ 101 ∷ 102 ∷ 117 ∷ 115 ∷ 101 ∷ 100 ∷ 32 ∷ 49 ∷ 48 ∷ 32 ∷ 97 ∷ 116 ∷ 32 ∷ 48 ∷ 58 ∷ 32 ∷ 116 ∷ 104 ∷ 101 ∷ 32 ∷ 115 ∷ 108 ∷ 111 ∷ 112 ∷ 101 ∷ 32 ∷ 117 ∷ 110 ∷ 105 ∷ 116 ∷ 32 ∷ 105 ∷ 115 ∷ 32 ∷ 110 ∷ 111 ∷ 116 ∷ 32 ∷ 105 ∷ 110 ∷ 32 ∷ 48 ∷ 32 ∷ 116 ∷ 111 ∷ 32 ∷ 56 ∷ 10 ∷ []) → ⊥
unfolding line_of fault_line filled spelled
cause_of_12_for_10 p = lists_differ tt (ap integers p.buffer)

-- `refused 11 at 0: the slope unit is not in 0 to 8`: nor 11
pub cause_of_12_for_11 : writes (Numbered 11 0) (114 ∷ 101 ∷ 102 ∷ 117 ∷ 115 ∷ 101 ∷ 100 ∷ 32 ∷ 49 ∷ 49 ∷ 32 ∷ 97 ∷ 116 ∷ 32 ∷ 48 ∷ 58 ∷ 32 ∷ 116 ∷ 104 ∷ 101 ∷ 32 ∷ 115 ∷ 108 ∷ 111 ∷ 112 ∷ 101 ∷ 32 ∷ 117 ∷ 110 ∷ 105 ∷ 116 ∷ 32 ∷ 105 ∷ 115 ∷ 32 ∷ 110 ∷ 111 ∷ 116 ∷ 32 ∷ 105 ∷ 110 ∷ 32 ∷ 48 ∷ 32 ∷ 116 ∷ 111 ∷ 32 ∷ 56 ∷ 10 ∷ []) → ⊥
unfolding line_of fault_line filled spelled
cause_of_12_for_11 p = lists_differ tt (ap integers p.buffer)

-- `refused 9 at 0: piece too large for the exact float answer`: it does not keep the one before it
pub cause_of_8_for_9 : writes (Numbered 9 0) (114 ∷ 101 ∷ 102 ∷ 117 ∷ 115 ∷ 101 ∷ 100 ∷ 32 ∷ 57 ∷ 32 ∷ 97 ∷ 116 ∷ 32 ∷ 48 ∷ 58 ∷ 32 ∷ 112 ∷ 105 ∷ 101 ∷ 99 ∷ 101 ∷ 32 ∷ 116 ∷ 111 ∷ 111 ∷ 32 ∷ 108 ∷ 97 ∷ 114 ∷ 103 ∷ 101 ∷ 32 ∷ 102 ∷ 111 ∷ 114 ∷ 32 ∷ 116 ∷ 104 ∷ 101 ∷ 32 ∷ 101 ∷ 120 ∷ 97 ∷ 99 ∷ 116 ∷ 32 ∷ 102 ∷ 108 ∷ 111 ∷ 97 ∷ 116 ∷ 32 ∷ 97 ∷ 110 ∷ 115 ∷ 119 ∷ 101 ∷ 114 ∷ 10 ∷ []) → ⊥
unfolding line_of fault_line filled spelled
cause_of_8_for_9 p = lists_differ tt (ap integers p.buffer)

-- `ok`: it is not done
pub refused_told_as_done : writes (Done (Err (record { cause = cause.Width; place = 2 }))) (111 ∷ 107 ∷ 10 ∷ []) → ⊥
unfolding line_of fault_line filled spelled
refused_told_as_done p = lists_differ tt (ap integers p.buffer)

-- nothing: it is told
pub refused_and_nothing_told : writes (Done (Err (record { cause = cause.Width; place = 2 }))) [] → ⊥
unfolding line_of fault_line filled spelled
refused_and_nothing_told p = lists_differ tt (ap integers p.buffer)

-- ---- the number of no cause, in what is no refusal by its number

-- What any other reply says of a refusal is told by the number of a cause: its first digit is not 9 where a space is behind it, and else a `2` is. 9, 10, 11 and 99 are the numbers
-- of no cause, so that a line that tells one of them, whatever it says behind it, is the line of no reply but of a refusal by its number.
abbrev Other : Reply → Type 0
Other reply = (number place : ℕ) → reply ≡ Numbered number place → ⊥

-- so is each reply of another case, whatever it holds; `Done` among them
abbrev not_by_number : Reply → Bool
not_by_number Silent = true
not_by_number (Wrong n fault) = true
not_by_number (Done d) = true
not_by_number (Count n) = true
not_by_number (Judged d) = true
not_by_number (Valued d) = true
not_by_number (Driven d) = true
not_by_number (SlopeUnit s) = true
not_by_number (Numbered number place) = false

pub of_another_case : (reply : Reply) → T (not_by_number reply) → Other reply
of_another_case reply t number place e = subst (λ (told : Reply). T (not_by_number told)) e t

pub every_done : (d : Result Unit Refused) → Other (Done d)
every_done d = of_another_case (Done d) tt

abbrev of_a_cause : (digit next : ℕ) → Bool
of_a_cause digit next = cond (eqb next 32) (ltb digit 57) (eqb next 50)

abbrev so_told : List ℕ → Bool
so_told line = of_a_cause (get_or line 8 0) (get_or line 9 0)

-- ten bytes and more, and such a line over them
abbrev ten_and : List ℕ → List ℕ
ten_and room = 46 ∷ 46 ∷ 46 ∷ 46 ∷ 46 ∷ 46 ∷ 46 ∷ 46 ∷ 46 ∷ 46 ∷ room

abbrev tells_refused : (room line : List ℕ) (digit next : ℕ) (more : List ℕ) (r : ℕ) → Type 0
tells_refused room line digit next more r = Appended (ten_and room) 0 line (114 ∷ 101 ∷ 102 ∷ 117 ∷ 115 ∷ 101 ∷ 100 ∷ 32 ∷ digit ∷ next ∷ more) r

-- the digits of a number begin with one that is no more than `9`
record Begins (digits : List ℕ) : Type 0 where
  first : ℕ
  others : List ℕ
  is : digits ≡ first ∷ others
  low : first ≤ 57

begins : (f n : ℕ) → n ≤ f → Begins (spelled f n)
unfolding spelled
begins zero n l = record { first = _; others = _; is = refl; low = omega (arith, l) }
begins (suc f) n l =
    by_test (ltb n 10)
    (λ (t : ltb n 10 ≡ true). rw t (record { first = 48 + n; others = []; is = refl; low = omega (arith, ltb-true n 10 t) }))
    (λ (t : ltb n 10 ≡ false).
    let before = begins f (n / 10) (omega (arith, ltb-false n 10 t)) in
    rw t (record { first = before.first; others = before.others ++ ((48 + n % 10) ∷ []); is = ap (λ (digits : List ℕ). digits ++ ((48 + n % 10) ∷ [])) before.is; low = before.low }))

module _ {digit next : ℕ} {room more : List ℕ} {r : ℕ} where
  refused_by : (c : Cause) (place : ℕ) → tells_refused room (refused_line (record { cause = c; place = place })) digit next more r → T (of_a_cause digit next)
  unfolding filled spelled
  refused_by cause.Lengths place p = subst (λ (line : List ℕ). T (so_told line)) (sym p.buffer) tt
  refused_by cause.Count place p = subst (λ (line : List ℕ). T (so_told line)) (sym p.buffer) tt
  refused_by cause.Width place p = subst (λ (line : List ℕ). T (so_told line)) (sym p.buffer) tt
  refused_by cause.Rise place p = subst (λ (line : List ℕ). T (so_told line)) (sym p.buffer) tt
  refused_by cause.Bend place p = subst (λ (line : List ℕ). T (so_told line)) (sym p.buffer) tt
  refused_by cause.Position place p = subst (λ (line : List ℕ). T (so_told line)) (sym p.buffer) tt
  refused_by cause.Point place p = subst (λ (line : List ℕ). T (so_told line)) (sym p.buffer) tt
  refused_by cause.Size place p = subst (λ (line : List ℕ). T (so_told line)) (sym p.buffer) tt
  refused_by cause.SlopeUnit place p = subst (λ (line : List ℕ). T (so_told line)) (sym p.buffer) tt

  no_fault : (n : ℕ) (fault : Fault) → tells_refused room (fault_line n fault) digit next more r → ⊥
  unfolding fault_line filled
  no_fault n TooLong p = lists_differ tt (ap integers p.buffer)
  no_fault n NoCommand p = lists_differ tt (ap integers p.buffer)
  no_fault n TooFew p = lists_differ tt (ap integers p.buffer)
  no_fault n TooMany p = lists_differ tt (ap integers p.buffer)
  no_fault n NoList p = lists_differ tt (ap integers p.buffer)
  no_fault n (NotDecimal k) p = lists_differ tt (ap integers p.buffer)
  no_fault n (Beyond32 k) p = lists_differ tt (ap integers p.buffer)
  no_fault n (Beyond64 k) p = lists_differ tt (ap integers p.buffer)
  no_fault n (BeyondUnsigned k) p = lists_differ tt (ap integers p.buffer)

  -- nothing is put into the buffer
  no_silence : tells_refused room [] digit next more r → ⊥
  no_silence p = lists_differ tt (ap integers (p.buffer ∙ ap (λ (n : ℕ). drop n (ten_and room)) p.counted))

  -- a line that begins with a digit
  no_digit : {b : ℕ} {bs : List ℕ} → b ≤ 57 → tells_refused room (b ∷ bs) digit next more r → ⊥
  no_digit l p = let e = ap (λ (line : List ℕ). get_or line 0 0) p.buffer in omega (arith, l, e)

  no_natural : (n : ℕ) → tells_refused room ((decimal_of n ++ []) ++ (10 ∷ [])) digit next more r → ⊥
  no_natural n p =
      let first = begins n n (omega arith) in
      no_digit first.low (subst (λ (digits : List ℕ). tells_refused room ((digits ++ []) ++ (10 ∷ [])) digit next more r) first.is p)

  by_a_cause : (reply : Reply) → Other reply → tells_refused room (line_of reply) digit next more r → T (of_a_cause digit next)
  unfolding line_of filled
  by_a_cause Silent other p = absurd (no_silence p)
  by_a_cause (Wrong n fault) other p = absurd (no_fault n fault p)
  by_a_cause (Done (Ok done)) other p = absurd (lists_differ tt (ap integers p.buffer))
  by_a_cause (Done (Err r)) other p = refused_by r.cause r.place p
  by_a_cause (Count n) other p = absurd (lists_differ tt (ap integers p.buffer))
  by_a_cause (Judged (Ok Rising)) other p = absurd (lists_differ tt (ap integers p.buffer))
  by_a_cause (Judged (Ok Falling)) other p = absurd (lists_differ tt (ap integers p.buffer))
  by_a_cause (Judged (Ok Flat)) other p = absurd (lists_differ tt (ap integers p.buffer))
  by_a_cause (Judged (Ok Bends)) other p = absurd (lists_differ tt (ap integers p.buffer))
  by_a_cause (Judged (Err r)) other p = refused_by r.cause r.place p
  by_a_cause (Valued (Ok (pos n))) other p = absurd (no_natural n p)
  by_a_cause (Valued (Ok (negsuc n))) other p = absurd (lists_differ tt (ap integers p.buffer))
  by_a_cause (Valued (Err r)) other p = refused_by r.cause r.place p
  by_a_cause (Driven (Ok (Dwell level))) other p = absurd (lists_differ tt (ap integers p.buffer))
  by_a_cause (Driven (Ok (Move m))) other p = absurd (lists_differ tt (ap integers p.buffer))
  by_a_cause (Driven (Err r)) other p = refused_by r.cause r.place p
  by_a_cause (SlopeUnit s) other p = absurd (no_natural s p)
  by_a_cause (Numbered number place) other p = absurd (other number place refl)

-- `refused 99 at 0: the slope unit is not in 0 to 8`
pub no_cause_told_as_the_last_by_any_other : (reply : Reply) → Other reply → writes reply (114 ∷ 101 ∷ 102 ∷ 117 ∷ 115 ∷ 101 ∷ 100 ∷ 32 ∷ 57 ∷ 57 ∷ 32 ∷ 97 ∷ 116 ∷ 32 ∷ 48 ∷ 58 ∷ 32 ∷ 116 ∷ 104 ∷ 101 ∷ 32 ∷ 115 ∷ 108 ∷ 111 ∷ 112 ∷ 101 ∷ 32 ∷ 117 ∷ 110 ∷ 105 ∷ 116 ∷ 32 ∷ 105 ∷ 115 ∷ 32 ∷ 110 ∷ 111 ∷ 116 ∷ 32 ∷ 105 ∷ 110 ∷ 32 ∷ 48 ∷ 32 ∷ 116 ∷ 111 ∷ 32 ∷ 56 ∷ 10 ∷ []) → ⊥
no_cause_told_as_the_last_by_any_other reply other p = by_a_cause reply other p

-- `refused 9 at 0: the slope unit is not in 0 to 8`
pub empty_causes_passed_over_by_any_other : (reply : Reply) → Other reply → writes reply (114 ∷ 101 ∷ 102 ∷ 117 ∷ 115 ∷ 101 ∷ 100 ∷ 32 ∷ 57 ∷ 32 ∷ 97 ∷ 116 ∷ 32 ∷ 48 ∷ 58 ∷ 32 ∷ 116 ∷ 104 ∷ 101 ∷ 32 ∷ 115 ∷ 108 ∷ 111 ∷ 112 ∷ 101 ∷ 32 ∷ 117 ∷ 110 ∷ 105 ∷ 116 ∷ 32 ∷ 105 ∷ 115 ∷ 32 ∷ 110 ∷ 111 ∷ 116 ∷ 32 ∷ 105 ∷ 110 ∷ 32 ∷ 48 ∷ 32 ∷ 116 ∷ 111 ∷ 32 ∷ 56 ∷ 10 ∷ []) → ⊥
empty_causes_passed_over_by_any_other reply other p = by_a_cause reply other p

-- `refused 10 at 0: the slope unit is not in 0 to 8`
pub cause_of_12_for_10_by_any_other : (reply : Reply) → Other reply → writes reply (114 ∷ 101 ∷ 102 ∷ 117 ∷ 115 ∷ 101 ∷ 100 ∷ 32 ∷ 49 ∷ 48 ∷ 32 ∷ 97 ∷ 116 ∷ 32 ∷ 48 ∷ 58 ∷ 32 ∷ 116 ∷ 104 ∷ 101 ∷ 32 ∷ 115 ∷ 108 ∷ 111 ∷ 112 ∷ 101 ∷ 32 ∷ 117 ∷ 110 ∷ 105 ∷ 116 ∷ 32 ∷ 105 ∷ 115 ∷ 32 ∷ 110 ∷ 111 ∷ 116 ∷ 32 ∷ 105 ∷ 110 ∷ 32 ∷ 48 ∷ 32 ∷ 116 ∷ 111 ∷ 32 ∷ 56 ∷ 10 ∷ []) → ⊥
cause_of_12_for_10_by_any_other reply other p = by_a_cause reply other p

-- `refused 11 at 0: the slope unit is not in 0 to 8`
pub cause_of_12_for_11_by_any_other : (reply : Reply) → Other reply → writes reply (114 ∷ 101 ∷ 102 ∷ 117 ∷ 115 ∷ 101 ∷ 100 ∷ 32 ∷ 49 ∷ 49 ∷ 32 ∷ 97 ∷ 116 ∷ 32 ∷ 48 ∷ 58 ∷ 32 ∷ 116 ∷ 104 ∷ 101 ∷ 32 ∷ 115 ∷ 108 ∷ 111 ∷ 112 ∷ 101 ∷ 32 ∷ 117 ∷ 110 ∷ 105 ∷ 116 ∷ 32 ∷ 105 ∷ 115 ∷ 32 ∷ 110 ∷ 111 ∷ 116 ∷ 32 ∷ 105 ∷ 110 ∷ 32 ∷ 48 ∷ 32 ∷ 116 ∷ 111 ∷ 32 ∷ 56 ∷ 10 ∷ []) → ⊥
cause_of_12_for_11_by_any_other reply other p = by_a_cause reply other p

-- `refused 9 at 0: piece too large for the exact float answer`
pub cause_of_8_for_9_by_any_other : (reply : Reply) → Other reply → writes reply (114 ∷ 101 ∷ 102 ∷ 117 ∷ 115 ∷ 101 ∷ 100 ∷ 32 ∷ 57 ∷ 32 ∷ 97 ∷ 116 ∷ 32 ∷ 48 ∷ 58 ∷ 32 ∷ 112 ∷ 105 ∷ 101 ∷ 99 ∷ 101 ∷ 32 ∷ 116 ∷ 111 ∷ 111 ∷ 32 ∷ 108 ∷ 97 ∷ 114 ∷ 103 ∷ 101 ∷ 32 ∷ 102 ∷ 111 ∷ 114 ∷ 32 ∷ 116 ∷ 104 ∷ 101 ∷ 32 ∷ 101 ∷ 120 ∷ 97 ∷ 99 ∷ 116 ∷ 32 ∷ 102 ∷ 108 ∷ 111 ∷ 97 ∷ 116 ∷ 32 ∷ 97 ∷ 110 ∷ 115 ∷ 119 ∷ 101 ∷ 114 ∷ 10 ∷ []) → ⊥
cause_of_8_for_9_by_any_other reply other p = by_a_cause reply other p

-- `refused 9 at 0: `
pub no_cause_yet_by_any_other : (reply : Reply) → Other reply → writes reply (114 ∷ 101 ∷ 102 ∷ 117 ∷ 115 ∷ 101 ∷ 100 ∷ 32 ∷ 57 ∷ 32 ∷ 97 ∷ 116 ∷ 32 ∷ 48 ∷ 58 ∷ 32 ∷ 10 ∷ []) → ⊥
no_cause_yet_by_any_other reply other p = by_a_cause reply other p

-- `refused 99 at 0: `
pub no_cause_by_any_other : (reply : Reply) → Other reply → writes reply (114 ∷ 101 ∷ 102 ∷ 117 ∷ 115 ∷ 101 ∷ 100 ∷ 32 ∷ 57 ∷ 57 ∷ 32 ∷ 97 ∷ 116 ∷ 32 ∷ 48 ∷ 58 ∷ 32 ∷ 10 ∷ []) → ⊥
no_cause_by_any_other reply other p = by_a_cause reply other p

-- ---- what is done, how many, and the verdicts

-- `ok`: how many is told
pub count_told_as_done : writes (Count 4) (111 ∷ 107 ∷ 10 ∷ []) → ⊥
unfolding line_of fault_line filled spelled
count_told_as_done p = lists_differ tt (ap integers p.buffer)

-- `ok 0`: nothing is counted
pub done_told_as_a_count : writes is_done (111 ∷ 107 ∷ 32 ∷ 48 ∷ 10 ∷ []) → ⊥
unfolding line_of fault_line filled spelled
done_told_as_a_count p = lists_differ tt (ap integers p.buffer)

-- `ok 3`: there are 4
pub another_count : writes (Count 4) (111 ∷ 107 ∷ 32 ∷ 51 ∷ 10 ∷ []) → ⊥
unfolding line_of fault_line filled spelled
another_count p = lists_differ tt (ap integers p.buffer)

-- `falling`: it rises
pub rising_told_as_falling : writes (Judged (Ok Rising)) (102 ∷ 97 ∷ 108 ∷ 108 ∷ 105 ∷ 110 ∷ 103 ∷ 10 ∷ []) → ⊥
unfolding line_of fault_line filled spelled
rising_told_as_falling p = lists_differ tt (ap integers p.buffer)

-- `rising`: it falls
pub falling_told_as_rising : writes (Judged (Ok Falling)) (114 ∷ 105 ∷ 115 ∷ 105 ∷ 110 ∷ 103 ∷ 10 ∷ []) → ⊥
unfolding line_of fault_line filled spelled
falling_told_as_rising p = lists_differ tt (ap integers p.buffer)

-- `rising`: it is flat
pub flat_told_as_rising : writes (Judged (Ok Flat)) (114 ∷ 105 ∷ 115 ∷ 105 ∷ 110 ∷ 103 ∷ 10 ∷ []) → ⊥
unfolding line_of fault_line filled spelled
flat_told_as_rising p = lists_differ tt (ap integers p.buffer)

-- `flat`: it bends
pub bends_told_as_flat : writes (Judged (Ok Bends)) (102 ∷ 108 ∷ 97 ∷ 116 ∷ 10 ∷ []) → ⊥
unfolding line_of fault_line filled spelled
bends_told_as_flat p = lists_differ tt (ap integers p.buffer)

-- ---- an answer that is refused, of each kind; and one that is not

-- `ok`: the piece is refused
pub refused_verdict_told_as_done : writes (Judged (Err (record { cause = cause.Width; place = 0 }))) (111 ∷ 107 ∷ 10 ∷ []) → ⊥
unfolding line_of fault_line filled spelled
refused_verdict_told_as_done p = lists_differ tt (ap integers p.buffer)

-- `bends`: a refused piece has no verdict
pub refused_verdict_told_as_bends : writes (Judged (Err (record { cause = cause.Width; place = 0 }))) (98 ∷ 101 ∷ 110 ∷ 100 ∷ 115 ∷ 10 ∷ []) → ⊥
unfolding line_of fault_line filled spelled
refused_verdict_told_as_bends p = lists_differ tt (ap integers p.buffer)

-- `ok`: the position is refused
pub refused_value_told_as_done : writes (Valued (Err (record { cause = cause.Position; place = 0 }))) (111 ∷ 107 ∷ 10 ∷ []) → ⊥
unfolding line_of fault_line filled spelled
refused_value_told_as_done p = lists_differ tt (ap integers p.buffer)

-- `0`: there is no value
pub value_for_a_refusal : writes (Valued (Err (record { cause = cause.Position; place = 0 }))) (48 ∷ 10 ∷ []) → ⊥
unfolding line_of fault_line filled spelled
value_for_a_refusal p = lists_differ tt (ap integers p.buffer)

-- `ok`: the piece is too large
pub refused_drive_told_as_done : writes (Driven (Err (record { cause = cause.Size; place = 7 }))) (111 ∷ 107 ∷ 10 ∷ []) → ⊥
unfolding line_of fault_line filled spelled
refused_drive_told_as_done p = lists_differ tt (ap integers p.buffer)

-- `dwell 0`: a refused answer's level says nothing
pub dwell_for_a_refusal : writes (Driven (Err (record { cause = cause.Size; place = 7 }))) (100 ∷ 119 ∷ 101 ∷ 108 ∷ 108 ∷ 32 ∷ 48 ∷ 10 ∷ []) → ⊥
unfolding line_of float_as filled spelled
dwell_for_a_refusal p = lists_differ tt (ap integers p.buffer)

-- `refused 8 at 0: ..`: piece 7
pub refused_drive_without_its_place : writes (Driven (Err (record { cause = cause.Size; place = 7 }))) (114 ∷ 101 ∷ 102 ∷ 117 ∷ 115 ∷ 101 ∷ 100 ∷ 32 ∷ 56 ∷ 32 ∷ 97 ∷ 116 ∷ 32 ∷ 48 ∷ 58 ∷ 32 ∷ 112 ∷ 105 ∷ 101 ∷ 99 ∷ 101 ∷ 32 ∷ 116 ∷ 111 ∷ 111 ∷ 32 ∷ 108 ∷ 97 ∷ 114 ∷ 103 ∷ 101 ∷ 32 ∷ 102 ∷ 111 ∷ 114 ∷ 32 ∷ 116 ∷ 104 ∷ 101 ∷ 32 ∷ 101 ∷ 120 ∷ 97 ∷ 99 ∷ 116 ∷ 32 ∷ 102 ∷ 108 ∷ 111 ∷ 97 ∷ 116 ∷ 32 ∷ 97 ∷ 110 ∷ 115 ∷ 119 ∷ 101 ∷ 114 ∷ 10 ∷ []) → ⊥
unfolding line_of fault_line filled spelled
refused_drive_without_its_place p = lists_differ tt (ap integers p.buffer)

-- `refused 0 at 0: `: 0 refuses nothing
pub done_told_as_a_refusal : writes is_done (114 ∷ 101 ∷ 102 ∷ 117 ∷ 115 ∷ 101 ∷ 100 ∷ 32 ∷ 48 ∷ 32 ∷ 97 ∷ 116 ∷ 32 ∷ 48 ∷ 58 ∷ 32 ∷ 10 ∷ []) → ⊥
unfolding line_of fault_line filled spelled
done_told_as_a_refusal p = lists_differ tt (ap integers p.buffer)

-- `refused 0 at 0: `: there is a value
pub refusal_for_a_value : writes (valued (pos 7)) (114 ∷ 101 ∷ 102 ∷ 117 ∷ 115 ∷ 101 ∷ 100 ∷ 32 ∷ 48 ∷ 32 ∷ 97 ∷ 116 ∷ 32 ∷ 48 ∷ 58 ∷ 32 ∷ 10 ∷ []) → ⊥
unfolding line_of fault_line filled spelled
refusal_for_a_value p = lists_differ tt (ap integers p.buffer)

-- `refused 0 at 0: `: the drive is told a dwell
pub refusal_for_a_dwell : writes (dwells (fin false 7 (pos 0))) (114 ∷ 101 ∷ 102 ∷ 117 ∷ 115 ∷ 101 ∷ 100 ∷ 32 ∷ 48 ∷ 32 ∷ 97 ∷ 116 ∷ 32 ∷ 48 ∷ 58 ∷ 32 ∷ 10 ∷ []) → ⊥
unfolding line_of float_as filled spelled
refusal_for_a_dwell p = lists_differ tt (ap integers p.buffer)

-- ---- values and floats

-- `7`: −7
pub value_without_its_sign : writes (valued (negsuc 6)) (55 ∷ 10 ∷ []) → ⊥
unfolding line_of fault_line filled spelled
value_without_its_sign p = lists_differ tt (ap integers p.buffer)

-- `ok 7`: the value alone
pub value_with_a_word : writes (valued (pos 7)) (111 ∷ 107 ∷ 32 ∷ 55 ∷ 10 ∷ []) → ⊥
unfolding line_of fault_line filled spelled
value_with_a_word p = lists_differ tt (ap integers p.buffer)

-- `7`: a drive is told `dwell`
pub dwell_told_as_a_value : writes (dwells (fin false 7 (pos 0))) (55 ∷ 10 ∷ []) → ⊥
unfolding line_of float_as filled spelled
dwell_told_as_a_value p = lists_differ tt (ap integers p.buffer)

-- `dwell 7`: −7
pub dwell_without_its_sign : writes (dwells (fin true 7 (pos 0))) (100 ∷ 119 ∷ 101 ∷ 108 ∷ 108 ∷ 32 ∷ 55 ∷ 10 ∷ []) → ⊥
unfolding line_of float_as filled spelled
dwell_without_its_sign p = lists_differ tt (ap integers p.buffer)

-- `move 3 0 256`: −0 has its sign
pub move_without_a_sign : writes (moves (fin false 3 (pos 0)) (fin true 0 (pos 0)) (fin false 1 (pos 8))) (109 ∷ 111 ∷ 118 ∷ 101 ∷ 32 ∷ 51 ∷ 32 ∷ 48 ∷ 32 ∷ 50 ∷ 53 ∷ 54 ∷ 10 ∷ []) → ⊥
unfolding line_of float_as filled spelled
move_without_a_sign p = lists_differ tt (ap integers p.buffer)

-- `move -5 3 256`: the left value is first
pub floats_exchanged : writes (moves (fin false 3 (pos 0)) (fin true 5 (pos 0)) (fin false 1 (pos 8))) (109 ∷ 111 ∷ 118 ∷ 101 ∷ 32 ∷ 45 ∷ 53 ∷ 32 ∷ 51 ∷ 32 ∷ 50 ∷ 53 ∷ 54 ∷ 10 ∷ []) → ⊥
unfolding line_of float_as filled spelled
floats_exchanged p = lists_differ tt (ap integers p.buffer)

-- `move 3 256 -5`: the numerator stands before the denominator
pub fraction_turned_over : writes (moves (fin false 3 (pos 0)) (fin true 5 (pos 0)) (fin false 1 (pos 8))) (109 ∷ 111 ∷ 118 ∷ 101 ∷ 32 ∷ 51 ∷ 32 ∷ 50 ∷ 53 ∷ 54 ∷ 32 ∷ 45 ∷ 53 ∷ 10 ∷ []) → ⊥
unfolding line_of float_as filled spelled
fraction_turned_over p = lists_differ tt (ap integers p.buffer)

-- `move 3 5 256`: −5
pub numerator_without_its_sign : writes (moves (fin false 3 (pos 0)) (fin true 5 (pos 0)) (fin false 1 (pos 8))) (109 ∷ 111 ∷ 118 ∷ 101 ∷ 32 ∷ 51 ∷ 32 ∷ 53 ∷ 32 ∷ 50 ∷ 53 ∷ 54 ∷ 10 ∷ []) → ⊥
unfolding line_of float_as filled spelled
numerator_without_its_sign p = lists_differ tt (ap integers p.buffer)

-- `dwell -0`: +0 has none
pub zero_with_a_sign : writes (dwells (fin false 0 (pos 0))) (100 ∷ 119 ∷ 101 ∷ 108 ∷ 108 ∷ 32 ∷ 45 ∷ 48 ∷ 10 ∷ []) → ⊥
unfolding line_of float_as filled spelled
zero_with_a_sign p = lists_differ tt (ap integers p.buffer)

-- `move 256 -5 3`: the left value is first, the denominator last
pub left_and_denominator_exchanged : writes (moves (fin false 3 (pos 0)) (fin true 5 (pos 0)) (fin false 1 (pos 8))) (109 ∷ 111 ∷ 118 ∷ 101 ∷ 32 ∷ 50 ∷ 53 ∷ 54 ∷ 32 ∷ 45 ∷ 53 ∷ 32 ∷ 51 ∷ 10 ∷ []) → ⊥
unfolding line_of float_as filled spelled
left_and_denominator_exchanged p = lists_differ tt (ap integers p.buffer)

-- `dwell 1`: 256, which is 1·2^8
pub float_without_its_exponent : writes (dwells (fin false 1 (pos 8))) (100 ∷ 119 ∷ 101 ∷ 108 ∷ 108 ∷ 32 ∷ 49 ∷ 10 ∷ []) → ⊥
unfolding line_of float_as filled spelled
float_without_its_exponent p = lists_differ tt (ap integers p.buffer)

-- `dwell 5`: 2^8 + 5
pub float_cut_to_a_byte : writes (dwells (fin false 261 (pos 0))) (100 ∷ 119 ∷ 101 ∷ 108 ∷ 108 ∷ 32 ∷ 53 ∷ 10 ∷ []) → ⊥
unfolding line_of float_as filled spelled
float_cut_to_a_byte p = lists_differ tt (ap integers p.buffer)

-- `dwell -0`: −7 has a size
pub negative_float_told_as_0 : writes (dwells (fin true 7 (pos 0))) (100 ∷ 119 ∷ 101 ∷ 108 ∷ 108 ∷ 32 ∷ 45 ∷ 48 ∷ 10 ∷ []) → ⊥
unfolding line_of float_as filled spelled
negative_float_told_as_0 p = lists_differ tt (ap integers p.buffer)

-- `dwell 2`: the whole part of 3/2 is 1
pub fraction_rounded_up : writes (dwells (fin false 3 (negsuc 0))) (100 ∷ 119 ∷ 101 ∷ 108 ∷ 108 ∷ 32 ∷ 50 ∷ 10 ∷ []) → ⊥
unfolding line_of float_as filled spelled
fraction_rounded_up p = lists_differ tt (ap integers p.buffer)

-- `dwell 3`: it moves
pub move_told_as_a_dwell : writes (moves (fin false 3 (pos 0)) (fin true 5 (pos 0)) (fin false 1 (pos 8))) (100 ∷ 119 ∷ 101 ∷ 108 ∷ 108 ∷ 32 ∷ 51 ∷ 10 ∷ []) → ⊥
unfolding line_of float_as filled spelled
move_told_as_a_dwell p = lists_differ tt (ap integers p.buffer)

-- ---- the slope unit

-- `ok 8`: the unit alone
pub unit_with_a_word : writes (SlopeUnit 8) (111 ∷ 107 ∷ 32 ∷ 56 ∷ 10 ∷ []) → ⊥
unfolding line_of fault_line filled spelled
unit_with_a_word p = lists_differ tt (ap integers p.buffer)

-- `ok`: it is told
pub unit_told_as_done : writes (SlopeUnit 8) (111 ∷ 107 ∷ 10 ∷ []) → ⊥
unfolding line_of fault_line filled spelled
unit_told_as_done p = lists_differ tt (ap integers p.buffer)

-- `-8`: it has no sign
pub unit_with_a_minus : writes (SlopeUnit 8) (45 ∷ 56 ∷ 10 ∷ []) → ⊥
unfolding line_of fault_line filled spelled
unit_with_a_minus p = lists_differ tt (ap integers p.buffer)

-- `+8`: of either kind
pub unit_with_a_plus : writes (SlopeUnit 8) (43 ∷ 56 ∷ 10 ∷ []) → ⊥
unfolding line_of fault_line filled spelled
unit_with_a_plus p = lists_differ tt (ap integers p.buffer)

-- `9`: 8
pub another_unit : writes (SlopeUnit 8) (57 ∷ 10 ∷ []) → ⊥
unfolding line_of fault_line filled spelled
another_unit p = lists_differ tt (ap integers p.buffer)

-- `256`: slopes are in units of 1/2^8, and 8 is told
pub unit_told_as_its_power : writes (SlopeUnit 8) (50 ∷ 53 ∷ 54 ∷ 10 ∷ []) → ⊥
unfolding line_of fault_line filled spelled
unit_told_as_its_power p = lists_differ tt (ap integers p.buffer)

-- ---- the line's end

-- `ok` without an LF: the line ends
pub no_line_feed : writes is_done (111 ∷ 107 ∷ []) → ⊥
unfolding line_of fault_line filled spelled
no_line_feed p = lists_differ tt (ap integers p.buffer)

-- `ok`, CR, LF: by one byte
pub return_and_line_feed : writes is_done (111 ∷ 107 ∷ 13 ∷ 10 ∷ []) → ⊥
unfolding line_of fault_line filled spelled
return_and_line_feed p = lists_differ tt (ap integers p.buffer)

-- `ok`, LF, LF: and once
pub two_line_feeds : writes is_done (111 ∷ 107 ∷ 10 ∷ 10 ∷ []) → ⊥
unfolding line_of fault_line filled spelled
two_line_feeds p = lists_differ tt (ap integers p.buffer)

-- an LF alone: silence has no byte
pub empty_line_for_silence : writes Silent (10 ∷ []) → ⊥
unfolding line_of fault_line filled spelled
empty_line_for_silence p = lists_differ tt (ap integers p.buffer)

-- `ok`: nor a word
pub done_for_silence : writes Silent (111 ∷ 107 ∷ 10 ∷ []) → ⊥
unfolding line_of fault_line filled spelled
done_for_silence p = lists_differ tt (ap integers p.buffer)

-- ---- where it is put

-- `ok`, LF behind `a`
pub reply_over_what_is_held : append (97 ∷ 46 ∷ 46 ∷ 46 ∷ []) 1 is_done (111 ∷ 107 ∷ 10 ∷ 46 ∷ []) 3 → ⊥
unfolding line_of filled
reply_over_what_is_held p = lists_differ tt (ap integers p.buffer)

-- what finds no room is not counted
pub reply_counted_without_room : append (46 ∷ 46 ∷ []) 0 is_done (111 ∷ 107 ∷ []) 3 → ⊥
unfolding line_of filled
reply_counted_without_room p = lists_differ tt (ap (λ (n : ℕ). pos n ∷ []) p.counted)

-- the bytes behind it stay
pub reply_changes_behind_the_answer : append (46 ∷ 46 ∷ 46 ∷ 46 ∷ []) 0 is_done (111 ∷ 107 ∷ 10 ∷ 0 ∷ []) 3 → ⊥
unfolding line_of filled
reply_changes_behind_the_answer p = lists_differ tt (ap integers p.buffer)

-- ---- the right lines are admitted

pub record RightReplies : Type 0 where
  -- `? line 12: too few words`
  pub too_few : writes (Wrong 12 TooFew) (63 ∷ 32 ∷ 108 ∷ 105 ∷ 110 ∷ 101 ∷ 32 ∷ 49 ∷ 50 ∷ 58 ∷ 32 ∷ 116 ∷ 111 ∷ 111 ∷ 32 ∷ 102 ∷ 101 ∷ 119 ∷ 32 ∷ 119 ∷ 111 ∷ 114 ∷ 100 ∷ 115 ∷ 10 ∷ [])
  -- `? line 12: number 2 is not a whole decimal number`
  pub not_decimal : writes (Wrong 12 (NotDecimal 2)) (63 ∷ 32 ∷ 108 ∷ 105 ∷ 110 ∷ 101 ∷ 32 ∷ 49 ∷ 50 ∷ 58 ∷ 32 ∷ 110 ∷ 117 ∷ 109 ∷ 98 ∷ 101 ∷ 114 ∷ 32 ∷ 50 ∷ 32 ∷ 105 ∷ 115 ∷ 32 ∷ 110 ∷ 111 ∷ 116 ∷ 32 ∷ 97 ∷ 32 ∷ 119 ∷ 104 ∷ 111 ∷ 108 ∷ 101 ∷ 32 ∷ 100 ∷ 101 ∷ 99 ∷ 105 ∷ 109 ∷ 97 ∷ 108 ∷ 32 ∷ 110 ∷ 117 ∷ 109 ∷ 98 ∷ 101 ∷ 114 ∷ 10 ∷ [])
  -- `? line 12: number 1 is not in 0 to 4294967295`
  pub beyond_unsigned : writes (Wrong 12 (BeyondUnsigned 1)) (63 ∷ 32 ∷ 108 ∷ 105 ∷ 110 ∷ 101 ∷ 32 ∷ 49 ∷ 50 ∷ 58 ∷ 32 ∷ 110 ∷ 117 ∷ 109 ∷ 98 ∷ 101 ∷ 114 ∷ 32 ∷ 49 ∷ 32 ∷ 105 ∷ 115 ∷ 32 ∷ 110 ∷ 111 ∷ 116 ∷ 32 ∷ 105 ∷ 110 ∷ 32 ∷ 48 ∷ 32 ∷ 116 ∷ 111 ∷ 32 ∷ 52 ∷ 50 ∷ 57 ∷ 52 ∷ 57 ∷ 54 ∷ 55 ∷ 50 ∷ 57 ∷ 53 ∷ 10 ∷ [])
  -- `refused 3 at 2: a width is not in 1 to 1024`
  pub refused : writes (Done (Err (record { cause = cause.Width; place = 2 }))) (114 ∷ 101 ∷ 102 ∷ 117 ∷ 115 ∷ 101 ∷ 100 ∷ 32 ∷ 51 ∷ 32 ∷ 97 ∷ 116 ∷ 32 ∷ 50 ∷ 58 ∷ 32 ∷ 97 ∷ 32 ∷ 119 ∷ 105 ∷ 100 ∷ 116 ∷ 104 ∷ 32 ∷ 105 ∷ 115 ∷ 32 ∷ 110 ∷ 111 ∷ 116 ∷ 32 ∷ 105 ∷ 110 ∷ 32 ∷ 49 ∷ 32 ∷ 116 ∷ 111 ∷ 32 ∷ 49 ∷ 48 ∷ 50 ∷ 52 ∷ 10 ∷ [])
  -- `refused 12 at 0: the slope unit is not in 0 to 8`
  pub unit_refused : writes (Done (Err (record { cause = cause.SlopeUnit; place = 0 }))) (114 ∷ 101 ∷ 102 ∷ 117 ∷ 115 ∷ 101 ∷ 100 ∷ 32 ∷ 49 ∷ 50 ∷ 32 ∷ 97 ∷ 116 ∷ 32 ∷ 48 ∷ 58 ∷ 32 ∷ 116 ∷ 104 ∷ 101 ∷ 32 ∷ 115 ∷ 108 ∷ 111 ∷ 112 ∷ 101 ∷ 32 ∷ 117 ∷ 110 ∷ 105 ∷ 116 ∷ 32 ∷ 105 ∷ 115 ∷ 32 ∷ 110 ∷ 111 ∷ 116 ∷ 32 ∷ 105 ∷ 110 ∷ 32 ∷ 48 ∷ 32 ∷ 116 ∷ 111 ∷ 32 ∷ 56 ∷ 10 ∷ [])
  -- `refused 9 at 0: `
  pub no_cause_yet : writes (Numbered 9 0) (114 ∷ 101 ∷ 102 ∷ 117 ∷ 115 ∷ 101 ∷ 100 ∷ 32 ∷ 57 ∷ 32 ∷ 97 ∷ 116 ∷ 32 ∷ 48 ∷ 58 ∷ 32 ∷ 10 ∷ [])
  -- `refused 99 at 0: `
  pub no_cause : writes (Numbered 99 0) (114 ∷ 101 ∷ 102 ∷ 117 ∷ 115 ∷ 101 ∷ 100 ∷ 32 ∷ 57 ∷ 57 ∷ 32 ∷ 97 ∷ 116 ∷ 32 ∷ 48 ∷ 58 ∷ 32 ∷ 10 ∷ [])
  -- `ok`
  pub done : writes is_done (111 ∷ 107 ∷ 10 ∷ [])
  -- `ok 4`
  pub count : writes (Count 4) (111 ∷ 107 ∷ 32 ∷ 52 ∷ 10 ∷ [])
  -- `falling`
  pub falling : writes (Judged (Ok Falling)) (102 ∷ 97 ∷ 108 ∷ 108 ∷ 105 ∷ 110 ∷ 103 ∷ 10 ∷ [])
  -- `refused 3 at 0: a width is not in 1 to 1024`
  pub verdict_refused : writes (Judged (Err (record { cause = cause.Width; place = 0 }))) (114 ∷ 101 ∷ 102 ∷ 117 ∷ 115 ∷ 101 ∷ 100 ∷ 32 ∷ 51 ∷ 32 ∷ 97 ∷ 116 ∷ 32 ∷ 48 ∷ 58 ∷ 32 ∷ 97 ∷ 32 ∷ 119 ∷ 105 ∷ 100 ∷ 116 ∷ 104 ∷ 32 ∷ 105 ∷ 115 ∷ 32 ∷ 110 ∷ 111 ∷ 116 ∷ 32 ∷ 105 ∷ 110 ∷ 32 ∷ 49 ∷ 32 ∷ 116 ∷ 111 ∷ 32 ∷ 49 ∷ 48 ∷ 50 ∷ 52 ∷ 10 ∷ [])
  -- `-7`
  pub value : writes (valued (negsuc 6)) (45 ∷ 55 ∷ 10 ∷ [])
  -- `refused 6 at 0: position before the first or after the last knot`
  pub value_refused : writes (Valued (Err (record { cause = cause.Position; place = 0 }))) (114 ∷ 101 ∷ 102 ∷ 117 ∷ 115 ∷ 101 ∷ 100 ∷ 32 ∷ 54 ∷ 32 ∷ 97 ∷ 116 ∷ 32 ∷ 48 ∷ 58 ∷ 32 ∷ 112 ∷ 111 ∷ 115 ∷ 105 ∷ 116 ∷ 105 ∷ 111 ∷ 110 ∷ 32 ∷ 98 ∷ 101 ∷ 102 ∷ 111 ∷ 114 ∷ 101 ∷ 32 ∷ 116 ∷ 104 ∷ 101 ∷ 32 ∷ 102 ∷ 105 ∷ 114 ∷ 115 ∷ 116 ∷ 32 ∷ 111 ∷ 114 ∷ 32 ∷ 97 ∷ 102 ∷ 116 ∷ 101 ∷ 114 ∷ 32 ∷ 116 ∷ 104 ∷ 101 ∷ 32 ∷ 108 ∷ 97 ∷ 115 ∷ 116 ∷ 32 ∷ 107 ∷ 110 ∷ 111 ∷ 116 ∷ 10 ∷ [])
  -- `dwell -7`
  pub dwell : writes (dwells (fin true 7 (pos 0))) (100 ∷ 119 ∷ 101 ∷ 108 ∷ 108 ∷ 32 ∷ 45 ∷ 55 ∷ 10 ∷ [])
  -- `move 3 -0 256`
  pub moved : writes (moves (fin false 3 (pos 0)) (fin true 0 (pos 0)) (fin false 1 (pos 8))) (109 ∷ 111 ∷ 118 ∷ 101 ∷ 32 ∷ 51 ∷ 32 ∷ 45 ∷ 48 ∷ 32 ∷ 50 ∷ 53 ∷ 54 ∷ 10 ∷ [])
  -- `refused 8 at 7: piece too large for the exact float answer`
  pub drive_refused : writes (Driven (Err (record { cause = cause.Size; place = 7 }))) (114 ∷ 101 ∷ 102 ∷ 117 ∷ 115 ∷ 101 ∷ 100 ∷ 32 ∷ 56 ∷ 32 ∷ 97 ∷ 116 ∷ 32 ∷ 55 ∷ 58 ∷ 32 ∷ 112 ∷ 105 ∷ 101 ∷ 99 ∷ 101 ∷ 32 ∷ 116 ∷ 111 ∷ 111 ∷ 32 ∷ 108 ∷ 97 ∷ 114 ∷ 103 ∷ 101 ∷ 32 ∷ 102 ∷ 111 ∷ 114 ∷ 32 ∷ 116 ∷ 104 ∷ 101 ∷ 32 ∷ 101 ∷ 120 ∷ 97 ∷ 99 ∷ 116 ∷ 32 ∷ 102 ∷ 108 ∷ 111 ∷ 97 ∷ 116 ∷ 32 ∷ 97 ∷ 110 ∷ 115 ∷ 119 ∷ 101 ∷ 114 ∷ 10 ∷ [])
  -- `8`
  pub slope_unit : writes (SlopeUnit 8) (56 ∷ 10 ∷ [])
  -- nothing
  pub silence : writes Silent []
  -- `ok`, LF behind `a`; and as far as there is room
  pub behind : append (97 ∷ 46 ∷ 46 ∷ 46 ∷ []) 1 is_done (97 ∷ 111 ∷ 107 ∷ 10 ∷ []) 4
  pub cut : append (46 ∷ 46 ∷ []) 0 is_done (111 ∷ 107 ∷ []) 2

pub right_replies : RightReplies
unfolding line_of fault_line float_as filled spelled
right_replies =
    record {
      too_few = record { counted = refl; buffer = refl };
      not_decimal = record { counted = refl; buffer = refl };
      beyond_unsigned = record { counted = refl; buffer = refl };
      refused = record { counted = refl; buffer = refl };
      unit_refused = record { counted = refl; buffer = refl };
      no_cause_yet = record { counted = refl; buffer = refl };
      no_cause = record { counted = refl; buffer = refl };
      done = record { counted = refl; buffer = refl };
      count = record { counted = refl; buffer = refl };
      falling = record { counted = refl; buffer = refl };
      verdict_refused = record { counted = refl; buffer = refl };
      value = record { counted = refl; buffer = refl };
      value_refused = record { counted = refl; buffer = refl };
      dwell = record { counted = refl; buffer = refl };
      moved = record { counted = refl; buffer = refl };
      drive_refused = record { counted = refl; buffer = refl };
      slope_unit = record { counted = refl; buffer = refl };
      silence = record { counted = refl; buffer = refl };
      behind = record { counted = refl; buffer = refl };
      cut = record { counted = refl; buffer = refl };
    }
