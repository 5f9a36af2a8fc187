-- The line that each answer of the workbench is written as. Text is the list of its bytes. In a form, `#` is the place of the next number and `$` that of the cause of a refusal.
use Rattle.std.specs.Prelude.{◌≡◌, refl, ℕ, Ok, Err, List, [], ◌∷◌, ◌++◌, slice_index_or}
use Rattle.std.proofs.Common.{ap}
use Rattle.answers.specs.declared.filling.Signed.{Signed}
use Rattle.answers.specs.Filling.{natural_as, whole_as, filled}
use Rattle.commands.specs.declared.Fault.{Fault}
use Rattle.commands.specs.declared.Fault.TheVariants.{TooLong, NoCommand, TooFew, TooMany, NoList, NotDecimal, Beyond32, Beyond64, BeyondUnsigned}
use Rattle.rules.specs.declared.Cause.{Cause}
use Rattle.rules.specs.declared.Cause.TheVariants as cause
use Rattle.rules.specs.declared.Refused.{Refused}
use Rattle.rules.specs.Causes.{number_of}
use Rattle.piece.specs.declared.Verdict.{Verdict}
use Rattle.piece.specs.declared.Verdict.TheVariants.{Rising, Falling, Flat, Bends}
use Rattle.drive.specs.declared.Answer.{Answer}
use Rattle.drive.specs.declared.Answer.TheVariants.{Dwell, Move}
use Rattle.replies.specs.declared.Reply.{Reply}
use Rattle.replies.specs.declared.Reply.TheVariants.{Silent, Wrong, Done, Count, Judged, Valued, Driven, SlopeUnit, Numbered}
use Rattle.replies.specs.Floats.{float_as}

-- a form with its numbers filled in, and an LF; it has no cause
abbrev line : List ℕ → List Signed → List ℕ
line form numbers = filled form [] numbers ++ (10 ∷ [])

-- ---- what is wrong with line L of the input

-- `? line #: the line is longer than 65536 bytes`
abbrev pub too_long : List ℕ
too_long = 63 ∷ 32 ∷ 108 ∷ 105 ∷ 110 ∷ 101 ∷ 32 ∷ 35 ∷ 58 ∷ 32 ∷ 116 ∷ 104 ∷ 101 ∷ 32 ∷ 108 ∷ 105 ∷ 110 ∷ 101 ∷ 32 ∷ 105 ∷ 115 ∷ 32 ∷ 108 ∷ 111 ∷ 110 ∷ 103 ∷ 101 ∷ 114 ∷ 32 ∷ 116 ∷ 104 ∷ 97 ∷ 110 ∷ 32 ∷ 54 ∷ 53 ∷ 53 ∷ 51 ∷ 54 ∷ 32 ∷ 98 ∷ 121 ∷ 116 ∷ 101 ∷ 115 ∷ []

-- `? line #: no such command`
abbrev pub no_command : List ℕ
no_command = 63 ∷ 32 ∷ 108 ∷ 105 ∷ 110 ∷ 101 ∷ 32 ∷ 35 ∷ 58 ∷ 32 ∷ 110 ∷ 111 ∷ 32 ∷ 115 ∷ 117 ∷ 99 ∷ 104 ∷ 32 ∷ 99 ∷ 111 ∷ 109 ∷ 109 ∷ 97 ∷ 110 ∷ 100 ∷ []

-- `? line #: too few words`
abbrev pub too_few : List ℕ
too_few = 63 ∷ 32 ∷ 108 ∷ 105 ∷ 110 ∷ 101 ∷ 32 ∷ 35 ∷ 58 ∷ 32 ∷ 116 ∷ 111 ∷ 111 ∷ 32 ∷ 102 ∷ 101 ∷ 119 ∷ 32 ∷ 119 ∷ 111 ∷ 114 ∷ 100 ∷ 115 ∷ []

-- `? line #: too many words`
abbrev pub too_many : List ℕ
too_many = 63 ∷ 32 ∷ 108 ∷ 105 ∷ 110 ∷ 101 ∷ 32 ∷ 35 ∷ 58 ∷ 32 ∷ 116 ∷ 111 ∷ 111 ∷ 32 ∷ 109 ∷ 97 ∷ 110 ∷ 121 ∷ 32 ∷ 119 ∷ 111 ∷ 114 ∷ 100 ∷ 115 ∷ []

-- `? line #: no such list`
abbrev pub no_list : List ℕ
no_list = 63 ∷ 32 ∷ 108 ∷ 105 ∷ 110 ∷ 101 ∷ 32 ∷ 35 ∷ 58 ∷ 32 ∷ 110 ∷ 111 ∷ 32 ∷ 115 ∷ 117 ∷ 99 ∷ 104 ∷ 32 ∷ 108 ∷ 105 ∷ 115 ∷ 116 ∷ []

-- `? line #: number # is not a whole decimal number`
abbrev pub not_decimal : List ℕ
not_decimal = 63 ∷ 32 ∷ 108 ∷ 105 ∷ 110 ∷ 101 ∷ 32 ∷ 35 ∷ 58 ∷ 32 ∷ 110 ∷ 117 ∷ 109 ∷ 98 ∷ 101 ∷ 114 ∷ 32 ∷ 35 ∷ 32 ∷ 105 ∷ 115 ∷ 32 ∷ 110 ∷ 111 ∷ 116 ∷ 32 ∷ 97 ∷ 32 ∷ 119 ∷ 104 ∷ 111 ∷ 108 ∷ 101 ∷ 32 ∷ 100 ∷ 101 ∷ 99 ∷ 105 ∷ 109 ∷ 97 ∷ 108 ∷ 32 ∷ 110 ∷ 117 ∷ 109 ∷ 98 ∷ 101 ∷ 114 ∷ []

-- `? line #: number # does not fit 32 bits`
abbrev pub beyond32 : List ℕ
beyond32 = 63 ∷ 32 ∷ 108 ∷ 105 ∷ 110 ∷ 101 ∷ 32 ∷ 35 ∷ 58 ∷ 32 ∷ 110 ∷ 117 ∷ 109 ∷ 98 ∷ 101 ∷ 114 ∷ 32 ∷ 35 ∷ 32 ∷ 100 ∷ 111 ∷ 101 ∷ 115 ∷ 32 ∷ 110 ∷ 111 ∷ 116 ∷ 32 ∷ 102 ∷ 105 ∷ 116 ∷ 32 ∷ 51 ∷ 50 ∷ 32 ∷ 98 ∷ 105 ∷ 116 ∷ 115 ∷ []

-- `? line #: number # does not fit 64 bits`
abbrev pub beyond64 : List ℕ
beyond64 = 63 ∷ 32 ∷ 108 ∷ 105 ∷ 110 ∷ 101 ∷ 32 ∷ 35 ∷ 58 ∷ 32 ∷ 110 ∷ 117 ∷ 109 ∷ 98 ∷ 101 ∷ 114 ∷ 32 ∷ 35 ∷ 32 ∷ 100 ∷ 111 ∷ 101 ∷ 115 ∷ 32 ∷ 110 ∷ 111 ∷ 116 ∷ 32 ∷ 102 ∷ 105 ∷ 116 ∷ 32 ∷ 54 ∷ 52 ∷ 32 ∷ 98 ∷ 105 ∷ 116 ∷ 115 ∷ []

-- `? line #: number # is not in 0 to 4294967295`
abbrev pub beyond_unsigned : List ℕ
beyond_unsigned = 63 ∷ 32 ∷ 108 ∷ 105 ∷ 110 ∷ 101 ∷ 32 ∷ 35 ∷ 58 ∷ 32 ∷ 110 ∷ 117 ∷ 109 ∷ 98 ∷ 101 ∷ 114 ∷ 32 ∷ 35 ∷ 32 ∷ 105 ∷ 115 ∷ 32 ∷ 110 ∷ 111 ∷ 116 ∷ 32 ∷ 105 ∷ 110 ∷ 32 ∷ 48 ∷ 32 ∷ 116 ∷ 111 ∷ 32 ∷ 52 ∷ 50 ∷ 57 ∷ 52 ∷ 57 ∷ 54 ∷ 55 ∷ 50 ∷ 57 ∷ 53 ∷ []

unfoldable pub fault_line : ℕ → Fault → List ℕ
fault_line n TooLong = line too_long (natural_as n ∷ [])
fault_line n NoCommand = line no_command (natural_as n ∷ [])
fault_line n TooFew = line too_few (natural_as n ∷ [])
fault_line n TooMany = line too_many (natural_as n ∷ [])
fault_line n NoList = line no_list (natural_as n ∷ [])
fault_line n (NotDecimal k) = line not_decimal (natural_as n ∷ natural_as k ∷ [])
fault_line n (Beyond32 k) = line beyond32 (natural_as n ∷ natural_as k ∷ [])
fault_line n (Beyond64 k) = line beyond64 (natural_as n ∷ natural_as k ∷ [])
fault_line n (BeyondUnsigned k) = line beyond_unsigned (natural_as n ∷ natural_as k ∷ [])

-- ---- refusals

-- `the lists' lengths differ`
abbrev lengths_differ : List ℕ
lengths_differ = 116 ∷ 104 ∷ 101 ∷ 32 ∷ 108 ∷ 105 ∷ 115 ∷ 116 ∷ 115 ∷ 39 ∷ 32 ∷ 108 ∷ 101 ∷ 110 ∷ 103 ∷ 116 ∷ 104 ∷ 115 ∷ 32 ∷ 100 ∷ 105 ∷ 102 ∷ 102 ∷ 101 ∷ 114 ∷ []

-- `fewer than 2 or more than 1024 points`
abbrev bad_count : List ℕ
bad_count = 102 ∷ 101 ∷ 119 ∷ 101 ∷ 114 ∷ 32 ∷ 116 ∷ 104 ∷ 97 ∷ 110 ∷ 32 ∷ 50 ∷ 32 ∷ 111 ∷ 114 ∷ 32 ∷ 109 ∷ 111 ∷ 114 ∷ 101 ∷ 32 ∷ 116 ∷ 104 ∷ 97 ∷ 110 ∷ 32 ∷ 49 ∷ 48 ∷ 50 ∷ 52 ∷ 32 ∷ 112 ∷ 111 ∷ 105 ∷ 110 ∷ 116 ∷ 115 ∷ []

-- `a width is not in 1 to 1024`
abbrev bad_width : List ℕ
bad_width = 97 ∷ 32 ∷ 119 ∷ 105 ∷ 100 ∷ 116 ∷ 104 ∷ 32 ∷ 105 ∷ 115 ∷ 32 ∷ 110 ∷ 111 ∷ 116 ∷ 32 ∷ 105 ∷ 110 ∷ 32 ∷ 49 ∷ 32 ∷ 116 ∷ 111 ∷ 32 ∷ 49 ∷ 48 ∷ 50 ∷ 52 ∷ []

-- `a rise is outside its limits`
abbrev bad_rise : List ℕ
bad_rise = 97 ∷ 32 ∷ 114 ∷ 105 ∷ 115 ∷ 101 ∷ 32 ∷ 105 ∷ 115 ∷ 32 ∷ 111 ∷ 117 ∷ 116 ∷ 115 ∷ 105 ∷ 100 ∷ 101 ∷ 32 ∷ 105 ∷ 116 ∷ 115 ∷ 32 ∷ 108 ∷ 105 ∷ 109 ∷ 105 ∷ 116 ∷ 115 ∷ []

-- `a piece is not monotone`
abbrev not_monotone : List ℕ
not_monotone = 97 ∷ 32 ∷ 112 ∷ 105 ∷ 101 ∷ 99 ∷ 101 ∷ 32 ∷ 105 ∷ 115 ∷ 32 ∷ 110 ∷ 111 ∷ 116 ∷ 32 ∷ 109 ∷ 111 ∷ 110 ∷ 111 ∷ 116 ∷ 111 ∷ 110 ∷ 101 ∷ []

-- `position before the first or after the last knot`
abbrev bad_position : List ℕ
bad_position = 112 ∷ 111 ∷ 115 ∷ 105 ∷ 116 ∷ 105 ∷ 111 ∷ 110 ∷ 32 ∷ 98 ∷ 101 ∷ 102 ∷ 111 ∷ 114 ∷ 101 ∷ 32 ∷ 116 ∷ 104 ∷ 101 ∷ 32 ∷ 102 ∷ 105 ∷ 114 ∷ 115 ∷ 116 ∷ 32 ∷ 111 ∷ 114 ∷ 32 ∷ 97 ∷ 102 ∷ 116 ∷ 101 ∷ 114 ∷ 32 ∷ 116 ∷ 104 ∷ 101 ∷ 32 ∷ 108 ∷ 97 ∷ 115 ∷ 116 ∷ 32 ∷ 107 ∷ 110 ∷ 111 ∷ 116 ∷ []

-- `no point with this number`
abbrev no_point : List ℕ
no_point = 110 ∷ 111 ∷ 32 ∷ 112 ∷ 111 ∷ 105 ∷ 110 ∷ 116 ∷ 32 ∷ 119 ∷ 105 ∷ 116 ∷ 104 ∷ 32 ∷ 116 ∷ 104 ∷ 105 ∷ 115 ∷ 32 ∷ 110 ∷ 117 ∷ 109 ∷ 98 ∷ 101 ∷ 114 ∷ []

-- `piece too large for the exact float answer`
abbrev too_large : List ℕ
too_large = 112 ∷ 105 ∷ 101 ∷ 99 ∷ 101 ∷ 32 ∷ 116 ∷ 111 ∷ 111 ∷ 32 ∷ 108 ∷ 97 ∷ 114 ∷ 103 ∷ 101 ∷ 32 ∷ 102 ∷ 111 ∷ 114 ∷ 32 ∷ 116 ∷ 104 ∷ 101 ∷ 32 ∷ 101 ∷ 120 ∷ 97 ∷ 99 ∷ 116 ∷ 32 ∷ 102 ∷ 108 ∷ 111 ∷ 97 ∷ 116 ∷ 32 ∷ 97 ∷ 110 ∷ 115 ∷ 119 ∷ 101 ∷ 114 ∷ []

-- `the slope unit is not in 0 to 8`
abbrev bad_unit : List ℕ
bad_unit = 116 ∷ 104 ∷ 101 ∷ 32 ∷ 115 ∷ 108 ∷ 111 ∷ 112 ∷ 101 ∷ 32 ∷ 117 ∷ 110 ∷ 105 ∷ 116 ∷ 32 ∷ 105 ∷ 115 ∷ 32 ∷ 110 ∷ 111 ∷ 116 ∷ 32 ∷ 105 ∷ 110 ∷ 32 ∷ 48 ∷ 32 ∷ 116 ∷ 111 ∷ 32 ∷ 56 ∷ []

-- what each cause says
abbrev pub cause_of : Cause → List ℕ
cause_of cause.Lengths = lengths_differ
cause_of cause.Count = bad_count
cause_of cause.Width = bad_width
cause_of cause.Rise = bad_rise
cause_of cause.Bend = not_monotone
cause_of cause.Position = bad_position
cause_of cause.Point = no_point
cause_of cause.Size = too_large
cause_of cause.SlopeUnit = bad_unit

-- `refused # at #: $`
abbrev pub refused : List ℕ
refused = 114 ∷ 101 ∷ 102 ∷ 117 ∷ 115 ∷ 101 ∷ 100 ∷ 32 ∷ 35 ∷ 32 ∷ 97 ∷ 116 ∷ 32 ∷ 35 ∷ 58 ∷ 32 ∷ 36 ∷ []

abbrev pub refused_line : Refused → List ℕ
refused_line r = filled refused (cause_of r.cause) (natural_as (number_of r.cause) ∷ natural_as r.place ∷ []) ++ (10 ∷ [])

-- the causes by their numbers, from 0, which refuses nothing; 9, 10 and 11 have none
abbrev pub causes : List (List ℕ)
causes =
    []
    ∷ lengths_differ
    ∷ bad_count
    ∷ bad_width
    ∷ bad_rise
    ∷ not_monotone
    ∷ bad_position
    ∷ no_point
    ∷ too_large
    ∷ []
    ∷ []
    ∷ []
    ∷ bad_unit
    ∷ []

-- a number without a cause has an empty one
abbrev pub cause_by_number : ℕ → List ℕ
cause_by_number number = slice_index_or causes number []

-- a refusal by its number and its place, of any number
abbrev pub numbered_line : (number place : ℕ) → List ℕ
numbered_line number place = filled refused (cause_by_number number) (natural_as number ∷ natural_as place ∷ []) ++ (10 ∷ [])

-- each cause stands at its number, so that by that number its line is the same
pub at_its_number : (c : Cause) → cause_by_number (number_of c) ≡ cause_of c
at_its_number cause.Lengths = refl
at_its_number cause.Count = refl
at_its_number cause.Width = refl
at_its_number cause.Rise = refl
at_its_number cause.Bend = refl
at_its_number cause.Position = refl
at_its_number cause.Point = refl
at_its_number cause.Size = refl
at_its_number cause.SlopeUnit = refl

pub numbered_as_refused : (r : Refused) → numbered_line (number_of r.cause) r.place ≡ refused_line r
numbered_as_refused r = ap (λ (text : List ℕ). filled refused text (natural_as (number_of r.cause) ∷ natural_as r.place ∷ []) ++ (10 ∷ [])) (at_its_number r.cause)

-- ---- the other answers

-- `ok`
abbrev pub ok : List ℕ
ok = 111 ∷ 107 ∷ []

-- `ok #`
abbrev pub counted : List ℕ
counted = 111 ∷ 107 ∷ 32 ∷ 35 ∷ []

-- `rising`
abbrev pub rising : List ℕ
rising = 114 ∷ 105 ∷ 115 ∷ 105 ∷ 110 ∷ 103 ∷ []

-- `falling`
abbrev pub falling : List ℕ
falling = 102 ∷ 97 ∷ 108 ∷ 108 ∷ 105 ∷ 110 ∷ 103 ∷ []

-- `flat`
abbrev pub flat : List ℕ
flat = 102 ∷ 108 ∷ 97 ∷ 116 ∷ []

-- `bends`
abbrev pub bends : List ℕ
bends = 98 ∷ 101 ∷ 110 ∷ 100 ∷ 115 ∷ []

-- `#`
abbrev pub value : List ℕ
value = 35 ∷ []

-- `dwell #`
abbrev pub dwell : List ℕ
dwell = 100 ∷ 119 ∷ 101 ∷ 108 ∷ 108 ∷ 32 ∷ 35 ∷ []

-- `move # # #`
abbrev pub move : List ℕ
move = 109 ∷ 111 ∷ 118 ∷ 101 ∷ 32 ∷ 35 ∷ 32 ∷ 35 ∷ 32 ∷ 35 ∷ []

-- ---- the line of each reply; a silent one has no byte

abbrev pub verdict_text : Verdict → List ℕ
verdict_text Rising = rising
verdict_text Falling = falling
verdict_text Flat = flat
verdict_text Bends = bends

abbrev pub verdict_line : Verdict → List ℕ
verdict_line verdict = line (verdict_text verdict) []

abbrev pub told_line : Answer → List ℕ
told_line (Dwell level) = line dwell (float_as level ∷ [])
told_line (Move m) = line move (float_as m.left ∷ float_as m.numerator ∷ float_as m.denominator ∷ [])

unfoldable pub line_of : Reply → List ℕ
line_of Silent = []
line_of (Wrong n fault) = fault_line n fault
line_of (Done (Ok done)) = line ok []
line_of (Done (Err r)) = refused_line r
line_of (Count n) = line counted (natural_as n ∷ [])
line_of (Judged (Ok verdict)) = verdict_line verdict
line_of (Judged (Err r)) = refused_line r
line_of (Valued (Ok v)) = line value (whole_as v ∷ [])
line_of (Valued (Err r)) = refused_line r
line_of (Driven (Ok answer)) = told_line answer
line_of (Driven (Err r)) = refused_line r
line_of (SlopeUnit s) = line value (natural_as s ∷ [])
line_of (Numbered number place) = numbered_line number place
