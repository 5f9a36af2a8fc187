-- Wrong programs with the commands of the workbench, each refuted by what it would answer to one line. The lines, and what they ask for, are those of
-- `crates/commands/specs/Examples.antt`, which has their bytes; here a comment has the text.
use Rattle.std.specs.Prelude.{ℕ, ◌<◌, refl, List, [], ◌∷◌, ℤ, pos, negsuc, length, replicate, Result, Ok, Err}
use Rattle.std.proofs.Common.{ap, ◌∙◌, lit≤, lit<}
use Rattle.commands.specs.declared.List as Lists
use Rattle.commands.specs.declared.List.TheVariants.{Knots, Values, Slopes}
use Rattle.commands.specs.declared.Fault.{Fault}
use Rattle.commands.specs.declared.Fault.TheVariants.{TooLong, NoCommand, TooFew, TooMany, NoList, NotDecimal, Beyond32, Beyond64, BeyondUnsigned}
use Rattle.commands.specs.declared.Command.{Command}
use Rattle.commands.specs.declared.Command.TheVariants.{Nothing, Set, Show, Piece, Build, Check, At, Drive, Change, SetUnit, ShowUnit}
use Rattle.commands.specs.Examples as lines
use Rattle.commands.specs.Examples.{worked, too_long, spaces, knots_and, too_many, full_list}
use Rattle.demands.proofs.InstancesBelow.{bytes}
use Rattle.demands.specs.Refuting.{lists_differ}
use Rattle.commands.proofs.parse.Reads as commands-parse

abbrev parse : List ℕ → (r : Result Command Fault) → Type 0
parse line r = commands-parse.Post ([], tt) (bytes line, tt) r (bytes line, tt)

-- what is answered, as numbers to be compared
abbrev which : Lists.List → ℤ
which Knots = pos 0
which Values = pos 1
which Slopes = pos 2

abbrev fault : Fault → List ℤ
fault TooLong = pos 0 ∷ []
fault NoCommand = pos 1 ∷ []
fault TooFew = pos 2 ∷ []
fault TooMany = pos 3 ∷ []
fault NoList = pos 4 ∷ []
fault (NotDecimal k) = pos 5 ∷ pos k ∷ []
fault (Beyond32 k) = pos 6 ∷ pos k ∷ []
fault (Beyond64 k) = pos 7 ∷ pos k ∷ []
fault (BeyondUnsigned k) = pos 8 ∷ pos k ∷ []

abbrev asked : Command → List ℤ
asked Nothing = []
asked (Set l) = pos 1 ∷ which l ∷ []
asked (Show l) = pos 2 ∷ which l ∷ []
asked (Piece p) = pos 3 ∷ p.h ∷ p.z ∷ p.m ∷ p.n ∷ []
asked Build = pos 4 ∷ []
asked Check = pos 5 ∷ []
asked (At x) = pos 6 ∷ x ∷ []
asked (Drive x) = pos 7 ∷ x ∷ []
asked (Change p) = pos 8 ∷ p.number ∷ p.knot ∷ p.value ∷ []
asked (SetUnit s) = pos 9 ∷ pos s ∷ []
asked ShowUnit = pos 10 ∷ []

abbrev answer : Result Command Fault → List ℤ
answer (Ok command) = asked command
answer (Err f) = pos 0 ∷ fault f

-- ---- each command, and each fault of its line

-- an empty line asks for nothing, and is not wrong
pub empty_line_called_wrong : parse lines.empty (Err NoCommand) → ⊥
empty_line_called_wrong p = lists_differ tt (ap answer (p ∙ worked.empty_asks))

-- `#at 1` is a comment, and not a command behind a `#`
pub comment_done : parse lines.comment (Ok (At (pos 1))) → ⊥
comment_done p = lists_differ tt (ap answer (p ∙ worked.comment_asks))

-- and it is not wrong
pub comment_called_wrong : parse lines.comment (Err NoCommand) → ⊥
comment_called_wrong p = lists_differ tt (ap answer (p ∙ worked.comment_asks))

-- ` #` is no comment: a `#` makes one only where it is the very first byte
pub comment_behind_a_space : parse lines.late_comment (Ok Nothing) → ⊥
comment_behind_a_space p = lists_differ tt (ap answer (p ∙ worked.late_comment_asks))

-- nor is the rest of `at 1 #`
pub comment_behind_a_command : parse lines.comment_as_a_number (Ok (At (pos 1))) → ⊥
comment_behind_a_command p = lists_differ tt (ap answer (p ∙ worked.comment_as_a_number_asks))

-- `att` is no command, though it begins as one
pub beginning_taken_for_a_name : parse lines.unknown (Ok (At (pos 1))) → ⊥
beginning_taken_for_a_name p = lists_differ tt (ap answer (p ∙ worked.unknown_asks))

-- and the line is not passed over
pub unknown_passed_over : parse lines.unknown (Ok Nothing) → ⊥
unknown_passed_over p = lists_differ tt (ap answer (p ∙ worked.unknown_asks))

-- nor is `AT`
pub capitals_taken : parse lines.capital (Ok (At (pos 1))) → ⊥
capitals_taken p = lists_differ tt (ap answer (p ∙ worked.capital_asks))

-- `foo` names no command, which comes before how many words it has
pub count_before_the_name : parse lines.unknown_alone (Err TooFew) → ⊥
count_before_the_name p = lists_differ tt (ap answer (p ∙ worked.unknown_alone_asks))

-- `at` has too few words, and not a first one that is no number
pub missing_number_called_no_number : parse lines.at_alone (Err (NotDecimal 1)) → ⊥
missing_number_called_no_number p = lists_differ tt (ap answer (p ∙ worked.at_alone_asks))

-- and 0 is not put in
pub missing_number_taken_for_0 : parse lines.at_alone (Ok (At (pos 0))) → ⊥
missing_number_taken_for_0 p = lists_differ tt (ap answer (p ∙ worked.at_alone_asks))

-- `at`, tab, `1`, space is `at 1`, and not `drive 1`
pub at_taken_for_drive : parse lines.at_one (Ok (Drive (pos 1))) → ⊥
at_taken_for_drive p = lists_differ tt (ap answer (p ∙ worked.at_one_asks))

-- and the space behind is no word
pub space_behind_counted : parse lines.at_one (Err TooMany) → ⊥
space_behind_counted p = lists_differ tt (ap answer (p ∙ worked.at_one_asks))

-- `at 1 2` has a word too many, which is not left out
pub words_left_over : parse lines.at_two (Ok (At (pos 1))) → ⊥
words_left_over p = lists_differ tt (ap answer (p ∙ worked.at_two_asks))

-- `at x` has no number, and 0 is not put in
pub no_number_taken_for_0 : parse lines.at_letter (Ok (At (pos 0))) → ⊥
no_number_taken_for_0 p = lists_differ tt (ap answer (p ∙ worked.at_letter_asks))

-- the numbers are counted from 1
pub numbers_counted_from_0 : parse lines.at_letter (Err (NotDecimal 0)) → ⊥
numbers_counted_from_0 p = lists_differ tt (ap answer (p ∙ worked.at_letter_asks))

-- `x` is no number, and not one beyond 32 bits
pub no_number_called_beyond : parse lines.at_letter (Err (Beyond32 1)) → ⊥
no_number_called_beyond p = lists_differ tt (ap answer (p ∙ worked.at_letter_asks))

-- `at x 1` has a word too many, which comes before what the words are
pub numbers_before_the_count : parse lines.at_letter_more (Err (NotDecimal 1)) → ⊥
numbers_before_the_count p = lists_differ tt (ap answer (p ∙ worked.at_letter_more_asks))

-- 2³¹ does not fit 32 bits, and is not wrapped
pub number_wrapped : parse lines.at_large (Ok (At (negsuc 2147483647))) → ⊥
number_wrapped p = lists_differ tt (ap answer (p ∙ worked.at_large_asks))

-- and 64 bits are not what it would have to fit
pub beyond_32_called_beyond_64 : parse lines.at_large (Err (Beyond64 1)) → ⊥
beyond_32_called_beyond_64 p = lists_differ tt (ap answer (p ∙ worked.at_large_asks))

-- −2³¹ fits 32 bits
pub least_number_refused : parse lines.drive_least (Err (Beyond32 1)) → ⊥
least_number_refused p = lists_differ tt (ap answer (p ∙ worked.drive_least_asks))

-- and keeps its sign
pub drive_without_its_sign : parse lines.drive_least (Ok (Drive (pos 2147483647))) → ⊥
drive_without_its_sign p = lists_differ tt (ap answer (p ∙ worked.drive_least_asks))

-- `build` is not `check`
pub build_taken_for_check : parse lines.build (Ok Check) → ⊥
build_taken_for_check p = lists_differ tt (ap answer (p ∙ worked.build_asks))

-- nor the other way
pub check_taken_for_build : parse lines.check (Ok Build) → ⊥
check_taken_for_build p = lists_differ tt (ap answer (p ∙ worked.check_asks))

-- `build 1` has a word too many
pub build_with_a_word : parse lines.build_one (Ok Build) → ⊥
build_with_a_word p = lists_differ tt (ap answer (p ∙ worked.build_one_asks))

-- `knots 1 -2` sets the knots, and not the values
pub knots_taken_for_values : parse lines.knots (Ok (Set Values)) → ⊥
knots_taken_for_values p = lists_differ tt (ap answer (p ∙ worked.knots_asks))

-- and does not show them
pub set_taken_for_show : parse lines.knots (Ok (Show Knots)) → ⊥
set_taken_for_show p = lists_differ tt (ap answer (p ∙ worked.knots_asks))

-- `values` sets a list to no numbers
pub empty_list_refused : parse lines.values (Err TooFew) → ⊥
empty_list_refused p = lists_differ tt (ap answer (p ∙ worked.values_asks))

-- and it is the values that it sets
pub values_taken_for_slopes : parse lines.values (Ok (Set Slopes)) → ⊥
values_taken_for_slopes p = lists_differ tt (ap answer (p ∙ worked.values_asks))

-- `slopes 1 x` sets nothing
pub list_with_a_fault_set : parse lines.slopes_letter (Ok (Set Slopes)) → ⊥
list_with_a_fault_set p = lists_differ tt (ap answer (p ∙ worked.slopes_letter_asks))

-- and it is its second word that is no number
pub faults_of_a_list_at_the_first : parse lines.slopes_letter (Err (NotDecimal 1)) → ⊥
faults_of_a_list_at_the_first p = lists_differ tt (ap answer (p ∙ worked.slopes_letter_asks))

-- `slopes 1 2147483648 x`: the first fault is named, and not the last
pub last_fault_of_a_list : parse lines.slopes_large (Err (NotDecimal 3)) → ⊥
last_fault_of_a_list p = lists_differ tt (ap answer (p ∙ worked.slopes_large_asks))

-- a list has numbers of 32 bits
pub list_of_64_bits : parse lines.slopes_large (Err (Beyond64 2)) → ⊥
list_of_64_bits p = lists_differ tt (ap answer (p ∙ worked.slopes_large_asks))

-- `show slopes` shows a list, and sets none
pub show_taken_for_set : parse lines.show (Ok (Set Slopes)) → ⊥
show_taken_for_set p = lists_differ tt (ap answer (p ∙ worked.show_asks))

-- it is the slopes that it shows
pub slopes_taken_for_knots : parse lines.show (Ok (Show Knots)) → ⊥
slopes_taken_for_knots p = lists_differ tt (ap answer (p ∙ worked.show_asks))

-- `show` names no list
pub show_without_a_list : parse lines.show_alone (Ok (Show Knots)) → ⊥
show_without_a_list p = lists_differ tt (ap answer (p ∙ worked.show_alone_asks))

-- it has too few words, and not one that names no list
pub no_word_called_no_list : parse lines.show_alone (Err NoList) → ⊥
no_word_called_no_list p = lists_differ tt (ap answer (p ∙ worked.show_alone_asks))

-- `show curve 1` has a word too many, which comes before what the first names
pub list_before_the_count : parse lines.show_two (Err NoList) → ⊥
list_before_the_count p = lists_differ tt (ap answer (p ∙ worked.show_two_asks))

-- `show curve` names no list
pub any_list_shown : parse lines.show_curve (Ok (Show Knots)) → ⊥
any_list_shown p = lists_differ tt (ap answer (p ∙ worked.show_curve_asks))

-- and its command is one
pub no_list_called_no_command : parse lines.show_curve (Err NoCommand) → ⊥
no_list_called_no_command p = lists_differ tt (ap answer (p ∙ worked.show_curve_asks))

-- `piece 3 -10 -853 5`: the width is 3 and the rise −10
pub width_and_rise_exchanged : parse lines.piece (Ok (Piece (record { h = negsuc 9; z = pos 3; m = negsuc 852; n = pos 5 }))) → ⊥
width_and_rise_exchanged p = lists_differ tt (ap answer (p ∙ worked.piece_asks))

-- and the slopes are −853 and 5
pub slopes_exchanged : parse lines.piece (Ok (Piece (record { h = pos 3; z = negsuc 9; m = pos 5; n = negsuc 852 }))) → ⊥
slopes_exchanged p = lists_differ tt (ap answer (p ∙ worked.piece_asks))

-- `piece x` has too few words, which comes before what the words are
pub numbers_before_too_few : parse lines.piece_letter (Err (NotDecimal 1)) → ⊥
numbers_before_too_few p = lists_differ tt (ap answer (p ∙ worked.piece_letter_asks))

-- `piece 1 x 3 2147483648`: the first fault is named, and not the last
pub last_fault_named : parse lines.piece_faults (Err (Beyond32 4)) → ⊥
last_fault_named p = lists_differ tt (ap answer (p ∙ worked.piece_faults_asks))

-- `piece 2147483648 9223372036854775808 x 0`: a width may have 64 bits
pub width_of_32_bits : parse lines.piece_large (Err (Beyond32 1)) → ⊥
width_of_32_bits p = lists_differ tt (ap answer (p ∙ worked.piece_large_asks))

-- the rise is beyond 64 bits
pub beyond_64_called_beyond_32 : parse lines.piece_large (Err (Beyond32 2)) → ⊥
beyond_64_called_beyond_32 p = lists_differ tt (ap answer (p ∙ worked.piece_large_asks))

-- and it is not passed over
pub rise_of_any_size : parse lines.piece_large (Err (NotDecimal 3)) → ⊥
rise_of_any_size p = lists_differ tt (ap answer (p ∙ worked.piece_large_asks))

-- `piece 1 1 1 2147483648`: a slope has 32 bits
pub slopes_of_64_bits : parse lines.piece_slopes (Ok (Piece (record { h = pos 1; z = pos 1; m = pos 1; n = pos 2147483648 }))) → ⊥
slopes_of_64_bits p = lists_differ tt (ap answer (p ∙ worked.piece_slopes_asks))

-- and is told so
pub fault_called_beyond_64 : parse lines.piece_slopes (Err (Beyond64 4)) → ⊥
fault_called_beyond_64 p = lists_differ tt (ap answer (p ∙ worked.piece_slopes_asks))

-- `change -1 2 3` asks for point −1, which only a table can refuse
pub negative_point_refused : parse lines.change (Err (NotDecimal 1)) → ⊥
negative_point_refused p = lists_differ tt (ap answer (p ∙ worked.change_asks))

-- with the knot 2 and the value 3
pub knot_and_value_exchanged : parse lines.change (Ok (Change (record { number = negsuc 0; knot = pos 3; value = pos 2 }))) → ⊥
knot_and_value_exchanged p = lists_differ tt (ap answer (p ∙ worked.change_asks))

-- `change 2147483648 2147483648 0`: the number of a point may have 64 bits
pub point_of_32_bits : parse lines.change_large (Err (Beyond32 1)) → ⊥
point_of_32_bits p = lists_differ tt (ap answer (p ∙ worked.change_large_asks))

-- and a knot has 32
pub knot_of_64_bits : parse lines.change_large (Ok (Change (record { number = pos 2147483648; knot = pos 2147483648; value = pos 0 }))) → ⊥
knot_of_64_bits p = lists_differ tt (ap answer (p ∙ worked.change_large_asks))

-- ---- the slope unit

-- `unit -1` is no unit, and 0 is not put in
pub negative_unit_taken_for_0 : parse lines.unit_negative (Ok (SetUnit 0)) → ⊥
negative_unit_taken_for_0 p = lists_differ tt (ap answer (p ∙ worked.unit_negative_asks))

-- nor its size
pub unit_without_its_sign : parse lines.unit_negative (Ok (SetUnit 1)) → ⊥
unit_without_its_sign p = lists_differ tt (ap answer (p ∙ worked.unit_negative_asks))

-- and it is not wrapped
pub negative_unit_wrapped : parse lines.unit_negative (Ok (SetUnit 4294967295)) → ⊥
negative_unit_wrapped p = lists_differ tt (ap answer (p ∙ worked.unit_negative_asks))

-- it is a number
pub negative_unit_called_no_number : parse lines.unit_negative (Err (NotDecimal 1)) → ⊥
negative_unit_called_no_number p = lists_differ tt (ap answer (p ∙ worked.unit_negative_asks))

-- `unit -0` is `unit 0`
pub unit_refused_for_its_minus : parse lines.unit_minus_0 (Err (BeyondUnsigned 1)) → ⊥
unit_refused_for_its_minus p = lists_differ tt (ap answer (p ∙ worked.unit_minus_0_asks))

-- `unit 9` is a unit: only a table can refuse it
pub unit_above_8_called_wrong : parse lines.unit_nine (Err (BeyondUnsigned 1)) → ⊥
unit_above_8_called_wrong p = lists_differ tt (ap answer (p ∙ worked.unit_nine_asks))

-- and it is not cut to 8
pub unit_above_8_taken_for_8 : parse lines.unit_nine (Ok (SetUnit 8)) → ⊥
unit_above_8_taken_for_8 p = lists_differ tt (ap answer (p ∙ worked.unit_nine_asks))

-- 2³² − 1 is a unit
pub unit_of_31_bits : parse lines.unit_most (Err (BeyondUnsigned 1)) → ⊥
unit_of_31_bits p = lists_differ tt (ap answer (p ∙ worked.unit_most_asks))

-- whose 32 bits have no sign
pub unit_of_signed_32_bits : parse lines.unit_most (Err (Beyond32 1)) → ⊥
unit_of_signed_32_bits p = lists_differ tt (ap answer (p ∙ worked.unit_most_asks))

-- 2³² is none, and is not wrapped
pub unit_wrapped : parse lines.unit_large (Ok (SetUnit 0)) → ⊥
unit_wrapped p = lists_differ tt (ap answer (p ∙ worked.unit_large_asks))

-- nor cut to the largest
pub unit_cut_to_the_largest : parse lines.unit_large (Ok (SetUnit 4294967295)) → ⊥
unit_cut_to_the_largest p = lists_differ tt (ap answer (p ∙ worked.unit_large_asks))

-- it is told with its limits, and not as a number with a sign
pub beyond_unsigned_called_beyond_32 : parse lines.unit_large (Err (Beyond32 1)) → ⊥
beyond_unsigned_called_beyond_32 p = lists_differ tt (ap answer (p ∙ worked.unit_large_asks))

-- and it is number 1
pub unit_counted_from_0 : parse lines.unit_large (Err (BeyondUnsigned 0)) → ⊥
unit_counted_from_0 p = lists_differ tt (ap answer (p ∙ worked.unit_large_asks))

-- nor is 2⁶³ told otherwise
pub beyond_unsigned_called_beyond_64 : parse lines.unit_huge (Err (Beyond64 1)) → ⊥
beyond_unsigned_called_beyond_64 p = lists_differ tt (ap answer (p ∙ worked.unit_huge_asks))

-- `unit x` has no number, and not one beyond the limits
pub no_number_called_beyond_unsigned : parse lines.unit_letter (Err (BeyondUnsigned 1)) → ⊥
no_number_called_beyond_unsigned p = lists_differ tt (ap answer (p ∙ worked.unit_letter_asks))

-- and 0 is not put in
pub no_unit_taken_for_0 : parse lines.unit_letter (Ok (SetUnit 0)) → ⊥
no_unit_taken_for_0 p = lists_differ tt (ap answer (p ∙ worked.unit_letter_asks))

-- `unit` has too few words, and 0 is not put in
pub missing_unit_taken_for_0 : parse lines.unit_alone (Ok (SetUnit 0)) → ⊥
missing_unit_taken_for_0 p = lists_differ tt (ap answer (p ∙ worked.unit_alone_asks))

-- nor 8, which is the unit at first
pub missing_unit_taken_for_8 : parse lines.unit_alone (Ok (SetUnit 8)) → ⊥
missing_unit_taken_for_8 p = lists_differ tt (ap answer (p ∙ worked.unit_alone_asks))

-- and it is not `show unit`
pub unit_taken_for_show_unit : parse lines.unit_alone (Ok ShowUnit) → ⊥
unit_taken_for_show_unit p = lists_differ tt (ap answer (p ∙ worked.unit_alone_asks))

-- `unit 1 2` has a word too many: the first is not taken
pub first_of_two_units_taken : parse lines.unit_two (Ok (SetUnit 1)) → ⊥
first_of_two_units_taken p = lists_differ tt (ap answer (p ∙ worked.unit_two_asks))

-- nor the last
pub last_of_two_units_taken : parse lines.unit_two (Ok (SetUnit 2)) → ⊥
last_of_two_units_taken p = lists_differ tt (ap answer (p ∙ worked.unit_two_asks))

-- `units` is no command
pub units_taken_for_unit : parse lines.units (Ok (SetUnit 1)) → ⊥
units_taken_for_unit p = lists_differ tt (ap answer (p ∙ worked.units_asks))

-- nor is `Unit`
pub capital_taken_for_unit : parse lines.capital_unit (Ok (SetUnit 1)) → ⊥
capital_taken_for_unit p = lists_differ tt (ap answer (p ∙ worked.capital_unit_asks))

-- `show unit` shows no list
pub show_unit_taken_for_a_list : parse lines.show_unit (Ok (Show Slopes)) → ⊥
show_unit_taken_for_a_list p = lists_differ tt (ap answer (p ∙ worked.show_unit_asks))

-- and it does not fail for want of one
pub unit_called_no_list : parse lines.show_unit (Err NoList) → ⊥
unit_called_no_list p = lists_differ tt (ap answer (p ∙ worked.show_unit_asks))

-- nor does it set the unit
pub show_unit_taken_for_unit : parse lines.show_unit (Ok (SetUnit 8)) → ⊥
show_unit_taken_for_unit p = lists_differ tt (ap answer (p ∙ worked.show_unit_asks))

-- `show units` names neither the unit nor a list
pub units_shown : parse lines.show_units (Ok ShowUnit) → ⊥
units_shown p = lists_differ tt (ap answer (p ∙ worked.show_units_asks))

-- ---- lines that are too large to be written out

-- no line of more than 65,536 bytes is looked into, not even to see that it has no words or is a comment
pub long_line_passed_over : (line : List ℕ) → 65536 < length line → parse line (Ok Nothing) → ⊥
long_line_passed_over line h p = lists_differ tt (ap answer (p ∙ too_long line h))

-- a line of 65,536 spaces is not too long
pub longest_line_refused : parse (32 ∷ replicate 65535 32) (Err TooLong) → ⊥
longest_line_refused p = lists_differ tt (ap answer (p ∙ spaces 65535 (lit< tt)))

-- `knots` with 2,049 numbers behind it sets no list
pub too_large_list_set : parse (knots_and 48 2049) (Ok (Set Knots)) → ⊥
too_large_list_set p = lists_differ tt (ap answer (p ∙ too_many 48 refl 2049 (lit≤ tt) (lit< tt)))

-- with 2,049 words `x` it has too many, which comes before what the words are
pub numbers_before_the_room : parse (knots_and 120 2049) (Err (NotDecimal 1)) → ⊥
numbers_before_the_room p = lists_differ tt (ap answer (p ∙ too_many 120 refl 2049 (lit≤ tt) (lit< tt)))

-- with 2,048 numbers it sets the list
pub full_list_refused : parse (knots_and 48 2048) (Err TooMany) → ⊥
full_list_refused p = lists_differ tt (ap answer (p ∙ full_list 2048 (lit≤ tt)))
