-- What a line asks for. A line is the list of its bytes, without its ending; a word is the list of its own.
use Rattle.std.specs.Prelude.{ℕ, suc, ◌-◌, Bool, false, cond, List, [], ◌∷◌, ltb, leb, eqb, ℤ, pos, negsuc, length, get_or, Result, Ok, Err, Option, Some, None}
use Rattle.std.specs.Str.{bytes_eq}
use Rattle.words.specs.Words.{words_of}
use Rattle.decimals.specs.declared.reading.NotNumber as Not
use Rattle.decimals.specs.Decimal.{number_of, number32_of}
use Rattle.commands.specs.declared.List as Lists
use Rattle.commands.specs.declared.List.TheVariants.{Knots, Values, Slopes}
use Rattle.commands.specs.declared.Fault.{Fault}
use Rattle.commands.specs.declared.Fault.TheVariants.{TooLong, NoCommand, TooFew, TooMany, NoList, NotDecimal, Beyond32, Beyond64, BeyondUnsigned}
use Rattle.commands.specs.declared.Command.{Command}
use Rattle.commands.specs.declared.Command.TheVariants.{Nothing, Set, Show, Piece, Build, Check, At, Drive, Change, SetUnit, ShowUnit}

-- ---- findings: a fault, or none

abbrev pub Finding : Type 0
Finding = Result (Unit {0}) Fault

-- whether a fault is found in place of what is asked for
abbrev pub found : {A : Type 0} → Result A Fault → Finding
found (Ok a) = Ok tt
found (Err f) = Err f

-- the first of two, unless it is clear
abbrev pub or_else : Finding → Finding → Finding
or_else (Ok u) next = next
or_else (Err f) next = Err f

-- what is asked for, unless a fault is found
abbrev pub unless : {A : Type 0} → Finding → Result A Fault → Result A Fault
unless (Ok u) asked = asked
unless (Err f) asked = Err f

-- ---- what is found of a command's words, which are counted from 1

-- there are just n
abbrev pub counted : ℕ → List (List ℕ) → Finding
counted n words = cond (ltb (length words) n) (Err TooFew) (cond (ltb n (length words)) (Err TooMany) (Ok tt))

-- what is wrong with word k that says no number of its kind; `beyond` where it is too large
abbrev pub fault_of : ℕ → Fault → Not.NotNumber → Fault
fault_of k beyond Not.TheVariants.NotDecimal = NotDecimal k
fault_of k beyond Not.TheVariants.TooLarge = beyond

abbrev pub said : ℕ → Fault → Result ℤ Not.NotNumber → Result ℤ Fault
said k beyond (Ok n) = Ok n
said k beyond (Err why) = Err (fault_of k beyond why)

-- what word k says, where it is to be a number of 64 bits, or of 32
abbrev pub said64 : ℕ → List ℕ → Result ℤ Fault
said64 k word = said k (Beyond64 k) (number_of word)

abbrev pub said32 : ℕ → List ℕ → Result ℤ Fault
said32 k word = said k (Beyond32 k) (number32_of word)

-- word k is to be a number: of 64 bits up to word `wides`, and behind it of 32
abbrev pub is_number : (wides k : ℕ) → List ℕ → Finding
is_number wides k word = cond (leb k wides) (found (said64 k word)) (found (said32 k word))

-- the first fault of words that are to be such numbers, of which the first is word k
abbrev pub first_fault : (wides k : ℕ) → List (List ℕ) → Finding
first_fault wides k [] = Ok tt
first_fault wides k (word ∷ words) = or_else (is_number wides k word) (first_fault wides (suc k) words)

-- just n numbers, of which the first `wides` have 64 bits and the others 32
abbrev pub numbers : (n wides : ℕ) → List (List ℕ) → Finding
numbers n wides words = or_else (counted n words) (first_fault wides 1 words)

-- word k; it has no byte where there is no such word
abbrev pub word_at : ℕ → List (List ℕ) → List ℕ
word_at k words = get_or words (k - 1) []

-- the number of 64 bits, or of 32, that it is; 0 where it is none, which no command that is asked for has
abbrev pub value : Result ℤ Fault → ℤ
value (Ok n) = n
value (Err f) = pos 0

abbrev pub wide : ℕ → List (List ℕ) → ℤ
wide k words = value (said64 k (word_at k words))

abbrev pub narrow : ℕ → List (List ℕ) → ℤ
narrow k words = value (said32 k (word_at k words))

-- no more than 2,048, for which a list has room, and each a number of 32 bits
abbrev pub is_list : List (List ℕ) → Finding
is_list words = cond (ltb 2048 (length words)) (Err TooMany) (first_fault 0 1 words)

-- ---- names

-- `knots`
abbrev knots : List ℕ
knots = 107 ∷ 110 ∷ 111 ∷ 116 ∷ 115 ∷ []

-- `values`
abbrev values : List ℕ
values = 118 ∷ 97 ∷ 108 ∷ 117 ∷ 101 ∷ 115 ∷ []

-- `slopes`
abbrev slopes : List ℕ
slopes = 115 ∷ 108 ∷ 111 ∷ 112 ∷ 101 ∷ 115 ∷ []

-- `show`
abbrev show : List ℕ
show = 115 ∷ 104 ∷ 111 ∷ 119 ∷ []

-- `piece`
abbrev piece : List ℕ
piece = 112 ∷ 105 ∷ 101 ∷ 99 ∷ 101 ∷ []

-- `build`
abbrev build : List ℕ
build = 98 ∷ 117 ∷ 105 ∷ 108 ∷ 100 ∷ []

-- `check`
abbrev check : List ℕ
check = 99 ∷ 104 ∷ 101 ∷ 99 ∷ 107 ∷ []

-- `at`
abbrev at : List ℕ
at = 97 ∷ 116 ∷ []

-- `drive`
abbrev drive : List ℕ
drive = 100 ∷ 114 ∷ 105 ∷ 118 ∷ 101 ∷ []

-- `change`
abbrev change : List ℕ
change = 99 ∷ 104 ∷ 97 ∷ 110 ∷ 103 ∷ 101 ∷ []

-- `unit`
abbrev unit : List ℕ
unit = 117 ∷ 110 ∷ 105 ∷ 116 ∷ []

-- two words are the same
abbrev pub same : List ℕ → List ℕ → Bool
same = bytes_eq

-- what stands beside the first name that the word is; `otherwise` where it is none of them
abbrev pub chosen : {A : Type 0} → List (List ℕ × A) → A → List ℕ → A
chosen [] otherwise word = otherwise
chosen (entry ∷ entries) otherwise word = cond (same word entry.0) entry.1 (chosen entries otherwise word)

-- the list of this name
abbrev pub list_of : List ℕ → Option Lists.List
list_of name = chosen ((knots, Some Knots) ∷ (values, Some Values) ∷ (slopes, Some Slopes) ∷ []) None name

-- what a line asks for, or what is wrong with it
abbrev pub Asked : Type 0
Asked = Result Command Fault

-- ---- the commands, each by the words after its name

-- `knots N...` and its like
abbrev pub set_of : Lists.List → List (List ℕ) → Asked
set_of list words = unless (is_list words) (Ok (Set list))

-- `show LIST` and `show unit`
abbrev pub shown_table : List (List ℕ × Asked)
shown_table = (knots, Ok (Show Knots)) ∷ (values, Ok (Show Values)) ∷ (slopes, Ok (Show Slopes)) ∷ (unit, Ok ShowUnit) ∷ []

abbrev pub shown_of : List ℕ → Asked
shown_of name = chosen shown_table (Err NoList) name

abbrev pub show_of : List (List ℕ) → Asked
show_of words = unless (counted 1 words) (shown_of (word_at 1 words))

-- `piece H Z M N`
abbrev pub piece_of : List (List ℕ) → Asked
piece_of words = unless (numbers 4 2 words) (Ok (Piece (record { h = wide 1 words; z = wide 2 words; m = narrow 3 words; n = narrow 4 words })))

-- `build`, `check`
abbrev pub alone_of : Command → List (List ℕ) → Asked
alone_of command words = unless (counted 0 words) (Ok command)

-- the one number of `at X` and `drive X`
abbrev pub one_number : List (List ℕ) → Result ℤ Fault
one_number words = unless (numbers 1 0 words) (Ok (narrow 1 words))

abbrev pub with_number : (ℤ → Command) → Result ℤ Fault → Asked
with_number command (Ok n) = Ok (command n)
with_number command (Err f) = Err f

-- `at X`
abbrev pub at_of : List (List ℕ) → Asked
at_of words = with_number At (one_number words)

-- `drive X`
abbrev pub drive_of : List (List ℕ) → Asked
drive_of words = with_number Drive (one_number words)

-- `change K X V`
abbrev pub change_of : List (List ℕ) → Asked
change_of words = unless (numbers 3 1 words) (Ok (Change (record { number = wide 1 words; knot = narrow 2 words; value = narrow 3 words })))

-- the slope unit, which a line may set to any number from 0 to 2³² − 1
abbrev pub unit_is : ℤ → Asked
unit_is (pos n) = cond (leb n 4294967295) (Ok (SetUnit n)) (Err (BeyondUnsigned 1))
unit_is (negsuc n) = Err (BeyondUnsigned 1)

-- what a word says as the unit
abbrev pub unit_said : Result ℤ Not.NotNumber → Asked
unit_said (Ok n) = unit_is n
unit_said (Err why) = Err (fault_of 1 (BeyondUnsigned 1) why)

-- `unit S`
abbrev pub unit_of : List (List ℕ) → Asked
unit_of words = unless (counted 1 words) (unit_said (number_of (word_at 1 words)))

-- ---- the line

-- every name, and what the words after it ask for
abbrev pub command_table : List (List ℕ) → List (List ℕ × Asked)
command_table words =
    (knots, set_of Knots words)
    ∷ (values, set_of Values words)
    ∷ (slopes, set_of Slopes words)
    ∷ (show, show_of words)
    ∷ (piece, piece_of words)
    ∷ (build, alone_of Build words)
    ∷ (check, alone_of Check words)
    ∷ (at, at_of words)
    ∷ (drive, drive_of words)
    ∷ (change, change_of words)
    ∷ (unit, unit_of words)
    ∷ []

unfoldable pub asked : List ℕ → List (List ℕ) → Asked
asked name words = chosen (command_table words) (Err NoCommand) name

-- a line whose very first byte is `#`
abbrev pub is_comment : List ℕ → Bool
is_comment [] = false
is_comment (b ∷ bs) = eqb b 35

-- what words ask for, of which the first names the command
abbrev pub by_words : List (List ℕ) → Asked
by_words [] = Ok Nothing
by_words (name ∷ words) = asked name words

-- no line of more than 65,536 bytes is looked into
abbrev pub command_of : List ℕ → Asked
command_of line = cond (ltb 65536 (length line)) (Err TooLong) (cond (is_comment line) (Ok Nothing) (by_words (words_of line)))
