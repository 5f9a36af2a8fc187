-- Worked examples of the definition, each by computing it: lines with what they ask for. Then lines that are too large to be written out.
use Prim.Native.Nat.{ℕ, zero, suc, ◌*◌, ◌≤◌, ◌<◌}
use Rattle.std.specs.Prelude.{◌≡◌, false, pos, negsuc, replicate, Ok, Err}
use Rattle.std.proofs.Math.Path.{refl}
use Rattle.std.proofs.Common.{ap, ◌∙◌, arith}
use mathlib.Core.List.{List, [], ◌∷◌}
use borrow.Author.Tests.{lt-ltb, le-ltb, lt-leb}
use Rattle.std.proofs.Math.ListN.{length}
use Rattle.std.proofs.lemmas.List.{length-replicate}
use Rattle.words.specs.Words.{is_separator, words_after, words_of}
use Rattle.decimals.specs.Decimal.{are_digits, natural}
use Rattle.commands.specs.declared.List.TheVariants.{Knots, Values, Slopes}
use Rattle.commands.specs.declared.Fault.TheVariants.{TooLong, NoCommand, TooFew, TooMany, NoList, NotDecimal, Beyond32, Beyond64, BeyondUnsigned}
use Rattle.commands.specs.declared.Command.TheVariants.{Nothing, Set, Show, Piece, Build, Check, At, Drive, Change, SetUnit, ShowUnit}
use Rattle.commands.specs.Commands.{first_fault, is_list, unless, asked, by_words, command_of}

-- no byte
abbrev pub empty : List ℕ
empty = []

-- `#at 1`
abbrev pub comment : List ℕ
comment = 35 ∷ 97 ∷ 116 ∷ 32 ∷ 49 ∷ []

-- ` #`
abbrev pub late_comment : List ℕ
late_comment = 32 ∷ 35 ∷ []

-- `at 1 #`
abbrev pub comment_as_a_number : List ℕ
comment_as_a_number = 97 ∷ 116 ∷ 32 ∷ 49 ∷ 32 ∷ 35 ∷ []

-- `att 1`
abbrev pub unknown : List ℕ
unknown = 97 ∷ 116 ∷ 116 ∷ 32 ∷ 49 ∷ []

-- `AT 1`
abbrev pub capital : List ℕ
capital = 65 ∷ 84 ∷ 32 ∷ 49 ∷ []

-- `foo`
abbrev pub unknown_alone : List ℕ
unknown_alone = 102 ∷ 111 ∷ 111 ∷ []

-- `at`
abbrev pub at_alone : List ℕ
at_alone = 97 ∷ 116 ∷ []

-- `at`, tab, `1 `
abbrev pub at_one : List ℕ
at_one = 97 ∷ 116 ∷ 9 ∷ 49 ∷ 32 ∷ []

-- `at 1 2`
abbrev pub at_two : List ℕ
at_two = 97 ∷ 116 ∷ 32 ∷ 49 ∷ 32 ∷ 50 ∷ []

-- `at x`
abbrev pub at_letter : List ℕ
at_letter = 97 ∷ 116 ∷ 32 ∷ 120 ∷ []

-- `at x 1`
abbrev pub at_letter_more : List ℕ
at_letter_more = 97 ∷ 116 ∷ 32 ∷ 120 ∷ 32 ∷ 49 ∷ []

-- `at 2147483648`
abbrev pub at_large : List ℕ
at_large = 97 ∷ 116 ∷ 32 ∷ 50 ∷ 49 ∷ 52 ∷ 55 ∷ 52 ∷ 56 ∷ 51 ∷ 54 ∷ 52 ∷ 56 ∷ []

-- `drive -2147483648`
abbrev pub drive_least : List ℕ
drive_least = 100 ∷ 114 ∷ 105 ∷ 118 ∷ 101 ∷ 32 ∷ 45 ∷ 50 ∷ 49 ∷ 52 ∷ 55 ∷ 52 ∷ 56 ∷ 51 ∷ 54 ∷ 52 ∷ 56 ∷ []

-- `build`
abbrev pub build : List ℕ
build = 98 ∷ 117 ∷ 105 ∷ 108 ∷ 100 ∷ []

-- `check`
abbrev pub check : List ℕ
check = 99 ∷ 104 ∷ 101 ∷ 99 ∷ 107 ∷ []

-- `build 1`
abbrev pub build_one : List ℕ
build_one = 98 ∷ 117 ∷ 105 ∷ 108 ∷ 100 ∷ 32 ∷ 49 ∷ []

-- `knots 1 -2`
abbrev pub knots : List ℕ
knots = 107 ∷ 110 ∷ 111 ∷ 116 ∷ 115 ∷ 32 ∷ 49 ∷ 32 ∷ 45 ∷ 50 ∷ []

-- `values`
abbrev pub values : List ℕ
values = 118 ∷ 97 ∷ 108 ∷ 117 ∷ 101 ∷ 115 ∷ []

-- `slopes 1 x`
abbrev pub slopes_letter : List ℕ
slopes_letter = 115 ∷ 108 ∷ 111 ∷ 112 ∷ 101 ∷ 115 ∷ 32 ∷ 49 ∷ 32 ∷ 120 ∷ []

-- `slopes 1 2147483648 x`
abbrev pub slopes_large : List ℕ
slopes_large = 115 ∷ 108 ∷ 111 ∷ 112 ∷ 101 ∷ 115 ∷ 32 ∷ 49 ∷ 32 ∷ 50 ∷ 49 ∷ 52 ∷ 55 ∷ 52 ∷ 56 ∷ 51 ∷ 54 ∷ 52 ∷ 56 ∷ 32 ∷ 120 ∷ []

-- `show slopes`
abbrev pub show : List ℕ
show = 115 ∷ 104 ∷ 111 ∷ 119 ∷ 32 ∷ 115 ∷ 108 ∷ 111 ∷ 112 ∷ 101 ∷ 115 ∷ []

-- `show`
abbrev pub show_alone : List ℕ
show_alone = 115 ∷ 104 ∷ 111 ∷ 119 ∷ []

-- `show curve 1`
abbrev pub show_two : List ℕ
show_two = 115 ∷ 104 ∷ 111 ∷ 119 ∷ 32 ∷ 99 ∷ 117 ∷ 114 ∷ 118 ∷ 101 ∷ 32 ∷ 49 ∷ []

-- `show curve`
abbrev pub show_curve : List ℕ
show_curve = 115 ∷ 104 ∷ 111 ∷ 119 ∷ 32 ∷ 99 ∷ 117 ∷ 114 ∷ 118 ∷ 101 ∷ []

-- `piece 3 -10 -853 5`
abbrev pub piece : List ℕ
piece = 112 ∷ 105 ∷ 101 ∷ 99 ∷ 101 ∷ 32 ∷ 51 ∷ 32 ∷ 45 ∷ 49 ∷ 48 ∷ 32 ∷ 45 ∷ 56 ∷ 53 ∷ 51 ∷ 32 ∷ 53 ∷ []

-- `piece x`
abbrev pub piece_letter : List ℕ
piece_letter = 112 ∷ 105 ∷ 101 ∷ 99 ∷ 101 ∷ 32 ∷ 120 ∷ []

-- `piece 1 x 3 2147483648`
abbrev pub piece_faults : List ℕ
piece_faults = 112 ∷ 105 ∷ 101 ∷ 99 ∷ 101 ∷ 32 ∷ 49 ∷ 32 ∷ 120 ∷ 32 ∷ 51 ∷ 32 ∷ 50 ∷ 49 ∷ 52 ∷ 55 ∷ 52 ∷ 56 ∷ 51 ∷ 54 ∷ 52 ∷ 56 ∷ []

-- `piece 2147483648 9223372036854775808 x 0`
abbrev pub piece_large : List ℕ
piece_large = 112 ∷ 105 ∷ 101 ∷ 99 ∷ 101 ∷ 32 ∷ 50 ∷ 49 ∷ 52 ∷ 55 ∷ 52 ∷ 56 ∷ 51 ∷ 54 ∷ 52 ∷ 56 ∷ 32 ∷ 57 ∷ 50 ∷ 50 ∷ 51 ∷ 51 ∷ 55 ∷ 50 ∷ 48 ∷ 51 ∷ 54 ∷ 56 ∷ 53 ∷ 52 ∷ 55 ∷ 55 ∷ 53 ∷ 56 ∷ 48 ∷ 56 ∷ 32 ∷ 120 ∷ 32 ∷ 48 ∷ []

-- `piece 1 1 1 2147483648`
abbrev pub piece_slopes : List ℕ
piece_slopes = 112 ∷ 105 ∷ 101 ∷ 99 ∷ 101 ∷ 32 ∷ 49 ∷ 32 ∷ 49 ∷ 32 ∷ 49 ∷ 32 ∷ 50 ∷ 49 ∷ 52 ∷ 55 ∷ 52 ∷ 56 ∷ 51 ∷ 54 ∷ 52 ∷ 56 ∷ []

-- `change -1 2 3`
abbrev pub change : List ℕ
change = 99 ∷ 104 ∷ 97 ∷ 110 ∷ 103 ∷ 101 ∷ 32 ∷ 45 ∷ 49 ∷ 32 ∷ 50 ∷ 32 ∷ 51 ∷ []

-- `change 2147483648 2147483648 0`
abbrev pub change_large : List ℕ
change_large = 99 ∷ 104 ∷ 97 ∷ 110 ∷ 103 ∷ 101 ∷ 32 ∷ 50 ∷ 49 ∷ 52 ∷ 55 ∷ 52 ∷ 56 ∷ 51 ∷ 54 ∷ 52 ∷ 56 ∷ 32 ∷ 50 ∷ 49 ∷ 52 ∷ 55 ∷ 52 ∷ 56 ∷ 51 ∷ 54 ∷ 52 ∷ 56 ∷ 32 ∷ 48 ∷ []

-- `show unit`
abbrev pub show_unit : List ℕ
show_unit = 115 ∷ 104 ∷ 111 ∷ 119 ∷ 32 ∷ 117 ∷ 110 ∷ 105 ∷ 116 ∷ []

-- `show units`
abbrev pub show_units : List ℕ
show_units = 115 ∷ 104 ∷ 111 ∷ 119 ∷ 32 ∷ 117 ∷ 110 ∷ 105 ∷ 116 ∷ 115 ∷ []

-- `unit 4294967295`
abbrev pub unit_most : List ℕ
unit_most = 117 ∷ 110 ∷ 105 ∷ 116 ∷ 32 ∷ 52 ∷ 50 ∷ 57 ∷ 52 ∷ 57 ∷ 54 ∷ 55 ∷ 50 ∷ 57 ∷ 53 ∷ []

-- `unit -0`
abbrev pub unit_minus_0 : List ℕ
unit_minus_0 = 117 ∷ 110 ∷ 105 ∷ 116 ∷ 32 ∷ 45 ∷ 48 ∷ []

-- `unit 9`
abbrev pub unit_nine : List ℕ
unit_nine = 117 ∷ 110 ∷ 105 ∷ 116 ∷ 32 ∷ 57 ∷ []

-- `unit 4294967296`
abbrev pub unit_large : List ℕ
unit_large = 117 ∷ 110 ∷ 105 ∷ 116 ∷ 32 ∷ 52 ∷ 50 ∷ 57 ∷ 52 ∷ 57 ∷ 54 ∷ 55 ∷ 50 ∷ 57 ∷ 54 ∷ []

-- `unit 9223372036854775808`
abbrev pub unit_huge : List ℕ
unit_huge = 117 ∷ 110 ∷ 105 ∷ 116 ∷ 32 ∷ 57 ∷ 50 ∷ 50 ∷ 51 ∷ 51 ∷ 55 ∷ 50 ∷ 48 ∷ 51 ∷ 54 ∷ 56 ∷ 53 ∷ 52 ∷ 55 ∷ 55 ∷ 53 ∷ 56 ∷ 48 ∷ 56 ∷ []

-- `unit -1`
abbrev pub unit_negative : List ℕ
unit_negative = 117 ∷ 110 ∷ 105 ∷ 116 ∷ 32 ∷ 45 ∷ 49 ∷ []

-- `unit x`
abbrev pub unit_letter : List ℕ
unit_letter = 117 ∷ 110 ∷ 105 ∷ 116 ∷ 32 ∷ 120 ∷ []

-- `unit`
abbrev pub unit_alone : List ℕ
unit_alone = 117 ∷ 110 ∷ 105 ∷ 116 ∷ []

-- `unit 1 2`
abbrev pub unit_two : List ℕ
unit_two = 117 ∷ 110 ∷ 105 ∷ 116 ∷ 32 ∷ 49 ∷ 32 ∷ 50 ∷ []

-- `units 1`
abbrev pub units : List ℕ
units = 117 ∷ 110 ∷ 105 ∷ 116 ∷ 115 ∷ 32 ∷ 49 ∷ []

-- `Unit 1`
abbrev pub capital_unit : List ℕ
capital_unit = 85 ∷ 110 ∷ 105 ∷ 116 ∷ 32 ∷ 49 ∷ []

pub record Worked : Type 0 where
  pub empty_asks : command_of empty ≡ Ok Nothing
  pub comment_asks : command_of comment ≡ Ok Nothing
  pub late_comment_asks : command_of late_comment ≡ Err NoCommand
  pub comment_as_a_number_asks : command_of comment_as_a_number ≡ Err TooMany
  pub unknown_asks : command_of unknown ≡ Err NoCommand
  pub capital_asks : command_of capital ≡ Err NoCommand
  pub unknown_alone_asks : command_of unknown_alone ≡ Err NoCommand
  pub at_alone_asks : command_of at_alone ≡ Err TooFew
  pub at_one_asks : command_of at_one ≡ Ok (At (pos 1))
  pub at_two_asks : command_of at_two ≡ Err TooMany
  pub at_letter_asks : command_of at_letter ≡ Err (NotDecimal 1)
  pub at_letter_more_asks : command_of at_letter_more ≡ Err TooMany
  pub at_large_asks : command_of at_large ≡ Err (Beyond32 1)
  pub drive_least_asks : command_of drive_least ≡ Ok (Drive (negsuc 2147483647))
  pub build_asks : command_of build ≡ Ok Build
  pub check_asks : command_of check ≡ Ok Check
  pub build_one_asks : command_of build_one ≡ Err TooMany
  pub knots_asks : command_of knots ≡ Ok (Set Knots)
  pub values_asks : command_of values ≡ Ok (Set Values)
  pub slopes_letter_asks : command_of slopes_letter ≡ Err (NotDecimal 2)
  pub slopes_large_asks : command_of slopes_large ≡ Err (Beyond32 2)
  pub show_asks : command_of show ≡ Ok (Show Slopes)
  pub show_alone_asks : command_of show_alone ≡ Err TooFew
  pub show_two_asks : command_of show_two ≡ Err TooMany
  pub show_curve_asks : command_of show_curve ≡ Err NoList
  pub piece_asks : command_of piece ≡ Ok (Piece (record { h = pos 3; z = negsuc 9; m = negsuc 852; n = pos 5 }))
  pub piece_letter_asks : command_of piece_letter ≡ Err TooFew
  pub piece_faults_asks : command_of piece_faults ≡ Err (NotDecimal 2)
  pub piece_large_asks : command_of piece_large ≡ Err (Beyond64 2)
  pub piece_slopes_asks : command_of piece_slopes ≡ Err (Beyond32 4)
  pub change_asks : command_of change ≡ Ok (Change (record { number = negsuc 0; knot = pos 2; value = pos 3 }))
  pub change_large_asks : command_of change_large ≡ Err (Beyond32 2)
  pub show_unit_asks : command_of show_unit ≡ Ok ShowUnit
  pub show_units_asks : command_of show_units ≡ Err NoList
  pub unit_most_asks : command_of unit_most ≡ Ok (SetUnit 4294967295)
  pub unit_minus_0_asks : command_of unit_minus_0 ≡ Ok (SetUnit 0)
  pub unit_nine_asks : command_of unit_nine ≡ Ok (SetUnit 9)
  pub unit_large_asks : command_of unit_large ≡ Err (BeyondUnsigned 1)
  pub unit_huge_asks : command_of unit_huge ≡ Err (BeyondUnsigned 1)
  pub unit_negative_asks : command_of unit_negative ≡ Err (BeyondUnsigned 1)
  pub unit_letter_asks : command_of unit_letter ≡ Err (NotDecimal 1)
  pub unit_alone_asks : command_of unit_alone ≡ Err TooFew
  pub unit_two_asks : command_of unit_two ≡ Err TooMany
  pub units_asks : command_of units ≡ Err NoCommand
  pub capital_unit_asks : command_of capital_unit ≡ Err NoCommand

pub worked : Worked
unfolding words_after are_digits natural asked
worked =
    record {
      empty_asks = refl;
      comment_asks = refl;
      late_comment_asks = refl;
      comment_as_a_number_asks = refl;
      unknown_asks = refl;
      capital_asks = refl;
      unknown_alone_asks = refl;
      at_alone_asks = refl;
      at_one_asks = refl;
      at_two_asks = refl;
      at_letter_asks = refl;
      at_letter_more_asks = refl;
      at_large_asks = refl;
      drive_least_asks = refl;
      build_asks = refl;
      check_asks = refl;
      build_one_asks = refl;
      knots_asks = refl;
      values_asks = refl;
      slopes_letter_asks = refl;
      slopes_large_asks = refl;
      show_asks = refl;
      show_alone_asks = refl;
      show_two_asks = refl;
      show_curve_asks = refl;
      piece_asks = refl;
      piece_letter_asks = refl;
      piece_faults_asks = refl;
      piece_large_asks = refl;
      piece_slopes_asks = refl;
      change_asks = refl;
      change_large_asks = refl;
      show_unit_asks = refl;
      show_units_asks = refl;
      unit_most_asks = refl;
      unit_minus_0_asks = refl;
      unit_nine_asks = refl;
      unit_large_asks = refl;
      unit_huge_asks = refl;
      unit_negative_asks = refl;
      unit_letter_asks = refl;
      unit_alone_asks = refl;
      unit_two_asks = refl;
      units_asks = refl;
      capital_unit_asks = refl;
    }

-- ---- lines that are too large to be written out

pub too_long : (line : List ℕ) → 65536 < length line → command_of line ≡ Err TooLong
too_long line h = rw (lt-ltb 65536 (length line) h)

-- spaces alone
no_words : (n : ℕ) → words_of (replicate n 32) ≡ []
unfolding words_after
no_words zero = refl
no_words (suc n) = no_words n

pub spaces : (n : ℕ) → n < 65536 → command_of (32 ∷ replicate n 32) ≡ Ok Nothing
unfolding words_after
spaces n h =
    let line : List ℕ = 32 ∷ replicate n 32 in
    let size : length line ≤ 65536 = omega (arith, length-replicate n (suc 31)) in
    rw (le-ltb 65536 (length line) size) (ap by_words (no_words n))

-- `knots`, and behind it n words of one byte each
unfoldable pub row : ℕ → ℕ → List ℕ
row b zero = []
row b (suc n) = 32 ∷ b ∷ row b n

abbrev pub knots_and : ℕ → ℕ → List ℕ
knots_and b n = 107 ∷ 110 ∷ 111 ∷ 116 ∷ 115 ∷ row b n

module _ (b : ℕ) (plain : is_separator b ≡ false) where
  its_words : (g : ℕ) (gs : List ℕ) (n : ℕ) → words_after (g ∷ gs) (row b n) ≡ (g ∷ gs) ∷ replicate n (b ∷ [])
  unfolding words_after row
  its_words g gs zero = refl
  its_words g gs (suc n) = rw plain (ap (λ (ws : List (List ℕ)). (g ∷ gs) ∷ ws) (its_words b [] n))

  its_length : (n : ℕ) → length (row b n) ≡ 2 * n
  unfolding row
  its_length zero = refl
  its_length (suc n) = omega (arith, its_length n)

  words_of_lem : (n : ℕ) → words_of (knots_and b n) ≡ (107 ∷ 110 ∷ 111 ∷ 116 ∷ 115 ∷ []) ∷ replicate n (b ∷ [])
  unfolding words_after
  words_of_lem n = its_words 107 (110 ∷ 111 ∷ 116 ∷ 115 ∷ []) n

  as_set : (n : ℕ) → n ≤ 30000 → command_of (knots_and b n) ≡ unless (is_list (replicate n (b ∷ []))) (Ok (Set Knots))
  unfolding asked
  as_set n h =
      let line : List ℕ = knots_and b n in
      let size : length line ≤ 65536 = omega (arith, its_length n) in
      rw (le-ltb 65536 (length line) size) (ap by_words (words_of_lem n))

  -- more words than a list has room for, whatever they are
  pub too_many : (n : ℕ) → n ≤ 30000 → 2048 < n → command_of (knots_and b n) ≡ Err TooMany
  too_many n h many = as_set n h ∙ rw (length-replicate, lt-ltb 2048 n many)

zeros : (k n : ℕ) → first_fault 0 (suc k) (replicate n (48 ∷ [])) ≡ Ok tt
unfolding are_digits natural
zeros k zero = refl
zeros k (suc n) = rw (lt-leb (suc k) 0 (omega arith)) (zeros (suc k) n)

-- as many as it has room for
pub full_list : (n : ℕ) → n ≤ 2048 → command_of (knots_and 48 n) ≡ Ok (Set Knots)
full_list n few = as_set 48 refl n (omega arith) ∙ rw (length-replicate, le-ltb 2048 n few, zeros 0 n)
