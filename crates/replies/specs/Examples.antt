-- Worked examples of the definition, each by computing it: replies with their lines, and floats with their numbers.
use Rattle.std.specs.Prelude.{◌≡◌, Ok, Err, true, false, [], ◌∷◌, pos, negsuc, refl}
use Rattle.std.specs.Float.{nan, inf, fin}
use Rattle.decimals.specs.Text.{spelled}
use Rattle.answers.specs.Filling.{natural_as, whole_as, filled}
use Rattle.commands.specs.declared.Fault.TheVariants.{TooLong, NoCommand, TooFew, TooMany, NoList, NotDecimal, Beyond32, Beyond64, BeyondUnsigned}
use Rattle.rules.specs.declared.Cause.TheVariants as cause
use Rattle.piece.specs.declared.Verdict.TheVariants.{Rising, Falling, Flat, Bends}
use Rattle.drive.specs.declared.Answer.TheVariants.{Dwell, Move}
use Rattle.replies.specs.declared.Reply.TheVariants.{Silent, Wrong, Done, Count, Judged, Valued, Driven, SlopeUnit, Numbered}
use Rattle.replies.specs.Floats.{float_as}
use Rattle.replies.specs.Replies.{fault_line, line_of}

pub record Worked : Type 0 where
  -- no byte
  pub silent : line_of Silent ≡ []
  -- `? line 1: the line is longer than 65536 bytes`, LF
  pub too_long : line_of (Wrong 1 TooLong) ≡ 63 ∷ 32 ∷ 108 ∷ 105 ∷ 110 ∷ 101 ∷ 32 ∷ 49 ∷ 58 ∷ 32 ∷ 116 ∷ 104 ∷ 101 ∷ 32 ∷ 108 ∷ 105 ∷ 110 ∷ 101 ∷ 32 ∷ 105 ∷ 115 ∷ 32 ∷ 108 ∷ 111 ∷ 110 ∷ 103 ∷ 101 ∷ 114 ∷ 32 ∷ 116 ∷ 104 ∷ 97 ∷ 110 ∷ 32 ∷ 54 ∷ 53 ∷ 53 ∷ 51 ∷ 54 ∷ 32 ∷ 98 ∷ 121 ∷ 116 ∷ 101 ∷ 115 ∷ 10 ∷ []
  -- `? line 2: no such command`, LF
  pub no_command : line_of (Wrong 2 NoCommand) ≡ 63 ∷ 32 ∷ 108 ∷ 105 ∷ 110 ∷ 101 ∷ 32 ∷ 50 ∷ 58 ∷ 32 ∷ 110 ∷ 111 ∷ 32 ∷ 115 ∷ 117 ∷ 99 ∷ 104 ∷ 32 ∷ 99 ∷ 111 ∷ 109 ∷ 109 ∷ 97 ∷ 110 ∷ 100 ∷ 10 ∷ []
  -- `? line 3: too few words`, LF
  pub too_few : line_of (Wrong 3 TooFew) ≡ 63 ∷ 32 ∷ 108 ∷ 105 ∷ 110 ∷ 101 ∷ 32 ∷ 51 ∷ 58 ∷ 32 ∷ 116 ∷ 111 ∷ 111 ∷ 32 ∷ 102 ∷ 101 ∷ 119 ∷ 32 ∷ 119 ∷ 111 ∷ 114 ∷ 100 ∷ 115 ∷ 10 ∷ []
  -- `? line 4: too many words`, LF
  pub too_many : line_of (Wrong 4 TooMany) ≡ 63 ∷ 32 ∷ 108 ∷ 105 ∷ 110 ∷ 101 ∷ 32 ∷ 52 ∷ 58 ∷ 32 ∷ 116 ∷ 111 ∷ 111 ∷ 32 ∷ 109 ∷ 97 ∷ 110 ∷ 121 ∷ 32 ∷ 119 ∷ 111 ∷ 114 ∷ 100 ∷ 115 ∷ 10 ∷ []
  -- `? line 5: no such list`, LF
  pub no_list : line_of (Wrong 5 NoList) ≡ 63 ∷ 32 ∷ 108 ∷ 105 ∷ 110 ∷ 101 ∷ 32 ∷ 53 ∷ 58 ∷ 32 ∷ 110 ∷ 111 ∷ 32 ∷ 115 ∷ 117 ∷ 99 ∷ 104 ∷ 32 ∷ 108 ∷ 105 ∷ 115 ∷ 116 ∷ 10 ∷ []
  -- `? line 12: number 2 is not a whole decimal number`, LF
  pub not_decimal : line_of (Wrong 12 (NotDecimal 2)) ≡ 63 ∷ 32 ∷ 108 ∷ 105 ∷ 110 ∷ 101 ∷ 32 ∷ 49 ∷ 50 ∷ 58 ∷ 32 ∷ 110 ∷ 117 ∷ 109 ∷ 98 ∷ 101 ∷ 114 ∷ 32 ∷ 50 ∷ 32 ∷ 105 ∷ 115 ∷ 32 ∷ 110 ∷ 111 ∷ 116 ∷ 32 ∷ 97 ∷ 32 ∷ 119 ∷ 104 ∷ 111 ∷ 108 ∷ 101 ∷ 32 ∷ 100 ∷ 101 ∷ 99 ∷ 105 ∷ 109 ∷ 97 ∷ 108 ∷ 32 ∷ 110 ∷ 117 ∷ 109 ∷ 98 ∷ 101 ∷ 114 ∷ 10 ∷ []
  -- `? line 13: number 3 does not fit 32 bits`, LF
  pub beyond_32 : line_of (Wrong 13 (Beyond32 3)) ≡ 63 ∷ 32 ∷ 108 ∷ 105 ∷ 110 ∷ 101 ∷ 32 ∷ 49 ∷ 51 ∷ 58 ∷ 32 ∷ 110 ∷ 117 ∷ 109 ∷ 98 ∷ 101 ∷ 114 ∷ 32 ∷ 51 ∷ 32 ∷ 100 ∷ 111 ∷ 101 ∷ 115 ∷ 32 ∷ 110 ∷ 111 ∷ 116 ∷ 32 ∷ 102 ∷ 105 ∷ 116 ∷ 32 ∷ 51 ∷ 50 ∷ 32 ∷ 98 ∷ 105 ∷ 116 ∷ 115 ∷ 10 ∷ []
  -- `? line 14: number 1 does not fit 64 bits`, LF
  pub beyond_64 : line_of (Wrong 14 (Beyond64 1)) ≡ 63 ∷ 32 ∷ 108 ∷ 105 ∷ 110 ∷ 101 ∷ 32 ∷ 49 ∷ 52 ∷ 58 ∷ 32 ∷ 110 ∷ 117 ∷ 109 ∷ 98 ∷ 101 ∷ 114 ∷ 32 ∷ 49 ∷ 32 ∷ 100 ∷ 111 ∷ 101 ∷ 115 ∷ 32 ∷ 110 ∷ 111 ∷ 116 ∷ 32 ∷ 102 ∷ 105 ∷ 116 ∷ 32 ∷ 54 ∷ 52 ∷ 32 ∷ 98 ∷ 105 ∷ 116 ∷ 115 ∷ 10 ∷ []
  -- `? line 15: number 1 is not in 0 to 4294967295`, LF
  pub beyond_unsigned : line_of (Wrong 15 (BeyondUnsigned 1)) ≡ 63 ∷ 32 ∷ 108 ∷ 105 ∷ 110 ∷ 101 ∷ 32 ∷ 49 ∷ 53 ∷ 58 ∷ 32 ∷ 110 ∷ 117 ∷ 109 ∷ 98 ∷ 101 ∷ 114 ∷ 32 ∷ 49 ∷ 32 ∷ 105 ∷ 115 ∷ 32 ∷ 110 ∷ 111 ∷ 116 ∷ 32 ∷ 105 ∷ 110 ∷ 32 ∷ 48 ∷ 32 ∷ 116 ∷ 111 ∷ 32 ∷ 52 ∷ 50 ∷ 57 ∷ 52 ∷ 57 ∷ 54 ∷ 55 ∷ 50 ∷ 57 ∷ 53 ∷ 10 ∷ []
  -- `refused 1 at 0: the lists' lengths differ`, LF
  pub lengths_refused : line_of (Done (Err (record { cause = cause.Lengths; place = 0 }))) ≡ 114 ∷ 101 ∷ 102 ∷ 117 ∷ 115 ∷ 101 ∷ 100 ∷ 32 ∷ 49 ∷ 32 ∷ 97 ∷ 116 ∷ 32 ∷ 48 ∷ 58 ∷ 32 ∷ 116 ∷ 104 ∷ 101 ∷ 32 ∷ 108 ∷ 105 ∷ 115 ∷ 116 ∷ 115 ∷ 39 ∷ 32 ∷ 108 ∷ 101 ∷ 110 ∷ 103 ∷ 116 ∷ 104 ∷ 115 ∷ 32 ∷ 100 ∷ 105 ∷ 102 ∷ 102 ∷ 101 ∷ 114 ∷ 10 ∷ []
  -- `refused 2 at 0: fewer than 2 or more than 1024 points`, LF
  pub points_refused : line_of (Done (Err (record { cause = cause.Count; place = 0 }))) ≡ 114 ∷ 101 ∷ 102 ∷ 117 ∷ 115 ∷ 101 ∷ 100 ∷ 32 ∷ 50 ∷ 32 ∷ 97 ∷ 116 ∷ 32 ∷ 48 ∷ 58 ∷ 32 ∷ 102 ∷ 101 ∷ 119 ∷ 101 ∷ 114 ∷ 32 ∷ 116 ∷ 104 ∷ 97 ∷ 110 ∷ 32 ∷ 50 ∷ 32 ∷ 111 ∷ 114 ∷ 32 ∷ 109 ∷ 111 ∷ 114 ∷ 101 ∷ 32 ∷ 116 ∷ 104 ∷ 97 ∷ 110 ∷ 32 ∷ 49 ∷ 48 ∷ 50 ∷ 52 ∷ 32 ∷ 112 ∷ 111 ∷ 105 ∷ 110 ∷ 116 ∷ 115 ∷ 10 ∷ []
  -- `refused 3 at 2: a width is not in 1 to 1024`, LF
  pub width_refused : line_of (Done (Err (record { cause = cause.Width; place = 2 }))) ≡ 114 ∷ 101 ∷ 102 ∷ 117 ∷ 115 ∷ 101 ∷ 100 ∷ 32 ∷ 51 ∷ 32 ∷ 97 ∷ 116 ∷ 32 ∷ 50 ∷ 58 ∷ 32 ∷ 97 ∷ 32 ∷ 119 ∷ 105 ∷ 100 ∷ 116 ∷ 104 ∷ 32 ∷ 105 ∷ 115 ∷ 32 ∷ 110 ∷ 111 ∷ 116 ∷ 32 ∷ 105 ∷ 110 ∷ 32 ∷ 49 ∷ 32 ∷ 116 ∷ 111 ∷ 32 ∷ 49 ∷ 48 ∷ 50 ∷ 52 ∷ 10 ∷ []
  -- `refused 4 at 1: a rise is outside its limits`, LF
  pub rise_refused : line_of (Done (Err (record { cause = cause.Rise; place = 1 }))) ≡ 114 ∷ 101 ∷ 102 ∷ 117 ∷ 115 ∷ 101 ∷ 100 ∷ 32 ∷ 52 ∷ 32 ∷ 97 ∷ 116 ∷ 32 ∷ 49 ∷ 58 ∷ 32 ∷ 97 ∷ 32 ∷ 114 ∷ 105 ∷ 115 ∷ 101 ∷ 32 ∷ 105 ∷ 115 ∷ 32 ∷ 111 ∷ 117 ∷ 116 ∷ 115 ∷ 105 ∷ 100 ∷ 101 ∷ 32 ∷ 105 ∷ 116 ∷ 115 ∷ 32 ∷ 108 ∷ 105 ∷ 109 ∷ 105 ∷ 116 ∷ 115 ∷ 10 ∷ []
  -- `refused 5 at 1023: a piece is not monotone`, LF
  pub bend_refused : line_of (Done (Err (record { cause = cause.Bend; place = 1023 }))) ≡ 114 ∷ 101 ∷ 102 ∷ 117 ∷ 115 ∷ 101 ∷ 100 ∷ 32 ∷ 53 ∷ 32 ∷ 97 ∷ 116 ∷ 32 ∷ 49 ∷ 48 ∷ 50 ∷ 51 ∷ 58 ∷ 32 ∷ 97 ∷ 32 ∷ 112 ∷ 105 ∷ 101 ∷ 99 ∷ 101 ∷ 32 ∷ 105 ∷ 115 ∷ 32 ∷ 110 ∷ 111 ∷ 116 ∷ 32 ∷ 109 ∷ 111 ∷ 110 ∷ 111 ∷ 116 ∷ 111 ∷ 110 ∷ 101 ∷ 10 ∷ []
  -- `refused 6 at 0: position before the first or after the last knot`, LF
  pub position_refused : line_of (Done (Err (record { cause = cause.Position; place = 0 }))) ≡ 114 ∷ 101 ∷ 102 ∷ 117 ∷ 115 ∷ 101 ∷ 100 ∷ 32 ∷ 54 ∷ 32 ∷ 97 ∷ 116 ∷ 32 ∷ 48 ∷ 58 ∷ 32 ∷ 112 ∷ 111 ∷ 115 ∷ 105 ∷ 116 ∷ 105 ∷ 111 ∷ 110 ∷ 32 ∷ 98 ∷ 101 ∷ 102 ∷ 111 ∷ 114 ∷ 101 ∷ 32 ∷ 116 ∷ 104 ∷ 101 ∷ 32 ∷ 102 ∷ 105 ∷ 114 ∷ 115 ∷ 116 ∷ 32 ∷ 111 ∷ 114 ∷ 32 ∷ 97 ∷ 102 ∷ 116 ∷ 101 ∷ 114 ∷ 32 ∷ 116 ∷ 104 ∷ 101 ∷ 32 ∷ 108 ∷ 97 ∷ 115 ∷ 116 ∷ 32 ∷ 107 ∷ 110 ∷ 111 ∷ 116 ∷ 10 ∷ []
  -- `refused 7 at 0: no point with this number`, LF
  pub point_refused : line_of (Done (Err (record { cause = cause.Point; place = 0 }))) ≡ 114 ∷ 101 ∷ 102 ∷ 117 ∷ 115 ∷ 101 ∷ 100 ∷ 32 ∷ 55 ∷ 32 ∷ 97 ∷ 116 ∷ 32 ∷ 48 ∷ 58 ∷ 32 ∷ 110 ∷ 111 ∷ 32 ∷ 112 ∷ 111 ∷ 105 ∷ 110 ∷ 116 ∷ 32 ∷ 119 ∷ 105 ∷ 116 ∷ 104 ∷ 32 ∷ 116 ∷ 104 ∷ 105 ∷ 115 ∷ 32 ∷ 110 ∷ 117 ∷ 109 ∷ 98 ∷ 101 ∷ 114 ∷ 10 ∷ []
  -- `refused 8 at 7: piece too large for the exact float answer`, LF
  pub size_refused : line_of (Done (Err (record { cause = cause.Size; place = 7 }))) ≡ 114 ∷ 101 ∷ 102 ∷ 117 ∷ 115 ∷ 101 ∷ 100 ∷ 32 ∷ 56 ∷ 32 ∷ 97 ∷ 116 ∷ 32 ∷ 55 ∷ 58 ∷ 32 ∷ 112 ∷ 105 ∷ 101 ∷ 99 ∷ 101 ∷ 32 ∷ 116 ∷ 111 ∷ 111 ∷ 32 ∷ 108 ∷ 97 ∷ 114 ∷ 103 ∷ 101 ∷ 32 ∷ 102 ∷ 111 ∷ 114 ∷ 32 ∷ 116 ∷ 104 ∷ 101 ∷ 32 ∷ 101 ∷ 120 ∷ 97 ∷ 99 ∷ 116 ∷ 32 ∷ 102 ∷ 108 ∷ 111 ∷ 97 ∷ 116 ∷ 32 ∷ 97 ∷ 110 ∷ 115 ∷ 119 ∷ 101 ∷ 114 ∷ 10 ∷ []
  -- `refused 11 at 0: `, LF
  pub no_cause_yet : line_of (Numbered 11 0) ≡ 114 ∷ 101 ∷ 102 ∷ 117 ∷ 115 ∷ 101 ∷ 100 ∷ 32 ∷ 49 ∷ 49 ∷ 32 ∷ 97 ∷ 116 ∷ 32 ∷ 48 ∷ 58 ∷ 32 ∷ 10 ∷ []
  -- `refused 12 at 0: the slope unit is not in 0 to 8`, LF
  pub unit_refused : line_of (Done (Err (record { cause = cause.SlopeUnit; place = 0 }))) ≡ 114 ∷ 101 ∷ 102 ∷ 117 ∷ 115 ∷ 101 ∷ 100 ∷ 32 ∷ 49 ∷ 50 ∷ 32 ∷ 97 ∷ 116 ∷ 32 ∷ 48 ∷ 58 ∷ 32 ∷ 116 ∷ 104 ∷ 101 ∷ 32 ∷ 115 ∷ 108 ∷ 111 ∷ 112 ∷ 101 ∷ 32 ∷ 117 ∷ 110 ∷ 105 ∷ 116 ∷ 32 ∷ 105 ∷ 115 ∷ 32 ∷ 110 ∷ 111 ∷ 116 ∷ 32 ∷ 105 ∷ 110 ∷ 32 ∷ 48 ∷ 32 ∷ 116 ∷ 111 ∷ 32 ∷ 56 ∷ 10 ∷ []
  -- `refused 99 at 3: `, LF
  pub no_cause : line_of (Numbered 99 3) ≡ 114 ∷ 101 ∷ 102 ∷ 117 ∷ 115 ∷ 101 ∷ 100 ∷ 32 ∷ 57 ∷ 57 ∷ 32 ∷ 97 ∷ 116 ∷ 32 ∷ 51 ∷ 58 ∷ 32 ∷ 10 ∷ []
  -- `ok`, LF
  pub done : line_of (Done (Ok tt)) ≡ 111 ∷ 107 ∷ 10 ∷ []
  -- `ok 40`, LF
  pub count : line_of (Count 40) ≡ 111 ∷ 107 ∷ 32 ∷ 52 ∷ 48 ∷ 10 ∷ []
  -- `rising`, LF
  pub rising : line_of (Judged (Ok Rising)) ≡ 114 ∷ 105 ∷ 115 ∷ 105 ∷ 110 ∷ 103 ∷ 10 ∷ []
  -- `falling`, LF
  pub falling : line_of (Judged (Ok Falling)) ≡ 102 ∷ 97 ∷ 108 ∷ 108 ∷ 105 ∷ 110 ∷ 103 ∷ 10 ∷ []
  -- `flat`, LF
  pub flat : line_of (Judged (Ok Flat)) ≡ 102 ∷ 108 ∷ 97 ∷ 116 ∷ 10 ∷ []
  -- `bends`, LF
  pub bends : line_of (Judged (Ok Bends)) ≡ 98 ∷ 101 ∷ 110 ∷ 100 ∷ 115 ∷ 10 ∷ []
  -- `refused 3 at 0: a width is not in 1 to 1024`, LF
  pub verdict_refused : line_of (Judged (Err (record { cause = cause.Width; place = 0 }))) ≡ 114 ∷ 101 ∷ 102 ∷ 117 ∷ 115 ∷ 101 ∷ 100 ∷ 32 ∷ 51 ∷ 32 ∷ 97 ∷ 116 ∷ 32 ∷ 48 ∷ 58 ∷ 32 ∷ 97 ∷ 32 ∷ 119 ∷ 105 ∷ 100 ∷ 116 ∷ 104 ∷ 32 ∷ 105 ∷ 115 ∷ 32 ∷ 110 ∷ 111 ∷ 116 ∷ 32 ∷ 105 ∷ 110 ∷ 32 ∷ 49 ∷ 32 ∷ 116 ∷ 111 ∷ 32 ∷ 49 ∷ 48 ∷ 50 ∷ 52 ∷ 10 ∷ []
  -- `-42`, LF
  pub value : line_of (Valued (Ok (negsuc 41))) ≡ 45 ∷ 52 ∷ 50 ∷ 10 ∷ []
  -- `refused 6 at 0: position before the first or after the last knot`, LF
  pub value_refused : line_of (Valued (Err (record { cause = cause.Position; place = 0 }))) ≡ 114 ∷ 101 ∷ 102 ∷ 117 ∷ 115 ∷ 101 ∷ 100 ∷ 32 ∷ 54 ∷ 32 ∷ 97 ∷ 116 ∷ 32 ∷ 48 ∷ 58 ∷ 32 ∷ 112 ∷ 111 ∷ 115 ∷ 105 ∷ 116 ∷ 105 ∷ 111 ∷ 110 ∷ 32 ∷ 98 ∷ 101 ∷ 102 ∷ 111 ∷ 114 ∷ 101 ∷ 32 ∷ 116 ∷ 104 ∷ 101 ∷ 32 ∷ 102 ∷ 105 ∷ 114 ∷ 115 ∷ 116 ∷ 32 ∷ 111 ∷ 114 ∷ 32 ∷ 97 ∷ 102 ∷ 116 ∷ 101 ∷ 114 ∷ 32 ∷ 116 ∷ 104 ∷ 101 ∷ 32 ∷ 108 ∷ 97 ∷ 115 ∷ 116 ∷ 32 ∷ 107 ∷ 110 ∷ 111 ∷ 116 ∷ 10 ∷ []
  -- `dwell 7`, LF
  pub dwell : line_of (Driven (Ok (Dwell (fin false 7 (pos 0))))) ≡ 100 ∷ 119 ∷ 101 ∷ 108 ∷ 108 ∷ 32 ∷ 55 ∷ 10 ∷ []
  -- `move -3 -0 256`, LF
  pub move : line_of (Driven (Ok (Move (record { left = fin true 3 (pos 0); numerator = fin true 0 (pos 0); denominator = fin false 1 (pos 8) })))) ≡ 109 ∷ 111 ∷ 118 ∷ 101 ∷ 32 ∷ 45 ∷ 51 ∷ 32 ∷ 45 ∷ 48 ∷ 32 ∷ 50 ∷ 53 ∷ 54 ∷ 10 ∷ []
  -- `refused 8 at 7: piece too large for the exact float answer`, LF
  pub drive_refused : line_of (Driven (Err (record { cause = cause.Size; place = 7 }))) ≡ 114 ∷ 101 ∷ 102 ∷ 117 ∷ 115 ∷ 101 ∷ 100 ∷ 32 ∷ 56 ∷ 32 ∷ 97 ∷ 116 ∷ 32 ∷ 55 ∷ 58 ∷ 32 ∷ 112 ∷ 105 ∷ 101 ∷ 99 ∷ 101 ∷ 32 ∷ 116 ∷ 111 ∷ 111 ∷ 32 ∷ 108 ∷ 97 ∷ 114 ∷ 103 ∷ 101 ∷ 32 ∷ 102 ∷ 111 ∷ 114 ∷ 32 ∷ 116 ∷ 104 ∷ 101 ∷ 32 ∷ 101 ∷ 120 ∷ 97 ∷ 99 ∷ 116 ∷ 32 ∷ 102 ∷ 108 ∷ 111 ∷ 97 ∷ 116 ∷ 32 ∷ 97 ∷ 110 ∷ 115 ∷ 119 ∷ 101 ∷ 114 ∷ 10 ∷ []
  -- `8`, LF
  pub slope_unit : line_of (SlopeUnit 8) ≡ 56 ∷ 10 ∷ []
  -- the largest float below 2^64; 2^64 itself, which has no place; −2^40; one half of 3; an infinity, and what is no number
  pub largest : float_as (fin false 9007199254740991 (pos 11)) ≡ natural_as 18446744073709549568
  pub too_large : float_as (fin false 1 (pos 64)) ≡ natural_as 0
  pub negative : float_as (fin true 1 (pos 40)) ≡ whole_as (negsuc 1099511627775)
  pub fraction : float_as (fin false 3 (negsuc 0)) ≡ natural_as 1
  pub infinite : float_as (inf true) ≡ natural_as 0
  pub no_number : float_as nan ≡ natural_as 0

pub worked : Worked
unfolding line_of fault_line float_as filled spelled
worked =
    record {
      silent = refl;
      too_long = refl;
      no_command = refl;
      too_few = refl;
      too_many = refl;
      no_list = refl;
      not_decimal = refl;
      beyond_32 = refl;
      beyond_64 = refl;
      beyond_unsigned = refl;
      lengths_refused = refl;
      points_refused = refl;
      width_refused = refl;
      rise_refused = refl;
      bend_refused = refl;
      position_refused = refl;
      point_refused = refl;
      size_refused = refl;
      no_cause_yet = refl;
      unit_refused = refl;
      no_cause = refl;
      done = refl;
      count = refl;
      rising = refl;
      falling = refl;
      flat = refl;
      bends = refl;
      verdict_refused = refl;
      value = refl;
      value_refused = refl;
      dwell = refl;
      move = refl;
      drive_refused = refl;
      slope_unit = refl;
      largest = refl;
      too_large = refl;
      negative = refl;
      fraction = refl;
      infinite = refl;
      no_number = refl;
    }
