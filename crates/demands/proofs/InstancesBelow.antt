-- A worked instance of what each function below the tables ensures, as `Instances.antt` has them of the calls over pieces and tables: none of these promises is one that nothing
-- meets. The functions that C links have the same contracts, or a record for an enum that `Cases.antt` of `exports` spells out. Text is the list of its bytes, as in `WrongText.antt`.
use Rattle.std.specs.Prelude.{refl, true, false, List, [], ◌∷◌, ℕ, pos, negsuc, Some, Ok}
use Rattle.std.proofs.Common.{sym, lit<, lit≤}
use Rattle.std.specs.Int.Signed.{le_z_yes, lt_z_yes}
use Rattle.std.specs.Borrow.{Bor}
use Rattle.integers.specs.Promise.{holds}
use Rattle.cubic.proofs.Monotone.{monotone_rising}
use Rattle.cubic.specs.Test.{line}
use Rattle.cubic.proofs.Test.{short_accepts}
use Rattle.words.specs.Words.{front, words_after}
use Rattle.decimals.specs.Decimal.{are_digits, natural}
use Rattle.decimals.specs.Text.{spelled}
use Rattle.answers.specs.declared.filling.Signed.{Signed}
use Rattle.answers.specs.Filling.{filled}
use Rattle.answers.specs.Texts.{entry_of}
use Rattle.lists.specs.Lists.{numbers_of, spaced}
use Rattle.commands.specs.declared.Command as Command
use Rattle.commands.specs.Examples.{at_one, worked}
use Rattle.replies.specs.declared.Reply.TheVariants.{Done}
use Rattle.replies.specs.Replies.{line_of}
use Rattle.rules.specs.declared.Cause.TheVariants.{SlopeUnit, Position}
use Rattle.rules.specs.declared.limits.Extent.{Extent}
use Rattle.table.specs.Accepted.{accepted_table}
use Rattle.table.specs.Tested.{points_by_test}
use Rattle.position.specs.declared.Spot.{Spot}
use Rattle.position.specs.declared.inside.Inside.{Inside}
use Rattle.position.specs.Refused.{none_refused}
use Rattle.position.specs.Spot.{SpotOn, on, inside_spot}
use Rattle.demands.specs.ByContract.{to_change, list, AskedMonotone, SaysMonotone, HasCoefficients, Steps, AskedPiece, PieceIs, AskedRenewal, RenewsTo, Finds, AskedSeek, Seeks}
use Rattle.demands.proofs.Programs.{two, two_within, two_passes, four}
use Rattle.demands.specs.Refuting.{within, in_piece}
use Rattle.demands.proofs.SixteenGiven.{eighth, count}
use Rattle.integers.proofs.difference.Reads as integers-difference
use Rattle.integers.proofs.between.Reads as integers-between
use Rattle.integers.proofs.floor_div.Reads as integers-floor_div
use Rattle.integers.proofs.nearest_div.Reads as integers-nearest_div
use Rattle.rules.proofs.Cause.number.Reads as rules-Cause-number
use Rattle.rules.proofs.Refused.by.Reads as rules-Refused-by
use Rattle.rules.proofs.limits.Extent.mirrored.Reads as rules-Extent-mirrored
use Rattle.rules.proofs.unit_within.Reads as rules-unit_within
use Rattle.rules.proofs.unit.Reads as rules-unit
use Rattle.rules.proofs.count_within.Reads as rules-count_within
use Rattle.rules.proofs.width_within.Reads as rules-width_within
use Rattle.rules.proofs.rise_within.Reads as rules-rise_within
use Rattle.words.proofs.find.Reads as words-find
use Rattle.words.proofs.content.Reads as words-content
use Rattle.words.proofs.next_word.Reads as words-next_word
use Rattle.words.proofs.count.Reads as words-count
use Rattle.words.proofs.part.Reads as words-part
use Rattle.words.proofs.append.Reads as words-append
use Rattle.decimals.proofs.whole.Reads as decimals-whole
use Rattle.decimals.proofs.whole32.Reads as decimals-whole32
use Rattle.decimals.proofs.append_natural.Reads as decimals-append_natural
use Rattle.decimals.proofs.append_whole.Reads as decimals-append_whole
use Rattle.decimals.proofs.append_whole32.Reads as decimals-append_whole32
use Rattle.answers.proofs.filling.SignedFromU64.from.Reads as answers-natural
use Rattle.answers.proofs.filling.SignedFromI64.from.Reads as answers-whole
use Rattle.answers.proofs.filling.SignedFromI32.from.Reads as answers-whole32
use Rattle.answers.proofs.fill.Reads as answers-fill
use Rattle.answers.proofs.entry.Reads as answers-entry
use Rattle.lines.proofs.take.Reads as lines-take
use Rattle.lists.proofs.set.Reads as lists-set
use Rattle.lists.proofs.append_row.Reads as lists-append_row
use Rattle.commands.proofs.parse.Reads as commands-parse
use Rattle.replies.proofs.append_reply.Reads as replies-append_reply
use Rattle.position.proofs.inside.Inside.extent.Reads as position-Inside-extent

abbrev pub bytes : List ℕ → Bor (List ℕ)
bytes bs = record { ref_ptr = (0, 0); now = bs }

-- `ab c`, `-7`, `k 5 -7`, and a buffer of four bytes of which the first is held
abbrev words : List ℕ
words = 97 ∷ 98 ∷ 32 ∷ 99 ∷ []

abbrev minus_seven : List ℕ
minus_seven = 45 ∷ 55 ∷ []

abbrev command : List ℕ
command = 107 ∷ 32 ∷ 53 ∷ 32 ∷ 45 ∷ 55 ∷ []

abbrev buffer : List ℕ
buffer = 61 ∷ 0 ∷ 0 ∷ 0 ∷ []

-- `$,####`, and three numbers for it
abbrev template : List ℕ
template = 36 ∷ 44 ∷ 35 ∷ 35 ∷ 35 ∷ 35 ∷ []

abbrev pub seven : Signed
seven = record { negative = false; size = 7 }

abbrev pub minus_zero : Signed
minus_zero = record { negative = true; size = 0 }

abbrev pub three : Signed
three = record { negative = false; size = 3 }

abbrev pub three_numbers : Bor (List Signed)
three_numbers = record { ref_ptr = (0, 0); now = seven ∷ minus_zero ∷ three ∷ [] }

-- what is asked of a piece, of the four points and of the two
abbrev small : AskedMonotone (pos 256) (pos 1) (pos 1) (pos 256) (pos 256)
small = (record { unit = within tt tt; width = within tt tt; rise = within tt tt }, tt)

abbrev four_asked : AskedRenewal four (pos 256) 0 2
four_asked = (within tt tt, points_by_test _ _ refl (count tt tt) tt, (refl, (lit≤ tt, lit≤ tt)))

abbrev two_piece : AskedPiece two.knots two.values 0
two_piece = (two_within, lit< tt)

-- the fall by 10 over a width of 3, and the rise that it is when turned over; and the place of position 1 in that fall
abbrev pub a_fall : Extent
a_fall = record { h = pos 3; z = negsuc 9; width = within tt tt; rise = within tt tt }

abbrev pub a_rise : Extent
a_rise = record { h = pos 3; z = pos 10; width = within tt tt; rise = within tt tt }

abbrev pub a_spot : Spot
a_spot = record { piece = 0; left = pos 0; h = pos 3; z = negsuc 9; m = negsuc 852; n = negsuc 852; t = pos 1 }

pub on_the_fall : SpotOn two.knots two.values two.slopes 0 (pos 1) (pos 0) (pos 3) (negsuc 9) (negsuc 852) (negsuc 852) (pos 1)
on_the_fall = record { belongs = in_piece 0 tt tt tt; left_is = refl; h_is = refl; z_is = refl; m_is = refl; n_is = refl; t_is = refl; right_fits = record { sfits = lit< tt } }

abbrev pub a_place : Inside
a_place = record { unit = record { size = pos 256; within = within tt tt }; spot = a_spot; in_piece = inside_spot {tab = two} (accepted_table refl two_passes) on_the_fall; right_fits = on_the_fall.right_fits }

abbrev two_asked : AskedSeek two (pos 1)
two_asked = (points_by_test _ _ refl (count tt tt) tt, refl)

pub record WorkedBelow : Type 0 where
  -- 2147483647 to −2147483648; 1 ≤ 1 ≤ 1024; −10 divided by 3, rounded down; −10 divided by 4, to the nearest
  pub difference : integers-difference.Post tt (pos 2147483647, (negsuc 2147483647, tt)) (negsuc 4294967294) (pos 2147483647, (negsuc 2147483647, tt))
  pub between : integers-between.Post tt (pos 1, (pos 1, (pos 1024, tt))) true (pos 1, (pos 1, (pos 1024, tt)))
  pub floor_div : integers-floor_div.Post tt (negsuc 9, (pos 3, tt)) (negsuc 3) (negsuc 9, (pos 3, tt))
  pub nearest_div : integers-nearest_div.Post tt (negsuc 9, (pos 4, tt)) (negsuc 1) (negsuc 9, (pos 4, tt))
  -- the unit is refused by 12, a position at place 0, and a fall turned over is a rise
  pub number_of_a_cause : rules-Cause-number.Post tt (SlopeUnit, tt) 12 (SlopeUnit, tt)
  pub refused_by : rules-Refused-by.Post tt (Position, tt) (record { cause = Position; place = 0 }) (Position, tt)
  pub mirrored : rules-Extent-mirrored.Post tt (a_fall, tt) a_rise (a_fall, tt)
  -- the largest of each, and the unit of that
  pub unit_within : rules-unit_within.Post tt (8, tt) true (8, tt)
  pub unit : rules-unit.Post tt (8, tt) (record { size = pos 256; within = within tt tt }) (8, tt)
  pub count_within : rules-count_within.Post tt (1024, tt) true (1024, tt)
  pub width_within : rules-width_within.Post tt (pos 1024, tt) true (pos 1024, tt)
  pub rise_within : rules-rise_within.Post tt (pos 1048576, tt) true (pos 1048576, tt)
  -- the space of `ab c` is at 2; its second word is from 3 to 4; it has two; `ab` is its part from 0 to 2; `ab` without its CR; `b` put behind `=`
  pub find : words-find.Post ([], tt) (bytes words, (0, (32, tt))) 2 (bytes words, (0, (32, tt)))
  pub next_word : words-next_word.Post ([], tt) (bytes words, (2, tt)) (Some (record { start = 3; end = 4 })) (bytes words, (2, tt))
  pub count_of_words : words-count.Post ([], tt) (bytes words, (0, tt)) 2 (bytes words, (0, tt))
  pub part : words-part.Post ([], tt) (bytes words, (0, (2, tt))) (bytes (97 ∷ 98 ∷ [])) (bytes words, (0, (2, tt)))
  pub content : words-content.Post ([], tt) (bytes (97 ∷ 98 ∷ 13 ∷ []), tt) (bytes (97 ∷ 98 ∷ [])) (bytes (97 ∷ 98 ∷ 13 ∷ []), tt)
  pub append : words-append.Post ([], ([], tt)) (to_change buffer, (1, (bytes (98 ∷ []), tt))) 2 (to_change (61 ∷ 98 ∷ 0 ∷ 0 ∷ []), (1, (bytes (98 ∷ []), tt)))
  -- `-7` is −7, and is written so
  pub whole : decimals-whole.Post ([], tt) (bytes minus_seven, tt) (Ok (negsuc 6)) (bytes minus_seven, tt)
  pub whole32 : decimals-whole32.Post ([], tt) (bytes minus_seven, tt) (Ok (negsuc 6)) (bytes minus_seven, tt)
  pub append_natural : decimals-append_natural.Post ([], tt) (to_change buffer, (1, (7, tt))) 2 (to_change (61 ∷ 55 ∷ 0 ∷ 0 ∷ []), (1, (7, tt)))
  pub append_whole : decimals-append_whole.Post ([], tt) (to_change buffer, (1, (negsuc 6, tt))) 3 (to_change (61 ∷ 45 ∷ 55 ∷ 0 ∷ []), (1, (negsuc 6, tt)))
  pub append_whole32 : decimals-append_whole32.Post ([], tt) (to_change buffer, (1, (negsuc 6, tt))) 3 (to_change (61 ∷ 45 ∷ 55 ∷ 0 ∷ []), (1, (negsuc 6, tt)))
  -- 7, −2⁶³ and −2³¹ as they are written; `$,####` with the text `a` and the numbers 7, −0 and 3 is `a,7-03`; of `a`, LF, `b` the second entry is `b`
  pub natural_as : answers-natural.Post tt (7, tt) seven (7, tt)
  pub whole_as : answers-whole.Post tt (negsuc 9223372036854775807, tt) (record { negative = true; size = 9223372036854775808 }) (negsuc 9223372036854775807, tt)
  pub whole32_as : answers-whole32.Post tt (negsuc 2147483647, tt) (record { negative = true; size = 2147483648 }) (negsuc 2147483647, tt)
  pub fill : answers-fill.Post ([], ([], ([], ([], tt)))) (to_change (61 ∷ 0 ∷ 0 ∷ 0 ∷ 0 ∷ 0 ∷ 0 ∷ 0 ∷ []), (1, (bytes template, (bytes (97 ∷ []), (three_numbers, tt))))) 7
      (to_change (61 ∷ 97 ∷ 44 ∷ 55 ∷ 45 ∷ 48 ∷ 51 ∷ 0 ∷ []), (1, (bytes template, (bytes (97 ∷ []), (three_numbers, tt)))))
  pub entry : answers-entry.Post ([], tt) (bytes (97 ∷ 10 ∷ 98 ∷ []), (1, tt)) (bytes (98 ∷ [])) (bytes (97 ∷ 10 ∷ 98 ∷ []), (1, tt))
  -- `b`, LF ends a line that begins with what is held; `k 5 -7` puts 5 and −7 in front of a list, and the two are written so
  pub take : lines-take.Post ([], ([], tt)) (to_change buffer, (1, (bytes (98 ∷ 10 ∷ []), (0, tt)))) (record { held = 2; next = 2; whole = true }) (to_change (61 ∷ 98 ∷ 0 ∷ 0 ∷ []), (1, (bytes (98 ∷ 10 ∷ []), (0, tt))))
  pub set : lists-set.Post ([], ([], tt)) (to_change (pos 0 ∷ pos 0 ∷ pos 1 ∷ []), (bytes command, tt)) 2 (to_change (pos 5 ∷ negsuc 6 ∷ pos 1 ∷ []), (bytes command, tt))
  pub append_row : lists-append_row.Post ([], ([], tt)) (to_change buffer, (0, (list (pos 5 ∷ negsuc 6 ∷ []), tt))) 4 (to_change (53 ∷ 32 ∷ 45 ∷ 55 ∷ []), (0, (list (pos 5 ∷ negsuc 6 ∷ []), tt)))
  -- `at`, tab, `1`, space asks for position 1
  pub parse : commands-parse.Post ([], tt) (bytes at_one, tt) (Ok (Command.TheVariants.At (pos 1))) (bytes at_one, tt)
  -- `ok`, LF put behind `=`
  pub append_reply : replies-append_reply.Post ([], tt) (to_change buffer, (1, (Done (Ok tt), tt))) 4 (to_change (61 ∷ 111 ∷ 107 ∷ 10 ∷ []), (1, (Done (Ok tt), tt)))
  -- 1, 1, 256, 256 is monotone and a line; the steps and renewed slopes of (0,0), (1,1), (2,4), (3,7), and the piece of (0,0), (3,−10) and a position in it
  pub is_monotone : SaysMonotone (pos 256) (pos 1) (pos 1) (pos 256) (pos 256) small true
  pub coefficients : HasCoefficients (pos 256) (pos 1) (pos 1) (pos 256) (pos 256) small (pos 256) (pos 0) (pos 0)
  pub step : Steps four.values 1 (pos 3)
  pub renew : RenewsTo four (pos 256) 0 2 four_asked four.slopes
  pub piece : PieceIs two.knots two.values 0 two_piece a_fall
  pub place : Finds two (pos 1) (Ok a_place)
  pub extent : position-Inside-extent.Post tt (a_place, tt) a_fall (a_place, tt)
  pub seek : Seeks two (pos 1) two_asked (Some a_spot)

pub worked_below : WorkedBelow
unfolding front words_after are_digits natural spelled filled entry_of numbers_of spaced line_of
worked_below =
    record {
      difference = refl;
      between = holds (within tt tt);
      floor_div = record { is = refl };
      nearest_div = record { nearest = λ _. record { above = le_z_yes tt; below = lt_z_yes tt }; otherwise = λ l. absurd l.le };
      number_of_a_cause = refl;
      refused_by = refl;
      mirrored = (refl, refl);
      unit_within = holds eighth;
      unit = refl;
      count_within = holds (count tt tt);
      width_within = holds (within tt tt);
      rise_within = holds (within tt tt);
      find = refl;
      next_word = refl;
      count_of_words = refl;
      part = refl;
      content = refl;
      append = record { counted = refl; buffer = refl };
      whole = refl;
      whole32 = refl;
      append_natural = record { counted = refl; buffer = refl };
      append_whole = record { counted = refl; buffer = refl };
      append_whole32 = record { counted = refl; buffer = refl };
      natural_as = refl;
      whole_as = refl;
      whole32_as = refl;
      fill = record { counted = refl; buffer = refl };
      entry = refl;
      take = record { gathered = record { counted = refl; buffer = refl }; following = refl; ended = refl };
      set = record { counted = refl; placed = refl };
      append_row = record { counted = refl; buffer = refl };
      parse = sym worked.at_one_asks;
      append_reply = record { counted = refl; buffer = refl };
      is_monotone = holds (monotone_rising (lt_z_yes tt) (short_accepts (line (le_z_yes tt) (le_z_yes tt) (le_z_yes tt))));
      coefficients = record { first_is = refl; second_is = refl; third_is = refl };
      step = refl;
      renew = refl;
      piece = (refl, refl);
      place = record { refusal = none_refused two_passes refl (within tt tt); inside = record { unit_is = refl; spot = on_the_fall } };
      extent = (refl, refl);
      seek = on (within tt tt) on_the_fall;
    }
