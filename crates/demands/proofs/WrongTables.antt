-- Wrong programs for tables. Each theorem is named by one, and says that what it would answer, and leave in the lists, does not meet the contract. `ByContract.antt` says what each
-- function may answer. A wrong program that breaks one of the demands stands in `Wrong1.antt`, `Wrong2.antt`, `WrongEnds.antt`, `WrongUnits.antt` or `Wrong3.antt`.
use Rattle.std.specs.Prelude.{◌≡◌, refl, List, [], ◌∷◌, ℕ, ℤ, pos, negsuc, Option, None, Some}
use Rattle.std.proofs.Common.{◌∙◌, ap, arith, lit<, lit≤}
use Rattle.cubic.specs.Piece.{Monotone}
use Rattle.rules.specs.Limits.{unit}
use Rattle.rules.specs.Order.{one_given, answer_right}
use Rattle.table.specs.declared.changed.Change.{Change}
use Rattle.table.specs.Table.{Table, table, lengths_differ, not_monotone}
use Rattle.table.specs.Accepted.{unit_passes, same_length_passes, count_passes, points_accepted}
use Rattle.table.specs.Tested.{points_by_test}
use Rattle.table.specs.WouldBe.{of_points, no_such_point}
use Rattle.position.specs.declared.Spot.{Spot}
use Rattle.position.specs.Position.{Belongs, at_last_knot, of_table, Located}
use Rattle.position.specs.Pieces.{one_piece}
use Rattle.position.specs.Spot.{sought_outside, sought_on}
use Rattle.position.specs.Refused.{accepted_at}
use Rattle.curve.specs.Curve.{value_on, Evaluated}
use Rattle.change.specs.Change.{Changed}
use Rattle.demands.proofs.SixteenGiven.{eighth, count}
use Rattle.demands.specs.ByContract.{PointsAnswer, PointsAnswerC, Checks, ChecksC, Builds, BuildsC, AskedRenewal, RenewsTo, ChangedPoints, ChangedPointsC, Changes, ChangesC, AskedStep, Steps, Locates, LocatesC, AskedSeek, Seeks, Evaluates, EvaluatesC}
use Rattle.demands.specs.Said.{builds_say, changed_points_say, changes_say, checks_say, evaluates_say, locates_say, points_say}
use Rattle.demands.specs.Refuting.{within, overlooked, so_it_holds, no_unit, too_narrow, too_high, against_its_rise, below_the_line, in_piece, no_bad_width, no_bad_rise, no_bend, no_bad_width_then, the_point_is_there, no_bend_there, not_outside, answers_nothing, numbers_differ, lists_differ}

abbrev 0-1 : List ℤ
0-1 = pos 0 ∷ pos 1 ∷ []

abbrev 0-2 : List ℤ
0-2 = pos 0 ∷ pos 2 ∷ []

abbrev 0-1-2 : List ℤ
0-1-2 = pos 0 ∷ pos 1 ∷ pos 2 ∷ []

abbrev 0-1-4 : List ℤ
0-1-4 = pos 0 ∷ pos 1 ∷ pos 4 ∷ []

abbrev 0-1-2-3 : List ℤ
0-1-2-3 = pos 0 ∷ pos 1 ∷ pos 2 ∷ pos 3 ∷ []

abbrev 0-1-4-7 : List ℤ
0-1-4-7 = pos 0 ∷ pos 1 ∷ pos 4 ∷ pos 7 ∷ []

abbrev 0-0 : List ℤ
0-0 = pos 0 ∷ pos 0 ∷ []

abbrev 0-0-0 : List ℤ
0-0-0 = pos 0 ∷ pos 0 ∷ pos 0 ∷ []

abbrev 0-0-0-0 : List ℤ
0-0-0-0 = pos 0 ∷ pos 0 ∷ pos 0 ∷ pos 0 ∷ []

-- ---- `points`: the three lists' lengths, the number of points, the widths and the rises

-- two points at one knot, so that the last piece, which is the only one, has the width 0
pub the_last_piece_passed_over : PointsAnswer (table 8 0-0 0-0 0-0) 0 0 → ⊥
the_last_piece_passed_over p = overlooked (points_say p) 3 0 (too_narrow tt tt) tt

-- a rise that is too large, and behind it two points at one knot
pub the_piece_behind_a_fault_passed_over : PointsAnswer (table 8 (pos 0 ∷ pos 1 ∷ pos 1 ∷ []) (pos 0 ∷ pos 1048577 ∷ pos 1048577 ∷ []) 0-0-0) 4 0 → ⊥
the_piece_behind_a_fault_passed_over p = overlooked (points_say p) 3 1 (too_narrow tt tt) tt

pub rises_asked_of_the_knots : PointsAnswer (table 8 0-1 (pos 0 ∷ pos 1048577 ∷ []) 0-0) 0 0 → ⊥
rises_asked_of_the_knots p = overlooked (points_say p) 4 0 (too_high tt tt) tt

pub a_width_refused_by_4 : PointsAnswer (table 8 0-0 0-0 0-0) 4 0 → ⊥
a_width_refused_by_4 p = no_bad_rise (within tt tt) (so_it_holds (points_say p))

pub a_rise_refused_by_3 : PointsAnswer (table 8 0-1 (pos 0 ∷ pos 1048577 ∷ []) 0-0) 3 0 → ⊥
a_rise_refused_by_3 p = no_bad_width (within tt tt) (so_it_holds (points_say p))

pub a_count_refused_by_1 : PointsAnswer (table 8 [] [] []) 1 0 → ⊥
a_count_refused_by_1 p = same_length_passes (record { values = refl; slopes = refl }) 0 (so_it_holds (points_say p))

pub longer_slopes_taken : PointsAnswer (table 8 0-1 0-1 0-0-0) 0 0 → ⊥
longer_slopes_taken p = overlooked (points_say p) 1 0 (lengths_differ (λ s. omega (arith, s.slopes))) tt

pub longer_values_taken : PointsAnswer (table 8 0-1 0-1-2 0-0) 0 0 → ⊥
longer_values_taken p = overlooked (points_say p) 1 0 (lengths_differ (λ s. omega (arith, s.values))) tt

pub good_points_refused : PointsAnswer (table 8 0-1 0-1 0-0) 2 0 → ⊥
good_points_refused p = count_passes (count tt tt) 0 (so_it_holds (points_say p))

-- the unit asked after the lengths, the number of points or a width; or taken for 8; or another number for it
pub lengths_asked_before_the_unit : PointsAnswer (table 9 0-1 [] 0-0) 1 0 → ⊥
lengths_asked_before_the_unit p = overlooked (points_say p) 12 0 (no_unit tt) tt

pub a_count_asked_before_the_unit : PointsAnswer (table 9 [] [] []) 2 0 → ⊥
a_count_asked_before_the_unit p = overlooked (points_say p) 12 0 (no_unit tt) tt

pub a_width_asked_before_the_unit : PointsAnswer (table 264 0-0 0-0 0-0) 3 0 → ⊥
a_width_asked_before_the_unit p = overlooked (points_say p) 12 0 (no_unit tt) tt

pub points_in_any_unit : PointsAnswer (table 9 0-1 0-1 0-0) 0 0 → ⊥
points_in_any_unit p = overlooked (points_say p) 12 0 (no_unit tt) tt

pub points_in_the_finest_unit_refused : PointsAnswer (table 8 0-1 0-1 0-0) 12 0 → ⊥
points_in_the_finest_unit_refused p = unit_passes eighth 0 (so_it_holds (points_say p))

-- in C: the slopes asked about as well, which a build would make good
pub points_by_a_check : PointsAnswerC (table 8 0-1 0-1 (pos 1025 ∷ pos 256 ∷ [])) 5 0 → ⊥
points_by_a_check p = omega (arith, (one_given p (points_accepted eighth (points_by_test 0-1 0-1 refl (count tt tt) tt) refl)).0)

-- ---- `check`: the slopes too

pub the_last_bend_passed_over : Checks (table 8 0-1-2 0-1-2 (pos 256 ∷ pos 256 ∷ pos 1025 ∷ [])) 0 0 → ⊥
the_last_bend_passed_over p = overlooked (checks_say p) 5 1 (not_monotone (lit< tt) (against_its_rise 1 3 tt tt tt tt)) tt

pub a_piece_by_its_left_slope : Checks (table 8 0-1 0-1 (pos 256 ∷ pos 2000 ∷ [])) 0 0 → ⊥
a_piece_by_its_left_slope p = overlooked (checks_say p) 5 0 (not_monotone (lit< tt) (against_its_rise 1 3 tt tt tt tt)) tt

pub a_piece_by_the_slopes_of_the_first : Checks (table 8 0-1-2 0-1-2 (pos 256 ∷ pos 256 ∷ pos 2000 ∷ [])) 0 0 → ⊥
a_piece_by_the_slopes_of_the_first p = overlooked (checks_say p) 5 1 (not_monotone (lit< tt) (against_its_rise 1 3 tt tt tt tt)) tt

pub a_rise_behind_a_bend_not_asked : Checks (table 8 0-1-2 (pos 0 ∷ pos 1 ∷ pos 1048578 ∷ []) (pos 1025 ∷ pos 256 ∷ pos 0 ∷ [])) 5 0 → ⊥
a_rise_behind_a_bend_not_asked p = overlooked (checks_say p) 4 1 (too_high tt tt) tt

-- the piece of width 1 and rise 1 with slopes 256 and 256
a_straight_rise : Monotone (unit 8) (pos 1) (pos 1) (pos 256) (pos 256)
a_straight_rise = below_the_line tt tt tt tt

pub every_table_refused_by_5 : Checks (table 8 0-1 0-1 (pos 256 ∷ pos 256 ∷ [])) 5 0 → ⊥
every_table_refused_by_5 p = no_bend a_straight_rise (so_it_holds (checks_say p))

pub a_bend_refused_by_4 : Checks (table 8 0-1 0-1 (pos 1025 ∷ pos 256 ∷ [])) 4 0 → ⊥
a_bend_refused_by_4 p = no_bad_rise (within tt tt) (so_it_holds (checks_say p))

-- in whole slopes: 4 and 0 taken, as in 1/256; 1 and 1 refused
pub a_check_in_256ths : Checks (table 0 0-1 0-1 (pos 4 ∷ pos 0 ∷ [])) 0 0 → ⊥
a_check_in_256ths p = overlooked (checks_say p) 5 0 (not_monotone (lit< tt) (against_its_rise 4 5 tt tt tt tt)) tt

pub a_whole_slope_refused : Checks (table 0 0-1 0-1 (pos 1 ∷ pos 1 ∷ [])) 5 0 → ⊥
a_whole_slope_refused p = no_bend {t = table 0 0-1 0-1 (pos 1 ∷ pos 1 ∷ [])} (below_the_line tt tt tt tt) (so_it_holds (checks_say p))

pub a_bend_asked_before_the_unit : Checks (table 9 0-1 0-1 (pos 1025 ∷ pos 256 ∷ [])) 5 0 → ⊥
a_bend_asked_before_the_unit p = overlooked (checks_say p) 12 0 (no_unit tt) tt

-- in C: the slopes not asked about
pub a_check_of_the_points : ChecksC (table 8 0-1 0-1 (pos 1025 ∷ pos 256 ∷ [])) 0 0 → ⊥
a_check_of_the_points p = overlooked p 5 0 (not_monotone (lit< tt) (against_its_rise 2 3 tt tt tt tt)) tt

-- ---- `changed_points`: the points as they would be after a change

-- the point with this number gets this knot and this value
abbrev to : (point : ℕ) (knot value : ℤ) → Change
to point knot value = record { point = point; knot = knot; value = value }

pub widths_asked_of_the_old_points : ChangedPoints (table 8 0-1-2-3 0-1-4-7 0-0-0-0) (to 1 (pos 2) (pos 1)) 0 0 → ⊥
widths_asked_of_the_old_points p = overlooked (changed_points_say p) 3 1 (of_points (too_narrow tt tt)) tt

-- the point asked before the unit
pub the_point_asked_before_the_unit : ChangedPoints (table 9 0-1-2-3 0-1-4-7 0-0-0-0) (to 4 (pos 4) (pos 9)) 7 0 → ⊥
the_point_asked_before_the_unit p = overlooked (changed_points_say p) 12 0 (of_points (no_unit tt)) tt

pub rises_asked_of_the_old_points : ChangedPoints (table 8 0-1-2 0-0-0 0-0-0) (to 1 (pos 1) (pos 1048577)) 0 0 → ⊥
rises_asked_of_the_old_points p = overlooked (changed_points_say p) 4 0 (of_points (too_high tt tt)) tt

-- so that each knot is 1, and each value 5
pub the_new_entry_at_every_place : ChangedPoints (table 8 0-1-2 0-0-0 0-0-0) (to 1 (pos 1) (pos 5)) 3 0 → ⊥
the_new_entry_at_every_place p = no_bad_width_then (within tt tt) (so_it_holds (changed_points_say p))

-- only as the left end of a piece, so that the last point's is never read
pub the_new_entry_only_at_the_left : ChangedPoints (table 8 0-1-2 0-0-0 0-0-0) (to 2 (pos 1) (pos 0)) 0 0 → ⊥
the_new_entry_only_at_the_left p = overlooked (changed_points_say p) 3 1 (of_points (too_narrow tt tt)) tt

pub the_new_knot_for_the_new_value : ChangedPoints (table 8 0-1 0-0 0-0) (to 1 (pos 1) (pos 2000000)) 0 0 → ⊥
the_new_knot_for_the_new_value p = overlooked (changed_points_say p) 4 0 (of_points (too_high tt tt)) tt

pub every_change_refused_by_7 : ChangedPoints (table 8 0-1 0-1 0-0) (to 0 (pos 0) (pos 1)) 7 0 → ⊥
every_change_refused_by_7 p = the_point_is_there (lit< tt) (so_it_holds (changed_points_say p))

pub a_point_behind_the_last : ChangedPoints (table 8 0-1 0-1 0-0) (to 2 (pos 2) (pos 2)) 0 0 → ⊥
a_point_behind_the_last p = overlooked (changed_points_say p) 7 0 (no_such_point (λ l. omega (arith, l))) tt

-- the left piece's rise, and not the right one's width
pub the_first_faulty_piece_of_a_change_decides : ChangedPoints (table 8 0-1-2 0-0-0 0-0-0) (to 1 (pos 2) (pos 1048577)) 4 0 → ⊥
the_first_faulty_piece_of_a_change_decides p = overlooked (changed_points_say p) 3 1 (of_points (too_narrow tt tt)) tt

pub a_changed_width_refused_by_4 : ChangedPoints (table 8 0-1-2 0-0-0 0-0-0) (to 1 (pos 2) (pos 0)) 4 1 → ⊥
a_changed_width_refused_by_4 p = overlooked (changed_points_say p) 3 1 (of_points (too_narrow tt tt)) tt

pub no_point_refused_by_6 : ChangedPoints (table 8 0-1 0-1 0-0) (to 2 (pos 2) (pos 2)) 6 0 → ⊥
no_point_refused_by_6 p = overlooked (changed_points_say p) 7 0 (no_such_point (λ l. omega (arith, l))) tt

-- in C: the points asked about as they are
pub a_change_not_asked : ChangedPointsC (table 8 0-1 0-1 0-0) (to 7 (pos 0) (pos 5)) 0 0 → ⊥
a_change_not_asked p = overlooked p 7 0 (no_such_point (λ l. omega (arith, l))) tt

-- ---- `step`: from an entry to the next

abbrev pub StepsNot : (xs : List ℤ) (i : ℕ) (by : ℤ) → Type 0
StepsNot xs i by = AskedStep xs i × (Steps xs i by → ⊥)

pub no_step : StepsNot 0-1 0 (pos 0)
no_step = (lit< tt, λ e. numbers_differ tt e)

pub a_step_over_two_pieces : StepsNot (pos 0 ∷ pos 1 ∷ pos 3 ∷ []) 0 (pos 3)
a_step_over_two_pieces = (lit< tt, λ e. numbers_differ tt e)

pub a_step_backwards : StepsNot 0-1 0 (negsuc 0)
a_step_backwards = (lit< tt, λ e. numbers_differ tt e)

pub a_step_that_wraps : StepsNot (pos 2147483647 ∷ negsuc 2147483647 ∷ []) 0 (pos 1)
a_step_that_wraps = (lit< tt, λ e. numbers_differ tt e)

-- ---- `build`

pub the_first_slope_left_as_it_was : Builds (table 8 0-1 0-1 0-0) 0 0 (pos 0 ∷ pos 256 ∷ []) → ⊥
the_first_slope_left_as_it_was p = lists_differ tt (builds_say p).slopes

pub the_last_slope_left_as_it_was : Builds (table 8 0-1 0-1 0-0) 0 0 (pos 256 ∷ pos 0 ∷ []) → ⊥
the_last_slope_left_as_it_was p = lists_differ tt (builds_say p).slopes

pub the_last_inner_slope_left_as_it_was : Builds (table 8 0-1-2-3 0-1-4-7 0-0-0-0) 0 0 (pos 0 ∷ pos 384 ∷ pos 0 ∷ pos 768 ∷ []) → ⊥
the_last_inner_slope_left_as_it_was p = lists_differ tt (builds_say p).slopes

pub the_first_slope_everywhere : Builds (table 8 0-1-2 0-1-4 (pos 1 ∷ pos 1 ∷ pos 1 ∷ [])) 0 0 0-0-0 → ⊥
the_first_slope_everywhere p = lists_differ tt (builds_say p).slopes

-- 1024 at the first point, and not 0
pub the_second_piece_for_the_first : Builds (table 8 0-1-2 0-1-4 0-0-0) 0 0 (pos 1024 ∷ pos 384 ∷ pos 1024 ∷ []) → ⊥
the_second_piece_for_the_first p = lists_differ tt (builds_say p).slopes

-- with a level piece behind it, where there is none: 0, and not 256
pub the_last_point_taken_for_an_inner_one : Builds (table 8 0-1 0-1 (pos 5 ∷ pos 6 ∷ [])) 0 0 (pos 256 ∷ pos 0 ∷ []) → ⊥
the_last_point_taken_for_an_inner_one p = lists_differ tt (builds_say p).slopes

-- the first piece for the left one of every inner point
pub the_left_piece_not_carried_along : Builds (table 8 0-1-2-3 0-1-4-7 0-0-0-0) 0 0 (pos 0 ∷ pos 384 ∷ pos 384 ∷ pos 768 ∷ []) → ⊥
the_left_piece_not_carried_along p = lists_differ tt (builds_say p).slopes

-- 256 in the middle, and not 384
pub a_mean_of_two_units : Builds (table 8 0-1-2 0-1-4 0-0-0) 0 0 (pos 0 ∷ pos 256 ∷ pos 1024 ∷ []) → ⊥
a_mean_of_two_units p = lists_differ tt (builds_say p).slopes

-- 164 in the middle, and not 177
pub weights_swapped : Builds (table 8 (pos 0 ∷ pos 1 ∷ pos 3 ∷ []) 0-1-2 0-0-0) 0 0 (pos 298 ∷ pos 164 ∷ pos 42 ∷ []) → ⊥
weights_swapped p = lists_differ tt (builds_say p).slopes

-- −256 in the middle, and not −177
pub falls_by_one_width : Builds (table 8 (pos 0 ∷ pos 1 ∷ pos 3 ∷ []) (pos 0 ∷ negsuc 0 ∷ negsuc 1 ∷ []) 0-0-0) 0 0 (negsuc 297 ∷ negsuc 255 ∷ negsuc 41 ∷ []) → ⊥
falls_by_one_width p = lists_differ tt (builds_say p).slopes

-- at the ends, where (0,0), (1,1), (2,4) have 0, 384, 1024: the end piece's own slope
pub the_secant_at_the_ends : Builds (table 8 0-1-2 0-1-4 0-0-0) 0 0 (pos 256 ∷ pos 384 ∷ pos 768 ∷ []) → ⊥
the_secant_at_the_ends p = lists_differ tt (builds_say p).slopes

-- (0,0), (1,1), (2,−3) have 768, 0, −1664: no bound, and no slope where the rises are opposed
pub the_bound_not_taken : Builds (table 8 0-1-2 (pos 0 ∷ pos 1 ∷ negsuc 2 ∷ []) 0-0-0) 0 0 (pos 896 ∷ pos 0 ∷ negsuc 1663 ∷ []) → ⊥
the_bound_not_taken p = lists_differ tt (builds_say p).slopes

pub no_slope_at_an_end_that_turns : Builds (table 8 0-1-2 (pos 0 ∷ pos 1 ∷ negsuc 2 ∷ []) 0-0-0) 0 0 0-0-0 → ⊥
no_slope_at_an_end_that_turns p = lists_differ tt (builds_say p).slopes

-- (0,0), (3,1), (4,−9) have 256, 0, −3221: three times 85; and (0,0), (2,1), (3,−9) have 384, 0, −3456: once 256
pub the_bound_of_three_rounded_secants : Builds (table 8 (pos 0 ∷ pos 3 ∷ pos 4 ∷ []) (pos 0 ∷ pos 1 ∷ negsuc 8 ∷ []) 0-0-0) 0 0 (pos 255 ∷ pos 0 ∷ negsuc 3220 ∷ []) → ⊥
the_bound_of_three_rounded_secants p = lists_differ tt (builds_say p).slopes

pub the_bound_rounded_before_the_unit : Builds (table 8 (pos 0 ∷ pos 2 ∷ pos 3 ∷ []) (pos 0 ∷ pos 1 ∷ negsuc 8 ∷ []) 0-0-0) 0 0 (pos 256 ∷ pos 0 ∷ negsuc 3455 ∷ []) → ⊥
the_bound_rounded_before_the_unit p = lists_differ tt (builds_say p).slopes

-- (0,0), (1,−1), (3,−2) have −298, −177, −42: rounded down, and with the widths of the last end swapped
pub the_ends_rounded_down : Builds (table 8 (pos 0 ∷ pos 1 ∷ pos 3 ∷ []) (pos 0 ∷ negsuc 0 ∷ negsuc 1 ∷ []) 0-0-0) 0 0 (negsuc 298 ∷ negsuc 176 ∷ negsuc 42 ∷ []) → ⊥
the_ends_rounded_down p = lists_differ tt (builds_say p).slopes

pub the_last_end_with_swapped_widths : Builds (table 8 (pos 0 ∷ pos 1 ∷ pos 3 ∷ []) (pos 0 ∷ negsuc 0 ∷ negsuc 1 ∷ []) 0-0-0) 0 0 (negsuc 297 ∷ negsuc 176 ∷ negsuc 297 ∷ []) → ⊥
the_last_end_with_swapped_widths p = lists_differ tt (builds_say p).slopes

-- in other units: 768 for three units in the mean, in the bound and 256 in the secant; slopes built in 1/256 and cut to the unit by rounding down
pub a_mean_with_768 : Builds (table 0 0-1-2 0-1-4 0-0-0) 0 0 (pos 0 ∷ pos 384 ∷ pos 4 ∷ []) → ⊥
a_mean_with_768 p = lists_differ tt (builds_say p).slopes

pub a_bound_of_768 : Builds (table 0 0-1-2 (pos 0 ∷ pos 1 ∷ negsuc 2 ∷ []) 0-0-0) 0 0 (pos 768 ∷ pos 0 ∷ negsuc 5 ∷ []) → ⊥
a_bound_of_768 p = lists_differ tt (builds_say p).slopes

pub a_secant_in_256ths : Builds (table 3 (pos 0 ∷ pos 3 ∷ []) (pos 0 ∷ negsuc 9 ∷ []) 0-0) 0 0 (negsuc 852 ∷ negsuc 852 ∷ []) → ⊥
a_secant_in_256ths p = lists_differ tt (builds_say p).slopes

pub slopes_rounded_down_to_the_unit : Builds (table 3 (pos 0 ∷ pos 3 ∷ []) (pos 0 ∷ negsuc 9 ∷ []) 0-0) 0 0 (negsuc 26 ∷ negsuc 26 ∷ []) → ⊥
slopes_rounded_down_to_the_unit p = lists_differ tt (builds_say p).slopes

-- a build in no unit, done or written though it is refused
pub a_build_in_any_unit : {after : List ℤ} → Builds (table 9 0-1 0-1 0-0) 0 0 after → ⊥
a_build_in_any_unit p = overlooked (builds_say p).refusal 12 0 (no_unit tt) tt

pub written_in_no_unit : Builds (table 9 0-1 0-1 0-0) 12 0 (pos 256 ∷ pos 256 ∷ []) → ⊥
written_in_no_unit p = lists_differ tt (builds_say p).slopes

-- in C: knots 0 and 1 with values 5 and 5 refused, as they would be the other way round
pub values_for_knots : BuildsC (table 8 0-1 (pos 5 ∷ pos 5 ∷ []) 0-0) 3 0 0-0 → ⊥
values_for_knots p = no_bad_width (within tt tt) (so_it_holds p.refusal)

-- ---- `renew`: the slopes of a range

-- in the table's unit
abbrev pub RenewsNot : (t : Table) (from to : ℕ) (after : List ℤ) → Type 0
RenewsNot t from to after = (a : AskedRenewal t (unit t.s) from to) × (RenewsTo t (unit t.s) from to a after → ⊥)

pub no_slope_renewed : RenewsNot (table 8 0-1 0-1 0-0) 0 2 0-0
no_slope_renewed = ((within tt tt, points_by_test 0-1 0-1 refl (count tt tt) tt, (refl, (lit≤ tt, lit≤ tt))), λ e. lists_differ tt e)

pub the_first_slope_renewed_everywhere : RenewsNot (table 8 0-1-2 0-1-4 (pos 1 ∷ pos 1 ∷ pos 1 ∷ [])) 0 3 0-0-0
the_first_slope_renewed_everywhere = ((within tt tt, points_by_test 0-1-2 0-1-4 refl (count tt tt) tt, (refl, (lit≤ tt, lit≤ tt))), λ e. lists_differ tt e)

-- 256 for the unit that it is handed
pub renewed_in_256ths : RenewsNot (table 0 0-1 0-1 0-0) 0 2 (pos 256 ∷ pos 256 ∷ [])
renewed_in_256ths = ((within tt tt, points_by_test 0-1 0-1 refl (count tt tt) tt, (refl, (lit≤ tt, lit≤ tt))), λ e. lists_differ tt e)

-- ---- `locate`: a position's piece

-- a position outside asked before the unit
pub located_before_the_unit : Locates (table 9 0-1 0-1 (pos 256 ∷ pos 256 ∷ [])) (pos 2) 6 0 0 → ⊥
located_before_the_unit p = overlooked (locates_say p).refusal 12 0 (of_table (no_unit tt)) tt

-- the tables that a build leaves of the points (0,0), (1,1), (2,4) and of (0,0), (3,−10)
abbrev rise : Table
rise = table 8 0-1-2 0-1-4 (pos 0 ∷ pos 384 ∷ pos 1024 ∷ [])

abbrev fall : Table
fall = table 8 (pos 0 ∷ pos 3 ∷ []) (pos 0 ∷ negsuc 9 ∷ []) (negsuc 852 ∷ negsuc 852 ∷ [])

-- where nothing is refused, the piece that is answered is the one that the position belongs to
its_piece : {t : Table} {x : ℤ} {place i j : ℕ} → Located t x 0 place i → Belongs t.knots x j → i ≡ j
its_piece l b = one_piece (accepted_at refl l.refusal).limits (answer_right refl l.piece) b

pub an_inner_knot_given_to_the_piece_that_ends_there : Locates rise (pos 1) 0 0 0 → ⊥
an_inner_knot_given_to_the_piece_that_ends_there p = omega (arith, its_piece (locates_say p) (in_piece 1 tt tt tt))

pub a_search_that_ends_a_piece_too_soon : Locates rise (pos 2) 0 0 0 → ⊥
a_search_that_ends_a_piece_too_soon p = omega (arith, its_piece (locates_say p) (at_last_knot {i = 1} refl refl))

-- as a search among the points has it, and not among the pieces
pub the_last_knot_given_to_a_piece_that_is_not_there : Locates rise (pos 2) 0 0 2 → ⊥
the_last_knot_given_to_a_piece_that_is_not_there p = omega (arith, its_piece (locates_say p) (at_last_knot {i = 1} refl refl))

pub the_first_knot_refused : Locates fall (pos 0) 6 0 0 → ⊥
the_first_knot_refused p = not_outside (within tt tt) (so_it_holds (locates_say p).refusal)

pub the_last_knot_refused : Locates fall (pos 3) 6 0 0 → ⊥
the_last_knot_refused p = not_outside (within tt tt) (so_it_holds (locates_say p).refusal)

pub every_position_refused : Locates fall (pos 1) 6 0 0 → ⊥
every_position_refused p = not_outside (within tt tt) (so_it_holds (locates_say p).refusal)

-- in C: knots and values handed on in the other order
pub located_among_the_values : LocatesC (table 8 0-2 (pos 5 ∷ pos 9 ∷ []) 0-0) (pos 1) 6 0 0 → ⊥
located_among_the_values p = not_outside (within tt tt) (so_it_holds p.refusal)

-- in C: a piece beside a refusal, by 2 and for its unit
pub a_piece_where_refused_in-C : {x : ℤ} → LocatesC (table 8 [] [] []) x 2 0 1 → ⊥
a_piece_where_refused_in-C p = omega (arith, answers_nothing p.piece)

pub a_piece_in_no_unit_in-C : LocatesC (table 9 0-1-2 0-1-4 0-0-0) (pos 1) 12 0 1 → ⊥
a_piece_in_no_unit_in-C p = omega (arith, answers_nothing p.piece)

-- ---- `seek`: the numbers of a position in its piece

abbrev pub SeeksNot : (t : Table) (x : ℤ) → Option Spot → Type 0
SeeksNot t x s = (a : AskedSeek t x) × (Seeks t x a s → ⊥)

-- 2 counts into the piece, from its left value 0, and not 1, from its left knot 1
pub a_place_counted_from_the_left_value : SeeksNot (table 8 (pos 1 ∷ pos 4 ∷ []) (pos 0 ∷ negsuc 9 ∷ []) (negsuc 852 ∷ negsuc 852 ∷ [])) (pos 2) (Some (record { piece = 0; left = pos 0; h = pos 3; z = negsuc 9; m = negsuc 852; n = negsuc 852; t = pos 2 }))
a_place_counted_from_the_left_value = ((points_by_test _ _ refl (count tt tt) tt, refl), λ s. numbers_differ tt (sought_on s).1.t_is)

pub the_left_slope_twice : SeeksNot rise (pos 0) (Some (record { piece = 0; left = pos 0; h = pos 1; z = pos 1; m = pos 0; n = pos 0; t = pos 0 }))
the_left_slope_twice = ((points_by_test _ _ refl (count tt tt) tt, refl), λ s. numbers_differ tt (sought_on s).1.n_is)

-- the last knot is in no piece, as one that ends there would have it
pub the_last_knot_sought_outside : SeeksNot fall (pos 3) None
the_last_knot_sought_outside = ((points_by_test _ _ refl (count tt tt) tt, refl), λ s. sought_outside s (within tt tt))

-- the place of a position in a piece that it does not belong to
pub a_spot_in_the_piece_that_ends_there : SeeksNot rise (pos 1) (Some (record { piece = 0; left = pos 0; h = pos 1; z = pos 1; m = pos 0; n = pos 384; t = pos 1 }))
a_spot_in_the_piece_that_ends_there =
    let p = points_by_test 0-1-2 0-1-4 refl (count tt tt) tt in
    ((p, refl), λ s. omega (arith, one_piece p (sought_on s).1.belongs (in_piece 1 tt tt tt)))

-- whatever stands behind the end of the lists
pub a_spot_in_a_piece_that_is_not_there : {left h z m n t : ℤ} → SeeksNot rise (pos 2) (Some (record { piece = 2; left = left; h = h; z = z; m = m; n = n; t = t }))
a_spot_in_a_piece_that_is_not_there =
    let p = points_by_test 0-1-2 0-1-4 refl (count tt tt) tt in
    ((p, refl), λ s. omega (arith, one_piece p (sought_on s).1.belongs (at_last_knot {i = 1} refl refl)))

-- ---- `evaluate`: the value at a position

-- where nothing is refused, the value that is answered is the one on the piece that the position belongs to
its_value : {t : Table} {x v : ℤ} {place i : ℕ} → Evaluated t x 0 place v → Belongs t.knots x i → v ≡ value_on t i x
its_value {t} {x} e b =
    let v = answer_right refl e.value in v.is ∙ ap (λ (i : ℕ). value_on t i x) (one_piece (accepted_at refl e.refusal).limits v.belongs b)

-- 2Z for 3Z in the square's coefficient: 2, and not 4; and 3Z for 2Z in the cube's: 3
pub another_square : Evaluates (table 8 0-2 (pos 0 ∷ pos 8 ∷ []) (pos 1024 ∷ pos 1024 ∷ [])) (pos 1) 0 0 (pos 2) → ⊥
another_square p = numbers_differ tt (its_value (evaluates_say p) (in_piece 0 tt tt tt))

pub another_cube : Evaluates (table 8 0-2 (pos 0 ∷ pos 8 ∷ []) (pos 1024 ∷ pos 1024 ∷ [])) (pos 1) 0 0 (pos 3) → ⊥
another_cube p = numbers_differ tt (its_value (evaluates_say p) (in_piece 0 tt tt tt))

-- 256·3·h² below: 1, and not 2
pub another_denominator : Evaluates (table 8 0-2 (pos 0 ∷ pos 4 ∷ []) (pos 512 ∷ pos 512 ∷ [])) (pos 1) 0 0 (pos 1) → ⊥
another_denominator p = numbers_differ tt (its_value (evaluates_say p) (in_piece 0 tt tt tt))

-- t for h in one of Horner's steps: 0, and not 2
pub another_step_of_the_value : Evaluates (table 8 (pos 0 ∷ pos 3 ∷ []) (pos 0 ∷ pos 8 ∷ []) 0-0) (pos 1) 0 0 (pos 0) → ⊥
another_step_of_the_value p = numbers_differ tt (its_value (evaluates_say p) (in_piece 0 tt tt tt))

-- the place counted from the left value: −7, and not −3
pub a_value_at_another_place : Evaluates (table 8 (pos 1 ∷ pos 4 ∷ []) (pos 0 ∷ negsuc 9 ∷ []) (negsuc 852 ∷ negsuc 852 ∷ [])) (pos 2) 0 0 (negsuc 6) → ⊥
a_value_at_another_place p = numbers_differ tt (its_value (evaluates_say p) (in_piece 0 tt tt tt))

-- 2, and not 1, which is a half gone up
pub a_value_with_the_left_slope_twice : Evaluates (table 8 0-2 (pos 0 ∷ pos 4 ∷ []) (pos 0 ∷ pos 1536 ∷ [])) (pos 1) 0 0 (pos 2) → ⊥
a_value_with_the_left_slope_twice p = numbers_differ tt (its_value (evaluates_say p) (in_piece 0 tt tt tt))

-- 256·h³ below the line of whole slopes: 0 in the middle of (0,0), (2,2), and not 1
pub a_value_over_256ths : Evaluates (table 0 0-2 0-2 (pos 1 ∷ pos 1 ∷ [])) (pos 1) 0 0 (pos 0) → ⊥
a_value_over_256ths p = numbers_differ tt (its_value (evaluates_say p) (in_piece 0 tt tt tt))

-- a value in no unit, and beside its refusal
pub a_value_in_any_unit : {v : ℤ} → Evaluates (table 9 0-1 0-1 (pos 256 ∷ pos 256 ∷ [])) (pos 0) 0 0 v → ⊥
a_value_in_any_unit p = overlooked (evaluates_say p).refusal 12 0 (of_table (no_unit tt)) tt

pub a_value_in_no_unit : Evaluates (table 9 0-1 0-1 (pos 256 ∷ pos 256 ∷ [])) (pos 1) 12 0 (pos 1) → ⊥
a_value_in_no_unit p = numbers_differ tt (answers_nothing (evaluates_say p).value)

pub a_value_where_refused : {x : ℤ} → Evaluates (table 8 [] [] []) x 2 0 (pos 1) → ⊥
a_value_where_refused p = numbers_differ tt (answers_nothing (evaluates_say p).value)

-- in C: slopes and values handed on in the other order, so that it bends
pub slopes_for_values : EvaluatesC (table 8 0-1 (pos 5 ∷ pos 6 ∷ []) (pos 256 ∷ pos 256 ∷ [])) (pos 0) 5 0 (pos 0) → ⊥
slopes_for_values p = no_bend_there a_straight_rise (so_it_holds p.refusal)

-- in C: a value beside a refusal, which the code has only there
pub a_value_in_no_unit_in-C : EvaluatesC (table 9 0-1 0-1 (pos 256 ∷ pos 256 ∷ [])) (pos 1) 12 0 (pos 1) → ⊥
a_value_in_no_unit_in-C p = numbers_differ tt (answers_nothing p.value)

pub a_value_where_refused_in-C : {x : ℤ} → EvaluatesC (table 8 [] [] []) x 2 0 (pos 1) → ⊥
a_value_where_refused_in-C p = numbers_differ tt (answers_nothing p.value)

-- ---- `point` of `change`: (0,0), (1,1), (2,4), (3,7) as a build leaves them

abbrev four : Table
four = table 8 0-1-2-3 0-1-4-7 (pos 0 ∷ pos 384 ∷ pos 768 ∷ pos 768 ∷ [])

-- point 0 gets the value −2, and point 1 the value 2
abbrev values_0 : List ℤ
values_0 = negsuc 1 ∷ pos 1 ∷ pos 4 ∷ pos 7 ∷ []

abbrev values_1 : List ℤ
values_1 = pos 0 ∷ pos 2 ∷ pos 4 ∷ pos 7 ∷ []

-- what is said of the three lists that a change leaves
changes_to : {t : Table} {c : Change} {number place : ℕ} {knots values slopes : List ℤ} → Changes t c number place (table t.s knots values slopes) → Changed c t (table t.s knots values slopes) number place
changes_to {t} {knots = knots} {values} {slopes} p = changes_say (table t.s knots values slopes) p

pub refused_though_made : Changes four (to 0 (pos 0) (negsuc 1)) 7 0 (table 8 0-1-2-3 values_0 (pos 768 ∷ pos 768 ∷ pos 768 ∷ pos 768 ∷ [])) → ⊥
refused_though_made p = the_point_is_there (lit< tt) (so_it_holds (changes_to p).refusal)

-- 512, 512, 614, 896 are right
pub the_left_neighbours_slope_only : Changes four (to 1 (pos 1) (pos 2)) 0 0 (table 8 0-1-2-3 values_1 (pos 512 ∷ pos 512 ∷ pos 768 ∷ pos 896 ∷ [])) → ⊥
the_left_neighbours_slope_only p = lists_differ tt (changes_to p).slopes

pub the_right_neighbours_slope_only : Changes four (to 1 (pos 1) (pos 2)) 0 0 (table 8 0-1-2-3 values_1 (pos 0 ∷ pos 512 ∷ pos 614 ∷ pos 896 ∷ [])) → ⊥
the_right_neighbours_slope_only p = lists_differ tt (changes_to p).slopes

-- the slope of an end that is two points away left as it was: the last one here, and slope 0 where point 2 becomes (2,2), for which 256, 256, 426, 1792 are right
pub the_last_slope_two_points_away_left : Changes four (to 1 (pos 1) (pos 2)) 0 0 (table 8 0-1-2-3 values_1 (pos 512 ∷ pos 512 ∷ pos 614 ∷ pos 768 ∷ [])) → ⊥
the_last_slope_two_points_away_left p = lists_differ tt (changes_to p).slopes

pub slope_0_two_points_away_left : Changes four (to 2 (pos 2) (pos 2)) 0 0 (table 8 0-1-2-3 (pos 0 ∷ pos 1 ∷ pos 2 ∷ pos 7 ∷ []) (pos 0 ∷ pos 256 ∷ pos 426 ∷ pos 1792 ∷ [])) → ⊥
slope_0_two_points_away_left p = lists_differ tt (changes_to p).slopes

-- of three points, (0,0), (1,0), (2,1) with 0, 0, 384, the first raised to (0,1): −512, 0, 512 are right
pub the_third_of_three_slopes_left : Changes (table 8 0-1-2 (pos 0 ∷ pos 0 ∷ pos 1 ∷ []) (pos 0 ∷ pos 0 ∷ pos 384 ∷ [])) (to 0 (pos 0) (pos 1)) 0 0 (table 8 0-1-2 (pos 1 ∷ pos 0 ∷ pos 1 ∷ []) (negsuc 511 ∷ pos 0 ∷ pos 384 ∷ [])) → ⊥
the_third_of_three_slopes_left p = lists_differ tt (changes_to p).slopes

-- whatever the slopes were: of 1, 2, 3, 4 the last two stay
pub one_slope_too_many : Changes (table 8 0-1-2-3 0-1-4-7 (pos 1 ∷ pos 2 ∷ pos 3 ∷ pos 4 ∷ [])) (to 0 (pos 0) (pos 0)) 0 0 (table 8 0-1-2-3 0-1-4-7 (pos 0 ∷ pos 384 ∷ pos 768 ∷ pos 4 ∷ [])) → ⊥
one_slope_too_many p = lists_differ tt (changes_to p).slopes

pub slopes_of_the_old_points : Changes four (to 0 (pos 0) (negsuc 1)) 0 0 (table 8 0-1-2-3 values_0 (pos 0 ∷ pos 384 ∷ pos 768 ∷ pos 768 ∷ [])) → ⊥
slopes_of_the_old_points p = lists_differ tt (changes_to p).slopes

-- slopes renewed in 1/256, in a table of whole slopes; and a change in no unit, made or refused and made
pub renewed_in_another_unit : Changes (table 0 0-1 0-1 (pos 1 ∷ pos 1 ∷ [])) (to 1 (pos 1) (pos 2)) 0 0 (table 0 0-1 0-2 (pos 512 ∷ pos 512 ∷ [])) → ⊥
renewed_in_another_unit p = lists_differ tt (changes_to p).slopes

pub a_change_in_any_unit : (after : Table) → Changes (table 9 0-1 0-1 (pos 256 ∷ pos 256 ∷ [])) (to 1 (pos 1) (pos 2)) 0 0 after → ⊥
a_change_in_any_unit after p = overlooked (changes_say after p).refusal 12 0 (of_points (no_unit tt)) tt

pub changed_in_no_unit : Changes (table 9 0-1 0-1 (pos 256 ∷ pos 256 ∷ [])) (to 1 (pos 1) (pos 2)) 12 0 (table 9 0-1 0-2 (pos 256 ∷ pos 256 ∷ [])) → ⊥
changed_in_no_unit p = lists_differ tt (changes_to p).values

-- whatever it leaves in the lists
pub a_change_onto_the_next_knot_made : (after : Table) → Changes four (to 1 (pos 2) (pos 1)) 0 0 after → ⊥
a_change_onto_the_next_knot_made after p = overlooked (changes_say after p).refusal 3 1 (of_points (too_narrow tt tt)) tt

pub a_change_to_too_large_a_rise_made : (after : Table) → Changes (table 8 0-1-2 0-0-0 0-0-0) (to 1 (pos 1) (pos 1048577)) 0 0 after → ⊥
a_change_to_too_large_a_rise_made after p = overlooked (changes_say after p).refusal 4 0 (of_points (too_high tt tt)) tt

pub idle_past_the_first_point : Changes four (to 1 (pos 1) (pos 2)) 0 0 four → ⊥
idle_past_the_first_point p = lists_differ tt (changes_to p).values

pub the_new_value_among_the_knots : {slopes : List ℤ} → Changes four (to 0 (pos 0) (negsuc 1)) 0 0 (table 8 (negsuc 1 ∷ pos 1 ∷ pos 2 ∷ pos 3 ∷ []) values_0 slopes) → ⊥
the_new_value_among_the_knots p = lists_differ tt (changes_to p).knots

pub the_new_value_forgotten : {slopes : List ℤ} → Changes four (to 0 (pos 0) (negsuc 1)) 0 0 (table 8 0-1-2-3 0-1-4-7 slopes) → ⊥
the_new_value_forgotten p = lists_differ tt (changes_to p).values

-- in C: the change asked for and never made
pub a_change_asked_only : ChangesC (table 8 0-1 0-1 (pos 256 ∷ pos 256 ∷ [])) (to 0 (pos 0) (pos 5)) 0 0 (table 8 0-1 0-1 (pos 256 ∷ pos 256 ∷ [])) → ⊥
a_change_asked_only p = lists_differ tt p.values
