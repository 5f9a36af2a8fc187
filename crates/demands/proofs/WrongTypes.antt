-- Wrong programs with causes, refusals, extents, good points and places found. Each theorem is named by one, and says that what it would answer does not meet the contract: of
-- `Cause::number`, `Refused::by` and `Extent::mirrored` of `rules`, of `GoodPoints::piece` of `table`, or of `find` and `Inside::extent` of `position`. An extent and a place carry
-- proofs of what is known of them, and a wrong one is refuted whichever proofs it carries. `ByContract.antt` says what `GoodPoints::piece` and `find` may answer.
use Rattle.std.specs.Prelude.{refl, ℕ, ℤ, pos, negsuc, ◌+ℤ◌, Ok, Err}
use Rattle.std.proofs.Common.{ap, arith, lit<, SFits}
use Rattle.std.specs.Int.{w32}
use Rattle.rules.specs.declared.Cause.{Cause}
use Rattle.rules.specs.declared.Cause.TheVariants.{SlopeUnit, Lengths, Point, Width, Position}
use Rattle.rules.specs.declared.Refused.{Refused}
use Rattle.rules.specs.declared.limits.Extent.{Extent}
use Rattle.rules.specs.Causes.{number_of, at_place_0}
use Rattle.rules.specs.Known.{UnitSize}
use Rattle.rules.specs.Limits.{WidthWithin, RiseWithin}
use Rattle.rules.specs.Numbered.{never_0}
use Rattle.rules.specs.Order.{one_given}
use Rattle.rules.specs.Refusals.{Given}
use Rattle.table.specs.Table.{table, Holds, check_order}
use Rattle.slopes.specs.EveryPiece.{a_built_table_passes_the_table_check}
use Rattle.position.specs.declared.Spot.{Spot}
use Rattle.position.specs.declared.inside.Inside.{Inside}
use Rattle.position.specs.InPiece.{InPiece}
use Rattle.position.specs.Pieces.{one_piece}
use Rattle.position.specs.Position.{of_table, position_outside}
use Rattle.position.specs.Refused.{none_refused}
use Rattle.demands.specs.ByContract.{AskedPiece, PieceIs, Finds}
use Rattle.demands.specs.Refuting.{within, overlooked, no_unit, below_the_line, in_piece, numbers_differ}
use Rattle.demands.proofs.SixteenGiven.{eighth, has_slopes}
use Rattle.demands.proofs.Programs.{three, three_within}
use Rattle.rules.proofs.Cause.number.Reads as rules-Cause-number
use Rattle.rules.proofs.Refused.by.Reads as rules-Refused-by
use Rattle.rules.proofs.limits.Extent.mirrored.Reads as rules-Extent-mirrored
use Rattle.position.proofs.inside.Inside.extent.Reads as position-Inside-extent

-- an extent, with what is known of it
abbrev extent : (h z : ℤ) → WidthWithin h → RiseWithin z → Extent
extent h z w r = record { h = h; z = z; width = w; rise = r }

-- ---- rules::Cause::number

abbrev number_is : Cause → ℕ → Type 0
number_is cause n = rules-Cause-number.Post tt (cause, tt) n (cause, tt)

-- a width is refused by 3; 4 is a rise
pub the_number_of_a_rise_for_a_width : number_is Width 4 → ⊥
the_number_of_a_rise_for_a_width p = omega (arith, p)

-- lists of unlike lengths are refused by 1, and not by 0, which says that nothing is refused
pub a_cause_numbered_from_0 : number_is Lengths 0 → ⊥
a_cause_numbered_from_0 p = omega (arith, p)

-- a slope unit is refused by 12, and not by 9, which comes behind the eight other causes
pub the_unit_numbered_behind_the_others : number_is SlopeUnit 9 → ⊥
the_unit_numbered_behind_the_others p = omega (arith, p)

-- ---- rules::Refused::by

abbrev refused_by : Cause → Refused → Type 0
refused_by cause r = rules-Refused-by.Post tt (cause, tt) r (cause, tt)

-- a position is refused at place 0, and not at place 1
pub a_refusal_at_place_1 : refused_by Position (record { cause = Position; place = 1 }) → ⊥
a_refusal_at_place_1 p = omega (arith, ap (λ (r : Refused). r.place) p)

-- it is refused by its own cause, and not by that of a point
pub a_refusal_by_another_cause : refused_by Position (at_place_0 Point) → ⊥
a_refusal_by_another_cause p = omega (arith, ap (λ (r : Refused). number_of r.cause) p)

-- ---- rules::Extent::mirrored

-- what the piece of width 3 that falls by 10 is not, turned over
abbrev fall : Extent
fall = extent (pos 3) (negsuc 9) (within tt tt) (within tt tt)

abbrev pub MirrorIsNot : (h z : ℤ) → Type 0
MirrorIsNot h z = (w : WidthWithin h) (r : RiseWithin z) → rules-Extent-mirrored.Post tt (fall, tt) (extent h z w r) (fall, tt) → ⊥

-- it rises by 10, and does not fall again
pub a_mirror_that_keeps_the_rise : MirrorIsNot (pos 3) (negsuc 9)
a_mirror_that_keeps_the_rise w r p = numbers_differ tt p.1

-- its width stays 3, and is not 4
pub a_mirror_that_widens_the_piece : MirrorIsNot (pos 4) (pos 10)
a_mirror_that_widens_the_piece w r p = numbers_differ tt p.0

-- 3 is its width and 10 its rise, and not the other way round
pub a_mirror_across_the_diagonal : MirrorIsNot (pos 10) (pos 3)
a_mirror_across_the_diagonal w r p = numbers_differ tt p.0

-- ---- table::GoodPoints::piece

-- of the points (0,0), (1,1), (2,4), where piece 0 rises by 1 and piece 1 by 3, each over a width of 1
abbrev pub PieceIsNot : (i : ℕ) (h z : ℤ) → Type 0
PieceIsNot i h z = (a : AskedPiece three.knots three.values i) × ((w : WidthWithin h) (r : RiseWithin z) → PieceIs three.knots three.values i a (extent h z w r) → ⊥)

-- piece 0 rises by 1, and not by 3, as piece 1 does
pub the_next_piece : PieceIsNot 0 (pos 1) (pos 3)
the_next_piece = ((three_within, lit< tt), λ w r p. numbers_differ tt p.1)

-- piece 1 rises by 3, and not by 1, which is its width
pub the_width_for_the_rise : PieceIsNot 1 (pos 1) (pos 1)
the_width_for_the_rise = ((three_within, lit< tt), λ w r p. numbers_differ tt p.1)

-- piece 1 has a width of 1, and not of 2, which is counted from the first point
pub a_piece_from_the_first_point : PieceIsNot 1 (pos 2) (pos 4)
a_piece_from_the_first_point = ((three_within, lit< tt), λ w r p. numbers_differ tt p.0)

-- ---- position::find

-- (0,0), (1,1), (2,4) with the slopes that a build leaves, which are good
three_passes : Given (Holds three) check_order 0 0
three_passes = a_built_table_passes_the_table_check (has_slopes {before = three.slopes} eighth three_within refl refl)

-- what is not found at position 1 of it, which belongs to piece 1: a place in slopes of 1/U, whatever is known of it
abbrev pub IsNotAt_1 : (U : ℤ) → Spot → Type 0
IsNotAt_1 U s = (u : UnitSize U) (p : InPiece U s.h s.z s.m s.n s.t) (f : SFits w32 (s.left +ℤ s.z)) → Finds three (pos 1) (Ok (record { unit = record { size = U; within = u }; spot = s; in_piece = p; right_fits = f })) → ⊥

-- a table in no unit is refused, wherever the position lies
pub a_place_found_in_a_refused_table : (at : Inside) → Finds (table 9 three.knots three.values three.slopes) (pos 1) (Ok at) → ⊥
a_place_found_in_a_refused_table at p = overlooked p.refusal 12 0 (of_table (no_unit tt)) tt

-- a position behind the last knot is refused
pub a_position_outside_the_knots_found : (at : Inside) → Finds three (pos 3) (Ok at) → ⊥
a_position_outside_the_knots_found at p = overlooked p.refusal 6 0 (position_outside (λ w. w.high.le)) tt

-- the end of piece 0 is the start of piece 1, to which it belongs
pub a_spot_of_another_piece : IsNotAt_1 (pos 256) (record { piece = 0; left = pos 0; h = pos 1; z = pos 1; m = pos 0; n = pos 384; t = pos 1 })
a_spot_of_another_piece u w f p = omega (arith, one_piece three_within p.inside.spot.belongs (in_piece 1 tt tt tt))

-- the unit of s = 8 is 256, and not 128
pub a_unit_halved : IsNotAt_1 (pos 128) (record { piece = 1; left = pos 1; h = pos 1; z = pos 3; m = pos 384; n = pos 1024; t = pos 0 })
a_unit_halved u w f p = numbers_differ tt p.inside.unit_is

-- nothing refuses the table, nor the position in it, by whatever cause and place
pub a_good_table_refused : (r : Refused) → Finds three (pos 1) (Err r) → ⊥
a_good_table_refused r p = never_0 r.cause (one_given p.refusal (none_refused three_passes refl (within tt tt))).0

-- ---- position::Inside::extent

-- one count into a piece that rises by 4 over a width of 2, from 5 up to 9
abbrev pub a_place : Inside
a_place =
    record {
      unit = record { size = pos 256; within = within tt tt };
      spot = record { piece = 0; left = pos 5; h = pos 2; z = pos 4; m = pos 512; n = pos 512; t = pos 1 };
      in_piece = record { unit = within tt tt; width = within tt tt; rise = within tt tt; monotone = below_the_line tt tt tt tt; place = within tt tt };
      right_fits = record { sfits = lit< tt };
    }

abbrev pub ItsExtentIsNot : (h z : ℤ) → Type 0
ItsExtentIsNot h z = (w : WidthWithin h) (r : RiseWithin z) → position-Inside-extent.Post tt (a_place, tt) (extent h z w r) (a_place, tt) → ⊥

-- 2 is its width and 4 its rise, and not the other way round
pub an_extent_with_its_width_and_rise_exchanged : ItsExtentIsNot (pos 4) (pos 2)
an_extent_with_its_width_and_rise_exchanged w r p = numbers_differ tt p.0

-- its width is 2, and not 1, which is how far in the position lies
pub an_extent_up_to_the_position : ItsExtentIsNot (pos 1) (pos 4)
an_extent_up_to_the_position w r p = numbers_differ tt p.0

-- its rise is 4, and not 9, which is its right value
pub its_right_value_for_its_rise : ItsExtentIsNot (pos 2) (pos 9)
its_right_value_for_its_rise w r p = numbers_differ tt p.1
