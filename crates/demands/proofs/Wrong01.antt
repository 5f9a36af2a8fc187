-- Wrong programs that break what document 01 says of answers beside the demands, each ours but for what is said of it.
use Rattle.std.specs.Prelude.{◌≡◌, refl, Bool, true, false, [], ◌∷◌, ℕ, ◌^◌, ℤ, pos}
use Rattle.std.proofs.Common.{subst, arith, lit≤}
use Rattle.std.specs.Float.{fin, binary64}
use Rattle.std.specs.Float.Ieee.{of_int}
use Rattle.integers.specs.Within.{Within}
use Rattle.floats.specs.Promise.{Exactly}
use Rattle.floats.proofs.Exactly.{cast_exactly}
use Rattle.rules.specs.Refusals.{Given}
use Rattle.rules.specs.Order.{went_on}
use Rattle.table.specs.Table.{Table, table}
use Rattle.table.specs.Accepted.{PointsWithin}
use Rattle.table.specs.Tested.{points_by_test}
use Rattle.piece.specs.Promise.{Finding, rising, falling, flat, bends}
use Rattle.position.specs.Position.{Belongs, inside, at_last_knot, HoldsAt, evaluation_order}
use Rattle.position.specs.Pieces.{one_piece}
use Rattle.position.specs.Refused.{accepted_at}
use Rattle.drive.specs.Drive.{Telling, dwell, move, ToldAt, ToldOn, dwells, moves, HoldsFor, float_order}
use Rattle.drive.specs.Refused.{as_evaluated, taken_small}
use Rattle.demands.specs.Demands.{judge, locate, evaluate, float_answer, Document01}
use Rattle.demands.proofs.Programs.{outcome, answering, another_judge, another_locate, another_evaluate, another_float_answer, two, two_within, at_1}
use Rattle.demands.proofs.SixteenGiven.{count}
use Rattle.demands.specs.Refuting.{within, below_the_line, in_piece, numbers_differ, apart}
use Rattle.demands.proofs.WrongDrives.{one_number}
use Rattle.demands.proofs.WrongUnits.{whole, proposed}

-- "none of the four verdicts": a refused piece is called rising
abbrev is_rising : Finding → Bool
is_rising rising = true
is_rising falling = false
is_rising flat = false
is_rising bends = false
is_rising Finding.none = false

pub a_refused_piece_called_rising : Document01 (answering (another_judge (λ s h z m n o. o ≡ outcome 3 0 rising tt))) → ⊥
a_refused_piece_called_rising d = apart is_rising (d.a_refused_call_answers_nothing {call = judge 8 (pos 0) (pos 1) (pos 0) (pos 0)} {o = outcome 3 0 rising tt} refl (λ e. omega (arith, e))) tt tt

-- "and its value, if it has one, is 0": 7 is answered at a position that is refused, and piece 7
pub a_value_of_a_refused_position : Document01 (answering (another_evaluate (λ t x o. o ≡ outcome 6 0 (pos 7) tt))) → ⊥
a_value_of_a_refused_position d = numbers_differ tt (d.a_refused_call_answers_nothing {call = evaluate two (pos 4)} {o = outcome 6 0 (pos 7) tt} refl (λ e. omega (arith, e)))

pub a_piece_of_a_refused_position : Document01 (answering (another_locate (λ t x o. o ≡ outcome 6 0 7 tt))) → ⊥
a_piece_of_a_refused_position d = absurd (omega (arith, d.a_refused_call_answers_nothing {call = locate two (pos 4)} {o = outcome 6 0 7 tt} refl (λ e. omega (arith, e))))

-- "A refused float answer is a dwell at level 0": it moves
abbrev is_move : Telling → Bool
is_move (dwell level) = false
is_move (move left above below) = true

abbrev anything : Telling
anything = move (fin false 1 (pos 0)) (fin false 1 (pos 30)) (fin false 0 (pos 0))

pub a_refused_float_answer_that_moves : Document01 (answering (another_float_answer (λ t x o. o ≡ outcome 6 0 anything tt))) → ⊥
a_refused_float_answer_that_moves d = apart is_move (d.a_refused_call_answers_nothing {call = float_answer two (pos 4)} {o = outcome 6 0 anything tt} refl (λ e. omega (arith, e))) tt tt

-- position 1 of (0,0), (3,−10) is put into a piece that isn't there
pub a_piece_that_is_not_there : Document01 (answering (another_locate (λ t x o. o ≡ outcome 0 0 1 tt))) → ⊥
a_piece_that_is_not_there d = not_in_piece_1 (d.the_piece_of_a_position {t = two} {x = pos 1} {o = outcome 0 0 1 tt} refl refl)
  where
    not_in_piece_1 : Belongs two.knots (pos 1) 1 → ⊥
    not_in_piece_1 (inside l a b) = omega (arith, l)
    not_in_piece_1 (at_last_knot l e) = omega (arith, l)

-- the drive is told to rest on a piece that falls
pub a_drive_that_always_rests : Document01 (answering (another_float_answer (λ t x o. o ≡ outcome 0 0 (dwell (fin false 0 (pos 0))) tt))) → ⊥
a_drive_that_always_rests d = falls (d.what_the_drive_is_told {t = two} {x = pos 1} {o = outcome 0 0 (dwell (fin false 0 (pos 0))) tt} refl refl)
  where
    falls : ToldAt two (pos 1) (dwell (fin false 0 (pos 0))) → ⊥
    falls a = flat_there (subst (λ (i : ℕ). ToldOn two i (pos 1) (dwell (fin false 0 (pos 0)))) (one_piece two_within a.belongs at_1) a.is)
      where
        flat_there : ToldOn two 0 (pos 1) (dwell (fin false 0 (pos 0))) → ⊥
        flat_there (dwells e x) = numbers_differ tt e

-- the drive is told in 1/256, whatever the unit: on (0,0), (2,2) with whole slopes 1 and 1 it then gets 2048 below the line at position 1, and not 8
pub a_drive_told_in_256ths : Document01 (answering (another_float_answer (λ t x o. Given (HoldsFor t x) float_order o.number o.place × (o.number ≡ 0 → ToldAt (table 8 t.knots t.values t.slopes) x o.answer)))) → ⊥
a_drive_told_in_256ths d = over_8 (d.what_the_drive_is_told {t = line 0} {x = pos 1} {o = outcome 0 0 telling tt} (given, λ e. told) refl)
  where
    line : ℕ → Table
    line s = table s (pos 0 ∷ pos 2 ∷ []) (pos 0 ∷ pos 2 ∷ []) (pos 1 ∷ pos 1 ∷ [])

    at_it : Belongs (line 0).knots (pos 1) 0
    at_it = in_piece 0 tt tt tt

    points : PointsWithin (line 0).knots (line 0).values
    points = points_by_test _ _ refl (count tt tt) tt

    evaluated : Given (HoldsAt (line 0) (pos 1)) evaluation_order 0 0
    evaluated = (proposed 0 (pos 0) (pos 2) (pos 0) (pos 2) (pos 1) (pos 1) (pos 1) whole points (below_the_line tt tt tt tt) at_it (within tt tt)).refusal

    given : Given (HoldsFor (line 0) (pos 1)) float_order 0 0
    given = went_on refl (as_evaluated evaluated) (taken_small (accepted_at refl evaluated) at_it (λ l. l.above.lt))

    telling : Telling
    telling = move (of_int binary64 (pos 0)) (of_int binary64 (pos 2048)) (of_int binary64 (pos 2048))

    exact : (n : ℤ) → Within (2 ^ 53) n → Exactly binary64 n (of_int binary64 n)
    exact = cast_exactly binary64

    told : ToldAt (line 8) (pos 1) telling
    told = record { piece = 0; belongs = at_it; is = moves (numbers_differ tt) (exact (pos 0) (record { size = lit≤ tt })) (exact (pos 2048) (record { size = lit≤ tt })) (exact (pos 2048) (record { size = lit≤ tt })) }

    over_8 : ToldAt (line 0) (pos 1) telling → ⊥
    over_8 a = of_piece_0 (subst (λ (i : ℕ). ToldOn (line 0) i (pos 1) telling) (one_piece points a.belongs at_it) a.is)
      where
        of_piece_0 : ToldOn (line 0) 0 (pos 1) telling → ⊥
        of_piece_0 (moves f l n b) = numbers_differ tt (one_number b (exact (pos 2048) (record { size = lit≤ tt })))
