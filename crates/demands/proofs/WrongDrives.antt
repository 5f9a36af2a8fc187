-- Wrong programs for the float answer. Each theorem is named by one, and says that what it would tell the drive does not meet the contract of `float_answer`, or of
-- `negwafir_float_answer` which C links. `ByContract.antt` says what each may answer. A float is named by the whole number that it is,
-- and each of these is one (`cast_exactly` in `Exactly.antt` of `floats`).
use Rattle.std.specs.Prelude.{◌≡◌, refl, Bool, true, false, [], ◌∷◌, ℕ, suc, ◌<◌, ℤ, pos, negsuc, nat_abs, Float}
use Rattle.std.proofs.Common.{sym, ◌∙◌, ap, subst, true≢false, arith, lit<, pow_pos}
use Rattle.std.proofs.Math.Nat.{eq_of_mul-eq-mul_right}
use Rattle.std.specs.Int.Signed.{lt_z_yes}
use Rattle.std.specs.Float.{nan, inf, fin, Format, binary64}
use Rattle.std.specs.Float.Ieee.{down}
use Rattle.std.specs.Float.Ieee.Exact.{HasValue}
use Rattle.cubic.specs.Value.{numerator, denominator}
use Rattle.floats.specs.Promise.{negative, Exactly}
use Rattle.floats.proofs.Exactly.{plus_zero}
use Rattle.rules.specs.Limits.{TooLarge}
use Rattle.rules.specs.Order.{answer_right}
use Rattle.table.specs.Table.{Table, table, step, too_few_or_many}
use Rattle.position.specs.Position.{Belongs, WithinKnots, of_table}
use Rattle.position.specs.Pieces.{one_piece}
use Rattle.drive.specs.declared.Answer.{Answer}
use Rattle.drive.specs.declared.Answer.TheVariants.{Dwell, Move}
use Rattle.drive.specs.Drive.{Telling, dwell, move, ToldIn, ToldOn, HoldsFor, of_position, too_large, Driving}
use Rattle.drive.specs.Drive as drive
use Rattle.drive.specs.Refused.{accepted_for}
use Rattle.drive.specs.Figures.{minus_zero_is_no_zero}
use Rattle.exports.specs.Cases.{dwells, moves}
use Rattle.demands.specs.ByContract.{Drives, DrivesC}
use Rattle.demands.specs.Said.{drives_say}
use Rattle.demands.specs.Refuting.{within, overlooked, so_it_holds, no_unit, in_piece, not_outside, answers_nothing, apart, numbers_differ}

-- ---- a float is one whole number only

above_0 : (e : ℤ) → 0 < down e
above_0 (pos k) = lit< tt
above_0 (negsuc k) = pow_pos (suc k)

one_size : (x : Float) (s t : Bool) (a b : ℕ) → HasValue x s a 1 → HasValue x t b 1 → (s ≡ t) × (a ≡ b)
one_size nan s t a b v w = absurd v
one_size (inf u) s t a b v w = absurd v
one_size (fin u k e) s t a b v w = (sym v.0 ∙ w.0, eq_of_mul-eq-mul_right (down e) (above_0 e) a b (sym v.1 ∙ w.1))

pub one_number : {f : Format} {m n : ℤ} {x : Float} → Exactly f m x → Exactly f n x → m ≡ n
one_number {m = m} {n} {x} p q = of_parts m n (one_size x (negative m) (negative n) (nat_abs m) (nat_abs n) p.value q.value)
  where
    of_parts : (m n : ℤ) → (negative m ≡ negative n) × (nat_abs m ≡ nat_abs n) → m ≡ n
    of_parts (pos m) (pos n) e = ap pos e.1
    of_parts (pos m) (negsuc n) e = absurd (true≢false (sym e.0))
    of_parts (negsuc m) (pos n) e = absurd (true≢false e.0)
    of_parts (negsuc m) (negsuc n) e = ap negsuc (omega (arith, e.1))

abbrev −0 : Float
−0 = fin true 0 (pos 0)

-- ---- what is told on the position's piece, where nothing is refused

abbrev moving : (left above below : Float) → Answer
moving left above below = Move (record { left = left; numerator = above; denominator = below })

on_its_piece : {t : Table} {x : ℤ} {a : Telling} {place i : ℕ} → Driving t x 0 place a → Belongs t.knots x i → ToldOn t i x a
on_its_piece {t} {x} {a} d b =
    let v = answer_right refl d.answer in
    subst (λ (i : ℕ). ToldOn t i x a) (one_piece (accepted_for refl d.refusal).limits v.belongs b) v.is

module _ {U left h z m n t : ℤ} where
  no_rise : {x : Float} → ToldIn U left h z m n t (dwell x) → z ≡ pos 0
  no_rise (drive.dwells e x) = e

  module _ {x y w : Float} where
    some_rise : ToldIn U left h z m n t (move x y w) → z ≡ pos 0 → ⊥
    some_rise (drive.moves f a b c) = f

    on_the_left : ToldIn U left h z m n t (move x y w) → Exactly binary64 left x
    on_the_left (drive.moves f a b c) = a

    above_the_line : ToldIn U left h z m n t (move x y w) → Exactly binary64 (numerator U h z m n t) y
    above_the_line (drive.moves f a b c) = b

    below_the_line : ToldIn U left h z m n t (move x y w) → Exactly binary64 (denominator U h) w
    below_the_line (drive.moves f a b c) = c

-- ---- another limit

not_too_large : {t : Table} {x : ℤ} {i : ℕ} → (TooLarge (step t.knots i) (step t.values i) → ⊥) → HoldsFor t x 8 i → ⊥
not_too_large f (of_position (of_table h)) = elim h [ ]
not_too_large f (too_large b l) = f l

pub a_limit_too_low : (a : Answer) → Drives (table 8 (pos 0 ∷ pos 1024 ∷ []) (pos 0 ∷ pos 1024 ∷ []) (pos 256 ∷ pos 256 ∷ [])) (pos 0) 8 0 a → ⊥
a_limit_too_low a p = not_too_large (λ l. l.above.lt) (so_it_holds (drives_say p).refusal)

-- 2^40 + 41564, the first size above 2^40 that any piece has
pub a_limit_too_high : (a : Answer) → Drives (table 8 (pos 0 ∷ pos 189 ∷ []) (pos 0 ∷ pos 162860 ∷ []) (pos 0 ∷ pos 0 ∷ [])) (pos 0) 0 0 a → ⊥
a_limit_too_high a p = overlooked (drives_say p).refusal 8 0 (too_large (in_piece 0 tt tt tt) (record { above = lt_z_yes tt })) tt

-- the limit in units: at s = 0 it would lie 256 times as high
pub a_limit_in_units : (a : Answer) → Drives (table 0 (pos 0 ∷ pos 1024 ∷ []) (pos 0 ∷ pos 1025 ∷ []) (pos 0 ∷ pos 0 ∷ [])) (pos 0) 0 0 a → ⊥
a_limit_in_units a p = overlooked (drives_say p).refusal 8 0 (too_large (in_piece 0 tt tt tt) (record { above = lt_z_yes tt })) tt

pub falls_never_too_large : (a : Answer) → Drives (table 8 (pos 0 ∷ pos 1024 ∷ []) (pos 0 ∷ negsuc 1024 ∷ []) (pos 0 ∷ pos 0 ∷ [])) (pos 0) 0 0 a → ⊥
falls_never_too_large a p = overlooked (drives_say p).refusal 8 0 (too_large (in_piece 0 tt tt tt) (record { above = lt_z_yes tt })) tt

abbrev large : Table
large = table 8 (pos 0 ∷ pos 1024 ∷ []) (pos 0 ∷ pos 1025 ∷ []) (pos 256 ∷ pos 256 ∷ [])

-- |z|·h² held to the limit, and not |z|·h³
pub the_width_squared : (a : Answer) → Drives large (pos 0) 0 0 a → ⊥
the_width_squared a p = overlooked (drives_say p).refusal 8 0 (too_large (in_piece 0 tt tt tt) (record { above = lt_z_yes tt })) tt

outside_only : {t : Table} {x : ℤ} → WithinKnots t.knots x → HoldsFor t x 6 0 → ⊥
outside_only b (of_position h) = not_outside b h

pub too_large_refused_by_6 : (a : Answer) → Drives large (pos 0) 6 0 a → ⊥
too_large_refused_by_6 a p = outside_only (within tt tt) (so_it_holds (drives_say p).refusal)

-- the second piece is too large, and the position at its left knot
pub too_large_refused_at_place_0 : (a : Answer) → Drives (table 8 (pos 0 ∷ pos 1 ∷ pos 1025 ∷ []) (pos 0 ∷ pos 0 ∷ pos 1025 ∷ []) (pos 0 ∷ pos 0 ∷ pos 0 ∷ [])) (pos 1) 8 0 a → ⊥
too_large_refused_at_place_0 a p = not_too_large (λ l. l.above.lt) (so_it_holds (drives_say p).refusal)

-- ---- another move

abbrev fall : Table
fall = table 8 (pos 0 ∷ pos 3 ∷ []) (pos 0 ∷ negsuc 9 ∷ []) (negsuc 852 ∷ negsuc 852 ∷ [])

abbrev line : Table
line = table 8 (pos 0 ∷ pos 2 ∷ []) (pos 0 ∷ pos 2 ∷ []) (pos 256 ∷ pos 256 ∷ [])

-- (0,0), (3,−10) with whole slopes −3 and −3, and the same in no unit
abbrev whole_fall : Table
whole_fall = table 0 (pos 0 ∷ pos 3 ∷ []) (pos 0 ∷ negsuc 9 ∷ []) (negsuc 2 ∷ negsuc 2 ∷ [])

pub told_in_any_unit : (a : Answer) → Drives (table 9 (pos 0 ∷ pos 3 ∷ []) (pos 0 ∷ negsuc 9 ∷ []) (negsuc 2 ∷ negsuc 2 ∷ [])) (pos 1) 0 0 a → ⊥
told_in_any_unit a p = overlooked (drives_say p).refusal 12 0 (of_position (of_table (no_unit tt))) tt

module _ {left above below : Float} where
  -- 256·h³ below the line of whole slopes, and not 27
  pub below_in_256ths : Exactly binary64 (pos 6912) below → Drives whole_fall (pos 1) 0 0 (moving left above below) → ⊥
  below_in_256ths e p = numbers_differ tt (one_number e (below_the_line (on_its_piece (drives_say p) (in_piece 0 tt tt tt))))

  -- t for h in Horner's second step: 2048, and not 14336
  pub another_step : Exactly binary64 (pos 2048) above → Drives (table 8 (pos 0 ∷ pos 3 ∷ []) (pos 0 ∷ pos 8 ∷ []) (pos 0 ∷ pos 0 ∷ [])) (pos 1) 0 0 (moving left above below) → ⊥
  another_step e p = numbers_differ tt (one_number e (above_the_line (on_its_piece (drives_say p) (in_piece 0 tt tt tt))))

  -- t for one h in the third: −7684, and not −23038
  pub another_last_step : Exactly binary64 (negsuc 7683) above → Drives fall (pos 1) 0 0 (moving left above below) → ⊥
  another_last_step e p = numbers_differ tt (one_number e (above_the_line (on_its_piece (drives_say p) (in_piece 0 tt tt tt))))

  -- 2Z for 3Z in the square's coefficient, and 3Z for 2Z in the cube's: 1024 and 1536, and not 2048
  pub a_move_with_another_square : Exactly binary64 (pos 1024) above → Drives line (pos 1) 0 0 (moving left above below) → ⊥
  a_move_with_another_square e p = numbers_differ tt (one_number e (above_the_line (on_its_piece (drives_say p) (in_piece 0 tt tt tt))))

  pub a_move_with_another_cube : Exactly binary64 (pos 1536) above → Drives line (pos 1) 0 0 (moving left above below) → ⊥
  a_move_with_another_cube e p = numbers_differ tt (one_number e (above_the_line (on_its_piece (drives_say p) (in_piece 0 tt tt tt))))

  -- the right end's numerator at every position: −69120, and not −23038
  pub a_move_at_another_position : Exactly binary64 (negsuc 69119) above → Drives fall (pos 1) 0 0 (moving left above below) → ⊥
  a_move_at_another_position e p = numbers_differ tt (one_number e (above_the_line (on_its_piece (drives_say p) (in_piece 0 tt tt tt))))

  -- the left slope on the left: 256, and not 5
  pub a_move_from_another_value : Exactly binary64 (pos 256) left → Drives (table 8 (pos 0 ∷ pos 1 ∷ []) (pos 5 ∷ pos 6 ∷ []) (pos 256 ∷ pos 256 ∷ [])) (pos 0) 0 0 (moving left above below) → ⊥
  a_move_from_another_value e p = numbers_differ tt (one_number e (on_the_left (on_its_piece (drives_say p) (in_piece 0 tt tt tt))))

  -- 256·3·h² below: 3072, and not 2048
  pub a_move_over_another_number : Exactly binary64 (pos 3072) below → Drives line (pos 1) 0 0 (moving left above below) → ⊥
  a_move_over_another_number e p = numbers_differ tt (one_number e (below_the_line (on_its_piece (drives_say p) (in_piece 0 tt tt tt))))

pub minus_zero_let_through : {left below : Float} → Drives fall (pos 0) 0 0 (moving left −0 below) → ⊥
minus_zero_let_through p = minus_zero_is_no_zero (above_the_line (on_its_piece (drives_say p) (in_piece 0 tt tt tt)))

-- ---- a move for a dwell, a dwell for a move

abbrev flat : Table
flat = table 8 (pos 0 ∷ pos 1 ∷ []) (pos 5 ∷ pos 5 ∷ []) (pos 0 ∷ pos 0 ∷ [])

abbrev rise : Table
rise = table 8 (pos 0 ∷ pos 1 ∷ []) (pos 0 ∷ pos 1 ∷ []) (pos 256 ∷ pos 256 ∷ [])

flat_moves : {left above below : Float} → Driving flat (pos 0) 0 0 (move left above below) → ⊥
flat_moves d = some_rise (on_its_piece d (in_piece 0 tt tt tt)) refl

rise_dwells : {level : Float} → Driving rise (pos 0) 0 0 (dwell level) → ⊥
rise_dwells d = numbers_differ tt (no_rise (on_its_piece d (in_piece 0 tt tt tt)))

pub a_move_on_a_flat_piece : {left above below : Float} → Drives flat (pos 0) 0 0 (moving left above below) → ⊥
a_move_on_a_flat_piece p = flat_moves (drives_say p)

pub a_dwell_on_a_rise : {level : Float} → Drives rise (pos 0) 0 0 (Dwell level) → ⊥
a_dwell_on_a_rise p = rise_dwells (drives_say p)

-- ---- a refusal that is no dwell at +0: of one point alone

abbrev alone : Table
alone = table 8 (pos 5 ∷ []) (pos 5 ∷ []) (pos 5 ∷ [])

abbrev is_move : Telling → Bool
is_move (dwell level) = false
is_move (move left above below) = true

abbrev level_of : Telling → Float
level_of (dwell level) = level
level_of (move left above below) = left

pub a_refusal_at_level_1 : {x : ℤ} {level : Float} → Exactly binary64 (pos 1) level → Drives alone x 2 0 (Dwell level) → ⊥
a_refusal_at_level_1 e p = numbers_differ tt (one_number (subst (Exactly binary64 (pos 1)) (ap level_of (answers_nothing (drives_say p).answer)) e) (plus_zero binary64))

pub a_refusal_at_minus_zero : {x : ℤ} → Drives alone x 2 0 (Dwell −0) → ⊥
a_refusal_at_minus_zero p = minus_zero_is_no_zero (subst (Exactly binary64 (pos 0)) (sym (ap level_of (answers_nothing (drives_say p).answer))) (plus_zero binary64))

pub a_refusal_that_moves : {x : ℤ} {left above below : Float} → Drives alone x 2 0 (moving left above below) → ⊥
a_refusal_that_moves p = apart is_move (answers_nothing (drives_say p).answer) tt tt

-- ---- a wrong record for C, in which a dwell is kind 0 and a move kind 1

none_refused : {x : ℤ} {a : Telling} → Driving alone x 0 0 a → ⊥
none_refused d = overlooked d.refusal 2 0 (of_position (of_table (too_few_or_many (λ w. omega (arith, w.low))))) tt

module _ {left above below : Float} where
  pub a_move_called_a_dwell : DrivesC rise (pos 0) 0 0 0 left above below → ⊥
  a_move_called_a_dwell (dwells d nought one) = rise_dwells d

  pub a_dwell_called_a_move : DrivesC flat (pos 0) 0 0 1 left above below → ⊥
  a_dwell_called_a_move (moves d) = flat_moves d

  pub a_refusal_called_done : {x : ℤ} {kind : ℕ} → DrivesC alone x 0 0 kind left above below → ⊥
  a_refusal_called_done (dwells d nought one) = none_refused d
  a_refusal_called_done (moves d) = none_refused d

  pub a_dwell_over_0 : Exactly binary64 (pos 0) below → DrivesC flat (pos 0) 0 0 0 left above below → ⊥
  a_dwell_over_0 e (dwells d nought one) = numbers_differ tt (one_number e one)

  -- 0 on the left, and not 5
  pub the_numerator_for_the_left_value : Exactly binary64 (pos 0) left → DrivesC (table 8 (pos 0 ∷ pos 1 ∷ []) (pos 5 ∷ pos 6 ∷ []) (pos 256 ∷ pos 256 ∷ [])) (pos 0) 0 0 1 left above below → ⊥
  the_numerator_for_the_left_value e (moves d) = numbers_differ tt (one_number e (on_the_left (on_its_piece d (in_piece 0 tt tt tt))))

-- beside a refusal, of which the code has no answer of its own until it crosses to C
pub a_refusal_at_level_1_in-C : {x : ℤ} {left above below : Float} → Exactly binary64 (pos 1) left → DrivesC alone x 2 0 0 left above below → ⊥
a_refusal_at_level_1_in-C e (dwells d nought one) = numbers_differ tt (one_number (subst (Exactly binary64 (pos 1)) (ap level_of (answers_nothing d.answer)) e) (plus_zero binary64))

pub a_refusal_at_minus_zero_in-C : {x : ℤ} {above below : Float} → DrivesC alone x 2 0 0 −0 above below → ⊥
a_refusal_at_minus_zero_in-C (dwells d nought one) = minus_zero_is_no_zero (subst (Exactly binary64 (pos 0)) (sym (ap level_of (answers_nothing d.answer))) (plus_zero binary64))

pub a_refusal_that_moves_in-C : {x : ℤ} {left above below : Float} → DrivesC alone x 2 0 1 left above below → ⊥
a_refusal_that_moves_in-C (moves d) = apart is_move (answers_nothing d.answer) tt tt

pub a_dwell_with_minus_zero_above : {left below : Float} → DrivesC flat (pos 0) 0 0 0 left −0 below → ⊥
a_dwell_with_minus_zero_above (dwells d nought one) = minus_zero_is_no_zero nought
