-- Wrong programs for one piece. Each theorem is named by one, and says that what it would answer of a piece does not meet the contract: of `judge`, of `is_monotone` which judge
-- asks, of `coefficients`, or of `negwafir_judge` which C links. `ByContract.antt` says what each may answer.
use Rattle.std.specs.Prelude.{refl, Bool, true, false, not, ℕ, T, ℤ, pos, negsuc, Ok, Err}
use Rattle.std.proofs.Common.{ap, arith, lit≤}
use Rattle.std.specs.Int.Signed.{lt_z_yes}
use Rattle.integers.specs.Decided.{told, denied}
use Rattle.cubic.specs.Piece.{Monotone}
use Rattle.cubic.proofs.Monotone.{monotone_level}
use Rattle.rules.specs.Limits.{unit, UnitWithin, WidthWithin, RiseWithin}
use Rattle.rules.specs.Known.{unit_size}
use Rattle.rules.specs.declared.Cause.TheVariants.{SlopeUnit, Width, Rise}
use Rattle.rules.specs.Causes.{at_place_0}
use Rattle.piece.specs.declared.Verdict.{Verdict}
use Rattle.piece.specs.declared.Verdict.TheVariants.{Rising, Falling, Flat, Bends}
use Rattle.piece.specs.Promise.{rising, falling, flat, bends, none, Ruling, ruling, ruling_of, leaning, unit_refused, width_refused, monotone, bent}
use Rattle.piece.specs.Determined.{one_ruling}
use Rattle.exports.specs.declared.answers.Judgement.{Judgement}
use Rattle.exports.specs.Cases.{JudgedAs, judged}
use Rattle.exports.specs.Determined.{one_judgement}
use Rattle.demands.proofs.BothMeet.{number_of}
use Rattle.demands.specs.ByContract.{Judges, JudgesC, AskedMonotone, SaysMonotone, AskedCoefficients, HasCoefficients}
use Rattle.demands.proofs.SixteenGiven.{eighth}
use Rattle.demands.specs.Refuting.{within, above_8, against_its_rise, below_the_line, in_the_ellipse, apart, numbers_differ}

-- ---- a wrong test

-- The piece does not bend: `judge` may not answer so, nor may `is_monotone` say no where what it requires is met.
abbrev pub DoesNotBend : (s : ℕ) (h z m n : ℤ) → Type 0
DoesNotBend s h z m n = (Judges s h z m n (Ok Bends) → ⊥) × ((a : AskedMonotone (unit s) h z m n) × (SaysMonotone (unit s) h z m n a false → ⊥))

-- It bends: `judge` may not answer this verdict, nor may `is_monotone` say yes.
abbrev pub IsNot : Verdict → (s : ℕ) (h z m n : ℤ) → Type 0
IsNot verdict s h z m n = (Judges s h z m n (Ok verdict) → ⊥) × ((a : AskedMonotone (unit s) h z m n) × (SaysMonotone (unit s) h z m n a true → ⊥))

abbrev bending : Ruling → Bool
bending (ruling number place rising) = false
bending (ruling number place falling) = false
bending (ruling number place flat) = false
bending (ruling number place bends) = true
bending (ruling number place none) = false

module _ {s : ℕ} {h z m n : ℤ} (u : UnitWithin s) (w : WidthWithin h) (r : RiseWithin z) where
  straight : T (not (bending (ruling 0 0 (leaning z)))) → Monotone (unit s) h z m n → DoesNotBend s h z m n
  straight t o = (λ p. apart bending (one_ruling p (monotone u w r o)) tt t, ((record { unit = unit_size u; width = w; rise = r }, tt), λ d. denied d refl o))

  crooked : (verdict : Verdict) → T (not (bending (ruling_of (Ok verdict)))) → (Monotone (unit s) h z m n → ⊥) → IsNot verdict s h z m n
  crooked verdict t f = (λ p. apart bending (one_ruling (bent u w r f) p) tt t, ((record { unit = unit_size u; width = w; rise = r }, tt), λ d. f (told d refl)))

-- the line at 2Z for 3Z
pub a_line_too_low : DoesNotBend 8 (pos 1) (pos 1) (pos 600) (pos 0)
a_line_too_low = straight eighth (within tt tt) (within tt tt) tt (below_the_line tt tt tt tt)

-- a·a for a·b in the ellipse; at 395/609 of the width the piece falls
pub another_ellipse : IsNot Rising 8 (pos 1) (pos 1) (pos 1024) (pos 300)
another_ellipse = crooked eighth (within tt tt) (within tt tt) Rising tt (against_its_rise 395 609 tt tt tt tt)

-- only what lies below the line is taken
pub no_ellipse : DoesNotBend 8 (pos 1) (pos 1) (pos 600) (pos 600)
no_ellipse = straight eighth (within tt tt) (within tt tt) tt (in_the_ellipse tt tt tt tt tt)

-- a slope above 3Z is turned away, and not one above 4Z
pub turned_away_too_soon : DoesNotBend 8 (pos 1) (pos 1) (pos 1024) (pos 256)
turned_away_too_soon = straight eighth (within tt tt) (within tt tt) tt (in_the_ellipse tt tt tt tt tt)

-- a slope above 2000Z is turned away, and not one above 4Z, so that the square is too large for 64 bits: what is left of it there is negative
pub squares_that_wrap : IsNot Rising 8 (pos 1024) (pos 1048576) (pos 401000003) (pos 0)
squares_that_wrap = crooked eighth (within tt tt) (within tt tt) Rising tt (against_its_rise 2 3 tt tt tt tt)

-- a fall, or a piece without a rise, is judged by its left slope alone
pub a_fall_by_its_left_slope : IsNot Falling 8 (pos 1) (negsuc 0) (negsuc 255) (negsuc 1999)
a_fall_by_its_left_slope = crooked eighth (within tt tt) (within tt tt) Falling tt (λ o. ((o.falling (lt_z_yes tt)).at 1 3 (lit≤ tt) (lit≤ tt)).le)

pub a_level_piece_by_its_left_slope : IsNot Flat 8 (pos 1) (pos 0) (pos 0) (pos 5)
a_level_piece_by_its_left_slope = crooked eighth (within tt tt) (within tt tt) Flat tt (λ o. numbers_differ tt (o.level refl).1)

-- the rise in units of 1/255, so that 768 at both ends, which is three times 256, lies outside the ellipse
pub a_unit_of_255 : DoesNotBend 8 (pos 1) (pos 1) (pos 768) (pos 768)
a_unit_of_255 = straight eighth (within tt tt) (within tt tt) tt (in_the_ellipse tt tt tt tt tt)

-- ---- another unit

-- 256 for the unit 2^s: with whole slopes 1, 1, 4, 0 then rises, and goes down at four fifths of its width
pub a_verdict_in_256ths : IsNot Rising 0 (pos 1) (pos 1) (pos 4) (pos 0)
a_verdict_in_256ths = crooked (record { high = lit≤ tt }) (within tt tt) (within tt tt) Rising tt (against_its_rise 4 5 tt tt tt tt)

-- at the border of whole slopes: the paper's < turns 1, 1, 3, 3 and 1, 1, 4, 1 away, which rise; one more takes 1, 1, 3, 4
pub whole_slopes_at_the_border : DoesNotBend 0 (pos 1) (pos 1) (pos 3) (pos 3)
whole_slopes_at_the_border = straight (record { high = lit≤ tt }) (within tt tt) (within tt tt) tt (in_the_ellipse tt tt tt tt tt)

pub whole_slopes_where_it_is_steepest : DoesNotBend 0 (pos 1) (pos 1) (pos 4) (pos 1)
whole_slopes_where_it_is_steepest = straight (record { high = lit≤ tt }) (within tt tt) (within tt tt) tt (in_the_ellipse tt tt tt tt tt)

pub whole_slopes_past_the_border : IsNot Rising 0 (pos 1) (pos 1) (pos 3) (pos 4)
whole_slopes_past_the_border = crooked (record { high = lit≤ tt }) (within tt tt) (within tt tt) Rising tt (against_its_rise 1 2 tt tt tt tt)

-- twice as large a unit: in 1/2 the piece 1, 1, 6, 7 then rises
pub a_unit_twice_as_large : IsNot Rising 1 (pos 1) (pos 1) (pos 6) (pos 7)
a_unit_twice_as_large = crooked (record { high = lit≤ tt }) (within tt tt) (within tt tt) Rising tt (against_its_rise 1 2 tt tt tt tt)

-- a unit above 8 taken for 8, or asked after the width; or another number for it
pub a_unit_above_8_taken : Judges 9 (pos 1) (pos 1) (pos 256) (pos 256) (Ok Rising) → ⊥
a_unit_above_8_taken p = omega (arith, ap number_of (one_ruling p (unit_refused (above_8 tt))))

pub a_width_asked_before_the_unit : Judges 4294967295 (pos 0) (pos 1) (pos 256) (pos 256) (Err (at_place_0 Width)) → ⊥
a_width_asked_before_the_unit p = omega (arith, ap number_of (one_ruling p (unit_refused (above_8 tt))))

pub a_unit_refused_by_3 : Judges 9 (pos 1) (pos 1) (pos 256) (pos 256) (Err (at_place_0 Width)) → ⊥
a_unit_refused_by_3 p = omega (arith, ap number_of (one_ruling p (unit_refused (above_8 tt))))

-- 8 and 0 refused
pub the_finest_unit_refused : Judges 8 (pos 1) (pos 1) (pos 256) (pos 256) (Err (at_place_0 SlopeUnit)) → ⊥
the_finest_unit_refused p = omega (arith, ap number_of (one_ruling p (monotone eighth (within tt tt) (within tt tt) (below_the_line tt tt tt tt))))

pub whole_slopes_refused : Judges 0 (pos 1) (pos 1) (pos 1) (pos 1) (Err (at_place_0 SlopeUnit)) → ⊥
whole_slopes_refused p = omega (arith, ap number_of (one_ruling p (monotone (record { high = lit≤ tt }) (within tt tt) (within tt tt) (below_the_line tt tt tt tt))))

-- ---- a wrong number

pub a_width_refused_by_4 : Judges 8 (pos 0) (pos 1) (pos 256) (pos 256) (Err (at_place_0 Rise)) → ⊥
a_width_refused_by_4 p = omega (arith, ap number_of (one_ruling p (width_refused eighth (λ w. w.low.le))))

-- ---- a wrong cubic: the one of a piece of width 2 and rise 2 with slopes 256 and 256 is 512·t·h², as 3·512 − 2·512 − 512 and 512 + 512 − 2·512 are 0

abbrev pub HasNot : (U h z m n first second third : ℤ) → Type 0
HasNot U h z m n first second third = (a : AskedCoefficients U h z m n) × (HasCoefficients U h z m n a first second third → ⊥)

-- 2Z for 3Z
pub another_square : HasNot (pos 256) (pos 2) (pos 2) (pos 256) (pos 256) (pos 512) (negsuc 511) (pos 0)
another_square = ((record { unit = within tt tt; width = within tt tt; rise = within tt tt }, tt), λ c. numbers_differ tt c.second_is)

-- 3Z for 2Z
pub another_cube : HasNot (pos 256) (pos 2) (pos 2) (pos 256) (pos 256) (pos 512) (pos 0) (negsuc 511)
another_cube = ((record { unit = within tt tt; width = within tt tt; rise = within tt tt }, tt), λ c. numbers_differ tt c.third_is)

-- 256 for the unit: of whole slopes 1 and 1 the piece of width 2 and rise 2 has 2·t·h² alone
pub coefficients_in_256ths : HasNot (pos 1) (pos 2) (pos 2) (pos 1) (pos 1) (pos 2) (pos 1530) (negsuc 1019)
coefficients_in_256ths = ((record { unit = within tt tt; width = within tt tt; rise = within tt tt }, tt), λ c. numbers_differ tt c.second_is)

-- ---- a wrong record for C

abbrev verdict : Judgement → ℕ
verdict j = j.verdict

abbrev number : Judgement → ℕ
number j = j.refusal.number

a_rise : JudgedAs 8 (pos 1) (pos 1) (pos 256) (pos 256) 0 0 1
a_rise = judged (monotone eighth (within tt tt) (within tt tt) (below_the_line tt tt tt tt))

a_flat_piece : JudgedAs 8 (pos 1) (pos 0) (pos 0) (pos 0) 0 0 3
a_flat_piece = judged (monotone eighth (within tt tt) (within tt tt) (monotone_level refl refl refl))

pub rising_as_falling : JudgesC 8 (pos 1) (pos 1) (pos 256) (pos 256) 0 0 2 → ⊥
rising_as_falling p = omega (arith, ap verdict (one_judgement p a_rise))

pub flat_as_falling : JudgesC 8 (pos 1) (pos 0) (pos 0) (pos 0) 0 0 2 → ⊥
flat_as_falling p = omega (arith, ap verdict (one_judgement p a_flat_piece))

-- a refused piece that bends, and a rise that is refused
pub a_verdict_where_refused : JudgesC 8 (pos 0) (pos 1) (pos 0) (pos 0) 3 0 4 → ⊥
a_verdict_where_refused p = omega (arith, ap verdict (one_judgement p (judged (width_refused eighth (λ w. w.low.le)))))

-- in C: a unit above 8 with a verdict
pub a_verdict_in_no_unit : JudgesC 9 (pos 1) (pos 1) (pos 256) (pos 256) 12 0 1 → ⊥
a_verdict_in_no_unit p = omega (arith, ap verdict (one_judgement p (judged (unit_refused (above_8 tt)))))

pub a_refusal_with_a_verdict : JudgesC 8 (pos 1) (pos 1) (pos 256) (pos 256) 5 0 1 → ⊥
a_refusal_with_a_verdict p = omega (arith, ap number (one_judgement p a_rise))
