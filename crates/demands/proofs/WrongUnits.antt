-- Wrong programs that break the second demand in another unit than 1/256: what document 01 and request 2 have as 256, or as 768, was left in them. Each is ours but for the one thing, and ours wherever s is 8,
-- but where it is said otherwise.
use Rattle.std.specs.Prelude.{Ok, refl, List, [], ◌∷◌, ℕ, zero, suc, ◌-◌, ◌^◌, ℤ, pos, negsuc, ◌+ℤ◌}
use Rattle.std.proofs.Common.{arith, lit<, lit≤}
use Rattle.std.specs.Int.Signed.{lt_z_yes}
use Rattle.integers.specs.Promise.{floor_of}
use Rattle.cubic.specs.Slopes.{zero_or_opposed, beyond_the_bound, secant_slope, inner_slope}
use Rattle.cubic.specs.Value.{rounded, numerator, denominator}
use Rattle.rules.specs.Limits.{unit, UnitWithin}
use Rattle.rules.specs.Refusals.{done, passed, answered}
use Rattle.rules.specs.Order.{went_on}
use Rattle.table.specs.Table.{Table, table, step, MonotoneAt, Holds, not_monotone}
use Rattle.table.specs.Accepted.{PointsWithin, points_accepted}
use Rattle.table.specs.Tested.{points_by_test}
use Rattle.piece.specs.declared.Verdict.TheVariants.{Rising}
use Rattle.piece.specs.Promise.{rising, monotone}
use Rattle.position.specs.Position.{Belongs, WithinKnots}
use Rattle.position.specs.Refused.{as_checked, taken_inside}
use Rattle.curve.specs.Curve.{value_on, Evaluated}
use Rattle.demands.specs.Demands.{judge, NoSlopeAgainstItsRise, Demand2}
use Rattle.demands.specs.Ours.{May}
use Rattle.demands.proofs.BothMeet.{not_bends}
use Rattle.demands.proofs.SixteenGiven.{count}
use Rattle.demands.specs.Refuting.{within, below_the_line, in_the_ellipse, in_piece, numbers_differ}
use Rattle.demands.proofs.Programs.{outcome, answering, another_judge}
use Rattle.demands.proofs.Wrong2.{leaving, but_at, left, valued_by, the_same}
use Rattle.demands.proofs.WrongEnds.{at_the_first, the_first, by_cases, bound, quotient, of_two_points}

-- whole slopes, and those in 1/8
pub whole : UnitWithin 0
whole = record { high = lit≤ tt }

eighths : UnitWithin 3
eighths = record { high = lit≤ tt }

-- ======== "A piece within the limits gets a yes exactly when its cubic has no slope against its rise"

-- a verdict in 1/256, whatever the unit: 1, 1, 4, 0 then rises at s = 0, and goes down at four fifths of its width
pub a_verdict_in_256ths : Demand2 (answering (another_judge (λ s h z m n o. May (judge 8 h z m n) (outcome o.number o.place o.answer tt)))) → ⊥
a_verdict_in_256ths d =
    down ((d.a_piece_gets_a_yes_exactly_then {o = outcome 0 0 rising tt} whole (within tt tt) (within tt tt)
    (record { verdict = Ok Rising; says = refl; promised = monotone (record { high = lit≤ tt }) (within tt tt) (within tt tt) (below_the_line tt tt tt tt) })).0 (not_bends tt))
  where
    down : NoSlopeAgainstItsRise (unit 0) (pos 1) (pos 1) (pos 4) (pos 0) → ⊥
    down s = (s.while_rising (lt_z_yes tt) 4 5 (lit≤ tt) (lit≤ tt)).le

-- ======== "Slopes you build are Fritsch and Butland's mean at inner points and document 01's rule at the two ends, in its units"

abbrev 0-1-2 : List ℤ
0-1-2 = pos 0 ∷ pos 1 ∷ pos 2 ∷ []

abbrev at_rest : List ℤ
at_rest = pos 0 ∷ pos 0 ∷ pos 0 ∷ []

-- 768 left in the mean: (0,0), (1,1), (2,4) then have 384 between, and not 1
pub a_mean_with_768 : Demand2 (answering (leaving (but_at 1 (λ t. inner_slope (pos 256) (step t.knots 0) (step t.values 0) (step t.knots 1) (step t.values 1))))) → ⊥
a_mean_with_768 d =
    ((((left d (table 0 0-1-2 (pos 0 ∷ pos 1 ∷ pos 4 ∷ []) at_rest) whole (points_by_test _ _ refl (count tt tt) tt) refl).each 1 (lit< tt)).inner 0 refl (lit< tt)).size (lt_z_yes tt)).low.le

-- 768 left in the bound: (0,0), (1,1), (2,−3) then begin with 768, and not with 3
abbrev pub bound_of_768 : (U h₁ z₁ h₂ z₂ : ℤ) → ℤ
bound_of_768 U h₁ z₁ h₂ z₂ = by_cases (zero_or_opposed h₁ z₁ h₂ z₂) (beyond_the_bound h₁ z₁ h₂ z₂) (bound (pos 256) h₁ z₁) (quotient U h₁ z₁ h₂ z₂)

pub a_bound_of_768 : Demand2 (answering (at_the_first bound_of_768)) → ⊥
a_bound_of_768 d = numbers_differ tt (the_first whole bound_of_768 (pos 0) (pos 1) (pos 2) (pos 0) (pos 1) (negsuc 2) (points_by_test _ _ refl (count tt tt) tt) d)

-- 256 left in the quotient: (0,0), (1,1), (3,2) then begin with 298, and not with 1
abbrev pub quotient_in_256ths : (U h₁ z₁ h₂ z₂ : ℤ) → ℤ
quotient_in_256ths U h₁ z₁ h₂ z₂ = by_cases (zero_or_opposed h₁ z₁ h₂ z₂) (beyond_the_bound h₁ z₁ h₂ z₂) (bound U h₁ z₁) (quotient (pos 256) h₁ z₁ h₂ z₂)

pub an_end_slope_in_256ths : Demand2 (answering (at_the_first quotient_in_256ths)) → ⊥
an_end_slope_in_256ths d = numbers_differ tt (the_first whole quotient_in_256ths (pos 0) (pos 1) (pos 3) (pos 0) (pos 1) (pos 2) (points_by_test _ _ refl (count tt tt) tt) d)

-- (0,0), (3,−10), over any slopes
abbrev falling_at : ℕ → Table
falling_at s = table s (pos 0 ∷ pos 3 ∷ []) (pos 0 ∷ negsuc 9 ∷ []) (pos 0 ∷ pos 0 ∷ [])

falling_within : PointsWithin (pos 0 ∷ pos 3 ∷ []) (pos 0 ∷ negsuc 9 ∷ [])
falling_within = points_by_test _ _ refl (count tt tt) tt

-- 256 left in the secant: they then begin with −853, and not with −3
pub a_secant_in_256ths : Demand2 (answering (of_two_points (λ t. secant_slope (pos 256) (step t.knots 0) (step t.values 0)))) → ⊥
a_secant_in_256ths d = (((left d (falling_at 0) whole falling_within refl).each 0 (lit< tt)).of_two refl).size.low.le

-- slopes built in 1/256 and then rounded down to the unit: in 1/8 they begin with −27, and not with −26
pub slopes_rounded_down_to_the_unit : Demand2 (answering (of_two_points (λ t. floor_of (secant_slope (pos 256) (step t.knots 0) (step t.values 0)) (pos (2 ^ (8 - t.s)))))) → ⊥
slopes_rounded_down_to_the_unit d = (((left d (falling_at 3) eighths falling_within refl).each 0 (lit< tt)).of_two refl).size.low.le

-- ======== "The value at a position becomes the exact value rounded to the nearest whole number, a half going up"

-- a table of one piece, whoever proposed its slopes, has its value at a position inside
module _ (s : ℕ) (k₀ k₁ v₀ v₁ m n x : ℤ) where
  abbrev pub alone : Table
  alone = table s (k₀ ∷ k₁ ∷ []) (v₀ ∷ v₁ ∷ []) (m ∷ n ∷ [])

  pub proposed : UnitWithin s → PointsWithin (k₀ ∷ k₁ ∷ []) (v₀ ∷ v₁ ∷ []) → MonotoneAt alone 0 → Belongs (k₀ ∷ k₁ ∷ []) x 0 → WithinKnots (k₀ ∷ k₁ ∷ []) x → Evaluated alone x 0 0 (value_on alone 0 x)
  proposed u p o b w =
      record {
        refusal = went_on refl (as_checked (went_on refl (points_accepted u p refl) (passed no_bend done))) (taken_inside w);
        value = answered (record { piece = 0; belongs = b; is = refl });
      }
    where
      no_bend : (i : ℕ) → Holds alone 5 i → ⊥
      no_bend zero (not_monotone l f) = f o
      no_bend (suc i) (not_monotone l f) = absurd (omega (arith, l))

-- 256·h³ left below the line: (0,0), (2,2) with whole slopes 1 and 1 have 0 at position 1, and not 1
abbrev pub over_256ths : (U left h z m n t : ℤ) → ℤ
over_256ths U left h z m n t = left +ℤ rounded (numerator U h z m n t) (denominator (pos 256) h)

pub a_value_over_256ths : Demand2 (answering (valued_by over_256ths)) → ⊥
a_value_over_256ths d =
    let p = points_by_test (pos 0 ∷ pos 2 ∷ []) (pos 0 ∷ pos 2 ∷ []) refl (count tt tt) tt in
    numbers_differ tt (the_same over_256ths d whole p (in_piece 0 tt tt tt) (proposed 0 (pos 0) (pos 2) (pos 0) (pos 2) (pos 1) (pos 1) (pos 1) whole p (below_the_line tt tt tt tt) (in_piece 0 tt tt tt) (within tt tt)))

-- half of an odd denominator rounded up before it is added, which no unit has but whole slopes: (0,0), (3,1) with slopes 1 and 1, where the curve is at 13/27 at position 1, then have 1 there, and not 0
abbrev pub half_rounded_up : (U left h z m n t : ℤ) → ℤ
half_rounded_up U left h z m n t = left +ℤ floor_of (numerator U h z m n t +ℤ floor_of (denominator U h +ℤ pos 1) (pos 2)) (denominator U h)

pub a_half_rounded_up_before_the_sum : Demand2 (answering (valued_by half_rounded_up)) → ⊥
a_half_rounded_up_before_the_sum d =
    let p = points_by_test (pos 0 ∷ pos 3 ∷ []) (pos 0 ∷ pos 1 ∷ []) refl (count tt tt) tt in
    numbers_differ tt (the_same half_rounded_up d whole p (in_piece 0 tt tt tt) (proposed 0 (pos 0) (pos 3) (pos 0) (pos 1) (pos 1) (pos 1) (pos 1) whole p (in_the_ellipse tt tt tt tt tt) (in_piece 0 tt tt tt) (within tt tt)))
