-- What the demands say of single cases: two counts at opposite ends of 32 bits, and the slope at a point. `Values.antt` has the value on a piece.
use Rattle.std.specs.Prelude.{◌≡◌, List, [], ◌∷◌, ℕ, ◌+◌, ◌-◌, ◌<◌, ℤ, pos, ◌<ℤ◌, length}
use Rattle.std.proofs.Common.{◌∙◌, ap, ap₂, subst, arith}
use Rattle.rules.specs.Limits.{UnitWithin}
use Rattle.rules.specs.Known.{0<_width}
use Rattle.rules.specs.Refusals.{Given}
use Rattle.rules.specs.Order.{stopped}
use Rattle.table.specs.Table.{step, Holds, build_order, check_order}
use Rattle.table.specs.Accepted.{PointsWithin}
use Rattle.slopes.specs.Slopes.{inner_at, end_at, built_slope}
use Rattle.slopes.specs.Cases.{slope_of_two, first_slope, inner_slope_lem, last_slope}
use Rattle.slopes.specs.Figures.{ends_of_32_bits_are_refused}
use Rattle.position.specs.Position.{HoldsAt, evaluation_order}
use Rattle.position.specs.Refused.{as_checked}
use Rattle.drive.specs.Drive.{HoldsFor, float_order}
use Rattle.drive.specs.Refused.{as_evaluated}
use Rattle.demands.specs.Demands.{opposite_ends, InUnits, EndRule, MeanRule, RightSlope}
use Rattle.demands.specs.Rules.{in_units_lem, end_rule, mean_rule}

-- ---- two counts at opposite ends of 32 bits

module _ {s : ℕ} (u : UnitWithin s) (v w m n : ℤ) where
  pub by_a_build : Given (Holds (opposite_ends s v w m n)) build_order 3 0
  by_a_build = ends_of_32_bits_are_refused u v w m n

  pub by_a_check : Given (Holds (opposite_ends s v w m n)) check_order 3 0
  by_a_check = stopped (5 ∷ []) (λ e. omega arith) by_a_build

  pub by_an_evaluation : (x : ℤ) → Given (HoldsAt (opposite_ends s v w m n) x) evaluation_order 3 0
  by_an_evaluation x = stopped (6 ∷ []) (λ e. omega arith) (as_checked by_a_check)

  pub by_a_float_answer : (x : ℤ) → Given (HoldsFor (opposite_ends s v w m n) x) float_order 3 0
  by_a_float_answer x = stopped (8 ∷ []) (λ e. omega arith) (as_evaluated (by_an_evaluation x))

-- ---- the slope that a build gives a point keeps its rule

pub right_slope : {U : ℤ} {ks vs : List ℤ} → pos 0 <ℤ U → PointsWithin ks vs → (i : ℕ) → RightSlope U ks vs i (built_slope U ks vs i)
right_slope {U} {ks} {vs} u p i = record { of_two = of_two; first = first; inner = inner; last = last }
  where
    width : (j : ℕ) → j + 1 < length ks → pos 0 <ℤ step ks j
    width j l = 0<_width (p.widths j l)

    of_two : length ks ≡ 2 → InUnits U (step vs 0) (step ks 0) (built_slope U ks vs i)
    of_two n = subst (InUnits U (step vs 0) (step ks 0)) (slope_of_two U ks vs i (omega arith)) (in_units_lem (step vs 0) u (width 0 (omega arith)))

    first : i ≡ 0 → 2 < length ks → EndRule U (step ks 0) (step vs 0) (step ks 1) (step vs 1) (built_slope U ks vs i)
    first e n = subst (EndRule U (step ks 0) (step vs 0) (step ks 1) (step vs 1)) (first_slope U ks vs i e n) (end_rule (step vs 0) (step vs 1) u (width 0 (omega arith)) (width 1 (omega arith)))

    inner : (j : ℕ) → i ≡ j + 1 → i + 1 < length ks → MeanRule U (step ks j) (step vs j) (step ks i) (step vs i) (built_slope U ks vs i)
    inner j e l =
        subst (MeanRule U (step ks j) (step vs j) (step ks i) (step vs i))
        (ap (λ (k : ℕ). inner_at U ks vs k i) {x = j} {y = i - 1} (omega arith) ∙ inner_slope_lem U ks vs i (omega arith) l)
        (mean_rule (step vs j) (step vs i) u (width j (omega arith)) (width i l))

    last : (j : ℕ) → i ≡ j + 2 → i + 1 ≡ length ks → EndRule U (step ks (j + 1)) (step vs (j + 1)) (step ks j) (step vs j) (built_slope U ks vs i)
    last j e l =
        subst (EndRule U (step ks (j + 1)) (step vs (j + 1)) (step ks j) (step vs j))
        (ap₂ (end_at U ks vs) {x = j + 1} {y = i - 1} {u = j} {v = i - 2} (omega arith) (omega arith) ∙ last_slope U ks vs i (omega arith) (omega arith))
        (end_rule (step vs (j + 1)) (step vs j) u (width (j + 1) (omega arith)) (width j (omega arith)))
