-- Wrong programs that back up, each ours but for what is said of it.
use Rattle.std.specs.Prelude.{◌≡◌, refl, List, [], ◌∷◌, ℕ, zero, suc, ◌+◌, ◌<◌, ℤ, pos, negsuc, ◌+ℤ◌, ◌-ℤ◌, ◌*ℤ◌, ◌≤ℤ◌, length}
use Rattle.std.proofs.Common.{⊎_elim, arith, lit<, lit≤}
use Rattle.std.specs.Int.Signed.{le_z_yes, lt_z_yes}
use Rattle.integers.specs.Promise.{floor_of}
use Rattle.cubic.specs.Value.{risen}
use Rattle.rules.specs.Limits.{unit}
use Rattle.rules.specs.Refusals.{Given, refused, answered, nothing}
use Rattle.rules.specs.Order.{went_on}
use Rattle.table.specs.declared.changed.Change.{Change}
use Rattle.table.specs.Table.{Table, table, entry, step, Holds, not_monotone, build_order, check_order}
use Rattle.table.specs.Accepted.{PointsWithin, points_accepted}
use Rattle.table.specs.Tested.{points_by_test}
use Rattle.table.specs.WouldBe.{changed_by}
use Rattle.slopes.specs.EveryPiece.{a_built_table_passes_the_table_check}
use Rattle.position.specs.Position.{Belongs, inside, WithinKnots, HoldsAt, evaluation_order}
use Rattle.position.specs.Refused.{table_refused, none_refused}
use Rattle.curve.specs.Curve.{value_on, ValueAt}
use Rattle.demands.specs.Demands.{build, Call, check, evaluate, Outcome, none, next}
use Rattle.demands.specs.Ours.{May}
use Rattle.demands.specs.NeverBacksUp.{NeverBacksUp}
use Rattle.demands.proofs.SixteenGiven.{eighth, count, has_slopes}
use Rattle.demands.specs.Refuting.{within, against_its_rise, numbers_differ}
use Rattle.demands.proofs.Programs.{outcome, may, answering, another_check, another_evaluate, another_point, InOrderAtTheCounts, a_rise_at_its_counts, a_fall_at_its_counts, a_level_at_its_counts, two, two_built, two_passes}
use Rattle.demands.proofs.Wrong2.{valued_by}

-- ======== "For any table the check accepts": an answer exactly there

pub an_evaluation_that_always_refuses : NeverBacksUp (answering (another_evaluate (λ t x o. o ≡ outcome 6 0 (pos 0) tt))) → ⊥
an_evaluation_that_always_refuses s =
    absurd (omega (arith, (s.answered_exactly_then {t = two} {x = pos 1} {c = outcome 0 0 tt tt} {o = outcome 6 0 (pos 0) tt} (may (check two) (outcome 0 0 tt tt) two_passes) refl).1 (refl, (0, (lit< tt, (le_z_yes tt, le_z_yes tt))))))

-- ======== A table that is followed whether it bends or not: its points are looked at, and not its slopes

abbrev pub whether_it_bends_or_not : (call : Call) → Outcome call → Type 0
whether_it_bends_or_not = another_evaluate (λ t x o. Given (Holds t) build_order 0 0 × ((o.number ≡ 0) × ValueAt t x o.answer))

-- Over the counts 0 to 3, from the value 0, with the slope 20000 at the left end and 0 at the right one, the arm then goes 0, 37, 25, 10; turned over 0, −37, −25, −10. Without a rise, and with the slope 1000, it goes 0, 2, 1, 0.
abbrev 0-3 : List ℤ
0-3 = pos 0 ∷ pos 3 ∷ []

abbrev swinging : (right slope : ℤ) → Table
swinging right slope = table 8 0-3 (pos 0 ∷ right ∷ []) (slope ∷ pos 0 ∷ [])

abbrev up : Table
up = swinging (pos 10) (pos 20000)

abbrev down : Table
down = swinging (negsuc 9) (negsuc 19999)

abbrev level : Table
level = swinging (pos 0) (pos 1000)

at_1 : Belongs 0-3 (pos 1) 0
at_1 = inside {i = 0} (lit< tt) (le_z_yes tt) (lt_z_yes tt)

at_2 : Belongs 0-3 (pos 2) 0
at_2 = inside {i = 0} (lit< tt) (le_z_yes tt) (lt_z_yes tt)

module _ {right slope : ℤ} (p : PointsWithin 0-3 (pos 0 ∷ right ∷ [])) {x : ℤ} (b : Belongs 0-3 x 0) where
  followed : (v : ℤ) → v ≡ value_on (swinging right slope) 0 x → whether_it_bends_or_not (evaluate (swinging right slope) x) (outcome 0 0 v tt)
  followed v e = (points_accepted eighth p refl, (refl, record { piece = 0; belongs = b; is = e }))

up_within : PointsWithin 0-3 (pos 0 ∷ pos 10 ∷ [])
up_within = points_by_test _ _ refl (count tt tt) tt

down_within : PointsWithin 0-3 (pos 0 ∷ negsuc 9 ∷ [])
down_within = points_by_test _ _ refl (count tt tt) tt

level_within : PointsWithin 0-3 (pos 0 ∷ pos 0 ∷ [])
level_within = points_by_test _ _ refl (count tt tt) tt

up_bends : Given (Holds up) check_order 5 0
up_bends = went_on refl (points_accepted eighth up_within refl) (refused (not_monotone (lit< tt) (against_its_rise 1 2 tt tt tt tt)) (λ _ l _. absurd (omega (arith, l))))

pub an_answer_on_a_table_that_bends : NeverBacksUp (answering whether_it_bends_or_not) → ⊥
an_answer_on_a_table_that_bends s =
    absurd (omega (arith, ((s.answered_exactly_then {t = up} {x = pos 1} {c = outcome 5 0 tt tt} {o = outcome 0 0 (pos 37) tt} (may (check up) (outcome 5 0 tt tt) up_bends) (followed up_within at_1 (pos 37) refl)).0 refl).0))

pub back_down_on_a_rise : NeverBacksUp (answering whether_it_bends_or_not) → ⊥
back_down_on_a_rise s =
    (s.on_a_rising_piece {t = up} {o = outcome 0 0 (pos 37) tt} {p = outcome 0 0 (pos 25) tt} (followed up_within at_1 (pos 37) refl) refl (followed up_within at_2 (pos 25) refl) refl
    0 (lit< tt) (le_z_yes tt) (le_z_yes tt) (le_z_yes tt) (lt_z_yes tt)).le

pub back_up_on_a_fall : NeverBacksUp (answering whether_it_bends_or_not) → ⊥
back_up_on_a_fall s =
    (s.on_a_falling_piece {t = down} {o = outcome 0 0 (negsuc 36) tt} {p = outcome 0 0 (negsuc 24) tt} (followed down_within at_1 (negsuc 36) refl) refl (followed down_within at_2 (negsuc 24) refl) refl
    0 (lit< tt) (le_z_yes tt) (le_z_yes tt) (le_z_yes tt) (lt_z_yes tt)).le

pub off_a_level : NeverBacksUp (answering whether_it_bends_or_not) → ⊥
off_a_level s = numbers_differ tt (s.on_a_flat_piece {t = level} {o = outcome 0 0 (pos 2) tt} (followed level_within at_1 (pos 2) refl) refl 0 (lit< tt) (le_z_yes tt) (le_z_yes tt) refl)

pub beyond_the_right_value : NeverBacksUp (answering whether_it_bends_or_not) → ⊥
beyond_the_right_value s =
    ⊎_elim (λ b. b.1.le) (λ b. b.1.le) (s.on_every_piece {t = up} {o = outcome 0 0 (pos 37) tt} (followed up_within at_1 (pos 37) refl) refl 0 (lit< tt) (le_z_yes tt) (le_z_yes tt))

-- two points have one piece
only_one : (P : ℕ → Type 0) → P 0 → (i : ℕ) → i + 1 < 2 → P i
only_one P p zero l = p
only_one P p (suc i) l = absurd (omega (arith, l))

pub back_down_in_a_rising_table : NeverBacksUp (answering whether_it_bends_or_not) → ⊥
back_down_in_a_rising_table s =
    (s.over_the_whole_table {t = up} {o = outcome 0 0 (pos 37) tt} {p = outcome 0 0 (pos 25) tt} (followed up_within at_1 (pos 37) refl) refl (followed up_within at_2 (pos 25) refl) refl
    (only_one (λ i. pos 0 ≤ℤ step up.values i) (le_z_yes tt)) (le_z_yes tt)).le

pub back_up_in_a_falling_table : NeverBacksUp (answering whether_it_bends_or_not) → ⊥
back_up_in_a_falling_table s =
    (s.over_the_whole_table_turned_over {t = down} {o = outcome 0 0 (negsuc 36) tt} {p = outcome 0 0 (negsuc 24) tt} (followed down_within at_1 (negsuc 36) refl) refl (followed down_within at_2 (negsuc 24) refl) refl
    (only_one (λ i. step down.values i ≤ℤ pos 0) (le_z_yes tt)) (le_z_yes tt)).le

-- ======== Values that are wrong at the knots, or everywhere

-- Five too low at the left knot of each piece: from one such knot up to the count before the next the answers are in order, and the step onto it goes from 7 back to 5.
abbrev pub low_at_left_knots : (U left h z m n t : ℤ) → ℤ
low_at_left_knots U left h z m n t = left +ℤ risen U h z m n t -ℤ pos 5 *ℤ floor_of (h -ℤ t) h

pub a_step_back_onto_a_knot : NeverBacksUp (answering (valued_by low_at_left_knots)) → ⊥
a_step_back_onto_a_knot s =
    (s.on_a_rising_piece {t = steady} {x = pos 2} {y = pos 3} {o = outcome 0 0 (pos 7) tt} {p = outcome 0 0 (pos 5) tt} (there (within tt tt), answered (0, (inside {i = 0} (lit< tt) (le_z_yes tt) (lt_z_yes tt), refl))) refl
    (there (within tt tt), answered (1, (inside {i = 1} (lit< tt) (le_z_yes tt) (lt_z_yes tt), refl))) refl 0 (lit< tt) (le_z_yes tt) (le_z_yes tt) (le_z_yes tt) (lt_z_yes tt)).le
  where
    -- (0,0), (3,10), (6,20)
    steady : Table
    steady = table 8 (pos 0 ∷ pos 3 ∷ pos 6 ∷ []) (pos 0 ∷ pos 10 ∷ pos 20 ∷ []) (pos 853 ∷ pos 853 ∷ pos 853 ∷ [])

    there : {x : ℤ} → WithinKnots steady.knots x → Given (HoldsAt steady x) evaluation_order 0 0
    there w = none_refused (a_built_table_passes_the_table_check (has_slopes {before = steady.slopes} eighth (points_by_test _ _ refl (count tt tt) tt) refl refl)) refl w

-- one too high everywhere: in order, and beyond the values
abbrev pub one_too_high : (U left h z m n t : ℤ) → ℤ
one_too_high U left h z m n t = left +ℤ risen U h z m n t +ℤ pos 1

pub an_arm_one_too_high : NeverBacksUp (answering (valued_by one_too_high)) → ⊥
an_arm_one_too_high s =
    ⊎_elim (λ b. b.1.le) (λ b. b.1.le)
    (s.on_every_piece {t = two} {x = pos 0} {o = outcome 0 0 (pos 1) tt} (none_refused two_passes refl (within tt tt), answered (0, (inside {i = 0} (lit< tt) (le_z_yes tt) (lt_z_yes tt), refl))) refl 0 (lit< tt) (le_z_yes tt) (le_z_yes tt))

-- ======== "the exact cubic at any two fractions of its width"

-- A check that looks at a piece at its counts alone. With the slopes 769 and 0 a piece of width 1 and rise 1 is in order at both of them, and 769/771 of the way along it stands higher than at its end; turned over, lower. With 1 and −1 one
-- without a rise is level at both, and not between them.
pub data CheckedAtTheCounts (t : Table) : Outcome (check t) → Type 0 where
  accepted : Given (Holds t) build_order 0 0 → ((i : ℕ) → i + 1 < length t.knots → InOrderAtTheCounts (unit t.s) (step t.knots i) (step t.values i) (entry t.slopes i) (entry t.slopes (i + 1))) → CheckedAtTheCounts t (outcome 0 0 tt tt)
  otherwise : {o : Outcome (check t)} → (((i : ℕ) → i + 1 < length t.knots → InOrderAtTheCounts (unit t.s) (step t.knots i) (step t.values i) (entry t.slopes i) (entry t.slopes (i + 1))) → ⊥) → May (check t) o → CheckedAtTheCounts t o

abbrev narrow : (right left-slope right_slope : ℤ) → Table
narrow right m n = table 8 (pos 0 ∷ pos 1 ∷ []) (pos 0 ∷ right ∷ []) (m ∷ n ∷ [])

so_accepted : {right m n : ℤ} → PointsWithin (pos 0 ∷ pos 1 ∷ []) (pos 0 ∷ right ∷ []) → InOrderAtTheCounts (unit 8) (pos 1) (right -ℤ pos 0) m n → CheckedAtTheCounts (narrow right m n) (outcome 0 0 tt tt)
so_accepted {right} {m} {n} p c =
    let t = narrow right m n in
    accepted (points_accepted eighth p refl) (only_one (λ i. InOrderAtTheCounts (unit 8) (step t.knots i) (step t.values i) (entry t.slopes i) (entry t.slopes (i + 1))) c)

rise_accepted : CheckedAtTheCounts (narrow (pos 1) (pos 769) (pos 0)) (outcome 0 0 tt tt)
rise_accepted = so_accepted (points_by_test _ _ refl (count tt tt) tt) a_rise_at_its_counts

pub a_rise_checked_at_its_counts : NeverBacksUp (answering (another_check CheckedAtTheCounts)) → ⊥
a_rise_checked_at_its_counts s = ((s.so_is_the_exact_cubic {t = narrow (pos 1) (pos 769) (pos 0)} {c = outcome 0 0 tt tt} rise_accepted refl 0 (lit< tt)).rising (lt_z_yes tt) 769 771 1 1 (lit≤ tt) (lit≤ tt) (lit≤ tt) (lit≤ tt) (lit≤ tt)).le

pub a_fall_checked_at_its_counts : NeverBacksUp (answering (another_check CheckedAtTheCounts)) → ⊥
a_fall_checked_at_its_counts s =
    ((s.so_is_the_exact_cubic {t = narrow (negsuc 0) (negsuc 768) (pos 0)} {c = outcome 0 0 tt tt} (so_accepted (points_by_test _ _ refl (count tt tt) tt) a_fall_at_its_counts) refl 0 (lit< tt)
    ).falling (lt_z_yes tt) 769 771 1 1 (lit≤ tt) (lit≤ tt) (lit≤ tt) (lit≤ tt) (lit≤ tt)).le

pub a_level_checked_at_its_counts : NeverBacksUp (answering (another_check CheckedAtTheCounts)) → ⊥
a_level_checked_at_its_counts s =
    numbers_differ tt
    ((s.so_is_the_exact_cubic {t = narrow (pos 0) (pos 1) (negsuc 0)} {c = outcome 0 0 tt tt} (so_accepted (points_by_test _ _ refl (count tt tt) tt) a_level_at_its_counts) refl 0 (lit< tt)).flat refl 1 2 (lit≤ tt) (lit≤ tt))

pub a_cubic_beyond_the_right_value : NeverBacksUp (answering (another_check CheckedAtTheCounts)) → ⊥
a_cubic_beyond_the_right_value s =
    ⊎_elim (λ b. b.1.le) (λ b. b.1.le)
    ((s.so_is_the_exact_cubic {t = narrow (pos 1) (pos 769) (pos 0)} {c = outcome 0 0 tt tt} rise_accepted refl 0 (lit< tt)).between 769 771 (lit≤ tt) (lit≤ tt))

-- ======== "from any list of changes"

-- A change that writes the point, asks nothing and renews nothing.
abbrev pub written_unasked : (call : Call) → Outcome call → Type 0
written_unasked = another_point (λ made c t o. o ≡ outcome 0 0 tt (changed_by c t))

-- point 1 of (0,0), (3,−10), with the slopes −853, −853, put to (3,10): the table bends, and there is no answer at 0
pub a_change_that_renews_no_slope : NeverBacksUp (answering written_unasked) → ⊥
a_change_that_renews_no_slope s =
    absurd (omega (
      arith,
      (s.after_any_changes {t = two} {b = outcome 0 0 tt two.slopes} {changes = lifting ∷ []} {u = changed_by lifting two} {x = pos 0} {y = pos 0} {o = outcome 5 0 (pos 0) tt} {p = outcome 5 0 (pos 0) tt}
          (may (build two) (outcome 0 0 tt two.slopes) (two_built two.slopes refl)) refl (next refl none) no_answer no_answer 0 (lit< tt) (le_z_yes tt) (le_z_yes tt) (le_z_yes tt)).0.0,
    ))
  where
    lifting : Change
    lifting = record { point = 1; knot = pos 3; value = pos 10 }

    bends : Given (Holds (changed_by lifting two)) check_order 5 0
    bends = went_on refl (points_accepted eighth up_within refl) (refused (not_monotone (lit< tt) (against_its_rise 0 1 tt tt tt tt)) (λ _ l _. absurd (omega (arith, l))))

    no_answer : May (evaluate (changed_by lifting two) (pos 0)) (outcome 5 0 (pos 0) tt)
    no_answer = may (evaluate (changed_by lifting two) (pos 0)) (outcome 5 0 (pos 0) tt) (record { refusal = table_refused bends (λ e. omega (arith, e)); value = nothing })

-- The accident: point 0 is put to the last count of 32 bits and point 1 to the first, and their difference wraps to 1.
pub counts_put_to_opposite_ends : NeverBacksUp (answering written_unasked) → ⊥
counts_put_to_opposite_ends s =
    (s.no_width_has_wrapped {t = two} {b = outcome 0 0 tt two.slopes} {changes = to_the_last ∷ to_the_first ∷ []} {u = changed_by to_the_first (changed_by to_the_last two)} (may (build two) (outcome 0 0 tt two.slopes) (two_built two.slopes refl)) refl (next refl (next refl none)) 0 (lit< tt)).low.le
  where
    to_the_last : Change
    to_the_last = record { point = 0; knot = pos 2147483647; value = pos 0 }

    to_the_first : Change
    to_the_first = record { point = 1; knot = negsuc 2147483647; value = negsuc 9 }
