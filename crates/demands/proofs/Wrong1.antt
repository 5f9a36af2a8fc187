-- Wrong programs that break the first demand, each ours but for what is said of it. Between quotation marks are the words in which document 01 names it.
use Rattle.std.specs.Prelude.{Ok, ◌≡◌, refl, List, [], ◌∷◌, ℕ, zero, suc, ◌+◌, ◌^◌, ◌<◌, min, ℤ, pos, negsuc, ◌*ℤ◌, ◌<ℤ◌, length, set}
use Rattle.std.proofs.Common.{ap, arith, lit<, SFits, to_z, of_z}
use Rattle.std.specs.Int.Signed.{le_z_yes, lt_z_yes}
use Rattle.std.specs.Int.{w32}
use Rattle.integers.specs.Promise.{magnitude}
use Rattle.cubic.proofs.Monotone.{monotone_rising}
use Rattle.cubic.specs.Test.{line}
use Rattle.cubic.proofs.Test.{short_accepts}
use Rattle.rules.specs.Limits.{unit, UnitWithin, CountWithin, WidthWithin}
use Rattle.rules.specs.Refusals.{Given, done, refused, passed}
use Rattle.rules.specs.Order.{Same, one_more_cause, carried, one_given, stopped, went_on}
use Rattle.table.specs.declared.changed.Change.{Change}
use Rattle.table.specs.Table.{Table, table, entry, step, SameLengths, Holds, lengths_differ, width_outside, rise_outside, not_monotone, build_order, check_order}
use Rattle.table.specs.Accepted.{points_accepted, unit_passes, same_length_passes, count_passes, accepted_table}
use Rattle.table.specs.Tested.{points_by_test}
use Rattle.table.specs.WouldBe.{changed_by, HoldsAfter, change_order}
use Rattle.piece.specs.declared.Verdict.TheVariants.{Rising}
use Rattle.piece.specs.Promise.{rising, none, monotone}
use Rattle.position.specs.Position.{Belongs, inside, HoldsAt, of_table, evaluation_order}
use Rattle.position.specs.Pieces.{within_list}
use Rattle.position.specs.Refused.{as_checked, taken_inside}
use Rattle.change.specs.Figures.{point_1_moved_onto_point_2}
use Rattle.curve.specs.Curve.{Evaluated}
use Rattle.drive.specs.Drive.{resting, float_order}
use Rattle.drive.specs.Refused.{as_evaluated, refused_large}
use Rattle.demands.specs.Demands
use Rattle.demands.specs.Demands.{Call, judge, points, build, check, locate, evaluate, float_answer, changed_points, point, Outcome, opposite_ends, LooksAt, its_points, a_value, Demand1}
use Rattle.demands.specs.Ours.{May}
use Rattle.demands.proofs.BothMeet.{width_taken}
use Rattle.demands.specs.Shown.{by_a_build, by_a_check}
use Rattle.demands.proofs.SixteenGiven.{eighth, count, has_value}
use Rattle.demands.specs.Refuting.{within, above_8, no_unit, below_the_line, the_point_is_there, not_outside, numbers_differ}
use Rattle.demands.proofs.Programs.{outcome, answering, another_judge, another_points, another_build, another_check, another_locate, another_evaluate, another_float_answer, another_changed_points, another_point, its_cause, its_refusal, two, two_within, two_built, four, four_within, lowering}

-- ======== "Any points, slopes, positions and edits may come in, from any list of any length."

-- a program out of which nothing comes, asked for any of its calls
abbrev pub silent : (call : Call) → Outcome call → Type 0
silent call o = ⊥

-- What it is asked for: the same as `MayComeIn`, said again, so that the demand cannot be made to speak of fewer calls unseen.
abbrev pub Asked : Call → Type 0
Asked (float_answer t x) = (i : ℕ) → i < length t.values → SFits w32 (entry t.values i)
Asked (judge s h z m n) = Unit
Asked (points t) = Unit
Asked (build t) = Unit
Asked (check t) = Unit
Asked (locate t x) = Unit
Asked (evaluate t x) = Unit
Asked (changed_points c t) = Unit
Asked (point made c t) = Unit

pub a_call_without_an_answer : (call : Call) → Asked call → Demand1 (answering silent) → ⊥
a_call_without_an_answer (judge s h z m n) a d = (d.any_may_come_in (judge s h z m n) tt).1
a_call_without_an_answer (points t) a d = (d.any_may_come_in (points t) tt).1
a_call_without_an_answer (build t) a d = (d.any_may_come_in (build t) tt).1
a_call_without_an_answer (check t) a d = (d.any_may_come_in (check t) tt).1
a_call_without_an_answer (locate t x) a d = (d.any_may_come_in (locate t x) tt).1
a_call_without_an_answer (evaluate t x) a d = (d.any_may_come_in (evaluate t x) tt).1
a_call_without_an_answer (float_answer t x) a d = (d.any_may_come_in (float_answer t x) a).1
a_call_without_an_answer (changed_points c t) a d = (d.any_may_come_in (changed_points c t) tt).1
a_call_without_an_answer (point made c t) a d = (d.any_may_come_in (point made c t) tt).1

-- ======== "is given exactly when its cause holds and no earlier one does": a refusal without its cause

-- "a verdict, builder, evaluation or change that always refuses (demand 1: a refusal only for its cause ..)"
pub a_verdict_that_always_refuses : Demand1 (answering (another_judge (λ s h z m n o. o ≡ outcome 3 0 none tt))) → ⊥
a_verdict_that_always_refuses d = width_taken (within tt tt) 0 (its_cause d (judge 8 (pos 1) (pos 1) (pos 256) (pos 256)) (outcome 3 0 none tt) refl 3 (omega arith) refl)

pub a_builder_that_always_refuses : Demand1 (answering (another_build (λ t o. o ≡ outcome 2 0 tt t.slopes))) → ⊥
a_builder_that_always_refuses d = count_passes (count tt tt) 0 (its_cause d (build two) (outcome 2 0 tt two.slopes) refl 2 (omega arith) refl)

pub an_evaluation_that_always_refuses : Demand1 (answering (another_evaluate (λ t x o. o ≡ outcome 6 0 (pos 0) tt))) → ⊥
an_evaluation_that_always_refuses d = not_outside (within tt tt) (its_cause d (evaluate two (pos 1)) (outcome 6 0 (pos 0) tt) refl 6 (omega arith) refl)

pub a_change_that_always_refuses : Demand1 (answering (another_point (λ made c t o. o ≡ outcome 7 0 tt t))) → ⊥
a_change_that_always_refuses d = the_point_is_there (lit< tt) (its_cause d (point [] lowering four) (outcome 7 0 tt four) refl 7 (omega arith) refl)

-- ======== the other way round: a cause without its refusal, or with another number or place

-- the width of piece 1 is outside its limits, and that of piece 0 is not
second_width : {t : Table} → UnitWithin t.s → SameLengths t.knots t.values t.slopes → CountWithin (length t.knots) → 2 < length t.knots → WidthWithin (step t.knots 0) → (WidthWithin (step t.knots 1) → ⊥) → Given (Holds t) build_order 3 1
second_width {t} u s n l w f = passed (unit_passes u) (passed (same_length_passes s) (passed (count_passes n) (refused (width_outside {i = 1} l f) before)))
  where
    before : (q : ℕ) → q < 1 → Holds t 3 q → ⊥
    before zero l (width_outside m f) = f w
    before (suc q) l h = absurd (omega (arith, l))

pub a_check_that_never_refuses : Demand1 (answering (another_check (λ t o. o ≡ outcome 0 0 tt tt))) → ⊥
a_check_that_never_refuses d = absurd (omega (arith, (its_refusal d (check (opposite_ends 8 (pos 0) (pos 0) (pos 0) (pos 0))) (outcome 0 0 tt tt) refl (omega arith) (by_a_check eighth (pos 0) (pos 0) (pos 0) (pos 0))).0))

-- (0,0), (1,2000000), (1,0): "So a rise fault at piece 0 and a width fault at piece 9 give 3 at place 9"
abbrev late : Table
late = table 8 (pos 0 ∷ pos 1 ∷ pos 1 ∷ []) (pos 0 ∷ pos 2000000 ∷ pos 0 ∷ []) (pos 0 ∷ pos 0 ∷ pos 0 ∷ [])

late_refused : Given (Holds late) build_order 3 1
late_refused = second_width {t = late} eighth (record { values = refl; slopes = refl }) (count tt tt) (lit< tt) (within tt tt) (λ w. w.low.le)

-- the first faulty piece decides, whatever stands behind it
pub data Faulty (t : Table) (i : ℕ) : ℕ → Type 0 where
  by_its_width : Holds t 3 i → Faulty t i 3
  by_its_rise : (Holds t 3 i → ⊥) → Holds t 4 i → Faulty t i 4

abbrev pub FirstFaulty : Table → (number place : ℕ) → Type 0
FirstFaulty t number place = Faulty t place number × ((j n : ℕ) → j < place → Faulty t j n → ⊥)

pub the_first_faulty_piece_decides : Demand1 (answering (another_points (λ t o. FirstFaulty t o.number o.place))) → ⊥
the_first_faulty_piece_decides d = absurd (omega (arith, (its_refusal d (points late) (outcome 4 0 tt tt) (by_its_rise wide (rise_outside (lit< tt) (λ w. w.high.le)), λ j n l. absurd (omega (arith, l))) (omega arith) late_refused).0))
  where
    wide : Holds late 3 0 → ⊥
    wide (width_outside l f) = f (within tt tt)

-- rises are asked before widths
pub another_order : Demand1 (answering (another_points (λ t o. Given (Holds t) (12 ∷ 1 ∷ 2 ∷ 4 ∷ 3 ∷ []) o.number o.place))) → ⊥
another_order d =
    absurd (omega (
      arith,
      (its_refusal d (points late) (outcome 4 0 tt tt)
          (passed (unit_passes eighth) (passed (same_length_passes (record { values = refl; slopes = refl })) (passed (count_passes (count tt tt)) (refused (rise_outside (lit< tt) (λ w. w.high.le)) (λ q l. absurd (omega (arith, l))))))) (omega arith) late_refused).0,
    ))

pub a_place_that_is_always_0 : Demand1 (answering (another_points (λ t o. (p : ℕ) × (Given (Holds t) build_order o.number p × (o.place ≡ 0))))) → ⊥
a_place_that_is_always_0 d = absurd (omega (arith, (its_refusal d (points late) (outcome 3 0 tt tt) (1, (late_refused, refl)) (omega arith) late_refused).1))

-- 3 and 4 are asked of the points as they are, and not as they would be: "Point 1 changed to (2,1) instead: refused by 3 at place 1"
abbrev onto_the_next : Change
onto_the_next = record { point = 1; knot = pos 2; value = pos 1 }

onto_the_next_refused : Given (HoldsAfter onto_the_next four) change_order 3 1
onto_the_next_refused = point_1_moved_onto_point_2.refusal

pub a_change_asked_of_the_old_points : Demand1 (answering (another_changed_points (λ c t o. Given (Holds t) build_order o.number o.place))) → ⊥
a_change_asked_of_the_old_points d =
    absurd (omega (arith, (its_refusal d (changed_points onto_the_next four) (outcome 0 0 tt tt) (points_accepted eighth four_within refl) (omega arith) onto_the_next_refused).0))

-- "Looking at wanted pieces only, so that a fault elsewhere in the table goes unreported": (0,0), (3,−10), (3,0) at position 1
abbrev faulty_elsewhere : Table
faulty_elsewhere = table 8 (pos 0 ∷ pos 3 ∷ pos 3 ∷ []) (pos 0 ∷ negsuc 9 ∷ pos 0 ∷ []) (negsuc 852 ∷ negsuc 852 ∷ pos 0 ∷ [])

-- a piece by itself, as a table of two points
abbrev piece_alone : Table → ℕ → Table
piece_alone t i = table t.s (two_of t.knots) (two_of t.values) (two_of t.slopes)
  where
    two_of : List ℤ → List ℤ
    two_of list = entry list i ∷ entry list (i + 1) ∷ []

pub only_the_wanted_piece_looked_at : Demand1 (answering (another_evaluate (λ t x o. (i : ℕ) × (Belongs t.knots x i × Evaluated (piece_alone t i) x o.number o.place o.answer)))) → ⊥
only_the_wanted_piece_looked_at d =
    absurd (omega (
      arith,
      (its_refusal d (evaluate faulty_elsewhere (pos 1)) (outcome 0 0 (negsuc 2) tt) (0, (in_piece_0, has_value {before = two.slopes} (within tt tt) in_two refl (two_built two.slopes refl))) (omega arith)
          (stopped (6 ∷ []) (λ e. omega arith) (as_checked (stopped (5 ∷ []) (λ e. omega arith) (second_width {t = faulty_elsewhere} eighth (record { values = refl; slopes = refl }) (count tt tt) (lit< tt) (within tt tt) (λ w. w.low.le)))))).0,
    ))
  where
    in_piece_0 : Belongs faulty_elsewhere.knots (pos 1) 0
    in_piece_0 = inside {i = 0} (lit< tt) (le_z_yes tt) (lt_z_yes tt)

    in_two : Belongs two.knots (pos 1) 0
    in_two = inside {i = 0} (lit< tt) (le_z_yes tt) (lt_z_yes tt)

-- no piece is too large for the float answer: "h = 1,024 with z = 1,024 has a float answer; z = 1,025 has none"
abbrev large : Table
large = table 8 (pos 0 ∷ pos 1024 ∷ []) (pos 0 ∷ pos 1025 ∷ []) (pos 0 ∷ pos 0 ∷ [])

large_passes : Given (Holds large) check_order 0 0
large_passes = went_on refl (points_accepted eighth (points_by_test _ _ refl (count tt tt) tt) refl) (passed no_bend done)
  where
    no_bend : (i : ℕ) → Holds large 5 i → ⊥
    no_bend zero (not_monotone l f) = f (monotone_rising (lt_z_yes tt) (short_accepts (line (le_z_yes tt) (le_z_yes tt) (le_z_yes tt))))
    no_bend (suc i) (not_monotone l f) = absurd (omega (arith, l))

pub no_piece_too_large : Demand1 (answering (another_float_answer (λ t x o. Given (HoldsAt t x) evaluation_order o.number o.place))) → ⊥
no_piece_too_large d =
    let evaluated : Given (HoldsAt large (pos 0)) evaluation_order 0 0 = went_on refl (as_checked large_passes) (taken_inside (within tt tt)) in
    absurd (omega (
      arith,
      (its_refusal d (float_answer large (pos 0)) (outcome 0 0 resting tt) evaluated (omega arith)
          (went_on refl (as_evaluated evaluated) (refused_large (accepted_table refl large_passes) (inside {i = 0} (lit< tt) (le_z_yes tt) (lt_z_yes tt)) (record { above = lt_z_yes tt })))).0,
    ))

-- ======== "A larger s is refusal 12, place 0, asked first." (document 02, request 8)

-- two points and no values, in the unit 9
abbrev nine : Table
nine = table 9 (pos 0 ∷ pos 1 ∷ []) [] (pos 0 ∷ pos 0 ∷ [])

-- 12 is asked after 1
pub the_unit_asked_after_the_lengths : Demand1 (answering (another_points (λ t o. Given (Holds t) (1 ∷ 12 ∷ 2 ∷ 3 ∷ 4 ∷ []) o.number o.place))) → ⊥
the_unit_asked_after_the_lengths d =
    absurd (omega (
      arith,
      (its_refusal d (points nine) (outcome 1 0 tt tt) (refused (lengths_differ (λ s. omega (arith, s.values))) (λ q l. absurd (omega (arith, l)))) (omega arith) (refused (no_unit tt) (λ q l. absurd (omega (arith, l))))).0,
    ))

-- a unit above 8 is taken for 8
abbrev pub at_most_8 : Table → Table
at_most_8 t = table (min t.s 8) t.knots t.values t.slopes

pub nine_taken_for_eight : Demand1 (answering (another_points (λ t o. Given (Holds (at_most_8 t)) build_order o.number o.place))) → ⊥
nine_taken_for_eight d =
    absurd (omega (
      arith,
      (its_refusal d (points (table 9 two.knots two.values two.slopes)) (outcome 0 0 tt tt) (points_accepted eighth two_within refl) (omega arith) (refused (no_unit tt) (λ q l. absurd (omega (arith, l))))).0,
    ))

-- a verdict on a piece that is not asked for its unit: it is that in 1/256 where s is above 8
pub a_piece_in_any_unit : Demand1 (answering (another_judge (λ s h z m n o. May (judge (min s 8) h z m n) (outcome o.number o.place o.answer tt)))) → ⊥
a_piece_in_any_unit d =
    absurd (omega (
      arith,
      (its_refusal d (judge 9 (pos 1) (pos 1) (pos 256) (pos 256)) (outcome 0 0 rising tt)
          (record { verdict = Ok Rising; says = refl; promised = monotone eighth (within tt tt) (within tt tt) (below_the_line tt tt tt tt) }) (omega arith) (refused (Demands.no_such_unit (above_8 tt)) (λ q l. absurd (omega (arith, l))))).0,
    ))

-- the limit of the float answer in units: at s = 0 a piece of width 1,024 and rise 1,025 is then answered, which is "refused by 8 exactly if |z|·h³ > 2^40"
pub data HoldsInUnits (t : Table) (x : ℤ) : ℕ → ℕ → Type 0 where
  another_cause : {c i : ℕ} → HoldsAt t x c i → HoldsInUnits t x c i
  too_large_in_units : {i : ℕ} → Belongs t.knots x i → pos (2 ^ 48) <ℤ (unit t.s *ℤ (magnitude (step t.values i) *ℤ (step t.knots i *ℤ step t.knots i *ℤ step t.knots i))) → HoldsInUnits t x 8 i

pub the_limit_of_the_float_answer_in_units : Demand1 (answering (another_float_answer (λ t x o. Given (HoldsInUnits t x) float_order o.number o.place))) → ⊥
the_limit_of_the_float_answer_in_units d =
    let evaluated : Given (HoldsAt whole (pos 0)) evaluation_order 0 0 = went_on refl (as_checked whole_passes) (taken_inside (within tt tt)) in
    absurd (omega (
      arith,
      (its_refusal d (float_answer whole (pos 0)) (outcome 0 0 resting tt) (went_on refl (carried beside_8 evaluated) (passed small done)) (omega arith)
          (went_on refl (as_evaluated evaluated) (refused_large (accepted_table refl whole_passes) in_piece_0 (record { above = lt_z_yes tt })))).0,
    ))
  where
    whole : Table
    whole = table 0 (pos 0 ∷ pos 1024 ∷ []) (pos 0 ∷ pos 1025 ∷ []) (pos 0 ∷ pos 0 ∷ [])

    in_piece_0 : Belongs whole.knots (pos 0) 0
    in_piece_0 = inside {i = 0} (lit< tt) (le_z_yes tt) (lt_z_yes tt)

    whole_passes : Given (Holds whole) check_order 0 0
    whole_passes = went_on refl (points_accepted (record { high = omega arith }) (points_by_test _ _ refl (count tt tt) tt) refl) (passed no_bend done)
      where
        no_bend : (i : ℕ) → Holds whole 5 i → ⊥
        no_bend zero (not_monotone l f) = f (below_the_line tt tt tt tt)
        no_bend (suc i) (not_monotone l f) = absurd (omega (arith, l))

    of_the_position : (c p : ℕ) → (c ≡ 8 → ⊥) → HoldsInUnits whole (pos 0) c p → HoldsAt whole (pos 0) c p
    of_the_position c p f (another_cause h) = h
    of_the_position c p f (too_large_in_units b l) = absurd (f refl)

    beside_8 : Same (HoldsAt whole (pos 0)) (HoldsInUnits whole (pos 0)) evaluation_order
    beside_8 = one_more_cause 8 evaluation_order (λ _ _. another_cause) of_the_position tt

    small : (p : ℕ) → HoldsInUnits whole (pos 0) 8 p → ⊥
    small p (another_cause (of_table h)) = elim h [ ]
    small zero (too_large_in_units b l) = l.lt
    small (suc p) (too_large_in_units b l) = absurd (omega (arith, within_list b))

-- ======== "nothing is computed from a wrapped number"

-- "Subtracting two knots in 32 bits. The pair above then has width 1."
abbrev wrapped : ℤ → ℤ
wrapped x = to_z w32 (of_z w32 x)

pub data HoldsWrapped (t : Table) : ℕ → ℕ → Type 0 where
  another_cause : {c i : ℕ} → (c ≡ 3 → ⊥) → Holds t c i → HoldsWrapped t c i
  width_wrapped : {i : ℕ} → i + 1 < length t.knots → (WidthWithin (wrapped (step t.knots i)) → ⊥) → HoldsWrapped t 3 i

pub two_knots_subtracted_in_32_bits : Demand1 (answering (another_points (λ t o. Given (HoldsWrapped t) build_order o.number o.place))) → ⊥
two_knots_subtracted_in_32_bits d = absurd (omega (arith, (d.counts_at_opposite_ends_are_refused {call = points ends} {o = outcome 0 0 tt tt} eighth its_points (passed units (passed lengths (passed number (passed widths (passed rises done)))))).0))
  where
    ends : Table
    ends = opposite_ends 8 (pos 0) (pos 0) (pos 0) (pos 0)

    units : (q : ℕ) → HoldsWrapped ends 12 q → ⊥
    units q (another_cause f h) = unit_passes eighth q h

    lengths : (q : ℕ) → HoldsWrapped ends 1 q → ⊥
    lengths q (another_cause f h) = same_length_passes (record { values = refl; slopes = refl }) q h

    number : (q : ℕ) → HoldsWrapped ends 2 q → ⊥
    number q (another_cause f h) = count_passes (count tt tt) q h

    widths : (q : ℕ) → HoldsWrapped ends 3 q → ⊥
    widths q (another_cause f h) = f refl
    widths zero (width_wrapped l f) = f (within tt tt)
    widths (suc q) (width_wrapped l f) = absurd (omega (arith, l))

    rises : (q : ℕ) → HoldsWrapped ends 4 q → ⊥
    rises zero (another_cause f (rise_outside l g)) = g (within tt tt)
    rises (suc q) (another_cause f (rise_outside l g)) = absurd (omega (arith, l))

-- ======== "and nobody is asked to have tested first"

pub a_program_that_asks_for_checked_tables : Demand1 (record { Asks = λ call. (t : Table) → LooksAt t call → Given (Holds t) check_order 0 0; May = May }) → ⊥
a_program_that_asks_for_checked_tables d =
    let ends = opposite_ends 8 (pos 0) (pos 0) (pos 0) (pos 0) in
    absurd (omega (arith, (one_given (d.nobody_is_asked (evaluate ends (pos 0)) ends (a_value (pos 0))) (by_a_check eighth (pos 0) (pos 0) (pos 0) (pos 0))).0))

-- ======== 0 has place 0

pub done_at_another_place : Demand1 (answering (another_locate (λ t x o. o ≡ outcome 0 1 0 tt))) → ⊥
done_at_another_place d = absurd (omega (arith, d.done_at_place_0 {call = locate two (pos 1)} {o = outcome 0 1 0 tt} refl refl))

-- ======== "and changes no list we lent you"

pub a_builder_that_writes_though_it_refuses : Demand1 (answering (another_build (λ t o. Given (Holds t) build_order o.number o.place × (o.lists ≡ set t.slopes 0 (pos 0))))) → ⊥
a_builder_that_writes_though_it_refuses d =
    let ends = opposite_ends 8 (pos 0) (pos 0) (pos 1) (pos 1) in
    numbers_differ tt (ap (λ (slopes : List ℤ). entry slopes 0) (d.changes_no_list {call = build ends} {o = outcome 3 0 tt (pos 0 ∷ pos 1 ∷ [])} (by_a_build eighth (pos 0) (pos 0) (pos 1) (pos 1), refl) (λ e. omega (arith, e))))

pub a_change_that_writes_though_it_refuses : Demand1 (answering (another_point (λ made c t o. Given (HoldsAfter c t) change_order o.number o.place × (o.lists ≡ changed_by c t)))) → ⊥
a_change_that_writes_though_it_refuses d =
    numbers_differ tt (ap (λ (t : Table). entry t.knots 1) (d.changes_no_list {call = point [] onto_the_next four} {o = outcome 3 1 tt (changed_by onto_the_next four)} (onto_the_next_refused, refl) (λ e. omega (arith, e))))
