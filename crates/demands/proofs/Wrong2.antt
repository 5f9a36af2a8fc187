-- Wrong programs that break the second demand, each ours but for what is said of it. Between quotation marks are the words in which document 01 names it.
use Rattle.std.specs.Prelude.{◌≡◌, refl, List, [], ◌∷◌, ℕ, ◌+◌, ℤ, pos, negsuc, neg_ℤ, ◌+ℤ◌, ◌-ℤ◌, ◌*ℤ◌, ◌≤ℤ◌, ◌<ℤ◌, length, set}
use Rattle.std.proofs.Common.{arith, lit<, lit≤}
use Rattle.std.specs.Int.Signed.{le_z_yes, lt_z_yes}
use Rattle.integers.specs.Promise.{floor_of, nearest_of, magnitude, with_sign, toward_zero}
use Rattle.cubic.specs.Slopes.{mean_below, mean}
use Rattle.cubic.specs.Value.{numerator, denominator, risen}
use Rattle.cubic.proofs.Monotone.{monotone_rising}
use Rattle.cubic.specs.Test.{line, oval}
use Rattle.cubic.proofs.Test.{short_accepts}
use Rattle.rules.specs.Limits.{unit, UnitWithin}
use Rattle.rules.specs.Refusals.{Given, afterwards, Answered, answered}
use Rattle.table.specs.Table.{Table, table, entry, step, Holds, build_order}
use Rattle.table.specs.Accepted.{PointsWithin, points_accepted, accepted_table}
use Rattle.table.specs.Tested.{points_by_test}
use Rattle.piece.specs.Promise.{rising, falling, flat, bends}
use Rattle.slopes.specs.Slopes.{built_slope, built_slopes, Built}
use Rattle.position.specs.Position.{Belongs, inside, HoldsAt, evaluation_order}
use Rattle.curve.specs.Curve.{Evaluated}
use Rattle.curve.specs.Determined.{one_evaluation}
use Rattle.demands.specs.Demands.{build, Call, judge, Outcome, CalledByItsRise, it_falls, NoSlopeAgainstItsRise, RightSlopes, Demand2}
use Rattle.demands.specs.Ours.{May}
use Rattle.demands.specs.ByOrder.{none_holds}
use Rattle.demands.specs.Cubic.{no_slope_against}
use Rattle.demands.proofs.BothMeet.{not_bends}
use Rattle.demands.proofs.SixteenGiven.{eighth, count, has_slopes, has_value}
use Rattle.demands.specs.Refuting.{within, numbers_differ}
use Rattle.demands.proofs.Programs.{outcome, may, answering, another_judge, another_build, another_check, another_evaluate, two, two_within, two_built, two_passes, three, three_within, at_1, minus_three, ByThePaper, turned_away, not_by_less, InOrderAtTheCounts, a_rise_at_its_counts}
use Rattle.demands.specs.Values.{the_exact_is_the_value}

-- ======== "A piece within the limits gets a yes exactly when its cubic has no slope against its rise at any fraction of its width ..": no yes where there is to be one

-- 1, 1, 256, 256 and 1, 1, 768, 768 rise
straight : NoSlopeAgainstItsRise (unit 8) (pos 1) (pos 1) (pos 256) (pos 256)
straight = no_slope_against (monotone_rising (lt_z_yes tt) (short_accepts (line (le_z_yes tt) (le_z_yes tt) (le_z_yes tt))))

at_the_border : NoSlopeAgainstItsRise (unit 8) (pos 1) (pos 1) (pos 768) (pos 768)
at_the_border = no_slope_against (monotone_rising (lt_z_yes tt) (short_accepts (oval (le_z_yes tt) (le_z_yes tt) (lt_z_yes tt) (record { inside = le_z_yes tt }))))

-- "a verdict that always says bends"
pub a_verdict_that_always_says_bends : Demand2 (answering (another_judge (λ s h z m n o. o ≡ outcome 0 0 bends tt))) → ⊥
a_verdict_that_always_says_bends d = (d.a_piece_gets_a_yes_exactly_then {o = outcome 0 0 bends tt} eighth (within tt tt) (within tt tt) refl).1 straight refl

-- a rise is called a fall
pub a_rise_called_a_fall : Demand2 (answering (another_judge (λ s h z m n o. o ≡ outcome 0 0 falling tt))) → ⊥
a_rise_called_a_fall d = not_falling (d.and_is_called_by_its_rise {o = outcome 0 0 falling tt} eighth (within tt tt) (within tt tt) refl straight)
  where
    not_falling : CalledByItsRise (pos 1) falling → ⊥
    not_falling (it_falls l) = l.lt

-- "Copying the paper's "<", which turns away 768, 768 above."
pub the_papers_less : Demand2 (answering (another_judge ByThePaper)) → ⊥
the_papers_less d = (d.a_piece_gets_a_yes_exactly_then {o = outcome 0 0 bends tt} eighth (within tt tt) (within tt tt) (turned_away (lt_z_yes tt) not_by_less)).1 at_the_border refl

-- ======== the other way round: a yes where a slope is against the rise

-- 1, 1, 1025, 256 goes down at two thirds of its width
against : NoSlopeAgainstItsRise (unit 8) (pos 1) (pos 1) (pos 1025) (pos 256) → ⊥
against s = (s.while_rising (lt_z_yes tt) 2 3 (lit≤ tt) (lit≤ tt)).le

-- "or always rising"
pub a_verdict_that_always_says_rising : Demand2 (answering (another_judge (λ s h z m n o. o ≡ outcome 0 0 rising tt))) → ⊥
a_verdict_that_always_says_rising d = against ((d.a_piece_gets_a_yes_exactly_then {o = outcome 0 0 rising tt} eighth (within tt tt) (within tt tt) refl).0 (not_bends tt))

-- a rise that bends is called a fall, as if that were not a yes
pub a_bend_called_a_fall : Demand2 (answering (another_judge (λ s h z m n o. o ≡ outcome 0 0 falling tt))) → ⊥
a_bend_called_a_fall d = against ((d.a_piece_gets_a_yes_exactly_then {o = outcome 0 0 falling tt} eighth (within tt tt) (within tt tt) refl).0 (not_bends tt))

-- "Testing only that both slopes have the rise's sign, which lets 1, 1, 1025, 256 through."
pub data BySigns (s : ℕ) (h z m n : ℤ) : Outcome (judge s h z m n) → Type 0 where
  accepted : pos 0 <ℤ z → pos 0 ≤ℤ m → pos 0 ≤ℤ n → BySigns s h z m n (outcome 0 0 rising tt)
  signs_differ : pos 0 <ℤ z → ((pos 0 ≤ℤ m) × (pos 0 ≤ℤ n) → ⊥) → BySigns s h z m n (outcome 0 0 bends tt)
  otherwise : {o : Outcome (judge s h z m n)} → (pos 0 <ℤ z → ⊥) → May (judge s h z m n) o → BySigns s h z m n o

pub only_the_signs : Demand2 (answering (another_judge BySigns)) → ⊥
only_the_signs d = against ((d.a_piece_gets_a_yes_exactly_then {o = outcome 0 0 rising tt} eighth (within tt tt) (within tt tt) (accepted (lt_z_yes tt) (le_z_yes tt) (le_z_yes tt))).0 (not_bends tt))

-- looking at a rise from count to count alone, which lets 1, 1, 769, 0 through: it goes down at 770/771 of its width
pub data ByCounts (s : ℕ) (h z m n : ℤ) : Outcome (judge s h z m n) → Type 0 where
  in_order_there : pos 0 <ℤ z → InOrderAtTheCounts (unit s) h z m n → ByCounts s h z m n (outcome 0 0 rising tt)
  not_in_order : pos 0 <ℤ z → (InOrderAtTheCounts (unit s) h z m n → ⊥) → ByCounts s h z m n (outcome 0 0 bends tt)
  no_rise : {o : Outcome (judge s h z m n)} → (pos 0 <ℤ z → ⊥) → May (judge s h z m n) o → ByCounts s h z m n o

pub only_the_counts : Demand2 (answering (another_judge ByCounts)) → ⊥
only_the_counts d = down ((d.a_piece_gets_a_yes_exactly_then {o = outcome 0 0 rising tt} eighth (within tt tt) (within tt tt) (in_order_there (lt_z_yes tt) a_rise_at_its_counts)).0 (not_bends tt))
  where
    down : NoSlopeAgainstItsRise (unit 8) (pos 1) (pos 1) (pos 769) (pos 0) → ⊥
    down s = (s.while_rising (lt_z_yes tt) 770 771 (lit≤ tt) (lit≤ tt)).le

-- whatever falls is called falling: 1, −1, −256, −2000 goes up at a third of its width
pub every_fall_taken : Demand2 (answering (another_judge (λ s h z m n o. o ≡ outcome 0 0 falling tt))) → ⊥
every_fall_taken d = up ((d.a_piece_gets_a_yes_exactly_then {o = outcome 0 0 falling tt} eighth (within tt tt) (within tt tt) refl).0 (not_bends tt))
  where
    up : NoSlopeAgainstItsRise (unit 8) (pos 1) (negsuc 0) (negsuc 255) (negsuc 1999) → ⊥
    up s = (s.while_falling (lt_z_yes tt) 1 3 (lit≤ tt) (lit≤ tt)).le

-- whatever has no rise is called flat: 1, 0, 1, −1 is not level at half of its width
pub level_ends_are_enough : Demand2 (answering (another_judge (λ s h z m n o. o ≡ outcome 0 0 flat tt))) → ⊥
level_ends_are_enough d = not_level ((d.a_piece_gets_a_yes_exactly_then {o = outcome 0 0 flat tt} eighth (within tt tt) (within tt tt) refl).0 (not_bends tt))
  where
    not_level : NoSlopeAgainstItsRise (unit 8) (pos 1) (pos 0) (pos 1) (negsuc 0) → ⊥
    not_level s = numbers_differ tt (s.while_level refl 1 2 (lit≤ tt) (lit≤ tt))

-- ======== the same of tables: points (0,0), (1,1) with the slopes 1025, 256

abbrev bent : Table
bent = table 8 (pos 0 ∷ pos 1 ∷ []) (pos 0 ∷ pos 1 ∷ []) (pos 1025 ∷ pos 256 ∷ [])

bent_within : Given (Holds bent) build_order 0 0
bent_within = points_accepted eighth (points_by_test _ _ refl (count tt tt) tt) refl

pub bends_not_looked_for : Demand2 (answering (another_check (λ t o. Given (Holds t) build_order o.number o.place))) → ⊥
bends_not_looked_for d = against ((d.so_does_a_table {t = bent} {o = outcome 0 0 tt tt} (none_holds bent_within) bent_within).0 refl 0 (lit< tt))

pub every_table_bends : Demand2 (answering (another_check (λ t o. o ≡ outcome 5 0 tt tt))) → ⊥
every_table_bends d =
    absurd (omega (arith, (d.so_does_a_table {t = two} {o = outcome 5 0 tt tt} (none_holds (points_accepted eighth two_within refl)) refl).1 (λ i l. no_slope_against ((accepted_table refl two_passes).pieces i l))))

-- ======== "and get a yes always"

-- the same check turns built tables away
pub built_tables_bend_too : Demand2 (answering (another_check (λ t o. o ≡ outcome 5 0 tt tt))) → ⊥
built_tables_bend_too d =
    absurd (omega (arith, d.get_a_yes_always {t = two} {o = outcome 0 0 tt two.slopes} {p = outcome 5 0 tt tt} (may (build two) (outcome 0 0 tt two.slopes) (two_built two.slopes refl)) refl refl))

-- ======== "Slopes you build are Fritsch and Butland's mean at inner points and document 01's rule at the two ends, in its units", as request 2 of document 02 amends that rule

-- a builder that refuses as ours does, and where it does not leaves these slopes
abbrev pub leaving : (Table → List ℤ) → (call : Call) → Outcome call → Type 0
leaving slopes = another_build (λ t o. Given (Holds t) build_order o.number o.place × (o.lists ≡ afterwards o.number t.slopes (slopes t)))

-- ours, but for the slope at point i
abbrev pub but_at : ℕ → (Table → ℤ) → Table → List ℤ
but_at i slope t = set (built_slopes (unit t.s) t.knots t.values) i (slope t)

-- what such a builder leaves of points that are within the limits is to have the right slopes; what is wrong at the ends stands in `WrongEnds.antt`
pub left : {slopes : Table → List ℤ} → Demand2 (answering (leaving slopes)) → (t : Table) → UnitWithin t.s → PointsWithin t.knots t.values → length t.slopes ≡ length t.knots → RightSlopes (unit t.s) t.knots t.values (slopes t)
left {slopes} d t u p l = d.slopes_you_build {t = t} {o = outcome 0 0 tt (slopes t)} (points_accepted u p l, refl) refl

abbrev at_rest : List ℤ
at_rest = pos 0 ∷ pos 0 ∷ pos 0 ∷ []

abbrev three_at_rest : Table
three_at_rest = table 8 three.knots three.values at_rest

-- "a builder .. right at its first point and idle afterwards"
abbrev pub idle_afterwards : Table → List ℤ
idle_afterwards t = set t.slopes 0 (built_slope (unit t.s) t.knots t.values 0)

pub a_builder_idle_after_its_first_point : Demand2 (answering (leaving idle_afterwards)) → ⊥
a_builder_idle_after_its_first_point d = ((((left d three_at_rest eighth three_within refl).each 1 (lit< tt)).inner 0 refl (lit< tt)).size (lt_z_yes tt)).high.lt

pub a_builder_idle_at_its_last_point : Demand2 (answering (leaving (but_at 2 (λ t. entry t.slopes 2)))) → ⊥
a_builder_idle_at_its_last_point d = ((((left d three_at_rest eighth three_within refl).each 2 (lit< tt)).last 0 refl refl).otherwise (lt_z_yes tt) (λ l. absurd l.lt)).size.high.lt

pub a_builder_idle_at_its_first_point : Demand2 (answering (leaving (but_at 0 (λ t. entry t.slopes 0)))) → ⊥
a_builder_idle_at_its_first_point d = ((((left d even_at_rest eighth (points_by_test _ _ refl (count tt tt) tt) refl).each 0 (lit< tt)).first refl (lit< tt)).otherwise (lt_z_yes tt) (λ l. absurd l.lt)).size.high.lt
  where
    -- (0,0), (1,1), (2,2), whose first slope is 256
    even_at_rest : Table
    even_at_rest = table 8 three.knots (pos 0 ∷ pos 1 ∷ pos 2 ∷ []) at_rest

pub a_builder_that_leaves_a_slope_out : Demand2 (answering (leaving (λ t. []))) → ⊥
a_builder_that_leaves_a_slope_out d = absurd (omega (arith, (left d three_at_rest eighth three_within refl).as_many))

-- at an inner point a mean of two units for three, (0,0), (1,1), (2,4): 256
pub a_mean_of_two_units : Demand2 (answering (leaving (but_at 1 (λ t. floor_of (pos 2 *ℤ unit t.s *ℤ (step t.knots 0 +ℤ step t.knots 1) *ℤ step t.values 0 *ℤ step t.values 1) (mean_below (step t.knots 0) (step t.values 0) (step t.knots 1) (step t.values 1)))))) → ⊥
a_mean_of_two_units d = ((((left d three eighth three_within refl).each 1 (lit< tt)).inner 0 refl (lit< tt)).size (lt_z_yes tt)).high.lt

-- the mean of the sizes where the rises are opposed, (0,0), (1,1), (2,0): 256; and without the sign of the rises, (0,0), (1,−1), (2,−2): 256
abbrev sizes_alone : Table → ℤ
sizes_alone t = mean (unit t.s) (step t.knots 0) (magnitude (step t.values 0)) (step t.knots 1) (magnitude (step t.values 1))

pub a_mean_of_opposed_rises : Demand2 (answering (leaving (but_at 1 sizes_alone))) → ⊥
a_mean_of_opposed_rises d =
    numbers_differ tt ((((left d (table 8 (pos 0 ∷ pos 1 ∷ pos 2 ∷ []) (pos 0 ∷ pos 1 ∷ pos 0 ∷ []) at_rest) eighth (points_by_test _ _ refl (count tt tt) tt) refl).each 1 (lit< tt)).inner 0 refl (lit< tt)).apart (le_z_yes tt))

pub a_mean_without_its_sign : Demand2 (answering (leaving (but_at 1 sizes_alone))) → ⊥
a_mean_without_its_sign d =
    numbers_differ tt ((((left d (table 8 (pos 0 ∷ pos 1 ∷ pos 2 ∷ []) (pos 0 ∷ negsuc 0 ∷ negsuc 1 ∷ []) at_rest) eighth (points_by_test _ _ refl (count tt tt) tt) refl).each 1 (lit< tt)).inner 0 refl (lit< tt)).sign (lt_z_yes tt))

-- ======== "The value at a position becomes the exact value rounded to the nearest whole number, a half going up, for rising and falling alike."

-- an evaluation that refuses as ours does, and where it does not answers this: of the slope unit, the left value, width, rise and slopes of the piece that the position belongs to, and the counts into it
abbrev pub valued_by : ((U left h z m n t : ℤ) → ℤ) → (call : Call) → Outcome call → Type 0
valued_by value =
    another_evaluate (λ t x o. Given (HoldsAt t x) evaluation_order o.number o.place
    × Answered (λ v. (i : ℕ) × (Belongs t.knots x i × (v ≡ value (unit t.s) (entry t.values i) (step t.knots i) (step t.values i) (entry t.slopes i) (entry t.slopes (i + 1)) (x -ℤ entry t.knots i)))) (pos 0) o.number o.answer)

-- the left value and something more, and this is the quotient, rounded in some way
abbrev pub plus : ((U h z m n t : ℤ) → ℤ) → (U left h z m n t : ℤ) → ℤ
plus more U left h z m n t = left +ℤ more U h z m n t

abbrev pub rounded_by : ((n d : ℤ) → ℤ) → (U left h z m n t : ℤ) → ℤ
rounded_by round U left h z m n t = left +ℤ round (numerator U h z m n t) (denominator U h)

-- in the first piece of a table such a program is to answer what ours does
pub the_same : (value : (U left h z m n t : ℤ) → ℤ) → Demand2 (answering (valued_by value)) → {s : ℕ} {ks vs ss : List ℤ} {x v : ℤ} → UnitWithin s → PointsWithin ks vs → Belongs ks x 0 → Evaluated (table s ks vs ss) x 0 0 v
    → value (unit s) (entry vs 0) (step ks 0) (step vs 0) (entry ss 0) (entry ss 1) (x -ℤ entry ks 0) ≡ v
the_same value d {s} {ks} {vs} {ss} {x} u p i e =
    let w = value (unit s) (entry vs 0) (step ks 0) (step vs 0) (entry ss 0) (entry ss 1) (x -ℤ entry ks 0) in
    let its = the_exact_is_the_value u p (d.the_value_at_a_position {t = table s ks vs ss} {x = x} {o = outcome 0 0 w tt} (e.refusal, answered (0, (i, refl))) refl) in
    (one_evaluation (record { refusal = e.refusal; value = answered its }) e).2

-- at position 1 of (0,0), (3,−10) it is −3, and at 2 it is −7
on_the_fall : (value : (U left h z m n t : ℤ) → ℤ) → Demand2 (answering (valued_by value)) → value (unit 8) (pos 0) (pos 3) (negsuc 9) (negsuc 852) (negsuc 852) (pos 1) ≡ negsuc 2
on_the_fall value d = the_same value d eighth two_within at_1 minus_three

further_on : (value : (U left h z m n t : ℤ) → ℤ) → Demand2 (answering (valued_by value)) → value (unit 8) (pos 0) (pos 3) (negsuc 9) (negsuc 852) (negsuc 852) (pos 2) ≡ negsuc 6
further_on value d = the_same value d eighth two_within at_2 (has_value {before = two.slopes} (within tt tt) at_2 refl (two_built two.slopes refl))
  where
    at_2 : Belongs two.knots (pos 2) 0
    at_2 = inside {i = 0} (lit< tt) (le_z_yes tt) (lt_z_yes tt)

-- halves, at position 1: of (0,0), (2,1) it is 1, of (0,0), (2,−1) it is 0, and so it is of (0,−1), (2,0)
abbrev 0-2 : List ℤ
0-2 = pos 0 ∷ pos 2 ∷ []

halfway : Belongs 0-2 (pos 1) 0
halfway = inside {i = 0} (lit< tt) (le_z_yes tt) (lt_z_yes tt)

half_a_rise : (value : (U left h z m n t : ℤ) → ℤ) → Demand2 (answering (valued_by value)) → value (unit 8) (pos 0) (pos 2) (pos 1) (pos 128) (pos 128) (pos 1) ≡ pos 1
half_a_rise value d = the_same value d eighth rises halfway (has_value {before = 0-2} (within tt tt) halfway refl (has_slopes eighth rises refl refl))
  where
    rises : PointsWithin 0-2 (pos 0 ∷ pos 1 ∷ [])
    rises = points_by_test _ _ refl (count tt tt) tt

half_a_fall : (value : (U left h z m n t : ℤ) → ℤ) → Demand2 (answering (valued_by value)) → value (unit 8) (pos 0) (pos 2) (negsuc 0) (negsuc 127) (negsuc 127) (pos 1) ≡ pos 0
half_a_fall value d = the_same value d eighth falls halfway (has_value {before = 0-2} (within tt tt) halfway refl (has_slopes eighth falls refl refl))
  where
    falls : PointsWithin 0-2 (pos 0 ∷ negsuc 0 ∷ [])
    falls = points_by_test _ _ refl (count tt tt) tt

half_below_0 : (value : (U left h z m n t : ℤ) → ℤ) → Demand2 (answering (valued_by value)) → value (unit 8) (negsuc 0) (pos 2) (pos 1) (pos 128) (pos 128) (pos 1) ≡ pos 0
half_below_0 value d = the_same value d eighth rises halfway (has_value {before = 0-2} (within tt tt) halfway refl (has_slopes eighth rises refl refl))
  where
    rises : PointsWithin 0-2 (negsuc 0 ∷ pos 0 ∷ [])
    rises = points_by_test _ _ refl (count tt tt) tt

-- "an evaluation that answers the left value (demand 2)"
pub an_evaluation_that_answers_the_left_value : Demand2 (answering (valued_by (plus (λ U h z m n t. pos 0)))) → ⊥
an_evaluation_that_answers_the_left_value d = numbers_differ tt (on_the_fall (plus (λ U h z m n t. pos 0)) d)

-- rounding down, as it was right until request 6: −4
pub a_value_rounded_down : Demand2 (answering (valued_by (rounded_by floor_of))) → ⊥
a_value_rounded_down d = numbers_differ tt (on_the_fall (rounded_by floor_of) d)

-- rounding toward zero, which is right at 1, but at 2 gives −6
pub a_value_rounded_toward_zero : Demand2 (answering (valued_by (rounded_by toward_zero))) → ⊥
a_value_rounded_toward_zero d = numbers_differ tt (further_on (rounded_by toward_zero) d)

-- "Dividing toward zero on a falling piece", of what is rounded: −2
abbrev pub nearest_toward_zero : (n d : ℤ) → ℤ
nearest_toward_zero n d = toward_zero (pos 2 *ℤ n +ℤ d) (pos 2 *ℤ d)

pub division_toward_zero_on_a_fall : Demand2 (answering (valued_by (rounded_by nearest_toward_zero))) → ⊥
division_toward_zero_on_a_fall d = numbers_differ tt (on_the_fall (rounded_by nearest_toward_zero) d)

-- a half away from zero: −1
abbrev pub away_from_zero : (n d : ℤ) → ℤ
away_from_zero n d = with_sign n (nearest_of (magnitude n) d)

pub a_half_away_from_zero : Demand2 (answering (valued_by (rounded_by away_from_zero))) → ⊥
a_half_away_from_zero d = numbers_differ tt (half_a_fall (rounded_by away_from_zero) d)

-- the same of the whole value, and not of what it has risen by: −1
abbrev pub whole_away_from_zero : (U left h z m n t : ℤ) → ℤ
whole_away_from_zero U left h z m n t = away_from_zero (left *ℤ denominator U h +ℤ numerator U h z m n t) (denominator U h)

pub a_whole_value_away_from_zero : Demand2 (answering (valued_by whole_away_from_zero)) → ⊥
a_whole_value_away_from_zero d = numbers_differ tt (half_below_0 whole_away_from_zero d)

-- a half down: 0
abbrev pub half_down : (n d : ℤ) → ℤ
half_down n d = neg_ℤ (nearest_of (neg_ℤ n) d)

pub a_half_down : Demand2 (answering (valued_by (rounded_by half_down))) → ⊥
a_half_down d = numbers_differ tt (half_a_rise (rounded_by half_down) d)

-- a half to the even number: one less than a half up where it is a half and that one is odd: 0
abbrev pub half_to_even : (n d : ℤ) → ℤ
half_to_even n d = nearest_of n d -ℤ (nearest_of n d -ℤ half_down n d) *ℤ (nearest_of n d -ℤ pos 2 *ℤ floor_of (nearest_of n d) (pos 2))

pub a_half_to_even : Demand2 (answering (valued_by (rounded_by half_to_even))) → ⊥
a_half_to_even d = numbers_differ tt (half_a_rise (rounded_by half_to_even) d)

-- a fall as the mirror of the rise: −1
abbrev pub as_a_rise : (U h z m n t : ℤ) → ℤ
as_a_rise U h z m n t = with_sign z (risen U h (magnitude z) (magnitude m) (magnitude n) t)

pub a_fall_as_the_mirror_of_the_rise : Demand2 (answering (valued_by (plus as_a_rise))) → ⊥
a_fall_as_the_mirror_of_the_rise d = numbers_differ tt (half_a_fall (plus as_a_rise) d)

-- the two slopes exchanged: (0,0), (4,4), (8,400) have 0 at position 1, and not 2
abbrev pub mirrored : (U h z m n t : ℤ) → ℤ
mirrored U h z m n t = risen U h z n m t

pub a_mirrored_cubic : Demand2 (answering (valued_by (plus mirrored))) → ⊥
a_mirrored_cubic d = numbers_differ tt (the_same (plus mirrored) d eighth steep_within at_its_1 (has_value {before = ss} (within tt tt) at_its_1 refl steep_built))
  where
    ks : List ℤ
    ks = pos 0 ∷ pos 4 ∷ pos 8 ∷ []

    vs : List ℤ
    vs = pos 0 ∷ pos 4 ∷ pos 400 ∷ []

    ss : List ℤ
    ss = pos 0 ∷ pos 506 ∷ pos 37888 ∷ []

    steep_within : PointsWithin ks vs
    steep_within = points_by_test _ _ refl (count tt tt) tt

    steep_built : Built (table 8 ks vs ss) ss 0 0
    steep_built = has_slopes eighth steep_within refl refl

    at_its_1 : Belongs ks (pos 1) 0
    at_its_1 = inside {i = 0} (lit< tt) (le_z_yes tt) (lt_z_yes tt)
