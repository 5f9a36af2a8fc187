-- What the wrong programs of `Wrong1.antt`, `Wrong2.antt`, `WrongEnds.antt`, `WrongUnits.antt`, `WrongOrder.antt`, `Wrong3.antt`, `Wrong01.antt` and `Wrong16.antt` are made of, and the tables on which they are told.
use Rattle.std.specs.Prelude.{◌≡◌, refl, ◌⊎◌, List, [], ◌∷◌, ℕ, zero, suc, ◌≤◌, ◌<◌, ℤ, pos, negsuc, ◌+ℤ◌, ◌-ℤ◌, ◌*ℤ◌, ◌≤ℤ◌, ◌<ℤ◌, length}
use Rattle.std.proofs.Common.{⊎_elim, arith, lit<}
use Rattle.std.specs.Int.Signed.{le_z_yes, lt_z_yes, ≤ℤ_refl}
use Rattle.integers.specs.Order.{≤_pos}
use Rattle.cubic.specs.Piece.{rise_at}
use Rattle.cubic.specs.Along.{Along}
use Rattle.rules.specs.Limits.{unit}
use Rattle.rules.specs.Refusals.{Given}
use Rattle.table.specs.declared.changed.Change.{Change}
use Rattle.table.specs.Table.{Table, table, Holds, check_order}
use Rattle.table.specs.Accepted.{PointsWithin}
use Rattle.table.specs.Tested.{points_by_test}
use Rattle.piece.specs.Promise.{rising, bends}
use Rattle.slopes.specs.Slopes.{Built}
use Rattle.slopes.specs.EveryPiece.{a_built_table_passes_the_table_check}
use Rattle.position.specs.Position.{Belongs, inside}
use Rattle.curve.specs.Curve.{Evaluated}
use Rattle.change.specs.Change.{Changed}
use Rattle.change.specs.Figures.{point_0_lowered}
use Rattle.demands.specs.Demands.{Call, judge, points, build, check, locate, evaluate, float_answer, changed_points, point, Outcome, Reply, Lists, Implementation, CauseOf, order_of, Demand1}
use Rattle.demands.specs.Kept.{Promised, ours_keeps}
use Rattle.demands.specs.Ours.{Asks, May}
use Rattle.demands.specs.ByOrder.{refused_exactly}
use Rattle.demands.specs.Refuting.{within, numbers_differ}
use Rattle.demands.proofs.SixteenGiven.{eighth, count, has_slopes, has_value}

-- what comes out of a call
abbrev pub outcome : {call : Call} → ℕ → ℕ → Reply call → Lists call → Outcome call
outcome number place answer lists = record { number = number; place = place; answer = answer; lists = lists }

-- a program that answers so, and asks what ours does
abbrev pub answering : ((call : Call) → Outcome call → Type 0) → Implementation
answering may = record { Asks = Asks; May = may }

-- what our functions promise may come out of them
pub may : (call : Call) (o : Outcome call) → Promised call o → May call o
may = ours_keeps.allowed

-- ---- what may come out, call by call

abbrev by_call : ((s : ℕ) (h z m n : ℤ) → Outcome (judge s h z m n) → Type 0)
    → ((t : Table) → Outcome (points t) → Type 0)
    → ((t : Table) → Outcome (build t) → Type 0)
    → ((t : Table) → Outcome (check t) → Type 0)
    → ((t : Table) (x : ℤ) → Outcome (locate t x) → Type 0)
    → ((t : Table) (x : ℤ) → Outcome (evaluate t x) → Type 0)
    → ((t : Table) (x : ℤ) → Outcome (float_answer t x) → Type 0)
    → ((c : Change) (t : Table) → Outcome (changed_points c t) → Type 0)
    → ((made : List Change) (c : Change) (t : Table) → Outcome (point made c t) → Type 0)
    → (call : Call) → Outcome call → Type 0
by_call J P B C L E F D Q (judge s h z m n) = J s h z m n
by_call J P B C L E F D Q (points t) = P t
by_call J P B C L E F D Q (build t) = B t
by_call J P B C L E F D Q (check t) = C t
by_call J P B C L E F D Q (locate t x) = L t x
by_call J P B C L E F D Q (evaluate t x) = E t x
by_call J P B C L E F D Q (float_answer t x) = F t x
by_call J P B C L E F D Q (changed_points c t) = D c t
by_call J P B C L E F D Q (point made c t) = Q made c t

-- ours, but for one call, of which `Wrong` says what may come out

abbrev pub another_judge : ((s : ℕ) (h z m n : ℤ) → Outcome (judge s h z m n) → Type 0) → (call : Call) → Outcome call → Type 0
another_judge Wrong = by_call Wrong (λ t. May (points t)) (λ t. May (build t)) (λ t. May (check t)) (λ t x. May (locate t x)) (λ t x. May (evaluate t x)) (λ t x. May (float_answer t x)) (λ c t. May (changed_points c t)) (λ made c t. May (point made c t))

abbrev pub another_points : ((t : Table) → Outcome (points t) → Type 0) → (call : Call) → Outcome call → Type 0
another_points Wrong = by_call (λ s h z m n. May (judge s h z m n)) Wrong (λ t. May (build t)) (λ t. May (check t)) (λ t x. May (locate t x)) (λ t x. May (evaluate t x)) (λ t x. May (float_answer t x)) (λ c t. May (changed_points c t)) (λ made c t. May (point made c t))

abbrev pub another_build : ((t : Table) → Outcome (build t) → Type 0) → (call : Call) → Outcome call → Type 0
another_build Wrong = by_call (λ s h z m n. May (judge s h z m n)) (λ t. May (points t)) Wrong (λ t. May (check t)) (λ t x. May (locate t x)) (λ t x. May (evaluate t x)) (λ t x. May (float_answer t x)) (λ c t. May (changed_points c t)) (λ made c t. May (point made c t))

abbrev pub another_check : ((t : Table) → Outcome (check t) → Type 0) → (call : Call) → Outcome call → Type 0
another_check Wrong = by_call (λ s h z m n. May (judge s h z m n)) (λ t. May (points t)) (λ t. May (build t)) Wrong (λ t x. May (locate t x)) (λ t x. May (evaluate t x)) (λ t x. May (float_answer t x)) (λ c t. May (changed_points c t)) (λ made c t. May (point made c t))

abbrev pub another_locate : ((t : Table) (x : ℤ) → Outcome (locate t x) → Type 0) → (call : Call) → Outcome call → Type 0
another_locate Wrong = by_call (λ s h z m n. May (judge s h z m n)) (λ t. May (points t)) (λ t. May (build t)) (λ t. May (check t)) Wrong (λ t x. May (evaluate t x)) (λ t x. May (float_answer t x)) (λ c t. May (changed_points c t)) (λ made c t. May (point made c t))

abbrev pub another_evaluate : ((t : Table) (x : ℤ) → Outcome (evaluate t x) → Type 0) → (call : Call) → Outcome call → Type 0
another_evaluate Wrong = by_call (λ s h z m n. May (judge s h z m n)) (λ t. May (points t)) (λ t. May (build t)) (λ t. May (check t)) (λ t x. May (locate t x)) Wrong (λ t x. May (float_answer t x)) (λ c t. May (changed_points c t)) (λ made c t. May (point made c t))

abbrev pub another_float_answer : ((t : Table) (x : ℤ) → Outcome (float_answer t x) → Type 0) → (call : Call) → Outcome call → Type 0
another_float_answer Wrong = by_call (λ s h z m n. May (judge s h z m n)) (λ t. May (points t)) (λ t. May (build t)) (λ t. May (check t)) (λ t x. May (locate t x)) (λ t x. May (evaluate t x)) Wrong (λ c t. May (changed_points c t)) (λ made c t. May (point made c t))

abbrev pub another_changed_points : ((c : Change) (t : Table) → Outcome (changed_points c t) → Type 0) → (call : Call) → Outcome call → Type 0
another_changed_points Wrong = by_call (λ s h z m n. May (judge s h z m n)) (λ t. May (points t)) (λ t. May (build t)) (λ t. May (check t)) (λ t x. May (locate t x)) (λ t x. May (evaluate t x)) (λ t x. May (float_answer t x)) Wrong (λ made c t. May (point made c t))

abbrev pub another_point : ((made : List Change) (c : Change) (t : Table) → Outcome (point made c t) → Type 0) → (call : Call) → Outcome call → Type 0
another_point Wrong = by_call (λ s h z m n. May (judge s h z m n)) (λ t. May (points t)) (λ t. May (build t)) (λ t. May (check t)) (λ t x. May (locate t x)) (λ t x. May (evaluate t x)) (λ t x. May (float_answer t x)) (λ c t. May (changed_points c t)) Wrong

-- ---- the first demand's middle sentence, both ways, of a call whose right refusal is known

module _ {I : Implementation} (d : Demand1 I) (call : Call) (o : Outcome call) (may : I.May call o) where
  -- what is refused has its cause
  pub its_cause : (c : ℕ) → 0 < c → o.number ≡ c → CauseOf call c o.place
  its_cause c l e = ((d.refused_exactly_then may c o.place l).0 (e, refl)).holds

  -- and what has a cause is refused so
  pub its_refusal : {c q : ℕ} → 0 < c → Given (CauseOf call) (order_of call) c q → (o.number ≡ c) × (o.place ≡ q)
  its_refusal {c} {q} l g = (d.refused_exactly_then may c q l).1 ((refused_exactly g c q l).0 (refl, refl))

-- ---- tables

-- "points (0,0), (3,−10) have slopes −853, −853"; and, by request 2 of document 02, "points (0,0), (1,1), (2,4) now have slopes 0, 384, 1024", and "(0,0), (1,1), (2,4), (3,7) have 0, 384, 768, 768"
abbrev pub two : Table
two = table 8 (pos 0 ∷ pos 3 ∷ []) (pos 0 ∷ negsuc 9 ∷ []) (negsuc 852 ∷ negsuc 852 ∷ [])

abbrev pub three : Table
three = table 8 (pos 0 ∷ pos 1 ∷ pos 2 ∷ []) (pos 0 ∷ pos 1 ∷ pos 4 ∷ []) (pos 0 ∷ pos 384 ∷ pos 1024 ∷ [])

abbrev pub four : Table
four = table 8 (pos 0 ∷ pos 1 ∷ pos 2 ∷ pos 3 ∷ []) (pos 0 ∷ pos 1 ∷ pos 4 ∷ pos 7 ∷ []) (pos 0 ∷ pos 384 ∷ pos 768 ∷ pos 768 ∷ [])

pub two_within : PointsWithin two.knots two.values
two_within = points_by_test _ _ refl (count tt tt) tt

pub three_within : PointsWithin three.knots three.values
three_within = points_by_test _ _ refl (count tt tt) tt

pub four_within : PointsWithin four.knots four.values
four_within = points_by_test _ _ refl (count tt tt) tt

-- they are what a build leaves, over any list of as many slopes, and they pass the table check
pub two_built : (before : List ℤ) → length before ≡ 2 → Built (table 8 two.knots two.values before) two.slopes 0 0
two_built before l = has_slopes eighth two_within refl l

pub four_built : (before : List ℤ) → length before ≡ 4 → Built (table 8 four.knots four.values before) four.slopes 0 0
four_built before l = has_slopes eighth four_within refl l

pub two_passes : Given (Holds two) check_order 0 0
two_passes = a_built_table_passes_the_table_check (two_built two.slopes refl)

-- −3 at position 1 of (0,0), (3,−10)
pub at_1 : Belongs two.knots (pos 1) 0
at_1 = inside {i = 0} (lit< tt) (le_z_yes tt) (lt_z_yes tt)

pub minus_three : Evaluated two (pos 1) 0 0 (negsuc 2)
minus_three = has_value {before = two.slopes} (within tt tt) at_1 refl (two_built two.slopes refl)

-- ---- a verdict by the paper's test, which "prints the last test with "<" and asks for equal signs of slopes and rise"; 1, 1, 768, 768 does not pass it

pub record ThePapersTest (Z a b : ℤ) : Type 0 where
  pub starts_with_the_rise : pos 0 <ℤ a
  pub ends_with_the_rise : pos 0 <ℤ b
  pub one_of_four : ((a +ℤ b) ≤ℤ (pos 2 *ℤ Z)) ⊎ (((pos 2 *ℤ a +ℤ b) ≤ℤ (pos 3 *ℤ Z)) ⊎ (((a +ℤ pos 2 *ℤ b) ≤ℤ (pos 3 *ℤ Z)) ⊎ ((a *ℤ a +ℤ a *ℤ b +ℤ b *ℤ b -ℤ pos 6 *ℤ Z *ℤ (a +ℤ b) +ℤ pos 9 *ℤ (Z *ℤ Z)) <ℤ pos 0)))

pub data ByThePaper (s : ℕ) (h z m n : ℤ) : Outcome (judge s h z m n) → Type 0 where
  accepted : pos 0 <ℤ z → ThePapersTest (unit s *ℤ z) (m *ℤ h) (n *ℤ h) → ByThePaper s h z m n (outcome 0 0 rising tt)
  turned_away : pos 0 <ℤ z → (ThePapersTest (unit s *ℤ z) (m *ℤ h) (n *ℤ h) → ⊥) → ByThePaper s h z m n (outcome 0 0 bends tt)
  otherwise : {o : Outcome (judge s h z m n)} → (pos 0 <ℤ z → ⊥) → May (judge s h z m n) o → ByThePaper s h z m n o

pub not_by_less : ThePapersTest (pos 256) (pos 768) (pos 768) → ⊥
not_by_less t = ⊎_elim (λ l. l.le) (⊎_elim (λ l. l.le) (⊎_elim (λ l. l.le) (λ l. l.lt))) t.one_of_four

-- ---- a piece that is looked at from count to count alone: what its cubic has risen by is in order there, along its rise

pub record InOrderAtTheCounts (U h z m n : ℤ) : Type 0 where
  pub in_order : (j k : ℕ) → j ≤ k → pos k ≤ℤ h → Along z (rise_at (U *ℤ z) (m *ℤ h) (n *ℤ h) (pos j) h) (rise_at (U *ℤ z) (m *ℤ h) (n *ℤ h) (pos k) h)

along_refl : {z x : ℤ} → Along z x x
along_refl {x = x} = record { rising = λ _. ≤ℤ_refl x; falling = λ _. ≤ℤ_refl x; level = λ _. refl }

-- a piece of width 1 has two counts, and so is in order if its two ends are
of_width_1 : {U z m n : ℤ} → Along z (rise_at (U *ℤ z) (m *ℤ pos 1) (n *ℤ pos 1) (pos 0) (pos 1)) (rise_at (U *ℤ z) (m *ℤ pos 1) (n *ℤ pos 1) (pos 1) (pos 1)) → InOrderAtTheCounts U (pos 1) z m n
of_width_1 {U} {z} {m} {n} a = record { in_order = by_cases }
  where
    by_cases : (j k : ℕ) → j ≤ k → pos k ≤ℤ pos 1 → Along z (rise_at (U *ℤ z) (m *ℤ pos 1) (n *ℤ pos 1) (pos j) (pos 1)) (rise_at (U *ℤ z) (m *ℤ pos 1) (n *ℤ pos 1) (pos k) (pos 1))
    by_cases zero zero l h = along_refl
    by_cases zero (suc zero) l h = a
    by_cases (suc zero) (suc zero) l h = along_refl
    by_cases (suc j) zero l h = absurd (omega (arith, l))
    by_cases (suc (suc j)) (suc zero) l h = absurd (omega (arith, l))
    by_cases j (suc (suc k)) l h = absurd (omega (arith, ≤_pos h))

-- so are 1, 1, 769, 0, the same turned over, and 1, 0, 1, −1, which is level at both
pub a_rise_at_its_counts : InOrderAtTheCounts (unit 8) (pos 1) (pos 1) (pos 769) (pos 0)
a_rise_at_its_counts = of_width_1 (record { rising = λ _. le_z_yes tt; falling = λ p. absurd p.lt; level = λ e. absurd (numbers_differ tt e) })

pub a_fall_at_its_counts : InOrderAtTheCounts (unit 8) (pos 1) (negsuc 0) (negsuc 768) (pos 0)
a_fall_at_its_counts = of_width_1 (record { rising = λ p. absurd p.lt; falling = λ _. le_z_yes tt; level = λ e. absurd (numbers_differ tt e) })

pub a_level_at_its_counts : InOrderAtTheCounts (unit 8) (pos 1) (pos 0) (pos 1) (negsuc 0)
a_level_at_its_counts = of_width_1 (record { rising = λ p. absurd p.lt; falling = λ p. absurd p.lt; level = λ _. refl })

-- "Point 0 changed to (0,−2): 768, 768, 768, 768."
abbrev pub lowering : Change
lowering = record { point = 0; knot = pos 0; value = negsuc 1 }

abbrev pub lowered : Table
lowered = table 8 four.knots (negsuc 1 ∷ pos 1 ∷ pos 4 ∷ pos 7 ∷ []) (pos 768 ∷ pos 768 ∷ pos 768 ∷ pos 768 ∷ [])

pub lowered_within : PointsWithin lowered.knots lowered.values
lowered_within = points_by_test _ _ refl (count tt tt) tt

pub is_lowered : Changed lowering four lowered 0 0
is_lowered = point_0_lowered

pub lowered_built : (before : List ℤ) → length before ≡ 4 → Built (table 8 lowered.knots lowered.values before) lowered.slopes 0 0
lowered_built before l = has_slopes eighth lowered_within refl l
