-- Statements that say more than `NeverBacksUp.antt` and are wrong: each is refuted of what ours answers. Whoever wants one of them has to find another curve.
use Rattle.std.specs.Prelude.{◌≡◌, refl, List, [], ◌∷◌, ℕ, ◌+◌, ◌*◌, ◌<◌, ◌≤◌, ℤ, pos, negsuc, ◌≤ℤ◌, ◌<ℤ◌, length}
use Rattle.std.proofs.Common.{lit<, lit≤}
use Rattle.std.specs.Int.Signed.{le_z_yes, lt_z_yes}
use Rattle.cubic.proofs.Monotone.{monotone_rising}
use Rattle.cubic.specs.Test.{line}
use Rattle.cubic.proofs.Test.{short_accepts}
use Rattle.rules.specs.Limits.{unit}
use Rattle.rules.specs.Refusals.{answered}
use Rattle.table.specs.declared.changed.Change.{Change}
use Rattle.table.specs.Table.{Table, table, entry, step}
use Rattle.table.specs.Tested.{points_by_test}
use Rattle.slopes.specs.Slopes.{Built}
use Rattle.slopes.specs.EveryPiece.{a_built_table_passes_the_table_check}
use Rattle.position.specs.Position.{Belongs, inside, WithinKnots}
use Rattle.position.specs.Refused.{none_refused}
use Rattle.curve.specs.Curve.{value_on}
use Rattle.demands.specs.Demands.{build, evaluate, point, Outcome, NoSlopeAgainstItsRise, rise, ChainOf, none, next}
use Rattle.demands.specs.Ours.{ours}
use Rattle.demands.specs.Kept.{ours_keeps}
use Rattle.demands.specs.Cubic.{no_slope_against}
use Rattle.demands.proofs.SixteenGiven.{eighth, count, has_slopes}
use Rattle.demands.specs.Refuting.{within}
use Rattle.demands.proofs.Programs.{outcome, InOrderAtTheCounts, a_rise_at_its_counts, four, four_built, lowering, lowered, lowered_built, is_lowered}

-- a value of a built table, on any of its pieces
there : {s : ℕ} {ks vs before ss : List ℤ} {x v : ℤ} {i : ℕ} → Built (table s ks vs before) ss 0 0 → WithinKnots ks x → Belongs ks x i → v ≡ value_on (table s ks vs ss) i x → ours.May (evaluate (table s ks vs ss) x) (outcome 0 0 v tt)
there {s} {ks} {vs} {ss = ss} {x} {v} {i} b w p e =
    ours_keeps.allowed (evaluate (table s ks vs ss) x) (outcome 0 0 v tt) (record { refusal = none_refused (a_built_table_passes_the_table_check b) refl w; value = answered (record { piece = i; belongs = p; is = e }) })

-- ---- strict order: of two positions, one before the other, on a rising piece the answers differ. Values are whole numbers: on the piece of width 5, rise 1 and slopes 51, 51 they are 0, 0, 0, 1, 1, 1

pub strict_order : ((t : Table) (x y : ℤ) (o : Outcome (evaluate t x)) (p : Outcome (evaluate t y)) → ours.May (evaluate t x) o → o.number ≡ 0 → ours.May (evaluate t y) p → p.number ≡ 0
    → (i : ℕ) → i + 1 < length t.knots → entry t.knots i ≤ℤ x → x <ℤ y → y ≤ℤ entry t.knots (i + 1)
    → pos 0 <ℤ step t.values i → o.answer <ℤ p.answer) → ⊥
strict_order s =
    (s slow (pos 0) (pos 1) (outcome 0 0 (pos 0) tt) (outcome 0 0 (pos 0) tt) (there built (within tt tt) (inside {i = 0} (lit< tt) (le_z_yes tt) (lt_z_yes tt)) refl) refl
    (there built (within tt tt) (inside {i = 0} (lit< tt) (le_z_yes tt) (lt_z_yes tt)) refl) refl 0 (lit< tt) (le_z_yes tt) (lt_z_yes tt) (le_z_yes tt) (lt_z_yes tt)).lt
  where
    slow : Table
    slow = table 8 (pos 0 ∷ pos 5 ∷ []) (pos 0 ∷ pos 1 ∷ []) (pos 51 ∷ pos 51 ∷ [])

    built : Built slow slow.slopes 0 0
    built = has_slopes eighth (points_by_test _ _ refl (count tt tt) tt) refl refl

-- ---- the whole table in order, whatever its pieces do: (0,0), (1,−1), (2,0) is accepted, and goes 0, −1, 0

pub the_whole_table_whatever_its_pieces_do : ((t : Table) (x y : ℤ) (o : Outcome (evaluate t x)) (p : Outcome (evaluate t y)) → ours.May (evaluate t x) o → o.number ≡ 0 → ours.May (evaluate t y) p → p.number ≡ 0
    → x ≤ℤ y → o.answer ≤ℤ p.answer) → ⊥
the_whole_table_whatever_its_pieces_do s =
    (s down_and_up (pos 0) (pos 1) (outcome 0 0 (pos 0) tt) (outcome 0 0 (negsuc 0) tt) (there built (within tt tt) (inside {i = 0} (lit< tt) (le_z_yes tt) (lt_z_yes tt)) refl) refl
    (there built (within tt tt) (inside {i = 1} (lit< tt) (le_z_yes tt) (lt_z_yes tt)) refl) refl (le_z_yes tt)).le
  where
    down_and_up : Table
    down_and_up = table 8 (pos 0 ∷ pos 1 ∷ pos 2 ∷ []) (pos 0 ∷ negsuc 0 ∷ pos 0 ∷ []) (negsuc 511 ∷ pos 0 ∷ pos 512 ∷ [])

    built : Built down_and_up down_and_up.slopes 0 0
    built = has_slopes eighth (points_by_test _ _ refl (count tt tt) tt) refl refl

-- ---- 'in order at its counts' as what a monotone piece is: 1, 1, 769, 0 is in order at both and bends, at 770/771 of its width

pub in_order_at_the_counts_is_enough : ((h z m n : ℤ) → InOrderAtTheCounts (unit 8) h z m n → NoSlopeAgainstItsRise (unit 8) h z m n) → ⊥
in_order_at_the_counts_is_enough s = ((s (pos 1) (pos 1) (pos 769) (pos 0) a_rise_at_its_counts).while_rising (lt_z_yes tt) 770 771 (lit≤ tt) (lit≤ tt)).le

-- ---- two fractions compared by what `rise` says of each, without the cubes of the denominators: on a straight line 2/4 comes before 1/1, and `rise` is 32 units at the one and 1 at the other

pub fractions_without_their_cubes : ((U h z m n : ℤ) → NoSlopeAgainstItsRise U h z m n → pos 0 <ℤ z → (k₁ q₁ k₂ q₂ : ℕ) → 1 ≤ q₁ → k₁ ≤ q₁ → 1 ≤ q₂ → k₂ ≤ q₂ → k₁ * q₂ ≤ k₂ * q₁ → rise U h z m n k₁ q₁ ≤ℤ rise U h z m n k₂ q₂) → ⊥
fractions_without_their_cubes s =
    (s (unit 8) (pos 1) (pos 1) (pos 256) (pos 256) (no_slope_against (monotone_rising (lt_z_yes tt) (short_accepts (line (le_z_yes tt) (le_z_yes tt) (le_z_yes tt))))) (lt_z_yes tt) 2 4 1 1 (lit≤ tt) (lit≤ tt) (lit≤ tt) (lit≤ tt) (lit≤ tt)).le

-- ---- a change between the two: the arm stands at count 0 of (0,0), (1,1), (2,4), (3,7), point 0 is lowered to (0,−2), and at the same count the arm goes from 0 down to −2, though the piece rises before and after

pub a_change_between_two_answers : ((t u : Table) (b : Outcome (build t)) (c : Change) (x y : ℤ) (o : Outcome (evaluate (table t.s t.knots t.values b.lists) x)) (p : Outcome (evaluate u y))
    → ours.May (build t) b → b.number ≡ 0 → ChainOf ours [] (c ∷ []) (table t.s t.knots t.values b.lists) u → ours.May (evaluate (table t.s t.knots t.values b.lists) x) o → ours.May (evaluate u y) p
    → (i : ℕ) → i + 1 < length u.knots → entry u.knots i ≤ℤ x → x ≤ℤ y → y ≤ℤ entry u.knots (i + 1)
    → pos 0 <ℤ step t.values i → pos 0 <ℤ step u.values i → o.answer ≤ℤ p.answer) → ⊥
a_change_between_two_answers s =
    (s four lowered (outcome 0 0 tt four.slopes) lowering (pos 0) (pos 0) (outcome 0 0 (pos 0) tt) (outcome 0 0 (negsuc 1) tt) (ours_keeps.allowed (build four) (outcome 0 0 tt four.slopes) (four_built four.slopes refl)) refl
    (next {o = outcome 0 0 tt lowered} (ours_keeps.allowed (point [] lowering four) (outcome 0 0 tt lowered) is_lowered) none) (there (four_built four.slopes refl) (within tt tt) (inside {i = 0} (lit< tt) (le_z_yes tt) (lt_z_yes tt)) refl)
    (there (lowered_built lowered.slopes refl) (within tt tt) (inside {i = 0} (lit< tt) (le_z_yes tt) (lt_z_yes tt)) refl) 0 (lit< tt) (le_z_yes tt) (le_z_yes tt) (le_z_yes tt) (lt_z_yes tt) (lt_z_yes tt)).le
