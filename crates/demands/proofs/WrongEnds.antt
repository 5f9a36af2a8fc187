-- Wrong programs that break the second demand at an end of a table, where request 2 of document 02 gives the rule, each ours but for what is said of it.
use Rattle.std.specs.Prelude.{◌≡◌, refl, Bool, false, cond, ◌&&◌, ◌||◌, List, [], ◌∷◌, ℕ, zero, suc, ◌-◌, ◌<◌, ltb, ℤ, pos, negsuc, ◌+ℤ◌, ◌-ℤ◌, ◌*ℤ◌, length, set}
use Rattle.std.proofs.Common.{◌∙◌, ap, ⊎_elim, arith, lit<, lt-ltb, le-ltb}
use Rattle.std.specs.Int.Signed.{lt_z}
use Rattle.integers.specs.Promise.{floor_of, magnitude, with_sign, toward_zero}
use Rattle.integers.specs.Order.{<_or-≤}
use Rattle.cubic.specs.Slopes.{end_above, end_below, zero_or_opposed, beyond_the_bound, in_units, end_slope, secant_slope}
use Rattle.rules.specs.Limits.{unit, UnitWithin}
use Rattle.rules.specs.Known.{unit_size, 0<_unit, 0<_width}
use Rattle.table.specs.Table.{Table, table, step}
use Rattle.table.specs.Accepted.{PointsWithin}
use Rattle.table.specs.Tested.{points_by_test}
use Rattle.slopes.specs.Slopes.{end_at, tab, built_slope, built_slopes}
use Rattle.slopes.specs.Cases.{first_slope, last_slope}
use Rattle.demands.specs.Demands.{Call, Outcome, Demand2}
use Rattle.demands.specs.Rules.{end_rule, one_end}
use Rattle.demands.proofs.SixteenGiven.{eighth, count}
use Rattle.demands.specs.Refuting.{numbers_differ}
use Rattle.demands.proofs.Programs.{answering, two, two_within}
use Rattle.demands.proofs.Wrong2.{leaving, but_at, left}

-- ======== "With three or more points use PCHIM's end rule"

-- a slope that is made in some way of the slope unit, the end piece and its neighbour, where there are three points or more; of two points ours
abbrev from_three_on : Table → (wrong ours : ℤ) → ℤ
from_three_on t wrong ours = cond (ltb 2 (length t.knots)) wrong ours

-- a builder that is ours but for the slope at the first point, and one that is ours but for that at the last, of which the slope is so made
abbrev pub but_the_first : ((U h₁ z₁ h₂ z₂ : ℤ) → ℤ) → Table → List ℤ
but_the_first slope t = but_at 0 (λ t. from_three_on t (slope (unit t.s) (step t.knots 0) (step t.values 0) (step t.knots 1) (step t.values 1)) (built_slope (unit t.s) t.knots t.values 0)) t

abbrev pub but_the_last : ((U h₁ z₁ h₂ z₂ : ℤ) → ℤ) → Table → List ℤ
but_the_last slope t =
    let i = length t.knots - 1 in
    but_at i (λ t. from_three_on t (slope (unit t.s) (step t.knots (i - 1)) (step t.values (i - 1)) (step t.knots (i - 2)) (step t.values (i - 2))) (built_slope (unit t.s) t.knots t.values i)) t

abbrev pub at_the_first : ((U h₁ z₁ h₂ z₂ : ℤ) → ℤ) → (call : Call) → Outcome call → Type 0
at_the_first slope = leaving (but_the_first slope)

abbrev pub at_the_last : ((U h₁ z₁ h₂ z₂ : ℤ) → ℤ) → (call : Call) → Outcome call → Type 0
at_the_last slope = leaving (but_the_last slope)

-- and one that is ours but for the first of two points
abbrev pub of_two_points : (Table → ℤ) → (call : Call) → Outcome call → Type 0
of_two_points slope = leaving (but_at 0 (λ t. from_three_on t (built_slope (unit t.s) t.knots t.values 0) (slope t)))

-- with the rule itself the first two are ours: whatever table comes in, they leave the same slopes
itself : (n : ℕ) (f : ℕ → ℤ) (i : ℕ) {s : ℤ} → s ≡ f i → set (tab n f) i s ≡ tab n f
itself zero f i e = refl
itself (suc n) f zero e = ap (λ (s : ℤ). s ∷ tab n (λ j. f (suc j))) e
itself (suc n) f (suc i) e = ap (λ (list : List ℤ). f 0 ∷ list) (itself n (λ j. f (suc j)) i e)

guarded : (t : Table) (i : ℕ) (rule : ℤ) → (2 < length t.knots → rule ≡ built_slope (unit t.s) t.knots t.values i) → from_three_on t rule (built_slope (unit t.s) t.knots t.values i) ≡ built_slope (unit t.s) t.knots t.values i
guarded t i rule is = ⊎_elim (λ n. chosen_by (lt-ltb 2 (length t.knots) n) ∙ is n) (λ n. chosen_by (le-ltb 2 (length t.knots) n)) (<_or-≤ 2 (length t.knots))
  where
    chosen_by : {b : Bool} → ltb 2 (length t.knots) ≡ b → from_three_on t rule (built_slope (unit t.s) t.knots t.values i) ≡ cond b rule (built_slope (unit t.s) t.knots t.values i)
    chosen_by = ap (λ (b : Bool). cond b rule (built_slope (unit t.s) t.knots t.values i))

pub the_rule_at_the_first_end_is_ours : (t : Table) → but_the_first end_slope t ≡ built_slopes (unit t.s) t.knots t.values
the_rule_at_the_first_end_is_ours t = itself (length t.knots) (built_slope (unit t.s) t.knots t.values) 0 (guarded t 0 (end_at (unit t.s) t.knots t.values 0 1) (first_slope (unit t.s) t.knots t.values 0 refl))

pub the_rule_at_the_last_end_is_ours : (t : Table) → but_the_last end_slope t ≡ built_slopes (unit t.s) t.knots t.values
the_rule_at_the_last_end_is_ours t =
    let i = length t.knots - 1 in
    itself (length t.knots) (built_slope (unit t.s) t.knots t.values) i (guarded t i (end_at (unit t.s) t.knots t.values (i - 1) (i - 2)) (λ n. last_slope (unit t.s) t.knots t.values i (omega (arith, n)) (omega (arith, n))))

-- of three points it is to leave what ours does, in any unit
module _ {s : ℕ} (u : UnitWithin s) (slope : (U h₁ z₁ h₂ z₂ : ℤ) → ℤ) (x₀ x₁ x₂ v₀ v₁ v₂ : ℤ) (p : PointsWithin (x₀ ∷ x₁ ∷ x₂ ∷ []) (v₀ ∷ v₁ ∷ v₂ ∷ [])) where
  pub the_first : Demand2 (answering (at_the_first slope)) → slope (unit s) (x₁ -ℤ x₀) (v₁ -ℤ v₀) (x₂ -ℤ x₁) (v₂ -ℤ v₁) ≡ end_slope (unit s) (x₁ -ℤ x₀) (v₁ -ℤ v₀) (x₂ -ℤ x₁) (v₂ -ℤ v₁)
  the_first d =
      let U = 0<_unit (unit_size u) in
      let h = 0<_width (p.widths 0 (lit< tt)) in
      let k = 0<_width (p.widths 1 (lit< tt)) in
      one_end h k (((left d (table s (x₀ ∷ x₁ ∷ x₂ ∷ []) (v₀ ∷ v₁ ∷ v₂ ∷ []) (pos 0 ∷ pos 0 ∷ pos 0 ∷ [])) u p refl).each 0 (lit< tt)).first refl (lit< tt)) (end_rule _ _ U h k)

  the_last : Demand2 (answering (at_the_last slope)) → slope (unit s) (x₂ -ℤ x₁) (v₂ -ℤ v₁) (x₁ -ℤ x₀) (v₁ -ℤ v₀) ≡ end_slope (unit s) (x₂ -ℤ x₁) (v₂ -ℤ v₁) (x₁ -ℤ x₀) (v₁ -ℤ v₀)
  the_last d =
      let U = 0<_unit (unit_size u) in
      let h = 0<_width (p.widths 0 (lit< tt)) in
      let k = 0<_width (p.widths 1 (lit< tt)) in
      one_end k h (((left d (table s (x₀ ∷ x₁ ∷ x₂ ∷ []) (v₀ ∷ v₁ ∷ v₂ ∷ []) (pos 0 ∷ pos 0 ∷ pos 0 ∷ [])) u p refl).each 2 (lit< tt)).last 0 refl refl) (end_rule _ _ U k h)

-- the rule, with what it asks and answers left open
abbrev pub by_cases : (opposed beyond : Bool) (bound quotient : ℤ) → ℤ
by_cases opposed beyond bound quotient = cond opposed (pos 0) (cond beyond bound quotient)

-- the bound, as a fraction over h1, and the quotient
abbrev pub bound : (U h₁ z₁ : ℤ) → ℤ
bound U h₁ z₁ = in_units U (with_sign z₁ (pos 3 *ℤ magnitude z₁)) h₁

abbrev pub quotient : (U h₁ z₁ h₂ z₂ : ℤ) → ℤ
quotient U h₁ z₁ h₂ z₂ = in_units U (end_above h₁ z₁ h₂ z₂) (end_below h₁ h₂)

-- the rule that document 01 had: (0,0), (1,1), (2,4) then begin with 256, and not with 0; and end with 768, and not with 1024
abbrev pub secant : (U h₁ z₁ h₂ z₂ : ℤ) → ℤ
secant U h₁ z₁ h₂ z₂ = secant_slope U h₁ z₁

pub the_secant_at_the_first_end : Demand2 (answering (at_the_first secant)) → ⊥
the_secant_at_the_first_end d = numbers_differ tt (the_first eighth secant (pos 0) (pos 1) (pos 2) (pos 0) (pos 1) (pos 4) (points_by_test _ _ refl (count tt tt) tt) d)

pub the_secant_at_the_last_end : Demand2 (answering (at_the_last secant)) → ⊥
the_secant_at_the_last_end d = numbers_differ tt (the_last eighth secant (pos 0) (pos 1) (pos 2) (pos 0) (pos 1) (pos 4) (points_by_test _ _ refl (count tt tt) tt) d)

-- the last end read from the left, and its widths swapped: (0,0), (2,−2), (3,−4) then end with −85, and not with −597
abbrev pub from_the_left : (U h₁ z₁ h₂ z₂ : ℤ) → ℤ
from_the_left U h₁ z₁ h₂ z₂ = end_slope U h₂ z₂ h₁ z₁

pub the_last_end_read_from_the_left : Demand2 (answering (at_the_last from_the_left)) → ⊥
the_last_end_read_from_the_left d = numbers_differ tt (the_last eighth from_the_left (pos 0) (pos 2) (pos 3) (pos 0) (negsuc 1) (negsuc 3) (points_by_test _ _ refl (count tt tt) tt) d)

abbrev pub widths_swapped : (U h₁ z₁ h₂ z₂ : ℤ) → ℤ
widths_swapped U h₁ z₁ h₂ z₂ = end_slope U h₂ z₁ h₁ z₂

pub the_widths_of_the_last_end_swapped : Demand2 (answering (at_the_last widths_swapped)) → ⊥
the_widths_of_the_last_end_swapped d = numbers_differ tt (the_last eighth widths_swapped (pos 0) (pos 2) (pos 3) (pos 0) (negsuc 1) (negsuc 3) (points_by_test _ _ refl (count tt tt) tt) d)

-- ======== "If it is zero or opposes z1 (or z1 = 0), the slope is 0."

-- not asked: (0,0), (1,1), (2,5) then begin with −128
abbrev pub never_level : (U h₁ z₁ h₂ z₂ : ℤ) → ℤ
never_level U h₁ z₁ h₂ z₂ = by_cases false (beyond_the_bound h₁ z₁ h₂ z₂) (bound U h₁ z₁) (quotient U h₁ z₁ h₂ z₂)

pub an_end_slope_against_the_rise : Demand2 (answering (at_the_first never_level)) → ⊥
an_end_slope_against_the_rise d = numbers_differ tt (the_first eighth never_level (pos 0) (pos 1) (pos 2) (pos 0) (pos 1) (pos 5) (points_by_test _ _ refl (count tt tt) tt) d)

-- asked by "<", so that an end piece without a rise passes: (0,0), (1,0), (2,−1) then begin with 128
abbrev pub opposed_alone : (U h₁ z₁ h₂ z₂ : ℤ) → ℤ
opposed_alone U h₁ z₁ h₂ z₂ = by_cases (lt_z (end_above h₁ z₁ h₂ z₂ *ℤ z₁) (pos 0)) (beyond_the_bound h₁ z₁ h₂ z₂) (bound U h₁ z₁) (quotient U h₁ z₁ h₂ z₂)

pub an_end_slope_without_a_rise : Demand2 (answering (at_the_first opposed_alone)) → ⊥
an_end_slope_without_a_rise d = numbers_differ tt (the_first eighth opposed_alone (pos 0) (pos 1) (pos 2) (pos 0) (pos 0) (negsuc 0) (points_by_test _ _ refl (count tt tt) tt) d)

-- opposite signs give 0, as they do inside: (0,0), (1,−1), (2,0) then begin with 0, and not with −512
abbrev pub level_where_it_turns : (U h₁ z₁ h₂ z₂ : ℤ) → ℤ
level_where_it_turns U h₁ z₁ h₂ z₂ = by_cases (zero_or_opposed h₁ z₁ h₂ z₂ || lt_z (z₁ *ℤ z₂) (pos 0)) (beyond_the_bound h₁ z₁ h₂ z₂) (bound U h₁ z₁) (quotient U h₁ z₁ h₂ z₂)

pub opposite_signs_answered_by_0 : Demand2 (answering (at_the_first level_where_it_turns)) → ⊥
opposite_signs_answered_by_0 d = numbers_differ tt (the_first eighth level_where_it_turns (pos 0) (pos 1) (pos 2) (pos 0) (negsuc 0) (pos 0) (points_by_test _ _ refl (count tt tt) tt) d)

-- ======== "If z1 and z2 have opposite signs and its magnitude exceeds 3·|z1|/h1, that bound is taken with z1's sign."

-- not taken: (0,0), (2,−1), (3,1) then begin with −554, and not with −384
abbrev pub without_a_bound : (U h₁ z₁ h₂ z₂ : ℤ) → ℤ
without_a_bound U h₁ z₁ h₂ z₂ = by_cases (zero_or_opposed h₁ z₁ h₂ z₂) false (bound U h₁ z₁) (quotient U h₁ z₁ h₂ z₂)

pub no_bound : Demand2 (answering (at_the_first without_a_bound)) → ⊥
no_bound d = numbers_differ tt (the_first eighth without_a_bound (pos 0) (pos 2) (pos 3) (pos 0) (negsuc 0) (pos 1) (points_by_test _ _ refl (count tt tt) tt) d)

-- the bound taken only beyond four secants, and not beyond three: (0,0), (1,1), (2,−3) then begin with 896, and not with 768
abbrev pub beyond_four : (U h₁ z₁ h₂ z₂ : ℤ) → ℤ
beyond_four U h₁ z₁ h₂ z₂ =
    by_cases (zero_or_opposed h₁ z₁ h₂ z₂) (lt_z (z₁ *ℤ z₂) (pos 0) && lt_z (pos 4 *ℤ magnitude z₁ *ℤ end_below h₁ h₂) (magnitude (end_above h₁ z₁ h₂ z₂) *ℤ h₁)) (bound U h₁ z₁) (quotient U h₁ z₁ h₂ z₂)

pub a_bound_beyond_four_secants : Demand2 (answering (at_the_first beyond_four)) → ⊥
a_bound_beyond_four_secants d = numbers_differ tt (the_first eighth beyond_four (pos 0) (pos 1) (pos 2) (pos 0) (pos 1) (negsuc 2) (points_by_test _ _ refl (count tt tt) tt) d)

-- both sides compared as whole numbers, before the unit: the same points then begin with 896
abbrev pub compared_whole : (U h₁ z₁ h₂ z₂ : ℤ) → ℤ
compared_whole U h₁ z₁ h₂ z₂ =
    by_cases (zero_or_opposed h₁ z₁ h₂ z₂) (lt_z (z₁ *ℤ z₂) (pos 0) && lt_z (floor_of (pos 3 *ℤ magnitude z₁) h₁) (floor_of (magnitude (end_above h₁ z₁ h₂ z₂)) (end_below h₁ h₂))) (bound U h₁ z₁) (quotient U h₁ z₁ h₂ z₂)

pub a_bound_compared_in_whole_numbers : Demand2 (answering (at_the_first compared_whole)) → ⊥
a_bound_compared_in_whole_numbers d = numbers_differ tt (the_first eighth compared_whole (pos 0) (pos 1) (pos 2) (pos 0) (pos 1) (negsuc 2) (points_by_test _ _ refl (count tt tt) tt) d)

-- without its sign: (0,0), (2,−1), (3,1) then begin with 384
abbrev pub unsigned : (U h₁ z₁ h₂ z₂ : ℤ) → ℤ
unsigned U h₁ z₁ h₂ z₂ = by_cases (zero_or_opposed h₁ z₁ h₂ z₂) (beyond_the_bound h₁ z₁ h₂ z₂) (in_units U (pos 3 *ℤ magnitude z₁) h₁) (quotient U h₁ z₁ h₂ z₂)

pub a_bound_without_its_sign : Demand2 (answering (at_the_first unsigned)) → ⊥
a_bound_without_its_sign d = numbers_differ tt (the_first eighth unsigned (pos 0) (pos 2) (pos 3) (pos 0) (negsuc 0) (pos 1) (points_by_test _ _ refl (count tt tt) tt) d)

-- ======== "Times 256, rounded toward zero once, at the end."

-- the bound rounded before the unit: the same points then begin with −256; and three times the rounded secant: (0,0), (3,−2), (4,0) then begin with −510, and not with −512
abbrev pub rounded_before : (U h₁ z₁ h₂ z₂ : ℤ) → ℤ
rounded_before U h₁ z₁ h₂ z₂ = by_cases (zero_or_opposed h₁ z₁ h₂ z₂) (beyond_the_bound h₁ z₁ h₂ z₂) (U *ℤ toward_zero (pos 3 *ℤ z₁) h₁) (quotient U h₁ z₁ h₂ z₂)

pub a_bound_rounded_before_the_unit : Demand2 (answering (at_the_first rounded_before)) → ⊥
a_bound_rounded_before_the_unit d = numbers_differ tt (the_first eighth rounded_before (pos 0) (pos 2) (pos 3) (pos 0) (negsuc 0) (pos 1) (points_by_test _ _ refl (count tt tt) tt) d)

abbrev pub three_secants : (U h₁ z₁ h₂ z₂ : ℤ) → ℤ
three_secants U h₁ z₁ h₂ z₂ = by_cases (zero_or_opposed h₁ z₁ h₂ z₂) (beyond_the_bound h₁ z₁ h₂ z₂) (pos 3 *ℤ secant_slope U h₁ z₁) (quotient U h₁ z₁ h₂ z₂)

pub a_bound_of_three_rounded_secants : Demand2 (answering (at_the_first three_secants)) → ⊥
a_bound_of_three_rounded_secants d = numbers_differ tt (the_first eighth three_secants (pos 0) (pos 3) (pos 4) (pos 0) (negsuc 1) (pos 0) (points_by_test _ _ refl (count tt tt) tt) d)

-- both secants rounded first: (0,0), (2,−1), (5,−3) then begin with −111, and not with −110
abbrev pub rounded_twice : (U h₁ z₁ h₂ z₂ : ℤ) → ℤ
rounded_twice U h₁ z₁ h₂ z₂ =
    by_cases (zero_or_opposed h₁ z₁ h₂ z₂) (beyond_the_bound h₁ z₁ h₂ z₂) (bound U h₁ z₁) (toward_zero ((pos 2 *ℤ h₁ +ℤ h₂) *ℤ secant_slope U h₁ z₁ -ℤ h₁ *ℤ secant_slope U h₂ z₂) (h₁ +ℤ h₂))

pub secants_rounded_first : Demand2 (answering (at_the_first rounded_twice)) → ⊥
secants_rounded_first d = numbers_differ tt (the_first eighth rounded_twice (pos 0) (pos 2) (pos 5) (pos 0) (negsuc 0) (negsuc 2) (points_by_test _ _ refl (count tt tt) tt) d)

-- rounded down, on falls too: (0,0), (1,−2), (3,−4) then begin with −598, and not with −597
abbrev pub down : (U h₁ z₁ h₂ z₂ : ℤ) → ℤ
down U h₁ z₁ h₂ z₂ =
    by_cases (zero_or_opposed h₁ z₁ h₂ z₂) (beyond_the_bound h₁ z₁ h₂ z₂) (floor_of (U *ℤ with_sign z₁ (pos 3 *ℤ magnitude z₁)) h₁) (floor_of (U *ℤ end_above h₁ z₁ h₂ z₂) (end_below h₁ h₂))

pub an_end_slope_rounded_down : Demand2 (answering (at_the_first down)) → ⊥
an_end_slope_rounded_down d = numbers_differ tt (the_first eighth down (pos 0) (pos 1) (pos 3) (pos 0) (negsuc 1) (negsuc 3) (points_by_test _ _ refl (count tt tt) tt) d)

-- ======== "Two points keep the secant."

-- (0,0), (3,−10): rounded down, −854; and without its sign, 853
pub a_secant_rounded_down : Demand2 (answering (of_two_points (λ t. floor_of (unit t.s *ℤ step t.values 0) (step t.knots 0)))) → ⊥
a_secant_rounded_down d = (((left d two eighth two_within refl).each 0 (lit< tt)).of_two refl).size.low.le

pub a_secant_without_its_sign : Demand2 (answering (of_two_points (λ t. floor_of (unit t.s *ℤ magnitude (step t.values 0)) (step t.knots 0)))) → ⊥
a_secant_without_its_sign d = numbers_differ tt (((left d two eighth two_within refl).each 0 (lit< tt)).of_two refl).sign

-- the end rule where there is no neighbour, taken for one that is level: 3/2 of the secant, −1280
pub the_end_rule_at_two_points : Demand2 (answering (of_two_points (λ t. end_slope (unit t.s) (step t.knots 0) (step t.values 0) (step t.knots 0) (pos 0)))) → ⊥
the_end_rule_at_two_points d = (((left d two eighth two_within refl).each 0 (lit< tt)).of_two refl).size.low.le
