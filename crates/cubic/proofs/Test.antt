-- Two tests decide the definition for a positive rise Z: Fritsch and Carlson's, as the exact rules read it, and a shorter one with one line in
-- place of three.
use Rattle.std.specs.Prelude.{◌≡◌, [], ◌∷◌, ◌⊎◌, ℤ, pos, ◌+ℤ◌, ◌-ℤ◌, ◌*ℤ◌, ◌≤ℤ◌, ◌<ℤ◌}
use Rattle.std.proofs.Common.{inl, inr, ⊎_elim, arith}
use Rattle.integers.specs.Linear.{lin, says}
use Rattle.integers.specs.Order.{0≤_number, ≤ℤ_or-<ℤ, pos-≤}
use Rattle.cubic.specs.Piece.{NeverAgainst}
use Rattle.cubic.specs.Slope.{over, InEllipse, steep, turn}
use Rattle.cubic.proofs.Slope.{below_line, in_ellipse, ellipse_over}
use Rattle.cubic.proofs.Never.{start_not_against, end_not_against, least_inside, inside_ellipse}
use Rattle.cubic.specs.Test.{FritschCarlson, OneHolds, Short, inside, left, line, oval, right, sum}

-- ---- the short test: not above the line a + b = 3Z, or above it and in the ellipse

pub short_accepts : {Z a b : ℤ} → Short Z a b → NeverAgainst Z a b
short_accepts {Z} {a} {b} (line a₀ b₀ s) =
    record { at = λ k q q₁ k₁. below_line Z a b (pos k) (pos q) (0≤_number k) (pos-≤ k₁) a₀ b₀ (under Z a b s) }
  where
    under : (Z a b : ℤ) → over Z a b ≤ℤ pos 0 → (a +ℤ b) ≤ℤ (pos 3 *ℤ Z)
    under Z a b = lin (Z ∷ a ∷ b ∷ []) (search says depth 30 fits 9000) (omega arith)
short_accepts {Z} {a} {b} (oval a₀ b₀ s d) =
    record { at = λ k q q₁ k₁. in_ellipse Z a b (pos k) (pos q) (0≤_number k) (pos-≤ k₁) a₀ b₀ (curved Z a b a₀ b₀ s) (inner _ _ _ (ellipse_over Z a b) d.inside) }
  where
    curved : (Z a b : ℤ) → pos 0 ≤ℤ a → pos 0 ≤ℤ b → pos 0 <ℤ over Z a b → pos 0 <ℤ steep Z a b
    curved Z a b = lin (Z ∷ a ∷ b ∷ []) (search says depth 30 fits 9000) (omega arith)

    inner : (d s p : ℤ) → d ≡ s -ℤ p → s ≤ℤ p → d ≤ℤ pos 0
    inner d s p = lin (d ∷ s ∷ p ∷ []) (search says depth 30 fits 9000) (omega arith)

-- the ellipse's two forms
outer : (d s p : ℤ) → d ≡ s -ℤ p → d ≤ℤ pos 0 → s ≤ℤ p
outer d s p = lin (d ∷ s ∷ p ∷ []) (search says depth 30 fits 9000) (omega arith)

pub in_oval : {Z a b : ℤ} → NeverAgainst Z a b → pos 0 <ℤ over Z a b → InEllipse (over Z a b) a b
in_oval {Z} {a} {b} f s = record { inside = outer _ _ _ (ellipse_over Z a b) (inside_ellipse f (above Z a b s)) }
  where
    above : (Z a b : ℤ) → pos 0 <ℤ over Z a b → (pos 3 *ℤ Z) <ℤ (a +ℤ b)
    above Z a b = lin (Z ∷ a ∷ b ∷ []) (search says depth 30 fits 9000) (omega arith)

pub short_complete : {Z a b : ℤ} → NeverAgainst Z a b → Short Z a b
short_complete {Z} {a} {b} f =
    ⊎_elim (λ s. line (start_not_against f) (end_not_against f) s)
    (λ s. oval (start_not_against f) (end_not_against f) s (in_oval f s)) (≤ℤ_or-<ℤ (over Z a b) (pos 0))

-- ---- "a and b are not negative, and at least one holds: a + b ≤ 2Z; 2a + b ≤ 3Z; a + 2b ≤ 3Z; a² + ab + b² − 6Z(a + b) + 9Z² ≤ 0"

pub fritsch_carlson_accepts : {Z a b : ℤ} → pos 0 <ℤ Z → FritschCarlson Z a b → NeverAgainst Z a b
fritsch_carlson_accepts {Z} {a} {b} z₀ t = short_accepts (by t.one)
  where
    under : (Z a b : ℤ) → pos 0 <ℤ Z → (a +ℤ b) ≤ℤ (pos 2 *ℤ Z) → over Z a b ≤ℤ pos 0
    under Z a b = lin (Z ∷ a ∷ b ∷ []) (search says depth 30 fits 9000) (omega arith)

    under_left : (Z a b : ℤ) → pos 0 ≤ℤ a → (pos 2 *ℤ a +ℤ b) ≤ℤ (pos 3 *ℤ Z) → over Z a b ≤ℤ pos 0
    under_left Z a b = lin (Z ∷ a ∷ b ∷ []) (search says depth 30 fits 9000) (omega arith)

    under_right : (Z a b : ℤ) → pos 0 ≤ℤ b → (a +ℤ pos 2 *ℤ b) ≤ℤ (pos 3 *ℤ Z) → over Z a b ≤ℤ pos 0
    under_right Z a b = lin (Z ∷ a ∷ b ∷ []) (search says depth 30 fits 9000) (omega arith)

    by : OneHolds Z a b → Short Z a b
    by (sum h) = line t.start t.end (under Z a b z₀ h)
    by (left h) = line t.start t.end (under_left Z a b t.start h)
    by (right h) = line t.start t.end (under_right Z a b t.end h)
    by (inside h) =
        ⊎_elim (λ s. line t.start t.end s) (λ s. oval t.start t.end s (record { inside = outer _ _ _ (ellipse_over Z a b) h }))
        (≤ℤ_or-<ℤ (over Z a b) (pos 0))

pub fritsch_carlson_complete : {Z a b : ℤ} → NeverAgainst Z a b → FritschCarlson Z a b
fritsch_carlson_complete {Z} {a} {b} f =
    record { start = start_not_against f; end = end_not_against f; one = first (≤ℤ_or-<ℤ (a +ℤ b) (pos 2 *ℤ Z)) }
  where
    curved : (Z a b : ℤ) → (pos 2 *ℤ Z) <ℤ (a +ℤ b) → pos 0 <ℤ steep Z a b
    curved Z a b = lin (Z ∷ a ∷ b ∷ []) (search says depth 30 fits 9000) (omega arith)

    after : (Z a b : ℤ) → (pos 3 *ℤ Z) <ℤ (pos 2 *ℤ a +ℤ b) → pos 0 ≤ℤ turn Z a b
    after Z a b = lin (Z ∷ a ∷ b ∷ []) (search says depth 30 fits 9000) (omega arith)

    before : (Z a b : ℤ) → (pos 3 *ℤ Z) <ℤ (a +ℤ pos 2 *ℤ b) → turn Z a b ≤ℤ steep Z a b
    before Z a b = lin (Z ∷ a ∷ b ∷ []) (search says depth 30 fits 9000) (omega arith)

    third : (pos 2 *ℤ Z) <ℤ (a +ℤ b) → (pos 3 *ℤ Z) <ℤ (pos 2 *ℤ a +ℤ b) → ((a +ℤ pos 2 *ℤ b) ≤ℤ (pos 3 *ℤ Z)) ⊎ ((pos 3 *ℤ Z) <ℤ (a +ℤ pos 2 *ℤ b)) → OneHolds Z a b
    third s l (inl h) = right h
    third s l (inr h) = inside (least_inside f (curved Z a b s) (after Z a b l) (before Z a b h))

    second : (pos 2 *ℤ Z) <ℤ (a +ℤ b) → ((pos 2 *ℤ a +ℤ b) ≤ℤ (pos 3 *ℤ Z)) ⊎ ((pos 3 *ℤ Z) <ℤ (pos 2 *ℤ a +ℤ b)) → OneHolds Z a b
    second s (inl h) = left h
    second s (inr h) = third s h (≤ℤ_or-<ℤ (a +ℤ pos 2 *ℤ b) (pos 3 *ℤ Z))

    first : ((a +ℤ b) ≤ℤ (pos 2 *ℤ Z)) ⊎ ((pos 2 *ℤ Z) <ℤ (a +ℤ b)) → OneHolds Z a b
    first (inl h) = sum h
    first (inr h) = second h (≤ℤ_or-<ℤ (pos 2 *ℤ a +ℤ b) (pos 3 *ℤ Z))
