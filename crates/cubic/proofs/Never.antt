-- What follows for a piece whose slope is never against its rise Z: the ends, the least slope, the mirror image, and nothing above 4Z.
use Rattle.std.specs.Prelude.{◌≡◌, [], ◌∷◌, ℕ, ◌*◌, ℤ, pos, negsuc, neg_ℤ, ◌+ℤ◌, ◌-ℤ◌, ◌*ℤ◌, ◌≤ℤ◌, ◌<ℤ◌}
use Rattle.std.proofs.Common.{sym, ⊎_elim, arith, lit≤}
use Rattle.std.specs.Int.Signed.{lt_z_yes}
use Rattle.integers.specs.Linear.{lin, says}
use Rattle.integers.specs.Order.{0≤_as, 0≤_number, 0≤_square, 0≤_gap, 0<_gap, 0≤_cancel, 0<_product, 0<→1≤, ≤ℤ_or-<ℤ, pos-≤, ≤_pos}
use Rattle.integers.specs.Within.{Within, within, within_high}
use Rattle.cubic.specs.Piece.{slope_at, NeverAgainst}
use Rattle.cubic.specs.Slope.{ellipse, steep, turn}
use Rattle.cubic.proofs.Slope.{at_start, at_end, at_half, at_turn, fourfold, mirrored}
use Rattle.cubic.specs.Never.{SmallCoefficients}

-- at a fraction of two integers
pub at_fraction : {Z a b : ℤ} → NeverAgainst Z a b → (k q : ℤ) → pos 0 ≤ℤ k → k ≤ℤ q → pos 1 ≤ℤ q → pos 0 ≤ℤ slope_at Z a b k q
at_fraction f (pos k) (pos q) k₀ k₁ q₁ = f.at k q (≤_pos q₁) (≤_pos k₁)
at_fraction f (pos k) (negsuc q) k₀ k₁ q₁ = absurd k₁.le
at_fraction f (negsuc k) q k₀ k₁ q₁ = absurd k₀.le

-- ---- the ends

pub start_not_against : {Z a b : ℤ} → NeverAgainst Z a b → pos 0 ≤ℤ a
start_not_against {Z} {a} {b} f = 0≤_as (sym (at_start Z a b)) (f.at 0 1 (lit≤ tt) (lit≤ tt))

pub end_not_against : {Z a b : ℤ} → NeverAgainst Z a b → pos 0 ≤ℤ b
end_not_against {Z} {a} {b} f = 0≤_as (sym (at_end Z a b)) (f.at 1 1 (lit≤ tt) (lit≤ tt))

-- ---- half way: the ends together are at most 6Z, so that Z is not below 0, and without a rise they are 0

half_way : {Z a b : ℤ} → NeverAgainst Z a b → pos 0 ≤ℤ (pos 6 *ℤ Z -ℤ a -ℤ b)
half_way {Z} {a} {b} f = 0≤_as (sym (at_half Z a b)) (f.at 1 2 (lit≤ tt) (lit≤ tt))

rise_not_against : {Z a b : ℤ} → NeverAgainst Z a b → pos 0 ≤ℤ Z
rise_not_against {Z} {a} {b} f = up Z a b (start_not_against f) (end_not_against f) (half_way f)
  where
    up : (Z a b : ℤ) → pos 0 ≤ℤ a → pos 0 ≤ℤ b → pos 0 ≤ℤ (pos 6 *ℤ Z -ℤ a -ℤ b) → pos 0 ≤ℤ Z
    up Z a b = lin (Z ∷ a ∷ b ∷ []) (search says depth 30 fits 9000) (omega arith)

pub level_throughout : {a b : ℤ} → NeverAgainst (pos 0) a b → (a ≡ pos 0) × (b ≡ pos 0)
level_throughout {a} {b} f = none a b (start_not_against f) (end_not_against f) (half_way f)
  where
    none : (a b : ℤ) → pos 0 ≤ℤ a → pos 0 ≤ℤ b → pos 0 ≤ℤ (pos 6 *ℤ pos 0 -ℤ a -ℤ b) → (a ≡ pos 0) × (b ≡ pos 0)
    none a b = lin (a ∷ b ∷ []) (search says depth 30 fits 9000) (omega arith)

-- ---- where the least slope lies inside the piece, the ellipse holds a and b

pub least_inside : {Z a b : ℤ} → NeverAgainst Z a b → pos 0 <ℤ steep Z a b → pos 0 ≤ℤ turn Z a b → turn Z a b ≤ℤ steep Z a b → ellipse Z a b ≤ℤ pos 0
least_inside {Z} {a} {b} f s t₀ t₁ =
    not_positive (0≤_cancel s (0≤_as (sym (at_turn Z a b)) (at_fraction f (turn Z a b) (steep Z a b) t₀ t₁ (0<→1≤ s))))
  where
    not_positive : {x : ℤ} → pos 0 ≤ℤ neg_ℤ x → x ≤ℤ pos 0
    not_positive {x} = lin (x ∷ []) (search says depth 30 fits 9000) (omega arith)

-- so above the line a + b = 3Z
pub inside_ellipse : {Z a b : ℤ} → NeverAgainst Z a b → (pos 3 *ℤ Z) <ℤ (a +ℤ b) → ellipse Z a b ≤ℤ pos 0
inside_ellipse {Z} {a} {b} f s =
    let t = inside Z a b (start_not_against f) (end_not_against f) s in least_inside f t.0 t.1.0 t.1.1
  where
    inside : (Z a b : ℤ) → pos 0 ≤ℤ a → pos 0 ≤ℤ b → (pos 3 *ℤ Z) <ℤ (a +ℤ b) → (pos 0 <ℤ steep Z a b) × ((pos 0 ≤ℤ turn Z a b) × (turn Z a b ≤ℤ steep Z a b))
    inside Z a b = lin (Z ∷ a ∷ b ∷ []) (search says depth 30 fits 9000) (omega arith)

-- ---- the same read from the right

pub mirror : {Z a b : ℤ} → NeverAgainst Z a b → NeverAgainst Z b a
mirror {Z} {a} {b} f =
    record {
      at = λ k q q₁ k₁.
          0≤_as (mirrored Z b a (pos k) (pos q))
          (at_fraction f (pos q -ℤ pos k) (pos q) (0≤_gap (pos-≤ k₁)) (shorter (pos k) (pos q) (0≤_number k)) (pos-≤ q₁));
    }
  where
    shorter : (k q : ℤ) → pos 0 ≤ℤ k → (q -ℤ k) ≤ℤ q
    shorter k q = lin (k ∷ q ∷ []) (search says depth 30 fits 9000) (omega arith)

-- ---- nothing above 4Z

outside : (Z a b : ℤ) → pos 0 ≤ℤ Z → (pos 4 *ℤ Z) <ℤ a → ellipse Z a b ≤ℤ pos 0 → ⊥
outside Z a b z₀ h d =
    sum _ _ _ (fourfold Z a b) (0≤_square (pos 2 *ℤ b +ℤ a -ℤ pos 6 *ℤ Z))
    (0<_product (0<_product {x = pos 3} (lt_z_yes tt) (positive Z a z₀ h)) (0<_gap h)) d
  where
    positive : (Z a : ℤ) → pos 0 ≤ℤ Z → (pos 4 *ℤ Z) <ℤ a → pos 0 <ℤ a
    positive Z a = lin (Z ∷ a ∷ []) (search says depth 30 fits 9000) (omega arith)

    sum : (d s t : ℤ) → pos 4 *ℤ d ≡ s +ℤ t → pos 0 ≤ℤ s → pos 0 <ℤ t → d ≤ℤ pos 0 → ⊥
    sum d s t = lin (d ∷ s ∷ t ∷ []) (search says depth 30 fits 9000) (omega arith)

pub start_below_four : {Z a b : ℤ} → NeverAgainst Z a b → a ≤ℤ (pos 4 *ℤ Z)
start_below_four {Z} {a} {b} f =
    ⊎_elim (λ h. h) (λ h. absurd (outside Z a b z₀ h (inside_ellipse f (over_line Z a b z₀ (end_not_against f) h))))
    (≤ℤ_or-<ℤ a (pos 4 *ℤ Z))
  where
    z₀ : pos 0 ≤ℤ Z
    z₀ = rise_not_against f

    over_line : (Z a b : ℤ) → pos 0 ≤ℤ Z → pos 0 ≤ℤ b → (pos 4 *ℤ Z) <ℤ a → (pos 3 *ℤ Z) <ℤ (a +ℤ b)
    over_line Z a b = lin (Z ∷ a ∷ b ∷ []) (search says depth 30 fits 9000) (omega arith)

pub end_below_four : {Z a b : ℤ} → NeverAgainst Z a b → b ≤ℤ (pos 4 *ℤ Z)
end_below_four f = start_below_four (mirror f)

-- ---- so the cubic's coefficients are small, for a rise within M

pub small_coefficients : {M : ℕ} {Z a b : ℤ} → NeverAgainst Z a b → Within M Z → SmallCoefficients M Z a b
small_coefficients {M} {Z} {a} {b} f zM =
    let a₀ = start_not_against f in
    let b₀ = end_not_against f in
    let a₄ = start_below_four f in
    let b₄ = end_below_four f in
    let p = thirds Z a b M (within_high zM) a₀ b₀ a₄ b₄ in
    let q = seconds Z a b M (within_high zM) a₀ b₀ a₄ b₄ in
    let r = ends Z a M (within_high zM) a₀ a₄ in
    let s = ends Z b M (within_high zM) b₀ b₄ in
    record { third = within _ _ p.0 p.1; second = within _ _ q.0 q.1; start = within _ _ r.0 r.1; end = within _ _ s.0 s.1 }
  where
    thirds : (Z a b : ℤ) (M : ℕ) → Z ≤ℤ pos M → pos 0 ≤ℤ a → pos 0 ≤ℤ b → a ≤ℤ (pos 4 *ℤ Z) → b ≤ℤ (pos 4 *ℤ Z) → (neg_ℤ (pos (6 * M)) ≤ℤ (a +ℤ b -ℤ pos 2 *ℤ Z)) × ((a +ℤ b -ℤ pos 2 *ℤ Z) ≤ℤ pos (6 * M))
    thirds Z a b M = lin (Z ∷ a ∷ b ∷ []) (search says depth 30 fits 9000) (omega arith)

    seconds : (Z a b : ℤ) (M : ℕ) → Z ≤ℤ pos M → pos 0 ≤ℤ a → pos 0 ≤ℤ b → a ≤ℤ (pos 4 *ℤ Z) → b ≤ℤ (pos 4 *ℤ Z) → (neg_ℤ (pos (9 * M)) ≤ℤ (pos 3 *ℤ Z -ℤ pos 2 *ℤ a -ℤ b)) × ((pos 3 *ℤ Z -ℤ pos 2 *ℤ a -ℤ b) ≤ℤ pos (9 * M))
    seconds Z a b M = lin (Z ∷ a ∷ b ∷ []) (search says depth 30 fits 9000) (omega arith)

    ends : (Z x : ℤ) (M : ℕ) → Z ≤ℤ pos M → pos 0 ≤ℤ x → x ≤ℤ (pos 4 *ℤ Z) → (neg_ℤ (pos (4 * M)) ≤ℤ x) × (x ≤ℤ pos (4 * M))
    ends Z x M = lin (Z ∷ x ∷ []) (search says depth 30 fits 9000) (omega arith)
