-- Slopes between 0 and three times the piece's own are never against it, and Fritsch and Butland's mean is such a slope for both of its pieces.
use Rattle.std.specs.Prelude.{◌≡◌, [], ◌∷◌, ℤ, pos, ◌+ℤ◌, ◌-ℤ◌, ◌*ℤ◌, ◌≤ℤ◌, ◌<ℤ◌}
use Rattle.std.proofs.Common.{arith}
use Rattle.integers.specs.Ring.{ring, quote}
use Rattle.integers.specs.Linear.{lin, says}
use Rattle.integers.specs.Order.{at_most, signs, 0≤_number, 0≤_gap, 0≤_plus, 0<_product, <ℤ→≤ℤ, ≤ℤ_cancel, pos-≤}
use Rattle.cubic.specs.Piece.{NeverAgainst}
use Rattle.cubic.proofs.Slope.{in_box}
use Rattle.cubic.specs.Slopes.{mean_below}

pub box_accepts : {Z a b : ℤ} → pos 0 <ℤ Z → pos 0 ≤ℤ a → pos 0 ≤ℤ b → a ≤ℤ (pos 3 *ℤ Z) → b ≤ℤ (pos 3 *ℤ Z) → NeverAgainst Z a b
box_accepts {Z} {a} {b} z₀ a₀ b₀ a₁ b₁ =
    record { at = λ k q q₁ k₁. in_box Z a b (pos k) (pos q) (0≤_number k) (pos-≤ k₁) a₀ b₀ z₀ a₁ b₁ }

-- the same from the other side
pub mean_below_mirrored : (h₁ z₁ h₂ z₂ : ℤ) → mean_below h₁ z₁ h₂ z₂ ≡ mean_below h₂ z₂ h₁ z₁
mean_below_mirrored h₁ z₁ h₂ z₂ = ring (h₁ ∷ z₁ ∷ h₂ ∷ z₂ ∷ []) (search quote depth 30 fits 9000) tt

-- a slope m not above the mean 3U·(h1 + h2)·z1·z2 / (..) is at most three times the left piece's own, whatever the unit U; by `mean_below_mirrored`
-- at most three times the right piece's
pub mean_in_box : {U h₁ z₁ h₂ z₂ m : ℤ} → pos 0 ≤ℤ U → pos 0 <ℤ h₁ → pos 0 <ℤ z₁ → pos 0 <ℤ h₂ → pos 0 <ℤ z₂ → pos 0 ≤ℤ m → (m *ℤ mean_below h₁ z₁ h₂ z₂) ≤ℤ (pos 3 *ℤ U *ℤ (h₁ +ℤ h₂) *ℤ z₁ *ℤ z₂) → (m *ℤ h₁) ≤ℤ (pos 3 *ℤ (U *ℤ z₁))
mean_in_box {U} {h₁} {z₁} {h₂} {z₂} {m} u₀ h₁₀ z₁₀ h₂₀ z₂₀ m₀ s =
    let a = <ℤ→≤ℤ h₁₀ in
    let b = <ℤ→≤ℤ z₁₀ in
    let c = <ℤ→≤ℤ h₂₀ in
    let d = <ℤ→≤ℤ z₂₀ in
    ≤ℤ_cancel (0<_product (wider h₁₀ h₂₀) z₂₀)
    (at_most
    (pos 3 *ℤ U *ℤ (h₁ +ℤ h₂) *ℤ z₁ *ℤ z₂ -ℤ m *ℤ mean_below h₁ z₁ h₂ z₂ +ℤ (pos 3 *ℤ U *ℤ h₂ *ℤ z₁ *ℤ z₂ +ℤ m *ℤ (pos 2 *ℤ h₁ +ℤ h₂) *ℤ h₂ *ℤ z₁))
    (ring (U ∷ h₁ ∷ z₁ ∷ h₂ ∷ z₂ ∷ m ∷ []) (search quote depth 30 fits 9000) tt) (0≤_plus (0≤_gap s) (search signs depth 9 fits 9000)))
  where
    wider : {h₁ h₂ : ℤ} → pos 0 <ℤ h₁ → pos 0 <ℤ h₂ → pos 0 <ℤ (h₁ +ℤ pos 2 *ℤ h₂)
    wider {h₁} {h₂} = lin (h₁ ∷ h₂ ∷ []) (search says depth 30 fits 9000) (omega arith)
