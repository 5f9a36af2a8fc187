-- The rule for an inner point, case by case: no slope, two rises, two falls.
use Rattle.std.specs.Prelude.{◌≡◌, ℤ, pos, neg_ℤ, ◌*ℤ◌, ◌≤ℤ◌, ◌<ℤ◌}
use Rattle.std.proofs.Common.{sym, ◌∙◌, ap₂, subst}
use Rattle.std.proofs.Math.IntN.{*ℤ_comm}
use Rattle.std.specs.Int.Signed.{clash_ℤ}
use Rattle.integers.specs.Promise.{magnitude, with_sign}
use Rattle.integers.specs.Signs.{magnitude_up, magnitude_down, sign_up, sign_down, 0<_magnitude, other_up, other_down}
use Rattle.integers.specs.Decided.{chosen, passed_over, decided-≤}
use Rattle.cubic.specs.Slopes.{mean, inner_slope}

module _ (U h₁ z₁ h₂ z₂ : ℤ) where
  pub inner_level : (z₁ *ℤ z₂) ≤ℤ pos 0 → pos 0 ≡ inner_slope U h₁ z₁ h₂ z₂
  inner_level p = chosen _ (decided-≤ (z₁ *ℤ z₂) (pos 0)) p

  pub inner_steep : pos 0 <ℤ (z₁ *ℤ z₂) → with_sign z₁ (mean U h₁ (magnitude z₁) h₂ (magnitude z₂)) ≡ inner_slope U h₁ z₁ h₂ z₂
  inner_steep p = passed_over (pos 0) (decided-≤ (z₁ *ℤ z₂) (pos 0)) (λ l. clash_ℤ p l)

  module _ (p : pos 0 <ℤ (z₁ *ℤ z₂)) where
    -- the magnitudes, whatever they are called
    above : {m₁ m₂ : ℤ} → magnitude z₁ ≡ m₁ → magnitude z₂ ≡ m₂ → (pos 0 <ℤ m₁) × (pos 0 <ℤ m₂)
    above e₁ e₂ = (
      subst (λ (v : ℤ). pos 0 <ℤ v) e₁ (0<_magnitude z₁ z₂ p),
      subst (λ (v : ℤ). pos 0 <ℤ v) e₂ (0<_magnitude z₂ z₁ (subst (λ (v : ℤ). pos 0 <ℤ v) (*ℤ_comm z₁ z₂) p)),
    )

    signed : {m₁ m₂ : ℤ} → magnitude z₁ ≡ m₁ → magnitude z₂ ≡ m₂ → with_sign z₁ (mean U h₁ m₁ h₂ m₂) ≡ inner_slope U h₁ z₁ h₂ z₂
    signed e₁ e₂ = ap₂ (λ (x y : ℤ). with_sign z₁ (mean U h₁ x h₂ y)) (sym e₁) (sym e₂) ∙ inner_steep p

    -- two rises
    module _ (u : pos 0 ≤ℤ z₁) where
      pub both_up : (pos 0 <ℤ z₁) × (pos 0 <ℤ z₂)
      both_up = above (magnitude_up z₁ u) (magnitude_up z₂ (other_up z₁ z₂ p u))

      pub inner_up : mean U h₁ z₁ h₂ z₂ ≡ inner_slope U h₁ z₁ h₂ z₂
      inner_up = sym (sign_up z₁ _ u) ∙ signed (magnitude_up z₁ u) (magnitude_up z₂ (other_up z₁ z₂ p u))

    -- two falls
    module _ (d : z₁ <ℤ pos 0) where
      pub both_down : (pos 0 <ℤ neg_ℤ z₁) × (pos 0 <ℤ neg_ℤ z₂)
      both_down = above (magnitude_down z₁ d) (magnitude_down z₂ (other_down z₁ z₂ p d))

      pub inner_down : neg_ℤ (mean U h₁ (neg_ℤ z₁) h₂ (neg_ℤ z₂)) ≡ inner_slope U h₁ z₁ h₂ z₂
      inner_down = sym (sign_down z₁ _ d) ∙ signed (magnitude_down z₁ d) (magnitude_down z₂ (other_down z₁ z₂ p d))
