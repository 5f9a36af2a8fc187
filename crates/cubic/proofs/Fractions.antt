-- On a monotone piece the exact cubic is in order along the rise at any two fractions of the width, whatever their denominators.
use Rattle.std.specs.Prelude.{◌≡◌, [], ◌∷◌, ℤ, pos, ◌-ℤ◌, ◌*ℤ◌, ◌≤ℤ◌}
use Rattle.std.proofs.Common.{◌∙◌, ap, subst₂}
use Rattle.std.proofs.Math.IntN.{*ℤ_comm}
use Rattle.integers.specs.Ring.{ring, quote}
use Rattle.integers.specs.Order.{at_most, signs, 0<_product, 0<→1≤, 1≤→0<, <ℤ→≤ℤ}
use Rattle.cubic.specs.Piece.{rise_at, Monotone}
use Rattle.cubic.specs.Along.{Along}
use Rattle.cubic.proofs.InOrder.{the_cubic_is_in_order}

-- the cubic at k·c / q·c is that at k/q, times c³
pub widened : (Z a b k q c : ℤ) → rise_at Z a b (k *ℤ c) (q *ℤ c) ≡ rise_at Z a b k q *ℤ (c *ℤ c *ℤ c)
widened Z a b k q c = ring (Z ∷ a ∷ b ∷ k ∷ q ∷ c ∷ []) (search quote depth 30 fits 9000) tt

module _ {U h z m n : ℤ} (o : Monotone U h z m n) where
  -- j/p and k/q in order are j·q and k·p over p·q
  pub in_order_at_any_two_fractions : (j p k q : ℤ) → pos 0 ≤ℤ j → pos 1 ≤ℤ p → k ≤ℤ q → pos 1 ≤ℤ q → (j *ℤ q) ≤ℤ (k *ℤ p)
      → Along z (rise_at (U *ℤ z) (m *ℤ h) (n *ℤ h) j p *ℤ (q *ℤ q *ℤ q)) (rise_at (U *ℤ z) (m *ℤ h) (n *ℤ h) k q *ℤ (p *ℤ p *ℤ p))
  in_order_at_any_two_fractions j p k q j₀ p₁ kq q₁ jk =
      let q₀ = <ℤ→≤ℤ (1≤→0< q₁) in
      subst₂ (Along z) (widened (U *ℤ z) (m *ℤ h) (n *ℤ h) j p q) (ap (rise_at (U *ℤ z) (m *ℤ h) (n *ℤ h) (k *ℤ p)) (*ℤ_comm p q) ∙ widened (U *ℤ z) (m *ℤ h) (n *ℤ h) k q p)
      (the_cubic_is_in_order o (j *ℤ q) (k *ℤ p) (p *ℤ q) (search signs) jk below (0<→1≤ (0<_product (1≤→0< p₁) (1≤→0< q₁))))
    where
      below : (k *ℤ p) ≤ℤ (p *ℤ q)
      below =
          let p₀ = <ℤ→≤ℤ (1≤→0< p₁) in at_most (p *ℤ (q -ℤ k)) (ring (p ∷ q ∷ k ∷ []) (search quote depth 30 fits 9000) tt) (search signs)
