-- The cubic itself, from its slope: Simpson's rule is exact on cubics, so that a slope that is never against the rise puts any two fractions of
-- the width in order.
use Rattle.std.specs.Prelude.{◌≡◌, refl, [], ◌∷◌, ℤ, pos, neg_ℤ, ◌+ℤ◌, ◌-ℤ◌, ◌*ℤ◌, ◌≤ℤ◌}
use Rattle.std.proofs.Common.{arith}
use Rattle.std.specs.Int.Signed.{lt_z_yes}
use Rattle.integers.specs.Ring.{ring, quote}
use Rattle.integers.specs.Linear.{lin, says}
use Rattle.integers.specs.Order.{at_most, signs, 0≤_as, 0≤_cancel, ≤ℤ_trans}
use Rattle.cubic.specs.Piece.{slope_at, rise_at, NeverAgainst}
use Rattle.cubic.proofs.Never.{at_fraction}

pub simpson : (Z a b j k q : ℤ) → pos 6 *ℤ (rise_at Z a b k q -ℤ rise_at Z a b j q) ≡ (k -ℤ j) *ℤ (slope_at Z a b j q +ℤ slope_at Z a b (j +ℤ k) (pos 2 *ℤ q) +ℤ slope_at Z a b k q)
simpson Z a b j k q = ring (Z ∷ a ∷ b ∷ j ∷ k ∷ q ∷ []) (search quote depth 30 fits 9000) tt

pub at_left : (Z a b h : ℤ) → rise_at Z a b (pos 0) h ≡ pos 0
at_left Z a b h = ring (Z ∷ a ∷ b ∷ h ∷ []) (search quote depth 30 fits 9000) tt

pub at_right : (Z a b h : ℤ) → rise_at Z a b h h ≡ Z *ℤ (h *ℤ h *ℤ h)
at_right Z a b h = ring (Z ∷ a ∷ b ∷ h ∷ []) (search quote depth 30 fits 9000) tt

-- upside down: a fall is a rise of −Z, −a, −b
pub turned_over : (Z a b t h : ℤ) → rise_at (neg_ℤ Z) (neg_ℤ a) (neg_ℤ b) t h ≡ neg_ℤ (rise_at Z a b t h)
turned_over Z a b t h = ring (Z ∷ a ∷ b ∷ t ∷ h ∷ []) (search quote depth 30 fits 9000) tt

-- of two fractions j/q and k/q in order, the cubic's rises are in order
pub in_order : {Z a b : ℤ} → NeverAgainst Z a b → (j k q : ℤ) → pos 0 ≤ℤ j → j ≤ℤ k → k ≤ℤ q → pos 1 ≤ℤ q → rise_at Z a b j q ≤ℤ rise_at Z a b k q
in_order {Z} {a} {b} f j k q j₀ jk kq q₁ =
    let m = middle j k q j₀ jk kq q₁ in
    let s₀ = at_fraction f j q j₀ (≤ℤ_trans jk kq) q₁ in
    let s₁ = at_fraction f (j +ℤ k) (pos 2 *ℤ q) m.0 m.1.0 m.1.1 in
    let s₂ = at_fraction f k q (≤ℤ_trans j₀ jk) kq q₁ in
    at_most (rise_at Z a b k q -ℤ rise_at Z a b j q) refl
    (0≤_cancel {k = pos 6} (lt_z_yes tt) (0≤_as (simpson Z a b j k q) (search signs)))
  where
    middle : (j k q : ℤ) → pos 0 ≤ℤ j → j ≤ℤ k → k ≤ℤ q → pos 1 ≤ℤ q → (pos 0 ≤ℤ (j +ℤ k)) × (((j +ℤ k) ≤ℤ (pos 2 *ℤ q)) × (pos 1 ≤ℤ (pos 2 *ℤ q)))
    middle j k q = lin (j ∷ k ∷ q ∷ []) (search says depth 30 fits 9000) (omega arith)
