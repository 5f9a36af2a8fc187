-- What the definition of a monotone piece says of the cubic itself.
use Rattle.std.specs.Prelude.{◌≡◌, [], ◌∷◌, ℤ, pos, neg_ℤ, ◌+ℤ◌, ◌-ℤ◌, ◌*ℤ◌, ◌≤ℤ◌}
use Rattle.std.proofs.Common.{sym, ◌∙◌, ap, arith, lit≤}
use Rattle.std.specs.Int.Signed.{≤ℤ_refl}
use Rattle.integers.specs.Ring.{ring, quote}
use Rattle.integers.specs.Linear.{lin, says}
use Rattle.integers.specs.Order.{0≤_number, pos-≤}
use Rattle.cubic.specs.Piece.{slope_at, rise_at, Monotone}
use Rattle.cubic.proofs.Rise.{at_left, at_right}
use Rattle.cubic.proofs.InOrder.{the_cubic_is_in_order}
use Rattle.demands.specs.Demands.{NoSlopeAgainstItsRise}

-- `slope_at` is the slope of `rise_at`: from the fraction k/q on to (k + e)/q the cubic rises by e times its slope there, and a rest with e².
pub slope_at_is_the_slope_of_rise_at : (Z a b k e q : ℤ)
    → rise_at Z a b (k +ℤ e) q ≡ rise_at Z a b k q +ℤ e *ℤ slope_at Z a b k q +ℤ e *ℤ e *ℤ ((pos 3 *ℤ Z -ℤ pos 2 *ℤ a -ℤ b) *ℤ q +ℤ (a +ℤ b -ℤ pos 2 *ℤ Z) *ℤ (pos 3 *ℤ k +ℤ e))
slope_at_is_the_slope_of_rise_at Z a b k e q = ring (Z ∷ a ∷ b ∷ k ∷ e ∷ q ∷ []) (search quote depth 30 fits 9000) tt

-- `rise_at` is the cubic of the piece: nothing at its left end, the whole rise at its right one, and at its ends the slopes a and b.
pub rise_at_starts_at_nothing : (Z a b q : ℤ) → rise_at Z a b (pos 0) q ≡ pos 0
rise_at_starts_at_nothing = at_left

pub rise_at_ends_at_the_rise : (Z a b q : ℤ) → rise_at Z a b q q ≡ Z *ℤ (q *ℤ q *ℤ q)
rise_at_ends_at_the_rise = at_right

pub slope_at_starts_with_a : (Z a b q : ℤ) → slope_at Z a b (pos 0) q ≡ a *ℤ (q *ℤ q)
slope_at_starts_with_a Z a b q = ring (Z ∷ a ∷ b ∷ q ∷ []) (search quote depth 30 fits 9000) tt

pub slope_at_ends_with_b : (Z a b q : ℤ) → slope_at Z a b q q ≡ b *ℤ (q *ℤ q)
slope_at_ends_with_b Z a b q = ring (Z ∷ a ∷ b ∷ q ∷ []) (search quote depth 30 fits 9000) tt

-- ---- that no slope is against the rise is the exact rules' definition

turned : (Z a b k q : ℤ) → slope_at (neg_ℤ Z) (neg_ℤ a) (neg_ℤ b) k q ≡ neg_ℤ (slope_at Z a b k q)
turned Z a b k q = ring (Z ∷ a ∷ b ∷ k ∷ q ∷ []) (search quote depth 30 fits 9000) tt

down : {x y : ℤ} → y ≡ neg_ℤ x → pos 0 ≤ℤ y → x ≤ℤ pos 0
down {x} {y} = lin (x ∷ y ∷ []) (search says depth 30 fits 9000) (omega arith)

up : {x y : ℤ} → y ≡ neg_ℤ x → x ≤ℤ pos 0 → pos 0 ≤ℤ y
up {x} {y} = lin (x ∷ y ∷ []) (search says depth 30 fits 9000) (omega arith)

-- without a rise, what the cubic has risen by at a half and at a third of the width settles a and b
at_half : (Z a b : ℤ) → rise_at Z a b (pos 1) (pos 2) ≡ a -ℤ b +ℤ pos 4 *ℤ Z
at_half Z a b = ring (Z ∷ a ∷ b ∷ []) (search quote depth 30 fits 9000) tt

at_third : (Z a b : ℤ) → rise_at Z a b (pos 1) (pos 3) ≡ pos 4 *ℤ a -ℤ pos 2 *ℤ b +ℤ pos 7 *ℤ Z
at_third Z a b = ring (Z ∷ a ∷ b ∷ []) (search quote depth 30 fits 9000) tt

settled : (Z a b x y : ℤ) → Z ≡ pos 0 → x ≡ a -ℤ b +ℤ pos 4 *ℤ Z → y ≡ pos 4 *ℤ a -ℤ pos 2 *ℤ b +ℤ pos 7 *ℤ Z → x ≡ pos 0 → y ≡ pos 0 → (a ≡ pos 0) × (b ≡ pos 0)
settled Z a b x y = lin (Z ∷ a ∷ b ∷ x ∷ y ∷ []) (search says depth 30 fits 9000) (omega arith)

module _ {U h z m n : ℤ} where
  pub no_slope_against : Monotone U h z m n → NoSlopeAgainstItsRise U h z m n
  no_slope_against o =
      record {
        while_rising = λ p. (o.rising p).at;
        while_falling = λ p k q q₁ k₁. down (turned (U *ℤ z) (m *ℤ h) (n *ℤ h) (pos k) (pos q)) ((o.falling p).at k q q₁ k₁);
        while_level = λ e k q q₁ k₁. sym ((the_cubic_is_in_order o (pos 0) (pos k) (pos q) (≤ℤ_refl (pos 0)) (0≤_number k) (pos-≤ k₁) (pos-≤ q₁)).level e) ∙ at_left (U *ℤ z) (m *ℤ h) (n *ℤ h) (pos q);
      }

  pub monotone_without : NoSlopeAgainstItsRise U h z m n → Monotone U h z m n
  monotone_without o =
      record {
        rising = λ p. record { at = o.while_rising p };
        falling = λ p. record { at = λ k q q₁ k₁. up (turned (U *ℤ z) (m *ℤ h) (n *ℤ h) (pos k) (pos q)) (o.while_falling p k q q₁ k₁) };
        level = λ e.
            settled (U *ℤ z) (m *ℤ h) (n *ℤ h) _ _ (ap (λ (x : ℤ). U *ℤ x) e ∙ none U) (at_half (U *ℤ z) (m *ℤ h) (n *ℤ h)) (at_third (U *ℤ z) (m *ℤ h) (n *ℤ h)) (o.while_level e 1 2 (lit≤ tt) (lit≤ tt))
            (o.while_level e 1 3 (lit≤ tt) (lit≤ tt));
      }
    where
      none : (x : ℤ) → x *ℤ pos 0 ≡ pos 0
      none x = ring (x ∷ []) (search quote depth 30 fits 9000) tt
