-- Identities of the slope, and what each says of its sign: the Bernstein form, the box and the ellipse.
use Rattle.std.specs.Prelude.{◌≡◌, [], ◌∷◌, ℤ, pos, neg_ℤ, ◌+ℤ◌, ◌-ℤ◌, ◌*ℤ◌, ◌≤ℤ◌, ◌<ℤ◌}
use Rattle.std.specs.Int.Signed.{lt_z_yes}
use Rattle.integers.specs.Ring.{ring, quote}
use Rattle.integers.specs.Order.{signs, 0≤_as, 0≤_cancel, 0<_product}
use Rattle.cubic.specs.Piece.{slope_at}
use Rattle.cubic.specs.Slope.{ellipse, over, steep, turn}

-- at the two ends it is a and b
pub at_start : (Z a b : ℤ) → slope_at Z a b (pos 0) (pos 1) ≡ a
at_start Z a b = ring (Z ∷ a ∷ b ∷ []) (search quote depth 30 fits 9000) tt

pub at_end : (Z a b : ℤ) → slope_at Z a b (pos 1) (pos 1) ≡ b
at_end Z a b = ring (Z ∷ a ∷ b ∷ []) (search quote depth 30 fits 9000) tt

-- half way, four times it is 6Z − a − b
pub at_half : (Z a b : ℤ) → slope_at Z a b (pos 1) (pos 2) ≡ pos 6 *ℤ Z -ℤ a -ℤ b
at_half Z a b = ring (Z ∷ a ∷ b ∷ []) (search quote depth 30 fits 9000) tt

-- the slope in Bernstein's form
pub bernstein : (Z a b k q : ℤ) → slope_at Z a b k q ≡ a *ℤ ((q -ℤ k) *ℤ (q -ℤ k)) +ℤ pos 2 *ℤ (pos 3 *ℤ Z -ℤ (a +ℤ b)) *ℤ (k *ℤ (q -ℤ k)) +ℤ b *ℤ (k *ℤ k)
bernstein Z a b k q = ring (Z ∷ a ∷ b ∷ k ∷ q ∷ []) (search quote depth 30 fits 9000) tt

-- read from the right end: a and b, k and q − k change places
pub mirrored : (Z a b k q : ℤ) → slope_at Z a b k q ≡ slope_at Z b a (q -ℤ k) q
mirrored Z a b k q = ring (Z ∷ a ∷ b ∷ k ∷ q ∷ []) (search quote depth 30 fits 9000) tt

pub completed : (Z a b k q : ℤ) → steep Z a b *ℤ slope_at Z a b k q ≡ (steep Z a b *ℤ k -ℤ turn Z a b *ℤ q) *ℤ (steep Z a b *ℤ k -ℤ turn Z a b *ℤ q) +ℤ neg_ℤ (ellipse Z a b) *ℤ (q *ℤ q)
completed Z a b k q = ring (Z ∷ a ∷ b ∷ k ∷ q ∷ []) (search quote depth 30 fits 9000) tt

-- at the fraction where the slope is least, it is −D·A
pub at_turn : (Z a b : ℤ) → slope_at Z a b (turn Z a b) (steep Z a b) ≡ steep Z a b *ℤ neg_ℤ (ellipse Z a b)
at_turn Z a b = ring (Z ∷ a ∷ b ∷ []) (search quote depth 30 fits 9000) tt

-- four times the ellipse's form, as a square and a product
pub fourfold : (Z a b : ℤ) → pos 4 *ℤ ellipse Z a b ≡ (pos 2 *ℤ b +ℤ a -ℤ pos 6 *ℤ Z) *ℤ (pos 2 *ℤ b +ℤ a -ℤ pos 6 *ℤ Z) +ℤ pos 3 *ℤ a *ℤ (a -ℤ pos 4 *ℤ Z)
fourfold Z a b = ring (Z ∷ a ∷ b ∷ []) (search quote depth 30 fits 9000) tt

pub ellipse_over : (Z a b : ℤ) → ellipse Z a b ≡ over Z a b *ℤ over Z a b -ℤ a *ℤ b
ellipse_over Z a b = ring (Z ∷ a ∷ b ∷ []) (search quote depth 30 fits 9000) tt

-- the box: where neither slope is above three times the rise
pub boxed : (Z a b k q : ℤ) → pos 3 *ℤ Z *ℤ slope_at Z a b k q ≡ pos 2 *ℤ (pos 3 *ℤ Z -ℤ a) *ℤ (pos 3 *ℤ Z -ℤ b) *ℤ (k *ℤ (q -ℤ k)) +ℤ a *ℤ (pos 3 *ℤ Z -ℤ b) *ℤ ((q -ℤ k) *ℤ (q -ℤ k)) +ℤ (pos 3 *ℤ Z -ℤ a) *ℤ b *ℤ (k *ℤ k) +ℤ a *ℤ b *ℤ ((q -ℤ pos 2 *ℤ k) *ℤ (q -ℤ pos 2 *ℤ k))
boxed Z a b k q = ring (Z ∷ a ∷ b ∷ k ∷ q ∷ []) (search quote depth 30 fits 9000) tt

-- ---- the sign of the slope at a fraction k/q

module _ (Z a b k q : ℤ) (k₀ : pos 0 ≤ℤ k) (k₁ : k ≤ℤ q) (a₀ : pos 0 ≤ℤ a) (b₀ : pos 0 ≤ℤ b) where
  pub below_line : (a +ℤ b) ≤ℤ (pos 3 *ℤ Z) → pos 0 ≤ℤ slope_at Z a b k q
  below_line s = 0≤_as (bernstein Z a b k q) (search signs depth 9 fits 9000)

  pub in_ellipse : pos 0 <ℤ steep Z a b → ellipse Z a b ≤ℤ pos 0 → pos 0 ≤ℤ slope_at Z a b k q
  in_ellipse s d = 0≤_cancel s (0≤_as (completed Z a b k q) (search signs depth 9 fits 9000))

  pub in_box : pos 0 <ℤ Z → a ≤ℤ (pos 3 *ℤ Z) → b ≤ℤ (pos 3 *ℤ Z) → pos 0 ≤ℤ slope_at Z a b k q
  in_box z₀ a₁ b₁ = 0≤_cancel (0<_product {x = pos 3} (lt_z_yes tt) z₀) (0≤_as (boxed Z a b k q) (search signs depth 9 fits 9000))
