-- On a monotone piece the exact cubic is in order along the rise at any two fractions of the width, and so are the values answered.
use Rattle.std.specs.Prelude.{◌≡◌, [], ◌∷◌, ℕ, ℤ, pos, neg_ℤ, ◌*ℤ◌, ◌≤ℤ◌, ◌<ℤ◌}
use Rattle.std.proofs.Common.{sym, ◌∙◌, ap, subst, subst₂, arith}
use Rattle.std.specs.Int.Signed.{≤ℤ_refl}
use Rattle.integers.specs.Ring.{ring, quote}
use Rattle.integers.specs.Linear.{lin, says}
use Rattle.integers.specs.Order.{0<→1≤}
use Rattle.integers.specs.Within.{Within}
use Rattle.cubic.specs.Piece.{rise_at, Monotone}
use Rattle.cubic.specs.Value.{rounded, risen}
use Rattle.cubic.proofs.Rounded.{rounding, 0<_denominator}
use Rattle.cubic.specs.Along.{Along, along_through, part_within}
use Rattle.cubic.proofs.Monotone.{level_numbers}
use Rattle.cubic.proofs.Rise.{in_order, turned_over, at_left, at_right}

-- without a rise the cubic is 0 throughout
nothing : {Z a b : ℤ} → (Z ≡ pos 0) × ((a ≡ pos 0) × (b ≡ pos 0)) → (t q : ℤ) → rise_at Z a b t q ≡ pos 0
nothing {Z} e t q =
    subst₂ (λ (a b : ℤ). rise_at Z a b t q ≡ pos 0) (sym e.1.0) (sym e.1.1)
    (subst (λ (Z : ℤ). rise_at Z (pos 0) (pos 0) t q ≡ pos 0) (sym e.0) (ring (t ∷ q ∷ []) (search quote depth 30 fits 9000) tt))

module _ {U h z m n : ℤ} (o : Monotone U h z m n) where
  -- "the exact cubic at any two fractions of its width": j/q and k/q
  pub the_cubic_is_in_order : (j k q : ℤ) → pos 0 ≤ℤ j → j ≤ℤ k → k ≤ℤ q → pos 1 ≤ℤ q → Along z (rise_at (U *ℤ z) (m *ℤ h) (n *ℤ h) j q) (rise_at (U *ℤ z) (m *ℤ h) (n *ℤ h) k q)
  the_cubic_is_in_order j k q j₀ jk kq q₁ =
      record {
        rising = λ p. in_order (o.rising p) j k q j₀ jk kq q₁;
        falling = λ p. back (subst₂ ◌≤ℤ◌ (turned_over (U *ℤ z) (m *ℤ h) (n *ℤ h) j q) (turned_over (U *ℤ z) (m *ℤ h) (n *ℤ h) k q) (in_order (o.falling p) j k q j₀ jk kq q₁));
        level = λ e. nothing (level_numbers o e) j q ∙ sym (nothing (level_numbers o e) k q);
      }
    where
      back : {x y : ℤ} → neg_ℤ x ≤ℤ neg_ℤ y → y ≤ℤ x
      back {x} {y} = lin (x ∷ y ∷ []) (search says depth 30 fits 9000) (omega arith)

  -- so that it lies on the way from nothing to the whole rise
  pub from_nothing : (t q : ℤ) → pos 0 ≤ℤ t → t ≤ℤ q → pos 1 ≤ℤ q → Along z (pos 0) (rise_at (U *ℤ z) (m *ℤ h) (n *ℤ h) t q)
  from_nothing t q t₀ tq q₁ =
      subst (λ (v : ℤ). Along z v (rise_at (U *ℤ z) (m *ℤ h) (n *ℤ h) t q)) (at_left (U *ℤ z) (m *ℤ h) (n *ℤ h) q) (the_cubic_is_in_order (pos 0) t q (≤ℤ_refl (pos 0)) t₀ tq q₁)

  pub to_the_whole : (t q : ℤ) → pos 0 ≤ℤ t → t ≤ℤ q → pos 1 ≤ℤ q → Along z (rise_at (U *ℤ z) (m *ℤ h) (n *ℤ h) t q) (U *ℤ z *ℤ (q *ℤ q *ℤ q))
  to_the_whole t q t₀ tq q₁ =
      subst (Along z (rise_at (U *ℤ z) (m *ℤ h) (n *ℤ h) t q)) (at_right (U *ℤ z) (m *ℤ h) (n *ℤ h) q) (the_cubic_is_in_order t q q t₀ tq (≤ℤ_refl q) q₁)

  -- and is nowhere larger than that
  pub the_cubic_is_within : {M : ℕ} (t q : ℤ) → pos 0 ≤ℤ t → t ≤ℤ q → pos 1 ≤ℤ q → Within M (U *ℤ z *ℤ (q *ℤ q *ℤ q)) → Within M (rise_at (U *ℤ z) (m *ℤ h) (n *ℤ h) t q)
  the_cubic_is_within t q t₀ tq q₁ w = part_within w (from_nothing t q t₀ tq q₁) (to_the_whole t q t₀ tq q₁)

-- ---- rounded

module _ {U h : ℤ} (U₀ : pos 0 <ℤ U) (h₀ : pos 0 <ℤ h) where
  below : pos 0 <ℤ (U *ℤ (h *ℤ h *ℤ h))
  below = 0<_denominator U₀ h₀

  module _ (z m n : ℤ) where
    -- nothing at the left end, and the whole rise at the right one
    pub risen_at_left : risen U h z m n (pos 0) ≡ pos 0
    risen_at_left =
        ap (λ (v : ℤ). rounded v (U *ℤ (h *ℤ h *ℤ h))) (at_left (U *ℤ z) (m *ℤ h) (n *ℤ h) h ∙ none (U *ℤ (h *ℤ h *ℤ h))) ∙ rounding.exact (pos 0) below
      where
        none : (d : ℤ) → pos 0 ≡ pos 0 *ℤ d
        none d = ring (d ∷ []) (search quote depth 30 fits 9000) tt

    pub risen_at_right : risen U h z m n h ≡ z
    risen_at_right =
        ap (λ (v : ℤ). rounded v (U *ℤ (h *ℤ h *ℤ h))) (at_right (U *ℤ z) (m *ℤ h) (n *ℤ h) h ∙ all U z (h *ℤ h *ℤ h)) ∙ rounding.exact z below
      where
        all : (U z c : ℤ) → U *ℤ z *ℤ c ≡ z *ℤ (U *ℤ c)
        all U z c = ring (U ∷ z ∷ c ∷ []) (search quote depth 30 fits 9000) tt

  module _ {z m n : ℤ} (o : Monotone U h z m n) where
    -- of two places in order, s and t counts into the piece
    pub risen_in_order : (s t : ℤ) → pos 0 ≤ℤ s → s ≤ℤ t → t ≤ℤ h → Along z (risen U h z m n s) (risen U h z m n t)
    risen_in_order s t s₀ st th =
        along_through (λ (v : ℤ). rounded v (U *ℤ (h *ℤ h *ℤ h))) (λ _ _. rounding.mono below) (the_cubic_is_in_order o s t h s₀ st th (0<→1≤ h₀))

    pub risen_from_left : (t : ℤ) → pos 0 ≤ℤ t → t ≤ℤ h → Along z (pos 0) (risen U h z m n t)
    risen_from_left t t₀ th =
        subst (λ (v : ℤ). Along z v (risen U h z m n t)) (risen_at_left z m n) (risen_in_order (pos 0) t (≤ℤ_refl (pos 0)) t₀ th)

    pub risen_to_right : (t : ℤ) → pos 0 ≤ℤ t → t ≤ℤ h → Along z (risen U h z m n t) z
    risen_to_right t t₀ th = subst (Along z (risen U h z m n t)) (risen_at_right z m n) (risen_in_order t h t₀ th (≤ℤ_refl h))
