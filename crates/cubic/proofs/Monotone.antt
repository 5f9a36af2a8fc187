-- A piece is monotone by the one clause of the definition that its rise asks for, and where it cannot fail to be so.
use Rattle.std.specs.Prelude.{◌≡◌, [], ◌∷◌, ℤ, pos, neg_ℤ, ◌*ℤ◌, ◌<ℤ◌}
use Rattle.std.proofs.Common.{◌∙◌, ap, subst}
use Rattle.std.specs.Int.Signed.{clash_ℤ, ≤ℤ_refl}
use Rattle.integers.specs.Ring.{ring, quote}
use Rattle.integers.specs.Order.{<ℤ→≤ℤ}
use Rattle.integers.specs.Decided.{≤ℤ_stable, ≡ℤ_stable}
use Rattle.cubic.specs.Piece.{NeverAgainst, Monotone}

not_level : {z : ℤ} {X : Type 0} → pos 0 <ℤ z → z ≡ pos 0 → X
not_level p e = clash_ℤ (subst (λ (v : ℤ). pos 0 <ℤ v) e p) (≤ℤ_refl (pos 0))

not_level_below : {z : ℤ} {X : Type 0} → z <ℤ pos 0 → z ≡ pos 0 → X
not_level_below p e = clash_ℤ (subst (λ (v : ℤ). v <ℤ pos 0) e p) (≤ℤ_refl (pos 0))

module _ {U h z m n : ℤ} where
  pub monotone_rising : pos 0 <ℤ z → NeverAgainst (U *ℤ z) (m *ℤ h) (n *ℤ h) → Monotone U h z m n
  monotone_rising p f =
      record { rising = λ _. f; falling = λ q. clash_ℤ p (<ℤ→≤ℤ q); level = λ e. not_level p e }

  pub monotone_falling : z <ℤ pos 0 → NeverAgainst (neg_ℤ (U *ℤ z)) (neg_ℤ (m *ℤ h)) (neg_ℤ (n *ℤ h)) → Monotone U h z m n
  monotone_falling p f =
      record { rising = λ q. clash_ℤ p (<ℤ→≤ℤ q); falling = λ _. f; level = λ e. not_level_below p e }

  pub monotone_level : z ≡ pos 0 → m *ℤ h ≡ pos 0 → n *ℤ h ≡ pos 0 → Monotone U h z m n
  monotone_level e a b =
      record { rising = λ q. not_level q e; falling = λ q. not_level_below q e; level = λ _. (a, b) }

  -- without a rise there is nothing at all
  pub level_numbers : Monotone U h z m n → z ≡ pos 0 → (U *ℤ z ≡ pos 0) × ((m *ℤ h ≡ pos 0) × (n *ℤ h ≡ pos 0))
  level_numbers o e = (ap (λ (v : ℤ). U *ℤ v) e ∙ none U, o.level e)
    where
      none : (x : ℤ) → x *ℤ pos 0 ≡ pos 0
      none x = ring (x ∷ []) (search quote depth 30 fits 9000) tt

  -- the definition is made of orders and equations, which hold where they cannot fail
  pub monotone_stable : ((Monotone U h z m n → ⊥) → ⊥) → Monotone U h z m n
  monotone_stable f =
      record {
        rising = λ p. record { at = λ k q q₁ k₁. ≤ℤ_stable (λ g. f (λ o. g ((o.rising p).at k q q₁ k₁))) };
        falling = λ p. record { at = λ k q q₁ k₁. ≤ℤ_stable (λ g. f (λ o. g ((o.falling p).at k q q₁ k₁))) };
        level = λ e. (≡ℤ_stable (λ g. f (λ o. g (o.level e).0)), ≡ℤ_stable (λ g. f (λ o. g (o.level e).1)));
      }
