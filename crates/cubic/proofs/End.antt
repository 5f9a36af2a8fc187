-- The rule for an end of the table, first case by case as the text has it, and then as code asks it, of an end piece that does not fall: its quotient is not above 0, or beyond the bound, or
-- neither. The signs need not be asked: a quotient beyond the bound has a neighbour that falls. A fall is a rise turned over.
use Rattle.std.specs.Prelude.{◌≡◌, refl, Bool, true, false, cond, ◌&&◌, [], ◌∷◌, ℤ, pos, neg_ℤ, ◌+ℤ◌, ◌-ℤ◌, ◌*ℤ◌, ◌≤ℤ◌, ◌<ℤ◌}
use Rattle.std.proofs.Common.{sym, ◌∙◌, ap, ap₂, subst, subst₂, ⊎_elim, arith}
use Rattle.std.specs.Int.Signed.{le_z, lt_z, clash_ℤ, ≤ℤ_refl}
use Rattle.integers.specs.Promise.{floor_of, magnitude, with_sign, toward_zero}
use Rattle.integers.specs.Ring.{ring, quote}
use Rattle.integers.specs.Linear.{lin, says}
use Rattle.integers.specs.Order.{≤ℤ_or-<ℤ, ≤ℤ-<ℤ_trans, <ℤ-≤ℤ_trans, <ℤ→≤ℤ, signs, positives, 0≤_number, 0≤_minus, 0<_minus, 0≤_product, 0<_product, 0<_factor, minus_product, at_most, less}
use Rattle.integers.specs.Signs.{magnitude_up, magnitude_minus, signed_multiple, by_sign}
use Rattle.integers.specs.Division.{toward_floor, toward_minus, floor_nothing}
use Rattle.integers.specs.Decided.{chosen, passed_over, decided-≤, decided-<, decided_both}
use Rattle.cubic.specs.Slopes.{end_above, end_below, zero_or_opposed, beyond_the_bound, in_units, end_slope}

-- ---- the cases of the text

module _ (U h₁ z₁ h₂ z₂ : ℤ) where
  abbrev P : ℤ
  P = end_above h₁ z₁ h₂ z₂

  abbrev Q : ℤ
  Q = end_below h₁ h₂

  -- "If it is zero or opposes z1 (or z1 = 0), the slope is 0."
  pub end_level : (P *ℤ z₁) ≤ℤ pos 0 → pos 0 ≡ end_slope U h₁ z₁ h₂ z₂
  end_level = chosen _ (decided-≤ (P *ℤ z₁) (pos 0))

  module _ (along : pos 0 <ℤ (P *ℤ z₁)) where
    steep : cond (beyond_the_bound h₁ z₁ h₂ z₂) (in_units U (with_sign z₁ (pos 3 *ℤ magnitude z₁)) h₁) (in_units U P Q) ≡ end_slope U h₁ z₁ h₂ z₂
    steep = passed_over (pos 0) (decided-≤ (P *ℤ z₁) (pos 0)) (λ l. clash_ℤ along l)

    -- "If z1 and z2 have opposite signs and its magnitude exceeds 3·|z1|/h1, that bound is taken with z1's sign."
    pub end_bounded : (z₁ *ℤ z₂) <ℤ pos 0 → (pos 3 *ℤ magnitude z₁ *ℤ Q) <ℤ (magnitude P *ℤ h₁) → in_units U (with_sign z₁ (pos 3 *ℤ magnitude z₁)) h₁ ≡ end_slope U h₁ z₁ h₂ z₂
    end_bounded p q = chosen _ (decided_both (decided-< _ _) (decided-< _ _)) (p, q) ∙ steep

    -- otherwise it is the quotient itself
    pub end_unbounded : ((z₁ *ℤ z₂) <ℤ pos 0 → (magnitude P *ℤ h₁) ≤ℤ (pos 3 *ℤ magnitude z₁ *ℤ Q)) → in_units U P Q ≡ end_slope U h₁ z₁ h₂ z₂
    end_unbounded f = passed_over _ (decided_both (decided-< (z₁ *ℤ z₂) (pos 0)) (decided-< (pos 3 *ℤ magnitude z₁ *ℤ Q) (magnitude P *ℤ h₁))) (λ w. clash_ℤ w.1 (f w.0)) ∙ steep

-- ---- a fall is a rise turned over

chosen_turned : (a b : Bool) (x y : ℤ) → cond a (pos 0) (cond b (neg_ℤ x) (neg_ℤ y)) ≡ neg_ℤ (cond a (pos 0) (cond b x y))
chosen_turned true b x y = refl
chosen_turned false true x y = refl
chosen_turned false false x y = refl

both_turned : (x y : ℤ) → neg_ℤ x *ℤ neg_ℤ y ≡ x *ℤ y
both_turned x y = ring (x ∷ y ∷ []) (search quote depth 30 fits 9000) tt

units_turned : (U n d : ℤ) → in_units U (neg_ℤ n) d ≡ neg_ℤ (in_units U n d)
units_turned U n d = ap (λ (x : ℤ). toward_zero x d) (minus_product U n) ∙ toward_minus (U *ℤ n) d

module _ (U h₁ z₁ h₂ z₂ : ℤ) where
  above_turned : end_above h₁ (neg_ℤ z₁) h₂ (neg_ℤ z₂) ≡ neg_ℤ (end_above h₁ z₁ h₂ z₂)
  above_turned = ring (h₁ ∷ z₁ ∷ h₂ ∷ z₂ ∷ []) (search quote depth 30 fits 9000) tt

  same_sign : zero_or_opposed h₁ (neg_ℤ z₁) h₂ (neg_ℤ z₂) ≡ zero_or_opposed h₁ z₁ h₂ z₂
  same_sign = ap (λ (x : ℤ). le_z x (pos 0)) (ap (λ (x : ℤ). x *ℤ neg_ℤ z₁) above_turned ∙ both_turned (end_above h₁ z₁ h₂ z₂) z₁)

  same_size : beyond_the_bound h₁ (neg_ℤ z₁) h₂ (neg_ℤ z₂) ≡ beyond_the_bound h₁ z₁ h₂ z₂
  same_size =
      ap₂ (λ (x : ℤ) (b : Bool). lt_z x (pos 0) && b) (both_turned z₁ z₂)
      (ap₂ (λ (w p : ℤ). lt_z (pos 3 *ℤ w *ℤ end_below h₁ h₂) (p *ℤ h₁)) (magnitude_minus z₁) (ap magnitude above_turned ∙ magnitude_minus (end_above h₁ z₁ h₂ z₂)))

  bound_turned : in_units U (with_sign (neg_ℤ z₁) (pos 3 *ℤ magnitude (neg_ℤ z₁))) h₁ ≡ neg_ℤ (in_units U (with_sign z₁ (pos 3 *ℤ magnitude z₁)) h₁)
  bound_turned =
      ap (λ (x : ℤ). in_units U x h₁) (signed_multiple (pos 3) (neg_ℤ z₁) ∙ minus_product (pos 3) z₁ ∙ ap neg_ℤ (sym (signed_multiple (pos 3) z₁)))
      ∙ units_turned U (with_sign z₁ (pos 3 *ℤ magnitude z₁)) h₁

  quotient_turned : in_units U (end_above h₁ (neg_ℤ z₁) h₂ (neg_ℤ z₂)) (end_below h₁ h₂) ≡ neg_ℤ (in_units U (end_above h₁ z₁ h₂ z₂) (end_below h₁ h₂))
  quotient_turned = ap (λ (x : ℤ). in_units U x (end_below h₁ h₂)) above_turned ∙ units_turned U (end_above h₁ z₁ h₂ z₂) (end_below h₁ h₂)

  pub end_turned : end_slope U h₁ (neg_ℤ z₁) h₂ (neg_ℤ z₂) ≡ neg_ℤ (end_slope U h₁ z₁ h₂ z₂)
  end_turned =
      ap₂ (λ (a b : Bool). cond a (pos 0) (cond b (in_units U (with_sign (neg_ℤ z₁) (pos 3 *ℤ magnitude (neg_ℤ z₁))) h₁) (in_units U (end_above h₁ (neg_ℤ z₁) h₂ (neg_ℤ z₂)) (end_below h₁ h₂)))) same_sign same_size
      ∙ ap₂ (λ (x y : ℤ). cond (zero_or_opposed h₁ z₁ h₂ z₂) (pos 0) (cond (beyond_the_bound h₁ z₁ h₂ z₂) x y)) bound_turned quotient_turned
      ∙ chosen_turned (zero_or_opposed h₁ z₁ h₂ z₂) (beyond_the_bound h₁ z₁ h₂ z₂) _ _

-- ---- an end piece that does not fall, as code asks it

-- from the quotient up to the bound, times both denominators
up_to_the_bound : (h₁ z₁ h₂ z₂ : ℤ) → pos 3 *ℤ z₁ *ℤ end_below h₁ h₂ -ℤ end_above h₁ z₁ h₂ z₂ *ℤ h₁ ≡ h₁ *ℤ ((h₁ +ℤ pos 2 *ℤ h₂) *ℤ h₂ *ℤ z₁ +ℤ h₁ *ℤ h₁ *ℤ z₂)
up_to_the_bound h₁ z₁ h₂ z₂ = ring (h₁ ∷ z₁ ∷ h₂ ∷ z₂ ∷ []) (search quote depth 30 fits 9000) tt

pub 0<_end_below : {h₁ h₂ : ℤ} → pos 0 <ℤ h₁ → pos 0 <ℤ h₂ → pos 0 <ℤ end_below h₁ h₂
0<_end_below a b = search positives depth 9 fits 9000

module _ {U h₁ z₁ h₂ : ℤ} (u₀ : pos 0 <ℤ U) (a₀ : pos 0 <ℤ h₁) (b₀ : pos 0 <ℤ h₂) (up : pos 0 ≤ℤ z₁) (z₂ : ℤ) where
  -- it is not above 0
  pub rising_level : end_above h₁ z₁ h₂ z₂ ≤ℤ pos 0 → pos 0 ≡ end_slope U h₁ z₁ h₂ z₂
  rising_level p = end_level U h₁ z₁ h₂ z₂ (at_most (neg_ℤ (end_above h₁ z₁ h₂ z₂) *ℤ z₁) (turned (end_above h₁ z₁ h₂ z₂) z₁) (let q = 0≤_minus p in 0≤_product q up))
    where
      turned : (x y : ℤ) → pos 0 -ℤ x *ℤ y ≡ neg_ℤ x *ℤ y
      turned x y = ring (x ∷ y ∷ []) (search quote depth 30 fits 9000) tt

  -- with the sizes for the numbers themselves
  module _ (p : pos 0 <ℤ end_above h₁ z₁ h₂ z₂) where
    bound_is : pos 3 *ℤ z₁ *ℤ end_below h₁ h₂ ≡ pos 3 *ℤ magnitude z₁ *ℤ end_below h₁ h₂
    bound_is = ap (λ (w : ℤ). pos 3 *ℤ w *ℤ end_below h₁ h₂) (sym (magnitude_up z₁ up))

    quotient_is : end_above h₁ z₁ h₂ z₂ *ℤ h₁ ≡ magnitude (end_above h₁ z₁ h₂ z₂) *ℤ h₁
    quotient_is = ap (λ (w : ℤ). w *ℤ h₁) (sym (magnitude_up (end_above h₁ z₁ h₂ z₂) (<ℤ→≤ℤ p)))

  units_up : (n d : ℤ) → pos 0 ≤ℤ n → floor_of (U *ℤ n) d ≡ in_units U n d
  units_up n d n₀ = sym (toward_floor d (0≤_product (<ℤ→≤ℤ u₀) n₀))

  -- it is above 0 and within the bound; so the rise is above 0 too
  pub rising_quotient : pos 0 <ℤ end_above h₁ z₁ h₂ z₂ → (end_above h₁ z₁ h₂ z₂ *ℤ h₁) ≤ℤ (pos 3 *ℤ z₁ *ℤ end_below h₁ h₂) → floor_of (U *ℤ end_above h₁ z₁ h₂ z₂) (end_below h₁ h₂) ≡ end_slope U h₁ z₁ h₂ z₂
  rising_quotient p q =
      units_up (end_above h₁ z₁ h₂ z₂) (end_below h₁ h₂) (<ℤ→≤ℤ p)
      ∙ end_unbounded U h₁ z₁ h₂ z₂ (0<_product p (third (0<_factor (0<_end_below a₀ b₀) (<ℤ-≤ℤ_trans (0<_product p a₀) q)))) (λ _. subst₂ ◌≤ℤ◌ (quotient_is p) (bound_is p) q)
    where
      third : {x : ℤ} → pos 0 <ℤ (pos 3 *ℤ x) → pos 0 <ℤ x
      third {x} = lin (x ∷ []) (search says depth 30 fits 9000) (omega arith)

  -- it is beyond the bound; so the neighbour falls, and there may be no rise
  pub rising_bound : (pos 3 *ℤ z₁ *ℤ end_below h₁ h₂) <ℤ (end_above h₁ z₁ h₂ z₂ *ℤ h₁) → floor_of (U *ℤ (pos 3 *ℤ z₁)) h₁ ≡ end_slope U h₁ z₁ h₂ z₂
  rising_bound q = by_sign z₁ steep (λ d. clash_ℤ d up) level
    where
      above₀ : pos 0 <ℤ end_above h₁ z₁ h₂ z₂
      above₀ = let b = <ℤ→≤ℤ (0<_end_below a₀ b₀) in 0<_factor a₀ (≤ℤ-<ℤ_trans (0≤_product (0≤_product (0≤_number 3) up) b) q)

      falls : z₂ <ℤ pos 0
      falls =
          ⊎_elim (λ l. clash_ℤ q (at_most _ (up_to_the_bound h₁ z₁ h₂ z₂) (let a = <ℤ→≤ℤ a₀ in let b = <ℤ→≤ℤ b₀ in search signs depth 9 fits 9000))) (λ l. l)
          (≤ℤ_or-<ℤ (pos 0) z₂)

      steep : pos 0 <ℤ z₁ → floor_of (U *ℤ (pos 3 *ℤ z₁)) h₁ ≡ end_slope U h₁ z₁ h₂ z₂
      steep z₀ =
          units_up (pos 3 *ℤ z₁) h₁ (0≤_product (0≤_number 3) up)
          ∙ ap (λ (x : ℤ). in_units U x h₁) (sym (signed_multiple (pos 3) z₁))
          ∙ end_bounded U h₁ z₁ h₂ z₂ (0<_product above₀ z₀) (less (z₁ *ℤ neg_ℤ z₂) (apart z₁ z₂) (0<_product z₀ (0<_minus falls))) (subst₂ ◌<ℤ◌ (bound_is above₀) (quotient_is above₀) q)
        where
          apart : (x y : ℤ) → pos 0 -ℤ x *ℤ y ≡ x *ℤ neg_ℤ y
          apart x y = ring (x ∷ y ∷ []) (search quote depth 30 fits 9000) tt

      level : z₁ ≡ pos 0 → floor_of (U *ℤ (pos 3 *ℤ z₁)) h₁ ≡ end_slope U h₁ z₁ h₂ z₂
      level e =
          ap (λ (x : ℤ). floor_of (U *ℤ (pos 3 *ℤ x)) h₁) e
          ∙ ap (λ (x : ℤ). floor_of x h₁) (nothing U)
          ∙ floor_nothing h₁
          ∙ end_level U h₁ z₁ h₂ z₂ (subst (λ (x : ℤ). (end_above h₁ z₁ h₂ z₂ *ℤ x) ≤ℤ pos 0) (sym e) (subst (λ (x : ℤ). x ≤ℤ pos 0) (sym (times_nothing (end_above h₁ z₁ h₂ z₂))) (≤ℤ_refl (pos 0))))
        where
          nothing : (x : ℤ) → x *ℤ (pos 3 *ℤ pos 0) ≡ pos 0
          nothing x = ring (x ∷ []) (search quote depth 30 fits 9000) tt

          times_nothing : (x : ℤ) → x *ℤ pos 0 ≡ pos 0
          times_nothing x = ring (x ∷ []) (search quote depth 30 fits 9000) tt
