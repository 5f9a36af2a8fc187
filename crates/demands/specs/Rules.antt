-- The slopes that are built keep the rules, which say what a slope is and not how it is worked out.
use Rattle.std.proofs.Common.{⊎_elim, sym, ◌∙◌, ap, subst}
use Rattle.std.specs.Prelude.{◌≡◌, refl, zero, suc, ℤ, pos, negsuc, ◌*ℤ◌, ◌≤ℤ◌, ◌<ℤ◌}
use Rattle.std.proofs.Math.IntN.{*ℤ_comm}
use Rattle.std.specs.Int.Signed.{≤ℤ_refl}
use Rattle.integers.specs.Promise.{Floor, floor_of, magnitude, with_sign}
use Rattle.integers.specs.Order.{signs, positives, <ℤ→≤ℤ, ≤ℤ_or-<ℤ}
use Rattle.integers.specs.Signs.{0<_magnitude, by_sign}
use Rattle.integers.specs.Division.{floor_of_lem, floor_unique, 0≤_floor, toward_scaled}
use Rattle.integers.specs.Decided.{<ℤ_or_not}
use Rattle.cubic.specs.Slopes.{in_units, end_slope, mean_above, mean_below, inner_slope}
use Rattle.cubic.proofs.End.{0<_end_below, end_level, end_bounded, end_unbounded}
use Rattle.cubic.proofs.Inner.{inner_level, inner_steep}
use Rattle.demands.specs.Demands.{InUnits, end_above, end_below, EndRule, MeanRule}

signed_size : (z f : ℤ) → pos 0 ≤ℤ f → magnitude (with_sign z f) ≡ f
signed_size (pos n) (pos f) l = refl
signed_size (negsuc n) (pos zero) l = refl
signed_size (negsuc n) (pos (suc f)) l = refl
signed_size z (negsuc f) l = absurd l.le

-- a quotient rounded down, with the sign of z
module _ (z n d : ℤ) {s : ℤ} (n₀ : pos 0 ≤ℤ n) (d₀ : pos 0 <ℤ d) (e : s ≡ with_sign z (floor_of n d)) where
  size_is : magnitude s ≡ floor_of n d
  size_is = ap magnitude e ∙ signed_size z (floor_of n d) (0≤_floor d n₀)

  its_size : Floor n d (magnitude s)
  its_size = subst (Floor n d) (sym size_is) (floor_of_lem n d₀)

  its_sign : s ≡ with_sign z (magnitude s)
  its_sign = e ∙ ap (with_sign z) (sym size_is)

pub in_units_lem : {U d : ℤ} (n : ℤ) → pos 0 <ℤ U → pos 0 <ℤ d → InUnits U n d (in_units U n d)
in_units_lem {U} {d} n u d₀ =
    let e = toward_scaled {k = U} u n d in
    let n₀ : pos 0 ≤ℤ (U *ℤ magnitude n) = let u₀ = <ℤ→≤ℤ u in search signs in
    record { size = its_size n (U *ℤ magnitude n) d n₀ d₀ e; sign = its_sign n (U *ℤ magnitude n) d n₀ d₀ e }

pub end_rule : {U h₁ h₂ : ℤ} (z₁ z₂ : ℤ) → pos 0 <ℤ U → pos 0 <ℤ h₁ → pos 0 <ℤ h₂ → EndRule U h₁ z₁ h₂ z₂ (end_slope U h₁ z₁ h₂ z₂)
end_rule {U} {h₁} {h₂} z₁ z₂ u p q =
    record {
      zero_or_opposed = λ l. sym (end_level U h₁ z₁ h₂ z₂ l);
      beyond_the_bound = λ a b c. subst (InUnits U (with_sign z₁ (pos 3 *ℤ magnitude z₁)) h₁) (end_bounded U h₁ z₁ h₂ z₂ a b c) (in_units_lem _ u p);
      otherwise = λ a f. subst (InUnits U (end_above h₁ z₁ h₂ z₂) (end_below h₁ h₂)) (end_unbounded U h₁ z₁ h₂ z₂ a f) (in_units_lem _ u (0<_end_below p q));
    }

-- what stands below the mean's line is above 0
both_sizes : (z₁ z₂ : ℤ) → pos 0 <ℤ (z₁ *ℤ z₂) → (pos 0 <ℤ magnitude z₁) × (pos 0 <ℤ magnitude z₂)
both_sizes z₁ z₂ t = (0<_magnitude z₁ z₂ t, 0<_magnitude z₂ z₁ (subst (λ (x : ℤ). pos 0 <ℤ x) (*ℤ_comm z₁ z₂) t))

0<_below : {h₁ h₂ : ℤ} (z₁ z₂ : ℤ) → pos 0 <ℤ h₁ → pos 0 <ℤ h₂ → pos 0 <ℤ (z₁ *ℤ z₂) → pos 0 <ℤ mean_below h₁ (magnitude z₁) h₂ (magnitude z₂)
0<_below z₁ z₂ p q t =
    let a = (both_sizes z₁ z₂ t).0 in
    let b = (both_sizes z₁ z₂ t).1 in
    search positives depth 9 fits 9000

pub mean_rule : {U h₁ h₂ : ℤ} (z₁ z₂ : ℤ) → pos 0 <ℤ U → pos 0 <ℤ h₁ → pos 0 <ℤ h₂ → MeanRule U h₁ z₁ h₂ z₂ (inner_slope U h₁ z₁ h₂ z₂)
mean_rule {U} {h₁} {h₂} z₁ z₂ u p q =
    record {
      apart = λ l. sym (inner_level U h₁ z₁ h₂ z₂ l);
      size = λ t. its_size z₁ above below (<ℤ→≤ℤ (above₀ t)) (below₀ t) (sym (inner_steep U h₁ z₁ h₂ z₂ t));
      sign = λ t. its_sign z₁ above below (<ℤ→≤ℤ (above₀ t)) (below₀ t) (sym (inner_steep U h₁ z₁ h₂ z₂ t));
    }
  where
    above : ℤ
    above = mean_above U h₁ (magnitude z₁) h₂ (magnitude z₂)

    below : ℤ
    below = mean_below h₁ (magnitude z₁) h₂ (magnitude z₂)

    above₀ : pos 0 <ℤ (z₁ *ℤ z₂) → pos 0 <ℤ above
    above₀ t =
        let a = (both_sizes z₁ z₂ t).0 in
        let b = (both_sizes z₁ z₂ t).1 in
        search positives depth 9 fits 9000

    below₀ : pos 0 <ℤ (z₁ *ℤ z₂) → pos 0 <ℤ below
    below₀ = 0<_below z₁ z₂ p q

-- ---- and each rule admits one slope only

pub one_in_units : {U n d s r : ℤ} → pos 0 <ℤ d → InUnits U n d s → InUnits U n d r → s ≡ r
one_in_units {n = n} d₀ a b = a.sign ∙ ap (with_sign n) (floor_unique d₀ a.size b.size) ∙ sym b.sign

pub one_end : {U h₁ z₁ h₂ z₂ s r : ℤ} → pos 0 <ℤ h₁ → pos 0 <ℤ h₂ → EndRule U h₁ z₁ h₂ z₂ s → EndRule U h₁ z₁ h₂ z₂ r → s ≡ r
one_end {h₁ = h₁} {z₁} {h₂} {z₂} {s} {r} p q a b = ⊎_elim (λ l. a.zero_or_opposed l ∙ sym (b.zero_or_opposed l)) steep (≤ℤ_or-<ℤ (end_above h₁ z₁ h₂ z₂ *ℤ z₁) (pos 0))
  where
    steep : pos 0 <ℤ (end_above h₁ z₁ h₂ z₂ *ℤ z₁) → s ≡ r
    steep l = ⊎_elim within beyond (≤ℤ_or-<ℤ (magnitude (end_above h₁ z₁ h₂ z₂) *ℤ h₁) (pos 3 *ℤ magnitude z₁ *ℤ end_below h₁ h₂))
      where
        plain : ((z₁ *ℤ z₂) <ℤ pos 0 → (magnitude (end_above h₁ z₁ h₂ z₂) *ℤ h₁) ≤ℤ (pos 3 *ℤ magnitude z₁ *ℤ end_below h₁ h₂)) → s ≡ r
        plain f = one_in_units (0<_end_below p q) (a.otherwise l f) (b.otherwise l f)

        within : (magnitude (end_above h₁ z₁ h₂ z₂) *ℤ h₁) ≤ℤ (pos 3 *ℤ magnitude z₁ *ℤ end_below h₁ h₂) → s ≡ r
        within m = plain (λ _. m)

        beyond : (pos 3 *ℤ magnitude z₁ *ℤ end_below h₁ h₂) <ℤ (magnitude (end_above h₁ z₁ h₂ z₂) *ℤ h₁) → s ≡ r
        beyond m = ⊎_elim (λ o. one_in_units p (a.beyond_the_bound l o m) (b.beyond_the_bound l o m)) (λ f. plain (λ o. absurd (f o))) (<ℤ_or_not (z₁ *ℤ z₂) (pos 0))

pub one_mean : {U h₁ z₁ h₂ z₂ s r : ℤ} → pos 0 <ℤ h₁ → pos 0 <ℤ h₂ → MeanRule U h₁ z₁ h₂ z₂ s → MeanRule U h₁ z₁ h₂ z₂ r → s ≡ r
one_mean {z₁ = z₁} {z₂ = z₂} p q a b = ⊎_elim (λ t. a.sign t ∙ ap (with_sign z₁) (floor_unique (0<_below z₁ z₂ p q t) (a.size t) (b.size t)) ∙ sym (b.sign t)) (λ f. a.apart (at_most f) ∙ sym (b.apart (at_most f))) (<ℤ_or_not (pos 0) (z₁ *ℤ z₂))
  where
    at_most : (pos 0 <ℤ (z₁ *ℤ z₂) → ⊥) → (z₁ *ℤ z₂) ≤ℤ pos 0
    at_most f = by_sign (z₁ *ℤ z₂) (λ t. absurd (f t)) <ℤ→≤ℤ (λ e. subst (λ (x : ℤ). x ≤ℤ pos 0) (sym e) (≤ℤ_refl (pos 0)))
