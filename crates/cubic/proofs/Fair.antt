-- Slopes that are built are fair to the pieces beside them, and a piece that is fair at both ends is monotone.
use Rattle.std.specs.Prelude.{◌≡◌, refl, [], ◌∷◌, ℕ, zero, suc, ℤ, pos, negsuc, neg_ℤ, ◌+ℤ◌, ◌-ℤ◌, ◌*ℤ◌, ◌≤ℤ◌, ◌<ℤ◌}
use Rattle.std.proofs.Common.{sym, ◌∙◌, ap, ap₂, subst, subst₂, ⊎_elim, arith}
use Rattle.std.proofs.Math.Path.{subst₃}
use Rattle.std.proofs.Math.IntN.{*ℤ_comm}
use Rattle.integers.specs.Promise.{floor_of, magnitude, with_sign}
use Rattle.integers.specs.Ring.{ring, quote}
use Rattle.integers.specs.Linear.{lin, says}
use Rattle.integers.specs.Order.{≤ℤ_or-<ℤ, signs, positives, 0<_suc, 0≤_number, 0≤_product, 0<_product, <ℤ→≤ℤ, ≤ℤ_antisym, ≤ℤ_trans, ≤ℤ_cancel, at_most, minus_twice}
use Rattle.integers.specs.Signs.{0<_magnitude, same_sign}
use Rattle.integers.specs.Division.{0≤_floor, floor_low, toward_scaled}
use Rattle.integers.specs.Parts.{<_from}
use Rattle.cubic.specs.Piece.{NeverAgainst, Monotone}
use Rattle.cubic.proofs.Monotone.{monotone_rising, monotone_falling, monotone_level}
use Rattle.cubic.specs.Slopes.{end_above, end_below, end_slope, secant_slope, mean_above, mean_below, mean, inner_slope}
use Rattle.cubic.proofs.Inner.{inner_level, inner_steep}
use Rattle.cubic.proofs.End.{0<_end_below, rising_level, rising_quotient, rising_bound, end_turned}
use Rattle.cubic.proofs.Box.{box_accepts, mean_below_mirrored, mean_in_box}
use Rattle.cubic.specs.Fair.{Fair}

-- ---- fair at both ends

never_against : {U h z m n : ℤ} → pos 0 <ℤ U → pos 0 <ℤ h → pos 0 <ℤ magnitude z → (f : Fair U h z m) (g : Fair U h z n) → NeverAgainst (U *ℤ magnitude z) (f.size *ℤ h) (g.size *ℤ h)
never_against u₀ h₀ z₀ f g =
    let h = <ℤ→≤ℤ h₀ in
    box_accepts (0<_product u₀ z₀) (0≤_product f.low h) (0≤_product g.low h) f.high g.high

negated_both : (x y : ℤ) → x *ℤ y ≡ neg_ℤ (x *ℤ neg_ℤ y)
negated_both x y = ring (x ∷ y ∷ []) (search quote depth 30 fits 9000) tt

pub fair_monotone : {U h z m n : ℤ} → pos 0 <ℤ U → pos 0 <ℤ h → Fair U h z m → Fair U h z n → Monotone U h z m n
fair_monotone {U} {h} {z = pos zero} u₀ h₀ f g = monotone_level refl (level f) (level g)
  where
    nothing : (U : ℤ) → pos 3 *ℤ (U *ℤ pos 0) ≡ pos 0
    nothing U = ring (U ∷ []) (search quote depth 30 fits 9000) tt

    level : {m : ℤ} → Fair U h (pos 0) m → m *ℤ h ≡ pos 0
    level f =
        ap (λ (v : ℤ). v *ℤ h) f.signed
        ∙ ≤ℤ_antisym (subst (λ (v : ℤ). (f.size *ℤ h) ≤ℤ v) (nothing U) f.high) (0≤_product f.low (<ℤ→≤ℤ h₀))
fair_monotone {U} {h} {z = pos (suc k)} u₀ h₀ f g =
    let z₀ = 0<_suc k in
    monotone_rising z₀
    (subst₂ (λ (m n : ℤ). NeverAgainst (U *ℤ pos (suc k)) (m *ℤ h) (n *ℤ h)) (sym f.signed) (sym g.signed) (never_against u₀ h₀ z₀ f g))
fair_monotone {U} {h} {z = negsuc k} u₀ h₀ f g =
    monotone_falling (below k)
    (subst₃ NeverAgainst (negated_both U (pos (suc k))) (turned f) (turned g) (never_against u₀ h₀ (0<_suc k) f g))
  where
    below : (k : ℕ) → negsuc k <ℤ pos 0
    below k = <_from (negsuc k) (pos 0) (omega arith)

    turned : {m : ℤ} (f : Fair U h (negsuc k) m) → f.size *ℤ h ≡ neg_ℤ (m *ℤ h)
    turned f = *ℤ_comm f.size h ∙ negated_both h f.size ∙ ap neg_ℤ (*ℤ_comm h (neg_ℤ f.size) ∙ ap (λ (v : ℤ). v *ℤ h) (sym f.signed))

-- ---- the secant, where there are two points alone

module _ {U h : ℤ} (u₀ : pos 0 <ℤ U) (h₀ : pos 0 <ℤ h) where
  pub secant_fair : (z : ℤ) → Fair U h z (secant_slope U h z)
  secant_fair z =
      record {
        size = floor_of (U *ℤ magnitude z) h;
        low = 0≤_floor h (0≤_product (<ℤ→≤ℤ u₀) (0≤_number _));
        high = ≤ℤ_trans (floor_low (U *ℤ magnitude z) h₀) (three (0≤_product (<ℤ→≤ℤ u₀) (0≤_number _)));
        signed = toward_scaled u₀ z h;
      }
    where
      three : {x : ℤ} → pos 0 ≤ℤ x → x ≤ℤ (pos 3 *ℤ x)
      three {x} = lin (x ∷ []) (search says depth 30 fits 9000) (omega arith)

-- ---- no slope

level_fair : {U : ℤ} → pos 0 <ℤ U → (h z : ℤ) → Fair U h z (pos 0)
level_fair {U} u₀ h z =
    record {
      size = pos 0;
      low = 0≤_number 0;
      high = subst (λ (v : ℤ). v ≤ℤ (pos 3 *ℤ (U *ℤ magnitude z))) (sym (nothing h)) (0≤_product (0≤_number 3) (0≤_product (<ℤ→≤ℤ u₀) (0≤_number _)));
      signed = unsigned z;
    }
  where
    nothing : (h : ℤ) → pos 0 *ℤ h ≡ pos 0
    nothing h = ring (h ∷ []) (search quote depth 30 fits 9000) tt

    unsigned : (z : ℤ) → pos 0 ≡ with_sign z (pos 0)
    unsigned (pos n) = refl
    unsigned (negsuc n) = refl

-- ---- the end rule

-- (3·U·z1 − s·h1)·Q = U·(3·z1·Q − P·h1) + h1·(U-as-P − s·Q), where P/Q is the quotient
by_the_identity : {U h Q : ℤ} (s z P : ℤ) → pos 0 ≤ℤ U → pos 0 ≤ℤ h → pos 0 <ℤ Q → (P *ℤ h) ≤ℤ (pos 3 *ℤ z *ℤ Q) → (s *ℤ Q) ≤ℤ (U *ℤ P) → (s *ℤ h) ≤ℤ (pos 3 *ℤ (U *ℤ z))
by_the_identity {U} {h} {Q} s z P u h₀ q₀ a b =
    ≤ℤ_cancel q₀
    (at_most (U *ℤ (pos 3 *ℤ z *ℤ Q -ℤ P *ℤ h) +ℤ h *ℤ (U *ℤ P -ℤ s *ℤ Q)) (ring (U ∷ h ∷ s ∷ z ∷ P ∷ Q ∷ []) (search quote depth 30 fits 9000) tt)
    (search signs depth 9 fits 9000))

module _ {U h₁ h₂ : ℤ} (u₀ : pos 0 <ℤ U) (a₀ : pos 0 <ℤ h₁) (b₀ : pos 0 <ℤ h₂) where
  -- to an end piece that does not fall
  rising_fair : (k : ℕ) (z₂ : ℤ) → Fair U h₁ (pos k) (end_slope U h₁ (pos k) h₂ z₂)
  rising_fair k z₂ = ⊎_elim level steep (≤ℤ_or-<ℤ (end_above h₁ (pos k) h₂ z₂) (pos 0))
    where
      up : pos 0 ≤ℤ pos k
      up = 0≤_number k

      level : end_above h₁ (pos k) h₂ z₂ ≤ℤ pos 0 → Fair U h₁ (pos k) (end_slope U h₁ (pos k) h₂ z₂)
      level p = subst (Fair U h₁ (pos k)) (rising_level u₀ a₀ b₀ up z₂ p) (level_fair u₀ h₁ (pos k))

      of_size : {s : ℤ} → pos 0 ≤ℤ s → (s *ℤ h₁) ≤ℤ (pos 3 *ℤ (U *ℤ pos k)) → s ≡ end_slope U h₁ (pos k) h₂ z₂ → Fair U h₁ (pos k) (end_slope U h₁ (pos k) h₂ z₂)
      of_size {s} l h e = record { size = s; low = l; high = h; signed = sym e }

      within : pos 0 <ℤ end_above h₁ (pos k) h₂ z₂ → (end_above h₁ (pos k) h₂ z₂ *ℤ h₁) ≤ℤ (pos 3 *ℤ pos k *ℤ end_below h₁ h₂) → Fair U h₁ (pos k) (end_slope U h₁ (pos k) h₂ z₂)
      within p q =
          let u = <ℤ→≤ℤ u₀ in
          of_size (0≤_floor (end_below h₁ h₂) (0≤_product u (<ℤ→≤ℤ p)))
          (by_the_identity (floor_of (U *ℤ end_above h₁ (pos k) h₂ z₂) (end_below h₁ h₂)) (pos k) (end_above h₁ (pos k) h₂ z₂) u (<ℤ→≤ℤ a₀) (0<_end_below a₀ b₀) q (floor_low (U *ℤ end_above h₁ (pos k) h₂ z₂) (0<_end_below a₀ b₀)))
          (rising_quotient u₀ a₀ b₀ up z₂ p q)

      beyond : (pos 3 *ℤ pos k *ℤ end_below h₁ h₂) <ℤ (end_above h₁ (pos k) h₂ z₂ *ℤ h₁) → Fair U h₁ (pos k) (end_slope U h₁ (pos k) h₂ z₂)
      beyond q =
          of_size (0≤_floor h₁ (0≤_product (<ℤ→≤ℤ u₀) (0≤_product (0≤_number 3) up)))
          (subst (λ (v : ℤ). (floor_of (U *ℤ (pos 3 *ℤ pos k)) h₁ *ℤ h₁) ≤ℤ v) (thrice U (pos k)) (floor_low (U *ℤ (pos 3 *ℤ pos k)) a₀))
          (rising_bound u₀ a₀ b₀ up z₂ q)
        where
          thrice : (x y : ℤ) → x *ℤ (pos 3 *ℤ y) ≡ pos 3 *ℤ (x *ℤ y)
          thrice x y = ring (x ∷ y ∷ []) (search quote depth 30 fits 9000) tt

      steep : pos 0 <ℤ end_above h₁ (pos k) h₂ z₂ → Fair U h₁ (pos k) (end_slope U h₁ (pos k) h₂ z₂)
      steep p = ⊎_elim (within p) beyond (≤ℤ_or-<ℤ (end_above h₁ (pos k) h₂ z₂ *ℤ h₁) (pos 3 *ℤ pos k *ℤ end_below h₁ h₂))

  pub end_fair : (z₁ z₂ : ℤ) → Fair U h₁ z₁ (end_slope U h₁ z₁ h₂ z₂)
  end_fair (pos k) z₂ = rising_fair k z₂
  end_fair (negsuc k) z₂ =
      let f = rising_fair (suc k) (neg_ℤ z₂) in
      record {
        size = f.size;
        low = f.low;
        high = f.high;
        signed = ap (end_slope U h₁ (negsuc k) h₂) (sym (minus_twice z₂)) ∙ end_turned U h₁ (pos (suc k)) h₂ (neg_ℤ z₂) ∙ ap neg_ℤ f.signed;
      }

-- ---- the mean

mean_mirrored : (U h₁ z₁ h₂ z₂ : ℤ) → mean U h₁ z₁ h₂ z₂ ≡ mean U h₂ z₂ h₁ z₁
mean_mirrored U h₁ z₁ h₂ z₂ = ap₂ floor_of (above U h₁ z₁ h₂ z₂) (mean_below_mirrored h₁ z₁ h₂ z₂)
  where
    above : (U h₁ z₁ h₂ z₂ : ℤ) → mean_above U h₁ z₁ h₂ z₂ ≡ mean_above U h₂ z₂ h₁ z₁
    above U h₁ z₁ h₂ z₂ = ring (U ∷ h₁ ∷ z₁ ∷ h₂ ∷ z₂ ∷ []) (search quote depth 30 fits 9000) tt

module _ {U h₁ h₂ : ℤ} (u₀ : pos 0 <ℤ U) (a : pos 0 <ℤ h₁) (b : pos 0 <ℤ h₂) where
  -- what the mean of two rises is at least and at most
  0≤_mean : {z₁ z₂ : ℤ} → pos 0 <ℤ z₁ → pos 0 <ℤ z₂ → pos 0 ≤ℤ mean U h₁ z₁ h₂ z₂
  0≤_mean {z₁} {z₂} p q =
      let u = <ℤ→≤ℤ u₀ in
      let c = <ℤ→≤ℤ a in
      let d = <ℤ→≤ℤ b in
      let e = <ℤ→≤ℤ p in
      let f = <ℤ→≤ℤ q in 0≤_floor (mean_below h₁ z₁ h₂ z₂) (search signs depth 9 fits 9000)

  mean_high : {z₁ z₂ : ℤ} → pos 0 <ℤ z₁ → pos 0 <ℤ z₂ → (mean U h₁ z₁ h₂ z₂ *ℤ h₁) ≤ℤ (pos 3 *ℤ (U *ℤ z₁))
  mean_high {z₁} {z₂} p q =
      mean_in_box {h₂ = h₂} {z₂ = z₂} (<ℤ→≤ℤ u₀) a p b q (0≤_mean p q) (floor_low (mean_above U h₁ z₁ h₂ z₂) {d = mean_below h₁ z₁ h₂ z₂} (search positives depth 9 fits 9000))

  -- it is fair to the piece on its left
  pub inner_fair : (z₁ z₂ : ℤ) → Fair U h₁ z₁ (inner_slope U h₁ z₁ h₂ z₂)
  inner_fair z₁ z₂ = ⊎_elim level steep (≤ℤ_or-<ℤ (z₁ *ℤ z₂) (pos 0))
    where
      level : (z₁ *ℤ z₂) ≤ℤ pos 0 → Fair U h₁ z₁ (inner_slope U h₁ z₁ h₂ z₂)
      level p = subst (Fair U h₁ z₁) (inner_level U h₁ z₁ h₂ z₂ p) (level_fair u₀ h₁ z₁)

      steep : pos 0 <ℤ (z₁ *ℤ z₂) → Fair U h₁ z₁ (inner_slope U h₁ z₁ h₂ z₂)
      steep p =
          let p₁ = 0<_magnitude z₁ z₂ p in
          let p₂ = 0<_magnitude z₂ z₁ (subst (λ (v : ℤ). pos 0 <ℤ v) (*ℤ_comm z₁ z₂) p) in
          record {
            size = mean U h₁ (magnitude z₁) h₂ (magnitude z₂);
            low = 0≤_mean p₁ p₂;
            high = mean_high p₁ p₂;
            signed = sym (inner_steep U h₁ z₁ h₂ z₂ p);
          }

-- and, read from the other side, to the one on its right
pub inner_mirrored : (U h₁ z₁ h₂ z₂ : ℤ) → inner_slope U h₁ z₁ h₂ z₂ ≡ inner_slope U h₂ z₂ h₁ z₁
inner_mirrored U h₁ z₁ h₂ z₂ = ⊎_elim level steep (≤ℤ_or-<ℤ (z₁ *ℤ z₂) (pos 0))
  where
    level : (z₁ *ℤ z₂) ≤ℤ pos 0 → inner_slope U h₁ z₁ h₂ z₂ ≡ inner_slope U h₂ z₂ h₁ z₁
    level p =
        sym (inner_level U h₁ z₁ h₂ z₂ p) ∙ inner_level U h₂ z₂ h₁ z₁ (subst (λ (v : ℤ). v ≤ℤ pos 0) (*ℤ_comm z₁ z₂) p)

    steep : pos 0 <ℤ (z₁ *ℤ z₂) → inner_slope U h₁ z₁ h₂ z₂ ≡ inner_slope U h₂ z₂ h₁ z₁
    steep p =
        sym (inner_steep U h₁ z₁ h₂ z₂ p)
        ∙ same_sign z₁ z₂ p (mean U h₁ (magnitude z₁) h₂ (magnitude z₂))
        ∙ ap (with_sign z₂) (mean_mirrored U h₁ (magnitude z₁) h₂ (magnitude z₂))
        ∙ inner_steep U h₂ z₂ h₁ z₁ (subst (λ (v : ℤ). pos 0 <ℤ v) (*ℤ_comm z₁ z₂) p)
