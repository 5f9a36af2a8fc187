-- The cubic first·t·h² + second·t²·h + third·t³ by Horner's steps, and how large each of them can be.
use Rattle.std.specs.Prelude.{◌≡◌, [], ◌∷◌, ℕ, ◌*◌, ◌≤◌, ℤ, pos, neg_ℤ, ◌+ℤ◌, ◌-ℤ◌, ◌*ℤ◌, ◌≤ℤ◌}
use Rattle.std.proofs.Common.{subst, arith, mul-one, mul-le-mul_left}
use Rattle.integers.specs.Ring.{ring, quote}
use Rattle.integers.specs.Linear.{lin, says}
use Rattle.integers.specs.Within.{Within, within, within_high, within_plus, within_product}
use Rattle.cubic.specs.Piece.{rise_at}
use Rattle.cubic.specs.Never.{SmallCoefficients}
use Rattle.cubic.specs.Horner.{HornerWithin, by_horner}

pub horner : (Z a b t h : ℤ) → by_horner a (pos 3 *ℤ Z -ℤ pos 2 *ℤ a -ℤ b) (a +ℤ b -ℤ pos 2 *ℤ Z) t h ≡ rise_at Z a b t h
horner Z a b t h = ring (Z ∷ a ∷ b ∷ t ∷ h ∷ []) (search quote depth 30 fits 9000) tt

-- 19·M·H³ bounds them all, and H² the width alone, for a rise within M over a width within H
pub horner_within : {M H N : ℕ} {Z a b t h : ℤ} → SmallCoefficients M Z a b → pos 0 ≤ℤ t → t ≤ℤ h → Within H h → 1 ≤ H → H * H ≤ N → 19 * (M * (H * (H * H))) ≤ N
    → HornerWithin N a (pos 3 *ℤ Z -ℤ pos 2 *ℤ a -ℤ b) (a +ℤ b -ℤ pos 2 *ℤ Z) t h
horner_within {M} {H} {N} {Z} {a} {b} {t} {h} s t₀ t₁ hH H₁ w n =
    let u = ends t h H t₀ t₁ (within_high hH) in
    let tH = within H t u.0 u.1 in
    let three_t = within_product s.third tH in
    let two_h = within_product s.second hH in
    let upper = within_plus three_t two_h in
    let upper_t = within_product upper tH in
    let h_h = within_product hH hH in
    let one_h_h = within_product s.start h_h in
    let lower = within_plus upper_t one_h_h in
    let last = within_product lower tH in
    let HH : H * 1 ≤ H * H = mul-le-mul_left H H₁ in
    let HHH : H * H ≤ H * (H * H) = mul-le-mul_left H (subst (λ (x : ℕ). x ≤ H * H) (mul-one H) HH) in
    let MH : M * 1 ≤ M * H = mul-le-mul_left M H₁ in
    let MHH : M * (H * 1) ≤ M * (H * H) = mul-le-mul_left M HH in
    let MHHH : M * (H * H) ≤ M * (H * (H * H)) = mul-le-mul_left M HHH in
    record {
      one = record { size = omega (arith, s.start.size) };
      two = record { size = omega (arith, s.second.size) };
      three = record { size = omega (arith, s.third.size) };
      place = record { size = omega (arith, tH.size) };
      width = record { size = omega (arith, hH.size) };
      three_t = record { size = omega (arith, three_t.size) };
      two_h = record { size = omega (arith, two_h.size) };
      upper = record { size = omega (arith, upper.size) };
      upper_t = record { size = omega (arith, upper_t.size) };
      h_h = record { size = omega (arith, h_h.size) };
      one_h_h = record { size = omega (arith, one_h_h.size) };
      lower = record { size = omega (arith, lower.size) };
      last = record { size = omega (arith, last.size) };
    }
  where
    ends : (t h : ℤ) (H : ℕ) → pos 0 ≤ℤ t → t ≤ℤ h → h ≤ℤ pos H → (neg_ℤ (pos H) ≤ℤ t) × (t ≤ℤ pos H)
    ends t h H = lin (t ∷ h ∷ []) (search says depth 30 fits 9000) (omega arith)
