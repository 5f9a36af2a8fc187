-- What is known of the pieces beside a point, and how large the slope there can be.
use Rattle.std.specs.Prelude.{◌≡◌, List, [], ◌∷◌, ℤ, pos, negsuc, ◌-ℤ◌, ◌*ℤ◌, ◌≤ℤ◌, ◌<ℤ◌}
use Rattle.std.proofs.Common.{sym, subst, arith, SFits}
use Rattle.std.specs.Int.{w32}
use Rattle.std.specs.Int.Signed.{le_z_yes}
use Rattle.integers.specs.Promise.{with_sign}
use Rattle.integers.specs.Ring.{ring, quote}
use Rattle.integers.specs.Linear.{lin, says}
use Rattle.integers.specs.Order.{≤ℤ_trans, <ℤ→≤ℤ, 0≤_number, 0≤_gap, 0<_product, at_most, pos-≤, signs}
use Rattle.integers.specs.Within.{Within, within, within_minus}
use Rattle.integers.specs.Sizes.{Known, known, listed, first, fits}
use Rattle.cubic.specs.Slopes.{mean, end_slope}
use Rattle.cubic.proofs.Inner.{inner_up}
use Rattle.cubic.specs.Fair.{Fair}
use Rattle.cubic.proofs.Fair.{end_fair, inner_fair}
use Rattle.rules.specs.declared.limits.SlopeUnit.{SlopeUnit}
use Rattle.rules.specs.declared.limits.Extent.{Extent}
use Rattle.rules.specs.Known.{0<_unit, in_256ths, 0<_width, rise_size, known_unit, known_width, known_rise}

-- what is known of a unit, and of a piece or two beside a point
abbrev pub alone : SlopeUnit → Extent → List Known
alone unit only = known_unit unit.size unit.within ∷ known_width only.h only.width ∷ known_rise only.z only.rise ∷ []

abbrev pub beside : SlopeUnit → Extent → Extent → List Known
beside unit left right = known_width left.h left.width ∷ known_rise left.z left.rise ∷ alone unit right

-- at most three times as steep as the piece is at most three units times the largest rise
pub fair_within : (unit : SlopeUnit) (piece : Extent) {m : ℤ} → Fair unit.size piece.h piece.z m → Within 805306368 m
fair_within unit piece f =
    subst (Within 805306368) (sym f.signed) (signed piece.z (within 805306368 f.size (≤ℤ_trans (le_z_yes tt) f.low) (highest (no_less f.low piece.width.low) f.high (in_256ths unit.within (0≤_number _)) (pos-≤ (rise_size piece.rise).size))))
  where
    no_less : {m h : ℤ} → pos 0 ≤ℤ m → pos 1 ≤ℤ h → m ≤ℤ (m *ℤ h)
    no_less {m} {h} m₀ h₁ = at_most (m *ℤ (h -ℤ pos 1)) (ring (m ∷ h ∷ []) (search quote depth 30 fits 9000) tt) (let g = 0≤_gap h₁ in search signs)

    highest : {m a Z z : ℤ} → m ≤ℤ a → a ≤ℤ (pos 3 *ℤ Z) → Z ≤ℤ (pos 256 *ℤ z) → z ≤ℤ pos 1048576 → m ≤ℤ pos 805306368
    highest {m} {a} {Z} {z} = lin (m ∷ a ∷ Z ∷ z ∷ []) (search says depth 30 fits 9000) (omega arith)

    signed : (z : ℤ) {s : ℤ} → Within 805306368 s → Within 805306368 (with_sign z s)
    signed (pos n) w = w
    signed (negsuc n) {s} w = within_minus s w

module _ (unit : SlopeUnit) (left right : Extent) where
  pub mean_within : pos 0 <ℤ left.z → pos 0 <ℤ right.z → Within 805306368 (mean unit.size left.h left.z right.h right.z)
  mean_within a b =
      fair_within unit left
      (subst (Fair unit.size left.h left.z) (sym (inner_up unit.size left.h left.z right.h right.z (0<_product a b) (<ℤ→≤ℤ a)))
      (inner_fair (0<_unit unit.within) (0<_width left.width) (0<_width right.width) left.z right.z))

  pub end_within : Within 805306368 (end_slope unit.size left.h left.z right.h right.z)
  end_within = fair_within unit left (end_fair (0<_unit unit.within) (0<_width left.width) (0<_width right.width) left.z right.z)

-- so that a slope of that size fits 32 bits
pub slope_fits : {x m : ℤ} → x ≡ m → Within 805306368 m → SFits w32 x
slope_fits {m = m} e w = subst (λ (v : ℤ). SFits w32 v) (sym e) (fits (known m 805306368 w ∷ []) (listed first) tt)
