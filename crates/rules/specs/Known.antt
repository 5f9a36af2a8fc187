-- The limits as sizes of values, for proofs about code.
use Rattle.std.specs.Prelude.{ℕ, ◌≡◌, refl, [], ◌∷◌, ℤ, pos, ◌-ℤ◌, ◌*ℤ◌, ◌≤ℤ◌, ◌<ℤ◌}
use Rattle.std.proofs.Common.{pow_pos, pow_mono}
use Rattle.std.specs.Int.Signed.{le_z_yes}
use Rattle.integers.specs.Promise.{Between}
use Rattle.integers.specs.Ring.{ring, quote}
use Rattle.integers.specs.Order.{≤ℤ_trans, 1≤→0<, 0≤_gap, 0≤_product, pos-≤, at_most}
use Rattle.integers.specs.Within.{Within, within}
use Rattle.integers.specs.Sizes.{Known, known}
use Rattle.rules.specs.Limits.{unit, UnitWithin, WidthWithin, RiseWithin}

-- document 01 is s = 8
pub document_01 : unit 8 ≡ pos 256
document_01 = refl

-- what the sizes rest on, of a slope unit
abbrev pub UnitSize : ℤ → Type 0
UnitSize U = Between (pos 1) U (pos 256)

pub unit_size : {s : ℕ} → UnitWithin s → UnitSize (unit s)
unit_size {s} w = record { low = pos-≤ (pow_pos s); high = pos-≤ (pow_mono w.high) }

-- so many 256ths are no fewer, of what is not below 0
pub in_256ths : {U x : ℤ} → UnitSize U → pos 0 ≤ℤ x → (U *ℤ x) ≤ℤ (pos 256 *ℤ x)
in_256ths {U} {x} u x₀ = at_most ((pos 256 -ℤ U) *ℤ x) (ring (U ∷ x ∷ []) (search quote depth 30 fits 9000) tt) (0≤_product (0≤_gap u.high) x₀)

-- it is above 0
pub 0<_unit : {U : ℤ} → UnitSize U → pos 0 <ℤ U
0<_unit u = 1≤→0< u.low

pub unit_within_256 : {U : ℤ} → UnitSize U → Within 256 U
unit_within_256 {U} u = within 256 U (≤ℤ_trans (le_z_yes tt) u.low) u.high

abbrev pub known_unit : (U : ℤ) → UnitSize U → Known
known_unit U u = known U 256 (unit_within_256 u)

-- a width is above 0, and how large a rise can be
pub 0<_width : {h : ℤ} → WidthWithin h → pos 0 <ℤ h
0<_width w = 1≤→0< w.low

pub rise_size : {z : ℤ} → RiseWithin z → Within 1048576 z
rise_size {z} r = within 1048576 z r.low r.high

abbrev pub known_width : (h : ℤ) → WidthWithin h → Known
known_width h w = known h 1024 (within 1024 h (≤ℤ_trans (le_z_yes tt) w.low) w.high)

-- what lies in a piece, counted from its left knot
abbrev pub known_inside : {h : ℤ} (t : ℤ) → WidthWithin h → Between (pos 0) t h → Known
known_inside t w b = known t 1024 (within 1024 t (≤ℤ_trans (le_z_yes tt) b.low) (≤ℤ_trans b.high w.high))

abbrev pub known_rise : (z : ℤ) → RiseWithin z → Known
known_rise z r = known z 1048576 (rise_size r)
