-- "Slopes that are built" of the exact rules, from the pieces beside a point, as they are written there and, for the ends, in request 2 of document 02. Whoever believes a
-- promise about built slopes believes this file. U is the slope unit, for which document 01 and request 2 have 256, and 768 for 3·U. Products go before sums.
use Rattle.std.specs.Prelude.{Bool, cond, ◌&&◌, ℤ, pos, ◌+ℤ◌, ◌-ℤ◌, ◌*ℤ◌}
use Rattle.std.specs.Int.Signed.{le_z, lt_z}
use Rattle.integers.specs.Promise.{floor_of, magnitude, with_sign, toward_zero}

-- "for the end piece h1, z1 and its neighbour h2, z2, take ((2·h1 + h2)·z1/h1 − h1·z2/h2)/(h1 + h2)": its numerator and its denominator, both times h1·h2
abbrev pub end_above : (h₁ z₁ h₂ z₂ : ℤ) → ℤ
end_above h₁ z₁ h₂ z₂ = (pos 2 *ℤ h₁ +ℤ h₂) *ℤ z₁ *ℤ h₂ -ℤ h₁ *ℤ z₂ *ℤ h₁

abbrev pub end_below : (h₁ h₂ : ℤ) → ℤ
end_below h₁ h₂ = h₁ *ℤ h₂ *ℤ (h₁ +ℤ h₂)

-- "If it is zero or opposes z1 (or z1 = 0)", where its denominator is above 0
abbrev pub zero_or_opposed : (h₁ z₁ h₂ z₂ : ℤ) → Bool
zero_or_opposed h₁ z₁ h₂ z₂ = le_z (end_above h₁ z₁ h₂ z₂ *ℤ z₁) (pos 0)

-- "If z1 and z2 have opposite signs and its magnitude exceeds 3·|z1|/h1", where each side is taken times both denominators
abbrev pub beyond_the_bound : (h₁ z₁ h₂ z₂ : ℤ) → Bool
beyond_the_bound h₁ z₁ h₂ z₂ = lt_z (z₁ *ℤ z₂) (pos 0) && lt_z (pos 3 *ℤ magnitude z₁ *ℤ end_below h₁ h₂) (magnitude (end_above h₁ z₁ h₂ z₂) *ℤ h₁)

-- "Times 256, rounded toward zero once, at the end": of above/below, where 256 is the unit
abbrev pub in_units : (U above below : ℤ) → ℤ
in_units U above below = toward_zero (U *ℤ above) below

-- "If [..], the slope is 0. If [..], that bound is taken with z1's sign." Otherwise it is the quotient itself.
abbrev pub end_slope : (U h₁ z₁ h₂ z₂ : ℤ) → ℤ
end_slope U h₁ z₁ h₂ z₂ =
    cond (zero_or_opposed h₁ z₁ h₂ z₂) (pos 0)
    (cond (beyond_the_bound h₁ z₁ h₂ z₂) (in_units U (with_sign z₁ (pos 3 *ℤ magnitude z₁)) h₁) (in_units U (end_above h₁ z₁ h₂ z₂) (end_below h₁ h₂)))

-- "Two points keep the secant."
abbrev pub secant_slope : (U h z : ℤ) → ℤ
secant_slope U h z = in_units U z h

-- the denominator "(h1 + 2·h2)·h1·z2 + (2·h1 + h2)·h2·z1"
abbrev pub mean_below : (h₁ z₁ h₂ z₂ : ℤ) → ℤ
mean_below h₁ z₁ h₂ z₂ = (h₁ +ℤ pos 2 *ℤ h₂) *ℤ h₁ *ℤ z₂ +ℤ (pos 2 *ℤ h₁ +ℤ h₂) *ℤ h₂ *ℤ z₁

-- the numerator "768·(h1 + h2)·z1·z2", where 768 is three times the unit
abbrev pub mean_above : (U h₁ z₁ h₂ z₂ : ℤ) → ℤ
mean_above U h₁ z₁ h₂ z₂ = pos 3 *ℤ U *ℤ (h₁ +ℤ h₂) *ℤ z₁ *ℤ z₂

-- for two rises above 0: that numerator over that denominator, "rounded down"
abbrev pub mean : (U h₁ z₁ h₂ z₂ : ℤ) → ℤ
mean U h₁ z₁ h₂ z₂ = floor_of (mean_above U h₁ z₁ h₂ z₂) (mean_below h₁ z₁ h₂ z₂)

-- "If z1·z2 ≤ 0 its slope is 0. Otherwise, with magnitudes of z1 and z2, it is [the mean], then given the sign of the rises."
abbrev pub inner_slope : (U h₁ z₁ h₂ z₂ : ℤ) → ℤ
inner_slope U h₁ z₁ h₂ z₂ =
    cond (le_z (z₁ *ℤ z₂) (pos 0)) (pos 0) (with_sign z₁ (mean U h₁ (magnitude z₁) h₂ (magnitude z₂)))
