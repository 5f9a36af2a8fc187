-- What the identities of the slope in `proofs/Slope.antt` speak of: the ellipse, its parts, and what the sum of the slopes has over the line.
use Rattle.std.specs.Prelude.{ℤ, pos, ◌+ℤ◌, ◌-ℤ◌, ◌*ℤ◌, ◌≤ℤ◌}

-- the ellipse's form: D ≤ 0 is its inside
abbrev pub ellipse : (Z a b : ℤ) → ℤ
ellipse Z a b = a *ℤ a +ℤ a *ℤ b +ℤ b *ℤ b -ℤ pos 6 *ℤ Z *ℤ (a +ℤ b) +ℤ pos 9 *ℤ (Z *ℤ Z)

abbrev pub steep : (Z a b : ℤ) → ℤ
steep Z a b = pos 3 *ℤ (a +ℤ b -ℤ pos 2 *ℤ Z)

abbrev pub turn : (Z a b : ℤ) → ℤ
turn Z a b = pos 2 *ℤ a +ℤ b -ℤ pos 3 *ℤ Z

-- what the sum of the slopes has over 3Z, and the ellipse's form from it
abbrev pub over : (Z a b : ℤ) → ℤ
over Z a b = a +ℤ b -ℤ pos 3 *ℤ Z

-- in the ellipse, by what a and b have over 3Z
pub record InEllipse (o a b : ℤ) : Type 0 where
  pub inside : (o *ℤ o) ≤ℤ (a *ℤ b)
