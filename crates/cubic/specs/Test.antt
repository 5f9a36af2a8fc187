-- Two tests decide the definition for a positive rise Z: Fritsch and Carlson's, as the exact rules read it, and a shorter one with one line in
-- place of three.
use Rattle.std.specs.Prelude.{ℤ, pos, ◌+ℤ◌, ◌*ℤ◌, ◌≤ℤ◌, ◌<ℤ◌}
use Rattle.cubic.specs.Slope.{ellipse, over, InEllipse}

-- the short test: not above the line a + b = 3Z, or above it and in the ellipse
pub data Short (Z a b : ℤ) : Type 0 where
  line : pos 0 ≤ℤ a → pos 0 ≤ℤ b → over Z a b ≤ℤ pos 0 → Short Z a b
  oval : pos 0 ≤ℤ a → pos 0 ≤ℤ b → pos 0 <ℤ over Z a b → InEllipse (over Z a b) a b → Short Z a b

-- "a and b are not negative, and at least one holds: a + b ≤ 2Z; 2a + b ≤ 3Z; a + 2b ≤ 3Z; a² + ab + b² − 6Z(a + b) + 9Z² ≤ 0"
pub data OneHolds (Z a b : ℤ) : Type 0 where
  sum : (a +ℤ b) ≤ℤ (pos 2 *ℤ Z) → OneHolds Z a b
  left : (pos 2 *ℤ a +ℤ b) ≤ℤ (pos 3 *ℤ Z) → OneHolds Z a b
  right : (a +ℤ pos 2 *ℤ b) ≤ℤ (pos 3 *ℤ Z) → OneHolds Z a b
  inside : ellipse Z a b ≤ℤ pos 0 → OneHolds Z a b

pub record FritschCarlson (Z a b : ℤ) : Type 0 where
  pub start : pos 0 ≤ℤ a
  pub end : pos 0 ≤ℤ b
  pub one : OneHolds Z a b
