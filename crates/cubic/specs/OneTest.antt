-- One test decides a rise, a fall and a piece without a rise alike, with no case of its own for any of them: that of the piece turned so that it does not fall, and
-- there a square with its sign in place of the line and the ellipse.
use Rattle.std.specs.Prelude.{ℤ, ◌*ℤ◌, ◌≤ℤ◌}
use Rattle.integers.specs.Promise.{with_sign}

-- what a and b have over 3Z, squared with its sign, is at most a·b: below the line always, and above it in the ellipse
pub record SquareWithin (o a b : ℤ) : Type 0 where
  pub within : (o *ℤ with_sign o o) ≤ℤ (a *ℤ b)
