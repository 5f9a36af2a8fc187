-- How large the coefficients of a cubic are whose slope is never against its rise Z, a rise within M. `proofs/Never.antt` shows it, and what else follows for such a piece.
use Rattle.std.specs.Prelude.{ℕ, ◌*◌, ℤ, pos, ◌+ℤ◌, ◌-ℤ◌, ◌*ℤ◌}
use Rattle.integers.specs.Within.{Within}

pub record SmallCoefficients (M : ℕ) (Z a b : ℤ) : Type 0 where
  pub third : Within (6 * M) (a +ℤ b -ℤ pos 2 *ℤ Z)
  pub second : Within (9 * M) (pos 3 *ℤ Z -ℤ pos 2 *ℤ a -ℤ b)
  pub start : Within (4 * M) a
  pub end : Within (4 * M) b
