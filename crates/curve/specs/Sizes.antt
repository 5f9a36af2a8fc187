-- The sizes that an accepted piece leaves to the coefficients of its cubic, for a rise up to 2^28 in slope units: 4, 9 and 6 times that.
use Rattle.std.specs.Prelude.{ℤ}
use Rattle.integers.specs.Within.{Within}

pub record Small (first second third : ℤ) : Type 0 where
  pub one : Within 1073741824 first
  pub two : Within 2415919104 second
  pub three : Within 1610612736 third
