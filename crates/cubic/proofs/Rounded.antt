-- What the theorems on values know of their rounding: it is one, and a whole number may be added before or after it. And what they are divided by is positive.
use Rattle.std.specs.Prelude.{◌≡◌, ℤ, pos, ◌+ℤ◌, ◌*ℤ◌, ◌<ℤ◌}
use Rattle.integers.specs.Order.{positives}
use Rattle.integers.specs.Nearest.{nearest_of_lem, nearest_unique, nearest_shift}
use Rattle.integers.specs.Rounding.{Rounding, rounding_nearest}
use Rattle.cubic.specs.Value.{rounded, denominator}

pub rounding : Rounding rounded
rounding = rounding_nearest

-- "the exact value rounded" is the left value k plus the quotient, rounded
pub the_whole_rounded : (k n : ℤ) {d : ℤ} → pos 0 <ℤ d → rounded (k *ℤ d +ℤ n) d ≡ k +ℤ rounded n d
the_whole_rounded k n h = nearest_unique h (nearest_of_lem _ h) (nearest_shift k (nearest_of_lem n h))

pub 0<_denominator : {U h : ℤ} → pos 0 <ℤ U → pos 0 <ℤ h → pos 0 <ℤ denominator U h
0<_denominator U₀ h₀ = search positives
