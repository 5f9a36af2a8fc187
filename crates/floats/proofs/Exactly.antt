-- Which float a whole number is: the one that a cast gives, and no other. A zero is +0, all of whose bits are 0.
use Rattle.std.specs.Prelude.{◌≡◌, refl, suc, ◌^◌, T, ℤ, pos, negsuc, nat_abs, Float}
use Rattle.std.proofs.Common.{ap}
use Rattle.std.proofs.Math.Dec.{le→leb, lt→ltb}
use Rattle.std.specs.Float.{fin, Format, binary64}
use Rattle.std.specs.Float.Ieee.{prec, of_int, in_float, fits, of_bits, to_bits}
use Rattle.std.specs.Float.Ieee.Bits.{of_bits-fits}
use Rattle.std.specs.Float.Ieee.Back.{round_whole, whole_unique}
use Rattle.std.specs.Float.Ieee.Fits.{of_int-fits}
use Rattle.std.proofs.Math.Bool.{true, false}
use Rattle.integers.specs.Within.{Within}
use Rattle.floats.specs.Promise.{negative, Exactly}

pub one_float : {f : Format} {n : ℤ} {x y : Float} → Exactly f n x → Exactly f n y → x ≡ y
one_float {f} {n} {x} {y} v w = whole_unique f x y (negative n) (nat_abs n) v.held w.held v.value w.value

module _ (f : Format) where
  -- a cast is defined for such a number
  pub castable : (n : ℤ) → Within (2 ^ prec f) n → T (in_float f n)
  unfolding in_float
  castable (pos n) w = le→leb n (2 ^ prec f) w.size
  castable (negsuc n) w = lt→ltb n (2 ^ prec f) w.size

  -- and gives it
  pub cast_exactly : (n : ℤ) → Within (2 ^ prec f) n → Exactly f n (of_int f n)
  unfolding of_int
  cast_exactly (pos n) w = record { held = of_int-fits f (pos n); value = round_whole f false n w.size }
  cast_exactly (negsuc n) w = record { held = of_int-fits f (negsuc n); value = round_whole f true (suc n) w.size }

-- "a zero [..] is always +0, never −0"
pub plus_zero : (f : Format) → Exactly f (pos 0) (fin false 0 (pos 0))
unfolding fits
plus_zero f = record { held = tt; value = (refl, refl) }

pub a_zero_has_no_bit_set : {x : Float} → Exactly binary64 (pos 0) x → to_bits binary64 x ≡ 0
unfolding to_bits
a_zero_has_no_bit_set v = ap (to_bits binary64) (one_float v (plus_zero binary64))

-- as code has it: `0.0`
pub zero_in_code : Exactly binary64 (pos 0) (of_bits binary64 0)
unfolding of_bits
zero_in_code = record { held = of_bits-fits binary64 0; value = (refl, refl) }
