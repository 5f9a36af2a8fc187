-- A float that is a whole number. Whoever believes a promise about floats believes this file, and the kit's account of IEEE 754 for what a float is.
use Rattle.std.specs.Prelude.{Bool, true, false, ℤ, pos, negsuc, nat_abs, T, Float}
use Rattle.std.specs.Float.{Format}
use Rattle.std.specs.Float.Ieee.{fits}
use Rattle.std.specs.Float.Ieee.Exact.{HasValue}

-- The sign that a whole number has as a float. 0 has that of +0.
abbrev pub negative : ℤ → Bool
negative (pos n) = false
negative (negsuc n) = true

-- x is the whole number n exactly, as the format f holds it. "A zero among them, or a zero level, is always +0, never −0."
pub record Exactly (f : Format) (n : ℤ) (x : Float) : Type 0 where
  pub held : T (fits f x)
  pub value : HasValue x (negative n) (nat_abs n) 1
