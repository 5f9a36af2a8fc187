-- A cast in code, of an expression that `Sizes` of the integer layer reads: it is defined, and exact, where the expression's size is seen to stay within 2^24 at
-- 32 bits and 2^53 at 64.
use Rattle.std.proofs.Common.{subst}
use Rattle.std.specs.Prelude.{◌&&◌, List, ◌^◌, T, leb, ℤ}
use Rattle.std.specs.Float.{Format}
use Rattle.std.specs.Float.Ieee.{prec, in_float, of_int}
use Rattle.std.proofs.Math.Facts.{and_yes}
use Rattle.integers.specs.Sizes.{Known, Code, plain, size, sound, sized, plain_is}
use Rattle.floats.specs.Promise.{Exactly}
use Rattle.floats.proofs.Exactly.{castable, cast_exactly}

module _ (f : Format) (Γ : List Known) {x : ℤ} (c : Code Γ x) (t : T (sound c && leb (size c) (2 ^ prec f))) where
  pub may_cast : T (in_float f x)
  may_cast = castable f x (sized Γ c t)

  pub cast_is : Exactly f (plain c) (of_int f x)
  cast_is = subst (λ (v : ℤ). Exactly f v (of_int f x)) (plain_is c (and_yes (sound c) (leb (size c) (2 ^ prec f)) t).0) (cast_exactly f x (sized Γ c t))
