-- The sizes that the limits leave to a rise Z and to the slopes times the width, and those whose products fit 64 bits.
use Rattle.std.specs.Prelude.{◌≡◌, ℕ, ◌^◌, ℤ, pos, negsuc}
use Rattle.std.proofs.Common.{sym, subst}
use Rattle.integers.specs.Promise.{with_sign}
use Rattle.integers.specs.Within.{Within, within_minus}

-- x with the other sign where `sign` is negative, as a relation, which shows both to a caller's proof
pub record WithSign (sign x r : ℤ) : Type 0 where
  pub is : r ≡ with_sign sign x

-- it is as large as x
pub as_large : {M : ℕ} {sign x r : ℤ} → WithSign sign x r → Within M x → Within M r
as_large {M} {sign} {x} w h = subst (Within M) (sym w.is) (either sign)
  where
    either : (sign : ℤ) → Within M (with_sign sign x)
    either (pos n) = h
    either (negsuc n) = within_minus x h

pub record Moderate (Z a b : ℤ) : Type 0 where
  pub rise : Within (2 ^ 28) Z
  pub start : Within (2 ^ 41) a
  pub end : Within (2 ^ 41) b

pub record Low (o a b : ℤ) : Type 0 where
  pub over : Within 3000000000 o
  pub start : Within 3000000000 a
  pub end : Within 3000000000 b
