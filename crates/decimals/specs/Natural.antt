-- A number of 64 bits that is not negative, cast to an unsigned one.
use Rattle.std.specs.Prelude.{◌≡◌, false, ℕ, T, ℤ, pos, negsuc, nat_abs}
use Rattle.std.proofs.Common.{subst, arith, Fits, SFits, to_z, of_z, to_z-of_z}
use Rattle.std.proofs.Math.Path.{subst⁻¹}
use Rattle.std.specs.Int.Signed.{lt_z, non_neg}
use Rattle.std.specs.Int.{w64}
use Rattle.std.proofs.Math.Facts.{Fits-nat_abs}

not_negative : (z : ℤ) → lt_z z (pos 0) ≡ false → T (non_neg z)
not_negative (pos n) e = tt
not_negative (negsuc n) e = let z : ◌≡◌ {A = ℕ} 0 1 = cc in absurd (omega arith)

-- the test is asked of the number behind its bits
pub fits_natural : (n : ℤ) → SFits w64 n → lt_z (to_z w64 (of_z w64 n)) (pos 0) ≡ false → T (non_neg (to_z w64 (of_z w64 n))) × Fits w64 (nat_abs (to_z w64 (of_z w64 n)))
fits_natural n f e =
    subst⁻¹ (λ (z : ℤ). T (non_neg z) × Fits w64 (nat_abs z)) (to_z-of_z f) (not_negative n (subst (λ (z : ℤ). lt_z z (pos 0) ≡ false) (to_z-of_z f) e), Fits-nat_abs tt f)
