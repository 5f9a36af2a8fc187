-- Every piece has a verdict: the promise of `judge` is not empty.
use Rattle.std.proofs.Common.{⊎_elim}
use Rattle.std.specs.Prelude.{ℕ, zero, suc, ℤ, pos, negsuc, Result, Ok, Err}
use Rattle.integers.specs.Decided.{between_or_not}
use Rattle.cubic.proofs.Decided.{monotone_or_not}
use Rattle.rules.specs.Limits.{unit, UnitWithin, WidthWithin, RiseWithin}
use Rattle.rules.specs.Found.{unit_or_not}
use Rattle.piece.specs.Promise.{ruling, none, ruling_of, leaning, Judged, unit_refused, width_refused, rise_refused, monotone, bent}
use Rattle.piece.specs.declared.Verdict.{Verdict}
use Rattle.piece.specs.declared.Verdict.TheVariants.{Rising, Falling, Flat, Bends}
use Rattle.rules.specs.declared.Cause.{Cause}
use Rattle.rules.specs.declared.Cause.TheVariants.{SlopeUnit, Width, Rise}
use Rattle.rules.specs.declared.Refused.{Refused}
use Rattle.rules.specs.Causes.{number_of, at_place_0}

pub record SomeVerdict (s : ℕ) (h z m n : ℤ) : Type 0 where
  pub verdict : Result Verdict Refused
  pub judged : Judged s h z m n (ruling_of verdict)

-- a monotone one is called by the sign of its rise
called : {s : ℕ} {h m n : ℤ} (z : ℤ) → Judged s h z m n (ruling 0 0 (leaning z)) → SomeVerdict s h z m n
called (pos zero) j = record { verdict = Ok Flat; judged = j }
called (pos (suc k)) j = record { verdict = Ok Rising; judged = j }
called (negsuc k) j = record { verdict = Ok Falling; judged = j }

pub every_piece_has_a_verdict : (s : ℕ) (h z m n : ℤ) → SomeVerdict s h z m n
every_piece_has_a_verdict s h z m n = ⊎_elim unit_taken (λ f. refused_by SlopeUnit (unit_refused f)) (unit_or_not s)
  where
    refused_by : (c : Cause) → Judged s h z m n (ruling (number_of c) 0 none) → SomeVerdict s h z m n
    refused_by c j = record { verdict = Err (at_place_0 c); judged = j }

    rise_taken : UnitWithin s → WidthWithin h → RiseWithin z → SomeVerdict s h z m n
    rise_taken u w r = ⊎_elim (λ o. called z (monotone u w r o)) (λ f. record { verdict = Ok Bends; judged = bent u w r f }) (monotone_or_not (unit s) h z m n)

    width_taken : UnitWithin s → WidthWithin h → SomeVerdict s h z m n
    width_taken u w = ⊎_elim (rise_taken u w) (λ f. refused_by Rise (rise_refused u w f)) (between_or_not _ z _)

    unit_taken : UnitWithin s → SomeVerdict s h z m n
    unit_taken u = ⊎_elim (width_taken u) (λ f. refused_by Width (width_refused u f)) (between_or_not _ h _)
