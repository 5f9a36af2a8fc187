-- Whether a number of points is within its limits, from the test of the lower one: what `count_within` answers on either side of it.
use Rattle.std.specs.Prelude.{ℕ, ◌<◌, ◌≤◌, leb, false}
use Rattle.std.proofs.Common.{arith}
use borrow.Author.Tests.{leb-true, leb-false}
use Rattle.integers.specs.Promise.{Decided, fails}
use Rattle.integers.specs.Decided.{decided_by}
use Rattle.rules.specs.Limits.{CountWithin}

pub too_few : {n : ℕ} → n < 2 → Decided (CountWithin n) false
too_few l = fails (λ b. omega (arith, l, b.low))

pub if_not_too_many : {n : ℕ} → 2 ≤ n → Decided (CountWithin n) (leb n 1024)
if_not_too_many {n} l = decided_by (leb n 1024) (λ e. record { low = l; high = leb-true _ _ e }) (λ e b. clash (leb-false _ _ e) b.high)
  where
    clash : {m n : ℕ} → m < n → n ≤ m → ⊥
    clash l h = omega arith
