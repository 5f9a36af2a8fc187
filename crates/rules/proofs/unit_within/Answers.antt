-- The test is the statement.
use Rattle.std.specs.Prelude.{◌<◌, ◌≤◌}
use Rattle.std.proofs.Common.{arith}
use borrow.Author.Tests.{leb-true, leb-false}
use Rattle.integers.specs.Decided.{decided_by}
use Rattle.rules.proofs.unit_within.Goals as goal

pub returns : goal.returns
returns c = decided_by _ (λ e. record { high = leb-true _ _ e }) (λ e b. omega (arith, leb-false _ _ e, b.high))
