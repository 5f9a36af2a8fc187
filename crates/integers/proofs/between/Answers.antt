-- Both tests are the statement.
use Rattle.std.specs.Prelude.{[], ◌∷◌}
use Rattle.std.specs.Int.{w64}
use Rattle.std.specs.Int.Signed.{clash_ℤ}
use Rattle.integers.specs.Decided.{decided_by}
use Rattle.integers.specs.Sizes.{held}
use Rattle.integers.specs.Tests.{tests, passed, failed}
use Rattle.integers.proofs.between.Goals as goal

pub returns-then-low-x : goal.returns-then-low-x
returns-then-low-x c =
    let Γ = held w64 c.args.low c.ranges.low ∷ held w64 c.args.x c.ranges.x ∷ held w64 c.args.high c.ranges.high ∷ [] in
    decided_by _
    (λ e. record { low = passed Γ c.if-low-x.true (search tests depth 30 fits 9000) tt; high = passed Γ e (search tests depth 30 fits 9000) tt })
    (λ e b. clash_ℤ (failed Γ e (search tests depth 30 fits 9000) tt) b.high)

pub returns-else-low-x : goal.returns-else-low-x
returns-else-low-x c =
    let Γ = held w64 c.args.low c.ranges.low ∷ held w64 c.args.x c.ranges.x ∷ held w64 c.args.high c.ranges.high ∷ [] in
    decided_by _ (λ e. absurd cc) (λ e b. clash_ℤ (failed Γ e (search tests depth 30 fits 9000) tt) b.low)
