-- The two tests are the statement.
use Rattle.std.specs.Prelude.{[], ◌∷◌, ◌-◌, length}
use Rattle.std.proofs.Common.{rules}
use Rattle.std.specs.Int.{w32}
use Rattle.std.specs.Int.Signed.{clash_ℤ}
use Rattle.integers.specs.Promise.{fails}
use Rattle.integers.specs.Decided.{decided_by}
use Rattle.integers.specs.Sizes.{held}
use Rattle.integers.specs.Tests.{tests, passed, failed}
use Rattle.table.specs.Table.{entry}
use Rattle.position.proofs.within.Goals as goal

pub returns-then-knots-position : goal.returns-then-knots-position
returns-then-knots-position c =
    let at = held w32 c.args.position c.ranges.position in
    let first = held w32 (entry c.args.knots.now 0) (search rules) in
    let last = held w32 (entry c.args.knots.now (length c.args.knots.now - 1)) (search rules) in
    decided_by _ (λ e. record { low = passed (at ∷ first ∷ []) c.if-knots-position.true (search tests depth 30 fits 9000) tt; high = passed (at ∷ last ∷ []) e (search tests depth 30 fits 9000) tt })
    (λ e b. clash_ℤ (failed (at ∷ last ∷ []) e (search tests depth 30 fits 9000) tt) b.high)

pub returns-else-knots-position : goal.returns-else-knots-position
returns-else-knots-position c =
    let at = held w32 c.args.position c.ranges.position in
    let first = held w32 (entry c.args.knots.now 0) (search rules) in
    rw c.if-knots-position.false (fails (λ b. clash_ℤ (failed (at ∷ first ∷ []) c.if-knots-position.false (search tests depth 30 fits 9000) tt) b.low))
