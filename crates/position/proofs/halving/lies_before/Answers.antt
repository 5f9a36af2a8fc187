-- The test is the statement.
use Rattle.std.specs.Prelude.{[], ◌∷◌}
use Rattle.std.proofs.Common.{rules}
use Rattle.std.specs.Int.{w32}
use Rattle.std.specs.Int.Signed.{clash_ℤ}
use Rattle.integers.specs.Decided.{decided_by}
use Rattle.integers.specs.Sizes.{held}
use Rattle.integers.specs.Tests.{tests, passed, failed}
use Rattle.table.specs.Table.{entry}
use Rattle.position.proofs.halving.lies_before.Goals as goal

pub returns : goal.returns
returns c =
    let at = held w32 c.args.position c.ranges.position in
    let knot = held w32 (entry c.args.knots.now c.args.i) (search rules) in
    decided_by _ (λ e. passed (at ∷ knot ∷ []) e (search tests depth 30 fits 9000) tt) (λ e l. clash_ℤ l (failed (at ∷ knot ∷ []) e (search tests depth 30 fits 9000) tt))
