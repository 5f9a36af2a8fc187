-- The tests are of piece i's width and of its rise.
use Rattle.std.proofs.Common.{rules}
use Rattle.integers.specs.Decided.{told, denied, asked, decided_alike}
use Rattle.rules.specs.Limits.{WidthWithin, RiseWithin}
use Rattle.table.specs.Pieces.{stepped}
use Rattle.table.proofs.within.one_after.Goals as goal

pub returns-then-width_within : goal.returns-then-width_within
returns-then-width_within c =
    let a = c.args in
    let width = asked WidthWithin (stepped a.knots.now a.change.point a.i (search rules) c.step.type_inv c.step.ensures) c.width_within.ensures in
    let rise = asked RiseWithin (stepped a.values.now a.change.point a.i (search rules) c.step-then-width_within.type_inv c.step-then-width_within.ensures) c.rise_within.ensures in
    decided_alike (λ r. record { width = told width c.if-width_within.true; rise = r }) (λ p. p.rise) rise

pub returns-else-width_within : goal.returns-else-width_within
returns-else-width_within c =
    let a = c.args in
    let width = asked WidthWithin (stepped a.knots.now a.change.point a.i (search rules) c.step.type_inv c.step.ensures) c.width_within.ensures in
    decided_alike (λ w. absurd (denied width c.if-width_within.false w)) (λ p. p.width) width
