-- A piece is looked for where the position lies within the knots.
use Rattle.std.specs.Prelude.{ℤ}
use Rattle.std.proofs.Common.{sym, subst, to_z-of_z}
use Rattle.integers.specs.Decided.{told, denied}
use Rattle.position.specs.Halving.{ten_halvings}
use Rattle.position.specs.Position.{WithinKnots}
use Rattle.position.specs.Spot.{SpotOn, outside, on}
use Rattle.position.proofs.seek.Goals as goal

pub piece-piece-requires-clause-knots_bound : goal.piece-piece-requires-clause-knots_bound
piece-piece-requires-clause-knots_bound c = ten_halvings c.args.points.within

pub piece-piece-requires-clause-within_knots : goal.piece-piece-requires-clause-within_knots
piece-piece-requires-clause-within_knots c = told c.within.ensures c.if-within.true

pub returns-then-within : goal.returns-then-within
returns-then-within c =
    let p = c.args.points in
    let r = c.spot_on.result in
    on (subst (WithinKnots p.knots.now) (to_z-of_z c.ranges.position) (told c.within.ensures c.if-within.true))
    (subst (λ (x : ℤ). SpotOn p.knots.now p.values.now c.args.slopes.now r.piece x r.left r.h r.z r.m r.n r.t) (to_z-of_z c.ranges.position) c.spot_on.ensures)

pub returns-else-within : goal.returns-else-within
returns-else-within c =
    outside (λ w. denied c.within.ensures c.if-within.false (subst (WithinKnots c.args.points.knots.now) (sym (to_z-of_z c.ranges.position)) w))
