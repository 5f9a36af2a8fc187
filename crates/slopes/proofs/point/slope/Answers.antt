-- The last point of three or more, and a point with another on either side.
use Rattle.std.proofs.Common.{refl, ◌∙◌, arith}
use Rattle.std.specs.Int.{w32}
use Rattle.integers.specs.Sizes.{returned}
use Rattle.cubic.specs.Slopes.{end_slope, inner_slope}
use Rattle.slopes.specs.Cases.{same_pieces, last_slope, inner_slope_lem}
use Rattle.slopes.proofs.point.slope.Goals as goal

pub returns-then-n-i-lt2 : goal.returns-then-n-i-lt2
returns-then-n-i-lt2 c =
    let a = c.args in
    let first = c.piece-then-n-i-lt2.ensures in
    let next = c.piece-then-n-i-lt2-2.ensures in
    returned w32 c.end-then-n-i-lt2.type_inv c.end-then-n-i-lt2.ensures
    ∙ same_pieces end_slope {U = a.unit.size} refl first.h first.z next.h next.z
    ∙ last_slope a.unit.size a.points.knots.now a.points.values.now a.i (omega arith) (omega arith)

pub returns : goal.returns
returns c =
    let a = c.args in
    let left = c.piece-2.ensures in
    let right = c.piece-3.ensures in
    returned w32 c.inner.type_inv c.inner.ensures
    ∙ same_pieces inner_slope {U = a.unit.size} refl left.h left.z right.h right.z
    ∙ inner_slope_lem a.unit.size a.points.knots.now a.points.values.now a.i (omega arith) (omega arith)
