-- What is written is the next slope, and the last when the loop ends.
use Rattle.std.specs.Prelude.{List, ℤ, set}
use Rattle.std.proofs.Common.{◌∙◌, ap₂}
use Rattle.std.specs.Int.{w32}
use Rattle.integers.specs.Sizes.{returned}
use Rattle.slopes.specs.Slopes.{built_slope}
use Rattle.slopes.specs.Put.{put_next}
use Rattle.slopes.proofs.point.renew.Goals as goal

pub loop-i-preserved : goal.loop-i-preserved
loop-i-preserved c =
    let a = c.args in
    ap₂ (λ (list : List ℤ) (m : ℤ). set list c.loop-i.i m) c.loop-i.invariant (returned w32 c.slope.type_inv c.slope.ensures)
    ∙ put_next (built_slope a.unit.size a.points.knots.now a.points.values.now) a.from a.slopes.now c.loop-i.i c.loop-i.auto.i
