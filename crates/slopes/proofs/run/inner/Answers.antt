-- What is written is the next slope, and the piece on its right is the next one's left.
use Rattle.std.specs.Prelude.{◌+◌, ◌-◌, List, ℤ, set}
use Rattle.std.proofs.Common.{refl, ◌∙◌, ap, ap₂, arith}
use Rattle.std.specs.Int.{w32}
use Rattle.integers.specs.Sizes.{returned}
use Rattle.cubic.specs.Slopes.{inner_slope}
use Rattle.table.specs.Table.{step}
use Rattle.slopes.specs.Slopes.{built_slope}
use Rattle.slopes.specs.Cases.{same_pieces, inner_slope_lem}
use Rattle.slopes.specs.Put.{put_next}
use Rattle.slopes.proofs.run.inner.Goals as goal

pub loop-i-preserved : goal.loop-i-preserved
loop-i-preserved c =
    let a = c.args in
    let ks = a.points.knots.now in
    let vs = a.points.values.now in
    let i = c.loop-i.i in
    let left = c.loop-i.invariant in
    let right = c.piece-right.ensures in
    record {
      h = right.h ∙ ap (step ks) {x = i} {y = i + 1 - 1} (omega arith);
      z = right.z ∙ ap (step vs) {x = i} {y = i + 1 - 1} (omega arith);
      slopes =
          ap₂ (λ (list : List ℤ) (m : ℤ). set list i m) left.slopes
          (returned w32 c.inner.type_inv c.inner.ensures
          ∙ same_pieces inner_slope {U = a.unit.size} refl left.h left.z right.h right.z
          ∙ inner_slope_lem a.unit.size ks vs i (omega arith) (omega arith))
          ∙ put_next (built_slope a.unit.size ks vs) 1 a.slopes.now i c.loop-i.auto.i;
    }
