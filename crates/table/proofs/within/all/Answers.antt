-- What is counted of piece i is its faults.
use Rattle.std.specs.Prelude.{ℕ, eqb}
use Rattle.std.proofs.Common.{subst, arith}
use Rattle.std.specs.Int.{w64}
use Rattle.integers.specs.Promise.{Decided}
use Rattle.integers.specs.Decided.{asked}
use Rattle.integers.specs.Sizes.{returned}
use Rattle.rules.specs.Limits.{WidthWithin, RiseWithin}
use Rattle.table.specs.Pieces.{PiecesWithin, one_fault, at_most_one, no_faults, counted}
use Rattle.table.proofs.within.all.Goals as goal

pub loop-i-preserved : goal.loop-i-preserved
loop-i-preserved c =
    let width = one_fault c.fault-faults.ensures (asked WidthWithin (returned w64 c.step.type_inv c.step.ensures) c.width_within.ensures) in
    let rise = one_fault c.fault-faults-in-loop-i.ensures (asked RiseWithin (returned w64 c.step-in-loop-i.type_inv c.step-in-loop-i.ensures) c.rise_within.ensures) in
    record {
      few = omega (arith, c.loop-i.invariant.few, at_most_one c.width_within.result c.fault-faults.ensures, at_most_one c.rise_within.result c.fault-faults-in-loop-i.ensures);
      counted = counted c.loop-i.auto.i c.loop-i.invariant.counted width rise;
    }

pub returns : goal.returns
returns c =
    subst (λ (m : ℕ). Decided (PiecesWithin c.args.knots.now c.args.values.now c.args.from m) (eqb c.loop-i.faults 0)) {x = c.loop-i.i} {y = c.args.end} (omega arith) (no_faults c.loop-i.invariant.counted)
