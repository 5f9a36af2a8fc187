-- What is found of a piece is found of the table that is asked.
use Rattle.std.specs.Prelude.{refl, ℕ, ◌+◌, ◌≤◌, ◌<◌, length}
use Rattle.std.proofs.Common.{arith, below_more}
use Rattle.table.specs.Held.{held}
use Rattle.table.specs.Table.{Holds}
use Rattle.table.specs.Search.{fault_number, asked, askable, SoundAt, is_sound}
use Rattle.table.specs.Fault.{asked_there, fault_between}
use Rattle.table.specs.Scan.{nothing_there, fault_there}
use Rattle.table.proofs.search.scan.Goals as goal

pub returns-then-table-i-lt2 : goal.returns-then-table-i-lt2
returns-then-table-i-lt2 c =
    let t = held c.args.table in
    nothing_there (Holds (asked c.args.change t)) c.loop-i.invariant.sound _ (λ d q a b. asked_there c.args.change t d q a (omega (arith, b, (askable c.args.last).high))) (omega (arith, c.if-table-i-lt2.true))

pub loop-i-preserved : goal.loop-i-preserved
loop-i-preserved c =
    let t = held c.args.table in
    let there : c.loop-i.i + 1 < length c.args.table.knots.now = omega (arith, c.loop-i.invariant.there, c.if-table-i-lt2.false) in
    let sound =
    fault_between c.args.change t (askable c.args.last) there c.unit-unit.ensures c.loop-i.invariant.end_is c.end_at-right.ensures c.in_default.ensures in
    record {
      there = there;
      behind = omega (arith, c.loop-i.invariant.behind);
      end_is = c.end_at-right.ensures;
      sound = below_more (λ (q : ℕ). c.args.from ≤ q → SoundAt (Holds (asked c.args.change t)) (fault_number c.args.last) q) _ c.loop-i.invariant.sound (λ _. is_sound _ refl sound);
    }

pub returns : goal.returns
returns c =
    let t = held c.args.table in
    let found =
    fault_between c.args.change t (askable c.args.last) (omega (arith, c.loop-i.invariant.there, c.if-table-i-lt2.false)) c.unit-unit.ensures c.loop-i.invariant.end_is c.end_at-right.ensures c.in-Some.ensures in
    fault_there (Holds (asked c.args.change t)) c.loop-i.invariant.sound (λ e. omega (arith, e, (askable c.in-Some.fault).low)) c.loop-i.invariant.behind found
