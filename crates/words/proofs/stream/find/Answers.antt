-- The search walks a run of other bytes.
use Rattle.std.proofs.Common.{sym, ap, ◌∙◌, arith, eq-eqb}
use Rattle.std.specs.Prelude.{not}
use borrow.Author.Tests.{ne_eqb}
use Rattle.words.specs.Lines.{other}
use Rattle.words.specs.Runs.{run_out, run_stop, run_on}
use Rattle.words.proofs.stream.find.Goals as goal

pub returns-then-bytes-i : goal.returns-then-bytes-i
returns-then-bytes-i c = sym (c.loop-i.invariant ∙ run_stop _ _ _ c.loop-i-test.true (ap not (eq-eqb _ _ c.if-bytes-i.true)))

pub loop-i-preserved : goal.loop-i-preserved
loop-i-preserved c = c.loop-i.invariant ∙ run_on _ _ _ c.loop-i-test.true (ap not (ne_eqb _ _ c.if-bytes-i.false))

pub returns : goal.returns
returns c =
    let out = run_out (other c.args.byte) c.args.bytes.now in
    grind (arith, out c.args.from, out c.loop-i.i, c.loop-i.invariant)
