-- Each turn is a law of `run_end`.
use Rattle.std.proofs.Common.{sym, ◌∙◌, arith}
use borrow.Author.Tests.{not-true, not-false}
use Rattle.words.specs.Words.{alike}
use Rattle.words.specs.Runs.{run_out, run_stop, run_on}
use Rattle.words.proofs.split.run.Goals as goal

pub returns-then-is_separator-blank : goal.returns-then-is_separator-blank
returns-then-is_separator-blank c =
    let e = c.is_separator.ensures in
    let stops = run_stop (alike c.args.blank) c.args.line.now c.loop-i.i c.loop-i-test.true (rw (← e) (not-true _ c.if-is_separator-blank.true)) in
    sym (c.loop-i.invariant ∙ stops)

pub loop-i-preserved : goal.loop-i-preserved
loop-i-preserved c =
    let e = c.is_separator.ensures in
    let goes_on = run_on (alike c.args.blank) c.args.line.now c.loop-i.i c.loop-i-test.true (rw (← e) (not-false _ c.if-is_separator-blank.false)) in
    c.loop-i.invariant ∙ goes_on

pub returns : goal.returns
returns c =
    let out = run_out (alike c.args.blank) c.args.line.now in
    grind (arith, out c.args.from, out c.loop-i.i, c.loop-i.invariant)
