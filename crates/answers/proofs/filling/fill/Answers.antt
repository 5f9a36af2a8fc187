-- `answers::filling::fill` meets its contract: a turn puts what stands for one more byte.
use Rattle.std.proofs.Common.{arith}
use Rattle.answers.specs.Places.{with_number, with_none, with_text, with_itself, filled_out, go_on, go_past}
use Rattle.answers.proofs.filling.fill.Goals as goal
use Rattle.answers.proofs.filling.fill.Goals.{in-35+in-Some, in-35+in_default-split_first, in-36, in_default}

pub loop-b-preserved : goal.loop-b-preserved
loop-b-preserved c =
    let template = c.args.template.now in
    let text = c.args.text.now in
    let numbers = c.loop-b.left.now in
    let i = c.loop-b.b-index in
    let h = c.loop-b-test.true in
    elim c.match-b.branch [
      | in-35+in-Some w ↦
          rw (w.into-is, w.n-is, w.left-is)
          (go_on c.loop-b.invariant (with_number template text numbers i h w.in-35.is w.in-Some.ensures.cases.0) w.append_signed-n.ensures)
      | in-35+in_default-split_first w ↦
          rw (w.into-is, w.n-is, w.left-is) (go_past c.loop-b.invariant (with_none template text numbers i h w.in-35.is w.in_default-split_first.ensures.cases))
      | in-36 w ↦ rw (w.into-is, w.n-is, w.left-is) (go_on c.loop-b.invariant (with_text template text numbers i h w.in-36.is) w.append-n.ensures)
      | in_default w ↦
          rw (w.into-is, w.n-is, w.left-is)
          (go_on c.loop-b.invariant (with_itself template text numbers i h (omega arith) (omega arith)) w.append-n-in_default.ensures)
    ]

pub returns : goal.returns
returns c =
    c.loop-b.invariant.ended
    (rw (filled_out c.args.template.now c.args.text.now c.loop-b.left.now c.loop-b.b-index (omega arith)) c.append.ensures)
