-- `lists::row::append_row` meets its contract: a turn appends one more number, behind a space unless it is the first.
use Rattle.std.proofs.Common.{rules, subst, ◌<◌, List, ℕ, pos, FitsSigned, w32, arith, length, get_or}
use Rattle.std.proofs.lemmas.Int.{to_z-of_z}
use Rattle.words.specs.Lines.{Appended}
use Rattle.words.specs.Joining.{both}
use Rattle.lists.specs.Lists.{spaced}
use Rattle.lists.specs.Rows.{nothing_yet, row_first, row_next}
use Rattle.lists.proofs.row.append_row.Goals as goal
use Rattle.lists.proofs.row.append_row.Goals.{then-i-gt0, else-i-gt0}

pub loop-i-init : goal.loop-i-init
unfolding spaced
loop-i-init c = nothing_yet _ _ _ c.min-n.ensures

pub loop-i-preserved : goal.loop-i-preserved
loop-i-preserved c =
    let list = c.args.list.now in
    let i = c.loop-i.i in
    let r = c.append_whole32-n in
    let on : i < length list = omega arith in
    let fits : FitsSigned w32 (get_or list i (pos 0)) = search rules in
    let number = simp to_z-of_z at r.ensures in
    elim c.if-i-gt0.branch [
      | then-i-gt0 w ↦
          subst (λ (l : List ℕ). Appended c.args.into.now c.args.held l r.new.into r.result) (row_next list i w.if-i-gt0.true on)
          (both (both c.loop-i.invariant w.append-n.ensures) (rw (w.into-is, w.n-is) at number))
      | else-i-gt0 w ↦
          subst (λ (l : List ℕ). Appended c.args.into.now c.args.held l r.new.into r.result) (row_first list i w.if-i-gt0.false on)
          (both c.loop-i.invariant (rw (w.into-is, w.n-is) at number))
    ]
