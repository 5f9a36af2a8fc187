-- Every piece is on one side of the changed point: the touched one by itself, and the others as they are.
use Rattle.std.specs.Prelude.{Bool, ◌-◌, length}
use Rattle.std.proofs.Common.{sym, ◌∙◌, subst, arith}
use Rattle.std.proofs.lemmas.Bool.{eqb-false}
use Rattle.integers.specs.Promise.{Decided, fails}
use Rattle.integers.specs.Decided.{told, denied, decided_by, decided_alike}
use Rattle.table.specs.Pieces.{PiecesAfter, no_pieces, fewer, joined, left_of_it, right_of_it}
use Rattle.table.proofs.within.all_after.Goals as goal
use Rattle.table.proofs.within.all_after.Goals.{Then-all, then-k-eq0, else-k-eq0+then-one_after, else-k-eq0+else-one_after}

-- where those on the left have been passed
left : (c : Then-all) → PiecesAfter c.args.change c.args.knots.now c.args.values.now 0 c.args.change.point
left c =
    let a = c.args in
    elim c.if-k-eq0.branch [
      | then-k-eq0 w ↦ no_pieces (omega (arith, w.if-k-eq0.true))
      | else-k-eq0+then-one_after w ↦
          told (left_of_it a.change a.knots.now a.values.now (omega (arith, w.if-k-eq0.false)) (told w.one_after.ensures w.if-one_after.true) w.all.ensures) (sym w.value-is ∙ c.if-all.true)
      | else-k-eq0+else-one_after w ↦ absurd (cc (w.if-one_after.false, w.value-is, c.if-all.true))
    ]

pub returns-then-k-last : goal.returns-then-k-last
returns-then-k-last c =
    decided_by _ (λ _. joined _ (left c.before) (no_pieces (omega (arith, c.if-k-last.true)))) (λ e _. eqb-false c.args.change.point (length c.args.knots.now - 1) e c.if-k-last.true)

pub returns-then-one_after-2 : goal.returns-then-one_after-2
returns-then-one_after-2 c =
    let a = c.args in
    decided_alike (joined _ (left c.before.before.before.before)) (fewer (omega arith) (omega arith))
    (right_of_it a.change a.knots.now a.values.now (told c.one_after-else-k-last.ensures c.if-one_after-2.true) c.all-then-one_after-2.ensures)

pub returns-else-one_after-2 : goal.returns-else-one_after-2
returns-else-one_after-2 c =
    decided_alike (λ w. absurd (denied c.one_after-else-k-last.ensures c.if-one_after-2.false w)) (λ p. p.each _ (omega arith) (omega (arith, c.if-k-last.false))) c.one_after-else-k-last.ensures

pub returns-else-all : goal.returns-else-all
returns-else-all c =
    let a = c.args in
    subst (λ (b : Bool). Decided (PiecesAfter a.change a.knots.now a.values.now 0 (length a.knots.now - 1)) b) (sym c.if-all.false)
    (fails (λ p. elim c.if-k-eq0.branch [
      | then-k-eq0 w ↦ eqb-false a.change.point 0 (sym w.value-is ∙ c.if-all.false) w.if-k-eq0.true
      | else-k-eq0+then-one_after w ↦
          denied (left_of_it a.change a.knots.now a.values.now (omega (arith, w.if-k-eq0.false)) (told w.one_after.ensures w.if-one_after.true) w.all.ensures) (sym w.value-is ∙ c.if-all.false) (fewer (omega arith) (omega arith) p)
      | else-k-eq0+else-one_after w ↦ denied w.one_after.ensures w.if-one_after.false (p.each _ (omega arith) (omega (arith, w.if-k-eq0.false)))
    ]))
