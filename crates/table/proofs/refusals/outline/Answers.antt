-- Each cause is refused where its test fails, and the answer is none where all have passed.
use Rattle.std.proofs.Common.{arith}
use Rattle.integers.specs.Decided.{told, denied}
use Rattle.rules.specs.Refusals.{done, refused, passed}
use Rattle.table.specs.Table.{SameLengths, no_such_unit, lengths_differ, too_few_or_many}
use Rattle.table.specs.Accepted.{unit_passes, same_length_passes, count_passes}
use Rattle.table.proofs.refusals.outline.Goals as goal
use Rattle.table.proofs.refusals.outline.Goals.{then-table-n-via-then-table-n, then-table-n-via-else-table-n+then-table-n-2}

pub returns-then-not-unit_within : goal.returns-then-not-unit_within
returns-then-not-unit_within c =
    rw c.by.ensures (refused (no_such_unit (denied c.unit_within.ensures c.if-not-unit_within.true)) (λ _ l _. absurd (omega (arith, l))))

pub returns-then-table-n : goal.returns-then-table-n
returns-then-table-n c =
    let differ : SameLengths c.args.table.knots.now c.args.table.values.now c.args.table.slopes.now → ⊥ =
    elim c.then-table-n.branch [
      | then-table-n-via-then-table-n w ↦ λ s. w.if-table-n.true s.values
      | then-table-n-via-else-table-n+then-table-n-2 w ↦ λ s. w.if-table-n-2.true s.slopes
    ] in
    rw c.by-then-table-n.ensures
    (passed (unit_passes (told c.unit_within.ensures c.if-not-unit_within.false)) (refused (lengths_differ differ) (λ _ l _. absurd (omega (arith, l)))))

pub returns-then-not-count_within : goal.returns-then-not-count_within
returns-then-not-count_within c =
    rw c.by-then-not-count_within.ensures
    (passed (unit_passes (told c.unit_within.ensures c.if-not-unit_within.false))
    (passed (same_length_passes (record { values = c.if-table-n.false; slopes = c.if-table-n-2.false }))
    (refused (too_few_or_many (denied c.count_within.ensures c.if-not-count_within.true)) (λ _ l _. absurd (omega (arith, l))))))

pub returns : goal.returns
returns c =
    passed (unit_passes (told c.unit_within.ensures c.if-not-unit_within.false))
    (passed (same_length_passes (record { values = c.if-table-n.false; slopes = c.if-table-n-2.false })) (passed (count_passes (told c.count_within.ensures c.if-not-count_within.false)) done))
