-- The pieces are asked where the outline has passed, and searched where one is not within the limits.
use Rattle.std.specs.Prelude.{refl, [], ◌∷◌}
use Rattle.std.proofs.Common.{arith}
use Rattle.std.proofs.lemmas.Result.{err_from_is_err_and}
use Rattle.integers.specs.Decided.{told}
use Rattle.rules.specs.Numbered.{never_0}
use Rattle.rules.specs.Order.{stopped, went_on}
use Rattle.table.specs.Accepted.{unit_asked, lengths_asked, count_asked}
use Rattle.table.specs.Pieces.{none_refused}
use Rattle.table.proofs.refusals.points.Goals as goal

pub returns-in_err-outline : goal.returns-in_err-outline
returns-in_err-outline c =
    let p = err_from_is_err_and c.from_residual.result c.from_residual.ensures.1 in
    rw (p.1, p.2) (stopped (3 ∷ 4 ∷ []) (never_0 c.in_err-outline.field-0.0.cause) c.in_err-outline.ensures)

pub overflow_sub-table : goal.overflow_sub-table
overflow_sub-table c = omega (arith, (count_asked refl c.in_ok-outline.ensures).low)

pub all-requires-clause-paired : goal.all-requires-clause-paired
all-requires-clause-paired c = record { lengths = (lengths_asked refl c.in_ok-outline.ensures).values; count = count_asked refl c.in_ok-outline.ensures }

pub all-requires-clause-from_le_end : goal.all-requires-clause-from_le_end
all-requires-clause-from_le_end c = (omega arith, omega (arith, (count_asked refl c.in_ok-outline.ensures).low))

pub returns-then-all : goal.returns-then-all
returns-then-all c = went_on refl c.in_ok-outline.ensures (none_refused (omega arith) (told c.all.ensures c.if-all.true))

pub first-requires-clause-unit_within : goal.first-requires-clause-unit_within
first-requires-clause-unit_within c = unit_asked refl c.in_ok-outline.ensures

pub first-requires-clause-same_lengths : goal.first-requires-clause-same_lengths
first-requires-clause-same_lengths c = lengths_asked refl c.in_ok-outline.ensures

pub first-requires-clause-knots_nonzero : goal.first-requires-clause-knots_nonzero
first-requires-clause-knots_nonzero c = omega (arith, (count_asked refl c.in_ok-outline.ensures).low)

pub returns : goal.returns
returns c = went_on refl c.in_ok-outline.ensures c.first.ensures
