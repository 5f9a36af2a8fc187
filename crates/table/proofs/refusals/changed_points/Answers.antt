-- Each part of the order is asked where the parts before it have passed.
use Rattle.std.specs.Prelude.{◌≡◌, refl, [], ◌∷◌}
use Rattle.std.proofs.Common.{arith, length-set}
use Rattle.std.proofs.lemmas.Result.{err_from_is_err_and}
use Rattle.integers.specs.Decided.{told}
use Rattle.rules.specs.Numbered.{never_0}
use Rattle.rules.specs.Order.{stopped, went_on}
use Rattle.table.specs.Held.{held}
use Rattle.table.specs.Accepted.{unit_asked, lengths_asked, count_asked}
use Rattle.table.specs.AfterChange.{as_outlined, as_stepped, refused_nowhere, taken_there}
use Rattle.table.specs.Pieces.{none_refused}
use Rattle.table.proofs.refusals.changed_points.Goals as goal

pub returns-in_err-outline : goal.returns-in_err-outline
returns-in_err-outline c =
    let p = err_from_is_err_and c.from_residual.result c.from_residual.ensures.1 in
    rw (p.1, p.2) (stopped (7 ∷ 3 ∷ 4 ∷ []) (never_0 c.in_err-outline.field-0.0.cause) (as_outlined c.args.change _ c.in_err-outline.ensures))

pub returns-then-table-change : goal.returns-then-table-change
returns-then-table-change c =
    rw c.by.ensures
    (went_on refl (as_outlined c.args.change _ c.in_ok-outline.ensures) (stopped (3 ∷ 4 ∷ []) {n = 7} (λ (e : 7 ≡ 0). omega arith) (refused_nowhere c.args.change (held c.args.table) c.if-table-change.true)))

pub all_after-requires-clause-paired : goal.all_after-requires-clause-paired
all_after-requires-clause-paired c = record { lengths = (lengths_asked refl c.in_ok-outline.ensures).values; count = count_asked refl c.in_ok-outline.ensures }

pub returns-then-all_after : goal.returns-then-all_after
returns-then-all_after c =
    let change = c.args.change in
    let knots = c.args.table.knots.now in
    went_on refl (as_outlined change _ c.in_ok-outline.ensures)
    (went_on refl (taken_there change _ c.if-table-change.false) (as_stepped change _ (none_refused (omega (arith, length-set knots change.point change.knot)) (told c.all_after.ensures c.if-all_after.true))))

pub first-requires-clause-unit_within : goal.first-requires-clause-unit_within
first-requires-clause-unit_within c = unit_asked refl c.in_ok-outline.ensures

pub first-requires-clause-same_lengths : goal.first-requires-clause-same_lengths
first-requires-clause-same_lengths c = lengths_asked refl c.in_ok-outline.ensures

pub returns : goal.returns
returns c =
    let change = c.args.change in
    went_on refl (as_outlined change _ c.in_ok-outline.ensures) (went_on refl (taken_there change _ c.if-table-change.false) (as_stepped change _ c.first.ensures))
