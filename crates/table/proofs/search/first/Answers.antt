-- What was found first is asked again behind its piece, for what comes before it alone.
use Rattle.std.specs.Prelude.{refl, ℕ, ◌+◌, ◌-◌, ◌≤◌, ◌<◌, length}
use Rattle.std.proofs.Common.{rules, arith, ap, sym, ◌∙◌, subst}
use Rattle.rules.specs.Causes.{number_of}
use Rattle.rules.specs.Refusals.{Given}
use Rattle.table.specs.Held.{held}
use Rattle.table.specs.Table.{Holds}
use Rattle.table.specs.Search.{fault_number, caused, one_less, the_first, asked, askable, numbers}
use Rattle.table.specs.Fault.{asked_there}
use Rattle.table.specs.Scan.{begins, goes_on, settles, none_before, none_behind, standing_there, found_within}
use Rattle.table.proofs.search.first.Goals as goal
use Rattle.table.proofs.search.first.Goals.{in-Some-before+in_default-scan, in_default-before}

pub returns-in_default : goal.returns-in_default
returns-in_default c =
    let H = Holds (asked c.args.change (held c.args.table)) in
    settles H (askable c.args.last).low (begins H c.in_default.ensures) (none_before H (λ (l : 3 < 0). omega arith))

pub loop-earlier-init : goal.loop-earlier-init
loop-earlier-init c = begins (Holds (asked c.args.change (held c.args.table))) c.in-Some.ensures

-- behind the piece that was found there is a point
there : (c : goal.After-struct_known-1) → c.loop-earlier.found.piece + 1 < length c.args.table.knots.now
there c =
    standing_there (Holds (asked c.args.change (held c.args.table))) (one_less c.loop-earlier.found.fault c.in-Some-before.earlier c.in-Some-before.ensures).0 c.loop-earlier.invariant _
    (λ d q a b. asked_there c.args.change (held c.args.table) d q a (omega (arith, b, (askable c.args.last).high)))

pub overflow_add-found : goal.overflow_add-found
overflow_add-found c = let l = there c in search rules

pub scan-requires-in-Some-before-clause-from_in_bounds : goal.scan-requires-in-Some-before-clause-from_in_bounds
scan-requires-in-Some-before-clause-from_in_bounds c = there c

pub loop-earlier-smaller : goal.loop-earlier-smaller
loop-earlier-smaller c =
    let d = one_less c.loop-earlier.found.fault c.in-Some-before.earlier c.in-Some-before.ensures in
    omega (arith, d.0, d.1, found_within (Holds (asked c.args.change (held c.args.table))) c.in-Some-scan.ensures)

pub loop-earlier-preserved : goal.loop-earlier-preserved
loop-earlier-preserved c =
    let d = one_less c.loop-earlier.found.fault c.in-Some-before.earlier c.in-Some-before.ensures in
    goes_on (Holds (asked c.args.change (held c.args.table))) d.0 (λ e. omega (arith, e, (askable c.in-Some-scan.nearer.fault).low)) c.loop-earlier.invariant (rw d.1 at c.in-Some-scan.ensures)

pub returns : goal.returns
returns c =
    let H = Holds (asked c.args.change (held c.args.table)) in
    let clear : (q : ℕ) → (d : ℕ) → 3 ≤ d → d ≤ fault_number c.loop-earlier.found.fault - 1 → H d q → ⊥ =
    elim c.match-before.branch [
      | in-Some-before+in_default-scan w ↦
          let d = one_less c.loop-earlier.found.fault w.in-Some-before.earlier w.in-Some-before.ensures in
          none_behind H d.0 refl c.loop-earlier.invariant (rw d.1 at w.in_default-scan.ensures)
      | in_default-before w ↦ none_before H (the_first c.loop-earlier.found.fault w.in_default-before.ensures)
    ] in
    subst (λ (n : ℕ). Given H (numbers 3 (fault_number c.args.last - 2)) n c.loop-earlier.found.piece) (sym (ap number_of c.cause.ensures ∙ caused c.loop-earlier.found.fault))
    (settles H (askable c.args.last).low c.loop-earlier.invariant clear)
