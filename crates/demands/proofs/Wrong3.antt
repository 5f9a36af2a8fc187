-- Wrong programs that break the third demand, each ours but for what is said of it. Between quotation marks are the words in which document 01 names it.
use Rattle.std.specs.Prelude.{◌≡◌, refl, List, [], ◌∷◌, ◌++◌, ℕ, zero, suc, ◌+◌, ◌-◌, min, ℤ, pos, length, set}
use Rattle.std.proofs.Common.{ap, inr, ⊎_elim, arith, lit<, lit≤}
use Rattle.std.specs.Int.Signed.{lt_z_yes}
use Rattle.rules.specs.Limits.{unit}
use Rattle.table.specs.declared.changed.Change.{Change}
use Rattle.table.specs.Table.{Table, table, entry}
use Rattle.table.specs.Tested.{points_by_test}
use Rattle.table.specs.WouldBe.{changed_by}
use Rattle.slopes.specs.Slopes.{built_slopes}
use Rattle.slopes.specs.Put.{put}
use Rattle.change.specs.Change.{Renews, before_it, at_it, behind_it, slope_0, the_last, Changed}
use Rattle.change.specs.Figures.{made, point_1_moved_onto_point_2}
use Rattle.demands.specs.Demands.{build, Call, Outcome, none, next, JustThis, Demand3}
use Rattle.demands.proofs.SixteenGiven.{eighth, count, has_slopes}
use Rattle.demands.specs.Refuting.{numbers_differ}
use Rattle.demands.proofs.Programs.{outcome, may, answering, another_point, four, four_built, lowering, lowered, lowered_within, is_lowered, lowered_built}

-- A change that refuses as ours does, and where it does not leaves something in place of what ours leaves; it may go by the changes made before.
abbrev pub when_done : ℕ → (old new : Table) → Table
when_done zero old new = new
when_done (suc number) old new = old

abbrev pub leaving : (List Change → Change → (before ours : Table) → Table) → (call : Call) → Outcome call → Type 0
leaving left = another_point (λ made c t o. (u : Table) × (Changed c t u o.number o.place × (o.lists ≡ when_done o.number t (left made c t u))))

-- what it leaves of an accepted change is to be just this
to_be : (left : List Change → Change → (before ours : Table) → Table) → Demand3 (answering (leaving left)) → (made : List Change) (c : Change) (t : Table) {u : Table} → Changed c t u 0 0 → JustThis c t (left made c t u)
to_be left d made c t {u} changed = d.each_accepted_change_does_just_this {made = made} {c = c} {t = t} {o = outcome 0 0 tt (left made c t u)} (u, (changed, refl)) refl

-- ---- changes of (0,0), (1,1), (2,4), (3,7)

-- point 1 raised to (1,2), point 2 lowered to (2,2), and point 3 moved to (4,7)
abbrev raising : Change
raising = record { point = 1; knot = pos 1; value = pos 2 }

abbrev raised : Table
raised = table 8 four.knots (pos 0 ∷ pos 2 ∷ pos 4 ∷ pos 7 ∷ []) (pos 512 ∷ pos 512 ∷ pos 614 ∷ pos 896 ∷ [])

is_raised : Changed raising four raised 0 0
is_raised = made raising four eighth (lit< tt) refl (points_by_test _ _ refl (count tt tt) tt)

abbrev sinking : Change
sinking = record { point = 2; knot = pos 2; value = pos 2 }

abbrev sunk : Table
sunk = table 8 four.knots (pos 0 ∷ pos 1 ∷ pos 2 ∷ pos 7 ∷ []) (pos 256 ∷ pos 256 ∷ pos 426 ∷ pos 1792 ∷ [])

is_sunk : Changed sinking four sunk 0 0
is_sunk = made sinking four eighth (lit< tt) refl (points_by_test _ _ refl (count tt tt) tt)

abbrev moving : Change
moving = record { point = 3; knot = pos 4; value = pos 7 }

abbrev moved : Table
moved = table 8 (pos 0 ∷ pos 1 ∷ pos 2 ∷ pos 4 ∷ []) four.values (pos 0 ∷ pos 384 ∷ pos 531 ∷ pos 128 ∷ [])

is_moved : Changed moving four moved 0 0
is_moved = made moving four eighth (lit< tt) refl (points_by_test _ _ refl (count tt tt) tt)

-- ======== "Each accepted change puts the new knot and value at that point, renews the slopes at it and beside it, and touches nothing else."

-- "a change that writes nothing and reports 0 (demand 3, over demand 2's slopes)"
abbrev pub nothing : List Change → Change → (before ours : Table) → Table
nothing made c t u = t

pub a_change_that_writes_nothing_and_reports_0 : Demand3 (answering (leaving nothing)) → ⊥
a_change_that_writes_nothing_and_reports_0 d = numbers_differ tt (to_be nothing d [] lowering four is_lowered).value

-- "a chain of changes right at its first .. and idle afterwards"
abbrev pub only_the_first : List Change → Change → (before ours : Table) → Table
only_the_first [] c t u = u
only_the_first (before ∷ made) c t u = t

pub a_chain_idle_after_its_first_change : Demand3 (answering (leaving only_the_first)) → ⊥
a_chain_idle_after_its_first_change d = numbers_differ tt (to_be only_the_first d (moving ∷ []) lowering four is_lowered).value

abbrev pub the_old_knot : List Change → Change → (before ours : Table) → Table
the_old_knot made c t u = table u.s t.knots u.values u.slopes

pub a_knot_that_is_not_put : Demand3 (answering (leaving the_old_knot)) → ⊥
a_knot_that_is_not_put d = numbers_differ tt (to_be the_old_knot d [] moving four is_moved).knot

-- "After a change, renewing only the slope of the changed point."
abbrev pub its_slope_alone : List Change → Change → (before ours : Table) → Table
its_slope_alone made c t u = table u.s u.knots u.values (set t.slopes c.point (entry u.slopes c.point))

pub only_the_changed_points_slope_renewed : Demand3 (answering (leaving its_slope_alone)) → ⊥
only_the_changed_points_slope_renewed d = ((((to_be its_slope_alone d [] lowering four is_lowered).the_renewed_slopes 1 (lit< tt) (behind_it refl)).inner 0 refl (lit< tt)).size (lt_z_yes tt)).high.lt

abbrev pub the_old_slope_before_it : List Change → Change → (before ours : Table) → Table
the_old_slope_before_it made c t u = table u.s u.knots u.values (set u.slopes (c.point - 1) (entry t.slopes (c.point - 1)))

pub the_slope_before_it_not_renewed : Demand3 (answering (leaving the_old_slope_before_it)) → ⊥
the_slope_before_it_not_renewed d = ((((to_be the_old_slope_before_it d [] raising four is_raised).the_renewed_slopes 0 (lit< tt) (before_it refl)).first refl (lit< tt)).otherwise (lt_z_yes tt) (λ l. absurd l.lt)).size.high.lt

abbrev pub the_last_knot_too : List Change → Change → (before ours : Table) → Table
the_last_knot_too made c t u = table u.s (set u.knots 3 (pos 9)) u.values u.slopes

pub another_knot_moved : Demand3 (answering (leaving the_last_knot_too)) → ⊥
another_knot_moved d = numbers_differ tt ((to_be the_last_knot_too d [] lowering four is_lowered).other_knots 3 (λ e. omega (arith, e)))

abbrev pub the_last_value_too : List Change → Change → (before ours : Table) → Table
the_last_value_too made c t u = table u.s u.knots (set u.values 3 (pos 9)) u.slopes

pub another_value_changed : Demand3 (answering (leaving the_last_value_too)) → ⊥
another_value_changed d = numbers_differ tt ((to_be the_last_value_too d [] lowering four is_lowered).other_values 3 (λ e. omega (arith, e)))

-- the slope of the changed point renewed in 1/256: where (0,0), (1,1), (2,4), (3,7) have the whole slopes 0, 1, 3, 3 and point 0 is lowered to −2, it is then 768, and not 3
abbrev pub its_slope_in_256ths : List Change → Change → (before ours : Table) → Table
its_slope_in_256ths made c t u = table u.s u.knots u.values (set u.slopes c.point (entry (built_slopes (pos 256) u.knots u.values) c.point))

pub a_slope_renewed_in_256ths : Demand3 (answering (leaving its_slope_in_256ths)) → ⊥
a_slope_renewed_in_256ths d =
    ((((to_be its_slope_in_256ths d [] lowering whole_four changed).the_renewed_slopes 0 (lit< tt) (at_it refl)).first refl (lit< tt)).otherwise (lt_z_yes tt) (λ l. absurd l.lt)).size.low.le
  where
    whole_four : Table
    whole_four = table 0 four.knots four.values (pos 0 ∷ pos 1 ∷ pos 3 ∷ pos 3 ∷ [])

    changed : Changed lowering whole_four (table 0 lowered.knots lowered.values (pos 3 ∷ pos 3 ∷ pos 3 ∷ pos 3 ∷ [])) 0 0
    changed = made lowering whole_four (record { high = lit≤ tt }) (lit< tt) refl lowered_within

-- the table said to be in another unit from then on
abbrev pub the_next_unit : List Change → Change → (before ours : Table) → Table
the_next_unit made c t u = table (suc u.s) u.knots u.values u.slopes

pub another_unit_left : Demand3 (answering (leaving the_next_unit)) → ⊥
another_unit_left d = absurd (omega (arith, (to_be the_next_unit d [] lowering four is_lowered).the_same_unit))

-- a build in place of a change, where the last slope, 1, is somebody else's
abbrev pub every_slope : List Change → Change → (before ours : Table) → Table
every_slope made c t u = table u.s u.knots u.values (built_slopes (unit u.s) u.knots u.values)

pub every_slope_renewed : Demand3 (answering (leaving every_slope)) → ⊥
every_slope_renewed d = numbers_differ tt ((to_be every_slope d [] lowering foreign changed).other_slopes 3 (lit< tt) not_that_one)
  where
    not_that_one : Renews 4 0 3 → ⊥
    not_that_one (before_it e) = absurd (omega (arith, e))
    not_that_one (at_it e) = absurd (omega (arith, e))
    not_that_one (behind_it e) = absurd (omega (arith, e))
    not_that_one (slope_0 e f) = absurd (omega (arith, e))
    not_that_one (the_last e f) = absurd (omega (arith, e))

    foreign : Table
    foreign = table 8 four.knots four.values (pos 0 ∷ pos 384 ∷ pos 768 ∷ pos 1 ∷ [])

    changed : Changed lowering foreign (table 8 lowered.knots lowered.values (pos 768 ∷ pos 768 ∷ pos 768 ∷ pos 1 ∷ [])) 0 0
    changed = made lowering foreign eighth (lit< tt) refl lowered_within

-- a list that becomes longer
abbrev one_more : List ℤ → List ℤ
one_more list = list ++ pos 9 ∷ []

abbrev pub one_more_knot : List Change → Change → (before ours : Table) → Table
one_more_knot made c t u = table u.s (one_more u.knots) u.values u.slopes

pub a_knot_added : Demand3 (answering (leaving one_more_knot)) → ⊥
a_knot_added d = absurd (omega (arith, (to_be one_more_knot d [] lowering four is_lowered).as_many_knots))

abbrev pub one_more_value : List Change → Change → (before ours : Table) → Table
one_more_value made c t u = table u.s u.knots (one_more u.values) u.slopes

pub a_value_added : Demand3 (answering (leaving one_more_value)) → ⊥
a_value_added d = absurd (omega (arith, (to_be one_more_value d [] lowering four is_lowered).as_many_values))

abbrev pub one_more_slope : List Change → Change → (before ours : Table) → Table
one_more_slope made c t u = table u.s u.knots u.values (one_more u.slopes)

pub a_slope_added : Demand3 (answering (leaving one_more_slope)) → ⊥
a_slope_added d = absurd (omega (arith, (to_be one_more_slope d [] lowering four is_lowered).as_many_slopes))

-- ======== "a change of point 2 also renews slope 0, and a change of the third point from the end also renews the last slope"

-- a change that renews the slopes at the point and beside it alone, as it was right until request 2: of point 2 it leaves slope 0, and of point 1, the third of four from the end, the last
abbrev pub these_three_alone : List Change → Change → (before ours : Table) → Table
these_three_alone made c t u = table u.s u.knots u.values (put (entry u.slopes) (c.point - 1) (min (c.point + 2) (length t.slopes) - (c.point - 1)) t.slopes)

pub slope_0_left_by_a_change_of_point_2 : Demand3 (answering (leaving these_three_alone)) → ⊥
slope_0_left_by_a_change_of_point_2 d = ((((to_be these_three_alone d [] sinking four is_sunk).the_renewed_slopes 0 (lit< tt) (slope_0 refl refl)).first refl (lit< tt)).otherwise (lt_z_yes tt) (λ l. absurd l.lt)).size.high.lt

pub the_last_slope_left_by_a_change_of_the_third_point_from_the_end : Demand3 (answering (leaving these_three_alone)) → ⊥
the_last_slope_left_by_a_change_of_the_third_point_from_the_end d =
    ((((to_be these_three_alone d [] raising four is_raised).the_renewed_slopes 3 (lit< tt) (the_last refl refl)).last 1 refl refl).otherwise (lt_z_yes tt) (λ l. absurd l.lt)).size.high.lt

-- ======== "the slopes then equal those built afresh from the points as they stand"

-- renewing only the slope of the changed point again: a build, that change, and a build of the points as they then stand
pub slopes_that_are_not_those_built_afresh : Demand3 (answering (leaving its_slope_alone)) → ⊥
slopes_that_are_not_those_built_afresh d =
    let left = its_slope_alone [] lowering four lowered in
    numbers_differ tt (ap (λ (slopes : List ℤ). entry slopes 1) (d.the_slopes_equal_those_built_afresh {t = four} {o = outcome 0 0 tt four.slopes} {changes = lowering ∷ []} {u = left} {again = four.slopes} {p = outcome 0 0 tt lowered.slopes}
    (may (build four) (outcome 0 0 tt four.slopes) (four_built four.slopes refl)) refl (next {o = outcome 0 0 tt left} (lowered, (is_lowered, refl)) none) refl (may (build (table left.s left.knots left.values four.slopes)) (outcome 0 0 tt lowered.slopes) (lowered_built four.slopes refl))).1)

-- renewing the slopes at it and beside it alone
pub slopes_at_the_ends_that_are_not_those_built_afresh : Demand3 (answering (leaving these_three_alone)) → ⊥
slopes_at_the_ends_that_are_not_those_built_afresh d =
    let left = these_three_alone [] sinking four sunk in
    numbers_differ tt (ap (λ (slopes : List ℤ). entry slopes 0) (d.the_slopes_equal_those_built_afresh {t = four} {o = outcome 0 0 tt four.slopes} {changes = sinking ∷ []} {u = left} {again = four.slopes} {p = outcome 0 0 tt sunk.slopes}
    (may (build four) (outcome 0 0 tt four.slopes) (four_built four.slopes refl)) refl (next {o = outcome 0 0 tt left} (sunk, (is_sunk, refl)) none) refl (may (build (table left.s left.knots left.values four.slopes)) (outcome 0 0 tt sunk.slopes) (has_slopes eighth (points_by_test _ _ refl (count tt tt) tt) refl refl))).1)

-- the same from the second change on: the first, of point 1 onto point 2, is refused
abbrev pub from_the_second_on : List Change → Change → (before ours : Table) → Table
from_the_second_on [] c t u = u
from_the_second_on (before ∷ made) c t u = its_slope_alone made c t u

pub a_chain_wrong_from_its_second_change_on : Demand3 (answering (leaving from_the_second_on)) → ⊥
a_chain_wrong_from_its_second_change_on d =
    let onto_the_next : Change = record { point = 1; knot = pos 2; value = pos 1 } in
    let left = its_slope_alone [] lowering four lowered in
    numbers_differ tt (ap (λ (slopes : List ℤ). entry slopes 1) (d.the_slopes_equal_those_built_afresh {t = four} {o = outcome 0 0 tt four.slopes} {changes = onto_the_next ∷ lowering ∷ []} {u = left} {again = four.slopes} {p = outcome 0 0 tt lowered.slopes}
    (may (build four) (outcome 0 0 tt four.slopes) (four_built four.slopes refl)) refl (next {o = outcome 3 1 tt four} (four, (point_1_moved_onto_point_2, refl)) (next {o = outcome 0 0 tt left} (lowered, (is_lowered, refl)) none)) refl (may (build (table left.s left.knots left.values four.slopes)) (outcome 0 0 tt lowered.slopes) (lowered_built four.slopes refl))).1)

-- ======== "It is refused exactly when a fresh build of the changed points would be, or the point isn't there."

-- "a .. change that always refuses (.. for changes also demand 3's last sentence)"
pub a_change_that_always_refuses : Demand3 (answering (another_point (λ made c t o. o ≡ outcome 7 0 tt t))) → ⊥
a_change_that_always_refuses d =
    ⊎_elim (λ f. f refl) (λ l. omega (arith, l))
    ((d.refused_exactly_as_a_build {made = []} {c = lowering} {t = four} {o = outcome 7 0 tt four} {p = outcome 0 0 tt lowered.slopes} refl (may (build (table four.s lowered.knots lowered.values four.slopes)) (outcome 0 0 tt lowered.slopes) (lowered_built four.slopes refl))).0 (λ e. omega (arith, e)))

-- a point that isn't there, number 4, is changed all the same
pub a_change_that_never_refuses : Demand3 (answering (another_point (λ made c t o. o ≡ outcome 0 0 tt (changed_by c t)))) → ⊥
a_change_that_never_refuses d =
    let nowhere : Change = record { point = 4; knot = pos 4; value = pos 7 } in
    (d.refused_exactly_as_a_build {made = []} {c = nowhere} {t = four} {o = outcome 0 0 tt four} {p = outcome 0 0 tt four.slopes} refl (may (build (changed_by nowhere four)) (outcome 0 0 tt four.slopes) (four_built four.slopes refl))).1 (inr (lit≤ tt)) refl
