-- Laws of the points as they would be after a change.
use Rattle.std.specs.Prelude.{◌≡◌, refl, List, [], ◌∷◌, ℕ, suc, ◌≤◌, ◌<◌, T, length}
use Rattle.std.proofs.Common.{sym, ◌∙◌, subst, arith, length-set}
use Rattle.rules.specs.Limits.{UnitWithin, CountWithin}
use Rattle.rules.specs.Refusals.{Given, done, refused, passed}
use Rattle.rules.specs.Order.{Same, none, also, without, one_more_cause, other_way, carried, unasked, asked_too, clear, behind}
use Rattle.table.specs.declared.changed.Change.{Change}
use Rattle.table.specs.Table.{Table, point_count, SameLengths, Holds, no_such_unit, lengths_differ, too_few_or_many, outline_order, build_order}
use Rattle.table.specs.WouldBe.{changed_by, HoldsAfter, of_points, no_such_point, change_order}
use Rattle.table.specs.Accepted.{PointsWithin, at_most, unit_asked, lengths_asked, accepted_points}

module _ (c : Change) (t : Table) where
  as_many : point_count (changed_by c t) ≡ point_count t
  as_many = length-set t.knots c.point c.knot

  as_many_values : length (changed_by c t).values ≡ length t.values
  as_many_values = length-set t.values c.point c.value

  -- the lists are equally long, and those of the changed points are
  abbrev Before : Type 0
  Before = SameLengths t.knots t.values t.slopes

  abbrev Then : Type 0
  Then = SameLengths (changed_by c t).knots (changed_by c t).values t.slopes

  lengths_then : Before → Then
  lengths_then s = record { values = as_many_values ∙ s.values ∙ sym as_many; slopes = s.slopes ∙ sym as_many }

  lengths_before : Then → Before
  lengths_before s = record { values = sym as_many_values ∙ s.values ∙ as_many; slopes = s.slopes ∙ as_many }

  -- 12, 1 and 2 are the same before and after
  same_outline : Same (Holds t) (Holds (changed_by c t)) outline_order
  same_outline = also unit_then unit_before (also differ_then differ_before (also count_then count_before none))
    where
      unit_then : (p : ℕ) → Holds t 12 p → Holds (changed_by c t) 12 p
      unit_then p (no_such_unit f) = no_such_unit f

      unit_before : (p : ℕ) → Holds (changed_by c t) 12 p → Holds t 12 p
      unit_before p (no_such_unit f) = no_such_unit f

      differ_then : (p : ℕ) → Holds t 1 p → Holds (changed_by c t) 1 p
      differ_then p (lengths_differ f) = lengths_differ (λ s. f (lengths_before s))

      differ_before : (p : ℕ) → Holds (changed_by c t) 1 p → Holds t 1 p
      differ_before p (lengths_differ f) = lengths_differ (λ s. f (lengths_then s))

      count_then : (p : ℕ) → Holds t 2 p → Holds (changed_by c t) 2 p
      count_then p (too_few_or_many f) = too_few_or_many (λ w. f (subst CountWithin as_many w))

      count_before : (p : ℕ) → Holds (changed_by c t) 2 p → Holds t 2 p
      count_before p (too_few_or_many f) = too_few_or_many (λ w. f (subst CountWithin (sym as_many) w))

  -- the causes beside 7 are those of the points
  points_alone : (d p : ℕ) → (d ≡ 7 → ⊥) → HoldsAfter c t d p → Holds (changed_by c t) d p
  points_alone d p f (of_points h) = h
  points_alone d p f (no_such_point g) = absurd (f refl)

  pub beside_7 : (order : List ℕ) → T (without 7 order) → Same (Holds (changed_by c t)) (HoldsAfter c t) order
  beside_7 order = one_more_cause 7 order (λ _ _. of_points) points_alone

  pub as_outlined : {n p : ℕ} → Given (Holds t) outline_order n p → Given (HoldsAfter c t) outline_order n p
  as_outlined g = carried (beside_7 outline_order tt) (carried same_outline g)

  pub as_stepped : {n p : ℕ} → Given (Holds (changed_by c t)) (3 ∷ 4 ∷ []) n p → Given (HoldsAfter c t) (3 ∷ 4 ∷ []) n p
  as_stepped = carried (beside_7 (3 ∷ 4 ∷ []) tt)

  -- 7 by itself
  pub refused_nowhere : point_count t ≤ c.point → Given (HoldsAfter c t) (7 ∷ []) 7 0
  refused_nowhere l = refused (no_such_point (λ (k : c.point < point_count t). omega arith)) (λ _ l _. absurd (omega (arith, l)))

  there : c.point < point_count t → (p : ℕ) → HoldsAfter c t 7 p → ⊥
  there l p (of_points h) = elim h [ ]
  there l p (no_such_point f) = f l

  pub taken_there : c.point < point_count t → Given (HoldsAfter c t) (7 ∷ []) 0 0
  taken_there l = passed (there l) done

  -- where the point is there, the order is that of a build of the points as they would be
  pub as_a_build : {n p : ℕ} → c.point < point_count t → Given (HoldsAfter c t) change_order n p → Given (Holds (changed_by c t)) build_order n p
  as_a_build l g = carried (other_way (beside_7 build_order tt)) (unasked outline_order 7 (3 ∷ 4 ∷ []) (there l) g)

  pub as_changed : {n p : ℕ} → c.point < point_count t → Given (Holds (changed_by c t)) build_order n p → Given (HoldsAfter c t) change_order n p
  as_changed l g = asked_too outline_order 7 (3 ∷ 4 ∷ []) (there l) (carried (beside_7 build_order tt) g)

  -- what is known where nothing is refused
  module _ {n p : ℕ} (e : n ≡ 0) (g : Given (HoldsAfter c t) change_order n p) where
    pub point_there : c.point < point_count t
    point_there = at_most (λ (l : point_count t < suc c.point). clear e (behind outline_order e g) 0 (no_such_point (λ (k : c.point < point_count t). omega arith)))

    pub accepted_then : PointsWithin (changed_by c t).knots (changed_by c t).values
    accepted_then = accepted_points e (as_a_build point_there g)

    pub unit_then_and_before : UnitWithin t.s
    unit_then_and_before = unit_asked e (as_a_build point_there g)

    pub equally_long : Before
    equally_long = lengths_before (lengths_asked e (as_a_build point_there g))
