-- "Changing a point" of the exact rules, as far as it speaks of the points: what they would be, and when each cause of a refusal holds. Whoever believes a promise
-- about changes believes this file.
use Rattle.std.specs.Prelude.{List, [], ◌∷◌, ℕ, ◌<◌, set}
use Rattle.table.specs.declared.changed.Change.{Change}
use Rattle.table.specs.Table.{Table, table, point_count, Holds}

module _ (c : Change) (t : Table) where
  -- "the points as they would be after the change": the new knot and the new value at the place with this number, in each list that has one, and all else as it was, the slope unit too.
  -- The lists are as long as before. Where they are not equally long one of them may lack the place; such a table is refused by 1.
  abbrev pub changed_by : Table
  changed_by = table t.s (set t.knots c.point c.knot) (set t.values c.point c.value) t.slopes

  -- "7 | no point with this number | 0", beside the causes that these points have: "3 and 4 are asked of the points as they would be after the change", and 12, 1 and 2 may
  -- be, as no unit and no length changes (`as_outlined` of `AfterChange.antt`). 5 is not in the order. Where 7 is asked, 1 has been, so that the knots are as many as the points.
  pub data HoldsAfter : ℕ → ℕ → Type 0 where
    of_points : {number place : ℕ} → Holds changed_by number place → HoldsAfter number place
    no_such_point : (c.point < point_count t → ⊥) → HoldsAfter 7 0

-- "change of a point: 1, 2, 7, 3, 4", and 12 "asked first"
abbrev pub change_order : List ℕ
change_order = 12 ∷ 1 ∷ 2 ∷ 7 ∷ 3 ∷ 4 ∷ []
