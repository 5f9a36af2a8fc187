-- "Changing a point" of the exact rules, for a whole table. Whoever believes the promise of `point` believes this file and what it cites: the points as they would be
-- and the causes of a refusal (`WouldBe.antt` and `Table.antt` of `table`), the slopes that are built (`Slopes.antt` of `slopes`), and the refusals (of `rules`).
use Rattle.std.specs.Prelude.{◌≡◌, Bool, cond, ◌||◌, ◌&&◌, List, ℕ, ◌+◌, eqb, ℤ, length}
use Rattle.rules.specs.Limits.{unit}
use Rattle.rules.specs.Refusals.{Given, afterwards}
use Rattle.table.specs.declared.changed.Change.{Change}
use Rattle.table.specs.Table.{Table, entry}
use Rattle.table.specs.WouldBe.{changed_by, HoldsAfter, change_order}
use Rattle.slopes.specs.Slopes.{tab, built_slope}

-- "slopes k−1, k and k+1", and, by request 2 of document 02, "a change of point 2 also renews slope 0, and a change of the third point from the end also renews the last slope": of n points, a
-- change of point k renews slope i. That i is k−1 is written as i + 1 = k, which no i is where k is 0; the last point is the i with i + 1 = n, and the third from the end the k with k + 3 = n.
pub data Renews (n k i : ℕ) : Type 0 where
  before_it : i + 1 ≡ k → Renews n k i
  at_it : i ≡ k → Renews n k i
  behind_it : i ≡ k + 1 → Renews n k i
  slope_0 : k ≡ 2 → i ≡ 0 → Renews n k i
  the_last : k + 3 ≡ n → i + 1 ≡ n → Renews n k i

-- The same as a test (`is_renewed_lem` in Beside.antt proves it).
abbrev pub is_renewed : (n k i : ℕ) → Bool
is_renewed n k i = eqb (i + 1) k || (eqb i k || (eqb i (k + 1) || (eqb k 2 && eqb i 0 || eqb (k + 3) n && eqb (i + 1) n)))

-- "where they exist [..]. No other entry changes, whatever the slopes were before": the list, as long as it was, with f i at each of these places that it has, and
-- elsewhere as it was
abbrev pub renewed : (k : ℕ) → (ℕ → ℤ) → List ℤ → List ℤ
renewed k f list = tab (length list) (λ i. cond (is_renewed (length list) k i) (f i) (entry list i))

-- "[they] are those a build of the new points gives them", in the table's unit: the same definition of the slope at a point as a build has
abbrev pub renewed_slopes : Change → Table → List ℤ
renewed_slopes c t = renewed c.point (built_slope (unit t.s) (changed_by c t).knots (changed_by c t).values) t.slopes

-- What `point` answers and leaves, where `before` is the table at the call and `after` the table when it returns: the first cause of a refusal in the order 12, 1, 2, 7, 3, 4,
-- its first place, and the three lists as they were; or 0 at place 0, "the point holds them", the new knot and the new value, and these slopes are renewed. The slope unit stays.
pub record Changed (c : Change) (before after : Table) (number place : ℕ) : Type 0 where
  pub refusal : Given (HoldsAfter c before) change_order number place
  pub unit_kept : after.s ≡ before.s
  pub knots : after.knots ≡ afterwards number before.knots (changed_by c before).knots
  pub values : after.values ≡ afterwards number before.values (changed_by c before).values
  pub slopes : after.slopes ≡ afterwards number before.slopes (renewed_slopes c before)
