-- "It is refused exactly when a fresh build of the changed points would be, or the point isn't there."
use Rattle.std.specs.Prelude.{◌≡◌, refl, ◌⊎◌, List, [], ◌∷◌, ℕ, ◌<◌, ◌≤◌, ℤ}
use Rattle.std.proofs.Common.{sym, ◌∙◌, subst₂, inl, inr, arith}
use Rattle.rules.specs.Refusals.{Given, done, refused, passed}
use Rattle.rules.specs.Order.{one_given, stopped, carried}
use Rattle.table.specs.declared.changed.Change.{Change}
use Rattle.table.specs.Table.{Table, point_count, build_order}
use Rattle.table.specs.WouldBe.{changed_by, HoldsAfter, change_order}
use Rattle.table.specs.AfterChange.{beside_7, as_a_build, refused_nowhere, point_there}
use Rattle.slopes.specs.Slopes.{Built}
use Rattle.change.specs.Change.{Changed}

-- What a change of a point that isn't there answers, where a build of the points answers m at q: the unit, the lists' lengths and the number of points are asked before it,
-- and the widths and rises after it.
pub data Nowhere (m q : ℕ) : (number place : ℕ) → Type 0 where
  by_the_outline : (m ≡ 12) ⊎ ((m ≡ 1) ⊎ (m ≡ 2)) → Nowhere m q m q
  by_7 : (m ≡ 12 → ⊥) → (m ≡ 1 → ⊥) → (m ≡ 2 → ⊥) → Nowhere m q 7 0

answered : {H : ℕ → ℕ → Type 0} {order : List ℕ} {number place m q n p : ℕ} → Given H order number place → Given H order n p → Nowhere m q number place → Nowhere m q n p
answered {m = m} {q = q} g h is = let e = one_given g h in subst₂ (Nowhere m q) e.0 e.1 is

later : {H : ℕ → ℕ → Type 0} {m q : ℕ} → Given H (3 ∷ 4 ∷ []) m q → (m ≡ 12 → ⊥) × (m ≡ 1 → ⊥) × (m ≡ 2 → ⊥)
later (refused h e) = (λ e. omega arith, λ e. omega arith, λ e. omega arith)
later (passed f (refused h e)) = (λ e. omega arith, λ e. omega arith, λ e. omega arith)
later (passed f (passed g done)) = (λ e. omega arith, λ e. omega arith, λ e. omega arith)

nowhere : {c : Change} {t : Table} {m q n p : ℕ} → point_count t ≤ c.point → Given (HoldsAfter c t) build_order m q → Given (HoldsAfter c t) change_order n p → Nowhere m q n p
nowhere l (refused h e) g = answered (refused h e) g (by_the_outline (inl refl))
nowhere l (passed f (refused h e)) g = answered (passed f (refused h e)) g (by_the_outline (inr (inl refl)))
nowhere l (passed f (passed k (refused h e))) g = answered (passed f (passed k (refused h e))) g (by_the_outline (inr (inr refl)))
nowhere {c} {t} l (passed f (passed k (passed g more))) h =
    answered (passed f (passed k (passed g (stopped (3 ∷ 4 ∷ []) (λ e. omega arith) (refused_nowhere c t l))))) h (by_7 (later more).0 (later more).1 (later more).2)

-- the change c of the table t answers n at p, and a fresh build of the changed points, over the same slope list, answers m at q
module _ {c : Change} {t u : Table} {after : List ℤ} {n p m q : ℕ} (change : Changed c t u n p) (build : Built (changed_by c t) after m q) where
  -- where the point is there, both answer the same
  pub refused_as_a_build_is : c.point < point_count t → (n ≡ m) × (p ≡ q)
  refused_as_a_build_is l = one_given (as_a_build c t l change.refusal) build.refusal

  -- where it isn't, the change is refused
  pub refused_where_no_point_is : point_count t ≤ c.point → Nowhere m q n p
  refused_where_no_point_is l = nowhere l (carried (beside_7 c t build_order tt) build.refusal) change.refusal

  -- so it is made exactly where the point is there and the build is not refused
  pub made_only_then : n ≡ 0 → (c.point < point_count t) × (m ≡ 0)
  made_only_then e = let l = point_there c t e change.refusal in (l, sym (refused_as_a_build_is l).0 ∙ e)

  pub made_then : c.point < point_count t → m ≡ 0 → n ≡ 0
  made_then l e = (refused_as_a_build_is l).0 ∙ e
