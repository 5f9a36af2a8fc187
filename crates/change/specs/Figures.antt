-- "Figures to hold against it" of the exact rules, as far as they speak of changes: the promise of `point` gives them.
use Rattle.std.specs.Prelude.{◌≡◌, refl, [], ◌∷◌, ℕ, zero, suc, ◌<◌, T, leb, pos, negsuc, length}
use Rattle.std.proofs.Common.{arith, lit<, lit≤}
use Rattle.std.specs.Int.Signed.{le_z_yes}
use Rattle.rules.specs.Limits.{UnitWithin, CountWithin}
use Rattle.rules.specs.Refusals.{refused, passed}
use Rattle.table.specs.declared.changed.Change.{Change}
use Rattle.table.specs.Table.{Table, table, point_count, Holds, width_outside}
use Rattle.table.specs.Accepted.{PointsWithin, unit_passes, same_length_passes, count_passes, points_accepted}
use Rattle.table.specs.Tested.{points_by_test}
use Rattle.table.specs.WouldBe.{changed_by}
use Rattle.table.specs.AfterChange.{as_changed}
use Rattle.change.specs.Change.{renewed_slopes, Changed}

-- what a change of good points that leaves good points leaves
pub made : (c : Change) (t : Table) → UnitWithin t.s → c.point < point_count t → length t.slopes ≡ length (changed_by c t).knots → PointsWithin (changed_by c t).knots (changed_by c t).values
    → Changed c t (table t.s (changed_by c t).knots (changed_by c t).values (renewed_slopes c t)) 0 0
made c t u l e p = record { refusal = as_changed c t l (points_accepted u p e); unit_kept = refl; knots = refl; values = refl; slopes = refl }

count : {n : ℕ} → T (leb 2 n) → T (leb n 1024) → CountWithin n
count s t = record { low = lit≤ s; high = lit≤ t }

eighth : UnitWithin 8
eighth = record { high = lit≤ tt }

-- "points (0,0), (1,1), (2,4), (3,7) have 0, 384, 768, 768", by request 2 of document 02
abbrev four : Table
four = table 8 (pos 0 ∷ pos 1 ∷ pos 2 ∷ pos 3 ∷ []) (pos 0 ∷ pos 1 ∷ pos 4 ∷ pos 7 ∷ []) (pos 0 ∷ pos 384 ∷ pos 768 ∷ pos 768 ∷ [])

-- "Point 0 changed to (0,−2): 768, 768, 768, 768."
abbrev lowered : Table
lowered = table 8 (pos 0 ∷ pos 1 ∷ pos 2 ∷ pos 3 ∷ []) (negsuc 1 ∷ pos 1 ∷ pos 4 ∷ pos 7 ∷ []) (pos 768 ∷ pos 768 ∷ pos 768 ∷ pos 768 ∷ [])

pub point_0_lowered : Changed (record { point = 0; knot = pos 0; value = negsuc 1 }) four lowered 0 0
point_0_lowered = made (record { point = 0; knot = pos 0; value = negsuc 1 }) four eighth (lit< tt) refl (points_by_test _ _ refl (count tt tt) tt)

-- "a change of point 2 also renews slope 0": of (0,0), (1,1), (2,1), (3,1) point 2 becomes (2,2)
abbrev level : Table
level = table 8 (pos 0 ∷ pos 1 ∷ pos 2 ∷ pos 3 ∷ []) (pos 0 ∷ pos 1 ∷ pos 1 ∷ pos 1 ∷ []) (pos 384 ∷ pos 0 ∷ pos 0 ∷ pos 0 ∷ [])

abbrev peaked : Table
peaked = table 8 (pos 0 ∷ pos 1 ∷ pos 2 ∷ pos 3 ∷ []) (pos 0 ∷ pos 1 ∷ pos 2 ∷ pos 1 ∷ []) (pos 256 ∷ pos 256 ∷ pos 0 ∷ negsuc 511 ∷ [])

pub point_2_raised : Changed (record { point = 2; knot = pos 2; value = pos 2 }) level peaked 0 0
point_2_raised = made (record { point = 2; knot = pos 2; value = pos 2 }) level eighth (lit< tt) refl (points_by_test _ _ refl (count tt tt) tt)

-- "and a change of the third point from the end also renews the last slope": of (0,0), (1,0), (2,1) point 0 becomes (0,1)
abbrev three : Table
three = table 8 (pos 0 ∷ pos 1 ∷ pos 2 ∷ []) (pos 0 ∷ pos 0 ∷ pos 1 ∷ []) (pos 0 ∷ pos 0 ∷ pos 384 ∷ [])

abbrev dipped : Table
dipped = table 8 (pos 0 ∷ pos 1 ∷ pos 2 ∷ []) (pos 1 ∷ pos 0 ∷ pos 1 ∷ []) (negsuc 511 ∷ pos 0 ∷ pos 512 ∷ [])

pub point_0_of_three_raised : Changed (record { point = 0; knot = pos 0; value = pos 1 }) three dipped 0 0
point_0_of_three_raised = made (record { point = 0; knot = pos 0; value = pos 1 }) three eighth (lit< tt) refl (points_by_test _ _ refl (count tt tt) tt)

-- "Point 1 changed to (2,1) instead: refused by 3 at place 1."
pub point_1_moved_onto_point_2 : Changed (record { point = 1; knot = pos 2; value = pos 1 }) four four 3 1
point_1_moved_onto_point_2 =
    record {
      refusal =
          as_changed (record { point = 1; knot = pos 2; value = pos 1 }) four (omega arith)
          (passed (unit_passes eighth) (passed (same_length_passes (record { values = refl; slopes = refl })) (passed (count_passes (count tt tt)) (refused (width_outside {i = 1} (omega arith) (λ w. w.low.le)) before))));
      unit_kept = refl;
      knots = refl;
      values = refl;
      slopes = refl;
    }
  where
    before : (q : ℕ) → q < 1 → Holds (changed_by (record { point = 1; knot = pos 2; value = pos 1 }) four) 3 q → ⊥
    before zero l (width_outside m f) = f (record { low = le_z_yes tt; high = le_z_yes tt })
    before (suc q) l h = absurd (omega (arith, l))
