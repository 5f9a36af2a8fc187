-- "Every piece of a built table is monotone."
use Rattle.std.specs.Prelude.{refl, List, ℕ, ◌+◌, ◌<◌, ℤ, length}
use Rattle.std.proofs.Common.{sym, ◌∙◌, ap, subst, subst₂, arith}
use Rattle.rules.specs.Refusals.{Given, done, passed}
use Rattle.rules.specs.Order.{went_on}
use Rattle.cubic.specs.Piece.{Monotone}
use Rattle.cubic.proofs.Fair.{fair_monotone}
use Rattle.rules.specs.Limits.{unit, UnitWithin}
use Rattle.rules.specs.Known.{unit_size, 0<_unit, 0<_width}
use Rattle.table.specs.Table.{Table, table, step, MonotoneAt, Holds, not_monotone, check_order}
use Rattle.table.specs.Accepted.{PointsWithin, unit_asked, accepted_points, points_accepted}
use Rattle.slopes.specs.Slopes.{built_slope, built_slopes, Built}
use Rattle.slopes.specs.Put.{tab_length, tab_entry}
use Rattle.slopes.specs.FairSlopes.{left_fair, right_fair}

-- the slopes as they stand in the list
monotone_at : {s : ℕ} {ks vs : List ℤ} → UnitWithin s → PointsWithin ks vs → (i : ℕ) → i + 1 < length ks → MonotoneAt (table s ks vs (built_slopes (unit s) ks vs)) i
monotone_at {s} {ks} {vs} w p i l =
    let u = 0<_unit (unit_size w) in
    subst₂ (Monotone (unit s) (step ks i) (step vs i)) (sym (tab_entry (length ks) (built_slope (unit s) ks vs) i (omega arith))) (sym (tab_entry (length ks) (built_slope (unit s) ks vs) (i + 1) l))
    (fair_monotone u (0<_width (p.widths i l)) (left_fair u p i l) (right_fair u p i l))

module _ {t : Table} {after : List ℤ} {place : ℕ} (built : Built t after 0 place) where
  -- the table that it leaves
  abbrev left : Table
  left = table t.s t.knots t.values after

  pub every_piece_of_a_built_table_is_monotone : (i : ℕ) → i + 1 < length t.knots → MonotoneAt left i
  every_piece_of_a_built_table_is_monotone i l =
      subst (λ (slopes : List ℤ). MonotoneAt (table t.s t.knots t.values slopes) i) (sym built.slopes)
      (monotone_at (unit_asked refl built.refusal) (accepted_points refl built.refusal) i l)

  -- so that 0, at place 0, is what the exact rules give a table check of it
  pub a_built_table_passes_the_table_check : Given (Holds left) check_order 0 0
  a_built_table_passes_the_table_check =
      went_on refl
      (points_accepted (unit_asked refl built.refusal) (accepted_points refl built.refusal) (ap length built.slopes ∙ tab_length (length t.knots) (built_slope (unit t.s) t.knots t.values)))
      (passed no_bend done)
    where
      no_bend : (i : ℕ) → Holds left 5 i → ⊥
      no_bend i (not_monotone l f) = f (every_piece_of_a_built_table_is_monotone i l)
