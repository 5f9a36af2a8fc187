-- "Each accepted change puts the new knot and value at that point, renews the slopes at it and beside it, and touches nothing else." And "a change of point 2 also renews slope 0, and a change of the third point from
-- the end also renews the last slope."
use Rattle.std.specs.Prelude.{◌≡◌, refl, cond, List, ℕ, ◌<◌, ℤ, pos, length}
use Rattle.std.proofs.Common.{sym, ◌∙◌, ap, ap₂, arith, get_or-set_same, get_or-set_other}
use Rattle.integers.specs.Decided.{chosen, passed_over}
use Rattle.rules.specs.Limits.{unit}
use Rattle.table.specs.declared.changed.Change.{Change}
use Rattle.table.specs.Table.{Table, entry, point_count}
use Rattle.table.specs.WouldBe.{changed_by}
use Rattle.table.specs.AfterChange.{point_there, equally_long}
use Rattle.slopes.specs.Slopes.{built_slope}
use Rattle.slopes.specs.Put.{tab_entry}
use Rattle.change.specs.Change.{Renews, is_renewed, Changed}
use Rattle.change.specs.Beside.{is_renewed_lem}

module _ {c : Change} {t u : Table} {place : ℕ} (change : Changed c t u 0 place) where
  there : c.point < point_count t
  there = point_there c t refl change.refusal

  in_values : c.point < length t.values
  in_values = omega (arith, there, (equally_long c t refl change.refusal).values)

  pub the_point_holds_the_new_knot : entry u.knots c.point ≡ c.knot
  the_point_holds_the_new_knot = ap (λ (list : List ℤ). entry list c.point) change.knots ∙ get_or-set_same t.knots c.point c.knot (pos 0) there

  pub the_point_holds_the_new_value : entry u.values c.point ≡ c.value
  the_point_holds_the_new_value = ap (λ (list : List ℤ). entry list c.point) change.values ∙ get_or-set_same t.values c.point c.value (pos 0) in_values

  pub no_other_knot_changes : (i : ℕ) → (i ≡ c.point → ⊥) → entry u.knots i ≡ entry t.knots i
  no_other_knot_changes i f = ap (λ (list : List ℤ). entry list i) change.knots ∙ get_or-set_other t.knots c.point i c.knot (pos 0) f

  pub no_other_value_changes : (i : ℕ) → (i ≡ c.point → ⊥) → entry u.values i ≡ entry t.values i
  no_other_value_changes i f = ap (λ (list : List ℤ). entry list i) change.values ∙ get_or-set_other t.values c.point i c.value (pos 0) f

  -- slope i, as the definition has it
  slope_at : (i : ℕ) → i < point_count t → entry u.slopes i ≡ cond (is_renewed (point_count t) c.point i) (built_slope (unit t.s) (changed_by c t).knots (changed_by c t).values i) (entry t.slopes i)
  slope_at i l =
      ap (λ (list : List ℤ). entry list i) change.slopes
      ∙ tab_entry (length t.slopes) (λ i. cond (is_renewed (length t.slopes) c.point i) (built_slope (unit t.s) (changed_by c t).knots (changed_by c t).values i) (entry t.slopes i)) i (omega (arith, l, (equally_long c t refl change.refusal).slopes))
      ∙ ap (λ (n : ℕ). cond (is_renewed n c.point i) (built_slope (unit t.s) (changed_by c t).knots (changed_by c t).values i) (entry t.slopes i)) (equally_long c t refl change.refusal).slopes

  pub the_slopes_it_renews_are_as_built : (i : ℕ) → i < point_count t → Renews (point_count t) c.point i → entry u.slopes i ≡ built_slope (unit u.s) u.knots u.values i
  the_slopes_it_renews_are_as_built i l r =
      slope_at i l
      ∙ sym (chosen (entry t.slopes i) (is_renewed_lem (point_count t) c.point i) r)
      ∙ ap₂ (λ (ks vs : List ℤ). built_slope (unit t.s) ks vs i) (sym change.knots) (sym change.values)
      ∙ ap (λ (s : ℕ). built_slope (unit s) u.knots u.values i) (sym change.unit_kept)

  pub no_other_slope_changes : (i : ℕ) → i < point_count t → (Renews (point_count t) c.point i → ⊥) → entry u.slopes i ≡ entry t.slopes i
  no_other_slope_changes i l far = slope_at i l ∙ sym (passed_over _ (is_renewed_lem (point_count t) c.point i) far)
