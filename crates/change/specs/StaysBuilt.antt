-- "If all slopes were built from the old points, all are then as built from the new ones."
use Rattle.std.specs.Prelude.{◌≡◌, refl, Bool, cond, List, ◌∷◌, ℕ, zero, suc, ◌+◌, ◌-◌, ◌<◌, ◌≤◌, ℤ, pos, ◌-ℤ◌, length, set}
use Rattle.std.proofs.Common.{sym, ◌∙◌, ap, ap₂, ⊎_elim, eq-zero-or-pos, eq-or-lt_of_le, arith, length-set, get_or-set_other}
use Rattle.integers.specs.Promise.{Decided, holds, fails}
use Rattle.integers.specs.Order.{<_or-≤}
use Rattle.cubic.specs.Slopes.{end_slope, secant_slope, inner_slope}
use Rattle.rules.specs.Limits.{unit}
use Rattle.rules.specs.Refusals.{afterwards}
use Rattle.table.specs.declared.changed.Change.{Change}
use Rattle.table.specs.Table.{Table, entry, step}
use Rattle.table.specs.WouldBe.{changed_by}
use Rattle.slopes.specs.Slopes.{built_slope, built_slopes, tab}
use Rattle.slopes.specs.Cases.{same_pieces, slope_of_two, first_slope, last_slope, inner_slope_lem}
use Rattle.slopes.specs.Put.{tab_length, tab_entry}
use Rattle.change.specs.Change.{Renews, before_it, at_it, behind_it, slope_0, the_last, is_renewed, renewed, renewed_slopes, Changed}
use Rattle.change.specs.Beside.{is_renewed_lem}

-- ---- a slope out of the point's reach is made from the same entries as before

module _ (U : ℤ) (ks vs : List ℤ) (k : ℕ) (x y : ℤ) where
  abbrev ks' : List ℤ
  ks' = set ks k x

  abbrev vs' : List ℤ
  vs' = set vs k y

  same_step : (list : List ℤ) (z : ℤ) (i : ℕ) → (i ≡ k → ⊥) → (i + 1 ≡ k → ⊥) → step (set list k z) i ≡ step list i
  same_step list z i f g = ap₂ (λ (r l : ℤ). r -ℤ l) (get_or-set_other list k (i + 1) z (pos 0) g) (get_or-set_other list k i z (pos 0) f)

  -- a rule over two pieces that the point is no end of
  same_rule : (rule : (U h₁ z₁ h₂ z₂ : ℤ) → ℤ) (i j : ℕ) → (i ≡ k → ⊥) → (i + 1 ≡ k → ⊥) → (j ≡ k → ⊥) → (j + 1 ≡ k → ⊥)
      → rule U (step ks' i) (step vs' i) (step ks' j) (step vs' j) ≡ rule U (step ks i) (step vs i) (step ks j) (step vs j)
  same_rule rule i j a b c d = same_pieces rule refl (same_step ks x i a b) (same_step vs y i a b) (same_step ks x j c d) (same_step vs y j c d)

  pub same_slope : (i : ℕ) → i < length ks → (Renews (length ks) k i → ⊥) → built_slope U ks' vs' i ≡ built_slope U ks vs i
  same_slope i in_List far = ⊎_elim more two (<_or-≤ 2 (length ks))
    where
      long : length ks' ≡ length ks
      long = length-set ks k x

      two : length ks ≤ 2 → built_slope U ks' vs' i ≡ built_slope U ks vs i
      two n = sym (slope_of_two U ks' vs' i (omega (arith, long))) ∙ ap₂ (secant_slope U) (same_step ks x 0 left right) (same_step vs y 0 left right) ∙ slope_of_two U ks vs i n
        where
          left : 0 ≡ k → ⊥
          left f = ⊎_elim (λ (e : i ≡ 0). far (at_it (omega arith))) (λ (b : 0 < i). far (behind_it (omega arith))) (eq-zero-or-pos i)

          right : 0 + 1 ≡ k → ⊥
          right f = ⊎_elim (λ (e : i ≡ 0). far (before_it (omega arith))) (λ (b : 0 < i). far (at_it (omega arith))) (eq-zero-or-pos i)

      first : 2 < length ks → i ≡ 0 → built_slope U ks' vs' i ≡ built_slope U ks vs i
      first n e =
          sym (first_slope U ks' vs' i e (omega (arith, long)))
          ∙ same_rule end_slope 0 1 (λ (f : 0 ≡ k). far (at_it (omega arith))) (λ (f : 0 + 1 ≡ k). far (before_it (omega arith))) (λ (f : 1 ≡ k). far (before_it (omega arith))) (λ (f : 1 + 1 ≡ k). far (slope_0 (omega arith) e))
          ∙ first_slope U ks vs i e n

      last : 2 < length ks → suc i ≡ length ks → built_slope U ks' vs' i ≡ built_slope U ks vs i
      last n l =
          sym (last_slope U ks' vs' i (omega arith) (omega (arith, long)))
          ∙ same_rule end_slope (i - 1) (i - 2) (λ (f : i - 1 ≡ k). far (behind_it (omega arith))) (λ (f : i - 1 + 1 ≡ k). far (at_it (omega arith))) (λ (f : i - 2 ≡ k). far (the_last (omega arith) (omega arith)))
          (λ (f : i - 2 + 1 ≡ k). far (behind_it (omega arith)))
          ∙ last_slope U ks vs i (omega arith) (omega arith)

      inner : 0 < i → suc i < length ks → built_slope U ks' vs' i ≡ built_slope U ks vs i
      inner b l =
          sym (inner_slope_lem U ks' vs' i b (omega (arith, long)))
          ∙ same_rule inner_slope (i - 1) i (λ (f : i - 1 ≡ k). far (behind_it (omega arith))) (λ (f : i - 1 + 1 ≡ k). far (at_it (omega arith))) (λ (f : i ≡ k). far (at_it f)) (λ (f : i + 1 ≡ k). far (before_it f))
          ∙ inner_slope_lem U ks vs i b (omega arith)

      more : 2 < length ks → built_slope U ks' vs' i ≡ built_slope U ks vs i
      more n = ⊎_elim (first n) (λ b. ⊎_elim (last n) (inner b) (eq-or-lt_of_le in_List)) (eq-zero-or-pos i)

-- ---- so a renewed list of built slopes is a list of built slopes

same_tab : (n : ℕ) (f g : ℕ → ℤ) → ((i : ℕ) → i < n → f i ≡ g i) → tab n f ≡ tab n g
same_tab zero f g e = refl
same_tab (suc n) f g e = ap₂ ◌∷◌ (e 0 (omega arith)) (same_tab n (λ i. f (suc i)) (λ i. g (suc i)) (λ i l. e (suc i) (omega arith)))

renewed_tab : (k n : ℕ) (f g : ℕ → ℤ) → ((i : ℕ) → i < n → (Renews n k i → ⊥) → g i ≡ f i) → renewed k g (tab n f) ≡ tab n g
renewed_tab k n f g far = ap (λ (m : ℕ). tab m (h m)) (tab_length n f) ∙ same_tab n (h n) g (λ i l. told i l (is_renewed_lem n k i))
  where
    h : ℕ → ℕ → ℤ
    h m i = cond (is_renewed m k i) (g i) (entry (tab n f) i)

    told : (i : ℕ) → i < n → {b : Bool} → Decided (Renews n k i) b → cond b (g i) (entry (tab n f) i) ≡ g i
    told i l (holds r) = refl
    told i l (fails h) = tab_entry n f i l ∙ sym (far i l h)

-- a table whose slopes are all as built from its points
pub record AllBuilt (t : Table) : Type 0 where
  pub built : t.slopes ≡ built_slopes (unit t.s) t.knots t.values

-- the slopes built from what a change leaves, in the unit that it leaves as it was
the_same : {c : Change} {t u : Table} {n p : ℕ} → Changed c t u n p
    → built_slopes (unit t.s) (afterwards n t.knots (changed_by c t).knots) (afterwards n t.values (changed_by c t).values) ≡ built_slopes (unit u.s) u.knots u.values
the_same {t = t} {u} change = ap₂ (built_slopes (unit t.s)) (sym change.knots) (sym change.values) ∙ ap (λ (s : ℕ). built_slopes (unit s) u.knots u.values) (sym change.unit_kept)

pub all_are_then_as_built : {c : Change} {t u : Table} {n p : ℕ} → Changed c t u n p → AllBuilt t → AllBuilt u
all_are_then_as_built {c} {t} {n = zero} change old = record { built = change.slopes ∙ slopes ∙ the_same change }
  where
    slopes : renewed_slopes c t ≡ built_slopes (unit t.s) (changed_by c t).knots (changed_by c t).values
    slopes =
        ap (renewed c.point (built_slope (unit t.s) (changed_by c t).knots (changed_by c t).values)) old.built
        ∙ renewed_tab c.point (length t.knots) (built_slope (unit t.s) t.knots t.values) (built_slope (unit t.s) (changed_by c t).knots (changed_by c t).values) (same_slope (unit t.s) t.knots t.values c.point c.knot c.value)
        ∙ ap (λ (m : ℕ). tab m (built_slope (unit t.s) (changed_by c t).knots (changed_by c t).values)) (sym (length-set t.knots c.point c.knot))
all_are_then_as_built {n = suc n} change old =
    record { built = change.slopes ∙ old.built ∙ the_same change }
