-- The slope of a table at its first, its last and any other point.
use Rattle.std.specs.Prelude.{◌≡◌, refl, Bool, cond, List, ℕ, ◌+◌, ◌-◌, ◌≤◌, ◌<◌, eqb, ltb, ℤ, length}
use Rattle.std.proofs.Common.{sym, ◌∙◌, ap, ap₂, arith, eq-eqb, ne_eqb, lt-ltb, le-ltb}
use Rattle.cubic.specs.Slopes.{secant_slope, inner_slope}
use Rattle.table.specs.Table.{step}
use Rattle.slopes.specs.Slopes.{end_at, inner_at, built_slope}

-- a rule over a unit and two pieces, of the same under other names
pub same_pieces : (rule : (U h₁ z₁ h₂ z₂ : ℤ) → ℤ) {U h₁ z₁ h₂ z₂ U' h₁' z₁' h₂' z₂' : ℤ} → U ≡ U' → h₁ ≡ h₁' → z₁ ≡ z₁' → h₂ ≡ h₂' → z₂ ≡ z₂' → rule U h₁ z₁ h₂ z₂ ≡ rule U' h₁' z₁' h₂' z₂'
same_pieces rule {h₁ = h₁} {z₁} {h₂} {z₂} {U'} {h₁'} {z₁'} u a b c d = ap (λ (U : ℤ). rule U h₁ z₁ h₂ z₂) u ∙ ap₂ (λ (h z : ℤ). rule U' h z h₂ z₂) a b ∙ ap₂ (rule U' h₁' z₁') c d

module _ (U : ℤ) (ks vs : List ℤ) (i : ℕ) where
  -- by the three tests that the definition makes
  abbrev by_tests : (r s t : Bool) → ℤ
  by_tests r s t = cond r (cond s (end_at U ks vs 0 1) (cond t (inner_at U ks vs (i - 1) i) (end_at U ks vs (i - 1) (i - 2)))) (secant_slope U (step ks 0) (step vs 0))

  chosen : {r s t : Bool} → ltb 2 (length ks) ≡ r → eqb i 0 ≡ s → ltb (i + 1) (length ks) ≡ t → by_tests r s t ≡ built_slope U ks vs i
  chosen {s = s} {t = t} d e f = ap (λ (r : Bool). by_tests r s t) (sym d) ∙ ap₂ (by_tests (ltb 2 (length ks))) (sym e) (sym f)

  pub slope_of_two : length ks ≤ 2 → secant_slope U (step ks 0) (step vs 0) ≡ built_slope U ks vs i
  slope_of_two l = chosen (le-ltb 2 (length ks) l) refl refl

  pub first_slope : i ≡ 0 → 2 < length ks → end_at U ks vs 0 1 ≡ built_slope U ks vs i
  first_slope e l = chosen (lt-ltb 2 (length ks) l) (eq-eqb i 0 e) refl

  pub last_slope : 1 < i → length ks ≡ i + 1 → end_at U ks vs (i - 1) (i - 2) ≡ built_slope U ks vs i
  last_slope b e = chosen (lt-ltb 2 (length ks) (omega arith)) (ne_eqb i 0 (λ (z : i ≡ 0). omega arith)) (le-ltb (i + 1) (length ks) (omega arith))

  pub inner_slope_lem : 0 < i → i + 1 < length ks → inner_at U ks vs (i - 1) i ≡ built_slope U ks vs i
  inner_slope_lem b l = chosen (lt-ltb 2 (length ks) (omega arith)) (ne_eqb i 0 (λ (z : i ≡ 0). omega arith)) (lt-ltb (i + 1) (length ks) l)

  -- of the unit and the pieces as they were read
  pub inner_slope_of : {W h₁ z₁ h₂ z₂ : ℤ} → 0 < i → i + 1 < length ks → W ≡ U → h₁ ≡ step ks (i - 1) → z₁ ≡ step vs (i - 1) → h₂ ≡ step ks i → z₂ ≡ step vs i → inner_slope W h₁ z₁ h₂ z₂ ≡ built_slope U ks vs i
  inner_slope_of b l u h₁ z₁ h₂ z₂ = same_pieces inner_slope u h₁ z₁ h₂ z₂ ∙ inner_slope_lem b l
