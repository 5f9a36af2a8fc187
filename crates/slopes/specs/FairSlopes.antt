-- The slopes built at a piece's two points are fair to it.
use Rattle.std.specs.Prelude.{◌≡◌, List, ℕ, suc, ◌+◌, ◌-◌, ◌<◌, ℤ, pos, ◌<ℤ◌, length}
use Rattle.std.proofs.Common.{◌∙◌, ap, subst, ⊎_elim, eq-or-lt_of_le, eq-zero-or-pos, arith}
use Rattle.cubic.specs.Fair.{Fair}
use Rattle.cubic.proofs.Fair.{secant_fair, end_fair, inner_fair, inner_mirrored}
use Rattle.table.specs.Table.{step}
use Rattle.table.specs.Accepted.{PointsWithin}
use Rattle.rules.specs.Known.{0<_width}
use Rattle.slopes.specs.Slopes.{end_at, inner_at, built_slope}
use Rattle.slopes.specs.Cases.{slope_of_two, first_slope, last_slope, inner_slope_lem}

module _ {U : ℤ} {ks vs : List ℤ} (u : pos 0 <ℤ U) (p : PointsWithin ks vs) where
  0<_step : (i : ℕ) → i + 1 < length ks → pos 0 <ℤ step ks i
  0<_step i l = 0<_width (p.widths i l)

  -- of two points
  two_fair : 2 ≡ length ks → (i j : ℕ) → i + 1 < length ks → Fair U (step ks i) (step vs i) (built_slope U ks vs j)
  two_fair n i j l =
      subst (λ (k : ℕ). Fair U (step ks k) (step vs k) (built_slope U ks vs j)) {x = 0} (omega arith)
      (subst (Fair U (step ks 0) (step vs 0)) (slope_of_two U ks vs j (omega arith)) (secant_fair u (0<_step 0 (omega arith)) (step vs 0)))

  module _ (i : ℕ) (l : i + 1 < length ks) where
    pub left_fair : Fair U (step ks i) (step vs i) (built_slope U ks vs i)
    left_fair = ⊎_elim first inner (eq-zero-or-pos i)
      where
        first : i ≡ 0 → Fair U (step ks i) (step vs i) (built_slope U ks vs i)
        first e = ⊎_elim (λ (n : 2 ≡ length ks). two_fair n i i l) more (eq-or-lt_of_le p.count.low)
          where
            more : 2 < length ks → Fair U (step ks i) (step vs i) (built_slope U ks vs i)
            more n =
                subst (Fair U (step ks i) (step vs i)) (ap (λ (j : ℕ). end_at U ks vs j 1) e ∙ first_slope U ks vs i e n)
                (end_fair u (0<_step i l) (0<_step 1 (omega arith)) (step vs i) (step vs 1))

        inner : 0 < i → Fair U (step ks i) (step vs i) (built_slope U ks vs i)
        inner b =
            subst (Fair U (step ks i) (step vs i))
            (inner_mirrored U (step ks i) (step vs i) (step ks (i - 1)) (step vs (i - 1)) ∙ inner_slope_lem U ks vs i b l)
            (inner_fair u (0<_step i l) (0<_step (i - 1) (omega arith)) (step vs i) (step vs (i - 1)))

    back : i ≡ i + 1 - 1
    back = omega arith

    pub right_fair : Fair U (step ks i) (step vs i) (built_slope U ks vs (i + 1))
    right_fair = ⊎_elim last inner (eq-or-lt_of_le l)
      where
        inner : suc (i + 1) < length ks → Fair U (step ks i) (step vs i) (built_slope U ks vs (i + 1))
        inner m =
            subst (Fair U (step ks i) (step vs i)) (ap (λ (j : ℕ). inner_at U ks vs j (i + 1)) back ∙ inner_slope_lem U ks vs (i + 1) (omega arith) (omega arith))
            (inner_fair u (0<_step i l) (0<_step (i + 1) (omega arith)) (step vs i) (step vs (i + 1)))

        last : suc (i + 1) ≡ length ks → Fair U (step ks i) (step vs i) (built_slope U ks vs (i + 1))
        last m = ⊎_elim (λ (n : 2 ≡ length ks). two_fair n i (i + 1) l) more (eq-or-lt_of_le p.count.low)
          where
            more : 2 < length ks → Fair U (step ks i) (step vs i) (built_slope U ks vs (i + 1))
            more n =
                subst (Fair U (step ks i) (step vs i)) (ap (λ (j : ℕ). end_at U ks vs j (i + 1 - 2)) back ∙ last_slope U ks vs (i + 1) (omega arith) (omega arith))
                (end_fair u (0<_step i l) (0<_step (i + 1 - 2) (omega arith)) (step vs i) (step vs (i + 1 - 2)))
