-- The promise of `build` fixes the number, the place and every entry of the slopes: no two results meet it.
use Rattle.std.specs.Prelude.{◌≡◌, List, ℕ, ℤ}
use Rattle.std.proofs.Common.{sym, ◌∙◌, ap}
use Rattle.rules.specs.Refusals.{afterwards}
use Rattle.rules.specs.Order.{one_given}
use Rattle.rules.specs.Limits.{unit}
use Rattle.table.specs.Table.{Table}
use Rattle.slopes.specs.Slopes.{built_slopes, Built}

pub one_build : {t : Table} {a b : List ℤ} {m n p q : ℕ} → Built t a m p → Built t b n q → (m ≡ n) × (p ≡ q) × (a ≡ b)
one_build {t} f g =
    let e = one_given f.refusal g.refusal in
    (e.0, e.1, f.slopes ∙ ap (λ (n : ℕ). afterwards n t.slopes (built_slopes (unit t.s) t.knots t.values)) e.0 ∙ sym g.slopes)
