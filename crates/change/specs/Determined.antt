-- The promise of `point` fixes the number, the place and every entry of the three lists: no two results meet it.
use Rattle.std.specs.Prelude.{◌≡◌, List, ℕ, ℤ}
use Rattle.std.proofs.Common.{sym, ◌∙◌, ap, ap₂}
use Rattle.rules.specs.Refusals.{afterwards}
use Rattle.rules.specs.Order.{one_given}
use Rattle.table.specs.declared.changed.Change.{Change}
use Rattle.table.specs.Table.{Table, table}
use Rattle.table.specs.WouldBe.{changed_by}
use Rattle.change.specs.Change.{renewed_slopes, Changed}

pub one_change : {c : Change} {t u v : Table} {m n p q : ℕ} → Changed c t u m p → Changed c t v n q → (m ≡ n) × (p ≡ q) × (u ≡ v)
one_change {c} {t} f g =
    let e = one_given f.refusal g.refusal in (
      e.0,
      e.1,
      same_tables (f.unit_kept ∙ sym g.unit_kept) (f.knots ∙ same e.0 t.knots (changed_by c t).knots ∙ sym g.knots) (f.values ∙ same e.0 t.values (changed_by c t).values ∙ sym g.values)
          (f.slopes ∙ same e.0 t.slopes (renewed_slopes c t) ∙ sym g.slopes),
    )
  where
    same : {m n : ℕ} → m ≡ n → (old new : List ℤ) → afterwards m old new ≡ afterwards n old new
    same e old new = ap (λ (n : ℕ). afterwards n old new) e

    same_tables : {s t : ℕ} {ks ls vs ws ss ts : List ℤ} → s ≡ t → ks ≡ ls → vs ≡ ws → ss ≡ ts → table s ks vs ss ≡ table t ls ws ts
    same_tables {t = t} {ks} {ls} {vs} {ws} {ss} u a b c = ap (λ (s : ℕ). table s ks vs ss) u ∙ ap₂ (λ (ks vs : List ℤ). table t ks vs ss) a b ∙ ap (table t ls ws) c
