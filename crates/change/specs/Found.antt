-- Every change of every table has an answer and leaves a table: the promise of `point` is not empty.
use Rattle.std.specs.Prelude.{refl, ℕ}
use Rattle.rules.specs.Refusals.{afterwards}
use Rattle.table.specs.declared.changed.Change.{Change}
use Rattle.table.specs.Table.{Table, table}
use Rattle.table.specs.WouldBe.{changed_by}
use Rattle.table.specs.Found.{every_change_has_an_answer}
use Rattle.change.specs.Change.{renewed_slopes, Changed}

pub record SomeChange (c : Change) (before : Table) : Type 0 where
  pub after : Table
  pub number : ℕ
  pub place : ℕ
  pub changed : Changed c before after number place

pub every_change_leaves_a_table : (c : Change) (before : Table) → SomeChange c before
every_change_leaves_a_table c t =
    let g = every_change_has_an_answer c t in
    record {
      after =
          table t.s (afterwards g.number t.knots (changed_by c t).knots) (afterwards g.number t.values (changed_by c t).values)
          (afterwards g.number t.slopes (renewed_slopes c t));
      number = g.number;
      place = g.place;
      changed = record { refusal = g.given; unit_kept = refl; knots = refl; values = refl; slopes = refl };
    }
