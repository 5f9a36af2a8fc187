-- Every build has an answer and leaves a list of slopes: the promise of `build` is not empty.
use Rattle.std.specs.Prelude.{refl, List, ℕ, ℤ}
use Rattle.rules.specs.Refusals.{afterwards}
use Rattle.rules.specs.Limits.{unit}
use Rattle.table.specs.Table.{Table}
use Rattle.table.specs.Found.{every_table_has_an_answer_to_a_build}
use Rattle.slopes.specs.Slopes.{built_slopes, Built}

pub record SomeBuild (t : Table) : Type 0 where
  pub after : List ℤ
  pub number : ℕ
  pub place : ℕ
  pub built : Built t after number place

pub every_build_has_an_answer : (t : Table) → SomeBuild t
every_build_has_an_answer t =
    let g = every_table_has_an_answer_to_a_build t in
    record {
      after = afterwards g.number t.slopes (built_slopes (unit t.s) t.knots t.values);
      number = g.number;
      place = g.place;
      built = record { refusal = g.given; slopes = refl };
    }
