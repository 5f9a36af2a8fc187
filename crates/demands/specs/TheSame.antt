-- Where no record stands for an enum, C may be answered just what the function below may answer: what is refuted of the one is refuted of the other.
use Rattle.std.specs.Prelude.{◌↔◌, refl, List, [], ℕ, ℤ}
use Rattle.table.specs.declared.changed.Change.{Change}
use Rattle.table.specs.Table.{Table, table}
use Rattle.demands.specs.Demands.{Call, points as of_points, build as of_build, check as of_check, locate as of_locate, evaluate as of_evaluate, changed_points as of_changed_points, point as of_point, Outcome}
use Rattle.demands.specs.ByContract.{PointsAnswer, PointsAnswerC, Checks, ChecksC, Builds, BuildsC, ChangedPoints, ChangedPointsC, Changes, ChangesC, Locates, LocatesC, Evaluates, EvaluatesC}
use Rattle.demands.specs.Ours.{ours, ours_in-C}
use Rattle.demands.specs.Kept.{ours_keeps, ours_in-C_keeps}

pub record TheSameInC : Type 0 where
  pub points : (t : Table) (number place : ℕ) → PointsAnswerC t number place ↔ PointsAnswer t number place
  pub check : (t : Table) (number place : ℕ) → ChecksC t number place ↔ Checks t number place
  pub build : (t : Table) (number place : ℕ) (after : List ℤ) → BuildsC t number place after ↔ Builds t number place after
  pub changed_points : (t : Table) (c : Change) (number place : ℕ) → ChangedPointsC t c number place ↔ ChangedPoints t c number place
  pub point : (t : Table) (c : Change) (number place : ℕ) (after : Table) → ChangesC t c number place after ↔ Changes t c number place after
  pub locate : (t : Table) (x : ℤ) (number place piece : ℕ) → LocatesC t x number place piece ↔ Locates t x number place piece
  pub evaluate : (t : Table) (x : ℤ) (number place : ℕ) (value : ℤ) → EvaluatesC t x number place value ↔ Evaluates t x number place value

same : (call : Call) (o : Outcome call) → ours_in-C.May call o ↔ ours.May call o
same call o = (λ p. ours_keeps.allowed call o (ours_in-C_keeps.promised call o p), λ p. ours_in-C_keeps.allowed call o (ours_keeps.promised call o p))

changes : {t : Table} {c : Change} {number place : ℕ} (after : Table) → ChangesC t c number place after ↔ Changes t c number place after
changes {t} {c} {number} {place} after = (λ p. (both.0 (record { promised = p; the_unit = refl })).promised, λ p. (both.1 (record { promised = p; the_unit = refl })).promised)
  where
    both : ours_in-C.May (of_point [] c t) (record { number = number; place = place; answer = tt; lists = table t.s after.knots after.values after.slopes }) ↔ ours.May (of_point [] c t) (record { number = number; place = place; answer = tt; lists = table t.s after.knots after.values after.slopes })
    both = same (of_point [] c t) (record { number = number; place = place; answer = tt; lists = table t.s after.knots after.values after.slopes })

pub the_same_in-C : TheSameInC
the_same_in-C =
    record {
      points = λ t number place. same (of_points t) (record { number = number; place = place; answer = tt; lists = tt });
      check = λ t number place. same (of_check t) (record { number = number; place = place; answer = tt; lists = tt });
      build = λ t number place after. same (of_build t) (record { number = number; place = place; answer = tt; lists = after });
      changed_points = λ t c number place. same (of_changed_points c t) (record { number = number; place = place; answer = tt; lists = tt });
      point = λ t c number place after. changes after;
      locate = λ t x number place piece. same (of_locate t x) (record { number = number; place = place; answer = piece; lists = tt });
      evaluate = λ t x number place value. same (of_evaluate t x) (record { number = number; place = place; answer = value; lists = tt });
    }
