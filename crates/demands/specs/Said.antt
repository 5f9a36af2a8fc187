-- What a result of one of our functions says, which meets its contract, in the words of the definitions.
use Rattle.std.specs.Prelude.{◌≡◌, refl, false, List, ℕ, ℤ, pos, Result, Ok, Err}
use Rattle.std.proofs.Common.{subst, subst₂}
use Rattle.std.specs.Float.{fin}
use Rattle.rules.specs.declared.Refused.{Refused}
use Rattle.rules.specs.Causes.{answer_or}
use Rattle.rules.specs.Refusals.{Given}
use Rattle.table.specs.declared.changed.Change.{Change}
use Rattle.table.specs.Table.{Table, table, Holds, build_order, check_order}
use Rattle.table.specs.WouldBe.{HoldsAfter, change_order}
use Rattle.slopes.specs.Slopes.{Built}
use Rattle.position.specs.Position.{Located}
use Rattle.curve.specs.Curve.{Evaluated}
use Rattle.drive.specs.declared.Answer.{Answer}
use Rattle.drive.specs.declared.Answer.TheVariants.{Dwell}
use Rattle.drive.specs.Drive.{Driving, told_of, telling}
use Rattle.change.specs.Change.{Changed}
use Rattle.demands.specs.ByContract.{PointsAnswer, Checks, Builds, ChangedPoints, Changes, Locates, Evaluates, Drives}

module _ {t : Table} {number place : ℕ} where
  pub points_say : PointsAnswer t number place → Given (Holds t) build_order number place
  points_say a = subst₂ (Given (Holds t) build_order) a.1.number_is a.1.place_is a.2

  pub checks_say : Checks t number place → Given (Holds t) check_order number place
  checks_say a = subst₂ (Given (Holds t) check_order) a.1.number_is a.1.place_is a.2

  pub builds_say : {after : List ℤ} → Builds t number place after → Built t after number place
  builds_say {after} a = subst₂ (Built t after) a.1.number_is a.1.place_is a.2

  pub changed_points_say : {c : Change} → ChangedPoints t c number place → Given (HoldsAfter c t) change_order number place
  changed_points_say {c} a = subst₂ (Given (HoldsAfter c t) change_order) a.1.number_is a.1.place_is a.2

  pub changes_say : {c : Change} (after : Table) → Changes t c number place after → Changed c t (table t.s after.knots after.values after.slopes) number place
  changes_say {c} after a = subst₂ (Changed c t (table t.s after.knots after.values after.slopes)) a.1.number_is a.1.place_is a.2

  module _ {x : ℤ} where
    pub locates_say : {piece : ℕ} → Locates t x number place piece → Located t x number place piece
    locates_say {piece} a = subst (λ (i : ℕ). Located t x number place i) a.1.answer_is (subst₂ (λ (k p : ℕ). Located t x k p (answer_or 0 a.0)) a.1.number_is a.1.place_is a.2)

    pub evaluates_say : {value : ℤ} → Evaluates t x number place value → Evaluated t x number place value
    evaluates_say {value} a =
        subst (λ (v : ℤ). Evaluated t x number place v) a.1.answer_is (subst₂ (λ (k p : ℕ). Evaluated t x k p (answer_or (pos 0) a.0)) a.1.number_is a.1.place_is a.2)

    pub drives_say : {answer : Answer} → Drives t x number place answer → Driving t x number place (told_of answer)
    drives_say {answer} a =
        subst (λ (b : Answer). Driving t x number place (told_of b)) a.1.answer_is
        (subst₂ (λ (k p : ℕ). Driving t x k p (told_of (answer_or (Dwell (fin false 0 (pos 0))) a.0))) a.1.number_is a.1.place_is (subst (Driving t x _ _) (as_told a.0) a.2))
      where
        as_told : (r : Result Answer Refused) → telling r ≡ told_of (answer_or (Dwell (fin false 0 (pos 0))) r)
        as_told (Ok b) = refl
        as_told (Err r) = refl
