-- Our two implementations, made of the contracts of the functions themselves: `NAME.Pre` is what a function requires, as the prover reads it off its header, and what it
-- ensures has a short name in `ByContract.antt`. One is the Rattle functions, the other those that C links.
use Rattle.std.specs.Prelude.{◌≡◌, ℕ, ℤ, Result}
use Rattle.rules.specs.declared.Refused.{Refused}
use Rattle.table.specs.declared.changed.Change.{Change}
use Rattle.table.specs.Table.{Table}
use Rattle.piece.specs.declared.Verdict.{Verdict}
use Rattle.piece.specs.Promise.{ruling, ruling_of}
use Rattle.drive.specs.declared.Answer as Answer
use Rattle.drive.specs.Drive.{Telling, dwell, move, told_of}
use Rattle.exports.specs.declared.answers.Told.{Told}
use Rattle.exports.specs.Cases.{verdict_number}
use Rattle.demands.specs.ByContract.{three, one, lent, whole, whole_with, whole_to_change, refusal, Judges, JudgesC, PointsAnswer, PointsAnswerC, Checks, ChecksC, Builds, BuildsC, ChangedPoints, ChangedPointsC, Changes, ChangesC, Locates, LocatesC, Evaluates, EvaluatesC, Drives, DrivesC}
use Rattle.demands.specs.Demands.{Call, judge, points, build, check, locate, evaluate, float_answer, changed_points, point, Outcome, Implementation}
use Rattle.piece.proofs.judge.Reads as piece-judge
use Rattle.table.proofs.points.Reads as table-points
use Rattle.table.proofs.check.Reads as table-check
use Rattle.table.proofs.changed_points.Reads as table-changed_points
use Rattle.slopes.proofs.build.Reads as slopes-build
use Rattle.position.proofs.locate.Reads as position-locate
use Rattle.curve.proofs.evaluate.Reads as curve-evaluate
use Rattle.drive.proofs.float_answer.Reads as drive-float_answer
use Rattle.change.proofs.point.Reads as change-point
use Rattle.exports.proofs.negwafir_judge.Reads as negwafir_judge
use Rattle.exports.proofs.negwafir_points.Reads as negwafir_points
use Rattle.exports.proofs.negwafir_check.Reads as negwafir_check
use Rattle.exports.proofs.negwafir_changed_points.Reads as negwafir_changed_points
use Rattle.exports.proofs.negwafir_build.Reads as negwafir_build
use Rattle.exports.proofs.negwafir_locate.Reads as negwafir_locate
use Rattle.exports.proofs.negwafir_evaluate.Reads as negwafir_evaluate
use Rattle.exports.proofs.negwafir_float_answer.Reads as negwafir_float_answer
use Rattle.exports.proofs.negwafir_change_point.Reads as negwafir_change_point

-- Where a function answers an enum, or a record that stands for one, some case of it says what came out.
pub record ByJudge (s : ℕ) (h z m n : ℤ) (o : Outcome (judge s h z m n)) : Type 0 where
  pub verdict : Result Verdict Refused
  pub says : ruling_of verdict ≡ ruling o.number o.place o.answer
  pub promised : Judges s h z m n verdict

pub record ByFloatAnswer (t : Table) (x : ℤ) (o : Outcome (float_answer t x)) : Type 0 where
  pub told : Answer.Answer
  pub says : told_of told ≡ o.answer
  pub promised : Drives t x o.number o.place told

-- what a record that has crossed to C tells
pub data CrossedAs : Telling → Told → Type 0 where
  a_dwell : {r : Told} → r.kind ≡ 0 → CrossedAs (dwell r.left) r
  a_move : {r : Told} → r.kind ≡ 1 → CrossedAs (move r.left r.numerator r.denominator) r

pub record ByFloatAnswerC (t : Table) (x : ℤ) (o : Outcome (float_answer t x)) : Type 0 where
  pub told : Told
  pub refused_by : told.refusal ≡ refusal o.number o.place
  pub says : CrossedAs o.answer told
  pub promised : DrivesC t x told.refusal.number told.refusal.place told.kind told.left told.numerator told.denominator

-- The number of the slope unit is handed over and is no list: it stays as it was.
pub record ByPoint (c : Change) (t : Table) (number place : ℕ) (after : Table) : Type 0 where
  pub promised : Changes t c number place after
  pub the_unit : after.s ≡ t.s

pub record ByPointC (c : Change) (t : Table) (number place : ℕ) (after : Table) : Type 0 where
  pub promised : ChangesC t c number place after
  pub the_unit : after.s ≡ t.s

-- ---- the Rattle functions

abbrev pub Asks : Call → Type 0
Asks (judge s h z m n) = piece-judge.Pre tt (s, (h, (z, (m, (n, tt)))))
Asks (points t) = table-points.Pre one (lent t, tt)
Asks (build t) = slopes-build.Pre three (whole_with t t.slopes tt)
Asks (check t) = table-check.Pre one (lent t, tt)
Asks (locate t x) = position-locate.Pre one (lent t, (x, tt))
Asks (evaluate t x) = curve-evaluate.Pre one (lent t, (x, tt))
Asks (float_answer t x) = drive-float_answer.Pre one (lent t, (x, tt))
Asks (changed_points c t) = table-changed_points.Pre one (lent t, (c, tt))
Asks (point made c t) = change-point.Pre three (whole_to_change t (c, tt))

abbrev pub May : (call : Call) → Outcome call → Type 0
May (judge s h z m n) o = ByJudge s h z m n o
May (points t) o = PointsAnswer t o.number o.place
May (build t) o = Builds t o.number o.place o.lists
May (check t) o = Checks t o.number o.place
May (locate t x) o = Locates t x o.number o.place o.answer
May (evaluate t x) o = Evaluates t x o.number o.place o.answer
May (float_answer t x) o = ByFloatAnswer t x o
May (changed_points c t) o = ChangedPoints t c o.number o.place
May (point made c t) o = ByPoint c t o.number o.place o.lists

abbrev pub ours : Implementation
ours = record { Asks = Asks; May = May }

-- ---- those that C links

abbrev pub AsksC : Call → Type 0
AsksC (judge s h z m n) = negwafir_judge.Pre tt (s, (h, (z, (m, (n, tt)))))
AsksC (points t) = negwafir_points.Pre three (whole t tt)
AsksC (build t) = negwafir_build.Pre three (whole_with t t.slopes tt)
AsksC (check t) = negwafir_check.Pre three (whole t tt)
AsksC (locate t x) = negwafir_locate.Pre three (whole t (x, tt))
AsksC (evaluate t x) = negwafir_evaluate.Pre three (whole t (x, tt))
AsksC (float_answer t x) = negwafir_float_answer.Pre three (whole t (x, tt))
AsksC (changed_points c t) = negwafir_changed_points.Pre three (whole t (c, tt))
AsksC (point made c t) = negwafir_change_point.Pre three (whole_to_change t (c, tt))

abbrev pub MayC : (call : Call) → Outcome call → Type 0
MayC (judge s h z m n) o = JudgesC s h z m n o.number o.place (verdict_number o.answer)
MayC (points t) o = PointsAnswerC t o.number o.place
MayC (build t) o = BuildsC t o.number o.place o.lists
MayC (check t) o = ChecksC t o.number o.place
MayC (locate t x) o = LocatesC t x o.number o.place o.answer
MayC (evaluate t x) o = EvaluatesC t x o.number o.place o.answer
MayC (float_answer t x) o = ByFloatAnswerC t x o
MayC (changed_points c t) o = ChangedPointsC t c o.number o.place
MayC (point made c t) o = ByPointC c t o.number o.place o.lists

abbrev pub ours_in-C : Implementation
ours_in-C = record { Asks = AsksC; May = MayC }
