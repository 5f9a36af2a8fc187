-- What a function may answer, by its own contract, in few words: `PointsAnswer t number place` is what `points` ensures of the table t where it answers this number and place. `after`
-- are the lists that are lent to be changed, as the call leaves them. The names that end in C are of the functions that C links, and those that begin with Asked are what a
-- function requires, where it requires anything.
use Rattle.std.specs.Prelude.{Bool, List, [], ℕ, ℤ, pos, Float, Option, Result, false}
use Rattle.std.specs.Float.{fin}
use contract.Lifetimes.{Lfts}
use Rattle.std.specs.Borrow.{Bor, MutBor}
use Rattle.rules.specs.declared.Refused.{Refused}
use Rattle.rules.specs.declared.limits.SlopeUnit.{SlopeUnit}
use Rattle.rules.specs.declared.limits.Extent.{Extent}
use Rattle.rules.specs.Known.{UnitSize}
use Rattle.rules.specs.Limits.{WidthWithin, RiseWithin}
use Rattle.rules.specs.Numbered.{Says}
use Rattle.piece.specs.declared.Verdict.{Verdict}
use Rattle.table.specs.declared.Table as declared
use Rattle.table.specs.declared.good.GoodPoints.{GoodPoints}
use Rattle.table.specs.declared.changed.Change.{Change}
use Rattle.table.specs.Accepted.{PointsWithin}
use Rattle.table.specs.Table.{Table}
use Rattle.position.specs.declared.Spot.{Spot}
use Rattle.position.specs.declared.inside.Inside.{Inside}
use Rattle.drive.specs.declared.Answer.{Answer}
use Rattle.drive.specs.declared.Answer.TheVariants.{Dwell}
use Rattle.exports.specs.declared.records.Refusal.{Refusal}
use Rattle.piece.proofs.judge.Reads as piece-judge
use Rattle.piece.proofs.is_monotone.Reads as piece-is_monotone
use Rattle.piece.proofs.coefficients.Reads as piece-coefficients
use Rattle.table.proofs.points.Reads as table-points
use Rattle.table.proofs.check.Reads as table-check
use Rattle.table.proofs.changed_points.Reads as table-changed_points
use Rattle.table.proofs.step.Reads as table-step
use Rattle.table.proofs.good.GoodPoints.piece.Reads as table-GoodPoints-piece
use Rattle.slopes.proofs.build.Reads as slopes-build
use Rattle.slopes.proofs.renew.Reads as slopes-renew
use Rattle.position.proofs.locate.Reads as position-locate
use Rattle.position.proofs.find.Reads as position-find
use Rattle.position.proofs.seek.Reads as position-seek
use Rattle.curve.proofs.evaluate.Reads as curve-evaluate
use Rattle.drive.proofs.float_answer.Reads as drive-float_answer
use Rattle.change.proofs.point.Reads as change-point
use Rattle.exports.proofs.negwafir_judge.Reads as negwafir_judge
use Rattle.exports.proofs.negwafir_points.Reads as negwafir_points
use Rattle.exports.proofs.negwafir_check.Reads as negwafir_check
use Rattle.exports.proofs.negwafir_changed_points.Reads as negwafir_changed_points
use Rattle.exports.proofs.negwafir_build.Reads as negwafir_build
use Rattle.exports.proofs.negwafir_locate.Reads as negwafir_locate
use Rattle.exports.proofs.negwafir_evaluate.Reads as negwafir_evaluate
use Rattle.exports.proofs.negwafir_float_answer.Reads as negwafir_float_answer
use Rattle.exports.proofs.negwafir_change_point.Reads as negwafir_change_point

-- A lent list is a reference, which a contract reads by what it holds; where it stands and for how long it is lent is nothing that a contract here speaks of.
abbrev pub list : List ℤ → Bor (List ℤ)
list xs = record { ref_ptr = (0, 0); now = xs }

-- So is what is lent to be changed, which a contract reads by what it holds at the call and when the call returns. The name by which a proof follows it is nothing that a contract here speaks of.
abbrev pub to_change : {A : Type 0} → A → MutBor A
to_change x = record { ref_ptr = (0, 0); ghost_name = 0; now = x }

abbrev pub three : Lfts 3
three = ([], ([], ([], tt)))

-- three lists, with what comes behind them
abbrev pub Lent : Type 0 → Type 0
Lent A = Bor (List ℤ) × (Bor (List ℤ) × (Bor (List ℤ) × A))

-- a table as a Rust function is lent it
abbrev pub lent : Table → declared.Table
lent t = record { s = t.s; knots = list t.knots; values = list t.values; slopes = list t.slopes }

-- and good points
abbrev pub points_of : {ks vs : List ℤ} → PointsWithin ks vs → GoodPoints
points_of {ks} {vs} w = record { knots = list ks; values = list vs; within = w }

abbrev pub one : Lfts 1
one = ([], tt)

-- those of a table, behind what comes first: the number of its unit, the unit itself, or nothing
abbrev pub lists : {A : Type 0} → Table → A → Lent A
lists t a = (list t.knots, (list t.values, (list t.slopes, a)))

abbrev pub whole : {A : Type 0} → Table → A → ℕ × Lent A
whole t a = (t.s, lists t a)

-- the table's three, of which the slopes are lent to be changed and are now these
abbrev pub lists_with : {A : Type 0} → Table → List ℤ → A → Bor (List ℤ) × (Bor (List ℤ) × (MutBor (List ℤ) × A))
lists_with t slopes a = (list t.knots, (list t.values, (to_change slopes, a)))

abbrev pub whole_with : {A : Type 0} → Table → List ℤ → A → ℕ × (Bor (List ℤ) × (Bor (List ℤ) × (MutBor (List ℤ) × A)))
whole_with t slopes a = (t.s, lists_with t slopes a)

-- the table's three, all of which are lent to be changed
abbrev pub lists_to_change : {A : Type 0} → Table → A → MutBor (List ℤ) × (MutBor (List ℤ) × (MutBor (List ℤ) × A))
lists_to_change t a = (to_change t.knots, (to_change t.values, (to_change t.slopes, a)))

abbrev pub whole_to_change : {A : Type 0} → Table → A → ℕ × (MutBor (List ℤ) × (MutBor (List ℤ) × (MutBor (List ℤ) × A)))
whole_to_change t a = (t.s, lists_to_change t a)

abbrev pub refusal : (number place : ℕ) → Refusal
refusal number place = record { number = number; place = place }

-- Some result of a Rust function says this number, this place and this answer, and meets what the function ensures. `none` is what stands for the answer where it is refused.
abbrev pub Answers : {A : Type 0} → A → (Result A Refused → Type 0) → (number place : ℕ) → A → Type 0
Answers {A} none Post number place answer = (r : Result A Refused) × Says none r number place answer × Post r

-- ---- of a piece

module _ (s : ℕ) (h z m n : ℤ) where
  abbrev pub Judges : Result Verdict Refused → Type 0
  Judges verdict = piece-judge.Post tt (s, (h, (z, (m, (n, tt))))) verdict (s, (h, (z, (m, (n, tt)))))

  abbrev pub JudgesC : (number place verdict : ℕ) → Type 0
  JudgesC number place verdict = negwafir_judge.Post tt (s, (h, (z, (m, (n, tt))))) (record { refusal = refusal number place; verdict = verdict }) (s, (h, (z, (m, (n, tt)))))

-- with slopes in 1/U: the unit and the extent that a function takes are within their limits
module _ (U h z m n : ℤ) where
  pub record InLimits : Type 0 where
    pub unit : UnitSize U
    pub width : WidthWithin h
    pub rise : RiseWithin z

  abbrev pub handed : InLimits → SlopeUnit × (Extent × (ℤ × (ℤ × Unit {0})))
  handed w = (record { size = U; within = w.unit }, (record { h = h; z = z; width = w.width; rise = w.rise }, (m, (n, tt))))

  abbrev pub AskedMonotone : Type 0
  AskedMonotone = (w : InLimits) × piece-is_monotone.Pre tt (handed w)

  abbrev pub AskedCoefficients : Type 0
  AskedCoefficients = (w : InLimits) × piece-coefficients.Pre tt (handed w)

  abbrev pub SaysMonotone : AskedMonotone → Bool → Type 0
  SaysMonotone a b = piece-is_monotone.Post tt (handed a.0) b (handed a.0)

  abbrev pub HasCoefficients : AskedCoefficients → (first second third : ℤ) → Type 0
  HasCoefficients a first second third = piece-coefficients.Post tt (handed a.0) (record { first = first; second = second; third = third }) (handed a.0)

-- ---- of a table

module _ (t : Table) where
  abbrev pub PointsAnswer : (number place : ℕ) → Type 0
  PointsAnswer number place = Answers tt (λ r. table-points.Post one (lent t, tt) r (lent t, tt)) number place tt

  abbrev pub PointsAnswerC : (number place : ℕ) → Type 0
  PointsAnswerC number place = negwafir_points.Post three (whole t tt) (refusal number place) (whole t tt)

  abbrev pub Checks : (number place : ℕ) → Type 0
  Checks number place = Answers tt (λ r. table-check.Post one (lent t, tt) r (lent t, tt)) number place tt

  abbrev pub ChecksC : (number place : ℕ) → Type 0
  ChecksC number place = negwafir_check.Post three (whole t tt) (refusal number place) (whole t tt)

  abbrev pub Builds : (number place : ℕ) (after : List ℤ) → Type 0
  Builds number place after = Answers tt (λ r. slopes-build.Post three (whole_with t t.slopes tt) r (whole_with t after tt)) number place tt

  abbrev pub BuildsC : (number place : ℕ) (after : List ℤ) → Type 0
  BuildsC number place after = negwafir_build.Post three (whole_with t t.slopes tt) (refusal number place) (whole_with t after tt)

  -- the slopes of the points from one number up to another, in 1/U: the unit and the points are within their limits, and what the clauses ask
  module _ (U : ℤ) (from to : ℕ) where
    abbrev pub renewal : UnitSize U → PointsWithin t.knots t.values → List ℤ → SlopeUnit × (GoodPoints × (MutBor (List ℤ) × (ℕ × (ℕ × Unit {0}))))
    renewal u w slopes = (record { size = U; within = u }, (points_of w, (to_change slopes, (from, (to, tt)))))

    abbrev pub AskedRenewal : Type 0
    AskedRenewal = (u : UnitSize U) × (w : PointsWithin t.knots t.values) × slopes-renew.Pre ([], ([], tt)) (renewal u w t.slopes)

    abbrev pub RenewsTo : AskedRenewal → (after : List ℤ) → Type 0
    RenewsTo a after = slopes-renew.Post ([], ([], tt)) (renewal a.0 a.1 t.slopes) tt (renewal a.0 a.1 after)

  module _ (c : Change) where
    abbrev pub ChangedPoints : (number place : ℕ) → Type 0
    ChangedPoints number place = Answers tt (λ r. table-changed_points.Post one (lent t, (c, tt)) r (lent t, (c, tt))) number place tt

    abbrev pub ChangedPointsC : (number place : ℕ) → Type 0
    ChangedPointsC number place = negwafir_changed_points.Post three (whole t (c, tt)) (refusal number place) (whole t (c, tt))

    abbrev pub Changes : (number place : ℕ) (after : Table) → Type 0
    Changes number place after = Answers tt (λ r. change-point.Post three (whole_to_change t (c, tt)) r (t.s, lists_to_change after (c, tt))) number place tt

    abbrev pub ChangesC : (number place : ℕ) (after : Table) → Type 0
    ChangesC number place after = negwafir_change_point.Post three (whole_to_change t (c, tt)) (refusal number place) (t.s, lists_to_change after (c, tt))

module _ (xs : List ℤ) (i : ℕ) where
  abbrev pub AskedStep : Type 0
  AskedStep = table-step.Pre ([], tt) (list xs, (i, tt))

  abbrev pub Steps : ℤ → Type 0
  Steps by = table-step.Post ([], tt) (list xs, (i, tt)) by (list xs, (i, tt))

-- the points are within their limits, and what the clause asks holds
module _ (ks vs : List ℤ) (i : ℕ) where
  abbrev pub AskedPiece : Type 0
  AskedPiece = (w : PointsWithin ks vs) × table-GoodPoints-piece.Pre ([], tt) (points_of w, (i, tt))

  abbrev pub PieceIs : AskedPiece → Extent → Type 0
  PieceIs a e = table-GoodPoints-piece.Post ([], tt) (points_of a.0, (i, tt)) e (points_of a.0, (i, tt))

-- ---- of a table at a position

module _ (t : Table) (x : ℤ) where
  abbrev pub Locates : (number place piece : ℕ) → Type 0
  Locates number place piece = Answers 0 (λ r. position-locate.Post one (lent t, (x, tt)) r (lent t, (x, tt))) number place piece

  abbrev pub LocatesC : (number place piece : ℕ) → Type 0
  LocatesC number place piece = negwafir_locate.Post three (whole t (x, tt)) (record { refusal = refusal number place; piece = piece }) (whole t (x, tt))

  abbrev pub Finds : Result Inside Refused → Type 0
  Finds place = position-find.Post one (lent t, (x, tt)) place (lent t, (x, tt))

  -- the points are within their limits, and what the clause asks holds
  abbrev pub AskedSeek : Type 0
  AskedSeek = (w : PointsWithin t.knots t.values) × position-seek.Pre ([], ([], tt)) (points_of w, (list t.slopes, (x, tt)))

  abbrev pub Seeks : AskedSeek → Option Spot → Type 0
  Seeks a sought = position-seek.Post ([], ([], tt)) (points_of a.0, (list t.slopes, (x, tt))) sought (points_of a.0, (list t.slopes, (x, tt)))

  abbrev pub Evaluates : (number place : ℕ) (value : ℤ) → Type 0
  Evaluates number place value = Answers (pos 0) (λ r. curve-evaluate.Post one (lent t, (x, tt)) r (lent t, (x, tt))) number place value

  abbrev pub EvaluatesC : (number place : ℕ) (value : ℤ) → Type 0
  EvaluatesC number place value = negwafir_evaluate.Post three (whole t (x, tt)) (record { refusal = refusal number place; value = value }) (whole t (x, tt))

  abbrev pub Drives : (number place : ℕ) → Answer → Type 0
  Drives number place answer = Answers (Dwell (fin false 0 (pos 0))) (λ r. drive-float_answer.Post one (lent t, (x, tt)) r (lent t, (x, tt))) number place answer

  abbrev pub DrivesC : (number place kind : ℕ) (left numerator denominator : Float) → Type 0
  DrivesC number place kind left numerator denominator =
      negwafir_float_answer.Post three (whole t (x, tt)) (record { refusal = refusal number place; kind = kind; left = left; numerator = numerator; denominator = denominator }) (whole t (x, tt))
