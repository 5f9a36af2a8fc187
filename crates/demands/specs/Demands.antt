-- The user's three demands, word for word, as requests 2, 6 and 8 of document 02 amend them, as predicates of any implementation, and what document 01 says of answers beside them.
-- This file has no proof: it can be read from top to bottom. `BothMeet.antt` shows that ours meets them, as Rattle functions and as the library for C; `NothingElse.antt` that whatever meets them answers as ours does; and
-- `Wrong1.antt`, `Wrong2.antt`, `WrongEnds.antt`, `WrongUnits.antt`, `Wrong3.antt` and `Wrong01.antt` of wrong programs that they do not. What follows from the demands and has a file of its own, in the same words and without a proof:
--   `NeverBacksUp.antt`           request 10 of document 02: on no piece does the arm go against the rise, whoever proposed the slopes, and after whatever changes
--
-- How to read it:
--   f x y                         f of x and y; a relation may be written before its last ones: `CauseOf (check t) = Holds t` says that the cause is that of `Holds t`, at any number and place
--   A → B → C                     if A and B then C; → is read last: A → B ↔ C is A → (B ↔ C)
--   A ↔ B, A × B, A ⊎ B           A exactly if B; A and B; A or B
--   A → ⊥, x ≡ y                  not A; x equals y
--   (i : ℕ) → A, (i : ℕ) × A      A for every i; there is an i of which A holds. {i : ℕ} in place of (i : ℕ) says the same
--   ℕ, ℤ, pos n, negsuc n         whole numbers from 0 on, and with the negative ones: n, and −(n + 1), as numbers of ℤ
--   +ℤ, -ℤ, *ℤ, ≤ℤ, <ℤ            the arithmetic and order of ℤ, and +, ≤, < those of ℕ; products go before sums
--   x ∷ y ∷ [], xs ++ ys          the list of x and y; one list behind another
--   length, entry, step           how long a list is; its entry i, from 0, and 0 where it has none; entry i + 1 less entry i: of the knots the width of piece i, of the values its rise
--   record R : Type 0 where ..    either a thing with parts, such as a table, where r.part is that part of r; or a statement, which holds if all of the lines below it do. A line
--                                 that is a number or a list says that there is one
--   data D : .. where ..          either a choice of things, such as a call; or a statement, which holds if one of the lines below it does, each with its name before the colon
--   abbrev f : .., f x = y        f is short for what stands behind the sign; module _ (x : A) where: what follows speaks of any x
--   Unit, tt                      where nothing is to be said. Type 0, Type 1, pub and use say nothing to a reader
--   Table, table s ks vs ss       a table: the number s of its slope unit, and its three lists: knots, values, slopes
--   Change, changedBy c t         a change: the number of a point, c.point, its new knot and value, c.knot and c.value; the table t with its points as they would be after it
--   Finding, Telling              a verdict: rising, falling, flat, bends, or none where the piece is refused; what the drive is told: a dwell or a move, and resting is a dwell at +0
--   Holds, HoldsAt, HoldsFor,     the cause with a number holds at a place: of a table, at a position, for a float answer, and of the points as they would be after
--     HoldsAfter                  a change (`Table.antt` and `WouldBe.antt` of `table`, `Position.antt` of `position`, `Drive.antt` of `drive`)
--   UnitWithin s, unit s          s is in 0 to 8; the slope unit 2^s, which stands where document 01 and request 2 have 256, as request 8 has it: document 01 is s = 8 (`Limits.antt` of `rules`)
--   WidthWithin, RiseWithin       the limits of document 01 (there too)
--   SFits w32 x                   x is a signed number of 32 bits
--   Belongs ks x i                the position x belongs to piece i: a knot to the piece that starts there, and the last one to the last piece (`Position.antt`)
--   Renews n k i                  of n points, a change of point k renews slope i: i is k − 1, k or k + 1; or k is 2 and i is 0; or point k is the third from the end, k + 3 = n, and i the
--                                 last (`Change.antt` of `change`)
--   slopeAt, riseAt               the slope of a piece's cubic and the cubic, at a fraction of the width (`Piece.antt` of `cubic`)
--   Floor n d q                   q is n/d rounded down: q·d ≤ n < (q + 1)·d
--   magnitude x, with_sign z x     x without its sign; x with the sign of z
--   ToldAt t x a                  a is what the drive is to be told at x: on a flat piece a dwell at its value, on any other a move of three exact floats (`Drive.antt`)
-- `BothMeet.antt` also has the words in which our own functions promise what they do. They are not used here: `Given` says which number and place an order of causes gives, `Judged`, `Built`,
-- `Located`, `Evaluated`, `Driving` and `Changed` what comes out of a verdict, a build, .. and a change, and `Chain` that a list of such changes is made one after another.
use Rattle.std.specs.Prelude.{◌≡◌, ◌↔◌, ◌⊎◌, List, [], ◌∷◌, ◌++◌, ℕ, ◌+◌, ◌<◌, ◌≤◌, ℤ, pos, negsuc, ◌+ℤ◌, ◌-ℤ◌, ◌*ℤ◌, ◌≤ℤ◌, ◌<ℤ◌, length}
use Rattle.std.specs.Int.{w32}
use Rattle.std.proofs.Common.{SFits}
use Rattle.integers.specs.Promise.{Floor, magnitude, with_sign}
use Rattle.cubic.specs.Piece.{slope_at, rise_at}
use Rattle.rules.specs.Limits.{unit, UnitWithin, WidthWithin, RiseWithin}
use Rattle.table.specs.declared.changed.Change.{Change}
use Rattle.table.specs.Table.{Table, table, entry, step, Holds}
use Rattle.table.specs.WouldBe.{changed_by, HoldsAfter}
use Rattle.piece.specs.Promise.{Finding, rising, falling, flat, bends}
use Rattle.position.specs.Position.{Belongs, HoldsAt}
use Rattle.drive.specs.Drive.{Telling, resting, ToldAt, HoldsFor}
use Rattle.change.specs.Change.{Renews}

-- ======== What an implementation is

-- A call, and what comes in: a piece, as the number of its slope unit, its width, rise and two slopes; or a table, its three lists as they are at the call, and a position or a change. A change also comes
-- with the changes that were made before it since the table was built, the first one first: an implementation might remember them, and be right at the first alone. Nothing is
-- said of what other calls may remember: what they answer has to be right whatever went before.
pub data Call : Type 0 where
  judge : (s : ℕ) (h z m n : ℤ) → Call
  points build check : Table → Call
  locate evaluate float_answer : Table → (position : ℤ) → Call
  changed_points : Change → Table → Call
  point : (made : List Change) → Change → Table → Call

-- What is answered beside the refusal: a verdict, a piece, a value, what the drive is told, or nothing.
abbrev pub Reply : Call → Type 0
Reply (judge s h z m n) = Finding
Reply (points t) = Unit
Reply (build t) = Unit
Reply (check t) = Unit
Reply (locate t x) = ℕ
Reply (evaluate t x) = ℤ
Reply (float_answer t x) = Telling
Reply (changed_points c t) = Unit
Reply (point made c t) = Unit

-- The lists that are lent to be changed: to a build the slopes, to a change of a point all three, with the number of the slope unit, which is to stay. Every other list is lent to be read.
abbrev pub Lists : Call → Type 0
Lists (build t) = List ℤ
Lists (point made c t) = Table
Lists (judge s h z m n) = Unit
Lists (points t) = Unit
Lists (check t) = Unit
Lists (locate t x) = Unit
Lists (evaluate t x) = Unit
Lists (float_answer t x) = Unit
Lists (changed_points c t) = Unit

-- as they are at the call
abbrev pub lent : (call : Call) → Lists call
lent (build t) = t.slopes
lent (point made c t) = t
lent (judge s h z m n) = tt
lent (points t) = tt
lent (check t) = tt
lent (locate t x) = tt
lent (evaluate t x) = tt
lent (float_answer t x) = tt
lent (changed_points c t) = tt

-- What comes out: the number of the refusal, 0 for none, its place, the answer, and these lists when the call returns.
pub record Outcome (call : Call) : Type 0 where
  pub number : ℕ
  pub place : ℕ
  pub answer : Reply call
  pub lists : Lists call

-- An implementation says of each call what it asks of its caller, and what may come out.
pub record Implementation : Type 1 where
  pub Asks : Call → Type 0
  pub May : (call : Call) → Outcome call → Type 0

-- ======== The first demand

-- "The number given is the first cause that holds in this order", and "A larger s is refusal 12, place 0, asked first." (document 02, request 8)
abbrev pub order_of : Call → List ℕ
order_of (judge s h z m n) = 12 ∷ 3 ∷ 4 ∷ []
order_of (points t) = 12 ∷ 1 ∷ 2 ∷ 3 ∷ 4 ∷ []
order_of (build t) = 12 ∷ 1 ∷ 2 ∷ 3 ∷ 4 ∷ []
order_of (check t) = 12 ∷ 1 ∷ 2 ∷ 3 ∷ 4 ∷ 5 ∷ []
order_of (locate t x) = 12 ∷ 1 ∷ 2 ∷ 3 ∷ 4 ∷ 5 ∷ 6 ∷ []
order_of (evaluate t x) = 12 ∷ 1 ∷ 2 ∷ 3 ∷ 4 ∷ 5 ∷ 6 ∷ []
order_of (float_answer t x) = 12 ∷ 1 ∷ 2 ∷ 3 ∷ 4 ∷ 5 ∷ 6 ∷ 8 ∷ []
order_of (changed_points c t) = 12 ∷ 1 ∷ 2 ∷ 7 ∷ 3 ∷ 4 ∷ []
order_of (point made c t) = 12 ∷ 1 ∷ 2 ∷ 7 ∷ 3 ∷ 4 ∷ []

-- the causes of a piece alone, at place 0
pub data HoldsAlone (s : ℕ) (h z : ℤ) : ℕ → ℕ → Type 0 where
  no_such_unit : (UnitWithin s → ⊥) → HoldsAlone s h z 12 0
  width_outside : (WidthWithin h → ⊥) → HoldsAlone s h z 3 0
  rise_outside : (RiseWithin z → ⊥) → HoldsAlone s h z 4 0

-- when the cause with a number holds at a place
abbrev pub CauseOf : Call → ℕ → ℕ → Type 0
CauseOf (judge s h z m n) = HoldsAlone s h z
CauseOf (points t) = Holds t
CauseOf (build t) = Holds t
CauseOf (check t) = Holds t
CauseOf (locate t x) = HoldsAt t x
CauseOf (evaluate t x) = HoldsAt t x
CauseOf (float_answer t x) = HoldsFor t x
CauseOf (changed_points c t) = HoldsAfter c t
CauseOf (point made c t) = HoldsAfter c t

pub data Among (c : ℕ) : List ℕ → Type 0 where
  here : {more : List ℕ} → Among c (c ∷ more)
  behind : {d : ℕ} {more : List ℕ} → Among c more → Among c (d ∷ more)

module _ (Cause : ℕ → ℕ → Type 0) where
  -- no cause of a list holds anywhere
  pub record NoneHolds (causes : List ℕ) : Type 0 where
    pub none : (c place : ℕ) → Among c causes → Cause c place → ⊥

  -- "its cause holds and no earlier one does": c is a cause of the order, it holds at the place and at none before it, and none of the causes that stand before it in the
  -- order holds anywhere
  pub record First (order : List ℕ) (c place : ℕ) : Type 0 where
    pub earlier : List ℕ
    pub later : List ℕ
    pub order_is : order ≡ earlier ++ c ∷ later
    pub holds : Cause c place
    pub at_no_place_before : (q : ℕ) → q < place → Cause c q → ⊥
    pub no_earlier_one : NoneHolds earlier

-- two points whose counts lie at opposite ends of 32 bits: their difference would wrap to 1
abbrev pub opposite_ends : (s : ℕ) (v w m n : ℤ) → Table
opposite_ends s v w m n = table s (pos 2147483647 ∷ negsuc 2147483647 ∷ []) (v ∷ w ∷ []) (m ∷ n ∷ [])

-- the calls that look at a table, or would leave one
pub data LooksAt (t : Table) : Call → Type 0 where
  its_points : LooksAt t (points t)
  a_build : LooksAt t (build t)
  a_check : LooksAt t (check t)
  a_piece : (x : ℤ) → LooksAt t (locate t x)
  a_value : (x : ℤ) → LooksAt t (evaluate t x)
  a_float_answer : (x : ℤ) → LooksAt t (float_answer t x)
  its_changed_points : {c : Change} {before : Table} → c.point < length before.knots → changed_by c before ≡ t → LooksAt t (changed_points c before)
  a_change : {made : List Change} {c : Change} {before : Table} → c.point < length before.knots → changed_by c before ≡ t → LooksAt t (point made c before)

-- What may come in: lists of any length that hold any numbers. For a float answer the values are 32-bit ones, as document 01 has them: a float does not hold every number.
abbrev pub MayComeIn : Call → Type 0
MayComeIn (float_answer t x) = (i : ℕ) → i < length t.values → SFits w32 (entry t.values i)
MayComeIn (judge s h z m n) = Unit
MayComeIn (points t) = Unit
MayComeIn (build t) = Unit
MayComeIn (check t) = Unit
MayComeIn (locate t x) = Unit
MayComeIn (evaluate t x) = Unit
MayComeIn (changed_points c t) = Unit
MayComeIn (point made c t) = Unit

pub record Demand1 (I : Implementation) : Type 0 where
  -- "Any points, slopes, positions and edits may come in, from any list of any length."
  pub any_may_come_in : (call : Call) → MayComeIn call → (o : Outcome call) × I.May call o
  -- "Nothing traps, nothing is computed from a wrapped number,"
  --
  -- That a call ends, that no step of it traps and that no sum, difference, product, negation or cast leaves its type is nothing that an answer could show: the prover shows
  -- it of every function before it is compiled. What an answer can show is the case that the label on the cabinet is there for: a table of two points whose counts lie at opposite ends of
  -- 32 bits is, in any unit that there is, refused by 3, by whatever call looks at it or would leave it. (That every width outside its limits is refused, whatever it would wrap to, is part of the next sentence.)
  pub counts_at_opposite_ends_are_refused : {s : ℕ} {v w m n : ℤ} {call : Call} {o : Outcome call} → UnitWithin s → LooksAt (opposite_ends s v w m n) call → I.May call o → (o.number ≡ 3) × (o.place ≡ 0)
  -- "and nobody is asked to have tested first."
  pub nobody_is_asked : (call : Call) → I.Asks call
  -- "Each refusal has its number and place by a fixed order, is given exactly when its cause holds and no earlier one does,"
  pub refused_exactly_then : {call : Call} {o : Outcome call} → I.May call o → (c q : ℕ) → 0 < c → ((o.number ≡ c) × (o.place ≡ q)) ↔ First (CauseOf call) (order_of call) c q
  pub done_at_place_0 : {call : Call} {o : Outcome call} → I.May call o → o.number ≡ 0 → o.place ≡ 0
  -- "and changes no list we lent you."
  pub changes_no_list : {call : Call} {o : Outcome call} → I.May call o → (o.number ≡ 0 → ⊥) → o.lists ≡ lent call

-- ======== The second demand

pub data CalledByItsRise (z : ℤ) : Finding → Type 0 where
  it_rises : pos 0 <ℤ z → CalledByItsRise z rising
  it_falls : z <ℤ pos 0 → CalledByItsRise z falling
  it_is_flat : z ≡ pos 0 → CalledByItsRise z flat

-- "In the rules of document 01 and CR 2 read 2^s for 256, 3·2^s for 768": U is that 2^s, the slope unit, from here on.

module _ (U h z m n : ℤ) where
  -- the slope of the piece's cubic at the fraction k/q of its width, times U·h·q², and what the cubic has risen by up to there, times U·q³
  abbrev pub slope : (k q : ℕ) → ℤ
  slope k q = slope_at (U *ℤ z) (m *ℤ h) (n *ℤ h) (pos k) (pos q)

  abbrev pub rise : (k q : ℕ) → ℤ
  rise k q = rise_at (U *ℤ z) (m *ℤ h) (n *ℤ h) (pos k) (pos q)

  -- "its cubic has no slope against its rise at any fraction of its width, or, without a rise, is level throughout"
  pub record NoSlopeAgainstItsRise : Type 0 where
    pub while_rising : pos 0 <ℤ z → (k q : ℕ) → 1 ≤ q → k ≤ q → pos 0 ≤ℤ slope k q
    pub while_falling : z <ℤ pos 0 → (k q : ℕ) → 1 ≤ q → k ≤ q → slope k q ≤ℤ pos 0
    pub while_level : z ≡ pos 0 → (k q : ℕ) → 1 ≤ q → k ≤ q → rise k q ≡ pos 0

  -- v less the exact value, t counts into the piece, times U·h³. The exact value is the left value and what the cubic has risen by since, which riseAt says times U·h³.
  abbrev pub less_exact : (left t v : ℤ) → ℤ
  less_exact left t v = (v -ℤ left) *ℤ (U *ℤ (h *ℤ h *ℤ h)) -ℤ rise_at (U *ℤ z) (m *ℤ h) (n *ℤ h) t h

  -- "rounded to the nearest whole number, a half going up, for rising and falling alike": |2·(v − exact)| is at most 1, and where it is 1 v lies above the exact value. Nothing is
  -- asked of the rise.
  pub record NearestToExact (left t v : ℤ) : Type 0 where
    pub at_most_a_half_away : magnitude (pos 2 *ℤ less_exact left t v) ≤ℤ (U *ℤ (h *ℤ h *ℤ h))
    pub a_half_goes_up : magnitude (pos 2 *ℤ less_exact left t v) ≡ U *ℤ (h *ℤ h *ℤ h) → pos 0 <ℤ less_exact left t v

-- every piece of a table, with the slopes that it has, is so
abbrev pub NoneAgainst : Table → Type 0
NoneAgainst t = (i : ℕ) → i + 1 < length t.knots → NoSlopeAgainstItsRise (unit t.s) (step t.knots i) (step t.values i) (entry t.slopes i) (entry t.slopes (i + 1))

-- "Times 256, rounded toward zero once, at the end": m is above/below in the unit U. Its size is U·|above|/below, rounded down, and its sign that of above.
pub record InUnits (U above below m : ℤ) : Type 0 where
  pub size : Floor (U *ℤ magnitude above) below (magnitude m)
  pub sign : m ≡ with_sign above (magnitude m)

-- document 01's rule at the ends, as request 2 of document 02 amends it: "for the end piece h1, z1 and its neighbour h2, z2, take ((2·h1 + h2)·z1/h1 − h1·z2/h2)/(h1 + h2)". Its numerator and
-- its denominator, both times h1·h2, so that the latter is above 0:
abbrev pub end_above : (h₁ z₁ h₂ z₂ : ℤ) → ℤ
end_above h₁ z₁ h₂ z₂ = (pos 2 *ℤ h₁ +ℤ h₂) *ℤ z₁ *ℤ h₂ -ℤ h₁ *ℤ z₂ *ℤ h₁

abbrev pub end_below : (h₁ h₂ : ℤ) → ℤ
end_below h₁ h₂ = h₁ *ℤ h₂ *ℤ (h₁ +ℤ h₂)

pub record EndRule (U h₁ z₁ h₂ z₂ m : ℤ) : Type 0 where
  -- "If it is zero or opposes z1 (or z1 = 0), the slope is 0."
  pub zero_or_opposed : (end_above h₁ z₁ h₂ z₂ *ℤ z₁) ≤ℤ pos 0 → m ≡ pos 0
  -- "If z1 and z2 have opposite signs and its magnitude exceeds 3·|z1|/h1, that bound is taken with z1's sign."
  pub beyond_the_bound : pos 0 <ℤ (end_above h₁ z₁ h₂ z₂ *ℤ z₁) → (z₁ *ℤ z₂) <ℤ pos 0 → (pos 3 *ℤ magnitude z₁ *ℤ end_below h₁ h₂) <ℤ (magnitude (end_above h₁ z₁ h₂ z₂) *ℤ h₁)
      → InUnits U (with_sign z₁ (pos 3 *ℤ magnitude z₁)) h₁ m
  -- otherwise it is the quotient itself
  pub otherwise : pos 0 <ℤ (end_above h₁ z₁ h₂ z₂ *ℤ z₁) → ((z₁ *ℤ z₂) <ℤ pos 0 → (magnitude (end_above h₁ z₁ h₂ z₂) *ℤ h₁) ≤ℤ (pos 3 *ℤ magnitude z₁ *ℤ end_below h₁ h₂))
      → InUnits U (end_above h₁ z₁ h₂ z₂) (end_below h₁ h₂) m

-- Fritsch and Butland's mean: "If z1·z2 ≤ 0 its slope is 0. Otherwise, with magnitudes of z1 and z2, it is
-- 768·(h1 + h2)·z1·z2 / ((h1 + 2·h2)·h1·z2 + (2·h1 + h2)·h2·z1) rounded down, then given the sign of the rises."
pub record MeanRule (U h₁ z₁ h₂ z₂ m : ℤ) : Type 0 where
  pub apart : (z₁ *ℤ z₂) ≤ℤ pos 0 → m ≡ pos 0
  pub size : pos 0 <ℤ (z₁ *ℤ z₂) → Floor (pos 3 *ℤ U *ℤ (h₁ +ℤ h₂) *ℤ magnitude z₁ *ℤ magnitude z₂) ((h₁ +ℤ pos 2 *ℤ h₂) *ℤ h₁ *ℤ magnitude z₂ +ℤ (pos 2 *ℤ h₁ +ℤ h₂) *ℤ h₂ *ℤ magnitude z₁) (magnitude m)
  pub sign : pos 0 <ℤ (z₁ *ℤ z₂) → m ≡ with_sign z₁ (magnitude m)

-- the slope m at point i keeps its rule: between two pieces the mean, and at the first point and at the last that of the ends, for the end piece and its neighbour
pub record RightSlope (U : ℤ) (knots values : List ℤ) (i : ℕ) (m : ℤ) : Type 0 where
  -- "Two points keep the secant."
  pub of_two : length knots ≡ 2 → InUnits U (step values 0) (step knots 0) m
  -- "With three or more points use PCHIM's end rule"
  pub first : i ≡ 0 → 2 < length knots → EndRule U (step knots 0) (step values 0) (step knots 1) (step values 1) m
  pub inner : (j : ℕ) → i ≡ j + 1 → i + 1 < length knots → MeanRule U (step knots j) (step values j) (step knots i) (step values i) m
  pub last : (j : ℕ) → i ≡ j + 2 → i + 1 ≡ length knots → EndRule U (step knots (j + 1)) (step values (j + 1)) (step knots j) (step values j) m

pub record RightSlopes (U : ℤ) (knots values slopes : List ℤ) : Type 0 where
  pub as_many : length slopes ≡ length knots
  pub each : (i : ℕ) → i < length knots → RightSlope U knots values i (entry slopes i)

-- v is nearest to the exact value on the piece that the position x belongs to
pub record ExactRounded (t : Table) (x v : ℤ) : Type 0 where
  pub piece : ℕ
  pub belongs : Belongs t.knots x piece
  pub nearest : NearestToExact (unit t.s) (step t.knots piece) (step t.values piece) (entry t.slopes piece) (entry t.slopes (piece + 1)) (entry t.values piece) (x -ℤ entry t.knots piece) v

pub record Demand2 (I : Implementation) : Type 0 where
  -- "A piece within the limits gets a yes exactly when its cubic has no slope against its rise at any fraction of its width, or, without a rise, is level throughout,
  -- whoever proposed the slopes."
  --
  -- A yes is any verdict but `bends`; and with a yes the piece is called by its rise.
  pub a_piece_gets_a_yes_exactly_then : {s : ℕ} {h z m n : ℤ} {o : Outcome (judge s h z m n)} → UnitWithin s → WidthWithin h → RiseWithin z → I.May (judge s h z m n) o → (o.answer ≡ bends → ⊥) ↔ NoSlopeAgainstItsRise (unit s) h z m n
  pub and_is_called_by_its_rise : {s : ℕ} {h z m n : ℤ} {o : Outcome (judge s h z m n)} → UnitWithin s → WidthWithin h → RiseWithin z → I.May (judge s h z m n) o → NoSlopeAgainstItsRise (unit s) h z m n → CalledByItsRise z o.answer
  pub so_does_a_table : {t : Table} {o : Outcome (check t)} → NoneHolds (Holds t) (12 ∷ 1 ∷ 2 ∷ 3 ∷ 4 ∷ []) → I.May (check t) o → (o.number ≡ 0) ↔ NoneAgainst t
  -- "Slopes you build are Fritsch and Butland's mean at inner points and document 01's rule at the two ends, in its units," that rule as request 2 of document 02 amends it, and the units those of the table, as request 8 does
  pub slopes_you_build : {t : Table} {o : Outcome (build t)} → I.May (build t) o → o.number ≡ 0 → RightSlopes (unit t.s) t.knots t.values o.lists
  -- "and get a yes always."
  pub get_a_yes_always : {t : Table} {o : Outcome (build t)} {p : Outcome (check (table t.s t.knots t.values o.lists))}
      → I.May (build t) o → o.number ≡ 0 → I.May (check (table t.s t.knots t.values o.lists)) p → p.number ≡ 0
  -- "The value at a position becomes the exact value rounded to the nearest whole number, a half going up, for rising and falling alike." (document 02, request 6)
  pub the_value_at_a_position : {t : Table} {x : ℤ} {o : Outcome (evaluate t x)} → I.May (evaluate t x) o → o.number ≡ 0 → ExactRounded t x o.answer

-- ======== The third demand

-- A list of changes, made one after another. `none`: no change leaves the table as it is. `next`: the first change is made of the table, with whatever it answers, and the others of the
-- table that it left. `made` are those that were made before.
pub data ChainOf (I : Implementation) : (made : List Change) → List Change → (before after : Table) → Type 0 where
  none : {made : List Change} {t : Table} → ChainOf I made [] t t
  next : {made : List Change} {c : Change} {more : List Change} {t after : Table} {o : Outcome (point made c t)} → I.May (point made c t) o → ChainOf I (made ++ c ∷ []) more o.lists after
      → ChainOf I made (c ∷ more) t after

pub record JustThis (c : Change) (before after : Table) : Type 0 where
  -- "puts the new knot and value at that point,"
  pub knot : entry after.knots c.point ≡ c.knot
  pub value : entry after.values c.point ≡ c.value
  -- "renews the slopes at it and beside it," and "a change of point 2 also renews slope 0, and a change of the third point from the end also renews the last slope." (document 02, request 2)
  pub the_renewed_slopes : (i : ℕ) → i < length before.knots → Renews (length before.knots) c.point i → RightSlope (unit after.s) after.knots after.values i (entry after.slopes i)
  -- "and touches nothing else."
  pub other_knots : (i : ℕ) → (i ≡ c.point → ⊥) → entry after.knots i ≡ entry before.knots i
  pub other_values : (i : ℕ) → (i ≡ c.point → ⊥) → entry after.values i ≡ entry before.values i
  pub other_slopes : (i : ℕ) → i < length before.knots → (Renews (length before.knots) c.point i → ⊥) → entry after.slopes i ≡ entry before.slopes i
  pub as_many_knots : length after.knots ≡ length before.knots
  pub as_many_values : length after.values ≡ length before.values
  pub as_many_slopes : length after.slopes ≡ length before.slopes
  pub the_same_unit : after.s ≡ before.s

pub record Demand3 (I : Implementation) : Type 0 where
  -- "Change one point of a table whose slopes you built, any number of times, refused changes among them: the slopes then equal those built afresh from the points as they
  -- stand."
  --
  -- A build leaves slopes; any list of changes is made; a build of the points as they then stand, in the unit that the table then has, over any list of as many slopes, is not refused, and leaves just the
  -- slopes that stand there.
  pub the_slopes_equal_those_built_afresh : {t : Table} {o : Outcome (build t)} {changes : List Change} {u : Table} {again : List ℤ} {p : Outcome (build (table u.s u.knots u.values again))}
      → I.May (build t) o → o.number ≡ 0 → ChainOf I [] changes (table t.s t.knots t.values o.lists) u → length again ≡ length u.knots
      → I.May (build (table u.s u.knots u.values again)) p → (p.number ≡ 0) × (p.lists ≡ u.slopes)
  -- "Each accepted change puts the new knot and value at that point, renews the slopes at it and beside it, and touches nothing else." And "a change of point 2 also renews slope 0, and a
  -- change of the third point from the end also renews the last slope."
  pub each_accepted_change_does_just_this : {made : List Change} {c : Change} {t : Table} {o : Outcome (point made c t)} → I.May (point made c t) o → o.number ≡ 0 → JustThis c t o.lists
  -- "It is refused exactly when a fresh build of the changed points would be, or the point isn't there."
  pub refused_exactly_as_a_build : {made : List Change} {c : Change} {t : Table} {o : Outcome (point made c t)} {p : Outcome (build (changed_by c t))} → I.May (point made c t) o
      → I.May (build (changed_by c t)) p → (o.number ≡ 0 → ⊥) ↔ ((p.number ≡ 0 → ⊥) ⊎ (length t.knots ≤ c.point))

-- ======== What document 01 says of answers beside

-- what a refused call answers
abbrev pub nothing : (call : Call) → Reply call
nothing (judge s h z m n) = Finding.none
nothing (points t) = tt
nothing (build t) = tt
nothing (check t) = tt
nothing (locate t x) = 0
nothing (evaluate t x) = pos 0
nothing (float_answer t x) = resting
nothing (changed_points c t) = tt
nothing (point made c t) = tt

pub record Document01 (I : Implementation) : Type 0 where
  -- "A one-piece refusal answers place 0 and none of the four verdicts. A refused call writes to no list, and its value, if it has one, is 0. A refused float answer is a dwell
  -- at level 0."
  pub a_refused_call_answers_nothing : {call : Call} {o : Outcome call} → I.May call o → (o.number ≡ 0 → ⊥) → o.answer ≡ nothing call
  -- "A position at an inner knot belongs to the piece that starts there; the last knot belongs to the last piece."
  pub the_piece_of_a_position : {t : Table} {x : ℤ} {o : Outcome (locate t x)} → I.May (locate t x) o → o.number ≡ 0 → Belongs t.knots x o.answer
  -- "A flat piece answers a dwell that carries its level as a 64-bit float. Any other answers a move: one record of three 64-bit floats, the left value, the numerator above and
  -- 256·h³.", where U stands for 256
  pub what_the_drive_is_told : {t : Table} {x : ℤ} {o : Outcome (float_answer t x)} → I.May (float_answer t x) o → o.number ≡ 0 → ToldAt t x o.answer
