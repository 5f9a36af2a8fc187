-- Wrong programs that do not give the sixteen, each by one of them.
use Rattle.std.specs.Prelude.{◌≡◌, refl, List, [], ◌∷◌, ℕ, zero, suc, ℤ, pos, negsuc, ◌+ℤ◌}
use Rattle.std.proofs.Common.{ap}
use Rattle.std.specs.Int.Signed.{le_z_yes, lt_z_yes}
use Rattle.integers.specs.Promise.{floor_of}
use Rattle.rules.specs.Limits.{unit}
use Rattle.cubic.specs.Value.{numerator, denominator}
use Rattle.table.specs.Accepted.{points_accepted}
use Rattle.table.specs.Table.{entry}
use Rattle.rules.specs.Refusals.{answered}
use Rattle.piece.specs.Promise.{Finding, rising, falling, flat, bends}
use Rattle.demands.specs.Demands.{build, Implementation}
use Rattle.demands.specs.Sixteen.{Case, Gives, All, none, ◌&◌, TheSixteen}
use Rattle.demands.proofs.SixteenGiven.{eighth}
use Rattle.demands.specs.Refuting.{numbers_differ}
use Rattle.demands.proofs.Programs.{outcome, may, answering, another_judge, two, two_built, three_within, at_1, minus_three, ByThePaper, turned_away, not_by_less}
use Rattle.demands.proofs.WrongEnds.{at_the_first, secant}
use Rattle.demands.proofs.Wrong2.{BySigns, leaving, idle_afterwards, valued_by, rounded_by, nearest_toward_zero}

-- what case i of a list says
abbrev Says : Implementation → List Case → ℕ → Type 0
Says I [] i = Unit
Says I (c ∷ more) zero = Gives I c
Says I (c ∷ more) (suc i) = Says I more i

case : {I : Implementation} {cases : List Case} → All I cases → (i : ℕ) → Says I cases i
case none i = tt
case (g & more) zero = g
case (g & more) (suc i) = case more i

-- a verdict as a number
abbrev numbered : Finding → ℤ
numbered rising = pos 1
numbered falling = pos 2
numbered flat = pos 3
numbered bends = pos 4
numbered Finding.none = pos 0

-- the second: 1, 1, 768, 768 rises
pub not_by_the_papers_less : TheSixteen (answering (another_judge ByThePaper)) → ⊥
not_by_the_papers_less s = numbers_differ tt (ap numbered ((case s.each_is_given 1).1 (outcome 0 0 bends tt) (turned_away (lt_z_yes tt) not_by_less)).2)

-- the fifth: 1, 1, 1025, 256 bends
pub not_by_the_signs : TheSixteen (answering (another_judge BySigns)) → ⊥
not_by_the_signs s = numbers_differ tt (ap numbered ((case s.each_is_given 4).1 (outcome 0 0 rising tt) (BySigns.accepted (lt_z_yes tt) (le_z_yes tt) (le_z_yes tt))).2)

-- the thirteenth: (0,0), (1,1), (2,4) have the slopes 0, 384, 1024
pub not_by_an_idle_builder : TheSixteen (answering (leaving idle_afterwards)) → ⊥
not_by_an_idle_builder s =
    let before = pos 0 ∷ pos 0 ∷ pos 0 ∷ [] in
    numbers_differ tt (ap (λ (slopes : List ℤ). entry slopes 1) ((case s.each_is_given 12 before refl).1 (outcome 0 0 tt (pos 0 ∷ pos 0 ∷ pos 0 ∷ [])) (points_accepted eighth three_within refl, refl)).2)

-- and so not by the rule that document 01 had, at the first end
pub not_by_the_old_end_rule : TheSixteen (answering (at_the_first secant)) → ⊥
not_by_the_old_end_rule s =
    let before = pos 0 ∷ pos 0 ∷ pos 0 ∷ [] in
    numbers_differ tt (ap (λ (slopes : List ℤ). entry slopes 0) ((case s.each_is_given 12 before refl).1 (outcome 0 0 tt (pos 256 ∷ pos 384 ∷ pos 1024 ∷ [])) (points_accepted eighth three_within refl, refl)).2)

-- the last: (0,0), (3,−10) have −3 at position 1, and not −4 or −2
at_the_last : (round : ℤ → ℤ → ℤ) → TheSixteen (answering (valued_by (rounded_by round))) → pos 0 +ℤ round (numerator (unit 8) (pos 3) (negsuc 9) (negsuc 852) (negsuc 852) (pos 1)) (denominator (unit 8) (pos 3)) ≡ negsuc 2
at_the_last round s = ((case s.each_is_given 15 two.slopes refl (outcome 0 0 tt two.slopes) (may (build two) (outcome 0 0 tt two.slopes) (two_built two.slopes refl))).1 (outcome 0 0 _ tt) (minus_three.refusal, answered (0, (at_1, refl)))).2

pub not_by_rounding_down : TheSixteen (answering (valued_by (rounded_by floor_of))) → ⊥
not_by_rounding_down s = numbers_differ tt (at_the_last floor_of s)

pub not_by_division_toward_zero : TheSixteen (answering (valued_by (rounded_by nearest_toward_zero))) → ⊥
not_by_division_toward_zero s = numbers_differ tt (at_the_last nearest_toward_zero s)

-- the first: 1, 1, 256, 256 is answered at all
pub not_by_silence : TheSixteen (answering (λ call o. ⊥)) → ⊥
not_by_silence s = (case s.each_is_given 0).0
