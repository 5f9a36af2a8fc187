-- Each test is of the piece's width, its rise or its cubic.
use Rattle.std.specs.Prelude.{◌≡◌, refl, Bool, List, [], ◌∷◌, ◌≤◌, ℤ, ◌-ℤ◌}
use Rattle.std.proofs.Common.{arith, rules, SFits, to_z, of_z}
use Rattle.std.specs.Int.{w32, w64}
use Rattle.integers.specs.Promise.{Decided}
use Rattle.integers.specs.Decided.{told, denied, asked}
use Rattle.integers.specs.Within.{Within}
use Rattle.integers.specs.Sizes.{Known, known, held, plain_is, code}
use Rattle.integers.specs.Arguments.{arguments, plainly₅}
use Rattle.cubic.specs.Piece.{Monotone}
use Rattle.rules.specs.Limits.{WidthWithin, RiseWithin}
use Rattle.rules.specs.Known.{UnitSize, known_unit}
use Rattle.table.specs.declared.search.End.{End}
use Rattle.table.specs.declared.search.Fault.{Fault}
use Rattle.table.specs.declared.search.Fault.TheVariants.{Width, Rise, Bend}
use Rattle.table.specs.Search.{fault_number}
use Rattle.table.specs.Fault.{none, in_width, in_rise, in_cubic}
use Rattle.table.proofs.search.first_fault.Goals as goal

-- what is asked, by what is not the last
behind_width : (f : Fault) → (f ≡ Width → ⊥) → 4 ≤ fault_number f
behind_width Width n = absurd (n refl)
behind_width Rise n = omega arith
behind_width Bend n = omega arith

behind_rise : (f : Fault) → (f ≡ Width → ⊥) → (f ≡ Rise → ⊥) → 5 ≤ fault_number f
behind_rise Width n m = absurd (n refl)
behind_rise Rise n m = absurd (m refl)
behind_rise Bend n m = omega arith

-- by what the caller says of the points' numbers, what is answered of a difference of two as the code has it is answered of the difference
module _ {U : ℤ} (l r : End) (u : UnitSize U) (k : Within 2147483648 l.knot × Within 2147483648 r.knot) (v : Within 2147483648 l.value × Within 2147483648 r.value) where
  abbrev ends : List Known
  ends = known_unit U u ∷ known l.knot _ k.0 ∷ known r.knot _ k.1 ∷ known l.value _ v.0 ∷ known r.value _ v.1 ∷ []

  width : {b : Bool} → Decided (WidthWithin (to_z w64 (of_z w64 (to_z w64 (of_z w64 r.knot) -ℤ to_z w64 (of_z w64 l.knot))))) b → Decided (WidthWithin (r.knot -ℤ l.knot)) b
  width = asked WidthWithin (plain_is {Γ = ends} (search code depth 30 fits 9000) tt)

  rise : {b : Bool} → Decided (RiseWithin (to_z w64 (of_z w64 (to_z w64 (of_z w64 r.value) -ℤ to_z w64 (of_z w64 l.value))))) b → Decided (RiseWithin (r.value -ℤ l.value)) b
  rise = asked RiseWithin (plain_is {Γ = ends} (search code depth 30 fits 9000) tt)

pub returns-then-not-width_within : goal.returns-then-not-width_within
returns-then-not-width_within c =
    in_width (denied (width c.args.left c.args.right c.args.unit.within c.requires.knots c.requires.values c.width_within.ensures) c.if-not-width_within.true)

pub returns-in-Width : goal.returns-in-Width
returns-in-Width c =
    rw c.in-Width.is
    (none (told (width c.args.left c.args.right c.args.unit.within c.requires.knots c.requires.values c.width_within.ensures) c.if-not-width_within.false) (λ (l : 4 ≤ 3). absurd (omega arith)) (λ (l : 5 ≤ 3). absurd (omega arith)))

pub returns-then-not-rise_within : goal.returns-then-not-rise_within
returns-then-not-rise_within c =
    in_rise (behind_width c.args.last c.in_default.not-Width)
    (told (width c.args.left c.args.right c.args.unit.within c.requires.knots c.requires.values c.width_within.ensures) c.if-not-width_within.false)
    (denied (rise c.args.left c.args.right c.args.unit.within c.requires.knots c.requires.values c.rise_within.ensures) c.if-not-rise_within.true)

pub returns-in-Rise : goal.returns-in-Rise
returns-in-Rise c =
    rw c.in-Rise.is
    (none (told (width c.args.left c.args.right c.args.unit.within c.requires.knots c.requires.values c.width_within.ensures) c.if-not-width_within.false)
    (λ _. told (rise c.args.left c.args.right c.args.unit.within c.requires.knots c.requires.values c.rise_within.ensures) c.if-not-rise_within.false) (λ (l : 5 ≤ 4). absurd (omega arith)))

pub invariant_of-is_monotone : goal.invariant_of-is_monotone
invariant_of-is_monotone c =
    record { width = told c.width_within.ensures c.if-not-width_within.false; rise = told c.rise_within.ensures c.if-not-rise_within.false }

-- and so of a piece's cubic
monotone : {U : ℤ} (l r : End) (u : UnitSize U) (k : Within 2147483648 l.knot × Within 2147483648 r.knot) (v : Within 2147483648 l.value × Within 2147483648 r.value) → SFits w32 l.slope → SFits w32 r.slope
    → {b : Bool} → Decided (Monotone U (to_z w64 (of_z w64 (to_z w64 (of_z w64 r.knot) -ℤ to_z w64 (of_z w64 l.knot)))) (to_z w64 (of_z w64 (to_z w64 (of_z w64 r.value) -ℤ to_z w64 (of_z w64 l.value)))) (to_z w32 (of_z w32 l.slope)) (to_z w32 (of_z w32 r.slope))) b
    → Decided (Monotone U (r.knot -ℤ l.knot) (r.value -ℤ l.value) l.slope r.slope) b
monotone l r u k v m n {b} d =
    plainly₅ (held w32 l.slope m ∷ held w32 r.slope n ∷ ends l r u k v) (λ (U h z m n : ℤ). Decided (Monotone U h z m n) b) d (search code depth 30 fits 9000) (search arguments depth 30 fits 9000) tt

pub returns-then-not-is_monotone : goal.returns-then-not-is_monotone
returns-then-not-is_monotone c =
    in_cubic (behind_rise c.args.last c.in_default.not-Width c.in_default-last.not-Rise)
    (told (width c.args.left c.args.right c.args.unit.within c.requires.knots c.requires.values c.width_within.ensures) c.if-not-width_within.false)
    (told (rise c.args.left c.args.right c.args.unit.within c.requires.knots c.requires.values c.rise_within.ensures) c.if-not-rise_within.false)
    (denied (monotone c.args.left c.args.right c.args.unit.within c.requires.knots c.requires.values (search rules) (search rules) c.is_monotone.ensures) c.if-not-is_monotone.true)

pub returns : goal.returns
returns c =
    none (told (width c.args.left c.args.right c.args.unit.within c.requires.knots c.requires.values c.width_within.ensures) c.if-not-width_within.false)
    (λ _. told (rise c.args.left c.args.right c.args.unit.within c.requires.knots c.requires.values c.rise_within.ensures) c.if-not-rise_within.false)
    (λ _. told (monotone c.args.left c.args.right c.args.unit.within c.requires.knots c.requires.values (search rules) (search rules) c.is_monotone.ensures) c.if-not-is_monotone.false)
