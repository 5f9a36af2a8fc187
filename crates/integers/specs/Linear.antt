-- Linear arithmetic over ℤ. `Says S` reads a statement S made of ≤ℤ, <ℤ, ≡, →, × and ⊥ as one of ℕ, through the parts of each number,
-- and `omega` closes that: `lin ρ (search says depth 30 fits 9000) (omega arith)` proves S over the unknowns ρ. The hypotheses stay unbound, as arrows of S.
use Rattle.std.specs.Prelude.{◌≡◌, List, ℕ, suc, ◌+◌, ◌*◌, ◌≤◌, ◌<◌, ℤ, pos, negsuc, neg_ℤ, ◌+ℤ◌, ◌*ℤ◌, ◌≤ℤ◌, ◌<ℤ◌}
use Rattle.std.proofs.Common.{arith}
use Rattle.integers.specs.Ring.{Among, here, there}
use Rattle.integers.specs.Parts.{P, Q, Diff, diff_self, diff_add, diff_neg, diff_times, diff_times_below, from_parts, to_parts, ≤_to, ≤_from, <_to, <_from}

-- a linear expression over the unknowns ρ that denotes x
pub data Linear (ρ : List ℤ) : ℤ → Type 0 where
  number : (n : ℕ) → Linear ρ (pos n)
  below : (n : ℕ) → Linear ρ (negsuc n)
  plus : {x y : ℤ} → Linear ρ x → Linear ρ y → Linear ρ (x +ℤ y)
  minus : {x : ℤ} → Linear ρ x → Linear ρ (neg_ℤ x)
  times : (n : ℕ) {x : ℤ} → Linear ρ x → Linear ρ (pos n *ℤ x)
  times_below : (n : ℕ) {x : ℤ} → Linear ρ x → Linear ρ (negsuc n *ℤ x)
  unknown : {x : ℤ} → Among x ρ → Linear ρ x

-- it denotes the difference of these two numbers
abbrev two : {ρ : List ℤ} {x : ℤ} → Linear ρ x → ℕ × ℕ
two (number n) = (n, 0)
two (below n) = (0, suc n)
two (plus l m) = ((two l).0 + (two m).0, (two l).1 + (two m).1)
two (minus l) = ((two l).1, (two l).0)
two (times n l) = (n * (two l).0, n * (two l).1)
two (times_below n l) = (suc n * (two l).1, suc n * (two l).0)
two (unknown {x} v) = (P x, Q x)

two_diff : {ρ : List ℤ} {x : ℤ} (l : Linear ρ x) → Diff x (two l).0 (two l).1
two_diff (number n) = diff_self (pos n)
two_diff (below n) = diff_self (negsuc n)
two_diff (plus l m) = diff_add (two_diff l) (two_diff m)
two_diff (minus l) = diff_neg (two_diff l)
two_diff (times n l) = diff_times n (two_diff l)
two_diff (times_below n l) = diff_times_below n (two_diff l)
two_diff (unknown {x} v) = diff_self x

-- a statement that can be read
pub data Says (ρ : List ℤ) : Type 0 → Type 1 where
  at_most : {x y : ℤ} → Linear ρ x → Linear ρ y → Says ρ (x ≤ℤ y)
  less : {x y : ℤ} → Linear ρ x → Linear ρ y → Says ρ (x <ℤ y)
  equal : {x y : ℤ} → Linear ρ x → Linear ρ y → Says ρ (x ≡ y)
  implies : {A B : Type 0} → Says ρ A → Says ρ B → Says ρ (A → B)
  both : {A B : Type 0} → Says ρ A → Says ρ B → Says ρ (A × B)
  never : Says ρ ⊥

pub ruleset says = (at_most, less, equal, implies, both, never, number, below, times, times_below, plus, minus, unknown, here, there)

abbrev pub meaning : {ρ : List ℤ} {S : Type 0} → Says ρ S → Type 0
meaning (at_most l m) = (two l).0 + (two m).1 ≤ (two m).0 + (two l).1
meaning (less l m) = (two l).0 + (two m).1 < (two m).0 + (two l).1
meaning (equal l m) = (two l).0 + (two m).1 ≡ (two m).0 + (two l).1
meaning (implies a b) = meaning a → meaning b
meaning (both a b) = meaning a × meaning b
meaning never = ⊥

reading : {ρ : List ℤ} {S : Type 0} (s : Says ρ S) → (S → meaning s) × (meaning s → S)
reading (at_most {x} {y} l m) = (
  λ h. omega (arith, ≤_to x y h, (two_diff l).same, (two_diff m).same),
  λ h. ≤_from x y (omega (arith, h, (two_diff l).same, (two_diff m).same)),
)
reading (less {x} {y} l m) = (
  λ h. omega (arith, <_to x y h, (two_diff l).same, (two_diff m).same),
  λ h. <_from x y (omega (arith, h, (two_diff l).same, (two_diff m).same)),
)
reading (equal {x} {y} l m) = (
  λ h. omega (arith, to_parts h, (two_diff l).same, (two_diff m).same),
  λ h. from_parts x y (omega (arith, h, (two_diff l).same, (two_diff m).same)),
)
reading (implies a b) = (λ f m. (reading b).0 (f ((reading a).1 m)), λ f s. (reading b).1 (f ((reading a).0 s)))
reading (both a b) = (λ p. ((reading a).0 p.0, (reading b).0 p.1), λ p. ((reading a).1 p.0, (reading b).1 p.1))
reading never = (λ h. h, λ h. h)

pub lin : (ρ : List ℤ) {S : Type 0} (s : Says ρ S) → meaning s → S
lin ρ s h = (reading s).1 h
