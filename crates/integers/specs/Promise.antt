-- The definitions that the contracts of this crate cite. Whoever believes its promises believes this file. An integer is `pos n`, which is n, or `negsuc n`,
-- which is −(n + 1).
use Rattle.std.specs.Prelude.{◌≡◌, Bool, true, false, zero, suc, ◌/◌, ℤ, pos, negsuc, neg_ℤ, nat_abs, ◌+ℤ◌, ◌-ℤ◌, ◌*ℤ◌, ◌≤ℤ◌, ◌<ℤ◌}

-- x lies between two numbers, both included.
pub record Between (l x h : ℤ) : Type 0 where
  pub low : l ≤ℤ x
  pub high : x ≤ℤ h

-- A function's bool says of a statement whether it holds.
pub data Decided (A : Type 0) : Bool → Type 0 where
  holds : A → Decided A true
  fails : (A → ⊥) → Decided A false

-- q is n/d rounded down, for d > 0: the one whole number with q·d ≤ n < (q + 1)·d. There is none for any other d.
pub record Floor (n d q : ℤ) : Type 0 where
  pub low : (q *ℤ d) ≤ℤ n
  pub high : n <ℤ ((q +ℤ pos 1) *ℤ d)

-- n/d rounded down for d > 0 (`floor_is` in Division.antt proves it), and 0 for any other d.
abbrev pub floor_of : ℤ → ℤ → ℤ
floor_of n (pos zero) = pos 0
floor_of (pos n) (pos (suc d)) = pos (n / suc d)
floor_of (negsuc n) (pos (suc d)) = negsuc (n / suc d)
floor_of n (negsuc d) = pos 0

-- q is that number, as a relation, which shows n and d to a caller's proof.
pub record Quotient (n d q : ℤ) : Type 0 where
  pub is : q ≡ floor_of n d

-- q is the whole number nearest to n/d, for d > 0, and of two that are as near the upper one: it lies above n/d by a half at most, and below it by less. There is none
-- for any other d.
pub record Nearest (n d q : ℤ) : Type 0 where
  pub above : (pos 2 *ℤ (q *ℤ d -ℤ n)) ≤ℤ d
  pub below : (pos 2 *ℤ (n -ℤ q *ℤ d)) <ℤ d

-- q is that number for d > 0, and 0 for any other d.
pub record Rounded (n d q : ℤ) : Type 0 where
  pub nearest : pos 0 <ℤ d → Nearest n d q
  pub otherwise : d ≤ℤ pos 0 → q ≡ pos 0

-- The same as a number that can be worked out: ⌊n/d + 1/2⌋ (`nearest_of_lem` and `rounded_is` in Nearest.antt prove it).
abbrev pub nearest_of : ℤ → ℤ → ℤ
nearest_of n d = floor_of (pos 2 *ℤ n +ℤ d) (pos 2 *ℤ d)

-- x without its sign
abbrev pub magnitude : ℤ → ℤ
magnitude x = pos (nat_abs x)

-- A magnitude x, given the sign of s: −x where s is negative, and else x.
abbrev pub with_sign : (s x : ℤ) → ℤ
with_sign (pos n) x = x
with_sign (negsuc n) x = neg_ℤ x

-- n/d rounded toward zero for d > 0: its magnitude rounded down, with the sign of n. It is 0 for any other d.
abbrev pub toward_zero : (n d : ℤ) → ℤ
toward_zero n d = with_sign n (floor_of (magnitude n) d)
