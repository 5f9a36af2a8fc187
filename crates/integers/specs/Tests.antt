-- What a test in code says of the plain values: `passed` and `failed` for < and ≤, `zero_yes` and `zero_no` for a comparison with 0; and that a
-- divisor is not 0.
use Rattle.std.specs.Prelude.{◌≡◌, Bool, true, false, not, ◌&&◌, List, ℕ, ◌^◌, ◌<◌, T, ltb, ℤ, pos, ◌≤ℤ◌, ◌<ℤ◌}
use Rattle.std.proofs.Common.{sym, ◌∙◌, ap, ap₂, subst, pow_pos}
use Rattle.std.specs.Int.Signed.{le_z, lt_z, le_z_yes, lt_z_yes, lt_z_no}
use Rattle.std.specs.Int.{Width}
use mir.Val.{to_z, of_z, hbits}
use Rattle.std.proofs.Math.Facts.{to_z_pos, and_yes}
use Rattle.integers.specs.Order.{le_z_no, <ℤ→≤ℤ}
use Rattle.integers.specs.Division.{positive_bits}
use Rattle.integers.specs.Sizes.{Known, Code, layer, code, plain, size, sound, plain_is}

-- a test of two expressions
pub data Test (Γ : List Known) : Bool → Type 0 where
  less : {x y : ℤ} → Code Γ x → Code Γ y → Test Γ (lt_z x y)
  at_most : {x y : ℤ} → Code Γ x → Code Γ y → Test Γ (le_z x y)

pub ruleset tests = (less, at_most, code)

abbrev sound_test : {Γ : List Known} {b : Bool} → Test Γ b → Bool
sound_test (less c d) = sound c && sound d
sound_test (at_most c d) = sound c && sound d

-- what a test says where it is passed, and where it is failed
abbrev pub Passed : {Γ : List Known} {b : Bool} → Test Γ b → Type 0
Passed (less c d) = plain c <ℤ plain d
Passed (at_most c d) = plain c ≤ℤ plain d

abbrev pub Failed : {Γ : List Known} {b : Bool} → Test Γ b → Type 0
Failed (less c d) = plain d ≤ℤ plain c
Failed (at_most c d) = plain d <ℤ plain c

plain_test : (test : ℤ → ℤ → Bool) {Γ : List Known} {x y : ℤ} (c : Code Γ x) (d : Code Γ y) → T (sound c && sound d) → test x y ≡ test (plain c) (plain d)
plain_test test c d t =
    let b = and_yes (sound c) (sound d) t in ap₂ test (plain_is c b.0) (plain_is d b.1)

pub passed : (Γ : List Known) {b : Bool} → b ≡ true → (t : Test Γ b) → T (sound_test t) → Passed t
passed Γ e (less c d) t = lt_z_yes (subst T (sym e ∙ plain_test lt_z c d t) tt)
passed Γ e (at_most c d) t = le_z_yes (subst T (sym e ∙ plain_test le_z c d t) tt)

-- a test that is passed says ≤ at least
abbrev pub AtMost : {Γ : List Known} {b : Bool} → Test Γ b → Type 0
AtMost (less c d) = plain c ≤ℤ plain d
AtMost (at_most c d) = plain c ≤ℤ plain d

pub passed_at_most : (Γ : List Known) {b : Bool} → b ≡ true → (t : Test Γ b) → T (sound_test t) → AtMost t
passed_at_most Γ e (less c d) t = <ℤ→≤ℤ (passed Γ e (less c d) t)
passed_at_most Γ e (at_most c d) t = passed Γ e (at_most c d) t

pub failed : (Γ : List Known) {b : Bool} → b ≡ false → (t : Test Γ b) → T (sound_test t) → Failed t
failed Γ e (less c d) t = lt_z_no (subst (λ (b : Bool). T (not b)) (sym e ∙ plain_test lt_z c d t) tt)
failed Γ e (at_most c d) t = le_z_no (subst (λ (b : Bool). T (not b)) (sym e ∙ plain_test le_z c d t) tt)

-- ---- a test of a number against 0 compares its bits

pub data Bits (Γ : List Known) : ℕ → Type 0 where
  bits : (w : Width) {x : ℤ} → Code Γ x → Bits Γ (of_z w x)

abbrev pub value : {Γ : List Known} {n : ℕ} → Bits Γ n → ℤ
value (bits w c) = plain c

abbrev sound_bits : {Γ : List Known} {n : ℕ} → Bits Γ n → Bool
sound_bits (bits w c) = sound (layer w c)

pub zero_yes : (Γ : List Known) {n : ℕ} → n ≡ 0 → (b : Bits Γ n) → T (sound_bits b) → value b ≡ pos 0
zero_yes Γ e (bits w c) t = sym (plain_is (layer w c) t) ∙ ap (to_z w) e ∙ to_z_pos w (pow_pos (hbits w))

pub zero_no : (Γ : List Known) {n : ℕ} → (n ≡ 0 → ⊥) → (b : Bits Γ n) → T (sound_bits b) → value b ≡ pos 0 → ⊥
zero_no Γ f (bits w c) t e = f (ap (of_z w) (plain_is c (and_yes (sound c) (ltb (size c) (2 ^ hbits w)) t).0 ∙ e))

-- a divisor that is at least 1 is not 0
pub not_zero : (Γ : List Known) {n : ℕ} (b : Bits Γ n) → T (sound_bits b) → pos 1 ≤ℤ value b → 0 < n
not_zero Γ (bits w c) t h =
    positive_bits w (subst (λ (v : ℤ). pos 1 ≤ℤ v) (sym (plain_is c (and_yes (sound c) (ltb (size c) (2 ^ hbits w)) t).0)) h)

pub ruleset zeros = (bits, code)
