-- Code by reflection. A signed value in code is its bits, so an expression shows as x +ℤ y, x *ℤ y with a layer `to_z w (of_z w ..)` at each step.
-- `Code Γ x` reads such an expression over the known values Γ and computes the magnitude of every step. Then one line shows that a step fits its
-- width (`fits`) or a bound (`sized`), or takes the layers off (`plain_is`).
use Rattle.std.specs.Prelude.{◌≡◌, refl, Bool, true, ◌&&◌, List, ◌∷◌, ℕ, suc, ◌+◌, ◌*◌, ◌^◌, ◌≤◌, ◌<◌, T, ltb, leb, ℤ, pos, negsuc, neg_ℤ, nat_abs, ◌+ℤ◌, ◌-ℤ◌, ◌*ℤ◌}
use Rattle.std.proofs.Common.{sym, ◌∙◌, ap, ap₂, subst, arith, le_refl, le_trans, lt_of_le_of_lt, mul-le-mul, ltb→lt, leb→le, to_z-of_z}
use Rattle.std.proofs.Math.IntN.{+ℤ_idl}
use Rattle.std.specs.Int.Signed.{mag, quot_z, nat_abs-le}
use Rattle.std.specs.Int.{Width}
use mir.Val.{SFits, to_z, of_z, hbits}
use Rattle.std.proofs.Math.Facts.{and_yes}
use Rattle.integers.specs.Promise.{Between}
use Rattle.integers.specs.Parts.{≤_to}
use Rattle.integers.specs.Order.{≤_pos}
use Rattle.integers.specs.Division.{nat_abs_quot}
use Rattle.integers.specs.Within.{Within, nat_abs_plus, nat_abs_minus, nat_abs_product}

-- ---- expressions

-- a value with a bound of its magnitude, or one of which only its width is known
pub data Known : Type 0 where
  known : (x : ℤ) (M : ℕ) → Within M x → Known
  held : (w : Width) (x : ℤ) → SFits w x → Known

pub data Listed (x : ℤ) : List Known → Type 0 where
  first : {M : ℕ} {h : Within M x} {Γ : List Known} → Listed x (known x M h ∷ Γ)
  later : {e : Known} {Γ : List Known} → Listed x Γ → Listed x (e ∷ Γ)

pub data ListedHeld (w : Width) (x : ℤ) : List Known → Type 0 where
  first_held : {h : SFits w x} {Γ : List Known} → ListedHeld w x (held w x h ∷ Γ)
  later_held : {e : Known} {Γ : List Known} → ListedHeld w x Γ → ListedHeld w x (e ∷ Γ)

pub data Code (Γ : List Known) : ℤ → Type 0 where
  number : (n : ℕ) → Code Γ (pos n)
  below : (n : ℕ) → Code Γ (negsuc n)
  plus : {x y : ℤ} → Code Γ x → Code Γ y → Code Γ (x +ℤ y)
  product : {x y : ℤ} → Code Γ x → Code Γ y → Code Γ (x *ℤ y)
  quotient : {x y : ℤ} → Code Γ x → Code Γ y → Code Γ (quot_z x y)
  minus : {x : ℤ} → Code Γ x → Code Γ (neg_ℤ x)
  opposite : {x : ℤ} → Code Γ x → Code Γ (pos 0 -ℤ x)
  layer : (w : Width) {x : ℤ} → Code Γ x → Code Γ (to_z w (of_z w x))
  whole : (w : Width) {x : ℤ} → ListedHeld w x Γ → Code Γ (to_z w (of_z w x))
  listed : {x : ℤ} → Listed x Γ → Code Γ x

pub ruleset code = (number, below, opposite, plus, product, quotient, minus, whole, layer, listed, first, later, first_held, later_held)

-- without the layers
abbrev pub plain : {Γ : List Known} {x : ℤ} → Code Γ x → ℤ
plain (number n) = pos n
plain (below n) = negsuc n
plain (plus c d) = plain c +ℤ plain d
plain (product c d) = plain c *ℤ plain d
plain (quotient c d) = quot_z (plain c) (plain d)
plain (minus c) = neg_ℤ (plain c)
plain (opposite c) = neg_ℤ (plain c)
plain (layer w c) = plain c
plain (whole w {x} v) = x
plain (listed {x} v) = x

abbrev pub bound : {x : ℤ} {Γ : List Known} → Listed x Γ → ℕ
bound (first {M}) = M
bound (later v) = bound v

abbrev pub size : {Γ : List Known} {x : ℤ} → Code Γ x → ℕ
size (number n) = n
size (below n) = suc n
size (plus c d) = size c + size d
size (product c d) = size c * size d
size (quotient c d) = size c
size (minus c) = size c
size (opposite c) = size c
size (layer w c) = size c
size (whole w v) = 2 ^ hbits w
size (listed v) = bound v

-- every layer holds what is put into it
abbrev pub sound : {Γ : List Known} {x : ℤ} → Code Γ x → Bool
sound (number n) = true
sound (below n) = true
sound (plus c d) = sound c && sound d
sound (product c d) = sound c && sound d
sound (quotient c d) = sound c && sound d
sound (minus c) = sound c
sound (opposite c) = sound c
sound (layer w c) = sound c && ltb (size c) (2 ^ hbits w)
sound (whole w v) = true
sound (listed v) = true

-- ---- what it computes is so

mag_nat_abs : (x : ℤ) → mag x ≤ nat_abs x
mag_nat_abs (pos n) = le_refl n
mag_nat_abs (negsuc n) = omega arith

held_fits : {w : Width} {x : ℤ} {Γ : List Known} (v : ListedHeld w x Γ) → SFits w x
held_fits (first_held {h = h}) = h
held_fits (later_held v) = held_fits v

bound_holds : {x : ℤ} {Γ : List Known} (v : Listed x Γ) → nat_abs x ≤ bound v
bound_holds (first {h = h}) = h.size
bound_holds (later v) = bound_holds v

size_holds : {Γ : List Known} {x : ℤ} (c : Code Γ x) → nat_abs (plain c) ≤ size c
size_holds (number n) = le_refl n
size_holds (below n) = le_refl (suc n)
size_holds (plus c d) = omega (arith, nat_abs_plus (plain c) (plain d), size_holds c, size_holds d)
size_holds (product c d) =
    subst (λ (n : ℕ). n ≤ size c * size d) (sym (nat_abs_product (plain c) (plain d))) (mul-le-mul (size_holds c) (size_holds d))
size_holds (quotient c d) = le_trans (nat_abs_quot (plain c) (plain d)) (size_holds c)
size_holds (opposite c) = subst (λ (n : ℕ). n ≤ size c) (sym (nat_abs_minus (plain c))) (size_holds c)
size_holds (minus c) = subst (λ (n : ℕ). n ≤ size c) (sym (nat_abs_minus (plain c))) (size_holds c)
size_holds (layer w c) = size_holds c
size_holds (whole w {x} v) = nat_abs-le x (held_fits v).sfits
size_holds (listed v) = bound_holds v

small_fits : (w : Width) {Γ : List Known} {x : ℤ} (c : Code Γ x) → T (ltb (size c) (2 ^ hbits w)) → SFits w (plain c)
small_fits w c t =
    record { sfits = lt_of_le_of_lt (le_trans (mag_nat_abs (plain c)) (size_holds c)) (ltb→lt (size c) (2 ^ hbits w) t) }

-- a layer that holds its number changes nothing
same : (w : Width) {x y : ℤ} → x ≡ y → SFits w y → to_z w (of_z w x) ≡ y
same w e h = ap (λ (v : ℤ). to_z w (of_z w v)) e ∙ to_z-of_z h

pub plain_is : {Γ : List Known} {x : ℤ} (c : Code Γ x) → T (sound c) → x ≡ plain c
plain_is (number n) t = refl
plain_is (below n) t = refl
plain_is (plus c d) t = let b = and_yes (sound c) (sound d) t in ap₂ ◌+ℤ◌ (plain_is c b.0) (plain_is d b.1)
plain_is (product c d) t = let b = and_yes (sound c) (sound d) t in ap₂ ◌*ℤ◌ (plain_is c b.0) (plain_is d b.1)
plain_is (quotient c d) t = let b = and_yes (sound c) (sound d) t in ap₂ quot_z (plain_is c b.0) (plain_is d b.1)
plain_is (minus c) t = ap neg_ℤ (plain_is c t)
plain_is (opposite {x} c) t = +ℤ_idl (neg_ℤ x) ∙ ap neg_ℤ (plain_is c t)
plain_is (layer w c) t =
    let b = and_yes (sound c) (ltb (size c) (2 ^ hbits w)) t in same w (plain_is c b.0) (small_fits w c b.1)
plain_is (whole w v) t = to_z-of_z (held_fits v)
plain_is (listed v) t = refl

-- ---- what a proof cites

pub fits : (Γ : List Known) {w : Width} {x : ℤ} (c : Code Γ x) → T (sound c && ltb (size c) (2 ^ hbits w)) → SFits w x
fits Γ {w} c t =
    let b = and_yes (sound c) (ltb (size c) (2 ^ hbits w)) t in
    subst (λ (v : ℤ). SFits w v) (sym (plain_is c b.0)) (small_fits w c b.1)

pub sized : (Γ : List Known) {M : ℕ} {x : ℤ} (c : Code Γ x) → T (sound c && leb (size c) M) → Within M x
sized Γ {M} c t =
    let b = and_yes (sound c) (leb (size c) M) t in
    record
    { size = subst (λ (v : ℤ). nat_abs v ≤ M) (sym (plain_is c b.0)) (le_trans (size_holds c) (leb→le (size c) M b.1)) }

-- a call's result, behind its bits, is what the callee says of it
pub returned : (w : Width) {r x : ℤ} → mag r < 2 ^ hbits w → r ≡ x → to_z w (of_z w r) ≡ x
returned w l e = to_z-of_z (record { sfits = l }) ∙ e

-- what lies between two numbers of a width has it too
pub between_fits : (w : Width) {l x h : ℤ} → Between l x h → SFits w l → SFits w h → SFits w x
between_fits w {x = pos n} {h = pos m} b f g = record { sfits = lt_of_le_of_lt (≤_pos b.high) g.sfits }
between_fits w {x = pos n} {h = negsuc m} b f g = absurd b.high.le
between_fits w {l = pos k} {x = negsuc n} b f g = absurd b.low.le
between_fits w {l = negsuc k} {x = negsuc n} b f g =
    record { sfits = lt_of_le_of_lt (smaller (≤_to (negsuc k) (negsuc n) b.low)) f.sfits }
  where
    smaller : {k n : ℕ} → 0 + suc n ≤ 0 + suc k → n ≤ k
    smaller h = omega arith
