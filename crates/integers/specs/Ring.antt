-- A ring solver by reflection. An expression is normalised to a polynomial in Horner's form, and two are equal where
-- their difference is zero, which is computed. `Quote ρ x` is an expression that denotes x over the variables ρ, and
-- `search quote` writes it: `ring (a ∷ b ∷ []) (search quote depth 30 fits 9000) tt` proves an equation in a and b.
use Rattle.std.specs.Prelude.{◌≡◌, refl, Bool, false, ◌&&◌, List, [], ◌∷◌, ℕ, T, eqb, ℤ, pos, negsuc, neg_ℤ, ◌+ℤ◌, ◌*ℤ◌}
use Rattle.std.proofs.Common.{sym, ◌∙◌, ap, ap₂, eqb→eq}
use Rattle.std.proofs.Math.IntN.{*ℤ_comm, +ℤ_comm, +ℤ_assoc, +ℤ_idl, +ℤ_idr, *ℤ-zero}
use Rattle.std.proofs.Math.Facts.{and_yes}
use Rattle.integers.specs.Laws.{*ℤ_distribˡ, *ℤ_distribʳ, *ℤ_assoc, +ℤ_swap, *ℤ_one, *ℤ_minus, equal_of_gap}

-- `con k` is the number k; `horner c p` is c + x·p, with x the first variable, c over the later ones and p over all
pub data Poly : Type 0 where
  con : ℤ → Poly
  horner : Poly → Poly → Poly

abbrev first : List ℤ → ℤ
first [] = pos 0
first (x ∷ ρ) = x

abbrev rest : List ℤ → List ℤ
rest [] = []
rest (x ∷ ρ) = ρ

abbrev value : List ℤ → Poly → ℤ
value ρ (con k) = k
value ρ (horner c p) = value (rest ρ) c +ℤ first ρ *ℤ value ρ p

-- ---- sum and product of polynomials, and the test for zero

abbrev add_con : ℤ → Poly → Poly
add_con k (con j) = con (k +ℤ j)
add_con k (horner c p) = horner (add_con k c) p

abbrev add : Poly → Poly → Poly
add (con a) q = add_con a q
add (horner c p) (con b) = horner (add_con b c) p
add (horner c p) (horner d q) = horner (add c d) (add p q)

abbrev scale : ℤ → Poly → Poly
scale k (con j) = con (k *ℤ j)
scale k (horner c p) = horner (scale k c) (scale k p)

-- a function on the coefficients over the later variables, at each power of the first
abbrev on_each : (Poly → Poly) → Poly → Poly
on_each f (con b) = horner (f (con b)) (con (pos 0))
on_each f (horner d q) = horner (f d) (on_each f q)

abbrev mul : Poly → Poly → Poly
mul (con a) q = scale a q
mul (horner c p) q = add (on_each (mul c) q) (horner (con (pos 0)) (mul p q))

abbrev zero_number : ℤ → Bool
zero_number (pos n) = eqb n 0
zero_number (negsuc n) = false

abbrev is_zero : Poly → Bool
is_zero (con k) = zero_number k
is_zero (horner c p) = is_zero c && is_zero p

-- ---- they mean what they say

add_con_value : (ρ : List ℤ) (k : ℤ) (q : Poly) → value ρ (add_con k q) ≡ k +ℤ value ρ q
add_con_value ρ k (con j) = refl
add_con_value ρ k (horner c p) =
    ap (λ (v : ℤ). v +ℤ first ρ *ℤ value ρ p) (add_con_value (rest ρ) k c) ∙ +ℤ_assoc k (value (rest ρ) c) (first ρ *ℤ value ρ p)

add_value : (ρ : List ℤ) (p q : Poly) → value ρ (add p q) ≡ value ρ p +ℤ value ρ q
add_value ρ (con a) q = add_con_value ρ a q
add_value ρ (horner c p) (con b) =
    ap (λ (v : ℤ). v +ℤ first ρ *ℤ value ρ p) (add_con_value (rest ρ) b c)
    ∙ +ℤ_assoc b (value (rest ρ) c) (first ρ *ℤ value ρ p)
    ∙ +ℤ_comm b (value (rest ρ) c +ℤ first ρ *ℤ value ρ p)
add_value ρ (horner c p) (horner d q) =
    ap₂ (λ (v w : ℤ). v +ℤ first ρ *ℤ w) (add_value (rest ρ) c d) (add_value ρ p q)
    ∙ ap (λ (v : ℤ). value (rest ρ) c +ℤ value (rest ρ) d +ℤ v) (*ℤ_distribˡ (first ρ) (value ρ p) (value ρ q))
    ∙ +ℤ_swap (value (rest ρ) c) (value (rest ρ) d) (first ρ *ℤ value ρ p) (first ρ *ℤ value ρ q)

-- k·(c + x·p) = k·c + x·(k·p)
spread : (k c x p : ℤ) → k *ℤ c +ℤ x *ℤ (k *ℤ p) ≡ k *ℤ (c +ℤ x *ℤ p)
spread k c x p =
    ap (λ (v : ℤ). k *ℤ c +ℤ v) (sym (*ℤ_assoc x k p) ∙ ap (λ (v : ℤ). v *ℤ p) (*ℤ_comm x k) ∙ *ℤ_assoc k x p)
    ∙ sym (*ℤ_distribˡ k c (x *ℤ p))

scale_value : (ρ : List ℤ) (k : ℤ) (q : Poly) → value ρ (scale k q) ≡ k *ℤ value ρ q
scale_value ρ k (con j) = refl
scale_value ρ k (horner c p) =
    ap₂ (λ (v w : ℤ). v +ℤ first ρ *ℤ w) (scale_value (rest ρ) k c) (scale_value ρ k p)
    ∙ spread k (value (rest ρ) c) (first ρ) (value ρ p)

on_each_value : (ρ : List ℤ) (f : Poly → Poly) (k : ℤ) → ((d : Poly) → value (rest ρ) (f d) ≡ k *ℤ value (rest ρ) d) → (q : Poly) → value ρ (on_each f q) ≡ k *ℤ value ρ q
on_each_value ρ f k h (con b) =
    ap₂ ◌+ℤ◌ (h (con b)) (*ℤ-zero (first ρ)) ∙ +ℤ_idr (k *ℤ b)
on_each_value ρ f k h (horner d q) =
    ap₂ (λ (v w : ℤ). v +ℤ first ρ *ℤ w) (h d) (on_each_value ρ f k h q)
    ∙ spread k (value (rest ρ) d) (first ρ) (value ρ q)

mul_value : (ρ : List ℤ) (p q : Poly) → value ρ (mul p q) ≡ value ρ p *ℤ value ρ q
mul_value ρ (con a) q = scale_value ρ a q
mul_value ρ (horner c p) q =
    add_value ρ (on_each (mul c) q) (horner (con (pos 0)) (mul p q))
    ∙ ap₂ ◌+ℤ◌ (on_each_value ρ (mul c) (value (rest ρ) c) (λ d. mul_value (rest ρ) c d) q)
    (+ℤ_idl (first ρ *ℤ value ρ (mul p q)) ∙ ap (λ (v : ℤ). first ρ *ℤ v) (mul_value ρ p q) ∙ sym (*ℤ_assoc (first ρ) (value ρ p) (value ρ q)))
    ∙ sym (*ℤ_distribʳ (value (rest ρ) c) (first ρ *ℤ value ρ p) (value ρ q))

zero_number_is : (k : ℤ) → T (zero_number k) → k ≡ pos 0
zero_number_is (pos n) t = ap pos (eqb→eq n 0 t)
zero_number_is (negsuc n) t = absurd t

is_zero_value : (ρ : List ℤ) (p : Poly) → T (is_zero p) → value ρ p ≡ pos 0
is_zero_value ρ (con k) t = zero_number_is k t
is_zero_value ρ (horner c p) t =
    let b = and_yes (is_zero c) (is_zero p) t in
    ap₂ (λ (v w : ℤ). v +ℤ first ρ *ℤ w) (is_zero_value (rest ρ) c b.0) (is_zero_value ρ p b.1)
    ∙ +ℤ_idl (first ρ *ℤ pos 0)
    ∙ *ℤ-zero (first ρ)

-- ---- expressions, by what they denote

pub data Among (x : ℤ) : List ℤ → Type 0 where
  here : {ρ : List ℤ} → Among x (x ∷ ρ)
  there : {y : ℤ} {ρ : List ℤ} → Among x ρ → Among x (y ∷ ρ)

pub data Quote (ρ : List ℤ) : ℤ → Type 0 where
  number : (n : ℕ) → Quote ρ (pos n)
  below : (n : ℕ) → Quote ρ (negsuc n)
  plus : {x y : ℤ} → Quote ρ x → Quote ρ y → Quote ρ (x +ℤ y)
  product : {x y : ℤ} → Quote ρ x → Quote ρ y → Quote ρ (x *ℤ y)
  minus : {x : ℤ} → Quote ρ x → Quote ρ (neg_ℤ x)
  variable : {x : ℤ} → Among x ρ → Quote ρ x

abbrev power : {x : ℤ} {ρ : List ℤ} → Among x ρ → Poly
power here = horner (con (pos 0)) (con (pos 1))
power (there v) = horner (power v) (con (pos 0))

abbrev norm : {ρ : List ℤ} {x : ℤ} → Quote ρ x → Poly
norm (number n) = con (pos n)
norm (below n) = con (negsuc n)
norm (plus p q) = add (norm p) (norm q)
norm (product p q) = mul (norm p) (norm q)
norm (minus p) = scale (negsuc 0) (norm p)
norm (variable v) = power v

power_value : {x : ℤ} {ρ : List ℤ} (v : Among x ρ) → value ρ (power v) ≡ x
power_value {x} here = +ℤ_idl (x *ℤ pos 1) ∙ *ℤ_one x
power_value (there {y} {ρ} v) = ap₂ ◌+ℤ◌ (power_value v) (*ℤ-zero y) ∙ +ℤ_idr _

norm_value : {ρ : List ℤ} {x : ℤ} (p : Quote ρ x) → value ρ (norm p) ≡ x
norm_value (number n) = refl
norm_value (below n) = refl
norm_value {ρ} (plus p q) = add_value ρ (norm p) (norm q) ∙ ap₂ ◌+ℤ◌ (norm_value p) (norm_value q)
norm_value {ρ} (product p q) = mul_value ρ (norm p) (norm q) ∙ ap₂ ◌*ℤ◌ (norm_value p) (norm_value q)
norm_value {ρ} (minus {x} p) = scale_value ρ (negsuc 0) (norm p) ∙ ap (λ (v : ℤ). negsuc 0 *ℤ v) (norm_value p) ∙ *ℤ_minus x
norm_value (variable v) = power_value v

-- both sides of an equation
pub data Sides (ρ : List ℤ) (x y : ℤ) : Type 0 where
  sides : Quote ρ x → Quote ρ y → Sides ρ x y

pub ruleset quote = (sides, number, below, plus, product, minus, variable, here, there)

abbrev gap : {ρ : List ℤ} {x y : ℤ} → Sides ρ x y → Poly
gap (sides p q) = add (norm p) (scale (negsuc 0) (norm q))

-- two expressions denote one number where the difference of their normal forms is zero
pub ring : (ρ : List ℤ) {x y : ℤ} (s : Sides ρ x y) → T (is_zero (gap s)) → x ≡ y
ring ρ {x} {y} (sides p q) t =
    equal_of_gap x y
    (ap₂ ◌+ℤ◌ (sym (norm_value p)) (sym (norm_value (minus q)))
    ∙ sym (add_value ρ (norm p) (norm (minus q)))
    ∙ is_zero_value ρ (add (norm p) (scale (negsuc 0) (norm q))) t)
