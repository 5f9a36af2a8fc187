-- A sum or a product of floats that are whole numbers is the exact sum or product, rounded once. It turns on the operands' values alone: not on how
-- they are written, nor on the sign of a zero.
use Rattle.std.specs.Prelude.{◌≡◌, Bool, not, ◌&&◌, cond, ℕ, ◌+◌, ◌-◌, ◌*◌, ◌≤◌, ◌<◌, T, ltb, ℤ, ◌+ℤ◌, ◌*ℤ◌, Float}
use Rattle.std.proofs.Common.{sym, ◌∙◌, ap, ap₂, subst, mul-one, mul_comm, mul_assoc, mul-pos, add-mul, zero-lt-suc, le_of_lt, le_of_mul-le-mul_right, lt_of_mul-lt-mul_right, arith, ltb→lt, nltb→le}
use Rattle.std.proofs.Math.Bool.{true, false}
use Rattle.std.proofs.Math.Nat.{mul-sub, mul-mul-mul_comm}
use Rattle.std.proofs.Math.IntN.{pos, neg_ℤ, +ℤ_comm}
use Rattle.std.specs.Float.{nan, inf, fin, Format}
use Rattle.std.specs.Float.Ieee.{unlike, up, down, round, sum, add, mul}
use Rattle.std.specs.Float.Ieee.Exact.{HasValue}
use Rattle.std.specs.Float.Ieee.Fits.{down_pos}
use Rattle.std.specs.Float.Ieee.Scale.{round_same}
use Rattle.floats.specs.Signed.{signed, signed_product, like_sum, larger_first, larger_second}

-- x is n, rounded once; a zero may have either sign
pub record Rounded (f : Format) (n : ℤ) (x : Float) : Type 0 where
  pub sign : Bool
  pub size : ℕ
  pub once : x ≡ round f sign size 1
  pub is : n ≡ signed sign size

-- k as the fraction a / c
fraction : (f : Format) (s : Bool) (k c a : ℕ) → 0 < c → a ≡ k * c → round f s a c ≡ round f s k 1
fraction f s k c a c₀ e = round_same f s a c k 1 c₀ (zero-lt-suc 0) (mul-one a ∙ e)

-- ---- products

pub product_rounded : (f : Format) (x y : Float) (s t : Bool) (k l : ℕ) → HasValue x s k 1 → HasValue y t l 1 → Rounded f (signed s k *ℤ signed t l) (mul f x y)
unfolding mul
product_rounded f nan y s t k l v w = absurd v
product_rounded f (inf u) y s t k l v w = absurd v
product_rounded f (fin u m e) nan s t k l v w = absurd w
product_rounded f (fin u m e) (inf r) s t k l v w = absurd w
product_rounded f (fin u m e) (fin r n d) s t k l v w =
    record {
      sign = unlike s t;
      size = k * l;
      once =
          ap₂ (λ (s t : Bool). round f (unlike s t) (m * up e * (n * up d)) (down e * down d)) v.0 w.0
          ∙ fraction f (unlike s t) (k * l) (down e * down d) (m * up e * (n * up d)) (mul-pos (down_pos e) (down_pos d))
          (ap₂ ◌*◌ (sym (mul-one (m * up e)) ∙ v.1) (sym (mul-one (n * up d)) ∙ w.1) ∙ mul-mul-mul_comm k (down e) l (down d));
      is = signed_product s t k l;
    }

-- ---- sums

-- The sum of two numbers with the signs s and t. Where it is zero it is −0 only if both signs are negative.
pub record Summed (f : Format) (s t : Bool) (n : ℤ) (x : Float) : Type 0 where
  pub rounded : Rounded f n x
  pub plus : T (not (s && t)) → T rounded.sign → 0 < rounded.size

-- of k and l, both over the denominator c
module _ (f : Format) (k l c : ℕ) (c₀ : 0 < c) where
  difference : (k l : ℕ) → k * c - l * c ≡ (k - l) * c
  difference k l = ap₂ ◌-◌ (mul_comm k c) (mul_comm l c) ∙ sym (mul-sub c k l) ∙ mul_comm c (k - l)

  at_most : (k l : ℕ) → k * c ≤ l * c → k ≤ l
  at_most k l h = le_of_mul-le-mul_right h c₀

  below : (k l : ℕ) → k * c < l * c → k < l
  below k l h = lt_of_mul-lt-mul_right c h

  like : (s : Bool) → Rounded f (signed s k +ℤ signed s l) (round f s (k * c + l * c) c)
  like s = record { sign = s; size = k + l; once = fraction f s (k + l) c (k * c + l * c) c₀ (sym (add-mul k l c)); is = like_sum s k l }

  -- what is left of the first, or of the second, once the other is taken off
  module _ {s t : Bool} {n : ℤ} where
    first_left : (u : Bool) → n ≡ signed u (k - l) → (T u → l < k) → Summed f s t n (round f u (k * c - l * c) c)
    first_left u e h =
        record {
          rounded = record { sign = u; size = k - l; once = fraction f u (k - l) c (k * c - l * c) c₀ (difference k l); is = e };
          plus = λ _ b. omega (arith, h b);
        }

    second_left : (u : Bool) → n ≡ signed u (l - k) → k < l → Summed f s t n (round f u (l * c - k * c) c)
    second_left u e h =
        record {
          rounded = record { sign = u; size = l - k; once = fraction f u (l - k) c (l * c - k * c) c₀ (difference l k); is = e };
          plus = λ _ _. omega (arith, h);
        }

  up_down : Summed f false true (pos k +ℤ neg_ℤ (pos l)) (sum f false (k * c) true (l * c) c)
  unfolding sum
  up_down = go (ltb (k * c) (l * c)) (ltb→lt (k * c) (l * c)) (nltb→le (k * c) (l * c))
    where
      go : (b : Bool) → (T b → k * c < l * c) → (T (not b) → l * c ≤ k * c)
          → Summed f false true (pos k +ℤ neg_ℤ (pos l)) (cond b (round f true (l * c - k * c) c) (round f false (k * c - l * c) c))
      go true h g = let b = below k l (h tt) in second_left true (larger_second k l (le_of_lt b)) b
      go false h g = first_left false (larger_first k l (at_most l k (g tt))) (λ n. absurd n)

  down_up : Summed f true false (neg_ℤ (pos k) +ℤ pos l) (sum f true (k * c) false (l * c) c)
  unfolding sum
  down_up =
      go (ltb (k * c) (l * c)) (ltb (l * c) (k * c)) (ltb→lt (k * c) (l * c)) (nltb→le (k * c) (l * c)) (ltb→lt (l * c) (k * c)) (nltb→le (l * c) (k * c))
    where
      turned : {n : ℤ} → pos l +ℤ neg_ℤ (pos k) ≡ n → neg_ℤ (pos k) +ℤ pos l ≡ n
      turned e = +ℤ_comm (neg_ℤ (pos k)) (pos l) ∙ e

      equal : l ≤ k → k ≤ l → pos (l - k) ≡ pos (k - l)
      equal h g = ap pos (omega arith)

      go : (b d : Bool) → (T b → k * c < l * c) → (T (not b) → l * c ≤ k * c) → (T d → l * c < k * c) → (T (not d) → k * c ≤ l * c)
          → Summed f true false (neg_ℤ (pos k) +ℤ pos l) (cond b (round f false (l * c - k * c) c) (round f (true && d) (k * c - l * c) c))
      go true d h g i j = let b = below k l (h tt) in second_left false (turned (larger_first l k (le_of_lt b))) b
      go false true h g i j = first_left true (turned (larger_second l k (at_most l k (g tt)))) (λ _. below l k (i tt))
      go false false h g i j = let e = at_most k l (j tt) in first_left false (turned (larger_first l k e ∙ equal (at_most l k (g tt)) e)) (λ n. absurd n)

  over : (s t : Bool) → Summed f s t (signed s k +ℤ signed t l) (sum f s (k * c) t (l * c) c)
  unfolding sum like
  over false false = record { rounded = like false; plus = λ _ n. absurd n }
  over false true = up_down
  over true false = down_up
  over true true = record { rounded = like true; plus = λ n. absurd n }

pub sum_rounded : (f : Format) (x y : Float) (s t : Bool) (k l : ℕ) → HasValue x s k 1 → HasValue y t l 1 → Summed f s t (signed s k +ℤ signed t l) (add f x y)
unfolding add
sum_rounded f nan y s t k l v w = absurd v
sum_rounded f (inf u) y s t k l v w = absurd v
sum_rounded f (fin u m e) nan s t k l v w = absurd w
sum_rounded f (fin u m e) (inf r) s t k l v w = absurd w
sum_rounded f (fin u m e) (fin r n d) s t k l v w =
    let c = down e * down d in
    let first : m * up e * down d ≡ k * c = ap (λ (a : ℕ). a * down d) (sym (mul-one (m * up e)) ∙ v.1) ∙ mul_assoc k (down e) (down d) in
    let second : n * up d * down e ≡ l * c =
    ap (λ (a : ℕ). a * down e) (sym (mul-one (n * up d)) ∙ w.1) ∙ mul_assoc l (down d) (down e) ∙ ap (λ (a : ℕ). l * a) (mul_comm (down d) (down e)) in
    subst (Summed f s t (signed s k +ℤ signed t l))
    (sym (ap₂ (λ (s t : Bool). sum f s (m * up e * down d) t (n * up d * down e) c) v.0 w.0 ∙ ap₂ (λ (a b : ℕ). sum f s a t b c) first second))
    (over f k l c (mul-pos (down_pos e) (down_pos d)) s t)
