-- An integer by its two parts: z = P z − Q z, one of them 0. Each law of ℤ becomes one of ℕ, which `omega` closes.
use Rattle.std.specs.Prelude.{◌≡◌, refl, ℕ, zero, suc, ◌+◌, ◌*◌, ◌-◌, ◌≤◌, ◌<◌, T, ltb, ℤ, pos, negsuc, neg_ℤ, ◌+ℤ◌, ◌*ℤ◌, ◌≤ℤ◌, ◌<ℤ◌}
use Rattle.std.proofs.Common.{ap, subst, arith, ltb→lt, nltb→le, leb→le, le→leb, lt→ltb}
use mathlib.Core.Bool.{Bool, true, false, cond}
use Rattle.std.proofs.Math.IntN.{sub_ℕ}

-- the positive part, and the negative
abbrev pub P : ℤ → ℕ
P (pos n) = n
P (negsuc n) = 0

abbrev pub Q : ℤ → ℕ
Q (pos n) = 0
Q (negsuc n) = suc n

-- x is the difference p − q
pub record Diff (x : ℤ) (p q : ℕ) : Type 0 where
  pub same : P x + q ≡ p + Q x

pub diff_self : (x : ℤ) → Diff x (P x) (Q x)
diff_self x = record { same = refl }

diff_sub : (a b : ℕ) → Diff (sub_ℕ a b) a b
diff_sub a b = go (ltb a b) (λ t. ltb→lt a b t) (λ t. nltb→le a b t)
  where
    go : (c : Bool) → (T c → a < b) → (T (mathlib.Core.Bool.not c) → b ≤ a) → Diff (cond c (negsuc (b - suc a)) (pos (a - b))) a b
    go true f g = let h = f tt in record { same = omega arith }
    go false f g = let h = g tt in record { same = omega arith }

pub diff_add : {x y : ℤ} {p q r s : ℕ} → Diff x p q → Diff y r s → Diff (x +ℤ y) (p + r) (q + s)
diff_add {x = pos a} {y = pos b} h k = record { same = omega (arith, h.same, k.same) }
diff_add {x = pos a} {y = negsuc b} h k = record { same = omega (arith, h.same, k.same, (diff_sub a (suc b)).same) }
diff_add {x = negsuc a} {y = pos b} h k = record { same = omega (arith, h.same, k.same, (diff_sub b (suc a)).same) }
diff_add {x = negsuc a} {y = negsuc b} h k = record { same = omega (arith, h.same, k.same) }

pub diff_neg : {x : ℤ} {p q : ℕ} → Diff x p q → Diff (neg_ℤ x) q p
diff_neg {x = pos zero} h = record { same = omega (arith, h.same) }
diff_neg {x = pos (suc n)} h = record { same = omega (arith, h.same) }
diff_neg {x = negsuc n} h = record { same = omega (arith, h.same) }

-- ---- products

pub diff_mul : (x y : ℤ) → Diff (x *ℤ y) (P x * P y + Q x * Q y) (P x * Q y + Q x * P y)
diff_mul (pos a) (pos b) = record { same = omega arith }
diff_mul (pos a) (negsuc b) = record { same = omega (arith, (diff_neg (diff_self (pos (a * suc b)))).same) }
diff_mul (negsuc a) (pos b) = record { same = omega (arith, (diff_neg (diff_self (pos (suc a * b)))).same) }
diff_mul (negsuc a) (negsuc b) = record { same = omega arith }

-- a number times an equation of numbers
pub times : (k : ℕ) {m n : ℕ} → m ≡ n → k * m ≡ k * n
times k h = ap (λ (x : ℕ). k * x) h

pub diff_times : (n : ℕ) {x : ℤ} {p q : ℕ} → Diff x p q → Diff (pos n *ℤ x) (n * p) (n * q)
diff_times n {x} h = record { same = omega (arith, (diff_mul (pos n) x).same, times n h.same) }

pub diff_times_below : (n : ℕ) {x : ℤ} {p q : ℕ} → Diff x p q → Diff (negsuc n *ℤ x) (suc n * q) (suc n * p)
diff_times_below n {x} h = record { same = omega (arith, (diff_mul (negsuc n) x).same, times (suc n) h.same) }

-- ---- equality and order

pub from_parts : (x y : ℤ) → P x + Q y ≡ P y + Q x → x ≡ y
from_parts (pos a) (pos b) h = ap pos (omega arith)
from_parts (pos a) (negsuc b) h = absurd (omega arith)
from_parts (negsuc a) (pos b) h = absurd (omega arith)
from_parts (negsuc a) (negsuc b) h = ap negsuc (omega arith)

pub to_parts : {x y : ℤ} → x ≡ y → P x + Q y ≡ P y + Q x
to_parts {x} {y} h = subst (λ (w : ℤ). P x + Q w ≡ P w + Q x) h refl

pub ≤_to : (x y : ℤ) → x ≤ℤ y → P x + Q y ≤ P y + Q x
≤_to (pos a) (pos b) h = omega (arith, leb→le a b h.le)
≤_to (pos a) (negsuc b) h = absurd h.le
≤_to (negsuc a) (pos b) h = omega arith
≤_to (negsuc a) (negsuc b) h = omega (arith, leb→le b a h.le)

pub ≤_from : (x y : ℤ) → P x + Q y ≤ P y + Q x → x ≤ℤ y
≤_from (pos a) (pos b) h = record { le = le→leb a b (omega arith) }
≤_from (pos a) (negsuc b) h = absurd (omega arith)
≤_from (negsuc a) (pos b) h = record { le = tt }
≤_from (negsuc a) (negsuc b) h = record { le = le→leb b a (omega arith) }

pub <_to : (x y : ℤ) → x <ℤ y → P x + Q y < P y + Q x
<_to (pos a) (pos b) h = omega (arith, ltb→lt a b h.lt)
<_to (pos a) (negsuc b) h = absurd h.lt
<_to (negsuc a) (pos b) h = omega arith
<_to (negsuc a) (negsuc b) h = omega (arith, ltb→lt b a h.lt)

pub <_from : (x y : ℤ) → P x + Q y < P y + Q x → x <ℤ y
<_from (pos a) (pos b) h = record { lt = lt→ltb a b (omega arith) }
<_from (pos a) (negsuc b) h = absurd (omega arith)
<_from (negsuc a) (pos b) h = record { lt = tt }
<_from (negsuc a) (negsuc b) h = record { lt = lt→ltb b a (omega arith) }
