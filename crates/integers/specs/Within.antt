-- The magnitude of an integer, of sums and of products; a number between −M and M.
use Rattle.std.specs.Prelude.{◌≡◌, refl, ◌⊎◌, ℕ, zero, suc, ◌+◌, ◌*◌, ◌≤◌, ℤ, pos, negsuc, neg_ℤ, nat_abs, ◌+ℤ◌, ◌*ℤ◌, ◌≤ℤ◌}
use Rattle.std.proofs.Common.{sym, subst, inl, inr, ⊎_elim, arith, mul-le-mul}
use Rattle.integers.specs.Parts.{P, Q, diff_add, diff_self, diff_neg, ≤_to, ≤_from}

nat_abs_parts : (x : ℤ) → nat_abs x ≡ P x + Q x
nat_abs_parts (pos n) = omega arith
nat_abs_parts (negsuc n) = omega arith

one_part : (x : ℤ) → (P x ≡ 0) ⊎ (Q x ≡ 0)
one_part (pos n) = inr refl
one_part (negsuc n) = inl refl

pub nat_abs_plus : (x y : ℤ) → nat_abs (x +ℤ y) ≤ nat_abs x + nat_abs y
nat_abs_plus x y =
    let s = (diff_add (diff_self x) (diff_self y)).same in
    ⊎_elim (λ (p : P (x +ℤ y) ≡ 0). omega (arith, nat_abs_parts (x +ℤ y), nat_abs_parts x, nat_abs_parts y))
    (λ (q : Q (x +ℤ y) ≡ 0). omega (arith, nat_abs_parts (x +ℤ y), nat_abs_parts x, nat_abs_parts y)) (one_part (x +ℤ y))

pub nat_abs_minus : (x : ℤ) → nat_abs (neg_ℤ x) ≡ nat_abs x
nat_abs_minus (pos zero) = refl
nat_abs_minus (pos (suc n)) = refl
nat_abs_minus (negsuc n) = refl

pub nat_abs_product : (x y : ℤ) → nat_abs (x *ℤ y) ≡ nat_abs x * nat_abs y
nat_abs_product (pos a) (pos b) = refl
nat_abs_product (pos a) (negsuc b) = nat_abs_minus (pos (a * suc b))
nat_abs_product (negsuc a) (pos b) = nat_abs_minus (pos (suc a * b))
nat_abs_product (negsuc a) (negsuc b) = refl

-- x lies between −M and M
pub record Within (M : ℕ) (x : ℤ) : Type 0 where
  pub size : nat_abs x ≤ M

pub within : (M : ℕ) (x : ℤ) → neg_ℤ (pos M) ≤ℤ x → x ≤ℤ pos M → Within M x
within M (pos n) l h = record { size = omega (arith, ≤_to (pos n) (pos M) h) }
within M (negsuc n) l h =
    record { size = omega (arith, ≤_to (neg_ℤ (pos M)) (negsuc n) l, (diff_neg (diff_self (pos M))).same) }

pub within_high : {M : ℕ} {x : ℤ} → Within M x → x ≤ℤ pos M
within_high {M} {x = pos n} h = ≤_from (pos n) (pos M) (omega (arith, h.size))
within_high {M} {x = negsuc n} h = ≤_from (negsuc n) (pos M) (omega arith)

pub within_low : {M : ℕ} {x : ℤ} → Within M x → neg_ℤ (pos M) ≤ℤ x
within_low {M} {x = pos n} h = ≤_from (neg_ℤ (pos M)) (pos n) (omega (arith, (diff_neg (diff_self (pos M))).same))
within_low {M} {x = negsuc n} h = ≤_from (neg_ℤ (pos M)) (negsuc n) (omega (arith, h.size, (diff_neg (diff_self (pos M))).same))

pub within_minus : {M : ℕ} (x : ℤ) → Within M x → Within M (neg_ℤ x)
within_minus {M} x h = record { size = subst (λ (n : ℕ). n ≤ M) (sym (nat_abs_minus x)) h.size }

pub minus_within : {M : ℕ} (x : ℤ) → Within M (neg_ℤ x) → Within M x
minus_within {M} x h = record { size = subst (λ (n : ℕ). n ≤ M) (nat_abs_minus x) h.size }

pub within_plus : {M N : ℕ} {x y : ℤ} → Within M x → Within N y → Within (M + N) (x +ℤ y)
within_plus {x = x} {y = y} h k = record { size = omega (arith, nat_abs_plus x y, h.size, k.size) }

pub within_product : {M N : ℕ} {x y : ℤ} → Within M x → Within N y → Within (M * N) (x *ℤ y)
within_product {M} {N} {x} {y} h k =
    record { size = subst (λ (n : ℕ). n ≤ M * N) (sym (nat_abs_product x y)) (mul-le-mul h.size k.size) }
