-- The order of ℤ: transitivity, cases that compute, signs of sums and products, and certificates for orders that are not linear:
-- x ≤ y where the gap y − x equals (by `ring`) an expression whose sign `search signs` sees.
use Rattle.std.specs.Prelude.{◌≡◌, refl, Bool, true, false, not, [], ◌∷◌, ◌⊎◌, ℕ, suc, ◌*◌, ◌≤◌, ◌<◌, T, leb, ℤ, pos, negsuc, neg_ℤ, ◌+ℤ◌, ◌-ℤ◌, ◌*ℤ◌, ◌≤ℤ◌, ◌<ℤ◌}
use Rattle.std.proofs.Common.{sym, subst, inl, inr, ⊎_elim, arith, T_not, leb→le}
use Rattle.std.proofs.Math.Dec.{nleb→lt}
use Rattle.std.specs.Int.Signed.{le_z, lt_z, le_z_yes, lt_z_yes, lt_z_no, clash_ℤ}
use Rattle.integers.specs.Parts.{≤_to, ≤_from, <_from}
use Rattle.integers.specs.Linear.{lin, says}
use Rattle.integers.specs.Ring.{ring, quote}

-- ---- transitivity, and what follows at once

pub ≤ℤ_trans : {x y z : ℤ} → x ≤ℤ y → y ≤ℤ z → x ≤ℤ z
≤ℤ_trans {x} {y} {z} = lin (x ∷ y ∷ z ∷ []) (search says depth 30 fits 9000) (omega arith)

pub ≤ℤ-<ℤ_trans : {x y z : ℤ} → x ≤ℤ y → y <ℤ z → x <ℤ z
≤ℤ-<ℤ_trans {x} {y} {z} = lin (x ∷ y ∷ z ∷ []) (search says depth 30 fits 9000) (omega arith)

pub <ℤ-≤ℤ_trans : {x y z : ℤ} → x <ℤ y → y ≤ℤ z → x <ℤ z
<ℤ-≤ℤ_trans {x} {y} {z} = lin (x ∷ y ∷ z ∷ []) (search says depth 30 fits 9000) (omega arith)

pub <ℤ→≤ℤ : {x y : ℤ} → x <ℤ y → x ≤ℤ y
<ℤ→≤ℤ {x} {y} = lin (x ∷ y ∷ []) (search says depth 30 fits 9000) (omega arith)

pub ≤ℤ_antisym : {x y : ℤ} → x ≤ℤ y → y ≤ℤ x → x ≡ y
≤ℤ_antisym {x} {y} = lin (x ∷ y ∷ []) (search says depth 30 fits 9000) (omega arith)

-- from l as far as r is away
pub across : (l r : ℤ) → l +ℤ (r -ℤ l) ≡ r
across l r = lin (l ∷ r ∷ []) (search says depth 30 fits 9000) (omega arith)

-- turned over twice
pub minus_twice : (x : ℤ) → neg_ℤ (neg_ℤ x) ≡ x
minus_twice x = lin (x ∷ []) (search says depth 30 fits 9000) (omega arith)

-- a product with one factor turned over
pub minus_product : (x y : ℤ) → x *ℤ neg_ℤ y ≡ neg_ℤ (x *ℤ y)
minus_product x y = ring (x ∷ y ∷ []) (search quote depth 30 fits 9000) tt

-- the naturals' order is the same
pub pos-≤ : {m n : ℕ} → m ≤ n → pos m ≤ℤ pos n
pos-≤ {m} {n} h = ≤_from (pos m) (pos n) (omega arith)

pub ≤_pos : {m n : ℕ} → pos m ≤ℤ pos n → m ≤ n
≤_pos {m} {n} h = omega (arith, ≤_to (pos m) (pos n) h)

-- ---- cases

pub <_or-≤ : (m n : ℕ) → (m < n) ⊎ (n ≤ m)
<_or-≤ m n = told (leb n m) refl
  where
    told : (b : Bool) → leb n m ≡ b → (m < n) ⊎ (n ≤ m)
    told true t = inr (leb→le n m (subst T (sym t) tt))
    told false t = inl (nleb→lt n m (subst (λ (b : Bool). T (not b)) (sym t) tt))

pub le_z_no : {x y : ℤ} → T (not (le_z x y)) → y <ℤ x
le_z_no {x} {y} t = go (lt_z y x) refl
  where
    go : (b : Bool) → lt_z y x ≡ b → y <ℤ x
    go true e = lt_z_yes (subst T (sym e) tt)
    go false e = absurd (T_not (le_z x y) t (lt_z_no {a = y} {b = x} (subst (λ (b : Bool). T (not b)) (sym e) tt)).le)

pub ≤ℤ_or-<ℤ : (x y : ℤ) → (x ≤ℤ y) ⊎ (y <ℤ x)
≤ℤ_or-<ℤ x y = go (le_z x y) refl
  where
    go : (b : Bool) → le_z x y ≡ b → (x ≤ℤ y) ⊎ (y <ℤ x)
    go true e = inl (le_z_yes (subst T (sym e) tt))
    go false e = inr (le_z_no (subst (λ (b : Bool). T (not b)) (sym e) tt))

-- ---- signs

pub 0≤_number : (n : ℕ) → pos 0 ≤ℤ pos n
0≤_number n = ≤_from (pos 0) (pos n) (omega arith)

pub 0≤_plus : {x y : ℤ} → pos 0 ≤ℤ x → pos 0 ≤ℤ y → pos 0 ≤ℤ (x +ℤ y)
0≤_plus {x} {y} = lin (x ∷ y ∷ []) (search says depth 30 fits 9000) (omega arith)

pub 0≤_product : {x y : ℤ} → pos 0 ≤ℤ x → pos 0 ≤ℤ y → pos 0 ≤ℤ (x *ℤ y)
0≤_product {x = pos a} {y = pos b} h k = 0≤_number (a * b)
0≤_product {x = pos a} {y = negsuc b} h k = absurd k.le
0≤_product {x = negsuc a} {y = y} h k = absurd h.le

pub 0≤_square : (x : ℤ) → pos 0 ≤ℤ (x *ℤ x)
0≤_square (pos a) = 0≤_number (a * a)
0≤_square (negsuc a) = 0≤_number (suc a * suc a)

pub 0<_suc : (n : ℕ) → pos 0 <ℤ pos (suc n)
0<_suc n = <_from (pos 0) (pos (suc n)) (omega arith)

pub 0<_plus : {x y : ℤ} → pos 0 <ℤ x → pos 0 <ℤ y → pos 0 <ℤ (x +ℤ y)
0<_plus {x} {y} = lin (x ∷ y ∷ []) (search says depth 30 fits 9000) (omega arith)

-- what an order says of its gap
pub 0≤_gap : {x y : ℤ} → x ≤ℤ y → pos 0 ≤ℤ (y -ℤ x)
0≤_gap {x} {y} = lin (x ∷ y ∷ []) (search says depth 30 fits 9000) (omega arith)

pub 0<_gap : {x y : ℤ} → x <ℤ y → pos 0 <ℤ (y -ℤ x)
0<_gap {x} {y} = lin (x ∷ y ∷ []) (search says depth 30 fits 9000) (omega arith)

pub 0≤_minus : {x : ℤ} → x ≤ℤ pos 0 → pos 0 ≤ℤ (neg_ℤ x)
0≤_minus {x} = lin (x ∷ []) (search says depth 30 fits 9000) (omega arith)

pub 0<_minus : {x : ℤ} → x <ℤ pos 0 → pos 0 <ℤ (neg_ℤ x)
0<_minus {x} = lin (x ∷ []) (search says depth 30 fits 9000) (omega arith)

pub ruleset signs = (0≤_square, 0≤_plus, 0≤_product, 0≤_number, 0≤_gap, 0≤_minus)

-- the sign of another form of the same number
pub 0≤_as : {x y : ℤ} → x ≡ y → pos 0 ≤ℤ y → pos 0 ≤ℤ x
0≤_as e h = subst (λ (v : ℤ). pos 0 ≤ℤ v) (sym e) h

-- ---- certificates

pub at_most : {x y : ℤ} (gap : ℤ) → y -ℤ x ≡ gap → pos 0 ≤ℤ gap → x ≤ℤ y
at_most {x} {y} gap = lin (x ∷ y ∷ gap ∷ []) (search says depth 30 fits 9000) (omega arith)

pub less : {x y : ℤ} (gap : ℤ) → y -ℤ x ≡ gap → pos 0 <ℤ gap → x <ℤ y
less {x} {y} gap = lin (x ∷ y ∷ gap ∷ []) (search says depth 30 fits 9000) (omega arith)

-- ---- positive factors

pub 0<→1≤ : {x : ℤ} → pos 0 <ℤ x → pos 1 ≤ℤ x
0<→1≤ {x} = lin (x ∷ []) (search says depth 30 fits 9000) (omega arith)

pub 1≤→0< : {x : ℤ} → pos 1 ≤ℤ x → pos 0 <ℤ x
1≤→0< {x} = lin (x ∷ []) (search says depth 30 fits 9000) (omega arith)

pub 0<_product : {x y : ℤ} → pos 0 <ℤ x → pos 0 <ℤ y → pos 0 <ℤ (x *ℤ y)
0<_product {x} {y} h k =
    let a = 0≤_gap (0<→1≤ h) in
    let b = 0≤_gap (0<→1≤ k) in
    1≤→0<
    (at_most ((x -ℤ pos 1) *ℤ (y -ℤ pos 1) +ℤ (x -ℤ pos 1) +ℤ (y -ℤ pos 1))
    (ring (x ∷ y ∷ []) (search quote depth 30 fits 9000) tt) (search signs))

pub ruleset positives = (0<_plus, 0<_product, 0<_suc)

-- a positive factor can be taken out of an order
pub 0≤_cancel : {k x : ℤ} → pos 0 <ℤ k → pos 0 ≤ℤ (k *ℤ x) → pos 0 ≤ℤ x
0≤_cancel {k} {x} h p = ⊎_elim (λ l. l) (λ l. clash x (k *ℤ x) (0<_product h (0<_minus l)) p (ring (k ∷ x ∷ []) (search quote depth 30 fits 9000) tt)) (≤ℤ_or-<ℤ (pos 0) x)
  where
    clash : (x p : ℤ) → pos 0 <ℤ (k *ℤ neg_ℤ x) → pos 0 ≤ℤ p → k *ℤ neg_ℤ x ≡ neg_ℤ p → pos 0 ≤ℤ x
    clash x p = lin ((k *ℤ neg_ℤ x) ∷ p ∷ x ∷ []) (search says depth 30 fits 9000) (omega arith)

pub 0<_factor : {k x : ℤ} → pos 0 <ℤ k → pos 0 <ℤ (x *ℤ k) → pos 0 <ℤ x
0<_factor {k} {x} h p = ⊎_elim (λ l. clash_ℤ p (none l)) (λ l. l) (≤ℤ_or-<ℤ x (pos 0))
  where
    none : x ≤ℤ pos 0 → (x *ℤ k) ≤ℤ pos 0
    none l = let k₀ = <ℤ→≤ℤ h in at_most (neg_ℤ x *ℤ k) (ring (x ∷ k ∷ []) (search quote depth 30 fits 9000) tt) (search signs)

pub ≤ℤ_cancel : {k x y : ℤ} → pos 0 <ℤ k → (k *ℤ x) ≤ℤ (k *ℤ y) → x ≤ℤ y
≤ℤ_cancel {k} {x} {y} h p =
    at_most (y -ℤ x) refl
    (0≤_cancel h (0≤_as (ring (k ∷ x ∷ y ∷ []) (search quote depth 30 fits 9000) tt) (0≤_gap p)))

pub *ℤ_mono : {k x y : ℤ} → pos 0 ≤ℤ k → x ≤ℤ y → (k *ℤ x) ≤ℤ (k *ℤ y)
*ℤ_mono {k} {x} {y} h p =
    at_most (k *ℤ (y -ℤ x)) (ring (k ∷ x ∷ y ∷ []) (search quote depth 30 fits 9000) tt) (search signs)

pub <ℤ_cancel : {k x y : ℤ} → pos 0 <ℤ k → (k *ℤ x) <ℤ (k *ℤ y) → x <ℤ y
<ℤ_cancel {k} {x} {y} h p = ⊎_elim (λ l. clash_ℤ p (*ℤ_mono (<ℤ→≤ℤ h) l)) (λ l. l) (≤ℤ_or-<ℤ y x)
