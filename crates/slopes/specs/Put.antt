-- Writing a range of a list, entry by entry.
use Rattle.std.specs.Prelude.{◌≡◌, refl, List, ℕ, zero, suc, ◌+◌, ◌-◌, ◌<◌, ◌≤◌, ℤ, pos, length, set}
use Rattle.std.proofs.Common.{sym, ◌∙◌, ap, ap₂, subst, ⊎_elim, eq-or-lt_of_le, arith, length-set, get_or-set_same, get_or-set_other, ext_get_or}
use Rattle.table.specs.Table.{entry}
use Rattle.slopes.specs.Slopes.{tab}

-- the list with f lo, f (lo + 1), .. at the c places from lo on
abbrev pub put : (ℕ → ℤ) → (lo c : ℕ) → List ℤ → List ℤ
put f lo zero list = list
put f lo (suc c) list = set (put f lo c list) (lo + c) (f (lo + c))

module _ (f : ℕ → ℤ) (lo : ℕ) (list : List ℤ) where
  pub length_put : (c : ℕ) → length (put f lo c list) ≡ length list
  length_put zero = refl
  length_put (suc c) = length-set (put f lo c list) (lo + c) (f (lo + c)) ∙ length_put c

  -- where a loop begins, and its next entry
  pub put_none : list ≡ put f lo (lo - lo) list
  put_none = ap (λ (c : ℕ). put f lo c list) {x = zero} {y = lo - lo} (omega arith)

  pub put_next : (i : ℕ) → lo ≤ i → set (put f lo (i - lo) list) i (f i) ≡ put f lo (i + 1 - lo) list
  put_next i l =
      subst (λ (j : ℕ). set (put f lo (i - lo) list) j (f j) ≡ put f lo (i + 1 - lo) list) {x = lo + (i - lo)} (omega arith)
      (ap (λ (c : ℕ). put f lo c list) {x = suc (i - lo)} {y = i + 1 - lo} (omega arith))

  -- two ranges behind one another are one
  pub put_on : (a b : ℕ) → put f (lo + a) b (put f lo a list) ≡ put f lo (a + b) list
  put_on a zero = ap (λ (c : ℕ). put f lo c list) {x = a} {y = a + zero} (omega arith)
  put_on a (suc b) =
      ap₂ (λ (l : List ℤ) (j : ℕ). set l j (f j)) {u = lo + a + b} {v = lo + (a + b)} (put_on a b) (omega arith)
      ∙ ap (λ (c : ℕ). put f lo c list) {x = suc (a + b)} {y = a + suc b} (omega arith)

  pub put_inside : (c j : ℕ) → lo ≤ j → j < lo + c → j < length list → entry (put f lo c list) j ≡ f j
  put_inside zero j l h k = absurd (omega arith)
  put_inside (suc c) j l h k = ⊎_elim here (λ b. before (put_inside c j l b k) b) (eq-or-lt_of_le (at_most h))
    where
      at_most : j < lo + suc c → j ≤ lo + c
      at_most h = omega arith

      here : j ≡ lo + c → entry (put f lo (suc c) list) j ≡ f j
      here e =
          subst (λ (i : ℕ). entry (put f lo (suc c) list) i ≡ f i) (sym e)
          (get_or-set_same (put f lo c list) (lo + c) (f (lo + c)) (pos 0) (subst (λ (i : ℕ). lo + c < i) (sym (length_put c)) (subst (λ (i : ℕ). i < length list) e k)))

      before : entry (put f lo c list) j ≡ f j → j < lo + c → entry (put f lo (suc c) list) j ≡ f j
      before e b = get_or-set_other (put f lo c list) (lo + c) j (f (lo + c)) (pos 0) (λ e. omega arith) ∙ e

  pub put_outside : (c j : ℕ) → ((lo ≤ j) × (j < lo + c) → ⊥) → entry (put f lo c list) j ≡ entry list j
  put_outside zero j out = refl
  put_outside (suc c) j out =
      get_or-set_other (put f lo c list) (lo + c) j (f (lo + c)) (pos 0) (λ (e : j ≡ lo + c). out (omega arith, omega arith)) ∙ put_outside c j (λ b. out (b.0, omega (arith, b.1)))

-- ---- a list written from its start to its end

pub tab_length : (n : ℕ) (f : ℕ → ℤ) → length (tab n f) ≡ n
tab_length zero f = refl
tab_length (suc n) f = ap suc (tab_length n (λ i. f (suc i)))

pub tab_entry : (n : ℕ) (f : ℕ → ℤ) (i : ℕ) → i < n → entry (tab n f) i ≡ f i
tab_entry zero f i l = absurd (omega arith)
tab_entry (suc n) f zero l = refl
tab_entry (suc n) f (suc i) l = tab_entry n (λ j. f (suc j)) i (omega arith)

pub put_all : (f : ℕ → ℤ) (list : List ℤ) (n : ℕ) → length list ≡ n → put f 0 n list ≡ tab n f
put_all f list n e =
    ext_get_or (pos 0) (put f 0 n list) (tab n f) (length_put f 0 list n ∙ e ∙ sym (tab_length n f))
    (λ i l. let k = inside i l in put_inside f 0 list n i (omega arith) (omega (arith, e)) k ∙ sym (tab_entry n f i (omega (arith, e))))
  where
    inside : (i : ℕ) → i < length (put f 0 n list) → i < length list
    inside i l = subst (λ (m : ℕ). i < m) (length_put f 0 list n) l

-- the first entry, then those between, then the last
pub put_ends : (f : ℕ → ℤ) (list : List ℤ) (n : ℕ) → 2 ≤ n → length list ≡ n → put f (n - 1) (n - (n - 1)) (put f 1 (n - 2) (put f 0 1 list)) ≡ tab n f
put_ends f list n l e =
    ap₂ (λ (lo : ℕ) (l : List ℤ). put f lo (n - (n - 1)) l) {x = n - 1} {y = 0 + (1 + (n - 2))} (omega arith) (put_on f 0 list 1 (n - 2))
    ∙ put_on f 0 list (1 + (n - 2)) (n - (n - 1))
    ∙ ap (λ (c : ℕ). put f 0 c list) {x = 1 + (n - 2) + (n - (n - 1))} {y = n} (omega arith)
    ∙ put_all f list n e
