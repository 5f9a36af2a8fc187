-- How a bool that says whether a statement holds is made and used.
use Rattle.std.specs.Prelude.{◌≡◌, refl, Bool, true, false, not, cond, ◌&&◌, ◌||◌, ◌⊎◌, ℕ, T, ℤ, pos, neg_ℤ, ◌≤ℤ◌, ◌<ℤ◌}
use Rattle.std.proofs.Common.{sym, subst, inl, inr, ⊎_elim}
use Rattle.std.specs.Int.Signed.{le_z, lt_z, le_z_yes, lt_z_yes, clash_ℤ, ≤ℤ_refl}
use Rattle.integers.specs.Promise.{Between, Decided, holds, fails, magnitude}
use Rattle.integers.specs.Order.{≤ℤ_or-<ℤ, ≤ℤ_antisym, ≤_pos, pos-≤}
use Rattle.integers.specs.Within.{Within, within, within_low, within_high}

-- by a test that is true where A holds
pub decided_by : {A : Type 0} (b : Bool) → (b ≡ true → A) → (b ≡ false → A → ⊥) → Decided A b
decided_by true f g = holds (f refl)
decided_by false f g = fails (g refl)

pub told : {A : Type 0} {b : Bool} → Decided A b → b ≡ true → A
told (holds a) e = a
told (fails f) e = absurd (subst (λ (b : Bool). T (not b)) e tt)

pub denied : {A : Type 0} {b : Bool} → Decided A b → b ≡ false → A → ⊥
denied (holds a) e = absurd (subst T e tt)
denied (fails f) e = f

-- what is chosen by it, in place of y, and what where x is passed over
pub chosen : {A : Type 0} {b : Bool} {x : ℤ} (y : ℤ) → Decided A b → A → x ≡ cond b x y
chosen y (holds a) h = refl
chosen y (fails f) h = absurd (f h)

pub passed_over : {A : Type 0} {b : Bool} (x : ℤ) {y : ℤ} → Decided A b → (A → ⊥) → y ≡ cond b x y
passed_over x (holds a) g = absurd (g a)
passed_over x (fails f) g = refl

-- the tests that a definition makes
pub decided-≤ : (x y : ℤ) → Decided (x ≤ℤ y) (le_z x y)
decided-≤ x y = decided_by (le_z x y) (λ e. le_z_yes (subst T (sym e) tt)) (λ e h. subst T e h.le)

pub decided-< : (x y : ℤ) → Decided (x <ℤ y) (lt_z x y)
decided-< x y = decided_by (lt_z x y) (λ e. lt_z_yes (subst T (sym e) tt)) (λ e h. subst T e h.lt)

pub decided_both : {A B : Type 0} {b c : Bool} → Decided A b → Decided B c → Decided (A × B) (b && c)
decided_both (holds a) (holds d) = holds (a, d)
decided_both (holds a) (fails g) = fails (λ w. g w.1)
decided_both (fails f) d = fails (λ w. f w.0)

pub decided_either : {A B : Type 0} {b c : Bool} → Decided A b → Decided B c → Decided (A ⊎ B) (b || c)
decided_either (holds a) d = holds (inl a)
decided_either (fails f) (holds b) = holds (inr b)
decided_either (fails f) (fails g) = fails (⊎_elim f g)

-- of a statement that says the same
pub decided_alike : {A B : Type 0} {b : Bool} → (A → B) → (B → A) → Decided A b → Decided B b
decided_alike f g (holds a) = holds (f a)
decided_alike f g (fails h) = fails (λ b. h (g b))

-- of the same number under another name
pub asked : (W : ℤ → Type 0) {y x : ℤ} {b : Bool} → y ≡ x → Decided (W y) b → Decided (W x) b
asked W {b = b} e d = subst (λ (z : ℤ). Decided (W z) b) e d

-- two answers to one question are the same
pub one_decision : {A : Type 0} {b c : Bool} → Decided A b → Decided A c → b ≡ c
one_decision (holds a) (holds d) = refl
one_decision (holds a) (fails g) = absurd (g a)
one_decision (fails f) (holds d) = absurd (f d)
one_decision (fails f) (fails g) = refl

-- ---- what holds or not

pub or_not : {A : Type 0} → Dec A → A ⊎ (A → ⊥)
or_not (yes a) = inl a
or_not (no f) = inr f

-- of a statement, of one that says the same
pub alike_or_not : {A B : Type 0} → (A → B) → (B → A) → A ⊎ (A → ⊥) → B ⊎ (B → ⊥)
alike_or_not f g = ⊎_elim (λ a. inl (f a)) (λ h. inr (λ b. h (g b)))

pub both_or_not : {A B : Type 0} → A ⊎ (A → ⊥) → B ⊎ (B → ⊥) → (A × B) ⊎ (A × B → ⊥)
both_or_not (inl a) (inl b) = inl (a, b)
both_or_not (inl a) (inr g) = inr (λ w. g w.1)
both_or_not (inr f) d = inr (λ w. f w.0)

-- and of what it is for one not to hold
pub fails_or_not : {A : Type 0} → A ⊎ (A → ⊥) → (A → ⊥) ⊎ ((A → ⊥) → ⊥)
fails_or_not = ⊎_elim (λ a. inr (λ f. f a)) inl

pub ≤ℤ_or_not : (x y : ℤ) → (x ≤ℤ y) ⊎ (x ≤ℤ y → ⊥)
≤ℤ_or_not x y = ⊎_elim inl (λ l. inr (λ h. clash_ℤ l h)) (≤ℤ_or-<ℤ x y)

pub <ℤ_or_not : (x y : ℤ) → (x <ℤ y) ⊎ (x <ℤ y → ⊥)
<ℤ_or_not x y = ⊎_elim (λ h. inr (λ l. clash_ℤ l h)) inl (≤ℤ_or-<ℤ y x)

pub ≡ℤ_or_not : (x y : ℤ) → (x ≡ y) ⊎ (x ≡ y → ⊥)
≡ℤ_or_not x y = alike_or_not (λ w. ≤ℤ_antisym w.0 w.1) (λ e. (same e, same (sym e))) (both_or_not (≤ℤ_or_not x y) (≤ℤ_or_not y x))
  where
    same : {x y : ℤ} → x ≡ y → x ≤ℤ y
    same {x} e = subst (λ (v : ℤ). x ≤ℤ v) e (≤ℤ_refl x)

pub between_or_not : (l x h : ℤ) → Between l x h ⊎ (Between l x h → ⊥)
between_or_not l x h =
    alike_or_not (λ w. record { low = w.0; high = w.1 }) (λ w. (w.low, w.high)) (both_or_not (≤ℤ_or_not l x) (≤ℤ_or_not x h))

-- ---- what holds where it cannot fail

pub stable : {A : Type 0} → A ⊎ (A → ⊥) → ((A → ⊥) → ⊥) → A
stable (inl a) f = a
stable (inr g) f = absurd (f g)

pub ≤ℤ_stable : {x y : ℤ} → ((x ≤ℤ y → ⊥) → ⊥) → x ≤ℤ y
≤ℤ_stable {x} {y} = stable (≤ℤ_or_not x y)

pub ≡ℤ_stable : {x y : ℤ} → ((x ≡ y → ⊥) → ⊥) → x ≡ y
≡ℤ_stable {x} {y} = stable (≡ℤ_or_not x y)

-- ---- sizes

-- a number is beyond M, on either side of 0, exactly where it is not between −M and M
pub beyond : (M : ℕ) {x : ℤ} {b : Bool} → Decided (Between (neg_ℤ (pos M)) x (pos M)) b → Decided (pos M <ℤ magnitude x) (not b)
beyond M {x} (holds i) = fails (λ l. clash_ℤ l (pos-≤ (within M x i.low i.high).size))
beyond M {x} (fails f) = holds (⊎_elim inside (λ l. l) (≤ℤ_or-<ℤ (magnitude x) (pos M)))
  where
    inside : magnitude x ≤ℤ pos M → pos M <ℤ magnitude x
    inside h = let w : Within M x = record { size = ≤_pos h } in absurd (f (record { low = within_low w; high = within_high w }))
