-- A relation of a call's arguments, as the code has them and plainly: of four, and so of one, two, three or five.
use Rattle.std.specs.Prelude.{◌≡◌, Bool, ◌&&◌, List, T, ℤ, pos}
use Rattle.std.proofs.Common.{sym, subst, subst₂}
use Rattle.std.proofs.Math.Facts.{and_yes}
use Rattle.integers.specs.Sizes.{Known, Code, code, plain, sound, plain_is}

-- four expressions, as the arguments of a call
pub data Four (Γ : List Known) (x y z u : ℤ) : Type 0 where
  four : Code Γ x → Code Γ y → Code Γ z → Code Γ u → Four Γ x y z u

pub ruleset arguments = (four, code)

abbrev pub sound_all : {Γ : List Known} {x y z u : ℤ} → Four Γ x y z u → Bool
sound_all (four c d e f) = (sound c && sound d) && (sound e && sound f)

-- a relation of four plain values
abbrev pub Plainly : (ℤ → ℤ → ℤ → ℤ → Type 0) → {Γ : List Known} {x y z u : ℤ} → Four Γ x y z u → Type 0
Plainly R (four c d e f) = R (plain c) (plain d) (plain e) (plain f)

-- what holds of four numbers holds of them under other names
pub same₄ : (R : ℤ → ℤ → ℤ → ℤ → Type 0) {x y z u x' y' z' u' : ℤ} → x ≡ x' → y ≡ y' → z ≡ z' → u ≡ u' → R x y z u → R x' y' z' u'
same₄ R {z = z} {u = u} {x' = x'} {y' = y'} e f g h r =
    subst₂ (λ (z u : ℤ). R x' y' z u) g h (subst₂ (λ (x y : ℤ). R x y z u) e f r)

-- so of the arguments as the code has them and of the plain values, both ways
pub plainly₄ : (Γ : List Known) (R : ℤ → ℤ → ℤ → ℤ → Type 0) {x y z u : ℤ} → R x y z u → (t : Four Γ x y z u) → T (sound_all t) → Plainly R t
plainly₄ Γ R h (four c d e f) t =
    let s = and_yes (sound c && sound d) (sound e && sound f) t in
    let a = and_yes (sound c) (sound d) s.0 in
    let b = and_yes (sound e) (sound f) s.1 in
    same₄ R (plain_is c a.0) (plain_is d a.1) (plain_is e b.0) (plain_is f b.1) h

pub as_coded₄ : (Γ : List Known) (R : ℤ → ℤ → ℤ → ℤ → Type 0) {x y z u : ℤ} (t : Four Γ x y z u) → T (sound_all t) → Plainly R t → R x y z u
as_coded₄ Γ R (four c d e f) t h =
    let s = and_yes (sound c && sound d) (sound e && sound f) t in
    let a = and_yes (sound c) (sound d) s.0 in
    let b = and_yes (sound e) (sound f) s.1 in
    same₄ R (sym (plain_is c a.0)) (sym (plain_is d a.1)) (sym (plain_is e b.0)) (sym (plain_is f b.1)) h

-- ---- of five, of which the first is read by itself

pub plainly₅ : (Γ : List Known) (R : ℤ → ℤ → ℤ → ℤ → ℤ → Type 0) {v x y z u : ℤ} → R v x y z u → (c : Code Γ v) → (t : Four Γ x y z u) → T (sound c && sound_all t) → Plainly (R (plain c)) t
plainly₅ Γ R {x = x} {y} {z} {u} h c t k =
    let s = and_yes (sound c) (sound_all t) k in plainly₄ Γ (R (plain c)) (subst (λ (v : ℤ). R v x y z u) (plain_is c s.0) h) t s.1

pub as_coded₅ : (Γ : List Known) (R : ℤ → ℤ → ℤ → ℤ → ℤ → Type 0) {v x y z u : ℤ} (c : Code Γ v) (t : Four Γ x y z u) → T (sound c && sound_all t) → Plainly (R (plain c)) t → R v x y z u
as_coded₅ Γ R {x = x} {y} {z} {u} c t k h =
    let s = and_yes (sound c) (sound_all t) k in subst (λ (v : ℤ). R v x y z u) (sym (plain_is c s.0)) (as_coded₄ Γ (R (plain c)) t s.1 h)

-- ---- of one, of two, and of three

module _ (Γ : List Known) (R : ℤ → Type 0) {x : ℤ} where
  pub as_coded₁ : (t : Four Γ x (pos 0) (pos 0) (pos 0)) → T (sound_all t) → Plainly (λ x _ _ _. R x) t → R x
  as_coded₁ = as_coded₄ Γ (λ x _ _ _. R x)

module _ (Γ : List Known) (R : ℤ → ℤ → Type 0) {x y : ℤ} where
  pub plainly₂ : R x y → (t : Four Γ x y (pos 0) (pos 0)) → T (sound_all t) → Plainly (λ x y _ _. R x y) t
  plainly₂ = plainly₄ Γ (λ x y _ _. R x y)

  pub as_coded₂ : (t : Four Γ x y (pos 0) (pos 0)) → T (sound_all t) → Plainly (λ x y _ _. R x y) t → R x y
  as_coded₂ = as_coded₄ Γ (λ x y _ _. R x y)

module _ (Γ : List Known) (R : ℤ → ℤ → ℤ → Type 0) {x y z : ℤ} where
  pub plainly₃ : R x y z → (t : Four Γ x y z (pos 0)) → T (sound_all t) → Plainly (λ x y z _. R x y z) t
  plainly₃ = plainly₄ Γ (λ x y z _. R x y z)

  pub as_coded₃ : (t : Four Γ x y z (pos 0)) → T (sound_all t) → Plainly (λ x y z _. R x y z) t → R x y z
  as_coded₃ = as_coded₄ Γ (λ x y z _. R x y z)
