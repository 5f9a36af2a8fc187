-- How a search that asks several causes at once finds the first cause that holds and its first place, whatever the causes are.
use Rattle.std.specs.Prelude.{◌≡◌, refl, ℕ, zero, suc, ◌+◌, ◌-◌, ◌≤◌, ◌<◌}
use Rattle.std.proofs.Common.{sym, subst, ⊎_elim, arith, eq-or-lt_of_le, below_more}
use Rattle.rules.specs.Refusals.{Given, done, refused, passed}
use Rattle.table.specs.Accepted.{at_most}
use Rattle.table.specs.Search.{numbers, SoundAt, FaultAt, sound, faulty, Scanned, clean, found}

module _ (H : ℕ → ℕ → Type 0) where
  -- ---- the answer in an order of numbers that follow one another

  given_none : (a n : ℕ) → ((d q : ℕ) → a ≤ d → d < a + n → H d q → ⊥) → Given H (numbers a n) 0 0
  given_none a zero f = done
  given_none a (suc n) f =
      passed (λ q h. f a q (omega arith) (omega arith) h) (given_none (suc a) n (λ d q l k h. f d q (omega (arith, l)) (omega (arith, k)) h))

  given_first : (a n : ℕ) {c p : ℕ} → a ≤ suc c → suc c < a + n → H (suc c) p → ((q : ℕ) → q < p → H (suc c) q → ⊥) → ((d q : ℕ) → a ≤ d → d ≤ c → H d q → ⊥) → Given H (numbers a n) (suc c) p
  given_first a zero l k h f g = absurd (omega (arith, l, k))
  given_first a (suc n) {c} {p} l k h f g =
      ⊎_elim this (λ b. passed (λ q h. g a q (omega arith) (omega (arith, b)) h) (given_first (suc a) n b (omega (arith, k)) h f (λ d q m. g d q (omega (arith, m))))) (eq-or-lt_of_le l)
    where
      this : a ≡ suc c → Given H (numbers a (suc n)) (suc c) p
      this e = subst (λ (b : ℕ). Given H (numbers b (suc n)) (suc c) p) (sym e) (refused h f)

  -- ---- one way through the pieces

  module _ {last from i : ℕ} (before : (q : ℕ) → q < i → from ≤ q → SoundAt H last q) where
    pub nothing_there : (n : ℕ) → ((c q : ℕ) → 3 ≤ c → c ≤ last → H c q → q + 1 < n) → n - i < 2 → Scanned H last from 0 0
    nothing_there n there l = clean (λ q f c a b h. before q (omega (arith, there c q a b h, l)) f c a b h)

    pub fault_there : {n : ℕ} → (n ≡ 0 → ⊥) → from ≤ i → FaultAt H last i n → Scanned H last from n i
    fault_there f l (sound s) = absurd (f refl)
    fault_there f l (faulty a b h s) = found l (faulty a b h s) (λ q k m. before q m k)

  -- ---- the whole search: where it stands, n is the number and p the place of the answer but for what comes before n and stands behind p

  pub data Standing (last : ℕ) : ℕ → ℕ → Type 0 where
    nothing : ((q : ℕ) → SoundAt H last q) → Standing last 0 0
    so_far : {c p : ℕ} → 3 ≤ suc c → suc c ≤ last → H (suc c) p → ((q : ℕ) → q < p → H (suc c) q → ⊥) → ((q : ℕ) → q < p + 1 → SoundAt H c q) → Standing last (suc c) p

  pub begins : {last n p : ℕ} → Scanned H last 0 n p → Standing last n p
  begins (clean f) = nothing (λ q. f q (omega arith))
  begins {last} (found {c} {p} l (faulty a b h s) f) =
      so_far a b h (λ q k. f q (omega arith) k (suc c) a b) (below_more (SoundAt H c) p (λ q k d m e. f q (omega arith) k d m (omega (arith, b, e))) s)

  -- n > 3: what was found behind p comes before n
  pub goes_on : {last n p m q : ℕ} → 3 < n → (m ≡ 0 → ⊥) → Standing last n p → Scanned H (n - 1) (p + 1) m q → Standing last m q
  goes_on l f (nothing s) g = absurd (omega (arith, l))
  goes_on l f (so_far {c} {p} a b h u v) (clean w) = absurd (f refl)
  goes_on {q = q} l f (so_far {c} {p} a b h u v) (found {c = d} k (faulty a' b' h' s) w) =
      so_far a' (omega (arith, b, b')) h' (λ r m. earlier r m (suc d) a' (omega (arith, b')))
      (below_more (SoundAt H d) q (λ r m e x y. earlier r m e x (omega (arith, y, b'))) s)
    where
      -- between p and the new place, and up to p
      earlier : (r : ℕ) → r < q → SoundAt H c r
      earlier r m e x y z = w r (at_most (λ (j : r < p + 1). v r j e x y z)) m e x (omega (arith, y)) z

  pub settles : {last n p : ℕ} → 3 ≤ last → Standing last n p → ((q : ℕ) → SoundAt H (n - 1) q) → Given H (numbers 3 (last - 2)) n p
  settles {last} l (nothing s) f = given_none 3 (last - 2) (λ d q a b. s q d a (omega (arith, b, l)))
  settles {last} l (so_far a b h u v) f = given_first 3 (last - 2) a (omega (arith, b, l)) h u (λ d q k m. f q d k (omega (arith, m)))

  -- up to 3 nothing comes before n
  pub none_before : {n : ℕ} → (3 < n → ⊥) → (q : ℕ) → SoundAt H (n - 1) q
  none_before {n} f q c a b h = absurd (f (omega (arith, a, b)))

  -- what the way behind p has not found does not hold at all
  pub none_behind : {last n p m r : ℕ} → 3 < n → m ≡ 0 → Standing last n p → Scanned H (n - 1) (p + 1) m r → (q : ℕ) → SoundAt H (n - 1) q
  none_behind l z (nothing s) g q = absurd (omega (arith, l))
  none_behind l z (so_far {c} {p} a b h u v) (clean w) q = λ e x y z. w q (at_most (λ (j : q < p + 1). v q j e x (omega (arith, y)) z)) e x y z
  none_behind l z (so_far a b h u v) (found k f w) q = absurd (omega (arith, z))

  pub found_within : {last from n p : ℕ} → Scanned H last from n p → n ≤ last
  found_within (clean f) = omega arith
  found_within (found l (faulty a b h s) f) = b

  -- where it stands there is a piece
  pub standing_there : {last n p : ℕ} → 3 < n → Standing last n p → (m : ℕ) → ((c q : ℕ) → 3 ≤ c → c ≤ last → H c q → q + 1 < m) → p + 1 < m
  standing_there l (nothing s) m there = absurd (omega (arith, l))
  standing_there l (so_far a b h u v) m there = there _ _ a b h

  pub standing_within : {last n p : ℕ} → Standing last n p → n ≤ last
  standing_within (nothing s) = omega arith
  standing_within (so_far a b h u v) = b
