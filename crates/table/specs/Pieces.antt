-- Whether pieces are within the limits, by the faults that are counted. Nobody has to believe this file: `points` and `changed_points` promise `Given`.
use Rattle.std.specs.Prelude.{◌≡◌, Bool, true, false, cond, List, [], ◌∷◌, ℕ, ◌+◌, ◌^◌, ◌≤◌, ◌<◌, eqb, ℤ, pos, ◌-ℤ◌, length, set}
use Rattle.std.proofs.Common.{sym, ◌∙◌, ap, ap₂, subst, ⊎_elim, arith, get_or-set_other, SFits, to_z, of_z, eqb-true}
use Rattle.std.proofs.Math.Decide.{dec_lt}
use Rattle.std.specs.Int.Signed.{mag}
use Rattle.std.specs.Int.{w32, w64}
use Rattle.std.proofs.lemmas.Bool.{eqb-false}
use Rattle.integers.specs.Promise.{Decided, holds, fails}
use Rattle.integers.specs.Decided.{decided_by, decided_alike, or_not}
use Rattle.integers.specs.Sizes.{returned}
use Rattle.rules.specs.Limits.{CountWithin, WidthWithin, RiseWithin}
use Rattle.rules.specs.Refusals.{Given}
use Rattle.table.specs.declared.changed.Change.{Change}
use Rattle.table.specs.Table.{table, step, Holds}
use Rattle.table.specs.Search.{as_it_came}
use Rattle.table.specs.Accepted.{at_most, steps_accepted}

-- as many values as knots, in number within the limits
pub record Paired (ks vs : List ℤ) : Type 0 where
  pub lengths : length vs ≡ length ks
  pub count : CountWithin (length ks)

-- piece i is within the limits
pub record StepsWithin (ks vs : List ℤ) (i : ℕ) : Type 0 where
  pub width : WidthWithin (step ks i)
  pub rise : RiseWithin (step vs i)

-- and all pieces from one up to and without another
pub record PiecesWithin (ks vs : List ℤ) (from end : ℕ) : Type 0 where
  pub each : (i : ℕ) → from ≤ i → i < end → StepsWithin ks vs i

-- as they would be after a change
module _ (c : Change) (ks vs : List ℤ) where
  abbrev pub PieceAfter : ℕ → Type 0
  PieceAfter = StepsWithin (set ks c.point c.knot) (set vs c.point c.value)

  abbrev pub PiecesAfter : (from end : ℕ) → Type 0
  PiecesAfter = PiecesWithin (set ks c.point c.knot) (set vs c.point c.value)

-- ---- faults that are counted

-- there are none exactly where A holds
pub record Faults (A : Type 0) (n : ℕ) : Type 0 where
  pub sound : n ≡ 0 → A
  pub none : A → n ≡ 0

-- what `fault` answers
pub one_fault : {A : Type 0} {b : Bool} {n : ℕ} → n ≡ cond b 0 1 → Decided A b → Faults A n
one_fault e (holds a) = record { sound = λ _. a; none = λ _. e }
one_fault e (fails f) = record { sound = λ z. absurd (omega (arith, e, z)); none = λ a. absurd (f a) }

pub at_most_one : (b : Bool) {n : ℕ} → n ≡ cond b 0 1 → n ≤ 1
at_most_one true e = omega arith
at_most_one false e = omega arith

pub no_faults : {A : Type 0} {n : ℕ} → Faults A n → Decided A (eqb n 0)
no_faults {n = n} f = decided_by (eqb n 0) (λ e. f.sound (eqb-true n 0 e)) (λ e a. eqb-false n 0 e (f.none a))

-- ---- some pieces, and more

module _ {ks vs : List ℤ} where
  pub no_pieces : {from end : ℕ} → end ≤ from → PiecesWithin ks vs from end
  no_pieces l = record { each = λ i a b. absurd (omega (arith, l, a, b)) }

  pub fewer : {from end from' end' : ℕ} → from ≤ from' → end' ≤ end → PiecesWithin ks vs from end → PiecesWithin ks vs from' end'
  fewer l m p = record { each = λ i a b. p.each i (omega (arith, l, a)) (omega (arith, m, b)) }

  pub joined : {from end : ℕ} (k : ℕ) → PiecesWithin ks vs from k → PiecesWithin ks vs k end → PiecesWithin ks vs from end
  joined k p q = record { each = λ i a b. ⊎_elim (λ l. p.each i a l) (λ f. q.each i (at_most f) b) (or_not (dec_lt i k)) }

  pub just : {i : ℕ} → StepsWithin ks vs i → PiecesWithin ks vs i (i + 1)
  just {i} here = record { each = λ q a b. subst (StepsWithin ks vs) {x = i} {y = q} (omega (arith, a, b)) here }

  pub counted : {from i m w r : ℕ} → from ≤ i → Faults (PiecesWithin ks vs from i) m → Faults (WidthWithin (step ks i)) w → Faults (RiseWithin (step vs i)) r → Faults (PiecesWithin ks vs from (i + 1)) (m + w + r)
  counted {i = i} {m} {w} {r} l f g h =
      record {
        sound = λ (e : m + w + r ≡ 0). joined i (f.sound (omega arith)) (just (record { width = g.sound (omega arith); rise = h.sound (omega arith) }));
        none = λ p. let here = p.each i l (omega arith) in omega (arith, f.none (fewer (omega arith) (omega arith) p), g.none here.width, h.none here.rise);
      }

-- ---- as they would be after a change

-- what `changed::step` answers, as it comes back
pub stepped : (list : List ℤ) (at i : ℕ) {new r : ℤ} → SFits w32 new → mag r < 2 ^ 63 → r ≡ step (set list at (to_z w32 (of_z w32 new))) i → to_z w64 (of_z w64 r) ≡ step (set list at new) i
stepped list at i f ok e = returned w64 ok e ∙ ap (λ (l : List ℤ). step l i) (as_it_came list at f)

-- point k is no end of piece i
abbrev Apart : (k i : ℕ) → Type 0
Apart k i = (i ≡ k → ⊥) × (i + 1 ≡ k → ⊥)

step_other : (list : List ℤ) (x : ℤ) {k i : ℕ} → Apart k i → step (set list k x) i ≡ step list i
step_other list x {k} {i} f = ap₂ (λ (y z : ℤ). z -ℤ y) (get_or-set_other list k i x (pos 0) f.0) (get_or-set_other list k (i + 1) x (pos 0) f.1)

module _ (c : Change) (ks vs : List ℤ) where
  -- pieces that the change does not touch
  untouched : {from end : ℕ} {b : Bool} → ((i : ℕ) → from ≤ i → i < end → Apart c.point i) → Decided (PiecesWithin ks vs from end) b → Decided (PiecesAfter c ks vs from end) b
  untouched apart = decided_alike (λ p. record { each = λ i a b. then (apart i a b) (p.each i a b) }) (λ p. record { each = λ i a b. before (apart i a b) (p.each i a b) })
    where
      then : {i : ℕ} → Apart c.point i → StepsWithin ks vs i → PieceAfter c ks vs i
      then f p =
          record { width = subst WidthWithin (sym (step_other ks c.knot f)) p.width; rise = subst RiseWithin (sym (step_other vs c.value f)) p.rise }

      before : {i : ℕ} → Apart c.point i → PieceAfter c ks vs i → StepsWithin ks vs i
      before f p =
          record { width = subst WidthWithin (step_other ks c.knot f) p.width; rise = subst RiseWithin (step_other vs c.value f) p.rise }

  -- the pieces on the left of the changed point, the last by itself
  pub left_of_it : {b : Bool} {i : ℕ} → i + 1 ≡ c.point → PieceAfter c ks vs i → Decided (PiecesWithin ks vs 0 i) b → Decided (PiecesAfter c ks vs 0 c.point) b
  left_of_it {b} {i} e here d =
      subst (λ (k : ℕ). Decided (PiecesAfter c ks vs 0 k) b) e
      (decided_alike (λ p. joined i p (just here)) (fewer (omega arith) (omega arith)) (untouched (λ q a l. (λ (u : q ≡ c.point). omega (arith, e, l), λ (u : q + 1 ≡ c.point). omega (arith, e, l))) d))

  -- and those on its right, the first by itself
  pub right_of_it : {b : Bool} {end : ℕ} → PieceAfter c ks vs c.point → Decided (PiecesWithin ks vs (c.point + 1) end) b → Decided (PiecesAfter c ks vs c.point end) b
  right_of_it here d =
      decided_alike (joined (c.point + 1) (just here)) (fewer (omega arith) (omega arith)) (untouched (λ q a l. (λ (u : q ≡ c.point). omega (arith, a), λ (u : q + 1 ≡ c.point). omega (arith, a))) d)

-- ---- no piece is refused where all are within the limits

pub none_refused : {s : ℕ} {ks vs ss : List ℤ} {end : ℕ} → length ks ≤ end + 1 → PiecesWithin ks vs 0 end → Given (Holds (table s ks vs ss)) (3 ∷ 4 ∷ []) 0 0
none_refused l p =
    steps_accepted (λ i m. (p.each i (omega arith) (omega (arith, l, m))).width) (λ i m. (p.each i (omega arith) (omega (arith, l, m))).rise)
