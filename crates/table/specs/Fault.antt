-- What is the first fault of a piece, by the tests of its width, its rise and its cubic in turn.
use Rattle.std.specs.Prelude.{◌≡◌, ℕ, ◌+◌, ◌≤◌, ◌<◌, ℤ, ◌-ℤ◌, Option}
use Rattle.std.proofs.Common.{sym, ap₂, subst, arith}
use Rattle.integers.specs.Arguments.{same₄}
use Rattle.cubic.specs.Piece.{Monotone}
use Rattle.rules.specs.Limits.{unit, WidthWithin, RiseWithin}
use Rattle.table.specs.Table.{Table, step, point_count, MonotoneAt, Holds, no_such_unit, lengths_differ, too_few_or_many, width_outside, rise_outside, not_monotone}
use Rattle.table.specs.declared.changed.Change.{Change}
use Rattle.table.specs.Search.{knots_of, values_of, asked, as_many, Askable, EndAt, SoundAt, FaultAt, sound, faulty}

-- the first cause, from 3 up to `last`, that holds of a piece of these numbers, with slopes in 1/U
pub data FaultOf (U : ℤ) (last : ℕ) (h z m n : ℤ) : ℕ → Type 0 where
  none : WidthWithin h → (4 ≤ last → RiseWithin z) → (5 ≤ last → Monotone U h z m n) → FaultOf U last h z m n 0
  in_width : (WidthWithin h → ⊥) → FaultOf U last h z m n 3
  in_rise : 4 ≤ last → WidthWithin h → (RiseWithin z → ⊥) → FaultOf U last h z m n 4
  in_cubic : 5 ≤ last → WidthWithin h → RiseWithin z → (Monotone U h z m n → ⊥) → FaultOf U last h z m n 5

module _ (t : Table) where
  -- what is asked up to `last` does not hold
  sound_to : (last i : ℕ) → last ≤ 5 → WidthWithin (step t.knots i) → (4 ≤ last → RiseWithin (step t.values i)) → (5 ≤ last → MonotoneAt t i) → SoundAt (Holds t) last i
  sound_to last i k w r m c a b (no_such_unit f) = absurd (omega (arith, b, k))
  sound_to last i k w r m c a b (lengths_differ f) = absurd (omega (arith, a))
  sound_to last i k w r m c a b (too_few_or_many f) = absurd (omega (arith, a))
  sound_to last i k w r m c a b (width_outside l f) = f w
  sound_to last i k w r m c a b (rise_outside l f) = f (r b)
  sound_to last i k w r m c a b (not_monotone l f) = f (m b)

  -- the fault of the numbers between points i and i + 1 is the fault of piece i
  fault_at : {last i n : ℕ} {k v m k' v' m' : ℤ} → Askable last → i + 1 < point_count t → EndAt t.knots t.values t.slopes last i k v m → EndAt t.knots t.values t.slopes last (i + 1) k' v' m' → FaultOf (unit t.s) last (k' -ℤ k) (v' -ℤ v) m m' n → FaultAt (Holds t) last i n
  fault_at {last} {i} {k = k} {v} {m} {k'} {v'} {m'} a here l r = of
    where
      width : k' -ℤ k ≡ step t.knots i
      width = ap₂ (λ (x y : ℤ). y -ℤ x) l.knot_read.is r.knot_read.is

      rise : v' -ℤ v ≡ step t.values i
      rise = ap₂ (λ (x y : ℤ). y -ℤ x) l.value_read.is r.value_read.is

      within : WidthWithin (k' -ℤ k) → WidthWithin (step t.knots i)
      within = subst WidthWithin width

      rises : RiseWithin (v' -ℤ v) → RiseWithin (step t.values i)
      rises = subst RiseWithin rise

      same : 5 ≤ last → Monotone (unit t.s) (k' -ℤ k) (v' -ℤ v) m m' → MonotoneAt t i
      same b = same₄ (Monotone (unit t.s)) width rise (l.slope_read.is b) (r.slope_read.is b)

      of : {n : ℕ} → FaultOf (unit t.s) last (k' -ℤ k) (v' -ℤ v) m m' n → FaultAt (Holds t) last i n
      of (none w f g) = sound (sound_to last i a.high (within w) (λ b. rises (f b)) (λ b. same b (g b)))
      of (in_width f) = faulty {c = 2} (omega arith) a.low (width_outside here (λ w. f (subst WidthWithin (sym width) w))) (λ c a b _. absurd (omega (arith, a, b)))
      of (in_rise b w f) =
          faulty {c = 3} (omega arith) b (rise_outside here (λ w. f (subst RiseWithin (sym rise) w))) (sound_to 3 i (omega arith) (within w) (λ (a : 4 ≤ 3). absurd (omega arith)) (λ (a : 5 ≤ 3). absurd (omega arith)))
      of (in_cubic b w z f) =
          faulty {c = 4} (omega arith) b (not_monotone here (λ o. f (same₄ (Monotone (unit t.s)) (sym width) (sym rise) (sym (l.slope_read.is b)) (sym (r.slope_read.is b)) o)))
          (sound_to 4 i (omega arith) (within w) (λ _. rises z) (λ (a : 5 ≤ 4). absurd (omega arith)))

  -- 3, 4 and 5 are of pieces that are there
  piece_there : (c q : ℕ) → 3 ≤ c → c ≤ 5 → Holds t c q → q + 1 < point_count t
  piece_there c q a b (no_such_unit f) = absurd (omega (arith, b))
  piece_there c q a b (lengths_differ f) = absurd (omega (arith, a))
  piece_there c q a b (too_few_or_many f) = absurd (omega (arith, a))
  piece_there c q a b (width_outside l f) = l
  piece_there c q a b (rise_outside l f) = l
  piece_there c q a b (not_monotone l f) = l

pub asked_there : (p : Option Change) (t : Table) (c q : ℕ) → 3 ≤ c → c ≤ 5 → Holds (asked p t) c q → q + 1 < point_count t
asked_there p t c q a b h = subst (λ (n : ℕ). q + 1 < n) (as_many p t) (piece_there (asked p t) c q a b h)

pub fault_between : (p : Option Change) (t : Table) {last i n : ℕ} {U k v m k' v' m' : ℤ} → Askable last → i + 1 < point_count t → U ≡ unit t.s
    → EndAt (knots_of p t.knots) (values_of p t.values) t.slopes last i k v m → EndAt (knots_of p t.knots) (values_of p t.values) t.slopes last (i + 1) k' v' m' → FaultOf U last (k' -ℤ k) (v' -ℤ v) m m' n
    → FaultAt (Holds (asked p t)) last i n
fault_between p t {last} {i} {n} {k = k} {v} {m} {k'} {v'} {m'} a here e l r f =
    fault_at (asked p t) a (subst (λ (n : ℕ). i + 1 < n) (sym (as_many p t)) here) l r (subst (λ (U : ℤ). FaultOf U last (k' -ℤ k) (v' -ℤ v) m m' n) e f)
