-- Halving a range of pieces: what is known of one that has a position's piece, and how many halvings leave a single piece.
use Rattle.std.specs.Prelude.{◌≡◌, List, ℕ, zero, suc, ◌+◌, ◌-◌, ◌/◌, ◌^◌, ◌≤◌, ◌<◌, ℤ, ◌≤ℤ◌, ◌<ℤ◌, length}
use Rattle.std.proofs.Common.{subst, ⊎_elim, zero-le, suc-le-suc, arith}
use Rattle.integers.specs.Order.{≤ℤ_or-<ℤ}
use Rattle.table.specs.Table.{entry}
use Rattle.table.specs.Accepted.{PointsWithin}
use Rattle.position.specs.Position.{Belongs, inside, WithinKnots}
use Rattle.position.specs.Pieces.{in_last_piece}

-- ---- a range that has a position's piece

-- a range of pieces that ends at this knot ends behind the position, or it ends the table
pub data EndsFor (ks : List ℤ) (x : ℤ) (end : ℕ) : Type 0 where
  behind : x <ℤ entry ks end → EndsFor ks x end
  at_last : end + 1 ≡ length ks → x ≤ℤ entry ks (length ks - 1) → EndsFor ks x end

-- the position's piece is one of those from `first` on and before `end`
pub record Among (ks : List ℤ) (x : ℤ) (first end : ℕ) : Type 0 where
  pub some : first < end
  pub there : end < length ks
  pub starts : entry ks first ≤ℤ x
  pub ends : EndsFor ks x end

module _ {ks : List ℤ} {x : ℤ} where
  pub among_all : 1 < length ks → WithinKnots ks x → Among ks x 0 (length ks - 1)
  among_all two w = record { some = omega arith; there = omega arith; starts = w.low; ends = at_last (omega arith) w.high }

  -- a single piece is the position's
  pub the_only_one : {first end : ℕ} → Among ks x first end → end - first ≡ 1 → Belongs ks x first
  the_only_one {first} a e = by_end (subst (EndsFor ks x) (omega (arith, e, a.some)) a.ends)
    where
      by_end : EndsFor ks x (first + 1) → Belongs ks x first
      by_end (behind l) = inside {i = first} (omega (arith, e, a.some, a.there)) a.starts l
      by_end (at_last f l) = in_last_piece (omega (arith, f)) a.starts l

  -- cut in two anywhere, one part has it: which one, the knot between them says
  module _ {first end : ℕ} (a : Among ks x first end) (middle : ℕ) where
    pub in_front : first < middle → middle < end → x <ℤ entry ks middle → Among ks x first middle
    in_front some less l = record { some = some; there = omega (arith, a.there); starts = a.starts; ends = behind l }

    pub in_rest : middle < end → (x <ℤ entry ks middle → ⊥) → Among ks x middle end
    in_rest less f = record { some = less; there = a.there; starts = ⊎_elim (λ l. l) (λ l. absurd (f l)) (≤ℤ_or-<ℤ (entry ks middle) x); ends = a.ends }

-- ---- how many halvings

-- the larger half of n pieces
abbrev pub larger : ℕ → ℕ
larger n = n - n / 2

-- How many halvings leave one of n pieces, where the larger half is kept each time. The other number bounds them, so that the recursion has an end; n is
-- enough for it.
abbrev halvings_in : (bound n : ℕ) → ℕ
halvings_in zero n = 0
halvings_in (suc b) zero = 0
halvings_in (suc b) (suc zero) = 0
halvings_in (suc b) (suc (suc n)) = suc (halvings_in b (larger (suc (suc n))))

pub halvings : ℕ → ℕ
halvings n = halvings_in n n

-- of more pieces it takes no fewer
no_fewer : (b c n m : ℕ) → n ≤ m → m ≤ c → halvings_in b n ≤ halvings_in c m
no_fewer zero c n m h j = zero-le
no_fewer (suc b) c zero m h j = zero-le
no_fewer (suc b) c (suc zero) m h j = zero-le
no_fewer (suc b) c (suc (suc n)) zero h j = absurd (omega arith)
no_fewer (suc b) c (suc (suc n)) (suc zero) h j = absurd (omega arith)
no_fewer (suc b) zero (suc (suc n)) (suc (suc m)) h j = absurd (omega arith)
no_fewer (suc b) (suc c) (suc (suc n)) (suc (suc m)) h j =
    suc-le-suc (no_fewer b c (larger (suc (suc n))) (larger (suc (suc m))) (omega arith) (omega arith))

-- of either half it takes one less
pub one_less : (n m : ℕ) → 1 < n → m ≤ larger n → halvings m < halvings n
unfolding halvings
one_less zero m l h = absurd (omega arith)
one_less (suc zero) m l h = absurd (omega arith)
one_less (suc (suc n)) m l h = suc-le-suc (no_fewer m (suc n) m (larger (suc (suc n))) h (omega arith))

-- of up to 2^k pieces it takes up to k
by_powers : (b k n : ℕ) → n ≤ 2 ^ k → halvings_in b n ≤ k
by_powers zero k n h = zero-le
by_powers (suc b) k zero h = zero-le
by_powers (suc b) k (suc zero) h = zero-le
by_powers (suc b) zero (suc (suc n)) h = absurd (omega arith)
by_powers (suc b) (suc k) (suc (suc n)) h = suc-le-suc (by_powers b k (larger (suc (suc n))) (omega arith))

-- "Find it by halving the list of pieces, each half in turn": of the 1,023 pieces that a table may have, one is left after ten halvings or fewer
pub ten_halvings : {ks vs : List ℤ} → PointsWithin ks vs → halvings (length ks - 1) ≤ 10
unfolding halvings
ten_halvings {ks} p = by_powers (length ks - 1) 10 (length ks - 1) (omega (arith, p.count.high))
