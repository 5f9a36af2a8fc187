-- Laws of the piece that a position belongs to.
use Rattle.std.specs.Prelude.{◌≡◌, List, [], ◌∷◌, ℕ, zero, suc, ◌+◌, ◌-◌, ◌≤◌, ◌<◌, ℤ, pos, ◌-ℤ◌, ◌≤ℤ◌, ◌<ℤ◌, length}
use Rattle.std.proofs.Common.{sym, subst, ⊎_elim, arith}
use Rattle.std.specs.Int.Signed.{clash_ℤ, ≤ℤ_refl}
use Rattle.integers.specs.Promise.{Between}
use Rattle.integers.specs.Linear.{lin, says}
use Rattle.integers.specs.Order.{<_or-≤, ≤ℤ_or-<ℤ, ≤ℤ_antisym, ≤ℤ_trans, <ℤ→≤ℤ, 0≤_gap}
use Rattle.rules.specs.Order.{neither_less}
use Rattle.table.specs.Table.{entry, step}
use Rattle.table.specs.Accepted.{PointsWithin}
use Rattle.position.specs.Position.{Belongs, inside, at_last_knot}

-- what is at most the last knot is in the last piece
pub in_last_piece : {ks : List ℤ} {x : ℤ} {i : ℕ} → i + 2 ≡ length ks → entry ks i ≤ℤ x → x ≤ℤ entry ks (length ks - 1) → Belongs ks x i
in_last_piece {ks} {x} {i} e l h =
    ⊎_elim (λ g. at_last_knot e (≤ℤ_antisym (last h) g)) (λ g. inside (omega (arith, e)) l g) (≤ℤ_or-<ℤ (entry ks (i + 1)) x)
  where
    last : x ≤ℤ entry ks (length ks - 1) → x ≤ℤ entry ks (i + 1)
    last = subst (λ (j : ℕ). x ≤ℤ entry ks j) (omega (arith, e))

pub within_list : {ks : List ℤ} {x : ℤ} {i : ℕ} → Belongs ks x i → i + 1 < length ks
within_list (inside l a b) = l
within_list (at_last_knot e f) = omega (arith, e)

pub ends : {ks : List ℤ} {x : ℤ} {i : ℕ} → Belongs ks x i → x ≤ℤ entry ks (i + 1)
ends (inside l a b) = <ℤ→≤ℤ b
ends {x = x} (at_last_knot e f) = subst (λ (v : ℤ). x ≤ℤ v) f (≤ℤ_refl x)

module _ {ks vs : List ℤ} (p : PointsWithin ks vs) where
  -- the knots are in order
  next : (i : ℕ) → i + 1 < length ks → entry ks i <ℤ entry ks (i + 1)
  next i l = above (entry ks i) (entry ks (i + 1)) (p.widths i l).low
    where
      above : (x y : ℤ) → pos 1 ≤ℤ (y -ℤ x) → x <ℤ y
      above x y = lin (x ∷ y ∷ []) (search says depth 30 fits 9000) (omega arith)

  steps : (i c : ℕ) → i + c < length ks → entry ks i ≤ℤ entry ks (i + c)
  steps i zero l = subst (λ (j : ℕ). entry ks i ≤ℤ entry ks j) {x = i} (omega arith) (≤ℤ_refl (entry ks i))
  steps i (suc c) l =
      ≤ℤ_trans (steps i c (omega arith)) (subst (λ (j : ℕ). entry ks (i + c) ≤ℤ entry ks j) {x = i + c + 1} (omega arith) (<ℤ→≤ℤ (next (i + c) (omega arith))))

  pub knots_in_order : (i j : ℕ) → i ≤ j → j < length ks → entry ks i ≤ℤ entry ks j
  knots_in_order i j h l = subst (λ (k : ℕ). entry ks i ≤ℤ entry ks k) {x = i + (j - i)} (omega arith) (steps i (j - i) (omega arith))

  -- where a position lies in its piece
  pub starts : {x : ℤ} {i : ℕ} → Belongs ks x i → entry ks i ≤ℤ x
  starts (inside l a b) = a
  starts {i = i} (at_last_knot e f) = subst (λ (v : ℤ). entry ks i ≤ℤ v) (sym f) (<ℤ→≤ℤ (next i (omega (arith, e))))

  -- and how far in, counted from its left knot
  pub inside_piece : {x : ℤ} {i : ℕ} → Belongs ks x i → Between (pos 0) (x -ℤ entry ks i) (step ks i)
  inside_piece {x} {i} b = record { low = 0≤_gap (starts b); high = to_right (entry ks i) (entry ks (i + 1)) x (ends b) }
    where
      to_right : (l r x : ℤ) → x ≤ℤ r → (x -ℤ l) ≤ℤ (r -ℤ l)
      to_right l r x = lin (l ∷ r ∷ x ∷ []) (search says depth 30 fits 9000) (omega arith)

  -- a position at a piece's left knot or beyond it belongs to that piece or a later one
  from_left_knot : {x : ℤ} {i j : ℕ} → Belongs ks x i → j + 1 < length ks → entry ks j ≤ℤ x → j ≤ i
  from_left_knot {x} {i} {j} b k s = ⊎_elim (λ h. absurd (behind h b)) (λ h. h) (<_or-≤ i j)
    where
      behind : i < j → Belongs ks x i → ⊥
      behind h (inside l a b) = clash_ℤ b (≤ℤ_trans (knots_in_order (i + 1) j (omega arith) (omega arith)) s)
      behind h (at_last_knot e f) = absurd (omega (arith, e))

  -- the pieces of two positions in order are in order
  pub pieces_in_order : {x y : ℤ} {i j : ℕ} → x ≤ℤ y → Belongs ks x i → Belongs ks y j → i ≤ j
  pieces_in_order h b c = from_left_knot c (within_list b) (≤ℤ_trans (starts b) h)

  -- no position belongs to two pieces
  not_before : {x : ℤ} {i j : ℕ} → Belongs ks x i → Belongs ks x j → i < j → ⊥
  not_before {i = i} {j = j} b c h = behind b (starts c) (within_list c)
    where
      behind : {x : ℤ} → Belongs ks x i → entry ks j ≤ℤ x → j + 1 < length ks → ⊥
      behind (inside l a b) s k = clash_ℤ b (≤ℤ_trans (knots_in_order (i + 1) j (omega arith) (omega arith)) s)
      behind (at_last_knot e f) s k = absurd (omega (arith, e))

  pub one_piece : {x : ℤ} {i j : ℕ} → Belongs ks x i → Belongs ks x j → i ≡ j
  one_piece b c = neither_less (not_before b c) (not_before c b)

  -- "A position at an inner knot belongs to the piece that starts there", and so does one at the first
  pub knot_starts_its_piece : (k : ℕ) → k + 1 < length ks → Belongs ks (entry ks k) k
  knot_starts_its_piece k l = inside l (≤ℤ_refl (entry ks k)) (next k l)
