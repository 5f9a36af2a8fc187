-- The slopes that a change renews: that the test of the definition tells them, and that they are one range of the list.
use Rattle.std.specs.Prelude.{◌≡◌, refl, Bool, cond, ◌⊎◌, List, ℕ, zero, suc, ◌+◌, ◌-◌, ◌≤◌, ◌<◌, eqb, ℤ, pos, length}
use Rattle.std.proofs.Common.{sym, ◌∙◌, inl, inr, arith, ext_get_or, eqb-true}
use Rattle.std.proofs.lemmas.Bool.{eqb-false}
use Rattle.integers.specs.Promise.{Decided, holds, fails}
use Rattle.integers.specs.Decided.{decided_by, decided_both, decided_either, decided_alike}
use Rattle.table.specs.Table.{entry}
use Rattle.table.specs.Accepted.{at_most}
use Rattle.slopes.specs.Put.{put, length_put, put_inside, put_outside, tab_length, tab_entry}
use Rattle.change.specs.Change.{Renews, before_it, at_it, behind_it, slope_0, the_last, is_renewed, renewed}

-- of three points every change renews all slopes
pub of_three_points_all : (k i : ℕ) → k < 3 → i < 3 → Renews 3 k i
of_three_points_all zero zero l m = at_it refl
of_three_points_all zero (suc zero) l m = behind_it refl
of_three_points_all zero (suc (suc zero)) l m = the_last refl refl
of_three_points_all (suc zero) zero l m = before_it refl
of_three_points_all (suc zero) (suc zero) l m = at_it refl
of_three_points_all (suc zero) (suc (suc zero)) l m = behind_it refl
of_three_points_all (suc (suc zero)) zero l m = slope_0 refl refl
of_three_points_all (suc (suc zero)) (suc zero) l m = before_it refl
of_three_points_all (suc (suc zero)) (suc (suc zero)) l m = at_it refl
of_three_points_all zero (suc (suc (suc i))) l m = absurd (omega arith)
of_three_points_all (suc zero) (suc (suc (suc i))) l m = absurd (omega arith)
of_three_points_all (suc (suc zero)) (suc (suc (suc i))) l m = absurd (omega arith)
of_three_points_all (suc (suc (suc k))) i l m = absurd (omega arith)

-- ---- the test of the definition says so

same : (m n : ℕ) → Decided (m ≡ n) (eqb m n)
same m n = decided_by (eqb m n) (eqb-true m n) (eqb-false m n)

module _ (n k i : ℕ) where
  pub is_renewed_lem : Decided (Renews n k i) (is_renewed n k i)
  is_renewed_lem =
      decided_alike to from
      (decided_either (same (i + 1) k) (decided_either (same i k) (decided_either (same i (k + 1)) (decided_either (decided_both (same k 2) (same i 0)) (decided_both (same (k + 3) n) (same (i + 1) n))))))
    where
      to : (i + 1 ≡ k) ⊎ ((i ≡ k) ⊎ ((i ≡ k + 1) ⊎ (((k ≡ 2) × (i ≡ 0)) ⊎ ((k + 3 ≡ n) × (i + 1 ≡ n))))) → Renews n k i
      to (inl e) = before_it e
      to (inr (inl e)) = at_it e
      to (inr (inr (inl e))) = behind_it e
      to (inr (inr (inr (inl w)))) = slope_0 w.0 w.1
      to (inr (inr (inr (inr w)))) = the_last w.0 w.1

      from : Renews n k i → (i + 1 ≡ k) ⊎ ((i ≡ k) ⊎ ((i ≡ k + 1) ⊎ (((k ≡ 2) × (i ≡ 0)) ⊎ ((k + 3 ≡ n) × (i + 1 ≡ n)))))
      from (before_it e) = inl e
      from (at_it e) = inr (inl e)
      from (behind_it e) = inr (inr (inl e))
      from (slope_0 e f) = inr (inr (inr (inl (e, f))))
      from (the_last e f) = inr (inr (inr (inr (e, f))))

-- ---- one range: the first slope that is renewed, and the one behind the last

pub data From (k : ℕ) : ℕ → Type 0 where
  the_start : k < 3 → From k 0
  one_before : 3 ≤ k → From k (k - 1)

pub data UpTo (n k : ℕ) : ℕ → Type 0 where
  the_end : n ≤ k + 3 → UpTo n k n
  two_behind : k + 3 < n → UpTo n k (k + 2)

pub in_order : {n k lo hi : ℕ} → k < n → From k lo → UpTo n k hi → (lo ≤ hi) × (hi ≤ n)
in_order l (the_start s) (the_end t) = (omega arith, omega arith)
in_order l (the_start s) (two_behind t) = (omega arith, omega arith)
in_order l (one_before s) (the_end t) = (omega arith, omega arith)
in_order l (one_before s) (two_behind t) = (omega arith, omega arith)

module _ {n k i lo hi : ℕ} (in_list : i < n) (from : From k lo) (up_to_lem : UpTo n k hi) where
  pub renewed_inside : k < n → Renews n k i → (lo ≤ i) × (i < hi)
  renewed_inside l r = (low from r, high up_to_lem r)
    where
      low : {lo : ℕ} → From k lo → Renews n k i → lo ≤ i
      low (the_start s) r = omega arith
      low (one_before s) (before_it e) = omega arith
      low (one_before s) (at_it e) = omega arith
      low (one_before s) (behind_it e) = omega arith
      low (one_before s) (slope_0 e f) = absurd (omega arith)
      low (one_before s) (the_last e f) = omega arith

      high : {hi : ℕ} → UpTo n k hi → Renews n k i → i < hi
      high (the_end s) r = in_list
      high (two_behind s) (before_it e) = omega arith
      high (two_behind s) (at_it e) = omega arith
      high (two_behind s) (behind_it e) = omega arith
      high (two_behind s) (slope_0 e f) = omega arith
      high (two_behind s) (the_last e f) = absurd (omega arith)

  pub inside_renewed : (Renews n k i → ⊥) → lo ≤ i → i < hi → ⊥
  inside_renewed far l h =
      let b = low from l in
      let c = high up_to_lem h in
      let e : (i + 1 ≡ k → ⊥) = λ e. far (before_it e) in
      let f : (i ≡ k → ⊥) = λ e. far (at_it e) in
      let g : (i ≡ k + 1 → ⊥) = λ e. far (behind_it e) in omega arith
    where
      low : {lo : ℕ} → From k lo → lo ≤ i → k ≤ i + 1
      low (the_start s) l = at_most (λ (b : i + 1 < k). far (slope_0 (omega arith) (omega arith)))
      low (one_before s) l = omega arith

      high : {hi : ℕ} → UpTo n k hi → i < hi → i ≤ k + 1
      high (the_end s) h = at_most (λ (b : k + 1 < i). far (the_last (omega arith) (omega arith)))
      high (two_behind s) h = omega arith

pub put_renewed : (f : ℕ → ℤ) {k lo hi : ℕ} (list : List ℤ) → k < length list → From k lo → UpTo (length list) k hi → put f lo (hi - lo) list ≡ renewed k f list
put_renewed f {k} {lo} {hi} list l from up_to_lem =
    ext_get_or (pos 0) (put f lo (hi - lo) list) (renewed k f list) (length_put f lo list (hi - lo) ∙ sym (tab_length (length list) g))
    (λ i h. at i (in_list i h) ∙ sym (tab_entry (length list) g i (in_list i h)))
  where
    g : ℕ → ℤ
    g i = cond (is_renewed (length list) k i) (f i) (entry list i)

    in_list : (i : ℕ) → i < length (put f lo (hi - lo) list) → i < length list
    in_list i h = omega (arith, h, length_put f lo list (hi - lo))

    at : (i : ℕ) → i < length list → entry (put f lo (hi - lo) list) i ≡ g i
    at i h = told (is_renewed_lem (length list) k i)
      where
        told : {b : Bool} → Decided (Renews (length list) k i) b → entry (put f lo (hi - lo) list) i ≡ cond b (f i) (entry list i)
        told (holds r) = let w = renewed_inside h from up_to_lem l r in put_inside f lo list (hi - lo) i w.0 (omega (arith, w.0, w.1)) h
        told (fails far) = put_outside f lo list (hi - lo) i (λ w. inside_renewed h from up_to_lem far w.0 (omega (arith, w.0, w.1)))
