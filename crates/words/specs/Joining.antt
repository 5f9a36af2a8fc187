-- Laws of `Appended`: of a buffer that was full, of one into which was copied what there was or had room, and of two pieces.
use Rattle.std.specs.Prelude.{ℕ, zero, suc, ◌+◌, ◌-◌, ◌≤◌, ◌≡◌, refl, List, [], ◌∷◌, ◌++◌, length, take, drop}
use Rattle.std.proofs.Common.{sym, ap, ap₂, ◌∙◌, append_assoc, arith, length-take, length-append, take-append-drop, drop-drop, take_at, drop_at, take_all, length-take-le}
use Rattle.std.proofs.Math.Path.{subst⁻¹}
use Rattle.std.proofs.Math.Seq.{length_front, paste, take-length, take-append_seam, take-append-add}
use Rattle.std.proofs.lemmas.List.Edits.{take-paste, drop-paste, length-paste}
use Rattle.words.specs.Lines.{joined, Appended}

-- its two parts, at the answer, and its length
module _ {before more after : List ℕ} {held r : ℕ} where
  pub parts : r ≤ length after → take r after ≡ joined before held more → drop r after ≡ drop r before → Appended before held more after r
  parts l front behind =
      record { counted = sym (length-take-le r after l) ∙ ap length front; buffer = sym (take-append-drop r after) ∙ ap₂ ◌++◌ front behind }

  module _ (p : Appended before held more after r) where
    front : take r after ≡ joined before held more
    front = ap (take r) p.buffer ∙ take_at (joined before held more) (drop r before) r (sym p.counted)

    behind : drop r after ≡ drop r before
    behind = ap (drop r) p.buffer ∙ drop_at (joined before held more) (drop r before) r (sym p.counted)

    cut : r ≤ length before
    cut = omega (arith, p.counted, length-take (length before) (take held before ++ more))

    as_long : length after ≡ length before
    as_long = ap length p.buffer ∙ length_front before (joined before held more) r (sym p.counted ∙ sym (length-take-le r before cut))

module _ (buffer : List ℕ) (held : ℕ) (more : List ℕ) where
  -- nothing has room behind a full buffer
  pub full : length buffer ≤ held → Appended buffer held more buffer (length buffer)
  full h =
      parts (omega arith)
      (take-length buffer ∙ sym (take-append_seam buffer more) ∙ ap (λ (front : List ℕ). take (length buffer) (front ++ more)) (sym (take_all held buffer h))) refl

  -- n bytes were copied, and no byte that had room was left out
  pub copied : (n : ℕ) → held + n ≤ length buffer → n ≤ length more → take n more ≡ take (length buffer - held) more
      → (after : List ℕ) → after ≡ paste buffer held more n → Appended buffer held more after (held + n)
  copied n room some same after e =
      let front = take held buffer in
      let size : length front + (length buffer - held) ≡ length buffer = omega (arith, length-take-le held buffer (omega arith)) in
      let long = length-paste buffer held more n room some in
      subst⁻¹ (λ (l : List ℕ). Appended buffer held more l (held + n)) e
      (parts (omega arith)
      (take-paste buffer held more n (omega arith) some ∙ ap (λ (rest : List ℕ). front ++ rest) same ∙ sym (take-append-add front more (length buffer - held)) ∙ ap (λ (k : ℕ). take k (front ++ more)) size)
      (drop-paste buffer held more n (omega arith) some))

-- bytes behind a cut list, cut again, are bytes behind the whole list, cut
cut_twice : (k : ℕ) (xs ys : List ℕ) → take k (take k xs ++ ys) ≡ take k (xs ++ ys)
cut_twice zero xs ys = refl
cut_twice (suc k) [] ys = refl
cut_twice (suc k) (x ∷ xs) ys = ap (λ (l : List ℕ). x ∷ l) (cut_twice k xs ys)

-- what is appended in two pieces is appended whole
pub both : {a b c : List ℕ} {h r s : ℕ} {m n : List ℕ} → Appended a h m b r → Appended b r n c s → Appended a h (m ++ n) c s
both {a} {b} {c} {h} {r} {s} {m} {n} p q =
    let long = as_long p in
    let whole : s ≡ r + (s - r) = omega (arith, q.counted, cut p, long, length-take-le r b (omega (arith, cut p, long)), length-take (length b) (take r b ++ n), length-append (take r b) n) in
    parts (omega (arith, cut q, as_long q))
    (front q ∙ ap (λ (l : List ℕ). take (length b) (l ++ n)) (front p) ∙ ap (λ (k : ℕ). take k (joined a h m ++ n)) long
    ∙ cut_twice (length a) (take h a ++ m) n ∙ ap (take (length a)) (append_assoc (take h a) m n))
    (behind q ∙ ap (λ (k : ℕ). drop k b) whole ∙ sym (drop-drop (s - r) r b) ∙ ap (drop (s - r)) (behind p) ∙ drop-drop (s - r) r a ∙ ap (λ (k : ℕ). drop k a) (sym whole))
