-- A row is put together number by number, behind what a buffer holds.
use Rattle.std.specs.Prelude.{ℕ, zero, suc, ◌+◌, ◌≤◌, min, ◌<◌, ◌≡◌, refl, List, [], ◌∷◌, ◌++◌, ℤ, pos, length, take, drop, get_or}
use Rattle.std.proofs.Common.{sym, ap, ◌∙◌, append_assoc, append-nil, arith, add-one, length-take, take-append-drop, take-suc, take_all}
use Rattle.std.proofs.Math.Seq.{take-append_seam}
use Rattle.words.specs.Lines.{Appended}
use Rattle.words.specs.Joining.{parts}
use Rattle.decimals.specs.Text.{text_of}
use Rattle.lists.specs.Lists.{spaced, row_of}

-- where a row begins: nothing is appended, and what has no room is not held
pub nothing_yet : (buffer : List ℕ) (held r : ℕ) → r ≡ min held (length buffer) → Appended buffer held [] buffer r
nothing_yet buffer held r e =
    let front = take held buffer in
    let size : r ≡ length front = e ∙ sym (length-take held buffer) in
    parts (omega arith)
    (ap (λ (n : ℕ). take n buffer) size ∙ ap (take (length front)) (sym (take-append-drop held buffer)) ∙ take-append_seam front (drop held buffer)
    ∙ sym (ap (take (length buffer)) (append-nil front) ∙ take_all (length buffer) front (omega arith)))
    refl

spaced_on : (xs : List ℤ) (n : ℤ) → spaced (xs ++ (n ∷ [])) ≡ spaced xs ++ (32 ∷ text_of n)
unfolding spaced
spaced_on [] n = ap (λ (l : List ℕ). 32 ∷ l) (append-nil (text_of n))
spaced_on (x ∷ xs) n =
    ap (λ (l : List ℕ). 32 ∷ (text_of x ++ l)) (spaced_on xs n) ∙ ap (λ (l : List ℕ). 32 ∷ l) (sym (append_assoc (text_of x) (spaced xs) (32 ∷ text_of n)))

-- the first number, and one more behind a space
pub row_first : (list : List ℤ) (i : ℕ) → i ≤ 0 → i < length list → row_of (take i list) ++ text_of (get_or list i (pos 0)) ≡ row_of (take (i + 1) list)
unfolding spaced
row_first [] i e h = absurd (omega arith)
row_first (x ∷ xs) zero e h = sym (append-nil (text_of x))
row_first (x ∷ xs) (suc i) e h = absurd (omega arith)

pub row_next : (list : List ℤ) (i : ℕ) → 0 < i → i < length list
    → (row_of (take i list) ++ (32 ∷ [])) ++ text_of (get_or list i (pos 0)) ≡ row_of (take (i + 1) list)
unfolding spaced
row_next [] i e h = absurd (omega arith)
row_next (x ∷ xs) zero e h = absurd (omega arith)
row_next (x ∷ xs) (suc i) e h =
    let n = get_or xs i (pos 0) in
    rw add-one
    (append_assoc (text_of x ++ spaced (take i xs)) (32 ∷ []) (text_of n) ∙ append_assoc (text_of x) (spaced (take i xs)) (32 ∷ text_of n)
    ∙ ap (λ (l : List ℕ). text_of x ++ l) (sym (spaced_on (take i xs) n) ∙ ap spaced (sym (take-suc xs i (pos 0) (omega arith)))))
