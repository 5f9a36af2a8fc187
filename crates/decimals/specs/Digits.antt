-- Laws of digits: what the next byte, or the end of the text, says of `are_digits` and `natural`.
use Rattle.std.specs.Prelude.{ℕ, suc, ◌+◌, ◌-◌, ◌*◌, ◌≤◌, ◌<◌, ◌≡◌, refl, Bool, true, false, cond, List, [], ◌∷◌, ltb, length, drop, get_or}
use Rattle.std.proofs.Common.{sym, ap, ◌∙◌, arith, add-one, ltb-false, leb-true, drop_of_length-le, drop-cons}
use Rattle.std.proofs.Math.Option.{some, none}
use Rattle.decimals.specs.Decimal.{is_digit, are_digits, natural, digits_of, magnitude_of}

-- past the end every byte is a digit, and the value stands
pub digits_out : (text : List ℕ) (i : ℕ) → length text ≤ i → are_digits (drop i text) ≡ true
unfolding are_digits
digits_out text i h = rw (drop_of_length-le text h)

pub natural_out : (text : List ℕ) (i before : ℕ) → length text ≤ i → natural before (drop i text) ≡ before
unfolding natural
natural_out text i before h = rw (drop_of_length-le text h)

-- what byte i says of the bytes from it on, whatever follows it
module _ (text : List ℕ) (i : ℕ) (h : i < length text) where
  pub digits_stop : is_digit (get_or text i 0) ≡ false → are_digits (drop i text) ≡ false
  unfolding are_digits
  digits_stop e = rw (drop-cons text i 0 h, e)

  pub digits_on : is_digit (get_or text i 0) ≡ true → are_digits (drop i text) ≡ are_digits (drop (i + 1) text)
  unfolding are_digits
  digits_on e = rw (add-one, drop-cons text i 0 h, e)

  pub natural_on : (before : ℕ) → natural before (drop i text) ≡ natural (before * 10 + (get_or text i 0 - 48)) (drop (i + 1) text)
  unfolding natural
  natural_on before = rw (add-one, drop-cons text i 0 h)

  -- where digits alone stand, the first of them is one
  pub digit_there : are_digits (drop i text) ≡ true → is_digit (get_or text i 0) ≡ true
  digit_there e = by_digit (is_digit (get_or text i 0)) refl
    where
      by_digit : (t : Bool) → is_digit (get_or text i 0) ≡ t → t ≡ true
      by_digit true p = refl
      by_digit false p = sym (digits_stop p) ∙ e

-- one or more bytes, of which `t` says whether they are digits
pub read_digits : (most : ℕ) (xs : List ℕ) (t : Bool) → 0 < length xs → are_digits xs ≡ t
    → magnitude_of most (cond t (some (natural 0 xs)) none) ≡ magnitude_of most (digits_of xs)
read_digits most [] t h e = absurd (omega arith)
read_digits most (b ∷ bs) t h e = ap (λ (s : Bool). magnitude_of most (cond s (some (natural 0 (b ∷ bs))) none)) (sym e)

-- a digit lies between `0` and `9`
pub digit_bounds : (b : ℕ) → is_digit b ≡ true → (48 ≤ b) × (b ≤ 57)
digit_bounds b e = by_low (ltb b 48) refl e
  where
    by_low : (t : Bool) → ltb b 48 ≡ t → is_digit b ≡ true → (48 ≤ b) × (b ≤ 57)
    by_low true p q = let z : ◌≡◌ {A = ℕ} 0 1 = cc (rw p at q) in absurd (omega arith)
    by_low false p q = (ltb-false b 48 p, leb-true b 57 (rw p at q))

-- where a list is of digits alone, its first byte is one, the rest are digits, and it counts once and what stands before it ten times
pub first_digit : (b : ℕ) (bs : List ℕ) → are_digits (b ∷ bs) ≡ true
    → (48 ≤ b) × (b ≤ 57) × (are_digits bs ≡ true) × ((before : ℕ) → natural before (b ∷ bs) ≡ natural (before * 10 + (b - 48)) bs)
unfolding are_digits natural
first_digit b bs e = by_digit (is_digit b) refl e
  where
    by_digit : (t : Bool) → is_digit b ≡ t → cond t (are_digits bs) false ≡ true
        → (48 ≤ b) × (b ≤ 57) × (are_digits bs ≡ true) × ((before : ℕ) → natural (before * 10 + (b - 48)) bs ≡ natural (before * 10 + (b - 48)) bs)
    by_digit true p q = ((digit_bounds b p).0, (digit_bounds b p).1, q, λ before. refl)
    by_digit false p q = let z : ◌≡◌ {A = ℕ} 0 1 = cc in absurd (omega arith)

pub next_digit : (text : List ℕ) (i : ℕ) → i < length text → are_digits (drop i text) ≡ true
    → (48 ≤ get_or text i 0) × (get_or text i 0 ≤ 57) × (are_digits (drop (i + 1) text) ≡ true)
    × ((before : ℕ) → natural before (drop i text) ≡ natural (before * 10 + (get_or text i 0 - 48)) (drop (i + 1) text))
next_digit text i h = rw (add-one, drop-cons text i 0 h) (first_digit (get_or text i 0) (drop (suc i) text))

-- more digits make no value smaller
pub natural_least : (before : ℕ) (bs : List ℕ) → before ≤ natural before bs
unfolding natural
natural_least before [] = omega arith
natural_least before (b ∷ bs) = omega (arith, natural_least (before * 10 + (b - 48)) bs)

-- what a reading digit by digit asks
pub ruleset digit_laws = (next_digit, natural_out, natural_least)
