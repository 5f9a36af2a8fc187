-- Laws that carry a magnitude of digits to the number that text says, once for both signs, and that number to 32 bits.
use Rattle.std.specs.Prelude.{ℕ, zero, suc, ◌≤◌, ◌<◌, ◌≡◌, refl, Bool, true, false, cond, ◌&&◌, List, [], ◌∷◌, leb, length, drop, get_or, ℤ, pos, negsuc, neg_ℤ, Result, Ok, Err}
use Rattle.std.proofs.Common.{sym, ap, ◌∙◌, arith, le-leb, ltb-true, ltb-false, leb-true, leb-false, eq-eqb, ne_eqb}
use Rattle.std.proofs.Math.Option.{Option, some, none}
use Rattle.std.proofs.lemmas.Bool.{lt-leb}
use Rattle.std.proofs.Math.Dec.{leb-suc-suc}
use Rattle.std.specs.Int.Signed.{lt_z, le_z, mag}
use Rattle.decimals.specs.declared.reading.NotNumber.{NotNumber}
use Rattle.decimals.specs.declared.reading.NotNumber.TheVariants.{NotDecimal, TooLarge}
use Rattle.decimals.specs.Decimal.{digits_of, signed, value_of, fits64, fits32, fit32, number, number32, number_of, number32_of, magnitude_of}

-- ---- a magnitude and a sign

-- the number that a magnitude makes under a sign
abbrev pub spoken : (ℕ → ℤ) → Result ℕ NotNumber → Result ℤ NotNumber
spoken sign (Ok n) = Ok (sign n)
spoken sign (Err why) = Err why

-- a magnitude was held against the limit that is right for its sign
module _ (sign : ℕ → ℤ) (most : ℕ) (right : (n : ℕ) → leb n most ≡ fits64 (sign n)) where
  carried : (o : Option ℕ) → spoken sign (magnitude_of most o) ≡ number (signed sign o)
  carried none = refl
  carried (some n) = by_size (leb n most) ∙ ap (λ (t : Bool). cond t (Ok (sign n)) (Err TooLarge)) (right n)
    where
      by_size : (t : Bool) → spoken sign (cond t (Ok n) (Err TooLarge)) ≡ cond t (Ok (sign n)) (Err TooLarge)
      by_size true = refl
      by_size false = refl

abbrev pub minus : ℕ → ℤ
minus n = neg_ℤ (pos n)

and_true : (t : Bool) → t ≡ t && true
and_true true = refl
and_true false = refl

minus_right : (n : ℕ) → leb n 9223372036854775808 ≡ fits64 (minus n)
minus_right zero = refl
minus_right (suc n) = leb-suc-suc n 9223372036854775807 ∙ and_true (leb n 9223372036854775807)

-- ---- the text

-- the value of text whose first byte is a `-` or not
abbrev by_sign : Bool → ℕ → List ℕ → Option ℤ
by_sign t b bs = cond t (signed minus (digits_of bs)) (signed pos (digits_of (b ∷ bs)))

pub empty_text : (text : List ℕ) → length text ≡ 0 → Err NotDecimal ≡ number_of text
empty_text [] e = refl
empty_text (b ∷ bs) e = absurd (omega arith)

pub minus_text : (text : List ℕ) (m : Result ℕ NotNumber) → 0 < length text → get_or text 0 0 ≡ 45
    → m ≡ magnitude_of 9223372036854775808 (digits_of (drop 1 text)) → spoken minus m ≡ number_of text
minus_text [] m h e d = absurd (omega arith)
minus_text (b ∷ bs) m h e d =
    ap (spoken minus) d ∙ carried minus 9223372036854775808 minus_right (digits_of bs) ∙ ap (λ (t : Bool). number (by_sign t b bs)) (sym (eq-eqb b 45 e))

pub plain_text : (text : List ℕ) (m : Result ℕ NotNumber) → 0 < length text → (get_or text 0 0 ≡ 45 → ⊥)
    → m ≡ magnitude_of 9223372036854775807 (digits_of (drop 0 text)) → spoken pos m ≡ number_of text
plain_text [] m h e d = absurd (omega arith)
plain_text (b ∷ bs) m h e d =
    ap (spoken pos) d ∙ carried pos 9223372036854775807 (λ n. refl) (digits_of (b ∷ bs)) ∙ ap (λ (t : Bool). number (by_sign t b bs)) (sym (ne_eqb b 45 e))

-- a magnitude that was not too large
pub held : (most : ℕ) (o : Option ℕ) (n : ℕ) → Ok n ≡ magnitude_of most o → n ≤ most
held most none n e = let z : ◌≡◌ {A = ℕ} 0 1 = cc in absurd (omega arith)
held most (some k) n e = by_size (leb k most) refl e
  where
    by_size : (t : Bool) → leb k most ≡ t → Ok n ≡ cond t (Ok k) (Err TooLarge) → n ≤ most
    by_size true p q = let same : n ≡ k = cc in omega (arith, leb-true k most p)
    by_size false p q = let z : ◌≡◌ {A = ℕ} 0 1 = cc in absurd (omega arith)

-- ---- the tests of a signed number

pub below : (a b : ℤ) → lt_z a b ≡ true → le_z b a ≡ false
below (pos a) (pos b) e = lt-leb b a (ltb-true a b e)
below (pos a) (negsuc b) e = let z : ◌≡◌ {A = ℕ} 0 1 = cc in absurd (omega arith)
below (negsuc a) (pos b) e = refl
below (negsuc a) (negsuc b) e = lt-leb a b (ltb-true b a e)

pub not_below : (a b : ℤ) → lt_z a b ≡ false → le_z b a ≡ true
not_below (pos a) (pos b) e = le-leb b a (ltb-false a b e)
not_below (pos a) (negsuc b) e = refl
not_below (negsuc a) (pos b) e = let z : ◌≡◌ {A = ℕ} 0 1 = cc in absurd (omega arith)
not_below (negsuc a) (negsuc b) e = le-leb a b (ltb-false b a e)

pub small : (z : ℤ) → le_z (negsuc 2147483647) z ≡ true → le_z z (pos 2147483647) ≡ true → mag z < 2147483648
small (pos n) l h = omega (arith, leb-true n 2147483647 h)
small (negsuc n) l h = omega (arith, leb-true n 2147483647 l)

-- ---- 32 bits

-- what is too large for 64 bits is too large for 32
wider : (z : ℤ) → fits64 z ≡ false → fits32 z ≡ false
wider (pos n) e = lt-leb n 2147483647 (omega (arith, leb-false n 9223372036854775807 e))
wider (negsuc n) e =
    let large = leb-false n 9223372036854775807 (and_true (leb n 9223372036854775807) ∙ e) in
    sym (and_true (leb n 2147483647)) ∙ lt-leb n 2147483647 (omega arith)

-- a number of 64 bits as one of 32
abbrev pub narrowed : Result ℤ NotNumber → Result ℤ NotNumber
narrowed (Ok z) = fit32 z
narrowed (Err why) = Err why

pub narrow_text : (text : List ℕ) → narrowed (number_of text) ≡ number32_of text
narrow_text text = by_value (value_of text)
  where
    by_fit : (z : ℤ) (t : Bool) → fits64 z ≡ t → narrowed (cond t (Ok z) (Err TooLarge)) ≡ fit32 z
    by_fit z true p = refl
    by_fit z false p = ap (λ (t : Bool). cond t (Ok z) (Err TooLarge)) (sym (wider z p))

    by_value : (o : Option ℤ) → narrowed (number o) ≡ number32 o
    by_value none = refl
    by_value (some z) = by_fit z (fits64 z) refl
