-- Laws of decimal text: its recursion by tenths, and that the text of a number, read, is the number.
use Rattle.std.specs.Prelude.{ℕ, zero, suc, ◌+◌, ◌-◌, ◌*◌, ◌/◌, ◌%◌, ◌≤◌, ◌<◌, ◌≡◌, refl, Bool, true, false, cond, List, [], ◌∷◌, ◌++◌, ltb, length, ℤ, pos, negsuc, neg_ℤ, nat_abs}
use Rattle.std.proofs.Common.{ap, ◌∙◌, arith, lt-ltb, le-ltb, ltb-true, ltb-false, ne_eqb, le-leb, length-append}
use Rattle.std.proofs.Math.Option.{some, none}
use Rattle.std.specs.Int.Signed.{lt_z}
use Rattle.decimals.specs.Decimal.{is_digit, are_digits, natural, digits_of, signed, value_of}
use Rattle.decimals.specs.Digits.{first_digit}
use Rattle.words.specs.Runs.{by_test}
use Rattle.decimals.specs.Text.{spelled, decimal_of, text_of}

-- ---- the recursion

-- more divisions than it takes change nothing
enough : (f g n : ℕ) → n ≤ f → n ≤ g → spelled f n ≡ spelled g n
unfolding spelled
enough zero zero n p q = refl
enough zero (suc g) n p q = rw (lt-ltb n 10 (omega arith))
enough (suc f) zero n p q = rw (lt-ltb n 10 (omega arith))
enough (suc f) (suc g) n p q =
    by_test (ltb n 10)
    (λ (t : ltb n 10 ≡ true). rw t)
    (λ (t : ltb n 10 ≡ false).
    let large = ltb-false n 10 t in
    rw t (ap (λ (l : List ℕ). l ++ ((48 + n % 10) ∷ [])) (enough f g (n / 10) (omega arith) (omega arith))))

-- a number below ten is one digit
pub one_digit : (n : ℕ) → n < 10 → (48 + n) ∷ [] ≡ decimal_of n
unfolding spelled
one_digit zero h = refl
one_digit (suc n) h = rw (lt-ltb (suc n) 10 h)

-- any other is the digits of its tenth, and the last digit
pub by_tenths : (n : ℕ) → 10 ≤ n → decimal_of (n / 10) ++ ((48 + n % 10) ∷ []) ≡ decimal_of n
unfolding spelled
by_tenths zero h = absurd (omega arith)
by_tenths (suc n) h =
    rw (le-ltb (suc n) 10 h) (ap (λ (l : List ℕ). l ++ ((48 + suc n % 10) ∷ [])) (enough (suc n / 10) n (suc n / 10) (omega arith) (omega arith)))

-- ---- the sign

pub negative_text : (z : ℤ) → lt_z z (pos 0) ≡ true → 45 ∷ decimal_of (nat_abs z) ≡ text_of z
negative_text (pos n) e = absurd (omega (arith, ltb-true n 0 e))
negative_text (negsuc n) e = refl

pub positive_text : (z : ℤ) → lt_z z (pos 0) ≡ false → decimal_of (nat_abs z) ≡ text_of z
positive_text (pos n) e = refl
positive_text (negsuc n) e = let z : ◌≡◌ {A = ℕ} 0 1 = cc in absurd (omega arith)

-- ---- the way back

-- one more digit
one_more : (before : ℕ) (xs : List ℕ) (d : ℕ) → natural before (xs ++ (d ∷ [])) ≡ natural before xs * 10 + (d - 48)
unfolding natural
one_more before [] d = refl
one_more before (x ∷ xs) d = one_more (before * 10 + (x - 48)) xs d

all_digits : (xs : List ℕ) (d : ℕ) → are_digits xs ≡ true → is_digit d ≡ true → are_digits (xs ++ (d ∷ [])) ≡ true
unfolding are_digits
all_digits [] d p q = rw q
all_digits (x ∷ xs) d p q =
    by_test (is_digit x)
    (λ (t : is_digit x ≡ true). rw t (all_digits xs d (rw t at p) q))
    (λ (t : is_digit x ≡ false). let z : ◌≡◌ {A = ℕ} 0 1 = cc (rw t at p) in absurd (omega arith))

glyph : (d : ℕ) → d < 10 → is_digit (48 + d) ≡ true
glyph d h = rw (le-ltb (48 + d) 48 (omega arith)) (le-leb (48 + d) 57 (omega arith))

-- digits, and their value
read_back : (f n : ℕ) → n ≤ f → (are_digits (spelled f n) ≡ true) × (natural 0 (spelled f n) ≡ n)
unfolding spelled natural are_digits
read_back zero n h = (rw (glyph n (omega arith)), omega arith)
read_back (suc f) n h =
    by_test (ltb n 10)
    (λ (t : ltb n 10 ≡ true). rw t (rw (glyph n (ltb-true n 10 t)), omega arith))
    (λ (t : ltb n 10 ≡ false).
    let ih = read_back f (n / 10) (omega (arith, ltb-false n 10 t)) in
    let tenths : natural 0 (spelled f (n / 10)) * 10 + (48 + n % 10 - 48) ≡ n = omega (arith, ih.1) in
    rw t (all_digits (spelled f (n / 10)) (48 + n % 10) ih.0 (glyph (n % 10) (omega arith)), one_more 0 (spelled f (n / 10)) (48 + n % 10) ∙ tenths))

not_empty : (f n : ℕ) → 0 < length (spelled f n)
unfolding spelled
not_empty zero n = omega arith
not_empty (suc f) n =
    by_test (ltb n 10)
    (λ (t : ltb n 10 ≡ true). rw t (omega arith))
    (λ (t : ltb n 10 ≡ false). rw t (omega (arith, length-append (spelled f (n / 10)) ((48 + n % 10) ∷ []))))

some_digits : (xs : List ℕ) → 0 < length xs → are_digits xs ≡ true → digits_of xs ≡ some (natural 0 xs)
some_digits [] h e = absurd (omega arith)
some_digits (b ∷ bs) h e = ap (λ (t : Bool). cond t (some (natural 0 (b ∷ bs))) none) e

digits_back : (n : ℕ) → digits_of (decimal_of n) ≡ some n
digits_back n = let back = read_back n n (omega arith) in some_digits (decimal_of n) (not_empty n n) back.0 ∙ ap some back.1

-- digits have no sign in front
no_sign : (xs : List ℕ) (n : ℕ) → are_digits xs ≡ true → digits_of xs ≡ some n → value_of xs ≡ some (pos n)
no_sign [] n d e = let z : ◌≡◌ {A = ℕ} 0 1 = cc in absurd (omega arith)
no_sign (b ∷ bs) n d e =
    let digit = first_digit b bs d in
    let plain = ne_eqb b 45 (λ (q : b ≡ 45). omega (arith, digit.0)) in
    ap (λ (t : Bool). cond t (signed (λ (k : ℕ). neg_ℤ (pos k)) (digits_of bs)) (signed pos (digits_of (b ∷ bs)))) plain ∙ ap (signed pos) e

-- the text of a number, read, is the number
pub reads_as_written : (z : ℤ) → value_of (text_of z) ≡ some z
reads_as_written (pos n) = no_sign (decimal_of n) n (read_back n n (omega arith)).0 (digits_back n)
reads_as_written (negsuc n) = ap (signed (λ (k : ℕ). neg_ℤ (pos k))) (digits_back (suc n))
