-- Two numbers in order along a rise: upwards where it rises, downwards where it falls, and the same where there is none.
use Rattle.std.specs.Prelude.{◌≡◌, [], ◌∷◌, ℕ, ℤ, pos, neg_ℤ, ◌+ℤ◌, ◌-ℤ◌, ◌≤ℤ◌, ◌<ℤ◌}
use Rattle.std.proofs.Common.{sym, ap, subst, arith}
use Rattle.std.specs.Int.Signed.{≤ℤ_refl, clash_ℤ}
use Rattle.integers.specs.Promise.{Between}
use Rattle.integers.specs.Linear.{lin, says}
use Rattle.integers.specs.Signs.{by_sign}
use Rattle.integers.specs.Within.{Within, within, within_low, within_high}

pub record Along (z x y : ℤ) : Type 0 where
  pub rising : pos 0 <ℤ z → x ≤ℤ y
  pub falling : z <ℤ pos 0 → y ≤ℤ x
  pub level : z ≡ pos 0 → x ≡ y

-- what keeps the order keeps this one
pub along_through : (f : ℤ → ℤ) → ((x y : ℤ) → x ≤ℤ y → f x ≤ℤ f y) → {z x y : ℤ} → Along z x y → Along z (f x) (f y)
along_through f mono a =
    record { rising = λ p. mono _ _ (a.rising p); falling = λ p. mono _ _ (a.falling p); level = λ e. ap f (a.level e) }

-- both put on the same number
pub along_moved : (l : ℤ) {z x y : ℤ} → Along z x y → Along z (l +ℤ x) (l +ℤ y)
along_moved l = along_through (λ (v : ℤ). l +ℤ v) (λ x y. lin (l ∷ x ∷ y ∷ []) (search says depth 30 fits 9000) (omega arith))

same-≤ : {x y : ℤ} → x ≡ y → x ≤ℤ y
same-≤ {x} e = subst (λ (v : ℤ). x ≤ℤ v) e (≤ℤ_refl x)

-- with a rise or none they are in order, and with a fall or none in reverse order
pub not_falling : {z x y : ℤ} → pos 0 ≤ℤ z → Along z x y → x ≤ℤ y
not_falling {z} h a = by_sign z a.rising (λ p. absurd (clash_ℤ p h)) (λ e. same-≤ (a.level e))

pub not_rising : {z x y : ℤ} → z ≤ℤ pos 0 → Along z x y → y ≤ℤ x
not_rising {z} h a = by_sign z (λ p. absurd (clash_ℤ p h)) a.falling (λ e. same-≤ (sym (a.level e)))

-- x lies between two numbers, whichever is the greater
pub data Amid (l x r : ℤ) : Type 0 where
  upwards : Between l x r → Amid l x r
  downwards : Between r x l → Amid l x r

-- what lies on the way from l to r lies between them
pub amid_on_the_way : {z l x r : ℤ} → Along z l x → Along z x r → Amid l x r
amid_on_the_way {z} a b =
    by_sign z (λ p. upwards (record { low = a.rising p; high = b.rising p })) (λ p. downwards (record { low = b.falling p; high = a.falling p }))
    (λ e. upwards (record { low = same-≤ (a.level e); high = same-≤ (b.level e) }))

-- a part of a rise from l to r, put on l
pub amid : {l r w : ℤ} → Along (r -ℤ l) (pos 0) w → Along (r -ℤ l) w (r -ℤ l) → Amid l (l +ℤ w) r
amid {l} {r} {w} a b =
    by_sign (r -ℤ l) (λ p. let s = up l r w (a.rising p) (b.rising p) in upwards (record { low = s.0; high = s.1 }))
    (λ p. let s = down l r w (a.falling p) (b.falling p) in downwards (record { low = s.0; high = s.1 }))
    (λ e. let s = level l r w e (a.level e) in upwards (record { low = s.0; high = s.1 }))
  where
    up : (l r w : ℤ) → pos 0 ≤ℤ w → w ≤ℤ (r -ℤ l) → (l ≤ℤ (l +ℤ w)) × ((l +ℤ w) ≤ℤ r)
    up l r w = lin (l ∷ r ∷ w ∷ []) (search says depth 30 fits 9000) (omega arith)

    down : (l r w : ℤ) → w ≤ℤ pos 0 → (r -ℤ l) ≤ℤ w → (r ≤ℤ (l +ℤ w)) × ((l +ℤ w) ≤ℤ l)
    down l r w = lin (l ∷ r ∷ w ∷ []) (search says depth 30 fits 9000) (omega arith)

    level : (l r w : ℤ) → r -ℤ l ≡ pos 0 → pos 0 ≡ w → (l ≤ℤ (l +ℤ w)) × ((l +ℤ w) ≤ℤ r)
    level l r w = lin (l ∷ r ∷ w ∷ []) (search says depth 30 fits 9000) (omega arith)

-- what lies on the way from 0 to y is not larger than y
pub part_within : {M : ℕ} {z w y : ℤ} → Within M y → Along z (pos 0) w → Along z w y → Within M w
part_within {M} {z} {w} {y} h a b =
    by_sign z (λ p. let s = up w y (a.rising p) (b.rising p) (within_high h) in within M w s.0 s.1)
    (λ p. let s = down w y (a.falling p) (b.falling p) (within_low h) in within M w s.0 s.1)
    (λ e. let s = level w (a.level e) in within M w s.0 s.1)
  where
    up : (w y : ℤ) → pos 0 ≤ℤ w → w ≤ℤ y → y ≤ℤ pos M → (neg_ℤ (pos M) ≤ℤ w) × (w ≤ℤ pos M)
    up w y = lin (w ∷ y ∷ []) (search says depth 30 fits 9000) (omega arith)

    down : (w y : ℤ) → w ≤ℤ pos 0 → y ≤ℤ w → neg_ℤ (pos M) ≤ℤ y → (neg_ℤ (pos M) ≤ℤ w) × (w ≤ℤ pos M)
    down w y = lin (w ∷ y ∷ []) (search says depth 30 fits 9000) (omega arith)

    level : (w : ℤ) → pos 0 ≡ w → (neg_ℤ (pos M) ≤ℤ w) × (w ≤ℤ pos M)
    level w = lin (w ∷ []) (search says depth 30 fits 9000) (omega arith)
