-- Sums and products of floats that are whole numbers are exact as long as they stay within 2^24 at 32 bits and 2^53 at 64. On the way a zero may have
-- either sign, as −3·0 is −0; adding +0 last makes it +0.
use Rattle.std.specs.Prelude.{◌≡◌, Bool, true, false, not, ◌&&◌, ℕ, ◌^◌, ◌≤◌, ℤ, pos, nat_abs, ◌+ℤ◌, ◌*ℤ◌, T, Float}
use Rattle.std.proofs.Common.{sym, ◌∙◌, ap, ap₂, subst, subst₂}
use Rattle.std.proofs.Math.IntN.{+ℤ_idr}
use Rattle.std.specs.Float.{Format}
use Rattle.std.specs.Float.Ieee.{prec, add, mul}
use Rattle.std.specs.Float.Ieee.Exact.{HasValue}
use Rattle.std.specs.Float.Ieee.Back.{round_whole}
use Rattle.std.specs.Float.Ieee.Fits.{add-fits}
use Rattle.integers.specs.Within.{Within}
use Rattle.floats.specs.Promise.{negative, Exactly}
use Rattle.floats.specs.Signed.{signed, size_of, own_sign, sign_of}
use Rattle.floats.specs.Rounded.{Rounded, product_rounded, sum_rounded}

-- x is the whole number n, a zero with either sign
pub record Whole (n : ℤ) (x : Float) : Type 0 where
  pub sign : Bool
  pub size : ℕ
  pub value : HasValue x sign size 1
  pub is : n ≡ signed sign size

pub exactly_whole : {f : Format} {n : ℤ} {x : Float} → Exactly f n x → Whole n x
exactly_whole {n = n} e = record { sign = negative n; size = nat_abs n; value = e.value; is = own_sign n }

-- what is rounded to a whole number that the format counts without a gap is that number
rounded_size : {f : Format} {n : ℤ} {x : Float} (r : Rounded f n x) → Within (2 ^ prec f) n → r.size ≤ 2 ^ prec f
rounded_size {f} r w = subst (λ (k : ℕ). k ≤ 2 ^ prec f) (ap nat_abs r.is ∙ size_of r.sign r.size) w.size

rounded_value : {f : Format} {n : ℤ} {x : Float} (r : Rounded f n x) → Within (2 ^ prec f) n → HasValue x r.sign r.size 1
rounded_value {f} r w = subst (λ (y : Float). HasValue y r.sign r.size 1) (sym r.once) (round_whole f r.sign r.size (rounded_size r w))

rounded_whole : {f : Format} {n : ℤ} {x : Float} → Rounded f n x → Within (2 ^ prec f) n → Whole n x
rounded_whole r w = record { sign = r.sign; size = r.size; value = rounded_value r w; is = r.is }

module _ (f : Format) {m n : ℤ} {x y : Float} (v : Whole m x) (w : Whole n y) where
  pub whole_product : Within (2 ^ prec f) (m *ℤ n) → Whole (m *ℤ n) (mul f x y)
  whole_product =
      rounded_whole
      (subst (λ (p : ℤ). Rounded f p (mul f x y)) (sym (ap₂ ◌*ℤ◌ v.is w.is)) (product_rounded f x y v.sign w.sign v.size w.size v.value w.value))

  pub whole_sum : Within (2 ^ prec f) (m +ℤ n) → Whole (m +ℤ n) (add f x y)
  whole_sum =
      rounded_whole
      (subst (λ (p : ℤ). Rounded f p (add f x y)) (sym (ap₂ ◌+ℤ◌ v.is w.is)) (sum_rounded f x y v.sign w.sign v.size w.size v.value w.value).rounded)

-- the last step: x + 0, where the 0 is +0
pub settled : (f : Format) {n : ℤ} {x zero : Float} → Whole n x → Exactly f (pos 0) zero → Within (2 ^ prec f) n → Exactly f n (add f x zero)
settled f {n} {x} {zero} v z w =
    let s = sum_rounded f x zero v.sign false v.size 0 v.value z.value in
    let r = s.rounded in
    let e : n ≡ signed r.sign r.size = v.is ∙ sym (+ℤ_idr (signed v.sign v.size)) ∙ r.is in
    let sign : r.sign ≡ negative n = sym (sign_of r.sign r.size (s.plus (not_both v.sign))) ∙ ap negative (sym e) in
    let size : r.size ≡ nat_abs n = sym (size_of r.sign r.size) ∙ ap nat_abs (sym e) in
    record {
      held = add-fits f x zero;
      value =
          subst₂ (λ (t : Bool) (k : ℕ). HasValue (add f x zero) t k 1) sign size
          (rounded_value r (subst (Within (2 ^ prec f)) (v.is ∙ sym (+ℤ_idr (signed v.sign v.size))) w));
    }
  where
    not_both : (s : Bool) → T (not (s && false))
    not_both false = tt
    not_both true = tt
