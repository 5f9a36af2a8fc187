-- The promise of `judge` admits one ruling only.
use Rattle.std.specs.Prelude.{◌≡◌, refl, ℕ, ℤ, Result, Ok, Err}
use Rattle.std.proofs.Common.{sym, ◌∙◌, ap}
use Rattle.piece.specs.Promise.{Ruling, ruling, rising, falling, flat, bends, none, ruling_of, Judged, unit_refused, width_refused, rise_refused, monotone, bent}
use Rattle.piece.specs.declared.Verdict.{Verdict}
use Rattle.piece.specs.declared.Verdict.TheVariants.{Rising, Falling, Flat, Bends}
use Rattle.rules.specs.declared.Cause.{Cause}
use Rattle.rules.specs.declared.Refused.{Refused}
use Rattle.rules.specs.Numbered.{cause_numbered, numbered}

pub one_ruling : {s : ℕ} {h z m n : ℤ} {x y : Ruling} → Judged s h z m n x → Judged s h z m n y → x ≡ y
one_ruling (unit_refused f) (unit_refused g) = refl
one_ruling (unit_refused f) (width_refused u g) = absurd (f u)
one_ruling (unit_refused f) (rise_refused u w g) = absurd (f u)
one_ruling (unit_refused f) (monotone u w r m) = absurd (f u)
one_ruling (unit_refused f) (bent u w r g) = absurd (f u)
one_ruling (width_refused u f) (unit_refused g) = absurd (g u)
one_ruling (width_refused u f) (width_refused v g) = refl
one_ruling (width_refused u f) (rise_refused v w g) = absurd (f w)
one_ruling (width_refused u f) (monotone v w r m) = absurd (f w)
one_ruling (width_refused u f) (bent v w r g) = absurd (f w)
one_ruling (rise_refused u w f) (unit_refused g) = absurd (g u)
one_ruling (rise_refused u w f) (width_refused v g) = absurd (g w)
one_ruling (rise_refused u w f) (rise_refused v x g) = refl
one_ruling (rise_refused u w f) (monotone v x r m) = absurd (f r)
one_ruling (rise_refused u w f) (bent v x r g) = absurd (f r)
one_ruling (monotone u w r m) (unit_refused g) = absurd (g u)
one_ruling (monotone u w r m) (width_refused v g) = absurd (g w)
one_ruling (monotone u w r m) (rise_refused v x g) = absurd (g r)
one_ruling (monotone u w r m) (monotone v x t k) = refl
one_ruling (monotone u w r m) (bent v x t g) = absurd (g m)
one_ruling (bent u w r f) (unit_refused g) = absurd (g u)
one_ruling (bent u w r f) (width_refused v g) = absurd (g w)
one_ruling (bent u w r f) (rise_refused v x g) = absurd (g r)
one_ruling (bent u w r f) (monotone v x t k) = absurd (f k)
one_ruling (bent u w r f) (bent v x t g) = refl

-- a ruling, back as an answer
abbrev case_of : Ruling → Result Verdict Refused
case_of (ruling k p rising) = Ok Rising
case_of (ruling k p falling) = Ok Falling
case_of (ruling k p flat) = Ok Flat
case_of (ruling k p bends) = Ok Bends
case_of (ruling k p none) = Err (record { cause = cause_numbered k; place = p })

there_and_back : (r : Result Verdict Refused) → case_of (ruling_of r) ≡ r
there_and_back (Ok Rising) = refl
there_and_back (Ok Falling) = refl
there_and_back (Ok Flat) = refl
there_and_back (Ok Bends) = refl
there_and_back (Err r) = ap (λ (c : Cause). Err (record { cause = c; place = r.place })) (numbered r.cause)

-- two results of `judge` that meet its promise are equal
pub one_verdict : {s : ℕ} {h z m n : ℤ} (r t : Result Verdict Refused) → Judged s h z m n (ruling_of r) → Judged s h z m n (ruling_of t) → r ≡ t
one_verdict r t p q = sym (there_and_back r) ∙ ap case_of (one_ruling p q) ∙ there_and_back t
