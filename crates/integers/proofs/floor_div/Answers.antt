-- The quotient toward zero is the floor, or one more than it where the remainder is negative.
use Rattle.std.specs.Prelude.{◌≡◌, List, [], ◌∷◌, ℤ, pos, ◌-ℤ◌, ◌≤ℤ◌, ◌<ℤ◌}
use Rattle.std.proofs.Common.{sym, ◌∙◌, ap, ap₂, subst₂, SFits, to_z, of_z, to_z-of_z}
use Rattle.std.specs.Int.{w64}
use Rattle.std.specs.Int.Signed.{quot_z, rem_z}
use Rattle.integers.specs.Division.{quot_fits, rem_fits, floor_fits, quot_floor, less_floor}
use Rattle.integers.specs.Sizes.{Known, held}
use Rattle.integers.specs.Tests.{tests, passed, failed}
use Rattle.integers.proofs.floor_div.Goals as goal

abbrev W : ℤ → ℤ
W x = to_z w64 (of_z w64 x)

-- as the code has them
module _ (n d : ℤ) (f : SFits w64 n) (g : SFits w64 d) where
  quotient : pos 1 ≤ℤ d → W (quot_z (W n) (W d)) ≡ quot_z n d
  quotient p = ap₂ (λ (n d : ℤ). W (quot_z n d)) (to_z-of_z f) (to_z-of_z g) ∙ to_z-of_z (quot_fits w64 p f)

  abbrev remainder : List Known
  remainder =
      held w64 (rem_z (W n) (W d)) (subst₂ (λ (n d : ℤ). SFits w64 (rem_z n d)) (sym (to_z-of_z f)) (sym (to_z-of_z g)) (rem_fits w64 d f)) ∷ []

  plain : (R : ℤ → Type 0) → R (rem_z (W n) (W d)) → R (rem_z n d)
  plain R h = subst₂ (λ (n d : ℤ). R (rem_z n d)) (to_z-of_z f) (to_z-of_z g) h

pub returns-then-n-d-lt0 : goal.returns-then-n-d-lt0
returns-then-n-d-lt0 c =
    let n = c.args.n in
    let d = c.args.d in
    let p = failed (held w64 d c.ranges.d ∷ []) c.if-d-lt1.false (search tests depth 30 fits 9000) tt in
    let r = plain n d c.ranges.n c.ranges.d (λ (r : ℤ). r <ℤ pos 0) (passed (remainder n d c.ranges.n c.ranges.d) c.if-n-d-lt0.true (search tests depth 30 fits 9000) tt) in
    record { is = ap W (ap (λ (q : ℤ). q -ℤ pos 1) (quotient n d c.ranges.n c.ranges.d p) ∙ less_floor n p r) ∙ to_z-of_z (floor_fits w64 d c.ranges.n) }

pub returns-else-n-d-lt0 : goal.returns-else-n-d-lt0
returns-else-n-d-lt0 c =
    let n = c.args.n in
    let d = c.args.d in
    let p = failed (held w64 d c.ranges.d ∷ []) c.if-d-lt1.false (search tests depth 30 fits 9000) tt in
    let r = plain n d c.ranges.n c.ranges.d (λ (r : ℤ). pos 0 ≤ℤ r) (failed (remainder n d c.ranges.n c.ranges.d) c.if-n-d-lt0.false (search tests depth 30 fits 9000) tt) in
    record { is = quotient n d c.ranges.n c.ranges.d p ∙ quot_floor n p r }
