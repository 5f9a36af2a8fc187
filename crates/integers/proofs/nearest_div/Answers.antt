-- With a half of d added the floor is the nearest whole number, and each sum fits, as n is tested before it.
use Rattle.std.specs.Prelude.{◌≡◌, [], ◌∷◌, ℤ, pos, ◌+ℤ◌, ◌-ℤ◌, ◌≤ℤ◌, ◌<ℤ◌}
use Rattle.std.proofs.Common.{sym, ◌∙◌, ap, ap₂, subst, arith, SFits, to_z, of_z, to_z-of_z}
use Rattle.std.proofs.lemmas.Int.{ints}
use Rattle.std.specs.Int.{w64}
use Rattle.std.specs.Int.Signed.{quot_z, clash_ℤ, le_z_yes}
use Rattle.integers.specs.Promise.{Nearest, Rounded, floor_of}
use Rattle.integers.specs.Order.{1≤→0<}
use Rattle.integers.specs.Division.{quot_fits, floor_of_lem, 0≤_floor, floor_at_most}
use Rattle.integers.specs.Nearest.{Half, half_of, half_added, half_added_after}
use Rattle.integers.specs.Sizes.{held, returned}
use Rattle.integers.specs.Tests.{tests, passed, failed}
use Rattle.integers.proofs.nearest_div.Goals as goal

abbrev W : ℤ → ℤ
W x = to_z w64 (of_z w64 x)

module _ (n d : ℤ) (f : SFits w64 n) (g : SFits w64 d) (p : pos 1 ≤ℤ d) where
  half_is : W (quot_z (W d) (pos 2)) ≡ quot_z d (pos 2)
  half_is = ap (λ (v : ℤ). W (quot_z v (pos 2))) (to_z-of_z g) ∙ to_z-of_z (quot_fits w64 {d = pos 2} (le_z_yes tt) g)

  -- the sums, as the code has them, where it tells small numbers from large ones at `room`
  sum_is : {room : ℤ} → room ≤ℤ pos 4611686018427387905 → n <ℤ room → W (W n +ℤ W (quot_z (W d) (pos 2))) ≡ n +ℤ quot_z d (pos 2)
  sum_is r l = let h : Half d (quot_z d (pos 2)) = half_of p in omega (arith, ints, half_is)

  rest_is : {room : ℤ} → pos 4611686018427387904 ≤ℤ room → room ≤ℤ n → W (W (W n -ℤ W d) +ℤ W (quot_z (W d) (pos 2))) ≡ n -ℤ d +ℤ quot_z d (pos 2)
  rest_is r l = let h : Half d (quot_z d (pos 2)) = half_of p in omega (arith, ints, half_is)

  -- and one more than the quotient of what is left
  one_more_is : {room q : ℤ} → pos 4611686018427387904 ≤ℤ room → room ≤ℤ n → q ≡ floor_of (n -ℤ d +ℤ quot_z d (pos 2)) d → W (q +ℤ pos 1) ≡ floor_of (n -ℤ d +ℤ quot_z d (pos 2)) d +ℤ pos 1
  one_more_is r l e =
      let h : Half d (quot_z d (pos 2)) = half_of p in
      let low : pos 0 ≤ℤ (n -ℤ d +ℤ quot_z d (pos 2)) = omega (arith, ints) in
      let q₀ : pos 0 ≤ℤ floor_of (n -ℤ d +ℤ quot_z d (pos 2)) d = 0≤_floor d low in
      let q₁ : floor_of (n -ℤ d +ℤ quot_z d (pos 2)) d ≤ℤ (n -ℤ d +ℤ quot_z d (pos 2)) = floor_at_most d low in
      omega (arith, ints)

  -- so the nearest is answered
  answer : {r q : ℤ} → r ≡ q → Nearest n d q → Rounded n d r
  answer e k = record { nearest = λ _. subst (Nearest n d) (sym e) k; otherwise = λ l. absurd (clash_ℤ (1≤→0< p) l) }

pub returns-then-n-lt-ROOM : goal.returns-then-n-lt-ROOM
returns-then-n-lt-ROOM c =
    let n = c.args.n in
    let d = c.args.d in
    let Γ = held w64 n c.ranges.n ∷ held w64 d c.ranges.d ∷ [] in
    let p = failed Γ c.if-d-lt1.false (search tests depth 30 fits 9000) tt in
    let l = passed Γ c.if-n-lt-ROOM.true (search tests depth 30 fits 9000) tt in
    let quotient = returned w64 c.floor_div.type_inv (c.floor_div.ensures.is ∙ ap₂ floor_of (sum_is n d c.ranges.n c.ranges.d p (le_z_yes tt) l) (to_z-of_z c.ranges.d)) in
    answer n d c.ranges.n c.ranges.d p quotient (half_added n (half_of p) (floor_of_lem _ (1≤→0< p)))

pub returns : goal.returns
returns c =
    let n = c.args.n in
    let d = c.args.d in
    let Γ = held w64 n c.ranges.n ∷ held w64 d c.ranges.d ∷ [] in
    let p = failed Γ c.if-d-lt1.false (search tests depth 30 fits 9000) tt in
    let l = failed Γ c.if-n-lt-ROOM.false (search tests depth 30 fits 9000) tt in
    let quotient = returned w64 c.floor_div-2.type_inv (c.floor_div-2.ensures.is ∙ ap₂ floor_of (rest_is n d c.ranges.n c.ranges.d p (le_z_yes tt) l) (to_z-of_z c.ranges.d)) in
    answer n d c.ranges.n c.ranges.d p (one_more_is n d c.ranges.n c.ranges.d p (le_z_yes tt) l quotient) (half_added_after n (half_of p) (floor_of_lem _ (1≤→0< p)))
