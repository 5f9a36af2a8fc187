-- Nothing outside 0 to 4Z is accepted, and within it the square decides.
use Rattle.std.specs.Prelude.{Bool, List, [], ◌∷◌, ℕ, ◌*◌, ◌^◌, T, leb, ℤ, pos, neg_ℤ, ◌-ℤ◌, ◌*ℤ◌, ◌≤ℤ◌}
use Rattle.std.proofs.Common.{sym, ◌∙◌, subst, arith, leb→le}
use Rattle.integers.specs.Promise.{Between, Decided, fails}
use Rattle.integers.specs.Decided.{told, denied, decided_alike}
use Rattle.integers.specs.Ring.{ring, quote}
use Rattle.integers.specs.Order.{≤ℤ_trans, *ℤ_mono, 0≤_number, pos-≤, at_most, signs}
use Rattle.integers.specs.Linear.{lin, says}
use Rattle.integers.specs.Within.{Within, within, within_high}
use Rattle.integers.specs.Sizes.{Known, known, sized, code}
use Rattle.integers.specs.Arguments.{arguments, plainly₃, as_coded₃}
use Rattle.cubic.specs.Piece.{NeverAgainst}
use Rattle.cubic.proofs.Never.{start_not_against, end_not_against, start_below_four, end_below_four}
use Rattle.cubic.specs.OneTest.{SquareWithin}
use Rattle.cubic.proofs.OneTest.{square_accepts, square_complete}
use Rattle.piece.specs.Sizes.{Moderate}
use Rattle.piece.proofs.never_against.Goals as goal
use Rattle.piece.proofs.never_against.Goals.{Then-between-2, then-between, else-between}

-- what is at most 4Z is at most kZ, for k from 4 on, since Z is then not below 0
within_times : (k : ℕ) (Z : ℤ) {x : ℤ} → T (leb 4 k) → pos 0 ≤ℤ x → x ≤ℤ (pos 4 *ℤ Z) → Between (pos 0) x (pos k *ℤ Z)
within_times k Z {x} t x₀ l = record { low = x₀; high = ≤ℤ_trans l (grow (pos k) Z (pos-≤ (leb→le 4 k t)) (up Z x x₀ l)) }
  where
    up : (Z x : ℤ) → pos 0 ≤ℤ x → x ≤ℤ (pos 4 *ℤ Z) → pos 0 ≤ℤ Z
    up Z x = lin (Z ∷ x ∷ []) (search says depth 30 fits 9000) (omega arith)

    grow : (K Z : ℤ) → pos 4 ≤ℤ K → pos 0 ≤ℤ Z → (pos 4 *ℤ Z) ≤ℤ (K *ℤ Z)
    grow K Z k₄ z₀ = at_most ((K -ℤ pos 4) *ℤ Z) (ring (K ∷ Z ∷ []) (search quote depth 30 fits 9000) tt) (search signs)

-- a number from 0 to kZ, where |Z| ≤ 2^28
at_most_times : (k : ℕ) {Z x : ℤ} → Within (2 ^ 28) Z → Between (pos 0) x (pos k *ℤ Z) → Within (k * 2 ^ 28) x
at_most_times k {Z} {x} h b =
    within _ x (≤ℤ_trans (below_zero (k * 2 ^ 28)) b.low) (≤ℤ_trans b.high (*ℤ_mono (0≤_number k) (within_high h)))
  where
    below_zero : (n : ℕ) → neg_ℤ (pos n) ≤ℤ pos 0
    below_zero n = lin [] (search says depth 30 fits 9000) (omega arith)

abbrev given : (Z a b : ℤ) → Moderate Z a b → List Known
given Z a b m = known Z (2 ^ 28) m.rise ∷ known a (2 ^ 41) m.start ∷ known b (2 ^ 41) m.end ∷ []

-- what is left by what was asked of a and of b, whatever the number of times, has a size whose products fit
pub square_within-requires : goal.square_within-requires
square_within-requires c =
    let Z = c.args.rise in
    let Γ = given Z c.args.a c.args.b c.requires in
    elim c.if-between.branch [
      | then-between w ↦
          let a = plainly₃ Γ Between (told c.between.ensures w.if-between.true) (search arguments depth 30 fits 9000) tt in
          let b = plainly₃ Γ Between (told w.between-then-between.ensures (sym w.value-is ∙ c.if-between-2.true)) (search arguments depth 30 fits 9000) tt in
          let Δ = known Z (2 ^ 28) c.requires.rise ∷ known c.args.a _ (at_most_times _ c.requires.rise a) ∷ known c.args.b _ (at_most_times _ c.requires.rise b) ∷ [] in
          record {
            over = sized Δ (search code depth 30 fits 9000) tt;
            start = sized Δ (search code depth 30 fits 9000) tt;
            end = sized Δ (search code depth 30 fits 9000) tt;
          }
      | else-between w ↦ absurd cc
    ]

-- neither is below 0
up : (c : Then-between-2) → (pos 0 ≤ℤ c.args.a) × (pos 0 ≤ℤ c.args.b)
up c =
    let Γ = given c.args.rise c.args.a c.args.b c.requires in
    elim c.if-between.branch [
      | then-between w ↦ (
        (plainly₃ Γ Between (told c.between.ensures w.if-between.true) (search arguments depth 30 fits 9000) tt).low,
        (plainly₃ Γ Between (told w.between-then-between.ensures (sym w.value-is ∙ c.if-between-2.true)) (search arguments depth 30 fits 9000) tt).low,
      )
      | else-between w ↦ absurd cc
    ]

pub returns-then-between-2 : goal.returns-then-between-2
returns-then-between-2 c =
    let a = c.args in
    decided_alike (square_accepts {Z = a.rise} (up c.before).0 (up c.before).1) square_complete
    (plainly₃ (given a.rise a.a a.b c.requires) (λ (o a b : ℤ). Decided (SquareWithin o a b) c.square_within.result) c.square_within.ensures (search arguments depth 30 fits 9000) tt)

pub returns-else-between-2 : goal.returns-else-between-2
returns-else-between-2 c =
    let a = c.args in
    let Γ = given a.rise a.a a.b c.requires in
    subst (λ (b : Bool). Decided (NeverAgainst a.rise a.a a.b) b) (sym c.if-between-2.false)
    (fails (λ f. elim c.if-between.branch [
      | then-between w ↦ denied w.between-then-between.ensures (sym w.value-is ∙ c.if-between-2.false) (as_coded₃ Γ Between (search arguments depth 30 fits 9000) tt (within_times _ a.rise tt (end_not_against f) (end_below_four f)))
      | else-between w ↦ denied c.between.ensures w.if-between.false (as_coded₃ Γ Between (search arguments depth 30 fits 9000) tt (within_times _ a.rise tt (start_not_against f) (start_below_four f)))
    ]))
