-- The test is the statement.
use Rattle.std.specs.Prelude.{[], ◌∷◌, ℤ, ◌*ℤ◌, ◌≤ℤ◌}
use Rattle.std.proofs.Common.{sym, subst}
use Rattle.std.specs.Int.Signed.{clash_ℤ}
use Rattle.integers.specs.Decided.{decided_by}
use Rattle.integers.specs.Sizes.{known}
use Rattle.integers.specs.Tests.{tests, passed, failed}
use Rattle.integers.specs.Arguments.{arguments, plainly₂}
use Rattle.piece.specs.Sizes.{WithSign, as_large}
use Rattle.piece.proofs.square_within.Goals as goal

pub returns : goal.returns
returns c =
    let a = c.args in
    let r = c.turned.result in
    let given = known a.over 3000000000 c.requires.over ∷ known a.a 3000000000 c.requires.start ∷ known a.b 3000000000 c.requires.end ∷ [] in
    let w : WithSign a.over a.over r = plainly₂ given (λ (sign x : ℤ). WithSign sign x r) c.turned.ensures (search arguments depth 30 fits 9000) tt in
    let Γ = known r 3000000000 (as_large w c.requires.over) ∷ given in
    decided_by _
    (λ e. record { within = subst (λ (x : ℤ). (a.over *ℤ x) ≤ℤ (a.a *ℤ a.b)) w.is (passed Γ e (search tests depth 30 fits 9000) tt) })
    (λ e i. clash_ℤ (failed Γ e (search tests depth 30 fits 9000) tt) (subst (λ (x : ℤ). (a.over *ℤ x) ≤ℤ (a.a *ℤ a.b)) (sym w.is) i.within))
