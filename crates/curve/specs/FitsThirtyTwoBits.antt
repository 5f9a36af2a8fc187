-- On an accepted table of 32-bit values the value at any position fits 32 bits.
use Rattle.std.specs.Prelude.{refl, ℕ, ◌+◌, ◌<◌, ℤ, length}
use Rattle.std.proofs.Common.{sym, subst, arith, SFits}
use Rattle.std.specs.Int.{w32}
use Rattle.table.specs.Table.{Table, entry}
use Rattle.table.specs.Accepted.{Accepted}
use Rattle.position.specs.Pieces.{within_list}
use Rattle.position.specs.Spot.{inside_accepted}
use Rattle.curve.specs.Curve.{ValueAt}
use Rattle.curve.specs.OnPiece.{value_fits}

pub on_an_accepted_table_the_value_fits_32_bits : {t : Table} {x v : ℤ} → Accepted t → ((i : ℕ) → i < length t.values → SFits w32 (entry t.values i)) → ValueAt t x v → SFits w32 v
on_an_accepted_table_the_value_fits_32_bits {t} a f at =
    let l = within_list at.belongs in
    subst (λ (v : ℤ). SFits w32 v) (sym at.is)
    (value_fits (inside_accepted a at.belongs) w32 refl (f at.piece (omega (arith, a.limits.lengths))) (f (at.piece + 1) (omega (arith, a.limits.lengths))))
