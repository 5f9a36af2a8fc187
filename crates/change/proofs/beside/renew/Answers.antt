-- The slopes to be renewed are one range.
use Rattle.std.specs.Prelude.{ℕ, ◌<◌}
use Rattle.std.proofs.Common.{sym, ◌∙◌, subst}
use Rattle.slopes.specs.Slopes.{built_slope}
use Rattle.change.specs.Beside.{UpTo, put_renewed}
use Rattle.change.proofs.beside.renew.Goals as goal

pub returns : goal.returns
returns c =
    let a = c.args in
    let n = sym c.requires.slopes_len in
    c.renew.ensures
    ∙ put_renewed (built_slope a.unit.size a.points.knots.now a.points.values.now) a.slopes.now (subst (λ (m : ℕ). a.k < m) n c.requires.k_in_bounds) c.first.ensures (subst (λ (m : ℕ). UpTo m a.k c.end.result) n c.end.ensures)
