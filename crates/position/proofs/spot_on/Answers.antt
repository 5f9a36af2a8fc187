-- The lists have both ends of the position's piece, and each number is as the code has it.
use Rattle.std.specs.Prelude.{[], ◌∷◌, ◌+◌, ℤ, ◌+ℤ◌}
use Rattle.std.proofs.Common.{rules, arith, sym, ◌∙◌, ap₂, subst, SFits, to_z-of_z}
use Rattle.std.specs.Int.{w32, w64}
use Rattle.integers.specs.Sizes.{held, plain_is, code, returned}
use Rattle.integers.specs.Order.{across}
use Rattle.table.specs.Table.{entry}
use Rattle.position.specs.Pieces.{within_list}
use Rattle.position.proofs.spot_on.Goals as goal

pub overflow_add-i : goal.overflow_add-i
overflow_add-i c = let l = within_list c.requires.belongs in search rules

pub offset_bounds-points-i-2 : goal.offset_bounds-points-i-2
offset_bounds-points-i-2 c = let l = within_list c.requires.belongs in let e = c.args.points.within.lengths in search rules

pub bounds-points-i-2 : goal.bounds-points-i-2
bounds-points-i-2 c = let l = within_list c.requires.belongs in omega (arith, c.args.points.within.lengths)

pub offset_bounds-slopes-i : goal.offset_bounds-slopes-i
offset_bounds-slopes-i c = let l = within_list c.requires.belongs in search rules

pub overflow_add-result : goal.overflow_add-result
overflow_add-result c = let l = within_list c.requires.belongs in search rules

pub offset_bounds-slopes-i-2 : goal.offset_bounds-slopes-i-2
offset_bounds-slopes-i-2 c = let l = within_list c.requires.belongs in search rules

pub bounds-slopes-i-2 : goal.bounds-slopes-i-2
bounds-slopes-i-2 c = let l = within_list c.requires.belongs in omega arith

pub offset_bounds-points-i-3 : goal.offset_bounds-points-i-3
offset_bounds-points-i-3 c = let l = within_list c.requires.belongs in search rules

-- what the two calls of `difference` and that of `step` answer
pub returns : goal.returns
returns c =
    let p = c.args.points in
    let i = c.args.i in
    let left = held w32 (entry p.values.now i) (search rules) in
    let right = held w32 (entry p.values.now (i + 1)) (search rules) in
    let knot = held w32 (entry p.knots.now i) (search rules) in
    let at = held w32 c.args.position c.ranges.position in
    let left_fits : SFits w32 (entry p.values.now i) = search rules in
    let left_is = to_z-of_z left_fits in
    let z_is = returned w64 c.difference.type_inv (c.difference.ensures ∙ plain_is {Γ = left ∷ right ∷ []} (search code depth 30 fits 9000) tt) in
    record {
      belongs = c.requires.belongs;
      left_is = left_is;
      h_is = returned w64 c.step.type_inv c.step.ensures;
      z_is = z_is;
      m_is = to_z-of_z {w = w32} (search rules);
      n_is = to_z-of_z {w = w32} (search rules);
      t_is = returned w64 c.difference-2.type_inv (c.difference-2.ensures ∙ plain_is {Γ = knot ∷ at ∷ []} (search code depth 30 fits 9000) tt);
      right_fits = subst (λ (v : ℤ). SFits w32 v) (sym (ap₂ ◌+ℤ◌ left_is z_is ∙ across (entry p.values.now i) (entry p.values.now (i + 1)))) (search rules);
    }
