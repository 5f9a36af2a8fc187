-- "Change one point of a table whose slopes you built, any number of times, refused changes among them: the slopes then equal those built afresh from the points as they
-- stand."
use Rattle.std.specs.Prelude.{◌≡◌, refl, List, [], ◌∷◌, ℕ, zero, suc, ℤ, length}
use Rattle.std.proofs.Common.{sym, subst, subst₂}
use Rattle.rules.specs.Limits.{UnitWithin}
use Rattle.table.specs.declared.changed.Change.{Change}
use Rattle.table.specs.Table.{Table, table, point_count}
use Rattle.table.specs.Accepted.{PointsWithin, unit_asked, accepted_points, points_accepted}
use Rattle.table.specs.AfterChange.{accepted_then}
use Rattle.slopes.specs.Slopes.{Built}
use Rattle.change.specs.Change.{Changed}
use Rattle.change.specs.StaysBuilt.{AllBuilt, all_are_then_as_built}

-- A list of changes, made one after another: each of the table that the one before it left, with whatever it answers.
pub data Chain : List Change → (before after : Table) → Type 0 where
  none : {t : Table} → Chain [] t t
  next : {c : Change} {cs : List Change} {t u v : Table} {number place : ℕ} → Changed c t u number place → Chain cs u v → Chain (c ∷ cs) t v

-- A table whose unit and points are accepted and whose slopes are all as built from them.
pub record BuiltTable (t : Table) : Type 0 where
  pub unit : UnitWithin t.s
  pub limits : PointsWithin t.knots t.values
  pub slopes : AllBuilt t

-- a build leaves one
pub by_a_build : {t : Table} {after : List ℤ} {place : ℕ} → Built t after 0 place → BuiltTable (table t.s t.knots t.values after)
by_a_build b = record { unit = unit_asked refl b.refusal; limits = accepted_points refl b.refusal; slopes = record { built = b.slopes } }

-- and its slopes equal those built afresh: a build of its points, over any list of as many slopes, is not refused and leaves just these
pub built_afresh : {t : Table} → BuiltTable t → (before : List ℤ) → length before ≡ point_count t → Built (table t.s t.knots t.values before) t.slopes 0 0
built_afresh b before e = record { refusal = points_accepted b.unit b.limits e; slopes = b.slopes.built }

-- a change leaves one, made or refused
after_a_change : {c : Change} {t u : Table} {number place : ℕ} → Changed c t u number place → BuiltTable t → BuiltTable u
after_a_change {c} {t} {number = zero} change b =
    record {
      unit = subst UnitWithin (sym change.unit_kept) b.unit;
      limits = subst₂ PointsWithin (sym change.knots) (sym change.values) (accepted_then c t refl change.refusal);
      slopes = all_are_then_as_built change b.slopes;
    }
after_a_change {number = suc number} change b =
    record {
      unit = subst UnitWithin (sym change.unit_kept) b.unit;
      limits = subst₂ PointsWithin (sym change.knots) (sym change.values) b.limits;
      slopes = all_are_then_as_built change b.slopes;
    }

after_a_chain : {cs : List Change} {t u : Table} → Chain cs t u → BuiltTable t → BuiltTable u
after_a_chain none b = b
after_a_chain (next change chain) b = after_a_chain chain (after_a_change change b)

-- THE CHAIN: a table is built, any list of changes is made, and the slopes that then stand there are those of a fresh build, in the same unit, of the points that then stand there.
pub the_slopes_equal_those_built_afresh : {t u : Table} {slopes again : List ℤ} {place : ℕ} {cs : List Change}
    → Built t slopes 0 place → Chain cs (table t.s t.knots t.values slopes) u → length again ≡ point_count u → Built (table u.s u.knots u.values again) u.slopes 0 0
the_slopes_equal_those_built_afresh {again = again} build chain e = built_afresh (after_a_chain chain (by_a_build build)) again e
