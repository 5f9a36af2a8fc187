-- One half has the position's piece, and takes one halving less.
use Rattle.std.specs.Prelude.{◌≡◌, List, ℕ, ◌-◌, ◌≤◌, ◌<◌, ℤ}
use Rattle.std.proofs.Common.{sym, subst, arith, to_z-of_z}
use Rattle.integers.specs.Decided.{told, denied}
use Rattle.position.specs.Halving.{Among, the_only_one, in_front, in_rest, larger, halvings, one_less}
use Rattle.position.proofs.halving.+among.Goals as goal

-- where more than one piece is left, either half has a halving less to go
fewer_left : {t : ℕ} (n m : ℕ) → halvings n ≡ t → 1 < n → m ≤ larger n → halvings m < t
fewer_left n m e l h = subst (λ (k : ℕ). halvings m < k) e (one_less n m l h)

-- a position as the code hands it on is the position
as_handed : {ks : List ℤ} {x y : ℤ} {first end : ℕ} → y ≡ x → Among ks x first end → Among ks y first end
as_handed {ks} {first = first} {end} e = subst (λ (v : ℤ). Among ks v first end) (sym e)

pub returns-then-count-eq1 : goal.returns-then-count-eq1
returns-then-count-eq1 t c = the_only_one c.requires c.if-count-eq1.true

pub among-requires : goal.among-requires
among-requires t c =
    let a = c.args in
    let l : 1 < a.end - a.first = omega (arith, c.requires.some, c.if-count-eq1.false) in (
      fewer_left (a.end - a.first) _ c.decreases l (omega arith),
      in_front (as_handed (to_z-of_z c.ranges.position) c.requires) _ (omega (arith, l)) (omega (arith, l)) (told c.lies_before.ensures c.if-lies_before.true),
    )

pub among-requires-else-lies_before : goal.among-requires-else-lies_before
among-requires-else-lies_before t c =
    let a = c.args in
    let l : 1 < a.end - a.first = omega (arith, c.requires.some, c.if-count-eq1.false) in (
      fewer_left (a.end - a.first) _ c.decreases l (omega arith),
      in_rest (as_handed (to_z-of_z c.ranges.position) c.requires) _ (omega (arith, l)) (denied c.lies_before.ensures c.if-lies_before.false),
    )
