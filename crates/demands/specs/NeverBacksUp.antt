-- "CR 10: The arm never backs up. Our safety officer wants it shown for whole tables." (document 02) Its sentences, word for word, of any implementation.
-- This file has no proof: it can be read aloud from top to bottom. Its words are those of `Demands.antt`, and the legend there says how to read them. `NeverBacksUpShown.antt` shows that whatever meets the three
-- demands is so, and that ours is, as Rattle functions and as the library for C; `WrongOrder.antt` that wrong programs are not, and that a statement which says more would be wrong.
--
-- What stands in nearly every line:
--   I.May (evaluate t x) o       asked for the value of the table t at the position x, the implementation may answer o. A table has three lists of any numbers, and nothing is asked of where its slopes come from
--   o.number ≡ 0                 and that is no refusal; o.answer is then the value, where the arm goes
--   i + 1 < length t.knots     the table has a piece i. It goes from point i to point i + 1
--   entry t.knots i ≤ℤ x,      x lies on piece i, from its left knot to its right one, both of them included: so the step onto a knot is a step on the piece before it, and the step away
--     x ≤ℤ entry t.knots (i + 1)   from it one on the piece behind it
--   step t.values i            the rise of piece i: its right value less its left one. The piece rises where that is above 0, falls where it is below 0, and is flat where it is 0
use Rattle.std.specs.Prelude.{◌≡◌, ◌↔◌, ◌⊎◌, List, [], ℕ, ◌+◌, ◌*◌, ◌<◌, ◌≤◌, ℤ, pos, ◌*ℤ◌, ◌≤ℤ◌, ◌<ℤ◌, length}
use Rattle.rules.specs.Limits.{unit, WidthWithin}
use Rattle.table.specs.declared.changed.Change.{Change}
use Rattle.table.specs.Table.{Table, table, entry, step}
use Rattle.demands.specs.Demands.{build, check, evaluate, Outcome, Implementation, rise, ChainOf}

-- The exact cubic of one piece, with the slope unit U, the width h, the rise z and the slopes m and n. k₁/q₁ and k₂/q₂ are any two fractions of the width, each from 0 to 1, with whatever denominators; that they are in order is
-- k₁·q₂ ≤ k₂·q₁. `rise U h z m n k q` is what the cubic has risen by up to k/q, times U·q³: so that what it has risen by up to the one is compared with that up to the other, both are taken times U·q₁³·q₂³.
pub record ExactNeverBacksUp (U h z m n : ℤ) : Type 0 where
  -- rising: in order
  pub rising : pos 0 <ℤ z → (k₁ q₁ k₂ q₂ : ℕ) → 1 ≤ q₁ → k₁ ≤ q₁ → 1 ≤ q₂ → k₂ ≤ q₂ → k₁ * q₂ ≤ k₂ * q₁ → (rise U h z m n k₁ q₁ *ℤ pos (q₂ * q₂ * q₂)) ≤ℤ (rise U h z m n k₂ q₂ *ℤ pos (q₁ * q₁ * q₁))
  -- falling: in reverse order
  pub falling : z <ℤ pos 0 → (k₁ q₁ k₂ q₂ : ℕ) → 1 ≤ q₁ → k₁ ≤ q₁ → 1 ≤ q₂ → k₂ ≤ q₂ → k₁ * q₂ ≤ k₂ * q₁ → (rise U h z m n k₂ q₂ *ℤ pos (q₁ * q₁ * q₁)) ≤ℤ (rise U h z m n k₁ q₁ *ℤ pos (q₂ * q₂ * q₂))
  -- without a rise: it stays where it is
  pub flat : z ≡ pos 0 → (k q : ℕ) → 1 ≤ q → k ≤ q → rise U h z m n k q ≡ pos 0
  -- on every piece: between nothing and the whole rise, U·z times q³, upwards or downwards
  pub between : (k q : ℕ) → 1 ≤ q → k ≤ q
      → ((pos 0 ≤ℤ rise U h z m n k q) × (rise U h z m n k q ≤ℤ (U *ℤ z *ℤ pos (q * q * q)))) ⊎ (((U *ℤ z *ℤ pos (q * q * q)) ≤ℤ rise U h z m n k q) × (rise U h z m n k q ≤ℤ pos 0))

pub record NeverBacksUp (I : Implementation) : Type 0 where
  -- "For any table the check accepts:"
  --
  -- A position has an answer exactly if the check accepts the table and the position lies on one of its pieces. So what is said below of answers that are no refusals is said of every accepted table and of every position from
  -- its first knot to its last, and of nothing else.
  pub answered_exactly_then : {t : Table} {x : ℤ} {c : Outcome (check t)} {o : Outcome (evaluate t x)} → I.May (check t) c → I.May (evaluate t x) o
      → (o.number ≡ 0) ↔ ((c.number ≡ 0) × ((i : ℕ) × ((i + 1 < length t.knots) × ((entry t.knots i ≤ℤ x) × (x ≤ℤ entry t.knots (i + 1))))))
  -- "on a rising piece, of two positions in order the answers are in order,"
  pub on_a_rising_piece : {t : Table} {x y : ℤ} {o : Outcome (evaluate t x)} {p : Outcome (evaluate t y)} → I.May (evaluate t x) o → o.number ≡ 0 → I.May (evaluate t y) p → p.number ≡ 0
      → (i : ℕ) → i + 1 < length t.knots → entry t.knots i ≤ℤ x → x ≤ℤ y → y ≤ℤ entry t.knots (i + 1)
      → pos 0 <ℤ step t.values i → o.answer ≤ℤ p.answer
  -- "on a falling piece in reverse order,"
  pub on_a_falling_piece : {t : Table} {x y : ℤ} {o : Outcome (evaluate t x)} {p : Outcome (evaluate t y)} → I.May (evaluate t x) o → o.number ≡ 0 → I.May (evaluate t y) p → p.number ≡ 0
      → (i : ℕ) → i + 1 < length t.knots → entry t.knots i ≤ℤ x → x ≤ℤ y → y ≤ℤ entry t.knots (i + 1)
      → step t.values i <ℤ pos 0 → p.answer ≤ℤ o.answer
  -- On a piece without a rise they are its value.
  pub on_a_flat_piece : {t : Table} {x : ℤ} {o : Outcome (evaluate t x)} → I.May (evaluate t x) o → o.number ≡ 0
      → (i : ℕ) → i + 1 < length t.knots → entry t.knots i ≤ℤ x → x ≤ℤ entry t.knots (i + 1)
      → step t.values i ≡ pos 0 → o.answer ≡ entry t.values i
  -- "and on every piece they stay between its two values."
  pub on_every_piece : {t : Table} {x : ℤ} {o : Outcome (evaluate t x)} → I.May (evaluate t x) o → o.number ≡ 0
      → (i : ℕ) → i + 1 < length t.knots → entry t.knots i ≤ℤ x → x ≤ℤ entry t.knots (i + 1)
      → ((entry t.values i ≤ℤ o.answer) × (o.answer ≤ℤ entry t.values (i + 1))) ⊎ ((entry t.values (i + 1) ≤ℤ o.answer) × (o.answer ≤ℤ entry t.values i))
  -- "If every piece is rising or flat, answers are in order over the whole table."
  pub over_the_whole_table : {t : Table} {x y : ℤ} {o : Outcome (evaluate t x)} {p : Outcome (evaluate t y)} → I.May (evaluate t x) o → o.number ≡ 0 → I.May (evaluate t y) p → p.number ≡ 0
      → ((i : ℕ) → i + 1 < length t.knots → pos 0 ≤ℤ step t.values i)
      → x ≤ℤ y → o.answer ≤ℤ p.answer
  -- The same turned over: if every piece is falling or flat, they are in reverse order.
  pub over_the_whole_table_turned_over : {t : Table} {x y : ℤ} {o : Outcome (evaluate t x)} {p : Outcome (evaluate t y)} → I.May (evaluate t x) o → o.number ≡ 0 → I.May (evaluate t y) p → p.number ≡ 0
      → ((i : ℕ) → i + 1 < length t.knots → step t.values i ≤ℤ pos 0)
      → x ≤ℤ y → p.answer ≤ℤ o.answer
  -- "On each piece, the same for the exact cubic at any two fractions of its width."
  pub so_is_the_exact_cubic : {t : Table} {c : Outcome (check t)} → I.May (check t) c → c.number ≡ 0
      → (i : ℕ) → i + 1 < length t.knots → ExactNeverBacksUp (unit t.s) (step t.knots i) (step t.values i) (entry t.slopes i) (entry t.slopes (i + 1))
  -- And so to the accident, in which two counts had a difference that wrapped to 1. From any list of changes, refused ones among them, made in a built table, the arm that follows the table never moves against the rise of the
  -- piece that it is on:
  --
  -- t is built, which leaves slopes; any changes are made of it, one after another, whatever each is answered, and u is the table then. At two positions in order on a piece of u neither answer is a refusal, and the
  -- arm goes up, or stays, where the piece rises; down, or stays, where it falls; and stays where it is flat.
  pub after_any_changes : {t : Table} {b : Outcome (build t)} {changes : List Change} {u : Table} {x y : ℤ} {o : Outcome (evaluate u x)} {p : Outcome (evaluate u y)}
      → I.May (build t) b → b.number ≡ 0 → ChainOf I [] changes (table t.s t.knots t.values b.lists) u
      → I.May (evaluate u x) o → I.May (evaluate u y) p
      → (i : ℕ) → i + 1 < length u.knots → entry u.knots i ≤ℤ x → x ≤ℤ y → y ≤ℤ entry u.knots (i + 1)
      → ((o.number ≡ 0) × (p.number ≡ 0)) × ((pos 0 <ℤ step u.values i → o.answer ≤ℤ p.answer) × ((step u.values i <ℤ pos 0 → p.answer ≤ℤ o.answer) × (step u.values i ≡ pos 0 → o.answer ≡ p.answer)))
  -- and no width of it has wrapped: each is the true difference of its two knots, and that is in 1 to 1024.
  pub no_width_has_wrapped : {t : Table} {b : Outcome (build t)} {changes : List Change} {u : Table}
      → I.May (build t) b → b.number ≡ 0 → ChainOf I [] changes (table t.s t.knots t.values b.lists) u
      → (i : ℕ) → i + 1 < length u.knots → WidthWithin (step u.knots i)
