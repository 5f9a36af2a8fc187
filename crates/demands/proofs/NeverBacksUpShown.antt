-- Whatever meets the three demands never backs up, and so ours does not, as Rattle functions and as the library for C.
use Rattle.std.specs.Prelude.{◌≡◌, refl, ◌⊎◌, List, [], ℕ, ◌+◌, ◌-◌, ◌<◌, ℤ, pos, ◌≤ℤ◌, length}
use Rattle.std.proofs.Common.{sym, subst, subst₂, inl, inr, arith}
use Rattle.std.specs.Int.Signed.{≤ℤ_refl}
use Rattle.integers.specs.Order.{≤ℤ_trans, 0≤_number, pos-≤}
use Rattle.cubic.specs.Piece.{Monotone}
use Rattle.cubic.specs.Along.{Along, not_falling, not_rising, Amid, upwards, downwards, amid_on_the_way}
use Rattle.cubic.proofs.InOrder.{from_nothing, to_the_whole}
use Rattle.cubic.proofs.Fractions.{in_order_at_any_two_fractions}
use Rattle.rules.specs.Refusals.{Given}
use Rattle.rules.specs.Order.{one_given, passes_at_0}
use Rattle.table.specs.declared.changed.Change.{Change}
use Rattle.table.specs.Table.{Table, table, entry, step, Holds, check_order}
use Rattle.table.specs.Accepted.{Accepted, accepted_table}
use Rattle.position.specs.Position.{WithinKnots}
use Rattle.position.specs.Pieces.{within_list, starts, ends, knots_in_order}
use Rattle.position.specs.Refused.{none_refused, checked_at, accepted_at}
use Rattle.curve.specs.Curve.{ValueAt}
use Rattle.curve.specs.InOrder.{value_on_lem, along_the_piece, from_the_left, to_the_right, throughout}
use Rattle.demands.specs.Demands.{build, check, evaluate, Outcome, Implementation, Demand1, Demand2, Demand3, ChainOf}
use Rattle.demands.specs.Ours.{ours, ours_in-C}
use Rattle.demands.proofs.BothMeet.{met, met_in-C}
use Rattle.demands.proofs.NothingElse.{its_given}
use Rattle.demands.specs.Values.{the_exact_is_the_value}
use Rattle.demands.specs.NeverBacksUp.{ExactNeverBacksUp, NeverBacksUp}

either : {l x r : ℤ} → Amid l x r → ((l ≤ℤ x) × (x ≤ℤ r)) ⊎ ((r ≤ℤ x) × (x ≤ℤ l))
either (upwards b) = inl (b.low, b.high)
either (downwards b) = inr (b.low, b.high)

-- ---- the exact cubic of a monotone piece

exact : {U h z m n : ℤ} → Monotone U h z m n → ExactNeverBacksUp U h z m n
exact {U} {h} {z} {m} {n} o =
    record {
      rising = λ r k₁ q₁ k₂ q₂ a _ b c l. (in_order_at_any_two_fractions o (pos k₁) (pos q₁) (pos k₂) (pos q₂) (0≤_number k₁) (pos-≤ a) (pos-≤ c) (pos-≤ b) (pos-≤ l)).rising r;
      falling = λ r k₁ q₁ k₂ q₂ a _ b c l. (in_order_at_any_two_fractions o (pos k₁) (pos q₁) (pos k₂) (pos q₂) (0≤_number k₁) (pos-≤ a) (pos-≤ c) (pos-≤ b) (pos-≤ l)).falling r;
      flat = λ r k q a b. sym ((from_nothing o (pos k) (pos q) (0≤_number k) (pos-≤ b) (pos-≤ a)).level r);
      between = λ k q a b. either (amid_on_the_way (from_nothing o (pos k) (pos q) (0≤_number k) (pos-≤ b) (pos-≤ a)) (to_the_whole o (pos k) (pos q) (0≤_number k) (pos-≤ b) (pos-≤ a)));
    }

module _ {I : Implementation} (one : Demand1 I) (two : Demand2 I) where
  -- ---- an answer that is no refusal: the table is accepted, and it is the value there

  module _ {t : Table} {x : ℤ} {o : Outcome (evaluate t x)} (may : I.May (evaluate t x) o) (done : o.number ≡ 0) where
    its_table : Accepted t
    its_table = accepted_at done (its_given one (evaluate t x) o may)

    its_value : ValueAt t x o.answer
    its_value = the_exact_is_the_value its_table.unit its_table.limits (two.the_value_at_a_position may done)

  -- and there is one on each piece of an accepted table
  answered : {t : Table} {x : ℤ} {o : Outcome (evaluate t x)} {q : ℕ} → Given (Holds t) check_order 0 q → I.May (evaluate t x) o → (i : ℕ) → i + 1 < length t.knots → entry t.knots i ≤ℤ x → x ≤ℤ entry t.knots (i + 1) → o.number ≡ 0
  answered {t} {x} {o} g may i l low high = (one_given (its_given one (evaluate t x) o may) (none_refused g refl inside)).0
    where
      inside : WithinKnots t.knots x
      inside =
          let a = accepted_table refl g in
          record {
            low = ≤ℤ_trans (knots_in_order a.limits 0 i (omega arith) (omega arith)) low;
            high = ≤ℤ_trans high (knots_in_order a.limits (i + 1) (length t.knots - 1) (omega arith) (omega arith));
          }

  -- ---- two answers on one piece

  module _ {t : Table} {x y : ℤ} {o : Outcome (evaluate t x)} {p : Outcome (evaluate t y)} (first : I.May (evaluate t x) o) (done₁ : o.number ≡ 0) (second : I.May (evaluate t y) p) (done₂ : p.number ≡ 0) where
    along : (i : ℕ) → i + 1 < length t.knots → entry t.knots i ≤ℤ x → x ≤ℤ y → y ≤ℤ entry t.knots (i + 1) → Along (step t.values i) o.answer p.answer
    along i l low xy high =
        let a = its_table first done₁ in
        subst₂ (Along (step t.values i)) (sym (value_on_lem a i l (its_value first done₁) low (≤ℤ_trans xy high))) (sym (value_on_lem a i l (its_value second done₂) (≤ℤ_trans low xy) high)) (along_the_piece a i l x y low xy high)

    -- and over a whole table
    in_order : ((i : ℕ) → i + 1 < length t.knots → pos 0 ≤ℤ step t.values i) → x ≤ℤ y → o.answer ≤ℤ p.answer
    in_order up =
        let a = its_table first done₁ in
        throughout a ◌≤ℤ◌ ≤ℤ_refl (λ _ _ _. ≤ℤ_trans) (λ i l x y low xy high. not_falling (up i l) (along_the_piece a i l x y low xy high)) (its_value first done₁) (its_value second done₂)

    in_reverse_order : ((i : ℕ) → i + 1 < length t.knots → step t.values i ≤ℤ pos 0) → x ≤ℤ y → p.answer ≤ℤ o.answer
    in_reverse_order down =
        let a = its_table first done₁ in
        throughout a (λ (v w : ℤ). w ≤ℤ v) ≤ℤ_refl (λ _ _ _ b c. ≤ℤ_trans c b) (λ i l x y low xy high. not_rising (down i l) (along_the_piece a i l x y low xy high)) (its_value first done₁) (its_value second done₂)

  -- ---- one answer: from the left value on, and up to the right one

  module _ {t : Table} {x : ℤ} {o : Outcome (evaluate t x)} (may : I.May (evaluate t x) o) (done : o.number ≡ 0) (i : ℕ) (l : i + 1 < length t.knots) (low : entry t.knots i ≤ℤ x) (high : x ≤ℤ entry t.knots (i + 1)) where
    from_left : Along (step t.values i) (entry t.values i) o.answer
    from_left = subst (Along (step t.values i) (entry t.values i)) (sym (value_on_lem (its_table may done) i l (its_value may done) low high)) (from_the_left (its_table may done) i l x low high)

    to_right : Along (step t.values i) o.answer (entry t.values (i + 1))
    to_right = subst (λ (v : ℤ). Along (step t.values i) v (entry t.values (i + 1))) (sym (value_on_lem (its_table may done) i l (its_value may done) low high)) (to_the_right (its_table may done) i l x low high)

  -- ---- a table after any changes: the slopes are those built afresh, and these get a yes

  module _ (three : Demand3 I) {t : Table} {b : Outcome (build t)} {changes : List Change} {u : Table} (built : I.May (build t) b) (done : b.number ≡ 0) (chain : ChainOf I [] changes (table t.s t.knots t.values b.lists) u) where
    passes : Given (Holds u) check_order 0 0
    passes =
        let afresh = one.any_may_come_in (build (table u.s u.knots u.values u.knots)) tt in
        let same = three.the_slopes_equal_those_built_afresh built done chain refl afresh.1 in
        let checked = one.any_may_come_in (check (table u.s u.knots u.values afresh.0.lists)) tt in
        let zero = two.get_a_yes_always afresh.1 same.0 checked.1 in
        let given = its_given one (check (table u.s u.knots u.values afresh.0.lists)) checked.0 checked.1 in
        subst (λ (slopes : List ℤ). Given (Holds (table u.s u.knots u.values slopes)) check_order 0 0) same.1
        (subst₂ (Given (Holds (table u.s u.knots u.values afresh.0.lists)) check_order) zero (passes_at_0 zero given) given)

  pub never_backs_up : Demand3 I → NeverBacksUp I
  never_backs_up three = record {
    answered_exactly_then = λ {t} {x} {c} {o} checked may. (
      λ done. let at = its_value may done in (
        (one_given (its_given one (check t) c checked) (checked_at done (its_given one (evaluate t x) o may))).0,
        (at.piece, (within_list at.belongs, (starts (its_table may done).limits at.belongs, ends at.belongs))),
      ),
      λ both. let given = its_given one (check t) c checked in
          answered (subst (λ (n : ℕ). Given (Holds t) check_order n c.place) both.0 given) may both.1.0 both.1.1.0 both.1.1.1.0 both.1.1.1.1,
    );
    on_a_rising_piece = λ first done₁ second done₂ i l low xy high up. (along first done₁ second done₂ i l low xy high).rising up;
    on_a_falling_piece = λ first done₁ second done₂ i l low xy high down. (along first done₁ second done₂ i l low xy high).falling down;
    on_a_flat_piece = λ may done i l low high level. sym ((from_left may done i l low high).level level);
    on_every_piece = λ may done i l low high. either (amid_on_the_way (from_left may done i l low high) (to_right may done i l low high));
    over_the_whole_table = in_order;
    over_the_whole_table_turned_over = in_reverse_order;
    so_is_the_exact_cubic = λ {t} {c} checked zero i l. exact ((accepted_table zero (its_given one (check t) c checked)).pieces i l);
    after_any_changes = λ built done chain first second i l low xy high.
        let given = passes three built done chain in
        let zero₁ = answered given first i l low (≤ℤ_trans xy high) in
        let zero₂ = answered given second i l (≤ℤ_trans low xy) high in
        let way = along first zero₁ second zero₂ i l low xy high in
        ((zero₁, zero₂), (way.rising, (way.falling, way.level)));
    no_width_has_wrapped = λ built done chain i l. (accepted_table refl (passes three built done chain)).limits.widths i l;
  }

-- ======== Ours

pub ours_never_backs_up : NeverBacksUp ours × NeverBacksUp ours_in-C
ours_never_backs_up = (never_backs_up met.0 met.1 met.2, never_backs_up met_in-C.0 met_in-C.1 met_in-C.2)
