-- Contracts that are not tied: one that asks something of its caller, one that admits two answers, and those that leave a lent list open.
use Rattle.std.specs.Prelude.{◌≡◌, refl, List, [], ◌∷◌, ℕ, ℤ, pos, length}
use Rattle.std.proofs.Common.{ap, arith}
use Rattle.std.specs.Borrow.{Bor, MutBor}
use Rattle.demands.specs.ByContract.{to_change}
use Rattle.demands.specs.Ties.{Tied, result, contents, TiedWhere, with_first, with_third, with_three}

abbrev None : Type 0
None = Unit

-- nothing is asked
abbrev free : None → None → Type 0
free κs a = None

-- of three lists the third is lent to be changed, or all of them are
abbrev lists : Type 0
lists = ℕ × (Bor (List ℤ) × (Bor (List ℤ) × (MutBor (List ℤ) × None)))

abbrev lists_to_change : Type 0
lists_to_change = ℕ × (MutBor (List ℤ) × (MutBor (List ℤ) × (MutBor (List ℤ) × None)))

abbrev holding : List ℤ → Bor (List ℤ)
holding xs = record { ref_ptr = (0, 0); now = xs }

abbrev three : (first second third : List ℤ) → lists
three ks vs ss = (8, (holding ks, (holding vs, (to_change ss, tt))))

abbrev three_to_change : (first second third : List ℤ) → lists_to_change
three_to_change ks vs ss = (8, (to_change ks, (to_change vs, (to_change ss, tt))))

-- a contract that asks its caller for something that cannot be had
pub a_contract_that_asks : Tied {L = None} {W = ℕ} {A = λ κs. None} {R = λ κs. ℕ} {S = λ κs. None} (λ κs a. ⊥) (λ κs a r x. r ≡ 0) result → ⊥
a_contract_that_asks t = t.0 tt tt

-- one that says nothing of what is returned
pub a_contract_with_two_answers : Tied {L = None} {W = ℕ} {A = λ κs. None} {R = λ κs. ℕ} {S = λ κs. None} free (λ κs a r x. None) result → ⊥
a_contract_with_two_answers t = absurd (omega (arith, t.1 tt tt 0 1 tt tt tt tt))

pub a_part_that_is_not_said : Tied {L = None} {W = List ℤ} {A = λ κs. None} {R = λ κs. Bor (List ℤ)} {S = λ κs. None} free (λ κs a r x. None) contents → ⊥
a_part_that_is_not_said t = absurd (omega (arith, ap length (t.1 tt tt (holding []) (holding (pos 0 ∷ [])) tt tt tt tt)))

-- nor one that asks for what can be had, and then says nothing
pub two_answers_where_it_is_met : TiedWhere {L = None} {W = ℕ} {A = λ κs. None} {R = λ κs. ℕ} {S = λ κs. None} free (λ κs a r x. None) result → ⊥
two_answers_where_it_is_met t = absurd (omega (arith, t tt tt 0 1 tt tt tt tt tt))

-- and those that say what is returned and nothing of a list, or what a list holds and nothing of what is returned
abbrev of_the_answer_alone : {S : Type 0} → None → None → ℕ → S → Type 0
of_the_answer_alone κs a r x = r ≡ 0

pub a_first_list_left_open : Tied {L = None} {W = ℕ × List ℤ} {A = λ κs. None} {R = λ κs. ℕ} {S = λ κs. MutBor (List ℤ) × None} free of_the_answer_alone with_first → ⊥
a_first_list_left_open t = absurd (omega (arith, ap (λ (seen : ℕ × List ℤ). length seen.1) (t.1 tt tt 0 0 (to_change [], tt) (to_change (pos 0 ∷ []), tt) refl refl)))

pub a_third_list_left_open : Tied {L = None} {W = ℕ × List ℤ} {A = λ κs. None} {R = λ κs. ℕ} {S = λ κs. lists} free of_the_answer_alone with_third → ⊥
a_third_list_left_open t = absurd (omega (arith, ap (λ (seen : ℕ × List ℤ). length seen.1) (t.1 tt tt 0 0 (three [] [] []) (three [] [] (pos 0 ∷ [])) refl refl)))

pub a_second_list_left_open : Tied {L = None} {W = ℕ × (List ℤ × (List ℤ × List ℤ))} {A = λ κs. None} {R = λ κs. ℕ} {S = λ κs. lists_to_change} free of_the_answer_alone with_three → ⊥
a_second_list_left_open t = absurd (omega (arith, ap (λ (seen : ℕ × (List ℤ × (List ℤ × List ℤ))). length seen.1.1.0) (t.1 tt tt 0 0 (three_to_change [] [] []) (three_to_change [] (pos 0 ∷ []) []) refl refl)))

pub a_first_of_three_left_open : Tied {L = None} {W = ℕ × (List ℤ × (List ℤ × List ℤ))} {A = λ κs. None} {R = λ κs. ℕ} {S = λ κs. lists_to_change} free of_the_answer_alone with_three → ⊥
a_first_of_three_left_open t = absurd (omega (arith, ap (λ (seen : ℕ × (List ℤ × (List ℤ × List ℤ))). length seen.1.0) (t.1 tt tt 0 0 (three_to_change [] [] []) (three_to_change (pos 0 ∷ []) [] []) refl refl)))

pub a_third_of_three_left_open : Tied {L = None} {W = ℕ × (List ℤ × (List ℤ × List ℤ))} {A = λ κs. None} {R = λ κs. ℕ} {S = λ κs. lists_to_change} free of_the_answer_alone with_three → ⊥
a_third_of_three_left_open t = absurd (omega (arith, ap (λ (seen : ℕ × (List ℤ × (List ℤ × List ℤ))). length seen.1.1.1) (t.1 tt tt 0 0 (three_to_change [] [] []) (three_to_change [] [] (pos 0 ∷ [])) refl refl)))

abbrev of_no_answer : {S : Type 0} → None → None → ℕ → S → Type 0
of_no_answer κs a r x = None

pub two_answers_with_a_first_list : Tied {L = None} {W = ℕ × List ℤ} {A = λ κs. None} {R = λ κs. ℕ} {S = λ κs. MutBor (List ℤ) × None} free of_no_answer with_first → ⊥
two_answers_with_a_first_list t = absurd (omega (arith, ap (λ (seen : ℕ × List ℤ). seen.0) (t.1 tt tt 0 1 (to_change [], tt) (to_change [], tt) tt tt)))

pub two_answers_with_a_third_list : Tied {L = None} {W = ℕ × List ℤ} {A = λ κs. None} {R = λ κs. ℕ} {S = λ κs. lists} free of_no_answer with_third → ⊥
two_answers_with_a_third_list t = absurd (omega (arith, ap (λ (seen : ℕ × List ℤ). seen.0) (t.1 tt tt 0 1 (three [] [] []) (three [] [] []) tt tt)))

pub two_answers_with_three_lists : Tied {L = None} {W = ℕ × (List ℤ × (List ℤ × List ℤ))} {A = λ κs. None} {R = λ κs. ℕ} {S = λ κs. lists_to_change} free of_no_answer with_three → ⊥
two_answers_with_three_lists t = absurd (omega (arith, ap (λ (seen : ℕ × (List ℤ × (List ℤ × List ℤ))). seen.0) (t.1 tt tt 0 1 (three_to_change [] [] []) (three_to_change [] [] []) tt tt)))
