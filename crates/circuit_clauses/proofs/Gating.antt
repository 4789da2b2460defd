-- When gates hold.
use Rattle.std.proofs.Common.{◌≡◌, ℕ, Bool, true, false, cond, not, ◌&&◌, ◌||◌, List, [], ◌∷◌, ◌↔◌, refl, sym, ◌∙◌, All}
use Rattle.std.specs.Bool.{beq}
use Rattle.std.specs.List.{list_all}
use Rattle.std.proofs.lemmas.List.Elements.{All-nil, All-append}
use Rattle.clause_store.specs.Assignments.{IsMet}
use Rattle.circuit_clauses.specs.declared.signal.Signal.{Signal}
use Rattle.circuit_clauses.specs.declared.signal.Signal.TheVariants.{Constant, Literal}
use Rattle.circuit_clauses.specs.Signals.{value, negated}
use Rattle.circuit_clauses.specs.Steps.{Step, gate_signal, or_and_disjunctions, xor_and_disjunctions, step_clauses, next_variable, clauses_of_steps}
use Rattle.circuit_clauses.specs.Steps.Step.{input, or_and_gate, xor_and_gate, demand}
use Rattle.circuit_clauses.specs.Meanings.{has_true, or_and_value, xor_and_value, Holds, AllHold}
use Rattle.circuit_clauses.proofs.Truths.{disjunctions_met, All_left, All_right}

not_cond : (sign bit : Bool) → cond (not sign) bit (not bit) ≡ not (cond sign bit (not bit))
not_cond true bit = refl
not_cond false true = refl
not_cond false false = refl

pub value-negated : (values : ℕ → Bool) (s : Signal) → value values (negated s) ≡ not (value values s)
value-negated values (Constant bit) = refl
value-negated values (Literal lit) = not_cond lit.positive (values lit.var)

same : (x y : Bool) → (beq x y ≡ true) ↔ (x ≡ y)
same true true = (λ _. refl, λ _. refl)
same false false = (λ _. refl, λ _. refl)
same true false = (λ e. absurd (cc), λ e. absurd (cc))
same false true = (λ e. absurd (cc), λ e. absurd (cc))

-- that v is a or (p and b), by its disjunctions
abbrev or_and_table : Bool → Bool → Bool → Bool → Bool
or_and_table a p b v =
    (not a || (v || false)) && ((not p || (not b || (v || false))) && ((a || (p || (not v || false))) && ((a || (b || (not v || false))) && true)))

or_and_rows : (a p b v : Bool) → or_and_table a p b v ≡ beq v (a || (p && b))
or_and_rows true true true true = refl
or_and_rows true true true false = refl
or_and_rows true true false true = refl
or_and_rows true true false false = refl
or_and_rows true false true true = refl
or_and_rows true false true false = refl
or_and_rows true false false true = refl
or_and_rows true false false false = refl
or_and_rows false true true true = refl
or_and_rows false true true false = refl
or_and_rows false true false true = refl
or_and_rows false true false false = refl
or_and_rows false false true true = refl
or_and_rows false false true false = refl
or_and_rows false false false true = refl
or_and_rows false false false false = refl

-- that v is the exclusive or of a with (p and b), by its disjunctions
abbrev xor_and_table : Bool → Bool → Bool → Bool → Bool
xor_and_table a p b v =
    (p || (not a || (v || false))) && ((p || (a || (not v || false))) && ((b || (not a || (v || false))) && ((b || (a || (not v || false)))
    && ((not p || (not b || (a || (v || false)))) && ((not p || (not b || (not a || (not v || false)))) && true)))))

xor_and_rows : (a p b v : Bool) → xor_and_table a p b v ≡ beq v (not (beq a (p && b)))
xor_and_rows true true true true = refl
xor_and_rows true true true false = refl
xor_and_rows true true false true = refl
xor_and_rows true true false false = refl
xor_and_rows true false true true = refl
xor_and_rows true false true false = refl
xor_and_rows true false false true = refl
xor_and_rows true false false false = refl
xor_and_rows false true true true = refl
xor_and_rows false true true false = refl
xor_and_rows false true false true = refl
xor_and_rows false true false false = refl
xor_and_rows false false true true = refl
xor_and_rows false false true false = refl
xor_and_rows false false false true = refl
xor_and_rows false false false false = refl

or_and_listed : (values : ℕ → Bool) (a p b v : Signal) → list_all (has_true values) (or_and_disjunctions a p b v) ≡ or_and_table (value values a) (value values p) (value values b) (value values v)
or_and_listed values a p b v =
    rw (value-negated values a, value-negated values p, value-negated values b, value-negated values v) refl

xor_and_listed : (values : ℕ → Bool) (a p b v : Signal) → list_all (has_true values) (xor_and_disjunctions a p b v) ≡ xor_and_table (value values a) (value values p) (value values b) (value values v)
xor_and_listed values a p b v =
    rw (value-negated values a, value-negated values p, value-negated values b, value-negated values v) refl

and_true : (x : Bool) → (x && true) ≡ x
and_true true = refl
and_true false = refl

chained : {P : Type 0} (x y : Bool) → x ≡ y → P ↔ (x ≡ true) → P ↔ (y ≡ true)
chained x y e h = (λ p. sym e ∙ h.0 p, λ t. h.1 (e ∙ t))

joined_ways : {P : Type 0} (x y v w : Bool) → x ≡ beq v w → P ↔ (x ≡ true) → P ↔ (v ≡ w)
joined_ways x y v w e h =
    (λ p. (same v w).0 (sym e ∙ h.0 p), λ s. h.1 (e ∙ (same v w).1 s))

-- values meet the clauses of a step exactly where it holds
pub step_met : (values : ℕ → Bool) (var : ℕ) (step : Step) → All (IsMet values) (step_clauses var step) ↔ Holds values var step
step_met values var input = (λ _. tt, λ _. All-nil (IsMet values))
step_met values var (or_and_gate a p b) =
    let v = gate_signal var in
    let x = list_all (has_true values) (or_and_disjunctions a p b v) in
    joined_ways x x (value values v) (or_and_value values a p b) (or_and_listed values a p b v ∙ or_and_rows (value values a) (value values p) (value values b) (value values v)) (disjunctions_met values (or_and_disjunctions a p b v))
step_met values var (xor_and_gate a p b) =
    let v = gate_signal var in
    let x = list_all (has_true values) (xor_and_disjunctions a p b v) in
    joined_ways x x (value values v) (xor_and_value values a p b) (xor_and_listed values a p b v ∙ xor_and_rows (value values a) (value values p) (value values b) (value values v)) (disjunctions_met values (xor_and_disjunctions a p b v))
step_met values var (demand signals) =
    chained (list_all (has_true values) (signals ∷ [])) (has_true values signals) (and_true (has_true values signals)) (disjunctions_met values (signals ∷ []))

-- values meet the clauses of steps exactly where every step holds
pub steps_met : (values : ℕ → Bool) (var : ℕ) (steps : List Step) → All (IsMet values) (clauses_of_steps var steps) ↔ AllHold values var steps
steps_met values var [] = (λ _. tt, λ _. All-nil (IsMet values))
steps_met values var (step ∷ steps) =
    let one = step_met values var step in
    let next = next_variable var step in
    let rest = steps_met values next steps in (
      λ met. (one.0 (All_left (IsMet values) (step_clauses var step) (clauses_of_steps next steps) met), rest.0 (All_right (IsMet values) (step_clauses var step) (clauses_of_steps next steps) met)),
      λ h. All-append (IsMet values) (step_clauses var step) (clauses_of_steps next steps) (one.1 h.0) (rest.1 h.1),
    )
