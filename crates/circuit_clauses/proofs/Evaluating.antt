-- The one evaluation of steps.
use Rattle.std.proofs.Common.{◌≡◌, ◌≢◌, ℕ, ◌+◌, ◌<◌, ◌≤◌, Bool, true, false, cond, not, eqb, List, [], ◌∷◌, refl, sym, ap, ◌∙◌, inl, inr, arith}
use Rattle.std.proofs.lemmas.Bool.{cases_eq, eq-eqb, ne_eqb}
use Rattle.circuit_clauses.specs.declared.signal.Signal.{Signal}
use Rattle.circuit_clauses.specs.declared.signal.Signal.TheVariants.{Constant, Literal}
use Rattle.circuit_clauses.specs.Signals.{value}
use Rattle.circuit_clauses.specs.Steps.{Step, gate_signal, next_variable, variables_after}
use Rattle.circuit_clauses.specs.Steps.Step.{input, or_and_gate, xor_and_gate, demand}
use Rattle.circuit_clauses.specs.Meanings.{or_and_value, xor_and_value, IsDefined, AreDefined, AgreesAt, AgreeAtInputs, IsBelow, ReadsBelow, AllReadBelow, HasOneEvaluation}

-- the values with another one at one variable
abbrev pub with_bit : (ℕ → Bool) → ℕ → Bool → ℕ → Bool
with_bit values var bit v = cond (eqb v var) bit (values v)

-- the values with that of a step's gate
abbrev pub after_step : (ℕ → Bool) → ℕ → Step → ℕ → Bool
after_step values var input = values
after_step values var (or_and_gate a p b) = with_bit values var (not (or_and_value values a p b))
after_step values var (xor_and_gate a p b) = with_bit values var (not (xor_and_value values a p b))
after_step values var (demand signals) = values

-- the values with those of the gates of steps
abbrev pub evaluated : (ℕ → Bool) → ℕ → List Step → ℕ → Bool
evaluated values var [] = values
evaluated values var (step ∷ steps) = evaluated (after_step values var step) (next_variable var step) steps

pub with_bit_here : (values : ℕ → Bool) (var : ℕ) (bit : Bool) → with_bit values var bit var ≡ bit
with_bit_here values var bit = let e : eqb var var ≡ true = eq-eqb var var refl in rw e refl

pub with_bit_elsewhere : (values : ℕ → Bool) (var : ℕ) (bit : Bool) (v : ℕ) → v ≢ var → with_bit values var bit v ≡ values v
with_bit_elsewhere values var bit v ne = let e : eqb v var ≡ false = ne_eqb v var ne in rw e refl

-- a step changes no value but that of its own variable
step_elsewhere : (values : ℕ → Bool) (var : ℕ) (step : Step) (v : ℕ) → v ≢ var → after_step values var step v ≡ values v
step_elsewhere values var input v ne = refl
step_elsewhere values var (or_and_gate a p b) v ne = with_bit_elsewhere values var (not (or_and_value values a p b)) v ne
step_elsewhere values var (xor_and_gate a p b) v ne = with_bit_elsewhere values var (not (xor_and_value values a p b)) v ne
step_elsewhere values var (demand signals) v ne = refl

next_above : (var : ℕ) (step : Step) → var ≤ next_variable var step
next_above var input = omega arith
next_above var (or_and_gate a p b) = omega arith
next_above var (xor_and_gate a p b) = omega arith
next_above var (demand signals) = omega arith

next_after : (var : ℕ) (step : Step) → next_variable var step ≤ var + 1
next_after var input = omega arith
next_after var (or_and_gate a p b) = omega arith
next_after var (xor_and_gate a p b) = omega arith
next_after var (demand signals) = omega arith

-- earlier variables keep their values
pub evaluated_below : (values : ℕ → Bool) (var : ℕ) (steps : List Step) (v : ℕ) → v < var → evaluated values var steps v ≡ values v
evaluated_below values var [] v lt = refl
evaluated_below values var (step ∷ steps) v lt =
    let next = next_above var step in
    evaluated_below (after_step values var step) (next_variable var step) steps v (omega arith)
    ∙ step_elsewhere values var step v (omega arith)

-- a signal of earlier variables has the value that these give it
pub value_below : (values others : ℕ → Bool) (var : ℕ) (s : Signal) → IsBelow var s → ((v : ℕ) → v < var → values v ≡ others v) → value values s ≡ value others s
value_below values others var (Constant bit) h e = refl
value_below values others var (Literal lit) h e = ap (λ bit. cond lit.positive bit (not bit)) (e lit.var h)

or_and_below : (values others : ℕ → Bool) (var : ℕ) (a p b : Signal) → IsBelow var a × IsBelow var p × IsBelow var b → ((v : ℕ) → v < var → values v ≡ others v) → or_and_value values a p b ≡ or_and_value others a p b
or_and_below values others var a p b h e =
    let ea = value_below values others var a h.0 e in
    let ep = value_below values others var p h.1 e in
    let eb = value_below values others var b h.2 e in
    rw (ea, ep, eb) refl

xor_and_below : (values others : ℕ → Bool) (var : ℕ) (a p b : Signal) → IsBelow var a × IsBelow var p × IsBelow var b → ((v : ℕ) → v < var → values v ≡ others v) → xor_and_value values a p b ≡ xor_and_value others a p b
xor_and_below values others var a p b h e =
    let ea = value_below values others var a h.0 e in
    let ep = value_below values others var p h.1 e in
    let eb = value_below values others var b h.2 e in
    rw (ea, ep, eb) refl

not_not : (b : Bool) → not (not b) ≡ b
not_not true = refl
not_not false = refl

-- a gate's variable has the gate's value exactly where the literal's negation has it
gate_bit : (values : ℕ → Bool) (var : ℕ) (bit : Bool) → value values (gate_signal var) ≡ bit → values var ≡ not bit
gate_bit values var bit e = sym (not_not (values var)) ∙ ap not e

bit_gate : (values : ℕ → Bool) (var : ℕ) (bit : Bool) → values var ≡ not bit → value values (gate_signal var) ≡ bit
bit_gate values var bit e = ap not e ∙ not_not bit

-- what agrees with the values after a step at its variable and with those before it below is defined
define_or_and : (values all : ℕ → Bool) (var : ℕ) (a p b : Signal) → IsBelow var a × IsBelow var p × IsBelow var b → ((v : ℕ) → v < var + 1 → all v ≡ with_bit values var (not (or_and_value values a p b)) v) → value all (gate_signal var) ≡ or_and_value all a p b
define_or_and values all var a p b h e =
    let bit = not (or_and_value values a p b) in
    let here : all var ≡ bit = e var (omega arith) ∙ with_bit_here values var bit in
    let below : (v : ℕ) → v < var → all v ≡ values v = λ v lt. e v (omega arith) ∙ with_bit_elsewhere values var bit v (omega arith) in
    bit_gate all var (or_and_value all a p b) (here ∙ ap not (sym (or_and_below all values var a p b h below)))

define_xor_and : (values all : ℕ → Bool) (var : ℕ) (a p b : Signal) → IsBelow var a × IsBelow var p × IsBelow var b → ((v : ℕ) → v < var + 1 → all v ≡ with_bit values var (not (xor_and_value values a p b)) v) → value all (gate_signal var) ≡ xor_and_value all a p b
define_xor_and values all var a p b h e =
    let bit = not (xor_and_value values a p b) in
    let here : all var ≡ bit = e var (omega arith) ∙ with_bit_here values var bit in
    let below : (v : ℕ) → v < var → all v ≡ values v = λ v lt. e v (omega arith) ∙ with_bit_elsewhere values var bit v (omega arith) in
    bit_gate all var (xor_and_value all a p b) (here ∙ ap not (sym (xor_and_below all values var a p b h below)))

define_step : (values all : ℕ → Bool) (var : ℕ) (step : Step) → ReadsBelow var step → ((v : ℕ) → v < next_variable var step → all v ≡ after_step values var step v) → IsDefined all var step
define_step values all var input h e = tt
define_step values all var (or_and_gate a p b) h e = define_or_and values all var a p b h e
define_step values all var (xor_and_gate a p b) h e = define_xor_and values all var a p b h e
define_step values all var (demand signals) h e = tt

-- every gate has its value in the evaluation
pub evaluated_defined : (values : ℕ → Bool) (var : ℕ) (steps : List Step) → AllReadBelow var steps → AreDefined (evaluated values var steps) var steps
evaluated_defined values var [] h = tt
evaluated_defined values var (step ∷ steps) h =
    let next = next_variable var step in
    let after = after_step values var step in
    (define_step values (evaluated after next steps) var step h.0 (λ v lt. evaluated_below after next steps v lt), evaluated_defined after next steps h.1)

agrees_step : (inputs values all : ℕ → Bool) (var : ℕ) (step : Step) → ((v : ℕ) → var ≤ v → values v ≡ inputs v) → ((v : ℕ) → v < next_variable var step → all v ≡ after_step values var step v) → AgreesAt inputs all var step
agrees_step inputs values all var input h e = e var (omega arith) ∙ h var (omega arith)
agrees_step inputs values all var (or_and_gate a p b) h e = tt
agrees_step inputs values all var (xor_and_gate a p b) h e = tt
agrees_step inputs values all var (demand signals) h e = tt

after_above : (inputs values : ℕ → Bool) (var : ℕ) (step : Step) → ((v : ℕ) → var ≤ v → values v ≡ inputs v) → (v : ℕ) → next_variable var step ≤ v → after_step values var step v ≡ inputs v
after_above inputs values var input h v le = h v (omega arith)
after_above inputs values var (or_and_gate a p b) h v le = step_elsewhere values var (or_and_gate a p b) v (omega arith) ∙ h v (omega arith)
after_above inputs values var (xor_and_gate a p b) h v le = step_elsewhere values var (xor_and_gate a p b) v (omega arith) ∙ h v (omega arith)
after_above inputs values var (demand signals) h v le = h v (omega arith)

-- the inputs have their values in the evaluation
pub evaluated_inputs : (inputs values : ℕ → Bool) (var : ℕ) (steps : List Step) → ((v : ℕ) → var ≤ v → values v ≡ inputs v) → AgreeAtInputs inputs (evaluated values var steps) var steps
evaluated_inputs inputs values var [] h = tt
evaluated_inputs inputs values var (step ∷ steps) h =
    let next = next_variable var step in
    let after = after_step values var step in
    (agrees_step inputs values (evaluated after next steps) var step h (λ v lt. evaluated_below after next steps v lt), evaluated_inputs inputs after next steps (after_above inputs values var step h))

-- other values in which a step is defined agree with those after the step
step_only : (inputs values others : ℕ → Bool) (var : ℕ) (step : Step) → ReadsBelow var step → ((v : ℕ) → v < var → others v ≡ values v) → ((v : ℕ) → var ≤ v → values v ≡ inputs v) → AgreesAt inputs others var step → IsDefined others var step → (v : ℕ) → v < next_variable var step → others v ≡ after_step values var step v
step_only inputs values others var input r below above agrees defined v lt =
    elim (cases_eq v var) [
      | inl same ↦ rw same (agrees ∙ sym (above var (omega arith)))
      | inr ne ↦ below v (omega arith)
    ]
step_only inputs values others var (or_and_gate a p b) r below above agrees defined v lt =
    let bit = not (or_and_value values a p b) in
    elim (cases_eq v var) [
      | inl same ↦ rw same (gate_bit others var (or_and_value others a p b) defined ∙ (ap not (or_and_below others values var a p b r below) ∙ sym (with_bit_here values var bit)))
      | inr ne ↦ below v (omega arith) ∙ sym (with_bit_elsewhere values var bit v ne)
    ]
step_only inputs values others var (xor_and_gate a p b) r below above agrees defined v lt =
    let bit = not (xor_and_value values a p b) in
    elim (cases_eq v var) [
      | inl same ↦ rw same (gate_bit others var (xor_and_value others a p b) defined ∙ (ap not (xor_and_below others values var a p b r below) ∙ sym (with_bit_here values var bit)))
      | inr ne ↦ below v (omega arith) ∙ sym (with_bit_elsewhere values var bit v ne)
    ]
step_only inputs values others var (demand signals) r below above agrees defined v lt = below v lt

pub evaluated_only : (inputs values others : ℕ → Bool) (var : ℕ) (steps : List Step) → AllReadBelow var steps → ((v : ℕ) → v < var → others v ≡ values v) → ((v : ℕ) → var ≤ v → values v ≡ inputs v) → AgreeAtInputs inputs others var steps → AreDefined others var steps → (v : ℕ) → v < variables_after var steps → others v ≡ evaluated values var steps v
evaluated_only inputs values others var [] r below above agrees defined v lt = below v lt
evaluated_only inputs values others var (step ∷ steps) r below above agrees defined v lt =
    evaluated_only inputs (after_step values var step) others (next_variable var step) steps r.1 (step_only inputs values others var step r.0 below above agrees.0 defined.0) (after_above inputs values var step above) agrees.1 defined.1 v lt

pub one_evaluation : (inputs : ℕ → Bool) (var : ℕ) (steps : List Step) → AllReadBelow var steps → HasOneEvaluation inputs var steps
one_evaluation inputs var steps r =
    record {
      values = evaluated inputs var steps;
      is_evaluation = record {
        before = λ v lt. evaluated_below inputs var steps v lt;
        at_inputs = evaluated_inputs inputs inputs var steps (λ v le. refl);
        defined = evaluated_defined inputs var steps r;
      };
      only = λ others e v lt. evaluated_only inputs inputs others var steps r e.before (λ w le. refl) e.at_inputs e.defined v lt;
    }
