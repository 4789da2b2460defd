-- What steps say of the values of the variables.
use Rattle.std.specs.Prelude.{◌≡◌, ℕ, ◌<◌, ⊤, Bool, not, ◌&&◌, ◌||◌, IsTrue, List, [], ◌∷◌}
use Rattle.std.specs.Bool.{beq}
use Rattle.std.specs.List.{list_any, AllByRecursion}
use Rattle.circuit_clauses.specs.declared.signal.Signal.{Signal}
use Rattle.circuit_clauses.specs.declared.signal.Signal.TheVariants.{Constant, Literal}
use Rattle.circuit_clauses.specs.Signals.{value}
use Rattle.circuit_clauses.specs.Steps.{Step, gate_signal, next_variable, variables_after}
use Rattle.circuit_clauses.specs.Steps.Step.{input, or_and_gate, xor_and_gate, demand}

-- a or (p and b)
abbrev pub or_and_value : (ℕ → Bool) → Signal → Signal → Signal → Bool
or_and_value values a p b = value values a || (value values p && value values b)

-- the exclusive or of a with (p and b)
abbrev pub xor_and_value : (ℕ → Bool) → Signal → Signal → Signal → Bool
xor_and_value values a p b = not (beq (value values a) (value values p && value values b))

-- some signal of the list is true
abbrev pub has_true : (ℕ → Bool) → List Signal → Bool
has_true values signals = list_any (value values) signals

-- a gate's variable, var, has the gate's value; other steps define nothing
abbrev pub IsDefined : (ℕ → Bool) → ℕ → Step → Type 0
IsDefined values var input = ⊤
IsDefined values var (or_and_gate a p b) = value values (gate_signal var) ≡ or_and_value values a p b
IsDefined values var (xor_and_gate a p b) = value values (gate_signal var) ≡ xor_and_value values a p b
IsDefined values var (demand signals) = ⊤

-- a step holds: a gate's variable has the gate's value, and of a demand's signals some is true
abbrev pub Holds : (ℕ → Bool) → ℕ → Step → Type 0
Holds values var input = ⊤
Holds values var (or_and_gate a p b) = value values (gate_signal var) ≡ or_and_value values a p b
Holds values var (xor_and_gate a p b) = value values (gate_signal var) ≡ xor_and_value values a p b
Holds values var (demand signals) = IsTrue (has_true values signals)

-- every variable of a gate has the gate's value, where var is the next variable before the steps
abbrev pub AreDefined : (ℕ → Bool) → ℕ → List Step → Type 0
AreDefined values var [] = ⊤
AreDefined values var (step ∷ steps) = IsDefined values var step × AreDefined values (next_variable var step) steps

-- every step holds
abbrev pub AllHold : (ℕ → Bool) → ℕ → List Step → Type 0
AllHold values var [] = ⊤
AllHold values var (step ∷ steps) = Holds values var step × AllHold values (next_variable var step) steps

-- the variables without a clause have given values
abbrev pub AgreesAt : (ℕ → Bool) → (ℕ → Bool) → ℕ → Step → Type 0
AgreesAt inputs values var input = values var ≡ inputs var
AgreesAt inputs values var (or_and_gate a p b) = ⊤
AgreesAt inputs values var (xor_and_gate a p b) = ⊤
AgreesAt inputs values var (demand signals) = ⊤

abbrev pub AgreeAtInputs : (ℕ → Bool) → (ℕ → Bool) → ℕ → List Step → Type 0
AgreeAtInputs inputs values var [] = ⊤
AgreeAtInputs inputs values var (step ∷ steps) =
    AgreesAt inputs values var step × AgreeAtInputs inputs values (next_variable var step) steps

-- a signal's variable is one of the first
abbrev pub IsBelow : ℕ → Signal → Type 0
IsBelow count (Constant bit) = ⊤
IsBelow count (Literal lit) = lit.var < count

-- a step reads variables of earlier steps alone
abbrev pub ReadsBelow : ℕ → Step → Type 0
ReadsBelow var input = ⊤
ReadsBelow var (or_and_gate a p b) = IsBelow var a × IsBelow var p × IsBelow var b
ReadsBelow var (xor_and_gate a p b) = IsBelow var a × IsBelow var p × IsBelow var b
ReadsBelow var (demand signals) = AllByRecursion (IsBelow var) signals

abbrev pub AllReadBelow : ℕ → List Step → Type 0
AllReadBelow var [] = ⊤
AllReadBelow var (step ∷ steps) = ReadsBelow var step × AllReadBelow (next_variable var step) steps

-- values of all variables that continue those of the first and of the inputs, with each gate's value at its variable
pub record IsEvaluation (inputs : ℕ → Bool) (var : ℕ) (steps : List Step) (values : ℕ → Bool) : Type 0 where
  pub before : (v : ℕ) → v < var → values v ≡ inputs v
  pub at_inputs : AgreeAtInputs inputs values var steps
  pub defined : AreDefined values var steps

-- there is one evaluation, and no other
pub record HasOneEvaluation (inputs : ℕ → Bool) (var : ℕ) (steps : List Step) : Type 0 where
  pub values : ℕ → Bool
  pub is_evaluation : IsEvaluation inputs var steps values
  pub only : (others : ℕ → Bool) → IsEvaluation inputs var steps others
      → (v : ℕ) → v < variables_after var steps → others v ≡ values v
