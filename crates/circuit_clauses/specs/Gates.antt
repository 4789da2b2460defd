-- Gates over signals: where constants tell the value, a gate is a signal that is there already.
use Rattle.std.specs.Prelude.{ℕ, true, false, List, [], ◌∷◌, Option, Some, None}
use Rattle.circuit_clauses.specs.declared.signal.Signal.{Signal}
use Rattle.circuit_clauses.specs.declared.signal.Signal.TheVariants.{Constant, Literal}
use Rattle.circuit_clauses.specs.Signals.{negated}
use Rattle.circuit_clauses.specs.Steps.{Step, gate_signal}
use Rattle.circuit_clauses.specs.Steps.Step.{or_and_gate, xor_and_gate}

-- a signal with the steps that make it
pub record Made : Type 0 where
  pub signal : Signal
  pub steps : List Step

-- a or b, where a constant tells it
abbrev pub known_or : Signal → Signal → Option Signal
known_or (Constant true) b = Some (Constant true)
known_or (Constant false) b = Some b
known_or (Literal a) (Constant true) = Some (Constant true)
known_or (Literal a) (Constant false) = Some (Literal a)
known_or (Literal a) (Literal b) = None

-- a or (p and b), where a constant tells it
abbrev pub known_or_and : Signal → Signal → Signal → Option Signal
known_or_and a (Constant false) b = Some a
known_or_and a (Constant true) b = known_or a b
known_or_and a (Literal p) (Constant false) = Some a
known_or_and a (Literal p) (Constant true) = known_or a (Literal p)
known_or_and (Constant true) (Literal p) (Literal b) = Some (Constant true)
known_or_and (Constant false) (Literal p) (Literal b) = None
known_or_and (Literal a) (Literal p) (Literal b) = None

-- the exclusive or of a and b, where a constant tells it
abbrev pub known_xor : Signal → Signal → Option Signal
known_xor (Constant true) b = Some (negated b)
known_xor (Constant false) b = Some b
known_xor (Literal a) (Constant true) = Some (negated (Literal a))
known_xor (Literal a) (Constant false) = Some (Literal a)
known_xor (Literal a) (Literal b) = None

-- the exclusive or of a with (p and b), where a constant tells it
abbrev pub known_xor_and : Signal → Signal → Signal → Option Signal
known_xor_and a (Constant false) b = Some a
known_xor_and a (Constant true) b = known_xor a b
known_xor_and a (Literal p) (Constant false) = Some a
known_xor_and a (Literal p) (Constant true) = known_xor a (Literal p)
known_xor_and a (Literal p) (Literal b) = None

-- the known signal, without a step; or else that of a gate
abbrev pub made_by : Option Signal → ℕ → Step → Made
made_by (Some signal) var gate = record { signal = signal; steps = [] }
made_by None var gate = record { signal = gate_signal var; steps = gate ∷ [] }

-- a or (p and b), where var is the next variable
abbrev pub or_and : ℕ → Signal → Signal → Signal → Made
or_and var a p b = made_by (known_or_and a p b) var (or_and_gate a p b)

-- the exclusive or of a with (p and b), where var is the next variable
abbrev pub xor_and : ℕ → Signal → Signal → Signal → Made
xor_and var a p b = made_by (known_xor_and a p b) var (xor_and_gate a p b)
