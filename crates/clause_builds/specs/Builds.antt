-- Building in steps: what is built, with the steps that build it, by the next variable.
use Rattle.std.specs.Prelude.{ℕ, Bool, List, [], ◌∷◌, ◌++◌}
use Rattle.circuit_clauses.specs.declared.signal.Signal.{Signal}
use Rattle.circuit_clauses.specs.declared.signal.Signal.TheVariants.{Literal}
use Rattle.circuit_clauses.specs.Steps.{Step, variables_after}
use Rattle.circuit_clauses.specs.Steps.Step.{input, demand}
use Rattle.circuit_clauses.specs.Gates.{or_and, xor_and}
use Rattle.circuit_clauses.specs.Formulas.{Formula, extended}
use Rattle.tally_clauses.specs.Tallies.{tally_of}

pub record Built (X : Type 0) : Type 0 where
  pub result : X
  pub steps : List Step

abbrev pub Build : Type 0 → Type 0
Build X = ℕ → Built X

-- what is built, and the formula after the steps
abbrev pub made : {X : Type 0} → Formula → Build X → X
made formula build = (build formula.vars).result

abbrev pub after : {X : Type 0} → Formula → Build X → Formula
after formula build = extended formula (build formula.vars).steps

-- no step
unfoldable pub done : {X : Type 0} → X → Build X
done x var = record { result = x; steps = [] }

-- one build, and then one from its result
infixl 10 ◌>>=◌
unfoldable pub ◌>>=◌ : {X Y : Type 0} → Build X → (X → Build Y) → Build Y
first >>= next = λ var.
    let a = first var in
    let b = next a.result (variables_after var a.steps) in
    record { result = b.result; steps = a.steps ++ b.steps }

-- one after the other, with all results
unfoldable pub each : {X Y : Type 0} → (X → Build Y) → List X → Build (List Y)
each build [] = done []
each build (x ∷ xs) = build x >>= (λ y. each build xs >>= (λ ys. done (y ∷ ys)))

-- one after the other, each from what the one before it left
unfoldable pub through : {X S : Type 0} → (X → S → Build S) → List X → S → Build S
through build [] state = done state
through build (x ∷ xs) state = build x state >>= through build xs

-- a variable of its own, as the literal of a sign
abbrev pub fresh : Bool → Build Signal
fresh positive var = record { result = Literal (record { var = var; positive = positive }); steps = input ∷ [] }

-- the demand that some signal is true
abbrev pub demanded : List Signal → Build (Unit {0})
demanded signals var = record { result = tt; steps = demand signals ∷ [] }

-- a or (p and b)
abbrev pub or_gate : Signal → Signal → Signal → Build Signal
or_gate a p b var = record { result = (or_and var a p b).signal; steps = (or_and var a p b).steps }

-- the exclusive or of a with (p and b)
abbrev pub xor_gate : Signal → Signal → Signal → Build Signal
xor_gate a p b var = record { result = (xor_and var a p b).signal; steps = (xor_and var a p b).steps }

-- the sum of tallies up to a limit, with the demand that it is not passed
abbrev pub tally : ℕ → List (List Signal) → Build (List Signal)
tally limit parts var = record { result = (tally_of limit var parts).tally; steps = (tally_of limit var parts).steps }
