-- A place past the end of a row: nothing is made there.
use Rattle.std.proofs.Common.{◌≡◌, ℕ, zero, suc, ◌≤◌, true, false, List, [], ◌∷◌, length, slice_set, refl, sym, ap, ◌∙◌, subst, arith}
use Rattle.std.proofs.lemmas.List.{get_or_past}
use Rattle.circuit_clauses.specs.declared.signal.Signal.{Signal}
use Rattle.circuit_clauses.specs.declared.signal.Signal.TheVariants.{Constant, Literal}
use Rattle.circuit_clauses.specs.Formulas.{Formula}
use Rattle.circuit_clauses.proofs.Sequences.{extended-nil}
use Rattle.clause_builds.specs.Builds.{made, after, done, or_gate}
use Rattle.clause_builds.specs.Rows.{signal_at, or_into}
use Rattle.clause_builds.proofs.Leaving.{made-bind, after-bind, made-done, after-done}

-- false or another is that other, without a step
after-or-false : (f : Formula) (other : Signal) → after f (or_gate (Constant false) other (Constant true)) ≡ f
after-or-false f (Constant false) = extended-nil f
after-or-false f (Constant true) = extended-nil f
after-or-false f (Literal lit) = extended-nil f

set_past : (signals : List Signal) (place : ℕ) (s : Signal) → length signals ≤ place → slice_set signals place s ≡ signals
set_past [] place s le = refl
set_past (x ∷ xs) zero s le = absurd (omega arith)
set_past (x ∷ xs) (suc place) s le = ap (λ (ys : List Signal). x ∷ ys) (set_past xs place s (omega arith))

pub past_result : (f : Formula) (signals : List Signal) (place : ℕ) (other : Signal) → length signals ≤ place → signals ≡ made f (or_into signals place other)
past_result f signals place other le =
    let gate = or_gate (signal_at signals place) other (Constant true) in
    let next = λ (s : Signal). done (slice_set signals place s) in
    sym (made-bind f gate next ∙ (made-done (after f gate) (slice_set signals place (made f gate)) ∙ set_past signals place (made f gate) le))

pub past_formula : (f : Formula) (signals : List Signal) (place : ℕ) (other : Signal) → length signals ≤ place → f ≡ after f (or_into signals place other)
past_formula f signals place other le =
    let gate = or_gate (signal_at signals place) other (Constant true) in
    let next = λ (s : Signal). done (slice_set signals place s) in
    let same : signal_at signals place ≡ Constant false = get_or_past signals place (Constant false) le in
    let none : after f gate ≡ f = subst (λ (s : Signal). after f (or_gate s other (Constant true)) ≡ f) (sym same) (after-or-false f other) in
    sym (after-bind f gate next ∙ (after-done (after f gate) (slice_set signals place (made f gate)) ∙ none))
