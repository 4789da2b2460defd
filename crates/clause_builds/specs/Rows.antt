-- Builds over rows of signals.
use Rattle.std.specs.Prelude.{ℕ, Bool, true, false, cond, List, [], ◌∷◌, map, get_or, slice_set}
use Rattle.circuit_clauses.specs.declared.signal.Signal.{Signal}
use Rattle.circuit_clauses.specs.declared.signal.Signal.TheVariants.{Constant}
use Rattle.clause_builds.specs.Builds.{Build, done, ◌>>=◌, each, fresh, or_gate, xor_gate, tally}

-- the signal at a place; false past the end
abbrev pub signal_at : List Signal → ℕ → Signal
signal_at signals place = get_or signals place (Constant false)

-- the signal at a place becomes what it is or another is
abbrev pub or_into : List Signal → ℕ → Signal → Build (List Signal)
or_into signals place other =
    or_gate (signal_at signals place) other (Constant true) >>= (λ s. done (slice_set signals place s))

-- the signal at a place becomes its exclusive or with (p and b)
abbrev pub xor_into : List Signal → ℕ → Signal → Signal → Build (List Signal)
xor_into signals place p b = xor_gate (signal_at signals place) p b >>= (λ s. done (slice_set signals place s))

-- a variable where it is wanted, as a negative literal, and else a false signal
abbrev pub fresh_if : Bool → Build Signal
fresh_if wanted = cond wanted (fresh false) (done (Constant false))

abbrev pub fresh_row : List Bool → Build (List Signal)
fresh_row wanted = each fresh_if wanted

-- each signal as a tally of itself
abbrev pub singles : List Signal → List (List Signal)
singles signals = map (λ (s : Signal). s ∷ []) signals

-- how many signals are true, up to a limit, with the demand that it is not passed
abbrev pub count_up : ℕ → List Signal → Build (List Signal)
count_up limit signals = tally limit (singles signals)
