-- The choices of gates that values of the variables tell.
use Rattle.std.specs.Prelude.{ℕ, ◌+◌, ◌*◌, Bool, cond, List, [], ◌∷◌, map}
use Rattle.circuit_clauses.specs.declared.signal.Signal.{Signal}
use Rattle.circuit_clauses.specs.Signals.{value}

-- the number of a choice, by a signal for each of its places, place 0 first
abbrev pub chosen_number : (ℕ → Bool) → List Signal → ℕ
chosen_number values [] = 0
chosen_number values (s ∷ selected) = cond (value values s) 1 0 + 2 * chosen_number values selected

-- the choice of each node
abbrev pub chosen_numbers : (ℕ → Bool) → List (List Signal) → List ℕ
chosen_numbers values selections = map (chosen_number values) selections
