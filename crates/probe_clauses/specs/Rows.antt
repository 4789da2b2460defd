-- Signals by cycle and bit, and rows that are counted.
use Rattle.std.specs.Prelude.{ℕ, Bool, true, false, List, [], ◌∷◌, map, get_or}
use Rattle.circuit_clauses.specs.declared.signal.Signal.{Signal}
use Rattle.clause_builds.specs.Builds.{Build, done, ◌>>=◌}
use Rattle.clause_builds.specs.Rows.{signal_at, fresh_row, count_up}
use Rattle.probe_clauses.specs.declared.counted.Counted.{Counted}

-- the signal of a row at a place; false where there is none
abbrev pub at : List (List Signal) → ℕ → ℕ → Signal
at rows i place = signal_at (get_or rows i []) place

-- the signals at the places that are wanted
abbrev pub picked : List Bool → List Signal → List Signal
picked [] signals = []
picked (wanted ∷ others) [] = []
picked (true ∷ others) (s ∷ signals) = s ∷ picked others signals
picked (false ∷ others) (s ∷ signals) = picked others signals

abbrev pub counted : List Signal → List Signal → Counted
counted row count = record { row = row; count = count }

-- a variable for each place where one is wanted, with how many of them are true up to a limit, which is not passed
abbrev pub counted_row : ℕ → List Bool → Build Counted
counted_row limit wanted =
    fresh_row wanted >>= (λ (row : List Signal).
    count_up limit (picked wanted row) >>= (λ (count : List Signal).
    done (counted row count)))

-- the row and the count of each
abbrev pub rows_of : List Counted → List (List Signal)
rows_of all = map (λ (c : Counted). c.row) all

abbrev pub counts_of : List Counted → List (List Signal)
counts_of all = map (λ (c : Counted). c.count) all

-- the signals of all rows at one place
abbrev pub column : List Counted → ℕ → List Signal
column all place = map (λ (c : Counted). signal_at c.row place) all

-- that at least one is true, by count
abbrev pub some_counted : List Counted → List Signal
some_counted all = map (λ (c : Counted). signal_at c.count 0) all
