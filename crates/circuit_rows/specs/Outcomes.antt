-- What functions of the code answer, beside what a definition gives.
use Rattle.std.specs.Prelude.{◌≡◌, ℕ, List, ◌++◌, Bool, true, false, Option, Some, None, Result, Ok, Err}
use Rattle.circuit_rows.specs.declared.fault.RowFault.{RowFault}
use Rattle.circuit_rows.specs.declared.fault.RowFault.TheVariants.{Outside, Memory}

-- a value, or the number of the line that is outside; where memory was refused nothing is said
abbrev pub Answers : {A : Type 0} → Result A RowFault → Result A ℕ → Type 0
Answers (Ok x) given = given ≡ Ok x
Answers (Err (Outside line)) given = given ≡ Err line
Answers (Err Memory) given = Unit {0}

-- what is given was added at the end, where there is something
abbrev pub Adds : {A : Type 0} → Bool → Option (List A) → List A → List A → Type 0
Adds {A = A} true given old new = (more : List A) × (given ≡ Some more) × (new ≡ old ++ more)
Adds {A = A} false given old new = given ≡ None

-- what is given is there, where there is something
abbrev pub Leaves : {A : Type 0} → Bool → Option A → A → Type 0
Leaves true given new = given ≡ Some new
Leaves false given new = given ≡ None
