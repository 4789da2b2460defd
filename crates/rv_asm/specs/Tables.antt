-- Tables of names, and the look-up in them.
use Rattle.std.specs.Prelude.{ℕ, List, [], ◌∷◌, Option, Some, None, if◌then◌else◌}
use Rattle.std.specs.Str.{bytes_eq}

-- the value beside a name, where the table has it
abbrev pub look_up : {A : Type 0} → List (List ℕ × A) → List ℕ → Option A
look_up [] name = None
look_up (row ∷ rows) name = if bytes_eq row.0 name then Some row.1 else look_up rows name
