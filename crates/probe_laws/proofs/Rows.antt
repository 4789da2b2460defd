-- The types of counted rows and of what pairs need, by their makers: the structs themselves are inside their crate.
use Rattle.probe_clauses.specs.Rows.{counted}
use Rattle.probe_clauses.specs.Passes.{grouped_by}
use Rattle.probe_clauses.specs.Parts.{shown_by}
use Rattle.std.specs.Prelude.{[]}

abbrev TypeOf : {X : Type 0} → X → Type 0
TypeOf {X = X} x = X

abbrev pub Counted : Type 0
Counted = TypeOf (counted [] [])

abbrev pub Grouped : Type 0
Grouped = TypeOf (grouped_by [] [])

abbrev pub Shown : Type 0
Shown = TypeOf (shown_by [] [] [])
