-- a comma and a text for each so far
use Rattle.std.proofs.Common.{◌≡◌, ◌++◌, take, flat_map}
use Rattle.circuit_rows.specs.Json.{after_comma}
use Rattle.circuit_rows.proofs.printing.add_after_commas.Given as goal

abbrev pub invariant-texts : goal.invariant-texts
invariant-texts l = l.text.items ≡ l.initial.text.items ++ flat_map after_comma (take l.added-index l.texts)
