-- what is left of the text is behind what is left of the prefix
use Rattle.std.proofs.Common.{◌≡◌, length}
use Rattle.netlist_json.specs.CellTypes.{letters_after}
use Rattle.netlist_json.proofs.cell_type.letters_after.Given as goal

abbrev pub invariant-letters : goal.invariant-letters
invariant-letters l = letters_after l.prefix l.text ≡ letters_after l.initial.prefix l.initial.text

abbrev pub decreases-letters : goal.decreases-letters
decreases-letters l = length l.prefix
