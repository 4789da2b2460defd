-- no form so far has the text
use Rattle.std.proofs.Common.{◌≡◌, drop, map}
use Rattle.netlist_json.specs.CellForms.{form_of}
use Rattle.netlist_json.specs.CellTypes.{first_flop, flop_forms}
use Rattle.netlist_json.proofs.cell_type.flop_type.Given as goal

abbrev pub invariant-forms : goal.invariant-forms
invariant-forms l = first_flop (map form_of (drop l.form-index l.form-items)) l.text ≡ first_flop flop_forms l.text
