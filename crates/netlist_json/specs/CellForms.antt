-- A form of a flop's type, as the code keeps it.
use Rattle.netlist_json.specs.CellTypes.{Form}
use Rattle.netlist_json.specs.declared.cell_type.FlopForm.{FlopForm}

abbrev pub form_of : FlopForm → Form
form_of f = record { prefix = f.prefix.now; reset = f.reset; enable = f.enable }
