-- no gate has the text
use Rattle.std.proofs.Common.{◌≡◌, sym}
use Rattle.std.specs.Str.{bytes_eq}
use Rattle.cell_table.specs.Names.{type_name}
use Rattle.netlist_json.specs.CellTypes.{kinds}
use Rattle.netlist_json.proofs.Types.{bytes_differ, find_none}
use Rattle.netlist_json.proofs.cell_type.gate_of.Goals as goal

pub returns-in-None : goal.returns-in-None
returns-in-None c =
    let text = c.args.text.now in
    sym (find_none (λ kind. bytes_eq text (type_name kind)) kinds (λ kind. bytes_differ text (type_name kind) (c.in-None.ensures.none kind)))
