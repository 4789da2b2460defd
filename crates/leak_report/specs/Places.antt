-- Where a probe is: the bit, what drives it, and what runs there.
use Rattle.std.specs.Prelude.{ℕ, ◌/◌, ◌++◌, List, [], map, flat_map, get_or, Option, Some, None, codes, slice_get}
use Rattle.std.specs.Fmt.{decimal}
use Rattle.std.specs.List.{range_with_len}
use Rattle.coco_base.specs.BitNames.{name_of_bit}
use Rattle.coco_base.specs.declared.finding.Probe.{Probe}
use Rattle.coco_base.specs.declared.netlist.Flat.{Flat}
use Rattle.coco_base.specs.declared.netlist.FlatCell.{FlatCell}
use Rattle.coco_base.specs.declared.netlist.FlatFlop.{FlatFlop}
use Rattle.gate_graph.specs.Graphs.{Gates}
use Rattle.gate_graph.specs.declared.driver.Driver.{Driver}
use Rattle.gate_graph.specs.declared.driver.Driver.TheVariants.{Port, Cell, Flop, Nothing}
use Rattle.leak_report.specs.Texts.{Text, hex_text, printed}

-- the names of all bits, by number
abbrev pub names_in : Flat → List Text
names_in flat = map (name_of_bit flat) (range_with_len 0 flat.bits)

abbrev pub name_text : Flat → ℕ → Text
name_text flat bit = printed (name_of_bit flat bit)

-- the name of the cell or flop of a number
abbrev pub cell_text : Option FlatCell → Text
cell_text None = []
cell_text (Some c) = printed c.name

abbrev pub flop_text : Option FlatFlop → Text
flop_text None = []
flop_text (Some f) = printed f.name

-- what drives a bit: a cell or a flop by its name, an input port, or nothing
abbrev pub driven_text : Flat → Driver → Text
driven_text flat (Port n) = codes "input"
driven_text flat (Cell n) = cell_text (slice_get flat.cells n)
driven_text flat (Flop n) = flop_text (slice_get flat.flops n)
driven_text flat Nothing = codes "none"

abbrev pub driver_text : Gates → ℕ → Text
driver_text graph bit = driven_text graph.flat (get_or graph.drivers bit Nothing)

-- the source line of the text word at an address, whose two lowest bits do not count
abbrev pub line_text : Option ℕ → Text
line_text None = codes "-"
line_text (Some line) = decimal line

-- the address of the instruction, and its source line
abbrev pub source_text : List ℕ → Option ℕ → Text
source_text lines None = codes "pc - line -"
source_text lines (Some pc) = codes "pc " ++ hex_text pc ++ codes " line " ++ line_text (slice_get lines (pc / 4))

-- a leaf that the probes show, in a cycle
abbrev pub sees_line : Flat → Probe → Text
sees_line flat pair = codes "sees " ++ name_text flat pair.bit ++ codes " cycle " ++ decimal pair.cycle ++ codes "\n"

abbrev pub sees_lines : Flat → List Probe → Text
sees_lines flat pairs = flat_map (sees_line flat) pairs

-- a probe on a bit that this drives, with the addresses by cycle and the source lines of the text words
abbrev pub probe_line : Flat → (ℕ → Text) → List ℕ → List ℕ → Probe → Text
probe_line flat driver pcs lines probe =
    codes "probe " ++ name_text flat probe.bit ++ codes " gate " ++ driver probe.bit ++ codes " cycle " ++ decimal probe.cycle
    ++ codes " " ++ source_text lines (slice_get pcs probe.cycle) ++ codes "\n"

abbrev pub probe_lines : Flat → (ℕ → Text) → List ℕ → List ℕ → List Probe → Text
probe_lines flat driver pcs lines probes = flat_map (probe_line flat driver pcs lines) probes
