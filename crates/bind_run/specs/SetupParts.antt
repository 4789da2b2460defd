-- The setup of a run.
use Rattle.std.specs.Prelude.{ℕ, List, [], flat_map, slice_get, Option}
use Rattle.coco_base.specs.declared.labels.LabelTable.{LabelTable}
use Rattle.coco_base.specs.declared.netlist.Flat.{Flat}
use Rattle.coco_base.specs.declared.netlist.Wire.{Wire}
use Rattle.coco_base.specs.declared.setup.Setup.{Setup}
use Rattle.coco_model.specs.Netlist.{bits_in}
use Rattle.label_file.specs.declared.line.LabelLine.{LabelLine}
use Rattle.label_file.specs.declared.line.LabelLine.TheVariants as line
use Rattle.label_file.specs.declared.line.Labels.{Labels}
use Rattle.rv_asm.specs.declared.image.Image.{Image}
use Rattle.bind_run.specs.Controls.{controls_of}
use Rattle.bind_run.specs.Inputs.{fresh_count, fresh_masks, inputs_of, starts_of}
use Rattle.bind_run.specs.Memories.{line_echoes, line_leaves, line_memories}
use Rattle.bind_run.specs.Nets.{wires_of}
use Rattle.bind_run.specs.WordPlans.{words_of}

-- the wires of the program counter
abbrev pub line_pc : Flat → LabelLine → List Wire
line_pc flat (line.Pc net) = wires_of flat net
line_pc flat l = []

abbrev pub line_clock : Flat → LabelLine → List ℕ
line_clock flat (line.Clock net) = bits_in (wires_of flat net)
line_clock flat l = []

-- the bit of the clock line
abbrev pub clock_of : Flat → List LabelLine → Option ℕ
clock_of flat lines = slice_get (flat_map (line_clock flat) lines) 0

-- the labels that the file declares, and the fresh masks, which have a bit for each wire of their nets
abbrev pub table_of : Flat → Labels → LabelTable
table_of flat labels =
    record {
      secrets = labels.table.secrets;
      masks = labels.table.masks;
      fresh = fresh_masks flat 0 labels.lines;
      declared = labels.table.declared;
      per_cycle = fresh_count flat labels.lines;
    }

-- what lines, a netlist and a program say of a run
abbrev pub setup_of : Flat → Image → Labels → Setup
setup_of flat image labels =
    record {
      starts = starts_of flat (words_of image labels.lines) labels.lines;
      inputs = inputs_of flat 0 labels.lines;
      echoes = flat_map (line_echoes flat) labels.lines;
      memories = flat_map (line_memories flat) labels.lines;
      words = words_of image labels.lines;
      leaves = flat_map (line_leaves flat) labels.lines;
      controls = controls_of flat labels.lines;
      pc = flat_map (line_pc flat) labels.lines;
      lines = image.lines;
      table = table_of flat labels;
      clock = clock_of flat labels.lines;
    }
