-- What echoes, memory ports and word leaves come of lines.
use Rattle.std.specs.Prelude.{ℕ, false, List, [], ◌∷◌, get_or, Some, None}
use Rattle.coco_base.specs.declared.netlist.Flat.{Flat}
use Rattle.coco_base.specs.declared.netlist.Wire.{Wire}
use Rattle.coco_base.specs.declared.netlist.Wire.TheVariants.{Const}
use Rattle.coco_base.specs.declared.setup.EchoPlan.{EchoPlan}
use Rattle.coco_base.specs.declared.setup.LeafPlan.{LeafPlan}
use Rattle.coco_base.specs.declared.setup.MemPlan.{MemPlan}
use Rattle.coco_model.specs.Netlist.{bits_in}
use Rattle.label_file.specs.declared.line.LabelLine.{LabelLine}
use Rattle.label_file.specs.declared.line.LabelLine.TheVariants as line
use Rattle.bind_run.specs.Needs.{leaf_name}
use Rattle.bind_run.specs.Nets.{wires_of}
use Rattle.bind_run.specs.Values.{at_bits}

abbrev pub wire_of : List Wire → ℕ → Wire
wire_of wires k = get_or wires k (Const false)

abbrev pub echo_plan : ℕ → Wire → EchoPlan
echo_plan bit source = record { bit = bit; source = source }

-- bit k of the first net echoes wire k of the second
abbrev pub line_echoes : Flat → LabelLine → List EchoPlan
line_echoes flat (line.Echo net source) =
    at_bits (λ k b. echo_plan b (wire_of (wires_of flat source) k)) 0 (wires_of flat net)
line_echoes flat l = []

abbrev pub line_memories : Flat → LabelLine → List MemPlan
line_memories flat (line.Imem request address answer) =
    record {
      request = wire_of (wires_of flat request) 0;
      write = None;
      enables = [];
      address = wires_of flat address;
      value = [];
      answer = bits_in (wires_of flat answer);
    } ∷ []
line_memories flat (line.Dmem request write enables address value answer) =
    record {
      request = wire_of (wires_of flat request) 0;
      write = Some (wire_of (wires_of flat write) 0);
      enables = wires_of flat enables;
      address = wires_of flat address;
      value = wires_of flat value;
      answer = bits_in (wires_of flat answer);
    } ∷ []
line_memories flat l = []

abbrev pub line_leaves : Flat → LabelLine → List LeafPlan
line_leaves flat (line.Leaf address) =
    record { address = address; bits = bits_in (wires_of flat (leaf_name address)) } ∷ []
line_leaves flat l = []
