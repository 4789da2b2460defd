-- The controls: line by line, net by net, bits from 0, and then the asynchronous resets.
use Rattle.std.specs.Prelude.{ℕ, ◌+◌, nat_le, if◌then◌else◌, List, [], ◌∷◌, ◌++◌, length, flat_map, codes, Option, Some, None}
use Rattle.std.specs.Fmt.{decimal}
use Rattle.coco_base.specs.declared.netlist.Flat.{Flat}
use Rattle.coco_base.specs.declared.netlist.FlatFlop.{FlatFlop}
use Rattle.coco_base.specs.declared.netlist.Wire.{Wire}
use Rattle.coco_base.specs.declared.netlist.Wire.TheVariants.{Const, Bit}
use Rattle.coco_base.specs.declared.setup.ControlPlan.{ControlPlan}
use Rattle.coco_base.specs.declared.setup.When.{When}
use Rattle.coco_base.specs.declared.setup.When.TheVariants.{Always, Requested, Written}
use Rattle.coco_base.specs.BitNames.{name_of_bit}
use Rattle.label_file.specs.declared.line.LabelLine.{LabelLine}
use Rattle.label_file.specs.declared.line.LabelLine.TheVariants as line
use Rattle.bind_run.specs.Nets.{wires_of}

-- the word of the line, with the place where the net has several wires
abbrev pub control_name : List ℕ → ℕ → ℕ → List ℕ
control_name word width k = if nat_le width 1 then word else word ++ codes "[" ++ decimal k ++ codes "]"

abbrev pub control : List ℕ → Wire → When → ControlPlan
control name wire when = record { name = name; wire = wire; when = when }

-- the controls of wires of which the first has the place given
abbrev pub controls_from : List ℕ → ℕ → When → ℕ → List Wire → List ControlPlan
controls_from word width when k [] = []
controls_from word width when k (w ∷ ws) =
    control (control_name word width k) w when ∷ controls_from word width when (k + 1) ws

-- the wires of a net as controls
abbrev pub controls_on : Flat → When → List ℕ → List ControlPlan
controls_on flat when word = controls_from word (length (wires_of flat word)) when 0 (wires_of flat word)

-- the controls of a line, where so many memory ports stand before it: requests, `pc` and `control` nets always, writes
-- and addresses where the port is requested, byte enables where it writes
abbrev pub line_controls : Flat → ℕ → LabelLine → List ControlPlan
line_controls flat port (line.Imem request address answer) =
    controls_on flat Always request ++ controls_on flat (Requested port) address
line_controls flat port (line.Dmem request write enable address value answer) =
    controls_on flat Always request ++ controls_on flat (Requested port) write ++ controls_on flat (Written port) enable
    ++ controls_on flat (Requested port) address
line_controls flat port (line.Control net) = controls_on flat Always net
line_controls flat port (line.Pc net) = controls_on flat Always net
line_controls flat port l = []

-- how many memory ports a line makes
abbrev pub port_count : LabelLine → ℕ
port_count (line.Imem request address answer) = 1
port_count (line.Dmem request write enables address value answer) = 1
port_count l = 0

abbrev pub ports_count : List LabelLine → ℕ
ports_count [] = 0
ports_count (l ∷ ls) = port_count l + ports_count ls

abbrev pub lines_controls : Flat → ℕ → List LabelLine → List ControlPlan
lines_controls flat port [] = []
lines_controls flat port (l ∷ ls) = line_controls flat port l ++ lines_controls flat (port + port_count l) ls

-- the name of a reset: that of its bit, none for a constant
abbrev pub wire_name : Flat → Wire → List ℕ
wire_name flat (Const c) = []
wire_name flat (Bit b) = name_of_bit flat b

abbrev pub reset_control : Flat → Option Wire → List ControlPlan
reset_control flat None = []
reset_control flat (Some w) = control (wire_name flat w) w Always ∷ []

abbrev pub resets_of : Flat → List FlatFlop → List ControlPlan
resets_of flat flops = flat_map (λ (f : FlatFlop). reset_control flat f.reset) flops

abbrev pub controls_of : Flat → List LabelLine → List ControlPlan
controls_of flat lines = lines_controls flat 0 lines ++ resets_of flat flat.flops
