-- Why a call is refused, and the line that says so.
use Rattle.std.specs.Prelude.{ℕ, ◌++◌, List, [], codes, flat_map}
use Rattle.std.specs.Fmt.{decimal}
use Rattle.leak_report.specs.Texts.{Text, hex_text, printed}
use Rattle.netlist_json.specs.declared.fault.NetFault.{NetFault}
use Rattle.netlist_json.specs.declared.fault.NetFault.TheVariants as net
use Rattle.gate_graph.specs.declared.fault.GraphFault.{GraphFault}
use Rattle.gate_graph.specs.declared.fault.GraphFault.TheVariants as graph
use Rattle.rv_asm.specs.declared.fault.AsmFault.{AsmFault}
use Rattle.rv_asm.specs.declared.fault.AsmFault.TheVariants as asm
use Rattle.label_file.specs.declared.fault.LabelFault.{LabelFault}
use Rattle.label_file.specs.declared.fault.LabelFault.TheVariants as label
use Rattle.bind_run.specs.declared.fault.BindFault.{BindFault}
use Rattle.bind_run.specs.declared.fault.BindFault.TheVariants as bind
use Rattle.cycle_sim.specs.declared.fault.SimFault.{SimFault}
use Rattle.cycle_sim.specs.declared.fault.SimFault.TheVariants as sim
use Rattle.unroll.specs.declared.fault.UnrollFault.{UnrollFault}
use Rattle.unroll.specs.declared.fault.UnrollFault.TheVariants as unroll
use Rattle.label_cone.specs.declared.fault.ConeFault.{ConeFault}
use Rattle.label_cone.specs.declared.fault.ConeFault.TheVariants as cone
use Rattle.derivation_check.specs.declared.read.ProofFault.{ProofFault}
use Rattle.derivation_check.specs.declared.read.ProofFault.TheVariants as proof
use Rattle.refusal_lines.specs.declared.refusal.Refusal.{Refusal}
use Rattle.refusal_lines.specs.declared.refusal.Refusal.TheVariants.{Long, Net, Graph, Asm, Label, Bind, Unroll, Cone, Proof, Other}

-- words, and a name as it is printed
abbrev pub named : Text → Text → Text
named words name = words ++ printed name

-- words, and a number
abbrev pub numbered : Text → ℕ → Text
numbered words number = words ++ decimal number

-- a number that is above a limit
abbrev pub beyond : Text → ℕ → ℕ → Text
beyond words count limit = numbered words count ++ numbered (codes " limit ") limit

-- each text begins with the refusal's number; want of memory is no refusal and has none

-- the netlist is not read
abbrev pub net_text : NetFault → Text
net_text net.NotJson = codes "101 not JSON"
net_text net.NoTop = codes "102 no top module"
net_text net.ManyTops = codes "103 several modules"
net_text (net.Shape path) = named (codes "104 shape ") path
net_text (net.UnknownCell cell kind) = named (codes "105 cell ") cell ++ named (codes " type ") kind
net_text (net.BadConnection cell port) = named (codes "106 cell ") cell ++ named (codes " port ") port
net_text (net.Inout port) = named (codes "107 inout port ") port
net_text (net.TooMany count limit) = beyond (codes "108 bits ") count limit
net_text net.Memory = []

-- the netlist has no graph
abbrev pub graph_text : GraphFault → Text
graph_text (graph.TwoDrivers bit first second) =
    named (codes "111 bit ") bit ++ named (codes " drivers ") first ++ named (codes " ") second
graph_text (graph.Loop cells) = codes "112 loop" ++ flat_map (named (codes " ")) cells
graph_text (graph.SecondClock cell) = named (codes "113 clock of cell ") cell
graph_text graph.Memory = []

-- the program is not read
abbrev pub asm_text : AsmFault → Text
asm_text (asm.BadLine line) = numbered (codes "201 bad program line ") line
asm_text (asm.UnknownName line) = numbered (codes "202 unknown name line ") line
asm_text (asm.Range line) = numbered (codes "203 range line ") line
asm_text (asm.Twice line) = numbered (codes "204 defined twice line ") line
asm_text asm.Memory = []

-- the label file is not read
abbrev pub label_text : LabelFault → Text
label_text (label.BadLine line) = numbered (codes "301 bad label line ") line
label_text (label.Twice line) = numbered (codes "302 twice line ") line
label_text (label.UnknownSecret line) = numbered (codes "303 unknown label line ") line
label_text (label.ShareRange line) = numbered (codes "304 share range line ") line
label_text (label.TooMany count limit) = beyond (codes "305 labels ") count limit
label_text label.Memory = []

-- the label file does not fit the netlist
abbrev pub bind_text : BindFault → Text
bind_text (bind.NoSuchNet name) = named (codes "311 no net ") name
bind_text (bind.Width name) = named (codes "312 width of ") name
bind_text (bind.BoundTwice name) = named (codes "313 bound twice ") name
bind_text (bind.InputUnbound name) = named (codes "314 input unbound ") name
bind_text (bind.ClockMismatch name) = named (codes "315 clock ") name
bind_text (bind.WrongDriver name) = named (codes "316 driver of ") name
bind_text (bind.NameTaken name) = named (codes "317 name taken ") name
bind_text (bind.LeafBits count limit) = beyond (codes "318 bits ") count limit
bind_text bind.Memory = []

-- a cycle of the simulation has a fault; the name is that of the control or of the flop
abbrev pub sim_text : SimFault → Text → Text
sim_text (sim.ControlDepends control cycle) name =
    named (codes "401 control ") name ++ numbered (codes " cycle ") cycle
sim_text (sim.AddressOutside cycle address) name =
    codes "402 address " ++ hex_text address ++ numbered (codes " cycle ") cycle
sim_text (sim.ResetActive flop cycle) name =
    named (codes "403 reset of cell ") name ++ numbered (codes " cycle ") cycle

-- the run is not unrolled
abbrev pub unroll_text : UnrollFault → Text
unroll_text (unroll.Sim fault name) = sim_text fault name
unroll_text (unroll.TooManyNodes count limit) = beyond (codes "411 nodes ") count limit
unroll_text unroll.Memory = []

-- the cones are too large
abbrev pub cone_text : ConeFault → Text
cone_text (cone.TooLarge count limit) = beyond (codes "421 weight ") count limit
cone_text cone.Memory = []

-- the derivation is not read
abbrev pub proof_text : ProofFault → Text
proof_text (proof.BadLine line) = numbered (codes "501 proof line ") line
proof_text proof.Memory = []

-- a file has too many bytes, or a proof file differs
abbrev pub long_text : Text → Text
long_text name = named (codes "100 file ") name ++ codes " longer than 134217728"

abbrev pub other_text : ℕ → Text
other_text line = numbered (codes "502 proof line ") line ++ codes " differs"

abbrev pub refusal_text : Refusal → Text
refusal_text (Long name) = long_text name
refusal_text (Net fault) = net_text fault
refusal_text (Graph fault) = graph_text fault
refusal_text (Asm fault) = asm_text fault
refusal_text (Label fault) = label_text fault
refusal_text (Bind fault) = bind_text fault
refusal_text (Unroll fault) = unroll_text fault
refusal_text (Cone fault) = cone_text fault
refusal_text (Proof fault) = proof_text fault
refusal_text (Other line) = other_text line

-- the line that says why a call is refused
abbrev pub refusal_line : Refusal → Text
refusal_line refusal = codes "refused " ++ refusal_text refusal ++ codes "\n"
