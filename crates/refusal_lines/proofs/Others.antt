-- A fault that is no want of memory becomes a refusal.
use Rattle.std.proofs.Common.{◌≡◌, refl}
use Rattle.std.specs.Prelude.{◌≢◌}
use Rattle.netlist_json.specs.declared.fault.NetFault.{NetFault}
use Rattle.netlist_json.specs.declared.fault.NetFault.TheVariants as net
use Rattle.gate_graph.specs.declared.fault.GraphFault.{GraphFault}
use Rattle.gate_graph.specs.declared.fault.GraphFault.TheVariants as graph
use Rattle.rv_asm.specs.declared.fault.AsmFault.{AsmFault}
use Rattle.rv_asm.specs.declared.fault.AsmFault.TheVariants as asm
use Rattle.label_file.specs.declared.fault.LabelFault.{LabelFault}
use Rattle.label_file.specs.declared.fault.LabelFault.TheVariants as label
use Rattle.bind_run.specs.declared.fault.BindFault.{BindFault}
use Rattle.bind_run.specs.declared.fault.BindFault.TheVariants as bind
use Rattle.unroll.specs.declared.fault.UnrollFault.{UnrollFault}
use Rattle.unroll.specs.declared.fault.UnrollFault.TheVariants as unroll
use Rattle.label_cone.specs.declared.fault.ConeFault.{ConeFault}
use Rattle.label_cone.specs.declared.fault.ConeFault.TheVariants as cone
use Rattle.refusal_lines.specs.Stops.{asm_stop, bind_stop, cone_stop, graph_stop, label_stop, net_stop, unroll_stop}
use Rattle.refusal_lines.specs.declared.refusal.Refusal.TheVariants.{Net, Graph, Asm, Label, Bind, Unroll, Cone}
use Rattle.refusal_lines.specs.declared.stop.Stop.TheVariants.{Refused}

pub net_other : (f : NetFault) → f ≢ net.Memory → net_stop f ≡ Refused (Net f)
net_other net.NotJson other = refl
net_other (net.Shape path) other = refl
net_other net.NoTop other = refl
net_other net.ManyTops other = refl
net_other (net.Inout port) other = refl
net_other (net.UnknownCell cell kind) other = refl
net_other (net.BadConnection cell port) other = refl
net_other (net.TooMany count limit) other = refl
net_other net.Memory other = absurd (other refl)

pub graph_other : (f : GraphFault) → f ≢ graph.Memory → graph_stop f ≡ Refused (Graph f)
graph_other (graph.TwoDrivers bit first second) other = refl
graph_other (graph.Loop cells) other = refl
graph_other (graph.SecondClock cell) other = refl
graph_other graph.Memory other = absurd (other refl)

pub asm_other : (f : AsmFault) → f ≢ asm.Memory → asm_stop f ≡ Refused (Asm f)
asm_other (asm.BadLine line) other = refl
asm_other (asm.UnknownName line) other = refl
asm_other (asm.Range line) other = refl
asm_other (asm.Twice line) other = refl
asm_other asm.Memory other = absurd (other refl)

pub label_other : (f : LabelFault) → f ≢ label.Memory → label_stop f ≡ Refused (Label f)
label_other (label.BadLine line) other = refl
label_other (label.Twice line) other = refl
label_other (label.UnknownSecret line) other = refl
label_other (label.ShareRange line) other = refl
label_other (label.TooMany count limit) other = refl
label_other label.Memory other = absurd (other refl)

pub bind_other : (f : BindFault) → f ≢ bind.Memory → bind_stop f ≡ Refused (Bind f)
bind_other (bind.NoSuchNet name) other = refl
bind_other (bind.Width name) other = refl
bind_other (bind.WrongDriver name) other = refl
bind_other (bind.ClockMismatch name) other = refl
bind_other (bind.BoundTwice name) other = refl
bind_other (bind.InputUnbound name) other = refl
bind_other (bind.NameTaken name) other = refl
bind_other (bind.LeafBits count limit) other = refl
bind_other bind.Memory other = absurd (other refl)

pub unroll_other : (f : UnrollFault) → f ≢ unroll.Memory → unroll_stop f ≡ Refused (Unroll f)
unroll_other (unroll.TooManyNodes count limit) other = refl
unroll_other (unroll.Sim fault name) other = refl
unroll_other unroll.Memory other = absurd (other refl)

pub cone_other : (f : ConeFault) → f ≢ cone.Memory → cone_stop f ≡ Refused (Cone f)
cone_other (cone.TooLarge count limit) other = refl
cone_other cone.Memory other = absurd (other refl)
