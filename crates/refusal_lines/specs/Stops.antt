-- A fault of a layer as a refusal; its want of memory is none.
use Rattle.netlist_json.specs.declared.fault.NetFault.{NetFault}
use Rattle.netlist_json.specs.declared.fault.NetFault.TheVariants as net
use Rattle.gate_graph.specs.declared.fault.GraphFault.{GraphFault}
use Rattle.gate_graph.specs.declared.fault.GraphFault.TheVariants as graph
use Rattle.rv_asm.specs.declared.fault.AsmFault.{AsmFault}
use Rattle.rv_asm.specs.declared.fault.AsmFault.TheVariants as asm
use Rattle.label_file.specs.declared.fault.LabelFault.{LabelFault}
use Rattle.label_file.specs.declared.fault.LabelFault.TheVariants as label
use Rattle.bind_run.specs.declared.fault.BindFault.{BindFault}
use Rattle.bind_run.specs.declared.fault.BindFault.TheVariants as bind
use Rattle.unroll.specs.declared.fault.UnrollFault.{UnrollFault}
use Rattle.unroll.specs.declared.fault.UnrollFault.TheVariants as unroll
use Rattle.label_cone.specs.declared.fault.ConeFault.{ConeFault}
use Rattle.label_cone.specs.declared.fault.ConeFault.TheVariants as cone
use Rattle.refusal_lines.specs.declared.refusal.Refusal.TheVariants.{Net, Graph, Asm, Label, Bind, Unroll, Cone}
use Rattle.refusal_lines.specs.declared.stop.Stop.{Stop}
use Rattle.refusal_lines.specs.declared.stop.Stop.TheVariants.{Refused, Memory}

abbrev pub net_stop : NetFault → Stop
net_stop net.Memory = Memory
net_stop fault = Refused (Net fault)

abbrev pub graph_stop : GraphFault → Stop
graph_stop graph.Memory = Memory
graph_stop fault = Refused (Graph fault)

abbrev pub asm_stop : AsmFault → Stop
asm_stop asm.Memory = Memory
asm_stop fault = Refused (Asm fault)

abbrev pub label_stop : LabelFault → Stop
label_stop label.Memory = Memory
label_stop fault = Refused (Label fault)

abbrev pub bind_stop : BindFault → Stop
bind_stop bind.Memory = Memory
bind_stop fault = Refused (Bind fault)

abbrev pub unroll_stop : UnrollFault → Stop
unroll_stop unroll.Memory = Memory
unroll_stop fault = Refused (Unroll fault)

abbrev pub cone_stop : ConeFault → Stop
cone_stop cone.Memory = Memory
cone_stop fault = Refused (Cone fault)
