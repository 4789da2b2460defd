use Rattle.std.proofs.Common.{subst}
use Rattle.coco_base.specs.declared.netlist.Flat.{Flat}
use Rattle.gate_graph.specs.Graphs.{Gates}
use Rattle.bind_run.specs.Binding.{bound_by}
use Rattle.bind_run.specs.Causes.{Fails}
use Rattle.bind_run.specs.Outcomes.IsBindFault.{memory}
use Rattle.bind_run.proofs.BindLemmas.{fault_of_lines}
use Rattle.bind_run.proofs.binding.bind.Goals as goal

pub returns-in_default-clause-fault : goal.returns-in_default-clause-fault
returns-in_default-clause-fault c = memory

pub returns-clause-fault : goal.returns-clause-fault
returns-clause-fault c =
    fault_of_lines c.args.flat.now c.args.graph.now.clock c.args.labels.now c.in-Err.fault
    (subst (λ (x : Flat). Fails c.in-Err.fault (bound_by x c.args.graph.now.clock c.args.labels.now.lines)) c.requires.graph.flat_is
    (subst (λ (g : Gates). Fails c.in-Err.fault (bound_by g.flat g.clock c.args.labels.now.lines)) c.in-Ok.ensures
    (subst (λ ls. Fails c.in-Err.fault (bound_by c.in-Ok.circuit.flat c.in-Ok.circuit.clock ls)) c.as_slice.ensures c.in-Err.ensures)))
