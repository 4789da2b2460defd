use Rattle.gate_graph.proofs.StepLemmas.{IsScanned}
use Rattle.gate_graph.proofs.step.step_at.Given as goal

abbrev pub invariant-inputs : goal.invariant-inputs
invariant-inputs l = IsScanned l.fn.flat l.fn.drivers l.fn.marks l.wires l.wire-index l.greatest
