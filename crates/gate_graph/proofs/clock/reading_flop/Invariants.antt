use Rattle.std.proofs.Common.{◌≡◌, ℕ, ◌<◌}
use Rattle.std.specs.Prelude.{slice_get, Some}
use Rattle.coco_base.specs.declared.netlist.FlatFlop.{FlatFlop}
use Rattle.gate_graph.specs.Clocks.{ReadsAsValue}
use Rattle.gate_graph.proofs.clock.reading_flop.Given as goal

abbrev pub invariant-flops : goal.invariant-flops
invariant-flops l = (k : ℕ) (f : FlatFlop) → k < l.number → slice_get l.flops k ≡ Some f → ReadsAsValue f l.bit → ⊥
