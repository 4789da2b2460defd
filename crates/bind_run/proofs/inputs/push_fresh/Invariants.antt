use Rattle.std.proofs.Common.{◌≡◌, ◌+◌, ◌++◌, ◌∷◌, [], length}
use Rattle.coco_base.specs.declared.setup.Start.TheVariants.{Fresh}
use Rattle.bind_run.specs.Inputs.{input_plan}
use Rattle.bind_run.specs.Values.{at_bits}
use Rattle.bind_run.proofs.inputs.push_fresh.Given as goal

abbrev pub invariant-wires : goal.invariant-wires
invariant-wires l = record {
  plans : l.plans.items ++ at_bits (λ k b. input_plan b (Fresh (l.fresh + k) ∷ [])) l.place l.rest ≡ l.initial.plans.items ++ at_bits (λ k b. input_plan b (Fresh (l.fresh + k) ∷ [])) 0 l.wires;
  size : l.place + length l.rest ≡ length l.wires;
}

abbrev pub decreases-wires : goal.decreases-wires
decreases-wires l = length l.rest
