use Rattle.std.proofs.Common.{length, refl, ◌∙◌, ap}
use Rattle.std.proofs.lemmas.List.{length-replicate}
use Rattle.coco_base.specs.declared.cell.Part.TheVariants.{Zero}
use Rattle.cycle_sim.proofs.sim.Sim.new.Goals as goal

pub invariant_of-result : goal.invariant_of-result
invariant_of-result c = record {
  built = c.bits-bits.ensures.built;
  bound = c.requires;
  known_long = ap length (c.in_ok-vec.ensures.items_if_clones_equal (λ y e. e)) ∙ length-replicate _ Zero ∙ c.bits-bits.ensures.bits;
  old_long = ap length (c.in_ok-vec-2.ensures.items_if_clones_equal (λ y e. e)) ∙ length-replicate _ Zero ∙ c.bits-bits.ensures.bits;
  stands = (refl, rw c.as_slice.ensures at (c.in_ok-start_words.ensures c.args.setup.now.table));
}

pub returns : goal.returns
returns c = record {
  gates_are = refl;
  setup_is = refl;
  no_cycle = refl;
  no_fault = refl;
  simulation = invariant_of-result c;
}
