use Rattle.std.proofs.Common.{ℕ, List, get_or, subst, false}
use Rattle.coco_base.specs.declared.setup.Start.{Start}
use Rattle.coco_base.specs.declared.setup.Start.TheVariants.{Public}
use Rattle.coco_model.specs.Carried.{start_state}
use Rattle.coco_model.specs.Known.{parts}
use Rattle.cycle_sim.specs.Memories.{IsPlaced}
use Rattle.cycle_sim.proofs.memory.place_word.Goals as goal

pub returns-in-Some : goal.returns-in-Some
returns-in-Some c = λ table.
    subst (λ (p : ℕ). IsPlaced p 32 (λ k. start_state parts table 0 (get_or c.args.word.now.bits k (Public false))) c.args.memory.now c.place_parts.new.memory) c.in-Some.ensures.place
    (subst (λ (bs : List Start). IsPlaced c.in-Some.place 32 (λ k. start_state parts table 0 (get_or bs k (Public false))) c.args.memory.now c.place_parts.new.memory) c.as_slice.ensures
    (c.place_parts.ensures table))

pub returns-in-None : goal.returns-in-None
returns-in-None c = absurd (c.in-None.ensures.region c.requires.word.address.inside)
