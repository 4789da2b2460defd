use Rattle.std.proofs.Common.{◌≡◌, ℕ, false, get_or, ◌∙◌, ap, subst, arith}
use Rattle.std.proofs.lemmas.List.{get_or_default}
use Rattle.coco_base.specs.declared.setup.Start.TheVariants.{Public}
use Rattle.coco_model.specs.Carried.{start_state}
use Rattle.coco_model.specs.Known.{parts}
use Rattle.cycle_sim.specs.Memories.{IsPlaced}
use Rattle.cycle_sim.proofs.PlacedLemmas.{placed_more}
use Rattle.cycle_sim.proofs.memory.place_parts.Goals as goal

pub bits-preserved : goal.bits-preserved
bits-preserved c = λ table.
    let low = c.bits-test.true in
    let room = c.requires.inside in
    let many = c.requires.bits in
    placed_more c.args.place c.bits.bit (λ k. start_state parts table 0 (get_or c.args.bits.now k (Public false))) c.args.memory.now c.bits.memory c.start_part.result
    (c.start_part.ensures table 0 ∙ ap (start_state parts table 0) (get_or_default c.args.bits.now c.bits.bit _ (Public false) (omega arith)))
    (omega arith) (c.bits.invariant table)

pub returns : goal.returns
returns c = λ table.
    let end : c.bits.bit ≡ 32 = let a = c.bits-test.false in let b = c.bits.auto.bit-end in omega arith in
    subst (λ (n : ℕ). IsPlaced c.args.place n (λ k. start_state parts table 0 (get_or c.args.bits.now k (Public false))) c.args.memory.now c.bits.memory) end (c.bits.invariant table)
