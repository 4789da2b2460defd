use Rattle.std.proofs.Common.{◌≡◌, ◌<◌, ℕ, List, false, length, get_or, sym, subst, arith}
use Rattle.std.specs.Prelude.{Contains}
use Rattle.coco_base.specs.declared.setup.InputPlan.{InputPlan}
use Rattle.coco_base.specs.declared.setup.LeafPlan.{LeafPlan}
use Rattle.coco_base.specs.declared.setup.Start.{Start}
use Rattle.coco_base.specs.declared.setup.Start.TheVariants.{Public}
use Rattle.coco_model.specs.Carried.{IsLabelled}
use Rattle.cycle_sim.specs.Writes.{IsLeafWord}
use Rattle.cycle_sim.proofs.BoundLemmas.{inputs_below, leaf_words}
use Rattle.unroll.proofs.CycleLemmas.{first_written, first_leaves, flop_labelled, input_labelled}
use Rattle.unroll.proofs.WriteLemmas.{written_append}
use Rattle.unroll.proofs.cycle.write_first_leaves.Goals as goal

pub write_inputs-requires-clause-bits : goal.write_inputs-requires-clause-bits
write_inputs-requires-clause-bits c = λ p h.
    let m = c.args.at.now in
    let low : p.bit < m.graph.now.flat.bits = inputs_below m.graph.now.flat m.setup.now c.requires.built.range c.requires.bound p (subst (λ (ps : List InputPlan). Contains ps p) c.as_slice.ensures h) in
    let a = c.clear.auto.row in let d = c.requires.now in
    omega arith

pub write_inputs-requires-clause-labelled : goal.write_inputs-requires-clause-labelled
write_inputs-requires-clause-labelled c = λ p h.
    let m = c.args.at.now in
    input_labelled m.graph.now.flat m.setup.now c.requires.bound 0 p (subst (λ (ps : List InputPlan). Contains ps p) c.as_slice.ensures h)

pub write_words-requires-clause-leaves : goal.write_words-requires-clause-leaves
write_words-requires-clause-leaves c = λ l h.
    let m = c.args.at.now in
    let e = c.write_inputs.auto.row in let a = c.clear.auto.row in let d = c.requires.now in
    let long : m.graph.now.flat.bits ≡ length c.write_inputs.new.row = omega arith in
    subst (λ (n : ℕ). IsLeafWord n l) long
    (leaf_words m.graph.now.flat m.setup.now c.requires.built.range c.requires.bound l (subst (λ (ls : List LeafPlan). Contains ls l) c.as_slice-2.ensures h))

pub write_starts-requires-clause-labelled : goal.write_starts-requires-clause-labelled
write_starts-requires-clause-labelled c = λ f h.
    let m = c.args.at.now in
    subst (λ (ss : List Start). IsLabelled m.setup.now.table (get_or ss f.output (Public false))) (sym c.as_slice-3.ensures)
    (flop_labelled m.graph.now.flat m.setup.now c.requires.built.range c.requires.bound f h)

pub returns : goal.returns
returns c = λ holds node agrees.
    let m = c.args.at.now in
    let inputs = rw c.as_slice.ensures at c.write_inputs.ensures in
    let leaves = rw c.as_slice-2.ensures at c.write_words.ensures in
    let flops = rw c.as_slice-3.ensures at c.write_starts.ensures in
    first_leaves m.graph.now.flat m.setup.now c.args.words.now c.clear.new.row c.write_starts.new.row c.requires.bound c.requires.built.one_driver c.clear.ensures
    (written_append _ _ _ c.write_words.new.row _ (written_append _ _ _ c.write_inputs.new.row _ (written_append _ _ _ c.clear.new.row _
    (first_written m.graph.now.flat m.setup.now c.args.words.now c.clear.new.row c.clear.ensures) inputs) leaves) flops)
    holds node agrees
