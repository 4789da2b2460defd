use Rattle.std.proofs.Common.{◌≡◌, ◌<◌, ℕ, List, length, subst, arith}
use Rattle.std.specs.Prelude.{Contains}
use Rattle.coco_base.specs.declared.setup.EchoPlan.{EchoPlan}
use Rattle.coco_base.specs.declared.setup.InputPlan.{InputPlan}
use Rattle.coco_base.specs.declared.setup.LeafPlan.{LeafPlan}
use Rattle.coco_base.specs.declared.setup.MemPlan.{MemPlan}
use Rattle.coco_model.specs.Stepped.{row_of}
use Rattle.cycle_sim.specs.Writes.{IsAnswerPort, IsLeafWord}
use Rattle.cycle_sim.proofs.BoundLemmas.{inputs_below, echoes_below, answer_ports, leaf_words}
use Rattle.unroll.specs.NodeRows.{nodes_of}
use Rattle.unroll.proofs.CycleLemmas.{clock_written, next_leaves, input_labelled}
use Rattle.unroll.proofs.WriteLemmas.{written_append}
use Rattle.unroll.proofs.cycle.write_next_leaves.Goals as goal

pub write_echoes-requires : goal.write_echoes-requires
write_echoes-requires c = λ p h.
    let m = c.args.at.now in
    let low : p.bit < m.graph.now.flat.bits = echoes_below m.graph.now.flat m.setup.now c.requires.built.range c.requires.bound p (subst (λ (ps : List EchoPlan). Contains ps p) c.as_slice.ensures h) in
    let a = c.clear.auto.row in let d = c.requires.now in
    omega arith

pub write_answers-requires-clause-ports : goal.write_answers-requires-clause-ports
write_answers-requires-clause-ports c = λ mem h.
    let m = c.args.at.now in
    let e = c.write_echoes.auto.row in let a = c.clear.auto.row in let d = c.requires.now in
    let long : m.graph.now.flat.bits ≡ length c.write_echoes.new.row = omega arith in
    subst (λ (n : ℕ). IsAnswerPort n (row_of c.args.past.parts.now) mem) long
    (answer_ports m.graph.now.flat m.setup.now (row_of c.args.past.parts.now) c.requires.built.range c.requires.bound c.requires.inside mem
    (subst (λ (ms : List MemPlan). Contains ms mem) c.as_slice-memories.ensures h))

pub write_inputs-requires-clause-bits : goal.write_inputs-requires-clause-bits
write_inputs-requires-clause-bits c = λ p h.
    let m = c.args.at.now in
    let low : p.bit < m.graph.now.flat.bits = inputs_below m.graph.now.flat m.setup.now c.requires.built.range c.requires.bound p (subst (λ (ps : List InputPlan). Contains ps p) c.as_slice-2.ensures h) in
    let f = c.write_answers.auto.row in let e = c.write_echoes.auto.row in let a = c.clear.auto.row in let d = c.requires.now in
    omega arith

pub write_inputs-requires-clause-labelled : goal.write_inputs-requires-clause-labelled
write_inputs-requires-clause-labelled c = λ p h.
    let m = c.args.at.now in
    input_labelled m.graph.now.flat m.setup.now c.requires.bound m.cycle p (subst (λ (ps : List InputPlan). Contains ps p) c.as_slice-2.ensures h)

pub write_leaves-requires-clause-leaves : goal.write_leaves-requires-clause-leaves
write_leaves-requires-clause-leaves c = λ l h.
    let m = c.args.at.now in
    let g = c.write_inputs.auto.row in let f = c.write_answers.auto.row in let e = c.write_echoes.auto.row in let a = c.clear.auto.row in let d = c.requires.now in
    let long : m.graph.now.flat.bits ≡ length c.write_inputs.new.row = omega arith in
    subst (λ (n : ℕ). IsLeafWord n l) long
    (leaf_words m.graph.now.flat m.setup.now c.requires.built.range c.requires.bound l (subst (λ (ls : List LeafPlan). Contains ls l) c.as_slice-3.ensures h))

pub returns : goal.returns
returns c = λ word holds node agrees.
    let m = c.args.at.now in
    let echoes = rw c.as_slice.ensures at c.write_echoes.ensures in
    let answers = rw c.as_slice-memories.ensures at c.write_answers.ensures in
    let inputs = rw c.as_slice-2.ensures at c.write_inputs.ensures in
    let leaves = rw (c.as_slice-3.ensures, c.as_slice-memories.ensures) at c.write_leaves.ensures in
    next_leaves m.graph.now.flat m.setup.now m.cycle (row_of c.args.past.parts.now) (nodes_of c.args.past.copies.now) c.args.words.now c.clear.new.row c.write_flops.new.row
    c.requires.bound c.requires.built.one_driver c.requires.inside c.clear.ensures
    (written_append _ _ _ c.write_leaves.new.row _ (written_append _ _ _ c.write_inputs.new.row _ (written_append _ _ _ c.write_answers.new.row _
    (written_append _ _ _ c.write_echoes.new.row _ (written_append _ _ _ c.clear.new.row _
    (clock_written m.setup.now c.clear.new.row c.clear.ensures) echoes) answers) inputs) leaves) c.write_flops.ensures)
    word holds node agrees
