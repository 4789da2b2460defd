use Rattle.std.proofs.Common.{◌≡◌, ℕ, List, ◌++◌, length, take, drop, sym, ◌∙◌, ap, subst, arith}
use Rattle.std.specs.Prelude.{Contains}
use Rattle.coco_base.specs.declared.cell.Part.{Part}
use Rattle.coco_base.specs.declared.setup.EchoPlan.{EchoPlan}
use Rattle.coco_base.specs.declared.setup.InputPlan.{InputPlan}
use Rattle.coco_base.specs.declared.setup.LeafPlan.{LeafPlan}
use Rattle.coco_base.specs.declared.setup.MemPlan.{MemPlan}
use Rattle.coco_model.specs.Stepped.{row_of}
use Rattle.cycle_sim.specs.Simulations.{IsAt}
use Rattle.cycle_sim.specs.Writes.{IsAnswerPort, IsLeafWord}
use Rattle.cycle_sim.proofs.BoundLemmas.{inputs_below, echoes_below, answer_ports, leaf_words}
use Rattle.cycle_sim.proofs.CycleLemmas.{clock_written, next_cycle_at}
use Rattle.cycle_sim.proofs.WriteLemmas.{take_front, written_append}
use Rattle.cycle_sim.proofs.cycle.next_cycle.Goals as goal

pub write_echoes-requires : goal.write_echoes-requires
write_echoes-requires c = λ p h.
    let low = echoes_below c.args.graph.now.flat c.args.setup.now c.requires.built.range c.requires.bound p (subst (λ (ps : List EchoPlan). Contains ps p) c.as_slice-2.ensures h) in
    let a = c.clear.auto.row in let b = ap length c.as_mut_slice-known.ensures.value in let d = c.requires.known in
    omega arith

pub write_answers-requires-clause-ports : goal.write_answers-requires-clause-ports
write_answers-requires-clause-ports c = λ m h.
    let e = c.write_echoes.auto.row in let a = c.clear.auto.row in let b = ap length c.as_mut_slice-known.ensures.value in let d = c.requires.known in
    let long : c.args.graph.now.flat.bits ≡ length c.write_echoes.new.row = omega arith in
    let long_copy : length c.copy_from_slice.new.self ≡ c.args.rows.now.before.len =
    let a = c.copy_from_slice.ensures.len in let b = c.as_mut_slice.ensures.len in omega arith in
    let same_before : c.as_slice-before.result.now ≡ c.args.rows.now.known.items =
    c.as_slice-before.ensures.value ∙ take_front c.copy_from_slice.new.self _ c.args.rows.now.before.len long_copy ∙ c.copy_from_slice.ensures.after ∙ c.as_slice.ensures.value in
    subst (λ (k : List Part). IsAnswerPort (length c.write_echoes.new.row) (row_of k) m) (sym same_before)
    (subst (λ (n : ℕ). IsAnswerPort n (row_of c.args.rows.now.known.items) m) long
    (answer_ports c.args.graph.now.flat c.args.setup.now (row_of c.args.rows.now.known.items) c.requires.built.range c.requires.bound c.requires.at.good.inside m
    (subst (λ (ms : List MemPlan). Contains ms m) c.as_slice-memories.ensures h)))

pub write_inputs-requires : goal.write_inputs-requires
write_inputs-requires c = λ p h.
    let low = inputs_below c.args.graph.now.flat c.args.setup.now c.requires.built.range c.requires.bound p (subst (λ (ps : List InputPlan). Contains ps p) c.as_slice-4.ensures h) in
    let f = c.write_answers.auto.row in let e = c.write_echoes.auto.row in let a = c.clear.auto.row in let b = ap length c.as_mut_slice-known.ensures.value in let d = c.requires.known in
    omega arith

pub write_leaves-requires-clause-leaves : goal.write_leaves-requires-clause-leaves
write_leaves-requires-clause-leaves c = λ l h.
    let g = c.write_inputs.auto.row in let f = c.write_answers.auto.row in let e = c.write_echoes.auto.row in let a = c.clear.auto.row in
    let b = ap length c.as_mut_slice-known.ensures.value in let d = c.requires.known in
    let long : c.args.graph.now.flat.bits ≡ length c.write_inputs.new.row = omega arith in
    subst (λ (n : ℕ). IsLeafWord n l) long
    (leaf_words c.args.graph.now.flat c.args.setup.now c.requires.built.range c.requires.bound l (subst (λ (ls : List LeafPlan). Contains ls l) c.as_slice-5.ensures h))

pub returns-clause-at : goal.returns-clause-at
returns-clause-at c =
    let flat = c.args.graph.now.flat in
    let setup = c.args.setup.now in
    let known = c.args.rows.now.known.items in
    let memory = c.args.rows.now.memory.items in
    let new = c.settle.new.row in
    let long_new : length new ≡ c.args.rows.now.known.len =
    let s = c.settle.auto.row in let w = c.write_flops.auto.row in let l = c.write_leaves.auto.row in let e = c.write_inputs.auto.row in
    let f = c.write_answers.auto.row in let g = c.write_echoes.auto.row in let a = c.clear.auto.row in let b = c.as_mut_slice-known.ensures.len in omega arith in
    let kept_known = take c.args.rows.now.known.len (new ++ drop (length new) c.args.rows.now.known.items) in
    let same_known : kept_known ≡ new = take_front new _ c.args.rows.now.known.len long_new in
    let long_copy : length c.copy_from_slice.new.self ≡ c.args.rows.now.before.len =
    let a = c.copy_from_slice.ensures.len in let b = c.as_mut_slice.ensures.len in omega arith in
    let copy = c.copy_from_slice.new.self in
    let kept_before = take c.args.rows.now.before.len (copy ++ drop (length copy) c.args.rows.now.before.items) in
    let front_before : kept_before ≡ known = take_front c.copy_from_slice.new.self _ c.args.rows.now.before.len long_copy ∙ c.copy_from_slice.ensures.after ∙ c.as_slice.ensures.value in
    let same_before : c.as_slice-before.result.now ≡ known = c.as_slice-before.ensures.value ∙ front_before in
    let long_store : length c.store.new.memory ≡ c.args.rows.now.memory.len =
    let a = c.store.auto.memory in let b = c.as_mut_slice-2.ensures.len in omega arith in
    let kept_memory = take c.args.rows.now.memory.len (c.store.new.memory ++ drop (length c.store.new.memory) memory) in
    let same_memory : kept_memory ≡ c.store.new.memory = take_front c.store.new.memory _ c.args.rows.now.memory.len long_store in
    let echoes = rw (same_before, c.as_slice-2.ensures) at c.write_echoes.ensures in
    let answers = rw (same_before, c.as_slice-memories.ensures, c.as_slice-3.ensures.value) at c.write_answers.ensures in
    let inputs = rw c.as_slice-4.ensures at (c.write_inputs.ensures setup.table) in
    let leaves = rw (c.as_slice-5.ensures, c.as_slice-6.ensures.value, same_memory) at c.write_leaves.ensures in
    let flops = rw same_before at c.write_flops.ensures in
    let stores = rw (same_before, c.as_slice-memories.ensures, c.as_mut_slice-2.ensures.value) at c.store.ensures in
    subst (λ (ms : List Part). IsAt flat setup c.args.cycle kept_known kept_before ms) (sym same_memory)
    (subst (λ (bs : List Part). IsAt flat setup c.args.cycle kept_known bs c.store.new.memory) (sym front_before)
    (subst (λ (ks : List Part). IsAt flat setup c.args.cycle ks known c.store.new.memory) (sym same_known)
    (next_cycle_at flat setup c.args.cycle known c.args.rows.now.before.items memory new c.store.new.memory c.clear.new.row c.write_flops.new.row
    c.requires.bound c.requires.built.one_driver c.requires.at c.clear.ensures
    (written_append _ _ _ c.write_leaves.new.row _ (written_append _ _ _ c.write_inputs.new.row _ (written_append _ _ _ c.write_answers.new.row _
    (written_append _ _ _ c.write_echoes.new.row _ (written_append _ _ _ c.clear.new.row _
    (clock_written setup c.clear.new.row c.clear.ensures) echoes) answers) inputs) leaves) flops)
    c.settle.ensures.kept c.settle.ensures.forced stores)))
