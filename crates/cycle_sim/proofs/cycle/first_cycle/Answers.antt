use Rattle.std.proofs.Common.{◌≡◌, ℕ, List, ◌++◌, length, take, drop, sym, ◌∙◌, ap, subst, arith}
use Rattle.std.specs.Prelude.{Contains}
use Rattle.coco_base.specs.declared.cell.Part.{Part}
use Rattle.coco_base.specs.declared.setup.InputPlan.{InputPlan}
use Rattle.coco_base.specs.declared.setup.LeafPlan.{LeafPlan}
use Rattle.cycle_sim.specs.Simulations.{IsAt}
use Rattle.cycle_sim.specs.Writes.{IsLeafWord}
use Rattle.cycle_sim.proofs.BoundLemmas.{inputs_below, leaf_words}
use Rattle.cycle_sim.proofs.CycleLemmas.{first_written, first_cycle_at}
use Rattle.cycle_sim.proofs.WriteLemmas.{take_front, written_append}
use Rattle.cycle_sim.proofs.cycle.first_cycle.Goals as goal

pub write_inputs-requires : goal.write_inputs-requires
write_inputs-requires c = λ p h.
    let low = inputs_below c.args.graph.now.flat c.args.setup.now c.requires.built.range c.requires.bound p (subst (λ (ps : List InputPlan). Contains ps p) c.as_slice.ensures h) in
    let a = c.clear.auto.row in let b = ap length c.as_mut_slice-known.ensures.value in let d = c.requires.known in
    omega arith

pub write_leaves-requires-clause-leaves : goal.write_leaves-requires-clause-leaves
write_leaves-requires-clause-leaves c = λ l h.
    let e = c.write_inputs.auto.row in let a = c.clear.auto.row in let b = ap length c.as_mut_slice-known.ensures.value in let d = c.requires.known in
    let long : c.args.graph.now.flat.bits ≡ length c.write_inputs.new.row = omega arith in
    subst (λ (n : ℕ). IsLeafWord n l) long
    (leaf_words c.args.graph.now.flat c.args.setup.now c.requires.built.range c.requires.bound l (subst (λ (ls : List LeafPlan). Contains ls l) c.as_slice-2.ensures h))

pub returns-clause-at : goal.returns-clause-at
returns-clause-at c =
    let flat = c.args.graph.now.flat in
    let setup = c.args.setup.now in
    let memory = c.args.rows.now.memory.items in
    let new = c.settle.new.row in
    let long_new : length new ≡ c.args.rows.now.known.len =
    let s = c.settle.auto.row in let w = c.write_starts.auto.row in let l = c.write_leaves.auto.row in let e = c.write_inputs.auto.row in let a = c.clear.auto.row in
    let b = c.as_mut_slice-known.ensures.len in omega arith in
    let kept_known = take c.args.rows.now.known.len (new ++ drop (length new) c.args.rows.now.known.items) in
    let same_known : kept_known ≡ new = take_front new _ c.args.rows.now.known.len long_new in
    let long_copy : length c.copy_from_slice.new.self ≡ c.args.rows.now.before.len =
    let a = c.copy_from_slice.ensures.len in let b = c.as_mut_slice.ensures.len in omega arith in
    let same_before = take_front c.copy_from_slice.new.self _ c.args.rows.now.before.len long_copy ∙ c.copy_from_slice.ensures.after ∙ c.as_slice-5.ensures.value ∙ same_known in
    let inputs = rw c.as_slice.ensures at (c.write_inputs.ensures setup.table) in
    let leaves = rw (c.as_slice-2.ensures, c.as_slice-3.ensures.value) at c.write_leaves.ensures in
    let flops = rw c.as_slice-4.ensures at (c.write_starts.ensures setup.table) in
    subst (λ (bs : List Part). IsAt flat setup 0 kept_known bs memory) (sym same_before)
    (subst (λ (ks : List Part). IsAt flat setup 0 ks new memory) (sym same_known)
    (first_cycle_at flat setup memory new c.clear.new.row c.write_starts.new.row c.requires.bound c.requires.built.one_driver c.requires.words c.clear.ensures
    (written_append _ _ _ c.write_leaves.new.row _ (written_append _ _ _ c.write_inputs.new.row _ (written_append _ _ _ c.clear.new.row _
    (first_written flat setup memory c.clear.new.row c.clear.ensures) inputs) leaves) flops)
    c.settle.ensures.kept c.settle.ensures.forced))
