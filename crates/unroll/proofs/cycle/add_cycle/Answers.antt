use Rattle.std.proofs.Common.{◌≡◌, ℕ, suc, List, ◌++◌, length, take, drop, sym, ◌∙◌, ap, subst, arith}
use Rattle.coco_base.specs.declared.unrolled.Node.{Node}
use Rattle.coco_base.specs.declared.unrolled.Node.TheVariants.{Nothing}
use Rattle.coco_model.specs.Netlist.{IsCellBit}
use Rattle.coco_model.specs.Run.{before}
use Rattle.unroll.specs.NodeRows.{nodes_of}
use Rattle.unroll.specs.NodeWords.{HoldsNodes}
use Rattle.unroll.specs.RootedRuns.{number_in, node_words}
use Rattle.unroll.specs.Moments.{AreOldRoots, AreRootedLeaves}
use Rattle.unroll.specs.Walks.{AreLeaves, AreNumbered, AreSettled, AreWalked}
use Rattle.unroll.specs.declared.origin.Origin.{Origin}
use Rattle.unroll.specs.declared.origin.Origin.TheVariants.{Nothing as NoOrigin}
use Rattle.unroll.proofs.StepLemmas.{rooted_leaves, walked_more}
use Rattle.unroll.proofs.WriteLemmas.{take_front}
use Rattle.unroll.proofs.cycle.add_cycle.Goals as goal

pub returns-clause-done : goal.returns-clause-done
returns-clause-done c = λ run at done.
    let g = c.args.at.now.graph.now in
    let setup = c.args.at.now.setup.now in
    let t = c.args.at.now.cycle in
    let known = c.args.at.now.known.now in
    let old = c.args.at.now.before.now in
    let walk = c.args.walk.now in
    let words : List Node = c.write_all_leaves.new.words in
    let leaves : List Node = c.write_all_leaves.new.now in
    let now : List Node = c.settle_row.new.now in
    let roots : List Origin = c.settle_row.new.roots in
    let nodes : List Node = c.place_nodes.new.nodes in
    let origins : List Origin = c.place_roots.new.origins in
    let room = c.requires.room in
    let long_words : length words ≡ walk.words.len = let a = c.write_all_leaves.auto.words in let b = c.as_mut_slice-2.ensures.len in omega arith in
    let all_words : List Node = take walk.words.len (words ++ drop (length words) walk.words.items) in
    let same_words : all_words ≡ words = take_front words _ walk.words.len long_words in
    let long_leaves : length leaves ≡ walk.now.len = let a = c.write_all_leaves.auto.now in let b = c.as_mut_slice-3.ensures.len in omega arith in
    let same_leaves : c.as_mut_slice-5.result.now ≡ leaves = c.as_mut_slice-5.ensures.value ∙ take_front leaves _ walk.now.len long_leaves in
    let copied : List Origin = c.copy_from_slice.new.self in
    let long_copied : length copied ≡ walk.earlier.len = let a = c.copy_from_slice.ensures.len in let b = c.as_mut_slice-4.ensures.len in omega arith in
    let same_old : c.as_slice-3.result.now ≡ walk.roots.items =
    c.as_slice-3.ensures.value ∙ take_front copied _ walk.earlier.len long_copied ∙ c.copy_from_slice.ensures.after ∙ c.as_slice.ensures.value in
    let same_origins : c.as_slice-2.result.now ≡ walk.origins.items = c.as_slice-2.ensures.value in
    let long_now : length now ≡ walk.now.len = let a = c.settle_row.auto.now in let b = c.as_mut_slice-5.ensures.len in omega arith in
    let long_roots : length roots ≡ walk.roots.len = let a = c.settle_row.auto.roots in let b = c.as_mut_slice-6.ensures.len in omega arith in
    let all_roots : List Origin = take walk.roots.len (roots ++ drop (length roots) walk.roots.items) in
    let same_roots : all_roots ≡ roots = take_front roots _ walk.roots.len long_roots in
    let same_now : c.as_slice-4.result.now ≡ now = c.as_slice-4.ensures.value ∙ take_front now _ walk.now.len long_now in
    let same_now_roots : c.as_slice-5.result.now ≡ roots = c.as_slice-5.ensures.value ∙ same_roots in
    let long_nodes : length nodes ≡ walk.nodes.len = let a = c.place_nodes.auto.nodes in let b = c.as_mut_slice-7.ensures.len in omega arith in
    let same_nodes : take walk.nodes.len (nodes ++ drop (length nodes) walk.nodes.items) ≡ nodes = take_front nodes _ walk.nodes.len long_nodes in
    let long_origins : length origins ≡ walk.origins.len = let a = c.place_roots.auto.origins in let b = c.as_mut_slice-8.ensures.len in omega arith in
    let all_origins : List Origin = take walk.origins.len (origins ++ drop (length origins) walk.origins.items) in
    let same_all : all_origins ≡ origins = take_front origins _ walk.origins.len long_origins in
    let full : length now ≡ g.flat.bits =
    let a = c.settle_row.auto.now in let b = ap length same_leaves in let d = c.write_all_leaves.auto.now in let e = ap length c.as_mut_slice-3.ensures.value in
    let f = room.now in omega arith in
    let leaves_are : AreLeaves g setup run t words leaves = c.write_all_leaves.ensures run at.earlier
    (subst (λ (m : List Node). HoldsNodes m (node_words setup (number_in g) run.row (before t))) (sym c.as_mut_slice-2.ensures.value) done.words_are) in
    let olds : AreOldRoots run t c.as_slice-3.result.now = subst (λ (rs : List Origin). AreOldRoots run t rs) (sym same_old) done.last in
    let rooted : AreRootedLeaves g run t c.as_slice-2.result.now c.as_mut_slice-5.result.now =
    subst (λ (os : List Origin). AreRootedLeaves g run t os c.as_mut_slice-5.result.now) (sym same_origins)
    (subst (λ (ns : List Node). AreRootedLeaves g run t walk.origins.items ns) (sym same_leaves)
    (rooted_leaves g setup c.requires.built t known old run at c.requires.before walk.nodes.items walk.origins.items walk.words.items walk.roots.items done
    words leaves now roots leaves_are)) in
    let settled : AreSettled g run t now roots = c.settle_row.ensures.settled run at olds rooted in
    let kept : (b : ℕ) → (IsCellBit g.flat b → ⊥) → nodes_of now b ≡ nodes_of leaves b =
    λ b none. c.settle_row.ensures.kept b none ∙ ap (λ (ns : List Node). nodes_of ns b) same_leaves in
    let placed : AreNumbered Nothing g t g.flat.bits now walk.nodes.items nodes =
    subst (λ (ns : List Node). AreNumbered Nothing g t g.flat.bits ns walk.nodes.items nodes) same_now
    (subst (λ (ns : List Node). AreNumbered Nothing g t g.flat.bits c.as_slice-4.result.now ns nodes) c.as_mut_slice-7.ensures.value c.place_nodes.ensures) in
    let placed_roots : AreNumbered NoOrigin g t g.flat.bits roots walk.origins.items origins =
    subst (λ (rs : List Origin). AreNumbered NoOrigin g t g.flat.bits rs walk.origins.items origins) same_now_roots
    (subst (λ (rs : List Origin). AreNumbered NoOrigin g t g.flat.bits c.as_slice-5.result.now rs origins) c.as_mut_slice-8.ensures.value c.place_roots.ensures) in
    subst (λ (ns : List Node). AreWalked g setup run (suc t) ns all_origins all_words all_roots) (sym same_nodes)
    (subst (λ (os : List Origin). AreWalked g setup run (suc t) nodes os all_words all_roots) (sym same_all)
    (subst (λ (ws : List Node). AreWalked g setup run (suc t) nodes origins ws all_roots) (sym same_words)
    (subst (λ (rs : List Origin). AreWalked g setup run (suc t) nodes origins words rs) (sym same_roots)
    (walked_more g setup c.requires.built t known old run at c.requires.before walk.nodes.items walk.origins.items walk.words.items walk.roots.items done
    words leaves now roots leaves_are nodes origins full kept settled placed placed_roots))))
