use Rattle.std.proofs.Common.{◌<◌, length, get_or, sym, ◌∙◌, ap, subst}
use Rattle.coco_base.specs.declared.unrolled.Node.TheVariants.{Nothing}
use Rattle.stable_sets.specs.Chosen.{AreFollowedTo, IsSetOf, ReadsChosenBelow}
use Rattle.stable_sets.proofs.NodeSetLemmas.{node_reads, followed_more}
use Rattle.stable_sets.proofs.sets.follow.Goals as goal

pub node_set-requires : goal.node_set-requires
node_set-requires c =
    let u = c.args.unrolled.now in
    let inside = subst (λ ns. c.nodes.place < length ns) c.as_slice-nodes.ensures c.nodes-test.true in
    let reads = node_reads u c.requires.unrolled c.args.selection.now.choices c.requires.allowed c.nodes.place inside in
    subst (λ n. ReadsChosenBelow n (get_or c.as_slice-choices.result.now c.nodes.place 0) (get_or c.as_slice-nodes.result.now c.nodes.place Nothing))
    (sym (ap length c.as_slice.ensures ∙ c.nodes.invariant.as_long))
    (subst (λ ns. ReadsChosenBelow c.nodes.place (get_or c.as_slice-choices.result.now c.nodes.place 0) (get_or ns c.nodes.place Nothing)) (sym c.as_slice-nodes.ensures)
    (subst (λ cs. ReadsChosenBelow c.nodes.place (get_or cs c.nodes.place 0) (get_or u.nodes c.nodes.place Nothing)) (sym c.as_slice-choices.ensures) reads))

pub nodes-preserved : goal.nodes-preserved
nodes-preserved c =
    let u = c.args.unrolled.now in
    let numbers = c.args.selection.now.choices in
    let inside = subst (λ ns. c.nodes.place < length ns) c.as_slice-nodes.ensures c.nodes-test.true in
    let own =
    subst (λ ss. IsSetOf ss (get_or numbers c.nodes.place 0) (get_or u.nodes c.nodes.place Nothing) c.in_ok-set.set) c.as_slice.ensures
    (subst (λ ns. IsSetOf c.as_slice.result.now (get_or numbers c.nodes.place 0) (get_or ns c.nodes.place Nothing) c.in_ok-set.set) c.as_slice-nodes.ensures
    (subst (λ cs. IsSetOf c.as_slice.result.now (get_or cs c.nodes.place 0) (get_or c.as_slice-nodes.result.now c.nodes.place Nothing) c.in_ok-set.set)
    c.as_slice-choices.ensures c.in_ok-set.ensures)) in
    subst (AreFollowedTo u.nodes numbers _) (sym c.in_ok-push.ensures.ok)
    (followed_more u c.requires.unrolled numbers c.requires.allowed c.nodes.sets c.in_ok-set.set c.nodes.place inside c.nodes.invariant own)
