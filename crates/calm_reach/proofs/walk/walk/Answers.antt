use Rattle.std.proofs.Common.{sym, ◌∙◌, subst, arith}
use Rattle.model_laws.proofs.Lists.{member_of_place}
use Rattle.gate_graph.proofs.Items.{place_below}
use Rattle.calm_reach.specs.Walks.{AddsBit}
use Rattle.calm_reach.proofs.WalkLemmas.{walk_begins, walk_goes, walk_ends, few_met, past_end}
use Rattle.calm_reach.proofs.walk.walk.Goals as goal

pub bits-init : goal.bits-init
bits-init c =
    walk_begins c.args.graph.now.flat c.args.row.now c.args.bit c.add.new.self c.requires.bit
    (subst (λ m. AddsBit c.args.bit m c.add.new.self) c.new-met.ensures c.in_ok-add.ensures)

pub add_feeding-requires-clause-bit : goal.add_feeding-requires-clause-bit
add_feeding-requires-clause-bit c =
    c.bits.invariant.below c.in-Some.next (member_of_place c.bits.met c.bits.looked c.in-Some.next (sym c.in-Some.ensures.bit))

pub overflow_add-looked : goal.overflow_add-looked
overflow_add-looked c =
    let low = place_below c.bits.met c.bits.looked c.in-Some.next (sym c.in-Some.ensures.bit) in
    let small = c.in-Some.ensures.small in
    omega (arith, low, small)

pub bits-smaller : goal.bits-smaller
bits-smaller c =
    let low = place_below c.bits.met c.bits.looked c.in-Some.next (sym c.in-Some.ensures.bit) in
    let few = few_met c.bits.met c.args.graph.now.flat.bits c.in-Some.ensures.distinct c.bits.invariant.below in
    omega (arith, low, few)

pub bits-preserved : goal.bits-preserved
bits-preserved c =
    walk_goes c.args.graph.now.flat c.args.row.now c.args.bit c.in-Some.next c.bits.looked c.bits.met c.add_feeding.new.met
    c.in_ok-add_feeding.ensures.built.range (sym c.in-Some.ensures.bit) c.in_ok-add_feeding.ensures.added c.bits.invariant

pub returns-clause-walked : goal.returns-clause-walked
returns-clause-walked c =
    walk_ends c.args.graph.now.flat c.args.row.now c.args.bit c.bits.looked c.bits.met
    (past_end c.bits.met c.bits.looked (λ x e. c.in_default.not-Some x (c.get.ensures.bit ∙ e))) c.bits.invariant
