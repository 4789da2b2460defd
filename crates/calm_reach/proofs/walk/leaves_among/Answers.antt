use Rattle.std.proofs.Common.{◌≡◌, ◌+◌, true, false, sym, ◌∙◌, subst, arith}
use Rattle.model_laws.proofs.Lists.{member_of_place}
use Rattle.gate_graph.proofs.Items.{place_below}
use Rattle.std.proofs.lemmas.Map.Keys.{IsStrictlyIncreasing-from_sorted}
use Rattle.std.specs.List.Sorted.{IsStrictlyIncreasing}
use Rattle.calm_reach.specs.Walks.{AreLeavesAmong}
use Rattle.calm_reach.proofs.WalkLemmas.{IsPartLeaves, leaves_more, leaves_same, leaves_all, key_added, past_end, one_ok}
use Rattle.calm_reach.proofs.walk.leaves_among.Goals as goal
use Rattle.calm_reach.proofs.walk.leaves_among.Goals.{then-is_leaf+in_ok-insert, else-is_leaf}

pub is_leaf-requires-clause-bit : goal.is_leaf-requires-clause-bit
is_leaf-requires-clause-bit c =
    c.requires.below c.in-Some.bit (member_of_place c.args.bits.now c.bits.place c.in-Some.bit (sym c.in-Some.ensures.bit))

pub overflow_add-place : goal.overflow_add-place
overflow_add-place c =
    let low = place_below c.args.bits.now c.bits.place c.in-Some.bit (sym c.in-Some.ensures.bit) in
    let small = c.in-Some.ensures.small in
    omega (arith, low, small)

pub bits-smaller : goal.bits-smaller
bits-smaller c =
    let low = place_below c.args.bits.now c.bits.place c.in-Some.bit (sym c.in-Some.ensures.bit) in omega (arith, low)

pub bits-preserved : goal.bits-preserved
bits-preserved c = elim c.if-is_leaf.branch [
  | then-is_leaf+in_ok-insert w ↦
      subst (λ s. IsPartLeaves c.args.graph.now.flat c.args.row.now c.args.bits.now (c.bits.place + 1) s.keys) (sym w.leaves-is)
      (leaves_more c.args.graph.now.flat c.args.row.now c.args.bits.now c.bits.place c.in-Some.bit c.bits.leaves.keys w.insert.new.self.keys (sym c.in-Some.ensures.bit)
      (c.is_leaf.ensures.0 w.if-is_leaf.true) (key_added c.bits.leaves w.insert.new.self c.in-Some.bit w.in_ok-insert.ensures.updates) c.bits.invariant)
  | else-is_leaf w ↦
      subst (λ s. IsPartLeaves c.args.graph.now.flat c.args.row.now c.args.bits.now (c.bits.place + 1) s.keys) (sym w.leaves-is)
      (leaves_same c.args.graph.now.flat c.args.row.now c.args.bits.now c.bits.place c.in-Some.bit c.bits.leaves.keys (sym c.in-Some.ensures.bit)
      (λ l. let f : false ≡ true = sym w.if-is_leaf.false ∙ c.is_leaf.ensures.1 l in cc) c.bits.invariant)
]

pub returns : goal.returns
returns c =
    one_ok c.listed.result (λ l. l ≡ c.bits.leaves.keys) (AreLeavesAmong c.args.graph.now.flat c.args.row.now c.args.bits.now)
    (λ l e. leaves_all c.args.graph.now.flat c.args.row.now c.args.bits.now c.bits.leaves.keys l c.bits.place
    (past_end c.args.bits.now c.bits.place (λ x e2. c.in_default.not-Some x (c.get.ensures.bit ∙ e2))) c.bits.invariant e
    (subst IsStrictlyIncreasing (sym e) (IsStrictlyIncreasing-from_sorted c.bits.leaves.keys c.len-count.ensures.ordered)))
    c.listed.ensures
