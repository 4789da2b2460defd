use Rattle.std.proofs.Common.{◌≡◌, ◌<◌, false, length, get_or, refl, sym, ◌∙◌, subst, arith}
use Rattle.std.proofs.lemmas.List.{get_or_default}
use Rattle.model_laws.proofs.Lists.{member_of_place}
use Rattle.glitch_world.specs.declared.world.Event.{Event}
use Rattle.glitch_world.specs.States.{WorldState, IsChange}
use Rattle.glitch_world.proofs.LeafLemmas.{leaf_of_event}
use Rattle.glitch_world.proofs.world.World.change.Goals as goal

pub index-requires : goal.index-requires
index-requires c =
    let low = leaf_of_event _ c.args.self.now c.in-Leaf.bit c.args.event c.self.invariant c.self.view_is c.requires c.in-Leaf.is in
    let long = c.self.invariant.leaves_long in
    omega arith

pub returns-in-Leaf-clause-change : goal.returns-in-Leaf-clause-change
returns-in-Leaf-clause-change c =
    let low = leaf_of_event _ c.args.self.now c.in-Leaf.bit c.args.event c.self.invariant c.self.view_is c.requires c.in-Leaf.is in
    let long = c.self.invariant.leaves_long in
    subst (λ (e : Event). IsChange c.args.self.now e c.in-Leaf.bit c.index.result.now) (sym c.in-Leaf.is) (
      refl,
      subst (λ (w : WorldState). c.index.result.now ≡ get_or w.leaves c.in-Leaf.bit false) c.self.view_is
          (c.index.ensures ∙ get_or_default c.self.inside.leaves.items c.in-Leaf.bit c.index.result.now false (omega arith)),
    )

pub returns-in-Leaf-clause-inside : goal.returns-in-Leaf-clause-inside
returns-in-Leaf-clause-inside c =
    let low = leaf_of_event _ c.args.self.now c.in-Leaf.bit c.args.event c.self.invariant c.self.view_is c.requires c.in-Leaf.is in
    let long = c.self.invariant.values_long in
    subst (λ (w : WorldState). c.in-Leaf.bit < length w.values) c.self.view_is (omega arith)

pub returns-in-Cell-clause-inside : goal.returns-in-Cell-clause-inside
returns-in-Cell-clause-inside c =
    let cells = c.self.inside.graph.now.flat.cells in
    let low = c.self.invariant.built.range.outputs _ (member_of_place cells c.in-Cell.number _ c.cell-cell.ensures.cell) in
    let long = c.self.invariant.values_long in
    subst (λ (w : WorldState). c.cell-cell.result.now.output < length w.values) c.self.view_is (omega arith)
