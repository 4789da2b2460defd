use Rattle.std.proofs.Common.{◌≡◌, ℕ, ◌⊎◌, inl, inr, refl, subst}
use Rattle.gate_graph.specs.declared.driver.Driver.TheVariants.{Port, Cell, Flop, Nothing}
use Rattle.gate_graph.specs.Drivers.{IsDriver}
use Rattle.glitch_world.specs.Leaves.{IsLeafBit}
use Rattle.glitch_world.proofs.LeafLemmas.{port_leaf, flop_leaf, cell_no_leaf, undriven_no_leaf}
use Rattle.glitch_world.proofs.world.is_leaf.Goals as goal

pub returns-in-Port : goal.returns-in-Port
returns-in-Port c = ((λ h. go c.in-Port.is), (λ h. refl))
  where
    go : ((x : ℕ) × (c.driver.result ≡ Port x)) ⊎ ((x : ℕ) × (c.driver.result ≡ Flop x)) → IsLeafBit c.args.graph.now c.args.bit
    go (inl (x, e)) = port_leaf c.args.graph.now x c.args.bit (subst (IsDriver c.args.graph.now.flat c.args.bit) e c.driver.ensures.driver)
    go (inr (x, e)) = flop_leaf c.args.graph.now x c.args.bit (subst (IsDriver c.args.graph.now.flat c.args.bit) e c.driver.ensures.driver)

pub returns-in-Cell : goal.returns-in-Cell
returns-in-Cell c = ((λ h. absurd cc), (λ h. absurd (go c.in-Cell.is h)))
  where
    go : ((x : ℕ) × (c.driver.result ≡ Cell x)) ⊎ (c.driver.result ≡ Nothing) → IsLeafBit c.args.graph.now c.args.bit → ⊥
    go (inl (x, e)) =
        cell_no_leaf c.args.graph.now c.driver.ensures.built x c.args.bit (subst (IsDriver c.args.graph.now.flat c.args.bit) e c.driver.ensures.driver)
    go (inr e) = undriven_no_leaf c.args.graph.now c.args.bit (subst (IsDriver c.args.graph.now.flat c.args.bit) e c.driver.ensures.driver)
