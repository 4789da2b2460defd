use Rattle.std.proofs.Common.{◌≡◌, ℕ, get_or, subst}
use Rattle.gate_graph.specs.declared.driver.Driver.TheVariants.{Nothing}
use Rattle.gate_graph.specs.Graphs.{Gates}
use Rattle.gate_graph.specs.Settled.{valuation_of, leaf_value, IsAfterCells, IsSettledBy}
use Rattle.gate_graph.proofs.SettleLemmas.{settles}
use Rattle.gate_graph.proofs.graph.Graph.settle.Goals as goal

pub settle_cells-requires-clause-numbers : goal.settle_cells-requires-clause-numbers
settle_cells-requires-clause-numbers c = rw c.as_slice-2.ensures.value c.self.invariant.order.numbers

pub returns-clause-settled : goal.returns-clause-settled
returns-clause-settled c =
    subst (λ (g : Gates). IsSettledBy g.flat (valuation_of c.args.leaves.now) (valuation_of c.settle_cells.new.row)) c.self.view_is
    (settles c.self.inside.flat (λ b. get_or c.self.inside.ranks.items b 0) c.self.inside.drivers.items c.self.inside.order.items
    (valuation_of c.args.leaves.now) c.place_leaves.new.row c.settle_cells.new.row c.self.invariant.one_driver c.self.invariant.ranked
    c.self.invariant.cell_order c.self.invariant.drivers
    (subst (λ ds. (b : ℕ) → valuation_of c.place_leaves.new.row b ≡ leaf_value (get_or ds b Nothing) (valuation_of c.args.leaves.now b)) c.as_slice.ensures.value
    c.place_leaves.ensures)
    (subst (λ o. IsAfterCells c.self.inside.flat o c.place_leaves.new.row c.settle_cells.new.row) c.as_slice-2.ensures.value c.settle_cells.ensures))
