use Rattle.std.proofs.Common.{◌≡◌, true, false, refl, sym, subst}
use Rattle.std.specs.Prelude.{Contains}
use Rattle.coco_base.specs.declared.netlist.FlatCell.{FlatCell}
use Rattle.coco_base.specs.declared.netlist.FlatFlop.{FlatFlop}
use Rattle.gate_graph.specs.Numbers.{IsCellBelow, IsFlopBelow}
use Rattle.gate_graph.proofs.range.are_gates_below.Goals as goal

pub returns-then-are_cells_below : goal.returns-then-are_cells_below
returns-then-are_cells_below c = (
  λ t. record {
    cells = subst (λ xs. (x : FlatCell) → Contains xs x → IsCellBelow c.args.flat.now.bits x) c.as_slice-cells.ensures (c.if-are_cells_below.ensures.0 refl);
    flops = subst (λ xs. (x : FlatFlop) → Contains xs x → IsFlopBelow c.args.flat.now.bits x) c.as_slice-flops.ensures (c.are_flops_below.ensures.0 t);
  },
  λ p. c.are_flops_below.ensures.1 (subst (λ xs. (x : FlatFlop) → Contains xs x → IsFlopBelow c.args.flat.now.bits x) (sym c.as_slice-flops.ensures) p.flops),
)

pub returns-else-are_cells_below : goal.returns-else-are_cells_below
returns-else-are_cells_below c = (
  λ t. absurd (let e : c.are_cells_below.result ≡ true = t in let f : c.are_cells_below.result ≡ false = c.if-are_cells_below.false in cc),
  λ p. c.are_cells_below.ensures.1 (subst (λ xs. (x : FlatCell) → Contains xs x → IsCellBelow c.args.flat.now.bits x) (sym c.as_slice-cells.ensures) p.cells),
)
