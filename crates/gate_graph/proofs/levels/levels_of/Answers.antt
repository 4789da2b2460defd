use Rattle.std.proofs.Common.{◌≡◌, ◌<◌, length, refl, sym, ◌∙◌, ap, subst, arith}
use Rattle.std.specs.Prelude.{Some}
use Rattle.gate_graph.specs.Faults.{IsGraphFault}
use Rattle.gate_graph.specs.Marks.{driver_level, IsClosedPath, IsWalkEnd}
use Rattle.gate_graph.proofs.Items.{item_of}
use Rattle.gate_graph.proofs.LoopLemmas.{closes, level_of_mark, bit_levels}
use Rattle.gate_graph.proofs.levels.levels_of.Goals as goal

pub returns-in-Some-clause-fault : goal.returns-in-Some-clause-fault
returns-in-Some-clause-fault c =
    let closed : IsClosedPath c.args.flat.now c.starts.start c.in-Some.closed.path.items c.in-Some.closed.entry =
    subst (IsWalkEnd c.args.flat.now c.starts.start c.as_mut_slice.result.now c.walk_from.new.marks) c.in-Some.is c.in_ok-end.ensures in
    let inside : c.starts.start < length c.args.flat.now.cells = let t = c.starts-test.true in let l = c.len-count.ensures in omega arith in
    let first = item_of c.args.flat.now.cells c.starts.start inside in
    subst (IsGraphFault c.args.flat.now) (sym c.in_ok-loop_of.ensures) (
      c.requires.one_driver,
      closes c.args.flat.now c.requires.one_driver c.starts.start c.in-Some.closed.entry c.in-Some.closed.path.items first.item first.at
          (λ k cell below at. level_of_mark c.args.flat.now c.starts.marks.items c.starts.invariant.are_marks k cell at (c.starts.invariant.done k below)) closed,
    )

pub returns-clause-levels : goal.returns-clause-levels
returns-clause-levels c =
    bit_levels c.args.flat.now c.args.drivers.now c.starts.marks.items c.in_ok-bit_levels.field-0.items c.requires c.starts.invariant.are_marks
    (λ i below. c.starts.invariant.done i (let t = c.starts-test.false in let l = c.len-count.ensures in omega arith))
    (rw c.as_slice.ensures.value at c.in_ok-bit_levels.ensures)
