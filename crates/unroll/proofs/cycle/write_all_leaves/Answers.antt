use Rattle.coco_model.specs.Stepped.{row_of}
use Rattle.unroll.specs.NodeRows.{nodes_of}
use Rattle.unroll.proofs.WalkLemmas.{leaves_first, leaves_next}
use Rattle.unroll.proofs.cycle.write_all_leaves.Goals as goal

pub returns-then-at-eq0 : goal.returns-then-at-eq0
returns-then-at-eq0 c = λ run is holds.
    let m = c.args.at.now in
    leaves_first m.graph.now m.setup.now run m.cycle c.args.words.now c.write_first_leaves.new.now c.if-at-eq0.true holds c.write_first_leaves.ensures

pub returns : goal.returns
returns c = λ run is holds.
    let m = c.args.at.now in
    leaves_next m.graph.now m.setup.now run m.cycle (row_of m.before.now) (nodes_of c.write_copies.new.copied) c.args.words.now c.store.new.memory
    c.write_next_leaves.new.now c.if-at-eq0.false is c.write_copies.ensures holds c.write_next_leaves.ensures
    (rw c.as_slice.ensures at c.store.ensures)
