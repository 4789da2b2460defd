use Rattle.std.proofs.Common.{◌≡◌, ◌∙◌, length, arith, ap}
use Rattle.std.specs.List.{list_any, range_with_len}
use Rattle.std.specs.Vec.{with_items}
use Rattle.std.proofs.lemmas.List.{with_items_is}
use Rattle.probe_encode.specs.Labels.{has_label_in, has_label}
use Rattle.probe_encode.proofs.Marked.{marked_as, marked_more}
use Rattle.probe_encode.proofs.labels.marks.Goals as goal

pub cycles-preserved : goal.cycles-preserved
cycles-preserved c =
    let view = c.args.source.now.run in
    let cones = c.args.source.now.cones.now.cones in
    let same : (with_items c.cycles.marks c.mark_cycle.new.marks).items ≡ c.mark_cycle.new.marks = with_items_is c.cycles.marks c.mark_cycle.new.marks (c.mark_cycle.ensures.as_long ∙ c.as_mut_slice.ensures.len) in
    rw same (marked_more (has_label_in view cones) c.cycles.cycle c.cycles.invariant (rw c.as_mut_slice.ensures.value at c.mark_cycle.ensures))

pub returns : goal.returns
returns c =
    let view = c.args.source.now.run in
    let cones = c.args.source.now.cones.now.cones in
    let e : c.cycles.cycle ≡ length view.rows = omega (arith, c.cycles-test.false, c.requires.cycles) in
    marked_as (λ l. list_any (has_label_in view cones l) (range_with_len 0 c.cycles.cycle)) (has_label view cones)
    (λ l. ap (λ n. list_any (has_label_in view cones l) (range_with_len 0 n)) e) c.cycles.invariant
