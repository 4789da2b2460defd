use Rattle.std.proofs.Common.{arith, ap, ◌≡◌}
use Rattle.std.specs.List.{list_any, range_with_len}
use Rattle.probe_encode.specs.Labels.{has_label_at, has_label_in}
use Rattle.probe_encode.proofs.Marked.{marked_as, marked_more}
use Rattle.probe_encode.proofs.labels.mark_cycle.Goals as goal

pub bits-preserved : goal.bits-preserved
bits-preserved c =
    let view = c.args.source.now.run in
    let cones = c.args.source.now.cones.now.cones in
    marked_more (λ l b. has_label_at view cones l c.args.cycle b) c.bits.bit c.bits.invariant c.mark_pair.ensures

pub returns : goal.returns
returns c =
    let view = c.args.source.now.run in
    let cones = c.args.source.now.cones.now.cones in
    let e : c.bits.bit ≡ view.gates.flat.bits = omega (arith, c.bits-test.false, c.requires.source.bits) in
    marked_as (λ l. list_any (has_label_at view cones l c.args.cycle) (range_with_len 0 c.bits.bit)) (λ l. has_label_in view cones l c.args.cycle)
    (λ l. ap (λ n. list_any (has_label_at view cones l c.args.cycle) (range_with_len 0 n)) e) c.bits.invariant
