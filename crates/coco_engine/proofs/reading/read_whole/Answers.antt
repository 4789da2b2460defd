-- one piece more stands at the front
use Rattle.std.proofs.Common.{◌≡◌, ◌∙◌, ap, arith, length, length-append}
use Rattle.coco_engine.proofs.Pieces.{front_more}
use Rattle.coco_engine.proofs.reading.read_whole.Goals as goal

pub reading-preserved : goal.reading-preserved
reading-preserved g c =
    let told = g.F.Shelf.holds c.args.shelf.now c.args.name.now in
    let had = c.reading.bytes.items in
    let count = c.in-Ok-read.count in
    let items = c.in-Ok-extend_from_slice.ensures.items in
    let grown = ap length items ∙ length-append had c.front.result.now in
    let place : c.len-at.result ≡ length had = omega arith in
    let piece = rw (c.reading.invariant.held, place) at c.in-Ok-read.ensures.bytes.bytes in
    let within = c.in-Ok-read.ensures.count in
    record {
      room = omega (arith, grown, within);
      size = omega arith;
      front = rw (items, c.front.ensures.value) (front_more told had c.read.new.into count (omega (arith, within)) c.reading.invariant.front piece);
      later = omega (arith, c.in-Ok-read.ensures.cause.later);
      held = c.in-Ok-read.ensures.held ∙ c.reading.invariant.held;
    }
