use Rattle.std.proofs.Common.{◌≡◌, sym, ◌∙◌, ap, subst}
use Rattle.coco_model.specs.Carried.{number_on}
use Rattle.coco_model.specs.Controls.{IsInRegion}
use Rattle.coco_model.specs.Known.{ones}
use Rattle.coco_model.specs.Stepped.{row_of}
use Rattle.cycle_sim.specs.Memories.{word_place}
use Rattle.unroll.specs.NodeRows.{nodes_of}
use Rattle.unroll.proofs.WordLemmas.{stores_word, stores_outside}
use Rattle.unroll.proofs.memory.store_word.Goals as goal

pub returns-in-Some : goal.returns-in-Some
returns-in-Some c = λ word holds.
    let r = row_of c.args.past.parts.now in
    let same : c.number_on.result ≡ number_on (ones r) c.args.mem.now.address = c.number_on.ensures ∙ ap (number_on (ones r)) c.as_slice.ensures in
    stores_word r (nodes_of c.args.past.copies.now) c.args.mem.now c.args.memory.now c.place_bytes.new.memory word c.in-Some.place (sym c.is_write.ensures ∙ c.if-not-is_write.false)
    (subst IsInRegion same c.in-Some.ensures.region) (c.in-Some.ensures.place ∙ ap word_place same) holds c.place_bytes.ensures

pub returns-in-None : goal.returns-in-None
returns-in-None c = λ word holds.
    let r = row_of c.args.past.parts.now in
    let same : c.number_on.result ≡ number_on (ones r) c.args.mem.now.address = c.number_on.ensures ∙ ap (number_on (ones r)) c.as_slice.ensures in
    stores_outside r (nodes_of c.args.past.copies.now) c.args.mem.now c.args.memory.now word (sym c.is_write.ensures ∙ c.if-not-is_write.false)
    (λ region. c.in-None.ensures.region (subst IsInRegion (sym same) region)) holds
