use Rattle.std.proofs.Common.{◌≡◌, ℕ, ◌+◌, Bool, true, false, cond, List, sym, ◌∙◌, ap, subst}
use Rattle.std.specs.Prelude.{Contains}
use Rattle.coco_model.specs.Carried.{is_read, number_on, word_address}
use Rattle.coco_model.specs.Controls.{IsInRegion}
use Rattle.coco_model.specs.Known.{ones}
use Rattle.coco_model.specs.Stepped.{row_of}
use Rattle.cycle_sim.specs.Memories.{word_place}
use Rattle.cycle_sim.proofs.PlacedLemmas.{place_of_word}
use Rattle.unroll.specs.NodeRows.{nodes_of}
use Rattle.unroll.specs.NodeWords.{word_node}
use Rattle.unroll.specs.NodeWrites.{IsWritten, bit_writes}
use Rattle.unroll.proofs.leaves.write_answer.Goals as goal

pub keep-requires : goal.keep-requires
keep-requires c = λ b h. c.requires.port.below b (subst (λ (bs : List ℕ). Contains bs b) c.as_slice-answer.ensures h)

pub write_word-requires-clause-bits : goal.write_word-requires-clause-bits
write_word-requires-clause-bits c = λ b h. c.requires.port.below b (subst (λ (bs : List ℕ). Contains bs b) c.as_slice-answer.ensures h)

pub returns-then-not-is_read : goal.returns-then-not-is_read
returns-then-not-is_read c =
    let r = row_of c.args.past.parts.now in
    let old = nodes_of c.args.past.copies.now in
    let mem = c.args.mem.now in
    let m = c.args.memory.now in
    let idle : is_read (ones r) mem ≡ false = sym c.is_read.ensures ∙ c.if-not-is_read.true in
    subst (λ (t : Bool). IsWritten (bit_writes (λ k b. cond t (word_node m (word_address (ones r) mem) k) (old b)) 0 mem.answer) c.args.row.now c.keep.new.row) (sym idle)
    (subst (λ (bs : List ℕ). IsWritten (bit_writes (λ k b. old b) 0 bs) c.args.row.now c.keep.new.row) c.as_slice-answer.ensures c.keep.ensures)

pub returns-in-Some : goal.returns-in-Some
returns-in-Some c =
    let r = row_of c.args.past.parts.now in
    let old = nodes_of c.args.past.copies.now in
    let mem = c.args.mem.now in
    let m = c.args.memory.now in
    let n = number_on (ones r) mem.address in
    let wa = word_address (ones r) mem in
    let new = c.write_word.new.row in
    let reads : is_read (ones r) mem ≡ true = sym c.is_read.ensures ∙ c.if-not-is_read.false in
    let same : c.number_on.result ≡ n = c.number_on.ensures ∙ ap (number_on (ones r)) c.as_slice.ensures in
    let region : IsInRegion n = subst IsInRegion same c.in-Some.ensures.region in
    let place : c.in-Some.place ≡ word_place wa = c.in-Some.ensures.place ∙ ap word_place same ∙ sym (place_of_word n region) in
    subst (λ (t : Bool). IsWritten (bit_writes (λ k b. cond t (word_node m wa k) (old b)) 0 mem.answer) c.args.row.now new) (sym reads)
    (subst (λ (bs : List ℕ). IsWritten (bit_writes (λ k b. word_node m wa k) 0 bs) c.args.row.now new) c.as_slice-answer.ensures
    (subst (λ (p : ℕ). IsWritten (bit_writes (λ k b. nodes_of m (p + k)) 0 c.as_slice-answer.result.now) c.args.row.now new) place c.write_word.ensures))
