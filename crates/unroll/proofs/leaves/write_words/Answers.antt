use Rattle.std.proofs.Common.{ℕ, ◌+◌, List, subst, arith}
use Rattle.std.specs.Prelude.{Contains}
use Rattle.coco_base.specs.declared.setup.LeafPlan.{LeafPlan}
use Rattle.unroll.specs.NodeRows.{nodes_of}
use Rattle.unroll.specs.NodeWords.{word_node}
use Rattle.unroll.specs.NodeWrites.{IsWritten, bit_writes}
use Rattle.unroll.proofs.WriteLemmas.{member_at, joined_more}
use Rattle.unroll.proofs.leaves.write_words.Goals as goal
use Rattle.unroll.proofs.leaves.write_words.Goals.{in-Some, in-None}

pub write_word-requires-clause-bits : goal.write_word-requires-clause-bits
write_word-requires-clause-bits c = λ b h.
    let low = (c.requires.leaves c.leaf-item.result (member_at c.args.leaves.now c.leaves.leaf-index c.leaf-item.result c.leaves-test.true c.leaf-item.is)).below b
    (subst (λ (bs : List ℕ). Contains bs b) c.as_slice.ensures h) in
    let long = c.leaves.auto.row in
    omega arith

pub leaves-preserved : goal.leaves-preserved
leaves-preserved c =
    let leaf = c.leaf-item.result in
    let m = c.args.memory.now in
    elim c.match-word_place.branch [
      | in-Some w ↦
          rw w.row-is (joined_more (λ (l : LeafPlan). bit_writes (λ k b. word_node m l.address k) 0 l.bits) c.args.leaves.now c.leaves.leaf-index leaf c.args.row.now c.leaves.row _
          c.leaves-test.true c.leaf-item.is c.leaves.invariant
          (subst (λ (bs : List ℕ). IsWritten (bit_writes (λ k b. word_node m leaf.address k) 0 bs) c.leaves.row w.write_word.new.row) w.as_slice.ensures
          (subst (λ (p : ℕ). IsWritten (bit_writes (λ k b. nodes_of m (p + k)) 0 w.as_slice.result.now) c.leaves.row w.write_word.new.row) w.in-Some.ensures.place w.write_word.ensures)))
      | in-None w ↦
          absurd (w.in-None.ensures.region (c.requires.leaves leaf (member_at c.args.leaves.now c.leaves.leaf-index leaf c.leaves-test.true c.leaf-item.is)).address.inside)
    ]
