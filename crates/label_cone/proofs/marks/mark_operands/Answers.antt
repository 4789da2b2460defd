use Rattle.std.proofs.Common.{◌≡◌, sym, ◌∙◌, true, false}
use Rattle.label_cone.proofs.MarkLemmas.{marked_more, marked_less}
use Rattle.label_cone.proofs.marks.mark_operands.Goals as goal
use Rattle.label_cone.proofs.marks.mark_operands.Goals.{then-reads, else-reads}

pub inputs-preserved : goal.inputs-preserved
inputs-preserved c = elim c.if-reads.branch [
  | then-reads w ↦
      let reads = c.reads.ensures.0 w.if-reads.true in
      rw w.marks-is (marked_more c.args.kind c.args.parts c.args.operands c.inputs.place c.args.marks.now c.inputs.marks reads
      (c.requires c.inputs.place reads) c.inputs.invariant)
  | else-reads w ↦
      rw w.marks-is (marked_less c.args.kind c.args.parts c.args.operands c.inputs.place c.args.marks.now c.inputs.marks
      (λ reads. let f : false ≡ true = sym w.if-reads.false ∙ c.reads.ensures.1 reads in cc) c.inputs.invariant)
]
