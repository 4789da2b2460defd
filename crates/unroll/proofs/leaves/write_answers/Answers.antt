use Rattle.std.proofs.Common.{ℕ, sym, subst}
use Rattle.coco_base.specs.declared.setup.MemPlan.{MemPlan}
use Rattle.coco_model.specs.Known.{ones}
use Rattle.coco_model.specs.Stepped.{row_of}
use Rattle.cycle_sim.specs.Writes.{IsAnswerPort}
use Rattle.unroll.specs.NodeRows.{nodes_of}
use Rattle.unroll.specs.NodeWrites.{bit_writes, answer_node}
use Rattle.unroll.proofs.WriteLemmas.{member_at, joined_more}
use Rattle.unroll.proofs.leaves.write_answers.Goals as goal

pub write_answer-requires-clause-port : goal.write_answer-requires-clause-port
write_answer-requires-clause-port c =
    subst (λ (n : ℕ). IsAnswerPort n (row_of c.args.past.parts.now) c.mem-item.result) (sym c.ports.auto.row)
    (c.requires.ports c.mem-item.result (member_at c.args.memories.now c.ports.mem-index c.mem-item.result c.ports-test.true c.mem-item.is))

pub ports-preserved : goal.ports-preserved
ports-preserved c =
    joined_more (λ (m : MemPlan). bit_writes (answer_node (ones (row_of c.args.past.parts.now)) (nodes_of c.args.past.copies.now) c.args.memory.now m) 0 m.answer) c.args.memories.now c.ports.mem-index c.mem-item.result
    c.args.row.now c.ports.row _ c.ports-test.true c.mem-item.is c.ports.invariant c.write_answer.ensures
