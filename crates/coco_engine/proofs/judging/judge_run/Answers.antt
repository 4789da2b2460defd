use Rattle.run_inputs.specs.Inputs.{files_in}
use Rattle.coco_engine.specs.Judged.{asked_in}
use Rattle.coco_engine.proofs.Runs.{in_range, written_run}
use Rattle.coco_engine.proofs.judging.judge_run.Goals as goal

pub answer_of-requires-clause-written : goal.answer_of-requires-clause-written
answer_of-requires-clause-written g c =
    written_run (files_in c.args.inputs.now) c.args.limits.now c.args.run.now (asked_in c.args.inputs.now) c.in_ok-encoded.field-0.encoded
    c.requires.limits c.requires.inputs.asked c.requires.run (rw c.asked_in.ensures at c.in_ok-encoded.ensures.written)

pub report_of-requires-clause-range : goal.report_of-requires-clause-range
report_of-requires-clause-range g c =
    in_range c.args.run.now.flat c.args.run.now.setup (asked_in c.args.inputs.now) c.args.inputs.now.steps _ c.in_ok-answer.answer c.in_ok-answer.ensures
