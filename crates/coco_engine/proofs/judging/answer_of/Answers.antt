use Rattle.run_verdict.specs.Laws.{SolvableLaw}
use Rattle.coco_engine.specs.Judged.{asked_in}
use Rattle.coco_engine.proofs.Runs.{verdict_of}
use Rattle.coco_engine.proofs.judging.answer_of.Goals as goal

pub decide-requires-clause-written : goal.decide-requires-clause-written
unfolding SolvableLaw
decide-requires-clause-written g c =
    let w = c.requires.written in
    c.solvable_law.ensures c.args.run.now.graph c.args.run.now.setup (asked_in c.args.inputs.now) w.limits c.args.encoded.now w.written

pub returns : goal.returns
returns g c =
    verdict_of c.decide.result c.args.run.now (asked_in c.args.inputs.now) c.args.inputs.now.steps c.args.encoded.now c.requires.written c.decide.ensures.verdict
