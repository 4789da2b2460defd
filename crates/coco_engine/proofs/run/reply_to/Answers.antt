use Rattle.command_words.specs.Shown.{shown_check}
use Rattle.coco_engine.proofs.Replies.{stop_reply_answers}
use Rattle.coco_engine.proofs.run.reply_to.Goals as goal

pub returns-in-Err-clause-answer : goal.returns-in-Err-clause-answer
returns-in-Err-clause-answer g c =
    stop_reply_answers (λ r. r.ran.status) (λ r. r.ran.answer) (λ r. r.text.items) c.stop_reply.result (g.F.Shelf.holds c.args.shelf.now) _ _ (shown_check c.args.request.now)
    c.in-Err.stop.name.now c.in-Err.stop.stop c.in-Err.ensures.stop c.stop_reply.ensures
