-- what is judged is answered for the bytes of the files
use Rattle.std.proofs.Common.{Some, None, refl}
use Rattle.coco_base.specs.declared.status.Status.TheVariants.{Refused}
use Rattle.command_words.specs.Shown.{shown_check, shown_files}
use Rattle.refusal_lines.specs.Refusals.{refusal_line}
use Rattle.run_inputs.specs.Inputs.{files_in}
use Rattle.coco_engine.specs.Answers.{asked_by, status_of, written_text}
use Rattle.coco_engine.specs.Judged.{asked_in}
use Rattle.coco_engine.specs.Reading.{files_from}
use Rattle.coco_engine.proofs.Replies.{is_usual, judged_again, judged_answers, refusal_answers, refused_again, reply_answers}
use Rattle.coco_engine.proofs.run.files_reply.Goals as goal

pub returns-in-Ok : goal.returns-in-Ok
returns-in-Ok g c =
    let inputs = c.inputs_of-inputs.result in
    let same = c.inputs_of-inputs.ensures in
    let check = shown_check c.args.request.now in
    let files = files_from (shown_files c.args.request.now.files) c.args.files.now in
    let limits = is_usual _ _ _ _ c.usual.ensures.bits c.usual.ensures.labels c.usual.ensures.nodes c.usual.ensures.weight in
    let judged = c.in-Ok.judged in
    let right = judged_again (files_in inputs) files (asked_in inputs) (asked_by check) inputs.steps check.steps c.usual.result judged same.files same.asked same.steps limits c.in-Ok.ensures.judged in
    reply_answers (λ r. r.ran.status) (λ r. r.ran.answer) (λ r. r.text.items) c.judged_reply.result files check (status_of judged.answer) (Some judged.answer) (written_text check.proof judged)
    c.judged_reply.ensures.status c.judged_reply.ensures.answer c.judged_reply.ensures.text (judged_answers files check judged judged.answer refl c.requires.short right)

pub returns-in-Err-Refused : goal.returns-in-Err-Refused
returns-in-Err-Refused g c =
    let inputs = c.inputs_of-inputs.result in
    let same = c.inputs_of-inputs.ensures in
    let check = shown_check c.args.request.now in
    let files = files_from (shown_files c.args.request.now.files) c.args.files.now in
    let limits = is_usual _ _ _ _ c.usual.ensures.bits c.usual.ensures.labels c.usual.ensures.nodes c.usual.ensures.weight in
    let refusal = c.in-Err-Refused.refusal in
    let right = refused_again (files_in inputs) files (asked_in inputs) (asked_by check) c.usual.result refusal same.files same.asked limits (rw c.in-Err-Refused.field-0-is at c.in-Err-Refused.ensures.stop) in
    reply_answers (λ r. r.ran.status) (λ r. r.ran.answer) (λ r. r.text.items) c.refusal_reply.result files check Refused None (refusal_line refusal)
    c.refusal_reply.ensures.status c.refusal_reply.ensures.unanswered (rw c.in-Err-Refused.field-0-is at c.refusal_reply.ensures.text) (refusal_answers files check refusal c.requires.short right)
