use Rattle.std.proofs.Common.{sym}
use Rattle.command_words.specs.Commands.{check_command}
use Rattle.command_words.specs.Shown.{shown_check}
use Rattle.command_words.specs.Words.{texts}
use Rattle.coco_engine.proofs.Replies.{leaves_nothing}
use Rattle.coco_engine.proofs.Sizes.{in_sizes}
use Rattle.coco_engine.proofs.run.check_run.Goals as goal

pub returns-in-Err-clause-leaves : goal.returns-in-Err-clause-leaves
returns-in-Err-clause-leaves g c =
    leaves_nothing (check_command (texts c.args.words.now)) _ _ _ _ _ _ c.ran_without-in-Err.ensures.status c.ran_without-in-Err.ensures.unanswered

pub reply_to-requires-clause-sizes : goal.reply_to-requires-clause-sizes
reply_to-requires-clause-sizes g c =
    in_sizes (texts c.args.words.now) (shown_check c.in-Ok-Some.request) (sym (rw c.in-Ok-Some.field-0-is at c.in-Ok-Some.ensures))
