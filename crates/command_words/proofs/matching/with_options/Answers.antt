use Rattle.command_words.proofs.Options.{one_more}
use Rattle.command_words.proofs.matching.with_options.Goals as goal

pub options-preserved : goal.options-preserved
options-preserved c =
    one_more _ _ _ _ _ _ c.options-test.true c.in_ok-command.ensures c.option-arg.ensures.local c.option-arg.ensures.rule c.options.invariant
