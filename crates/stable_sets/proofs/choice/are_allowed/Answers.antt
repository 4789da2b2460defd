use Rattle.stable_sets.proofs.ChoiceLemmas.{allowed_more}
use Rattle.stable_sets.proofs.choice.are_allowed.Goals as goal

pub nodes-preserved : goal.nodes-preserved
nodes-preserved c =
    allowed_more c.args.nodes.now c.args.choices.now c.nodes.place (c.is_allowed.ensures.0 c.if-not-is_allowed.false) c.nodes.invariant
