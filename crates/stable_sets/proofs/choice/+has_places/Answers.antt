use Rattle.stable_sets.proofs.ChoiceLemmas.{choice_split}
use Rattle.stable_sets.proofs.choice.+has_places.Goals as goal

pub returns-then-has_place : goal.returns-then-has_place
returns-then-has_place t c =
    choice_split c.args.parts.now c.args.choice c.has_places.result c.in-len1-up.len_at_least
    (c.has_place.ensures.0 c.if-has_place.true) c.has_places.ensures
