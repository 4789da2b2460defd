use Rattle.std.proofs.Common.{List, subst}
use Rattle.std.specs.Prelude.{Contains}
use Rattle.coco_base.specs.declared.setup.WordPlan.{WordPlan}
use Rattle.unroll.proofs.cycle.new_walk.Goals as goal

pub start_words-requires-clause-labelled : goal.start_words-requires-clause-labelled
start_words-requires-clause-labelled c = λ w h.
    c.requires.bound.word_labels w (subst (λ (ws : List WordPlan). Contains ws w) c.as_slice.ensures h)
