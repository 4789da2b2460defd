use Rattle.std.proofs.Common.{ℕ, List, subst}
use Rattle.std.specs.Prelude.{Contains}
use Rattle.coco_base.specs.declared.setup.Start.{Start}
use Rattle.unroll.specs.NodeWords.{IsPlaced, plan_node}
use Rattle.unroll.proofs.memory.place_word.Goals as goal

pub place_starts-requires-clause-labelled : goal.place_starts-requires-clause-labelled
place_starts-requires-clause-labelled c = λ s h.
    c.requires.labelled s (subst (λ (ss : List Start). Contains ss s) c.as_slice.ensures h)

pub returns-in-Some : goal.returns-in-Some
returns-in-Some c =
    subst (λ (p : ℕ). IsPlaced p 32 (plan_node c.args.table.now c.args.word.now.bits) c.args.memory.now c.place_starts.new.memory) c.in-Some.ensures.place
    (subst (λ (bs : List Start). IsPlaced c.in-Some.place 32 (plan_node c.args.table.now bs) c.args.memory.now c.place_starts.new.memory) c.as_slice.ensures
    c.place_starts.ensures)

pub returns-in-None : goal.returns-in-None
returns-in-None c = absurd (c.in-None.ensures.region c.requires.word.address.inside)
