use Rattle.std.proofs.Common.{◌≡◌, ℕ, sym, ◌∙◌, subst, take_at}
use Rattle.coco_model.specs.Calm.{both, IsCalm}
use Rattle.calm_reach.specs.CalmRows.{row_of}
use Rattle.calm_reach.proofs.ForcingLemmas.{calm_when_forced}
use Rattle.calm_reach.proofs.calm.calm_parts.Goals as goal

pub returns-clause-calm : goal.returns-clause-calm
returns-clause-calm c =
    subst (λ ps. IsCalm c.args.graph.now.flat (row_of c.args.before.now) (row_of c.args.now.now) (row_of ps))
    (sym (take_at c.force_cells.new.parts _ c.in_ok-parts.parts.len (c.force_cells.ensures.as_long ∙ c.as_mut_slice.ensures.len)))
    (calm_when_forced c.args.graph.now (row_of c.args.before.now) (row_of c.args.now.now) c.as_mut_slice.result.now c.force_cells.new.parts
    c.force_cells.ensures.built
    (subst (λ ps. (b : ℕ) → row_of ps b ≡ both (row_of c.args.before.now b) (row_of c.args.now.now b)) (sym c.as_mut_slice.ensures.value) c.in_ok-parts.ensures.each)
    c.force_cells.ensures.leaves c.force_cells.ensures.forced)
