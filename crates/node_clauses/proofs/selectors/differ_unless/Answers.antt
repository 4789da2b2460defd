use Rattle.std.proofs.Common.{◌≡◌, ◌∙◌, true, sym}
use Rattle.coco_model.specs.Goals.{is_among}
use Rattle.clause_builds.proofs.Leaving.{after-done}
use Rattle.node_clauses.proofs.selectors.differ_unless.Goals as goal

pub returns-then-is_among : goal.returns-then-is_among
returns-then-is_among c =
    let e : is_among c.args.numbers.now c.args.number ≡ true = sym c.is_among.ensures ∙ c.if-is_among.true in
    rw e (sym (after-done c.args.form.now tt))
