use Rattle.std.proofs.Common.{◌≡◌, ◌≤◌, length, refl, ap, ◌∙◌, arith}
use Rattle.std.specs.Prelude.{slice_index}
use Rattle.std.proofs.lemmas.List.{length-take-le}
use Rattle.clause_solver.specs.Trails.{History, undone}
use Rattle.clause_solver.proofs.TurnFacts.{going_undone}
use Rattle.clause_solver.proofs.turn.begin_anew.Goals as goal

pub undo-requires-clause-place : goal.undo-requires-clause-place
undo-requires-clause-place c = omega (arith, c.requires.bounded 0 (omega arith))

pub returns-clause-going : goal.returns-clause-going
returns-clause-going c =
    let back : c.undo.new.self ≡ undone c.args.state.now.trail 0 = c.undo.ensures in
    let within : slice_index c.args.state.now.trail.starts 0 ≤ length c.args.state.now.trail.lits = omega (arith, c.requires.bounded 0 (omega arith)) in
    let head : c.len-state.result ≡ slice_index c.args.state.now.trail.starts 0 = c.len-state.ensures.len ∙ ap (λ (h : History). length h.lits) back ∙ length-take-le _ _ within in
    λ store x. going_undone store c.args.state.now _ x (omega arith) back refl head refl refl
