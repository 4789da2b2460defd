use Rattle.std.proofs.Common.{◌≡◌, ◌++◌, ◌∷◌, [], length, ◌∙◌, ap}
use Rattle.std.proofs.lemmas.List.{length_push}
use Rattle.clause_store.specs.Derivations.{clauses_of, IsValidLine}
use Rattle.clause_solver.proofs.OutcomeFacts.{refuted}
use Rattle.clause_solver.proofs.turn.refute.Goals as goal

pub returns : goal.returns
returns c =
    let push : c.push.new.self ≡ c.args.state.now.lines ++ c.in_ok-line.line ∷ [] = c.in_ok-push.ensures.ok in
    let valid : IsValidLine (clauses_of c.args.store.now c.args.state.now.lines) c.in_ok-line.line = rw c.as_slice.ensures at c.in_ok-line.ensures.valid in
    record {
      refutation = rw push (refuted _ _ _ _ _ c.requires.ready valid (c.in_ok-line.ensures.analyzed.empty c.requires.level));
      count = ap length push ∙ length_push _ _;
    }
