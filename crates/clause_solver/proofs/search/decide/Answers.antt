use Rattle.std.proofs.Common.{◌≡◌, ℕ, None, false, ◌∙◌, ap}
use Rattle.clause_store.specs.declared.lit.Lit.{Lit}
use Rattle.clause_solver.specs.Trails.{IsCoherent, pushed, opened}
use Rattle.clause_solver.proofs.GuardFacts.{watched_decide}
use Rattle.clause_solver.proofs.search.decide.Goals as goal

abbrev decision : (var : ℕ) → Lit
decision var = record { var = var; positive = false }

pub returns-clause-watched : goal.returns-clause-watched
returns-clause-watched c =
    let level : c.open_level.new.self ≡ opened c.args.trail.now = c.in_ok-open_level.ensures in
    let new : c.push.new.self ≡ pushed (opened c.args.trail.now) (decision c.args.var) None = c.in_ok-push.ensures.ok ∙ ap (λ h. pushed h (decision c.args.var) None) level in
    let coherent : IsCoherent c.push.new.self = c.in_ok-push.ensures.coherent in
    λ clauses w x done. rw new (watched_decide clauses c.args.trail.now w (decision c.args.var) x done (rw new at coherent))
