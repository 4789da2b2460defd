use Rattle.std.proofs.Common.{◌∷◌, [], refl}
use Rattle.circuit_clauses.specs.Signals.{negated}
use Rattle.clause_builds.specs.Builds.{demanded}
use Rattle.clause_builds.proofs.Leaving.{all_left, first_fits, next_left, last_left, left_fits}
use Rattle.probe_encode.specs.Goals.{same_signals}
use Rattle.probe_encode.proofs.goal.same_signals.Goals as goal

pub demand-requires : goal.demand-requires
demand-requires c =
    rw c.negated.ensures (first_fits (demanded (negated c.args.one ∷ c.args.other ∷ [])) (λ (none : Unit {0}). demanded (c.args.one ∷ negated c.args.other ∷ []))
    (all_left c.args.form.now (same_signals c.args.one c.args.other)) c.requires)

pub demand-requires-2 : goal.demand-requires-2
demand-requires-2 c =
    rw c.negated-2.ensures (left_fits (demanded (c.args.one ∷ negated c.args.other ∷ [])) (next_left (demanded (negated c.args.one ∷ c.args.other ∷ [])) (λ (none : Unit {0}). demanded (c.args.one ∷ negated c.args.other ∷ [])) c.demand.new.self tt
    (all_left c.args.form.now (same_signals c.args.one c.args.other)) (rw c.negated.ensures at c.in_ok-demand.ensures.ok) refl) c.requires)

pub returns : goal.returns
returns c =
    (last_left (demanded (c.args.one ∷ negated c.args.other ∷ [])) c.demand-2.new.self tt (next_left (demanded (negated c.args.one ∷ c.args.other ∷ [])) (λ (none : Unit {0}). demanded (c.args.one ∷ negated c.args.other ∷ [])) c.demand.new.self tt
    (all_left c.args.form.now (same_signals c.args.one c.args.other)) (rw c.negated.ensures at c.in_ok-demand.ensures.ok) refl) (rw c.negated-2.ensures at c.in_ok-demand-2.ensures.ok) refl).1
