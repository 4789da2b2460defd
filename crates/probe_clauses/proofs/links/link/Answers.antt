use Rattle.std.proofs.Common.{◌∷◌, refl}
use Rattle.circuit_clauses.specs.Signals.{negated}
use Rattle.clause_builds.specs.Builds.{demanded}
use Rattle.clause_builds.proofs.Leaving.{all_left, first_fits, next_left, last_left, left_fits}
use Rattle.probe_clauses.specs.Passes.{imply_all, link}
use Rattle.probe_clauses.proofs.links.link.Goals as goal

pub demand-requires : goal.demand-requires
demand-requires c =
    rw (c.as_slice.ensures, c.in_ok-clause.ensures) (first_fits (demanded (negated c.args.group ∷ c.args.actives.now)) (λ (none : Unit {0}). imply_all c.args.group c.args.actives.now)
    (all_left c.args.form.now (link c.args.group c.args.actives.now)) c.requires)

pub imply_all-requires : goal.imply_all-requires
imply_all-requires c =
    left_fits (imply_all c.args.group c.args.actives.now) (next_left (demanded (negated c.args.group ∷ c.args.actives.now)) (λ (none : Unit {0}). imply_all c.args.group c.args.actives.now) c.demand.new.self tt
    (all_left c.args.form.now (link c.args.group c.args.actives.now)) (rw (c.as_slice.ensures, c.in_ok-clause.ensures) at c.in_ok-demand.ensures.ok) refl) c.requires

pub returns : goal.returns
returns c =
    record {
      formula = (last_left (imply_all c.args.group c.args.actives.now) c.imply_all.new.form tt (next_left (demanded (negated c.args.group ∷ c.args.actives.now)) (λ (none : Unit {0}). imply_all c.args.group c.args.actives.now) c.demand.new.self tt
          (all_left c.args.form.now (link c.args.group c.args.actives.now)) (rw (c.as_slice.ensures, c.in_ok-clause.ensures) at c.in_ok-demand.ensures.ok) refl) c.in_ok-imply_all.ensures.formula refl).1;
    }
