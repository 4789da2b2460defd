use Rattle.std.proofs.Common.{refl}
use Rattle.probe_clauses.specs.Passes.{link_where}
use Rattle.probe_clauses.proofs.Choices.{done_after}
use Rattle.probe_clauses.proofs.links.link_where.Goals as goal

pub returns-then-not-wanted : goal.returns-then-not-wanted
returns-then-not-wanted c =
    record { formula = done_after c.args.form.now (link_where c.args.wanted c.args.group c.args.actives.now) tt (rw c.if-not-wanted.true refl) }
