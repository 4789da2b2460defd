use Rattle.calm_reach.specs.Walks.{AreLeavesAmong, AreLeavesOf, AreReachedLeaves}
use Rattle.calm_reach.proofs.WalkLemmas.{leaves_are, reached_are, one_ok}
use Rattle.calm_reach.proofs.row.CalmRow.reached.Goals as goal

pub leaves_among-requires-clause-below : goal.leaves_among-requires-clause-below
leaves_among-requires-clause-below c = c.in_ok-walked.ensures.below

pub returns-clause-leaves : goal.returns-clause-leaves
returns-clause-leaves c =
    one_ok c.leaves_among.result (AreLeavesAmong c.args.graph.now.flat c.args.self.now c.in_ok-walked.walked)
    (AreLeavesOf c.args.graph.now.flat c.args.self.now c.args.bit)
    (λ l m. leaves_are c.args.graph.now.flat c.args.self.now c.args.bit c.in_ok-walked.walked l c.in_ok-walked.ensures.walked m)
    c.leaves_among.ensures

pub returns-clause-reached : goal.returns-clause-reached
returns-clause-reached c =
    one_ok c.leaves_among.result (AreLeavesAmong c.args.graph.now.flat c.args.self.now c.in_ok-walked.walked)
    (AreReachedLeaves c.args.graph.now.flat c.args.self.now c.args.bit)
    (λ l m. reached_are c.args.graph.now.flat c.args.self.now c.args.bit l
    (leaves_are c.args.graph.now.flat c.args.self.now c.args.bit c.in_ok-walked.walked l c.in_ok-walked.ensures.walked m))
    c.leaves_among.ensures
