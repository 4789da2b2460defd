use Rattle.probe_clauses.proofs.tests.graph.Goals as goal

pub build-requires-clause-numbers : goal.build-requires-clause-numbers
build-requires-clause-numbers c = (c.can_build.ensures.0 c.if-not-can_build.false).1
