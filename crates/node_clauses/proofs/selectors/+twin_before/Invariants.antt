use Rattle.node_clauses.proofs.selectors.+twin_before.Given as goal

abbrev pub decreases-twin_before : goal.decreases-twin_before
decreases-twin_before l = l.count
