use Rattle.std.proofs.Common.{sym, Ok, Err}
use Rattle.std.proofs.lemmas.List.Sorted.{searched}
use Rattle.node_clauses.proofs.LabelLemmas.{never_falls, found_place, missing_place}
use Rattle.node_clauses.proofs.sums.place_of.Goals as goal

pub returns-in-Ok-clause-place : goal.returns-in-Ok-clause-place
returns-in-Ok-clause-place c =
    let labels = c.args.labels.now in
    let found = searched labels c.args.label (Ok c.in-Ok.place) c.in-Ok.ensures.position (never_falls labels c.requires) in
    sym (found_place labels c.requires c.args.label c.in-Ok.place found.0 found.1)

pub returns-in-Err-clause-place : goal.returns-in-Err-clause-place
returns-in-Err-clause-place c =
    let labels = c.args.labels.now in
    let missing = searched labels c.args.label (Err c.in-Err.field-0) c.in-Err.ensures.position (never_falls labels c.requires) in
    sym (missing_place labels c.args.label c.in-Err.field-0 missing.1 missing.2)
