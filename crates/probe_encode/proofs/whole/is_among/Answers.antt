use Rattle.std.proofs.Common.{sym, Ok, Err}
use Rattle.std.proofs.lemmas.List.Sorted.{searched}
use Rattle.node_clauses.proofs.LabelLemmas.{never_falls}
use Rattle.probe_encode.proofs.Variables.{found, missing}
use Rattle.probe_encode.proofs.whole.is_among.Goals as goal

pub returns-in-Ok : goal.returns-in-Ok
returns-in-Ok c =
    let labels = c.args.labels.now in
    let at = searched labels c.args.label (Ok c.in-Ok.field-0) c.in-Ok.ensures.position (never_falls labels c.requires) in
    sym (found labels c.requires c.args.label c.in-Ok.field-0 at.0 at.1).0

pub returns-in-Err : goal.returns-in-Err
returns-in-Err c =
    let labels = c.args.labels.now in
    let at = searched labels c.args.label (Err c.in-Err.field-0) c.in-Err.ensures.position (never_falls labels c.requires) in
    sym (missing labels c.args.label c.in-Err.field-0 at.1 at.2).0
