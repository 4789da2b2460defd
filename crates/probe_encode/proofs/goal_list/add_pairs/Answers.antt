use Rattle.std.proofs.Common.{◌++◌, ◌∙◌, List, arith, ap, sym}
use Rattle.std.proofs.lemmas.List.{append-nil}
use Rattle.circuit_clauses.specs.declared.signal.Signal.{Signal}
use Rattle.probe_encode.specs.Goals.{label_signal}
use Rattle.probe_encode.proofs.Taken.{last_pairs}
use Rattle.probe_encode.proofs.goal_list.add_pairs.Goals as goal

pub returns : goal.returns
returns c =
    let literal = label_signal c.args.labelled.now.variables.now c.args.labelled.now.labels.now in
    sym (append-nil c.shares.all) ∙ (ap (λ (rest : List (List Signal)). c.shares.all ++ rest) (sym (last_pairs literal c.args.bit.now c.shares.share (omega arith)))
    ∙ c.shares.invariant)
