use Rattle.std.proofs.Common.{◌≡◌, take, map, get_or, true}
use Rattle.probe_encode.specs.Goals.{label_signal}
use Rattle.probe_encode.proofs.goal_list.firsts.Given as goal

abbrev pub invariant-bits : goal.invariant-bits
invariant-bits l =
    let literal = label_signal l.labelled.variables.now l.labelled.labels.now in
    l.signals ≡ map (λ ls. literal (get_or ls 0 0) true) (take l.bit-index l.bits)
