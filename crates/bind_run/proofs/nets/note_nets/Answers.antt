use Rattle.std.proofs.Common.{◌++◌, ◌∷◌, [], subst}
use Rattle.bind_run.specs.Nets.{AreAlike, Named, net_named}
use Rattle.bind_run.proofs.NameLemmas.{alike_more, same_pair}
use Rattle.bind_run.proofs.nets.note_nets.Goals as goal

pub nets-preserved : goal.nets-preserved
nets-preserved c =
    alike_more net_named c.args.names.now c.nets.names c.note.new.names c.args.nets.now c.nets.net-index c.net-item.result
    c.nets-test.true c.net-item.is c.nets.invariant
    (subst (λ (p : Named). AreAlike c.note.new.names (c.nets.names ++ p ∷ []))
    (same_pair c.as_bytes.result.now c.net-item.result.name c.as_slice.result.now c.net-item.result.wires c.as_bytes.ensures c.as_slice.ensures)
    c.in_ok-note.ensures)
