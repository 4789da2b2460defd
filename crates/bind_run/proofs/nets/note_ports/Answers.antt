use Rattle.std.proofs.Common.{◌++◌, ◌∷◌, [], subst}
use Rattle.bind_run.specs.Nets.{AreAlike, Named, port_named}
use Rattle.bind_run.proofs.NameLemmas.{alike_more, same_pair}
use Rattle.bind_run.proofs.nets.note_ports.Goals as goal

pub ports-preserved : goal.ports-preserved
ports-preserved c =
    alike_more port_named c.args.names.now c.ports.names c.note.new.names c.args.ports.now c.ports.port-index c.port-item.result
    c.ports-test.true c.port-item.is c.ports.invariant
    (subst (λ (p : Named). AreAlike c.note.new.names (c.ports.names ++ p ∷ []))
    (same_pair c.as_bytes.result.now c.port-item.result.name c.as_slice.result.now c.port-item.result.wires c.as_bytes.ensures c.as_slice.ensures)
    c.in_ok-note.ensures)
