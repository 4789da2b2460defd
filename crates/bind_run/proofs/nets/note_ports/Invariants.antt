use Rattle.std.proofs.Common.{◌++◌, map, take}
use Rattle.bind_run.specs.Nets.{AreAlike, port_named}
use Rattle.bind_run.proofs.nets.note_ports.Given as goal

abbrev pub invariant-ports : goal.invariant-ports
invariant-ports l = AreAlike l.names (l.initial.names ++ map port_named (take l.port-index l.ports))
