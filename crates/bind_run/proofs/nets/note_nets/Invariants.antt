use Rattle.std.proofs.Common.{◌++◌, map, take}
use Rattle.bind_run.specs.Nets.{AreAlike, net_named}
use Rattle.bind_run.proofs.nets.note_nets.Given as goal

abbrev pub invariant-nets : goal.invariant-nets
invariant-nets l = AreAlike l.names (l.initial.names ++ map net_named (take l.net-index l.nets))
