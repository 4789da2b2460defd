use Rattle.std.proofs.Common.{sym}
use Rattle.bind_run.proofs.NameLemmas.{alike_found}
use Rattle.bind_run.proofs.nets.note.Goals as goal

pub returns-then-is_some : goal.returns-then-is_some
returns-then-is_some c =
    alike_found c.args.names.now c.args.name.now c.args.wires.now c.get.result (sym c.if-is_some.ensures) c.get.ensures
