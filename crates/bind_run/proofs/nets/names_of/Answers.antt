use Rattle.std.proofs.Common.{List, subst}
use Rattle.bind_run.specs.Nets.{AreAlike, Named}
use Rattle.bind_run.proofs.NameLemmas.{alike_append, alike_trans, all_names}
use Rattle.bind_run.proofs.nets.names_of.Goals as goal

pub returns : goal.returns
returns c =
    subst (λ (xs : List Named). AreAlike c.note_ports.new.names xs)
    (all_names c.args.flat.now c.new-names.result c.as_slice.result.now c.as_slice-2.result.now c.new-names.ensures c.as_slice.ensures c.as_slice-2.ensures)
    (alike_trans _ _ _ c.in_ok-note_ports.ensures (alike_append _ _ _ c.in_ok-note_nets.ensures))
