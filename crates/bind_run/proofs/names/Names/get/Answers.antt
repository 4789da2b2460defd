use Rattle.std.proofs.Common.{◌∙◌, ap}
use Rattle.std.specs.Option.{option_map}
use Rattle.bind_run.specs.Nets.{wires_named}
use Rattle.bind_run.proofs.NameLemmas.{found_seen}
use Rattle.bind_run.proofs.names.Names.get.Goals as goal

pub returns : goal.returns
returns c =
    ap (option_map (λ ws. ws.now)) (c.copied.ensures ∙ c.get.ensures.value) ∙ found_seen c.args.name.now c.self.inside.table.entries
    ∙ ap (λ t. wires_named t c.args.name.now) c.self.view_is
