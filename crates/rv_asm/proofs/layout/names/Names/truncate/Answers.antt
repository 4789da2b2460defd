use Rattle.std.proofs.Common.{ap, ◌∙◌, take}
use Rattle.rv_asm.specs.Names.{bytes_of_keys}
use Rattle.rv_asm.proofs.NameLemmas.{bytes_of_keys-take}
use Rattle.rv_asm.proofs.layout.names.Names.truncate.Goals as goal

pub returns : goal.returns
returns c = ap bytes_of_keys c.truncate.ensures.entries ∙ bytes_of_keys-take c.args.count c.self.inside.table.entries ∙ ap (take c.args.count) c.self.view_is
