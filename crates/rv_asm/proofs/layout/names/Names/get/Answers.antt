use Rattle.std.proofs.Common.{ap, ◌∙◌}
use Rattle.rv_asm.specs.Names.{meaning_of}
use Rattle.rv_asm.proofs.NameLemmas.{lookup_bytes}
use Rattle.rv_asm.proofs.layout.names.Names.get.Goals as goal

pub returns : goal.returns
returns c = c.copied.ensures ∙ c.get.ensures.value ∙ lookup_bytes c.args.name.now c.self.inside.table.entries ∙ ap (λ t. meaning_of t c.args.name.now) c.self.view_is
