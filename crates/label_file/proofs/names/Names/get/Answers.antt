use Rattle.std.proofs.Common.{ap, ◌∙◌}
use Rattle.label_file.specs.Names.{meaning_of}
use Rattle.label_file.proofs.NameLemmas.{lookup_bytes}
use Rattle.label_file.proofs.names.Names.get.Goals as goal

pub returns : goal.returns
returns c = c.copied.ensures ∙ c.get.ensures.value ∙ lookup_bytes c.args.name.now c.self.inside.table.entries ∙ ap (λ t. meaning_of t c.args.name.now) c.self.view_is
