use Rattle.std.proofs.Common.{◌≡◌, [], ◌∷◌, ◌++◌, None, ap, ◌∙◌}
use Rattle.indexmap.proofs.CallerLemmas.{insert_entry-new}
use Rattle.bind_run.specs.NameTables.{seen_entries}
use Rattle.bind_run.specs.Nets.{wires_named}
use Rattle.bind_run.proofs.NameLemmas.{found_seen, none_found, seen_more}
use Rattle.bind_run.proofs.names.Names.add.Goals as goal

pub returns : goal.returns
returns c =
    let entries = c.self.inside.table.entries in
    let key = c.in_ok-key.key in
    let same : key.items ≡ c.args.name.now = c.in_ok-key.ensures.items in
    let absent : wires_named (seen_entries entries) key.items ≡ None = ap (λ t. wires_named t key.items) c.self.view_is ∙ ap (wires_named c.args.self.now) same ∙ c.requires in
    let after : c.insert.new.self.entries ≡ entries ++ (key, c.args.wires) ∷ [] =
    c.in_ok-insert.ensures.entries ∙ insert_entry-new _ c.self.inside.table key c.args.wires (none_found _ (found_seen key.items entries ∙ absent)) in
    ap seen_entries after ∙ seen_more entries key c.args.wires ∙ ap (λ t. t ++ (key.items, c.args.wires.now) ∷ []) c.self.view_is
    ∙ ap (λ n. c.args.self.now ++ (n, c.args.wires.now) ∷ []) same
