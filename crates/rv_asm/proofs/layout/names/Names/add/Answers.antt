use Rattle.std.proofs.Common.{◌≡◌, [], ◌∷◌, ◌++◌, None, ap, ◌∙◌}
use Rattle.indexmap.proofs.CallerLemmas.{insert_entry-new}
use Rattle.rv_asm.specs.Names.{bytes_of_keys, meaning_of}
use Rattle.rv_asm.proofs.NameLemmas.{lookup_bytes, bytes_of_keys-more}
use Rattle.rv_asm.proofs.layout.names.Names.add.Goals as goal

pub returns-clause-ok : goal.returns-clause-ok
returns-clause-ok c =
    let entries = c.self.inside.table.entries in
    let key = c.in_ok-key.key in
    let same : key.items ≡ c.args.name.now = c.in_ok-key.ensures.items in
    let absent : meaning_of (bytes_of_keys entries) key.items ≡ None = ap (λ t. meaning_of t key.items) c.self.view_is ∙ ap (meaning_of c.args.self.now) same ∙ c.requires in
    let after : c.insert.new.self.entries ≡ entries ++ (key, c.args.meaning) ∷ [] = c.in_ok-insert.ensures.entries ∙ insert_entry-new _ c.self.inside.table key c.args.meaning (lookup_bytes key.items entries ∙ absent) in
    ap bytes_of_keys after ∙ bytes_of_keys-more entries key c.args.meaning ∙ ap (λ t. t ++ (key.items, c.args.meaning) ∷ []) c.self.view_is ∙ ap (λ n. c.args.self.now ++ (n, c.args.meaning) ∷ []) same
