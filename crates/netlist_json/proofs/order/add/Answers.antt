-- one item more is in the map
use Rattle.std.proofs.Common.{◌≡◌, ◌∙◌, ℕ, List, refl, string_bytes, String}
use Rattle.std.specs.Cmp.Lexicographic.{slice_cmp}
use Rattle.std.specs.Ordering.{nat_cmp, ordering_then}
use Rattle.std.specs.declared.alloc.Global.{Global}
use Rattle.std.specs.declared.cmp.Ordering.{Ordering}
use Rattle.netlist_json.specs.Flats.{key_cmp}
use Rattle.netlist_json.proofs.Orders.{keyed_more, map-insert_entry}
use Rattle.netlist_json.proofs.order.add.Goals as goal

abbrev Key : Type 0
Key = String Global × ℕ

abbrev seen : Key → List ℕ × ℕ
seen k = (string_bytes k.0, k.1)

abbrev string_key_cmp : Key → Key → Ordering
string_key_cmp a b = ordering_then (slice_cmp nat_cmp (string_bytes a.0) (string_bytes b.0)) (nat_cmp a.1 b.1)

pub items-preserved : goal.items-preserved
items-preserved g c =
    let text : string_bytes c.in_ok-name.name ≡ g.T.Named.name_of c.in-Some.item = c.in_ok-name.ensures.ok ∙ c.name.ensures in
    let inserted = map-insert_entry seen string_key_cmp key_cmp (λ a b. refl) c.items.entries.entries (c.in_ok-name.name, c.args.made) c.in-Some.item in
    rw (c.in_ok-insert.ensures.entries, inserted, c.items.invariant, text, keyed_more) refl

pub items-preserved-in_ok-insert : goal.items-preserved-in_ok-insert
items-preserved-in_ok-insert g c =
    let text : string_bytes c.in_ok-name.name ≡ g.T.Named.name_of c.in-Some.item = c.in_ok-name.ensures.ok ∙ c.name.ensures in
    let inserted = map-insert_entry seen string_key_cmp key_cmp (λ a b. refl) c.items.entries.entries (c.in_ok-name.name, c.args.made) c.in-Some.item in
    rw (c.in_ok-insert.ensures.entries, inserted, c.items.invariant, text, keyed_more) refl
