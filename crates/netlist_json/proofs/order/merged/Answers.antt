-- the values of the map are the items in order
use Rattle.std.proofs.Common.{◌∙◌}
use Rattle.netlist_json.proofs.Orders.{merged_is}
use Rattle.netlist_json.proofs.order.merged.Goals as goal

pub returns : goal.returns
returns g c =
    c.from_vec.ensures ∙ c.in_ok-values.ensures
    ∙ merged_is g.T.Named.name_of c.args.file.items c.args.made.items c.add.new.entries.entries c.add-2.new.entries.entries
    (rw c.new-entries.ensures.empty at c.in_ok-add.ensures) c.in_ok-add-2.ensures
