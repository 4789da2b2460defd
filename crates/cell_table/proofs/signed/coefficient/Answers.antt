use Rattle.std.proofs.Common.{rules, w32, ◌≡◌, ◌∙◌, to_z, of_z}
use Rattle.cell_table.proofs.Sums.{length-input_places}
use Rattle.cell_table.proofs.signed.coefficient.Goals as goal

pub returns-clause-sum : goal.returns-clause-sum
returns-clause-sum c =
    let g : to_z w32 (of_z w32 c.sum_over.result) ≡ c.sum_over.result = search rules in
    g ∙ rw (c.inputs_of-count.ensures, length-input_places c.args.kind c.args.parts (search rules)) at c.sum_over.ensures.sum
