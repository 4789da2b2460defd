use Rattle.std.proofs.Common.{◌≡◌, ◌++◌, sym, ◌∙◌}
use Rattle.std.proofs.lemmas.List.{append_assoc}
use Rattle.derivation_check.specs.Texts.{index_text}
use Rattle.derivation_check.proofs.Reading.{index_unique}
use Rattle.derivation_check.proofs.items.read_cut.Goals as goal

pub returns-in_default-read_index-clause-none : goal.returns-in_default-read_index-clause-none
returns-in_default-read_index-clause-none c = λ cut more good e.
    let t : index_text c.in-Some.var ++ c.read_index.new.reader ≡ index_text cut.var ++ (index_text cut.id ++ more) =
    sym c.in-Some.ensures.some.1 ∙ e ∙ append_assoc (index_text cut.var) (index_text cut.id) more in
    let u : (c.in-Some.var ≡ cut.var) × (c.read_index.new.reader ≡ index_text cut.id ++ more) =
    index_unique c.in-Some.var cut.var c.read_index.new.reader (index_text cut.id ++ more) c.in-Some.ensures.some.0 good.var t in
    c.in_default-read_index.ensures.none cut.id more good.id u.1
