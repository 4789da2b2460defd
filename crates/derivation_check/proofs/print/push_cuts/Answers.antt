use Rattle.std.proofs.Common.{◌≡◌, ◌+◌, ◌++◌, get_or, take, ap, ◌∙◌, arith}
use Rattle.std.specs.String.{string_bytes}
use Rattle.std.proofs.lemmas.List.{take_more, append_assoc}
use Rattle.clause_store.specs.declared.line.Cut.{Cut}
use Rattle.derivation_check.specs.Texts.{index_text, cut_text, cuts_text}
use Rattle.derivation_check.proofs.Printing.{printed_more, flat_map-push}
use Rattle.derivation_check.proofs.print.push_cuts.Goals as goal

abbrev none : Cut
none = record { var = 0; id = 0 }

pub printing-preserved : goal.printing-preserved
printing-preserved c =
    let cut : Cut = get_or c.args.cuts.now c.printing.cut-index none in
    let whole : cuts_text (take (c.printing.cut-index + 1) c.args.cuts.now) ≡ cuts_text (take c.printing.cut-index c.args.cuts.now) ++ cut_text cut =
    ap cuts_text (take_more c.args.cuts.now c.printing.cut-index none (omega arith)) ∙ flat_map-push cut_text (take c.printing.cut-index c.args.cuts.now) cut in
    let both : string_bytes c.push_index-in-printing.new.text ≡ string_bytes c.printing.text ++ cut_text cut =
    c.in_ok-push_index-2.ensures ∙ ap (λ t. t ++ index_text cut.id) c.in_ok-push_index.ensures
    ∙ append_assoc (string_bytes c.printing.text) (index_text cut.var) (index_text cut.id) in
    printed_more (string_bytes c.args.text.now) (string_bytes c.printing.text) (string_bytes c.push_index-in-printing.new.text) (cuts_text (take c.printing.cut-index c.args.cuts.now)) (cut_text cut) (cuts_text (take (c.printing.cut-index + 1) c.args.cuts.now))
    both c.printing.invariant whole
