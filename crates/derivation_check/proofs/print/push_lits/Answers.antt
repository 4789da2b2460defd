use Rattle.std.proofs.Common.{◌≡◌, ◌+◌, ◌++◌, false, get_or, take, ap, ◌∙◌, arith}
use Rattle.std.specs.String.{string_bytes}
use Rattle.std.proofs.lemmas.List.{take_more}
use Rattle.clause_store.specs.declared.lit.Lit.{Lit}
use Rattle.derivation_check.specs.Texts.{lit_text, lits_text}
use Rattle.derivation_check.proofs.Printing.{printed_more, flat_map-push}
use Rattle.derivation_check.proofs.print.push_lits.Goals as goal

abbrev none : Lit
none = record { var = 0; positive = false }

pub printing-preserved : goal.printing-preserved
printing-preserved c =
    let l : Lit = get_or c.args.lits.now c.printing.lit-index none in
    let whole : lits_text (take (c.printing.lit-index + 1) c.args.lits.now) ≡ lits_text (take c.printing.lit-index c.args.lits.now) ++ lit_text l =
    ap lits_text (take_more c.args.lits.now c.printing.lit-index none (omega arith)) ∙ flat_map-push lit_text (take c.printing.lit-index c.args.lits.now) l in
    printed_more (string_bytes c.args.text.now) (string_bytes c.printing.text) (string_bytes c.push_lit.new.text) (lits_text (take c.printing.lit-index c.args.lits.now)) (lit_text l) (lits_text (take (c.printing.lit-index + 1) c.args.lits.now))
    c.in_ok-push_lit.ensures c.printing.invariant whole
