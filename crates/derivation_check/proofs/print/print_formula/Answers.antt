use Rattle.std.proofs.Common.{◌≡◌, ◌+◌, ◌∷◌, ◌++◌, [], take, ap, ◌∙◌}
use Rattle.std.specs.String.{string_bytes}
use Rattle.std.proofs.lemmas.List.{append_assoc}
use Rattle.derivation_check.specs.Texts.{clause_text, lits_text, clauses_text}
use Rattle.derivation_check.proofs.Printing.{printed_more, flat_map-push, take_got}
use Rattle.derivation_check.proofs.print.print_formula.Goals as goal

pub printing-preserved : goal.printing-preserved
printing-preserved c =
    let whole : clauses_text (take (c.printing.id + 1) c.args.store.now) ≡ clauses_text (take c.printing.id c.args.store.now) ++ (lits_text c.get.result.now ++ 48 ∷ 10 ∷ []) =
    ap clauses_text (take_got c.args.store.now c.printing.id c.get.result.now c.get.ensures.clause) ∙ flat_map-push clause_text (take c.printing.id c.args.store.now) c.get.result.now in
    let both : string_bytes c.push_str.new.self ≡ string_bytes c.printing.text ++ (lits_text c.get.result.now ++ 48 ∷ 10 ∷ []) =
    c.in_ok-push_str.ensures.bytes ∙ ap (λ t. t ++ 48 ∷ 10 ∷ []) c.in_ok-push_lits.ensures
    ∙ append_assoc (string_bytes c.printing.text) (lits_text c.get.result.now) (48 ∷ 10 ∷ []) in
    printed_more (string_bytes c.in_ok-text.text) (string_bytes c.printing.text) (string_bytes c.push_str.new.self) (clauses_text (take c.printing.id c.args.store.now)) (lits_text c.get.result.now ++ 48 ∷ 10 ∷ []) (clauses_text (take (c.printing.id + 1) c.args.store.now))
    both c.printing.invariant whole
