use Rattle.std.proofs.Common.{◌≡◌, [], ◌∷◌, ◌++◌, sym, ap, ◌∙◌}
use Rattle.std.proofs.lemmas.List.{append_assoc}
use Rattle.std.proofs.lemmas.List.Elements.{All-push}
use Rattle.derivation_check.specs.Texts.{lit_text, lits_text, IsLitInRange}
use Rattle.derivation_check.proofs.Printing.{flat_map-push}
use Rattle.derivation_check.proofs.Reading.{lits_told, items_stop}
use Rattle.derivation_check.proofs.items.read_lits.Goals as goal

pub returns-in_default-clause-none : goal.returns-in_default-clause-none
returns-in_default-clause-none c =
    items_stop lit_text IsLitInRange lits_told 32 c.reading.lits c.args.reader.now c.reading.reader
    c.if-take_zero.ensures.1
    (λ x more good e. c.in_default.ensures.none x more good (c.if-take_zero.ensures.0 ∙ e))
    c.reading.invariant.in_range c.reading.invariant.text

pub reading-preserved : goal.reading-preserved
reading-preserved c =
    let pushed : c.push.new.self ≡ c.reading.lits ++ c.in-Some.lit ∷ [] = c.in_ok-push.ensures.ok in
    let text : lits_text c.push.new.self ≡ lits_text c.reading.lits ++ lit_text c.in-Some.lit = ap lits_text pushed ∙ flat_map-push lit_text c.reading.lits c.in-Some.lit in
    record {
      in_range = rw pushed (All-push IsLitInRange c.reading.lits c.in-Some.lit c.reading.invariant.in_range c.in-Some.ensures.some.0);
      text = c.reading.invariant.text ∙ ap (λ t. lits_text c.reading.lits ++ t) (sym c.if-take_zero.ensures.0 ∙ c.in-Some.ensures.some.1)
          ∙ sym (append_assoc (lits_text c.reading.lits) (lit_text c.in-Some.lit) c.read_lit.new.reader) ∙ ap (λ t. t ++ c.read_lit.new.reader) (sym text);
    }
