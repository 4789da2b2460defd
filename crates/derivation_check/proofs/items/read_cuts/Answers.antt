use Rattle.std.proofs.Common.{◌≡◌, [], ◌∷◌, ◌++◌, sym, ap, ◌∙◌}
use Rattle.std.proofs.lemmas.List.{append_assoc}
use Rattle.std.proofs.lemmas.List.Elements.{All-push}
use Rattle.derivation_check.specs.Texts.{cut_text, cuts_text, IsCutInRange}
use Rattle.derivation_check.proofs.Printing.{flat_map-push}
use Rattle.derivation_check.proofs.Reading.{cuts_told, items_stop}
use Rattle.derivation_check.proofs.items.read_cuts.Goals as goal

pub returns-in_default-clause-none : goal.returns-in_default-clause-none
returns-in_default-clause-none c =
    items_stop cut_text IsCutInRange cuts_told 10 c.reading.cuts c.args.reader.now c.reading.reader
    c.if-take_zero.ensures.1
    (λ x more good e. c.in_default.ensures.none x more good (c.if-take_zero.ensures.0 ∙ e))
    c.reading.invariant.in_range c.reading.invariant.text

pub reading-preserved : goal.reading-preserved
reading-preserved c =
    let pushed : c.push.new.self ≡ c.reading.cuts ++ c.in-Some.cut ∷ [] = c.in_ok-push.ensures.ok in
    let text : cuts_text c.push.new.self ≡ cuts_text c.reading.cuts ++ cut_text c.in-Some.cut = ap cuts_text pushed ∙ flat_map-push cut_text c.reading.cuts c.in-Some.cut in
    record {
      in_range = rw pushed (All-push IsCutInRange c.reading.cuts c.in-Some.cut c.reading.invariant.in_range c.in-Some.ensures.some.0);
      text = c.reading.invariant.text ∙ ap (λ t. cuts_text c.reading.cuts ++ t) (sym c.if-take_zero.ensures.0 ∙ c.in-Some.ensures.some.1)
          ∙ sym (append_assoc (cuts_text c.reading.cuts) (cut_text c.in-Some.cut) c.read_cut.new.reader) ∙ ap (λ t. t ++ c.read_cut.new.reader) (sym text);
    }
