use Rattle.std.proofs.Common.{◌≡◌, ◌+◌, ◌++◌, length, Some, slice_get, take, ap, refl, ◌∙◌, arith}
use Rattle.std.specs.String.{string_bytes}
use Rattle.std.proofs.lemmas.Option.{slice_get_read}
use Rattle.clause_store.specs.declared.line.Line.{Line}
use Rattle.derivation_check.specs.Texts.{line_text, lines_text}
use Rattle.derivation_check.proofs.Printing.{printed_more, flat_map-push, take_got}
use Rattle.derivation_check.proofs.print.print_derivation.Goals as goal

pub printing-preserved : goal.printing-preserved
printing-preserved c =
    let line : Line = c.line-item.result in
    let got : slice_get c.as_slice-line-items.result.now c.printing.line-index ≡ Some line =
    slice_get_read c.as_slice-line-items.result.now (length c.as_slice-line-items.result.now) c.printing.line-index line refl (omega arith) c.line-item.is in
    let here : slice_get c.args.derivation.now.lines c.printing.line-index ≡ Some line = rw c.as_slice-line-items.ensures at got in
    let whole : lines_text (take (c.printing.line-index + 1) c.args.derivation.now.lines) ≡ lines_text (take c.printing.line-index c.args.derivation.now.lines) ++ line_text line =
    ap lines_text (take_got c.args.derivation.now.lines c.printing.line-index line here) ∙ flat_map-push line_text (take c.printing.line-index c.args.derivation.now.lines) line in
    printed_more (string_bytes c.in_ok-text.text) (string_bytes c.printing.text) (string_bytes c.push_line.new.text) (lines_text (take c.printing.line-index c.args.derivation.now.lines)) (line_text line) (lines_text (take (c.printing.line-index + 1) c.args.derivation.now.lines))
    c.in_ok-push_line.ensures c.printing.invariant whole
