use Rattle.std.proofs.Common.{◌≡◌, ◌∙◌, IfOk, Option, ap, false, option_map, subst, sym}
use Rattle.std.specs.List.{list_any}
use Rattle.clap.specs.Faults.{is_simple_and_free}
use Rattle.clap.specs.Simple.{app_of}
use Rattle.command_words.specs.Clap.{clap_values, is_short, values_in}
use Rattle.command_words.specs.Shown.{shown_table}
use Rattle.command_words.specs.Words.{Values, texts, values_by}
use Rattle.command_words.proofs.Lines.{lines_are, short_texts}
use Rattle.command_words.proofs.Rules.{simple_is}
use Rattle.command_words.proofs.Short.{short_refused}
use Rattle.command_words.proofs.command.matches_by.Goals as goal

pub returns-then-has_short : goal.returns-then-has_short
returns-then-has_short c =
    short_refused (shown_table c.args.table.now) c.requires.some (texts c.args.words.now)
    (short_texts c.args.words.now ∙ sym c.has_short.ensures ∙ c.if-has_short.true)

pub matched-requires : goal.matched-requires
matched-requires c = ap is_simple_and_free c.in_ok-command.ensures ∙ simple_is (shown_table c.args.table.now)

pub returns : goal.returns
returns c =
    let t = shown_table c.args.table.now in
    let words = texts c.args.words.now in
    let none_short : list_any is_short words ≡ false =
    short_texts c.args.words.now ∙ sym c.has_short.ensures ∙ c.if-has_short.false in
    let same : clap_values (app_of c.in_ok-command.command) words ≡ values_by t words =
    ap (λ a. clap_values a words) c.in_ok-command.ensures ∙ lines_are t words c.requires none_short in
    let P : Option Values → Type 0 = λ v. IfOk c.matched.result (λ o. option_map values_in o ≡ v) in
    subst P same c.matched.ensures
