use Rattle.std.proofs.Common.{map}
use Rattle.derivation_check.proofs.Lines.{empty_answer}
use Rattle.derivation_check.proofs.line.has_empty.Goals as goal

pub returns-else-store_has_empty : goal.returns-else-store_has_empty
returns-else-store_has_empty c =
    empty_answer c.args.store.now (map (λ l. l.clause) c.args.lines.now) c.lines_have_empty.result c.if-store_has_empty.ensures c.lines_have_empty.ensures
