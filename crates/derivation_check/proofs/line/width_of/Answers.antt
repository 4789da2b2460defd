use Rattle.std.proofs.Common.{sym}
use Rattle.derivation_check.proofs.Lines.{within_last}
use Rattle.derivation_check.proofs.line.width_of.Goals as goal

pub returns-in-Some : goal.returns-in-Some
returns-in-Some c = within_last c.args.clause.now c.in-Some.lit.now c.requires (sym c.in-Some.ensures.value)
