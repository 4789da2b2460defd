use Rattle.std.proofs.Common.{◌≢◌, [], take, map}
use Rattle.std.specs.List.{All}
use Rattle.derivation_check.proofs.line.lines_have_empty.Given as goal

abbrev pub invariant-looking : goal.invariant-looking
invariant-looking l = All (λ c. c ≢ []) (map (λ l. l.clause) (take l.line-index l.lines))
