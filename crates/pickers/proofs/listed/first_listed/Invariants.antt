use Rattle.std.proofs.Common.{◌≡◌, take, None}
use Rattle.std.specs.List.{find}
use Rattle.pickers.specs.Choices.{is_open}
use Rattle.pickers.proofs.listed.first_listed.Given as goal

abbrev pub invariant-seeking : goal.invariant-seeking
invariant-seeking l = find (is_open l.unset) (take l.var-index l.order) ≡ None
