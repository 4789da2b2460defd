use Rattle.std.proofs.Common.{◌≡◌, take}
use Rattle.bind_run.specs.Inputs.{starts_at}
use Rattle.bind_run.proofs.values.starts_at.Given as goal

abbrev pub invariant-values : goal.invariant-values
invariant-values l = l.starts.items ≡ starts_at (take l.value-index l.values) l.place
