-- A cause answers the outcome that has it.
use Rattle.std.proofs.Common.{◌≡◌, Result, Err}
use Rattle.label_file.specs.declared.cause.Cause.{Cause}
use Rattle.label_file.specs.declared.cause.Cause.TheVariants.{BadLine, Twice, UnknownSecret, ShareRange, TooMany, Memory}
use Rattle.label_file.specs.Causes.{Fails}

pub fails_itself : {Y : Type 0} (c : Cause) (o : Result Y Cause) → o ≡ Err c → Fails c o
fails_itself BadLine o e = e
fails_itself Twice o e = e
fails_itself UnknownSecret o e = e
fails_itself ShareRange o e = e
fails_itself (TooMany count limit) o e = e
fails_itself Memory o e = tt
