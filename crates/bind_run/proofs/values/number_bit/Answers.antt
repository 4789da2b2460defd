use Rattle.bind_run.proofs.NumberLemmas.{high_bit}
use Rattle.bind_run.proofs.values.number_bit.Goals as goal

pub returns-then-place-ge32 : goal.returns-then-place-ge32
returns-then-place-ge32 c = high_bit c.args.number c.args.place c.ranges.number.fits c.if-place-ge32.true
