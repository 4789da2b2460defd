use Rattle.std.proofs.Common.{◌^◌, sym}
use Rattle.std.proofs.lemmas.Bool.Decides.{Decides-ltb}
use Rattle.bind_run.proofs.NumberLemmas.{below_power}
use Rattle.bind_run.proofs.need.number_fits.Goals as goal

pub returns-then-width-ge32 : goal.returns-then-width-ge32
returns-then-width-ge32 c =
    sym ((Decides-ltb c.args.number (2 ^ c.args.width)).1 (below_power c.args.number 32 c.args.width c.ranges.number.fits c.if-width-ge32.true))
