use Rattle.probe_encode.proofs.FitLemmas.{fits}
use Rattle.probe_encode.proofs.laws.fit_law.Goals as goal

pub returns : goal.returns
returns c = fits
