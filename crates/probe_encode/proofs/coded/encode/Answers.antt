use Rattle.probe_encode.proofs.FitLemmas.{fits}
use Rattle.probe_encode.proofs.coded.encode.Goals as goal

pub encode_source-requires-clause-fits : goal.encode_source-requires-clause-fits
encode_source-requires-clause-fits c =
    rw (c.new-run.ensures, c.as_slice.ensures) (fits _ c.args.unrolled.now c.args.cones.now c.bits-bits.ensures.built c.requires.source)
