use Rattle.std.proofs.Common.{sym, false}
use Rattle.circuit_clauses.specs.declared.signal.Signal.TheVariants.{Constant}
use Rattle.probe_encode.specs.Readable.{values_of}
use Rattle.probe_encode.proofs.Read.{four_bits}
use Rattle.probe_encode.proofs.finding.chosen_number.Goals as goal

pub returns : goal.returns
returns c = rw (c.bit.ensures.bit, c.bit-2.ensures.bit, c.bit-3.ensures.bit, c.bit-4.ensures.bit) (sym (four_bits (values_of c.args.model.now) c.args.selected.now (Constant false) c.told-selected))
