use Rattle.probe_encode.proofs.ShareLemmas.{small_table}
use Rattle.probe_encode.proofs.whole.whole_bits.Goals as goal

pub secret_labels-requires : goal.secret_labels-requires
secret_labels-requires c = rw c.as_slice.ensures (small_table c.args.table.now c.requires.table)
