use Rattle.probe_encode.proofs.ShareLemmas.{small_secret, member_at}
use Rattle.probe_encode.proofs.whole.secret_labels.Goals as goal

pub add_bits-requires : goal.add_bits-requires
add_bits-requires c =
    small_secret c.args.secrets.now c.secret-item.result
    (member_at c.args.secrets.now c.secrets.secret-index c.secret-item.result c.secrets-test.true c.secret-item.is) c.requires
