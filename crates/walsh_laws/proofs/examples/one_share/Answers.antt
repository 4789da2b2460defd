use Rattle.walsh_laws.proofs.OneShare.{one_share}
use Rattle.walsh_laws.proofs.examples.one_share.Goals as goal

pub returns : goal.returns
returns c = one_share
