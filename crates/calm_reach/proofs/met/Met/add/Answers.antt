use Rattle.std.proofs.Common.{subst}
use Rattle.calm_reach.specs.Walks.{AddsBit}
use Rattle.calm_reach.proofs.WalkLemmas.{bit_added}
use Rattle.calm_reach.proofs.met.Met.add.Goals as goal

pub returns : goal.returns
returns c =
    subst (λ ks. AddsBit c.args.bit ks c.insert.new.self.keys) c.self.view_is
    (bit_added c.args.bit c.self.inside.bits.keys c.insert.new.self.keys c.in_ok-insert.ensures.keys)
