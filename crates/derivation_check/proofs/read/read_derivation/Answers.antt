use Rattle.derivation_check.proofs.Again.{read_again}
use Rattle.derivation_check.proofs.read.read_derivation.Goals as goal

pub returns-clause-again : goal.returns-clause-again
returns-clause-again c =
    read_again c.args.bytes.now c.read_all.result (rw c.new.ensures at c.read_all.ensures.read) (rw c.new.ensures at c.read_all.ensures.fault)
