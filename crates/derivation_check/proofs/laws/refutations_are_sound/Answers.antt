use Rattle.derivation_check.proofs.Refutations.{refuted}
use Rattle.derivation_check.proofs.laws.refutations_are_sound.Goals as goal

pub returns : goal.returns
returns c = λ store lines values verdict. refuted store lines values verdict.0 verdict.1
