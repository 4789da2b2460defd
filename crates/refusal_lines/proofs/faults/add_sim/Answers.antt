use Rattle.std.proofs.Common.{◌≡◌, refl, append_assoc}
use Rattle.std.proofs.lemmas.Result.{IfOk-equal}
use Rattle.refusal_lines.proofs.faults.add_sim.Goals as goal

pub returns-in-ResetActive : goal.returns-in-ResetActive
returns-in-ResetActive c =
    rw c.in-ResetActive.is
    (IfOk-equal c.add_in_cycle-in-ResetActive.result _ _ _ c.add_in_cycle-in-ResetActive.ensures (rw append_assoc refl))
