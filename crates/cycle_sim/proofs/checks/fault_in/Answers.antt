use Rattle.std.proofs.Common.{refl}
use Rattle.cycle_sim.proofs.checks.fault_in.Goals as goal

pub returns : goal.returns
returns c =
    let o = c.in_ok-address.ensures in
    (record { controls = c.in_default.ensures; resets = c.in_default-active_reset.ensures; place = o.place; first = o.first; asked = o.asked }, refl)
