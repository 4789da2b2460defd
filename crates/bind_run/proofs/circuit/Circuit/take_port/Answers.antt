use Rattle.std.proofs.Common.{◌≡◌, [], ◌∷◌, ap}
use Rattle.bind_run.specs.Needs.{port_needs}
use Rattle.bind_run.specs.SeenNeeds.{seen_need}
use Rattle.bind_run.proofs.circuit.Circuit.take_port.Goals as goal

pub returns-in-Dmem : goal.returns-in-Dmem
returns-in-Dmem c =
    let p = ap port_needs c.in-Dmem.is in
    let e : seen_need c.reads-in-Dmem.result ∷ seen_need c.reads-in-Dmem-2.result ∷ seen_need c.reads-in-Dmem-3.result
    ∷ seen_need c.reads-in-Dmem-4.result ∷ seen_need c.reads-in-Dmem-5.result ∷ seen_need c.binds-in-Dmem.result ∷ []
    ≡ port_needs c.args.line.now = cc in
    rw (← e) c.take_each-in-Dmem.ensures
