use Rattle.std.proofs.Common.{arith}
use Rattle.bind_run.specs.Outcomes.IsBindFault.{memory}
use Rattle.bind_run.proofs.BindLemmas.{named_unbound}
use Rattle.bind_run.proofs.BoundLemmas.{few_fresh}
use Rattle.bind_run.proofs.SetupBound.{setup_bound}
use Rattle.bind_run.proofs.LabelLemmas.{labels_ports, labels_room}
use Rattle.bind_run.proofs.circuit.Circuit.finish.Goals as goal

pub returns-in-Some-clause-fault : goal.returns-in-Some-clause-fault
returns-in-Some-clause-fault c =
    named_unbound c.args.self.now.flat c.args.self.now.clock c.args.labels.now c.args.bound.now c.in-Some.bit c.unbound_fault.result
    c.requires.bound c.in-Some.ensures c.unbound_fault.ensures

pub setup_of-requires-clause-fresh : goal.setup_of-requires-clause-fresh
setup_of-requires-clause-fresh c =
    let f = few_fresh c.args.self.now.flat c.bits-bits.ensures.built.range c.args.self.now.clock c.args.labels.now.lines c.args.bound.now c.requires.bound in
    let e = c.bits-bits.ensures.bits in omega arith

pub returns-in-Ok-clause-setup : goal.returns-in-Ok-clause-setup
returns-in-Ok-clause-setup c = record {
  bound = record { bound = c.args.bound.now; by_lines = c.requires.bound; all = c.in-None.ensures };
  is = c.in-Ok.ensures.setup;
}

pub returns-in-Err-clause-fault : goal.returns-in-Err-clause-fault
returns-in-Err-clause-fault c = memory

pub setup_of-requires-clause-room : goal.setup_of-requires-clause-room
setup_of-requires-clause-room c = labels_room c.args.labels.now c.requires.labels

pub setup_of-requires-clause-ports : goal.setup_of-requires-clause-ports
setup_of-requires-clause-ports c = labels_ports c.args.labels.now c.requires.labels

pub returns-in-Ok-clause-bound : goal.returns-in-Ok-clause-bound
returns-in-Ok-clause-bound c =
    setup_bound c.args.self.now.flat c.args.self.now.clock c.args.image.now c.args.labels.now c.in-Ok.setup c.bits-bits.ensures.built.range
    c.bits-bits.ensures.built.one_driver c.bits-bits.ensures.built.clock c.requires.labels
    (record {
      bound = record { bound = c.args.bound.now; by_lines = c.requires.bound; all = c.in-None.ensures };
      is = c.in-Ok.ensures.setup;
    }) c.in-Ok.ensures.few
