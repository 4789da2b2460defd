use Rattle.std.proofs.Common.{◌≡◌, ℕ, suc, ◌+◌, List, sym, ◌∙◌, subst, arith}
use Rattle.coco_base.specs.declared.unrolled.Node.{Node}
use Rattle.coco_model.specs.Stepped.{HasNoFault}
use Rattle.unroll.specs.Walks.{HasNodes, IsDone, IsStanding}
use Rattle.unroll.proofs.FaultLemmas.{run_fewer, has_named, named_fault, nodes_at_end}
use Rattle.unroll.proofs.unrolling.nodes_of.Goals as goal

pub cycles-init : goal.cycles-init
cycles-init c =
    let new = c.in_ok-sim.ensures in
    record {
      standing = record { gates_are = new.gates_are; setup_is = new.setup_is; cycles_are = new.no_cycle; no_fault = new.no_fault };
      sized = c.in_ok-walk.ensures.sized;
      good = λ t e. absurd (omega arith);
      done = λ run is. c.in_ok-walk.ensures.done run;
    }

pub named-requires : goal.named-requires
named-requires c = has_named c.args.graph.now.flat c.args.setup.now c.cycles.cycle c.in-Err.fault c.in-Err.ensures.fault

pub returns-in-Err-clause-fault : goal.returns-in-Err-clause-fault
returns-in-Err-clause-fault c =
    named_fault c.args.graph.now.flat c.args.setup.now c.args.cycles c.cycles.cycle c.in-Err.fault c.cycles-test.true c.in-Err.ensures.fault
    c.in_ok-named-in-Err.field-0 c.in_ok-named-in-Err.ensures

pub cycles-preserved : goal.cycles-preserved
cycles-preserved c =
    let g = c.args.graph.now in
    let setup = c.args.setup.now in
    let n = c.cycles.cycle in
    let more : suc n ≡ n + 1 = omega arith in
    let below = c.cycles-test.true in
    let walk = c.add_next.new.walk in
    record {
      standing = subst (λ (m : ℕ). IsStanding g setup m c.add_next.new.sim) more c.in-Ok.ensures.standing;
      sized = c.in-Ok.ensures.sized c.args.cycles c.cycles.invariant.sized;
      good = λ t e. subst (HasNoFault g.flat setup) (more ∙ e) c.in-Ok.ensures.good;
      done = λ run is. subst (λ (m : ℕ). IsDone g setup run m walk) more
          (c.in-Ok.ensures.done run (run_fewer g setup c.args.cycles (suc n) run (omega arith) is) (c.cycles.invariant.done run is));
    }

pub returns-clause-nodes : goal.returns-clause-nodes
returns-clause-nodes c =
    let end : c.cycles.cycle ≡ c.args.cycles = let a = c.cycles-test.false in let b = c.cycles.auto.cycle-end in omega arith in
    subst (λ (ns : List Node). HasNodes c.args.graph.now c.args.setup.now c.args.cycles ns) (sym c.from_vec.ensures)
    (nodes_at_end c.args.graph.now c.args.setup.now c.args.cycles c.cycles.cycle c.cycles.walk c.requires.some end c.cycles.invariant.sized
    c.cycles.invariant.good c.cycles.invariant.done)
