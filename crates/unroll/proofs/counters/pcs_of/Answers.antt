use Rattle.std.proofs.Common.{◌≡◌, ℕ, suc, ◌+◌, List, sym, subst, arith}
use Rattle.unroll.specs.Counters.{ArePcs}
use Rattle.unroll.specs.Walks.{IsStanding}
use Rattle.unroll.proofs.CounterLemmas.{pcs_next}
use Rattle.unroll.proofs.FaultLemmas.{has_named, named_fault}
use Rattle.unroll.proofs.counters.pcs_of.Goals as goal

pub named-requires : goal.named-requires
named-requires c = has_named c.args.graph.now.flat c.args.setup.now c.cycles.cycle c.in-Err.fault c.in-Err.ensures.fault

pub returns-in-Err-clause-fault : goal.returns-in-Err-clause-fault
returns-in-Err-clause-fault c =
    named_fault c.args.graph.now.flat c.args.setup.now c.args.cycles c.cycles.cycle c.in-Err.fault c.cycles-test.true c.in-Err.ensures.fault
    c.in_ok-named-in-Err.field-0 c.in_ok-named-in-Err.ensures

pub cycles-preserved : goal.cycles-preserved
cycles-preserved c =
    let more : suc c.cycles.cycle ≡ c.cycles.cycle + 1 = omega arith in
    record {
      standing = subst (λ (m : ℕ). IsStanding c.args.graph.now c.args.setup.now m c.next_pc.new.sim) more c.in-Ok.ensures.standing;
      so_far = subst (λ (ns : List ℕ). ArePcs c.args.graph.now.flat c.args.setup.now (c.cycles.cycle + 1) ns) (sym c.in_ok-add_pc-in-Ok.ensures)
          (pcs_next c.args.graph.now.flat c.args.setup.now c.cycles.cycle c.cycles.pcs c.in-Ok.pc c.in-Ok.ensures.pc c.cycles.invariant.so_far);
    }
