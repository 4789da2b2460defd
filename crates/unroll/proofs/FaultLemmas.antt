-- The faults of a walk, and its end.
use Rattle.std.proofs.Common.{◌≡◌, ℕ, zero, suc, ◌<◌, ◌≤◌, sym, ◌∙◌, ap, subst, arith}
use Rattle.coco_base.specs.declared.netlist.Flat.{Flat}
use Rattle.coco_base.specs.declared.setup.Setup.{Setup}
use Rattle.coco_model.specs.Known.{Row}
use Rattle.coco_model.specs.Stepped.{HasNoFault}
use Rattle.model_laws.proofs.Fewer.{fewer_cycles_law}
use Rattle.model_laws.specs.RunLaws.{FewerCyclesLaw}
use Rattle.gate_graph.proofs.Items.{place_below}
use Rattle.gate_graph.specs.Graphs.{Gates}
use Rattle.cycle_sim.specs.Simulations.{IsCycleFault}
use Rattle.cycle_sim.specs.declared.fault.SimFault.{SimFault}
use Rattle.cycle_sim.specs.declared.fault.SimFault.TheVariants.{ControlDepends, ResetActive, AddressOutside}
use Rattle.std.specs.Prelude.{Some}
use Rattle.unroll.specs.RootedRuns.{RootedRun}
use Rattle.unroll.specs.Unrolls.{IsFaultIn, IsFirstFault, HasNamed, IsNamedFault, IsSimFault, fault_name}
use Rattle.unroll.specs.Walks.{IsRunTo, IsSized, IsDone, HasNodes}
use Rattle.unroll.specs.declared.cycle.Walk.{Walk}
use Rattle.unroll.specs.declared.fault.UnrollFault.{UnrollFault}
use Rattle.unroll.specs.declared.fault.UnrollFault.TheVariants.{TooManyNodes, Sim, Memory}

-- what is known over some cycles is so over fewer
pub run_fewer : (g : Gates) (setup : Setup) (cycles fewer : ℕ) (run : RootedRun) → fewer ≤ cycles → IsRunTo g setup cycles run
    → IsRunTo g setup fewer run
unfolding FewerCyclesLaw
run_fewer g setup cycles fewer run h is =
    let law = fewer_cycles_law g.flat setup cycles fewer h in
    record { known = law.known run.row run.word is.known; roots = law.roots run.row run.root run.rooted is.roots }

fault_named : (flat : Flat) (setup : Setup) (row : Row) (t : ℕ) (fault : SimFault) → IsCycleFault flat setup row t (Some fault) → HasNamed flat setup fault
fault_named flat setup row t (ControlDepends control cycle) (first, same) = place_below setup.controls control first.member first.at
fault_named flat setup row t (ResetActive flop cycle) (is, same) = place_below flat.flops flop is.first.member is.first.at
fault_named flat setup row t (AddressOutside cycle address) h = tt

-- the fault of a cycle names what is there
pub has_named : (flat : Flat) (setup : Setup) (cycle : ℕ) (fault : SimFault) → IsFaultIn flat setup cycle fault → HasNamed flat setup fault
has_named flat setup cycle fault is = fault_named flat setup (is.row cycle) cycle fault is.fault_is

-- a fault of a cycle with its name is that of the simulation
pub named_fault : (flat : Flat) (setup : Setup) (cycles cycle : ℕ) (fault : SimFault) → cycle < cycles → IsFaultIn flat setup cycle fault
    → (found : UnrollFault) → IsNamedFault flat setup fault found → IsSimFault flat setup cycles found
named_fault flat setup cycles cycle fault below is (TooManyNodes count limit) h = absurd h
named_fault flat setup cycles cycle fault below is (Sim found name) (same, name_is) = (
  subst (IsFirstFault flat setup cycles) (sym same) (record { cycle = cycle; below = below; first = is }),
  name_is ∙ ap (fault_name flat setup) (sym same),
)
named_fault flat setup cycles cycle fault below is Memory h = absurd h

-- the nodes of a walk over all cycles
pub nodes_at_end : (g : Gates) (setup : Setup) (cycles n : ℕ) (walk : Walk) → 0 < cycles → n ≡ cycles → IsSized g cycles walk
    → ((t : ℕ) → n ≡ suc t → HasNoFault g.flat setup (suc t))
    → ((run : RootedRun) → IsRunTo g setup cycles run → IsDone g setup run n walk) → HasNodes g setup cycles walk.nodes.items
nodes_at_end g setup zero n walk some end sized good done = absurd (omega arith)
nodes_at_end g setup (suc t) n walk some end sized good done = record {
  as_long = sized.nodes;
  no_fault = good t end;
  all = λ run is.
      let walked = subst (λ (m : ℕ). IsDone g setup run m walk) end (done run is) in
      record { nodes_are = walked.nodes_are; others = walked.others };
}
