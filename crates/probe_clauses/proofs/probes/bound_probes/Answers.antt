use Rattle.std.proofs.Common.{◌≡◌, List, take, refl}
use Rattle.circuit_clauses.specs.declared.signal.Signal.{Signal}
use Rattle.circuit_clauses.specs.Formulas.{Formula}
use Rattle.clause_builds.specs.Builds.{demanded, tally, made, after}
use Rattle.clause_builds.proofs.Leaving.{IsLeft, all_left, first_fits, next_left, last_left, left_fits}
use Rattle.probe_clauses.specs.declared.counted.Counted.{Counted}
use Rattle.probe_clauses.specs.Probings.{Probing, probing_of}
use Rattle.probe_clauses.specs.Rows.{counts_of}
use Rattle.probe_clauses.specs.Passes.{bound_probes}
use Rattle.probe_clauses.proofs.Picking.{first_of}
use Rattle.probe_clauses.proofs.probes.bound_probes.Goals as goal

demand_left : (f h : Formula) (run : Probing) (cycles : List Counted) (count : List Signal) → h ≡ after f (tally run.order (counts_of cycles))
    → count ≡ made f (tally run.order (counts_of cycles)) → IsLeft f (bound_probes run cycles) h (demanded (take 1 count))
demand_left f h run cycles count eh ec =
    next_left (tally run.order (counts_of cycles)) (λ (count : List Signal). demanded (take 1 count)) h count (all_left f (bound_probes run cycles)) eh ec

pub tally_of-requires : goal.tally_of-requires
tally_of-requires c =
    let run = probing_of c.args.run.now in
    rw (c.order.ensures, c.in_ok-counts.ensures) (first_fits (tally run.order (counts_of c.args.cycles.now)) (λ (count : List Signal). demanded (take 1 count)) (all_left c.args.form.now (bound_probes run c.args.cycles.now)) c.requires)

pub demand-requires : goal.demand-requires
demand-requires c =
    let run = probing_of c.args.run.now in
    let count = c.in_ok-count.count in
    rw (c.min.ensures, c.as_slice-signals.ensures, first_of count) (left_fits (demanded (take 1 count)) (demand_left c.args.form.now c.tally_of.new.form run c.args.cycles.now count
    (rw (c.order.ensures, c.in_ok-counts.ensures) at c.in_ok-count.ensures.formula) (rw (c.order.ensures, c.in_ok-counts.ensures) at c.in_ok-count.ensures.tally)) c.requires)

pub returns : goal.returns
returns c =
    let run = probing_of c.args.run.now in
    let count = c.in_ok-count.count in
    record {
      formula = (last_left (demanded (take 1 count)) c.demand.new.self tt (demand_left c.args.form.now c.tally_of.new.form run c.args.cycles.now count
          (rw (c.order.ensures, c.in_ok-counts.ensures) at c.in_ok-count.ensures.formula) (rw (c.order.ensures, c.in_ok-counts.ensures) at c.in_ok-count.ensures.tally))
          (rw (c.min.ensures, c.as_slice-signals.ensures, first_of count) at c.in_ok-demand.ensures.ok) refl).1;
    }
