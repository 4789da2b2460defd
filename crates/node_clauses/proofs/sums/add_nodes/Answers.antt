use Rattle.std.proofs.Common.{◌≡◌, ◌-◌, arith}
use Rattle.clause_builds.proofs.Leaving.{left_as, next_left, none_left, first_fits}
use Rattle.node_clauses.specs.Sums.{add_node, add_nodes, run_of}
use Rattle.node_clauses.proofs.SumLemmas.{last_first}
use Rattle.node_clauses.proofs.sums.add_nodes.Goals as goal

pub add_node-requires-clause-fits : goal.add_node-requires-clause-fits
add_node-requires-clause-fits c =
    let run = run_of c.args.run.now in
    first_fits (add_node run (c.nodes.left - 1) c.nodes.sums) (add_nodes run (c.nodes.left - 1))
    (left_as _ c.nodes.invariant.left (last_first run c.nodes.left c.nodes.sums (omega arith))) c.requires.fits

pub nodes-preserved : goal.nodes-preserved
nodes-preserved c =
    let run = run_of c.args.run.now in
    record {
      left = next_left (add_node run (c.nodes.left - 1) c.nodes.sums) (add_nodes run (c.nodes.left - 1)) c.add_node.new.form c.add_node.new.sums
          (left_as _ c.nodes.invariant.left (last_first run c.nodes.left c.nodes.sums (omega arith))) c.in_ok-add_node.ensures.formula c.in_ok-add_node.ensures.sums;
      within = omega (arith, c.nodes.invariant.within);
      sized = c.in_ok-add_node.ensures.sized;
    }

pub returns-clause-sums : goal.returns-clause-sums
returns-clause-sums c =
    let e : c.nodes.left ≡ 0 = omega arith in
    (none_left c.nodes.sums (rw e at c.nodes.invariant.left)).0

pub returns-clause-formula : goal.returns-clause-formula
returns-clause-formula c =
    let e : c.nodes.left ≡ 0 = omega arith in
    (none_left c.nodes.sums (rw e at c.nodes.invariant.left)).1
