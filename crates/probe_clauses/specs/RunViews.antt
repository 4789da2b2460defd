-- What contracts see of a run that is probed.
use Rattle.std.specs.Prelude.{ℕ, ◌≤◌, List, Option, All}
use Rattle.coco_base.specs.declared.unrolled.Node.{Node}
use Rattle.coco_base.specs.declared.unrolled.Unrolled.{Unrolled}
use Rattle.gate_graph.specs.Graphs.{Gates}
use Rattle.calm_reach.specs.CalmRows.{Calmness, HasPlaces}
use Rattle.probe_clauses.specs.declared.query.Query.{Query}

-- a graph, the ranks and nodes of its run, what is calm in each cycle, the clock, how many probes there may be, and how
-- many cycles each lasts
pub record RunView : Type 0 where
  pub gates : Gates
  pub ranks : List ℕ
  pub nodes : List Node
  pub rows : List Calmness
  pub clock : Option ℕ
  pub order : ℕ
  pub window : ℕ

abbrev pub view_of : Gates → Unrolled → List Calmness → Query → RunView
view_of gates unrolled rows query =
    record {
      gates = gates;
      ranks = unrolled.ranks;
      nodes = unrolled.nodes;
      rows = rows;
      clock = query.clock;
      order = query.order;
      window = query.window;
    }

-- each row has the bits and cells of the graph, and a probe lasts at least a cycle
pub record IsRunView (view : RunView) : Type 0 where
  pub places : All (HasPlaces view.gates.flat) view.rows
  pub lasting : 1 ≤ view.window
