-- What a formula is made from, as contracts see it.
use Rattle.std.specs.Prelude.{◌≡◌, ℕ, ◌+◌, ◌*◌, ◌≤◌, length, Option}
use Rattle.coco_base.specs.declared.unrolled.Unrolled.{Unrolled}
use Rattle.coco_model.specs.Labels.{label_count}
use Rattle.coco_model.specs.UnrolledRuns.{IsUnrolledValue}
use Rattle.label_cone.specs.Coned.{Coned, IsConedRun}
use Rattle.probe_clauses.specs.RunViews.{RunView}
use Rattle.probe_clauses.specs.declared.query.Query.{Query}
use Rattle.probe_encode.specs.declared.source.Source.{Source}
use Rattle.probe_encode.specs.Formulas.{Encoding}

abbrev pub query_of : Option ℕ → ℕ → ℕ → Query
query_of clock order window = record { clock = clock; order = order; window = window }

abbrev pub encoding_of : RunView → Unrolled → Coned → Encoding
encoding_of view unrolled coned = record {
  view = view;
  cones = coned.cones;
  matters = coned.matters;
  table = unrolled.table;
  cycles = unrolled.cycles;
}

-- the nodes of an unrolled run of a graph, with its cones and a row for each cycle; an order from 1 to 64; and numbers
-- within the limits of runs
pub record IsSource (view : RunView) (unrolled : Unrolled) (coned : Coned) : Type 0 where
  pub unrolled_value : IsUnrolledValue unrolled
  pub bits : unrolled.bits ≡ view.gates.flat.bits
  pub ranks : view.ranks ≡ unrolled.ranks
  pub nodes : view.nodes ≡ unrolled.nodes
  pub cycles : unrolled.cycles ≡ length view.rows
  pub coned_run : IsConedRun unrolled view.order coned
  pub least : 1 ≤ view.order
  pub most : view.order ≤ 64
  pub few_bits : unrolled.bits ≤ 1000000
  pub few_cycles : unrolled.cycles ≤ 65536
  pub small : unrolled.bits * unrolled.cycles * (view.order + 1) ≤ 16000000
  pub few_labels : label_count unrolled.table unrolled.cycles ≤ 4096 + unrolled.bits * unrolled.cycles

abbrev pub encoding_in : Source → Encoding
encoding_in source = encoding_of source.run source.unrolled.now source.cones.now

abbrev pub IsGood : Source → Type 0
IsGood source = IsSource source.run source.unrolled.now source.cones.now
