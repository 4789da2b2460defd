-- A bound run with what its formula is written from, as the laws of formulas and of findings take it.
use Rattle.std.proofs.Common.{◌≡◌, ℕ, ◌+◌, ◌*◌, ◌≤◌, List, [], get_or, refl, sym, ◌∙◌, subst, arith}
use Rattle.std.proofs.Math.Nat.{mul-le-mul_left, mul_comm}
use Rattle.std.specs.Prelude.{All}
use Rattle.std.proofs.lemmas.List.Elements.{All-from_get_or}
use Rattle.coco_base.specs.declared.limits.Limits.{Limits}
use Rattle.coco_base.specs.declared.netlist.Flat.{Flat}
use Rattle.coco_base.specs.declared.setup.Setup.{Setup}
use Rattle.coco_base.specs.declared.unrolled.Unrolled.{Unrolled}
use Rattle.coco_model.specs.Cones.{cone_weight}
use Rattle.coco_model.specs.Labels.{label_count}
use Rattle.coco_model.specs.Reach.{Reach}
use Rattle.coco_model.specs.Setups.{IsBoundTo}
use Rattle.model_laws.specs.Laws.{CheckedRun}
use Rattle.walsh_laws.specs.Security.{SimulatedRun}
use Rattle.walsh_laws.specs.Unrolled.{UnrolledRun}
use Rattle.gate_graph.specs.Graphs.{Gates, IsBuilt, rank_in}
use Rattle.gate_graph.proofs.Items.{some_at}
use Rattle.calm_reach.specs.CalmRows.{Calmness, HasPlaces, calmness_of}
use Rattle.stable_sets.specs.Reached.{AreCalmReach, AreRows}
use Rattle.label_cone.specs.Coned.{Coned}
use Rattle.label_cone.specs.NodeCones.{cone_at}
use Rattle.probe_encode.specs.Sources.{IsSource}
use Rattle.formula_laws.specs.Runs.{IsFormulaRun}
use Rattle.run_verdict.specs.Stops.{AreRunLimits}
use Rattle.run_verdict.specs.declared.formula.Asked.{Asked}
use Rattle.run_verdict.specs.Written.{IsAsked, IsWrittenFrom, view_in}

-- a bound run within the limits, with what its formula is written from
pub record IsRunSource (gates : Gates) (setup : Setup) (asked : Asked) (limits : Limits) (u : Unrolled) (rows : List Calmness)
    (coned : Coned) : Type 0 where
  pub bound : IsBoundTo gates.flat setup
  pub asked_is : IsAsked asked
  pub limits_are : AreRunLimits gates.flat limits
  pub from : IsWrittenFrom gates setup asked limits.weight u rows coned

empty_row : Calmness
empty_row = calmness_of [] 0 []

all_have_places : (flat : Flat) (cycles : ℕ) (rows : List Calmness) → AreRows flat cycles rows → All (HasPlaces flat) rows
all_have_places flat cycles rows are =
    All-from_get_or (HasPlaces flat) rows empty_row (λ i below. are.each i (get_or rows i empty_row) (some_at rows i empty_row below))

-- a run has no more fresh labels than bits in cycles
few_fresh : (declared per_cycle bits cycles : ℕ) → declared ≤ 4096 → per_cycle ≤ bits → declared + cycles * per_cycle ≤ 4096 + bits * cycles
few_fresh declared per_cycle bits cycles few fresh =
    let less : cycles * per_cycle ≤ cycles * bits = mul-le-mul_left cycles fresh in
    let same : cycles * bits ≡ bits * cycles = mul_comm cycles bits in
    omega (arith, less, same, few)

module _ (gates : Gates) (setup : Setup) (asked : Asked) (limits : Limits) (u : Unrolled) (rows : List Calmness) (coned : Coned)
    (s : IsRunSource gates setup asked limits u rows coned) where
  bits_are : u.bits ≡ gates.flat.bits
  bits_are = s.from.of_graph.bits

  cycles_are : u.cycles ≡ asked.cycles
  cycles_are = s.from.unrolled.is_cycles

  few_labels : label_count u.table u.cycles ≤ 4096 + u.bits * u.cycles
  few_labels = few_fresh u.table.declared u.table.per_cycle u.bits u.cycles
      (subst (λ table. table.declared ≤ 4096) (sym s.from.unrolled.same_table) s.bound.table.few)
      (subst (λ table. table.per_cycle ≤ u.bits) (sym s.from.unrolled.same_table)
      (subst (λ n. setup.table.per_cycle ≤ n) (sym bits_are) s.bound.fresh_labels))

  small : u.bits * u.cycles * (asked.order + 1) ≤ 16000000
  small =
      let within : u.bits * u.cycles * (asked.order + 1) + cone_weight (cone_at coned.cones) 0 u.nodes ≤ limits.weight = s.from.within in
      let most = s.limits_are.weight in
      omega (arith, within, most)

  pub is_source : IsSource (view_in gates setup asked u rows) u coned
  is_source = record {
    unrolled_value = s.from.unrolled.good;
    bits = bits_are;
    ranks = refl;
    nodes = refl;
    cycles = cycles_are ∙ sym s.from.are_rows.as_long;
    coned_run = s.from.cones;
    least = s.asked_is.some_order;
    most = s.asked_is.order;
    few_bits = subst (λ n. n ≤ 1000000) (sym bits_are) s.limits_are.bits;
    few_cycles = subst (λ n. n ≤ 65536) (sym cycles_are) s.asked_is.cycles;
    small = small;
    few_labels = few_labels;
  }

module _ (gates : Gates) (setup : Setup) (asked : Asked) (limits : Limits) (u : Unrolled) (rows : List Calmness) (coned : Coned)
    (built : IsBuilt gates) (s : IsRunSource gates setup asked limits u rows coned) where
  -- the run of the formula, for what probes reach by the rows
  pub formula_run : (reach : Reach) → AreCalmReach gates.flat rows reach → IsFormulaRun (view_in gates setup asked u rows) u coned reach
  formula_run reach reached = record {
    built = built;
    source = is_source gates setup asked limits u rows coned s;
    of_graph = s.from.of_graph;
    places = all_have_places gates.flat asked.cycles rows s.from.are_rows;
    lasting = s.asked_is.some_window;
    reached = reached;
    still = s.from.tell.still;
  }

  -- the unrolled run, for the same
  unfoldable pub unrolled_run : (reach : Reach) → AreCalmReach gates.flat rows reach → UnrolledRun gates.flat setup asked.cycles
  unrolled_run reach reached = record {
    rank = rank_in gates;
    ranked = built.ranked;
    driven = built.one_driver;
    range = built.range;
    bound_to = s.bound;
    unrolled = u;
    is = s.from.unrolled;
    reach = reach;
    reached = s.from.tell.reach reach reached;
  }

  pub simulated_run : SimulatedRun gates.flat setup asked.cycles
  simulated_run = record {
    rank = rank_in gates;
    row = s.from.unrolled.row;
    word = s.from.unrolled.word;
    is = record {
      ranked = built.ranked;
      driven = built.one_driver;
      range = built.range;
      bound_to = s.bound;
      known = s.from.unrolled.stepped.known;
      controls = λ t below. (s.from.unrolled.stepped.good t below).controls;
    };
  }

  pub checked_run : CheckedRun gates.flat setup asked.cycles
  checked_run = record {
    rank = rank_in gates;
    row = s.from.unrolled.row;
    word = s.from.unrolled.word;
    is = record {
      ranked = built.ranked;
      bound = s.bound.bound;
      has_controls = s.bound.controls;
      known = s.from.unrolled.stepped.known;
      controls = λ t below. (s.from.unrolled.stepped.good t below).controls;
    };
  }
