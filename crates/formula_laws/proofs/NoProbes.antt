-- Without bits or without cycles the part about probes takes no variable and one clause.
use Rattle.std.proofs.Common.{◌≡◌, ℕ, ◌*◌, Bool, true, false, ◌&&◌, List, [], ◌∷◌, length, map, refl, sym, ap, ◌∙◌, subst, arith}
use Rattle.std.specs.List.{list_any, range_with_len}
use Rattle.std.proofs.lemmas.List.FromFn.{length-map-range_with_len}
use Rattle.circuit_clauses.specs.declared.signal.Signal.{Signal}
use Rattle.clause_builds.specs.Builds.{done}
use Rattle.clause_builds.specs.Rows.{signal_at}
use Rattle.clause_builds.proofs.Sizing.{Takes, Makes, takes_more, takes-done, takes-bind, takes-bind_of, makes-bind, makes-done, makes-each}
use Rattle.probe_clauses.specs.Probings.{Probing, all_bits, all_cycles, can_probe, probed, is_moving, moving}
use Rattle.probe_clauses.specs.Rows.{counted_row, column, some_counted}
use Rattle.probe_clauses.specs.Walks.{pass_at, pass_on, walk_down}
use Rattle.probe_clauses.specs.Windows.{windowed}
use Rattle.probe_clauses.specs.Passes.{groups, near_groups, grouped_by, group_bits, probes_in, probe_rows, bound_probes, probes, activities, hot_cycles, moving_actives, link_of, link_where, links, reached_in, reached, pair_of, pairs_in, pairs}
use Rattle.probe_clauses.specs.Parts.{shown_by, part_of, shown_of, probe_part}
use Rattle.probe_clauses.proofs.Sizes.{IsSized, takes-walk_down}
use Rattle.probe_laws.proofs.Rows.{Counted, Grouped, Shown}
use Rattle.formula_laws.proofs.FalseRows.{windowed_nothing}
use Rattle.formula_laws.proofs.NoCounts.{HasNoCount, HaveNoCounts, AreUnwanted, each_nothing, all_nothing, each_of_none, none_made, through_none, empty_row, empty_count, unwanted_row, no_counts, none_false, bound_nothing}

-- ---- the part, by its passes

-- nothing is counted in cycles, and what is active in them takes nothing
record AreIdle (run : Probing) (cycles : List Counted) : Type 0 where
  counts : HaveNoCounts cycles
  active : Takes (activities run cycles) 0 0

-- no pass takes anything, but for the demand that there is a probe
record TakeNothing (run : Probing) : Type 0 where
  groups : (group : List Signal) → Takes (near_groups run group) 0 0
  moving : Takes (counted_row run.order (moving run)) 0 0
  rows : Takes (probe_rows run) 0 0
  idle : Makes (AreIdle run) (probe_rows run)
  links : (group : List Signal) (active : List (List Signal)) → Takes (links run group active) 0 0
  reached : (active : List (List Signal)) → Takes (reached run active) 0 0
  pairs : (shown : Shown) → Takes (pairs run shown) 0 0

module _ (run : Probing) (none : TakeNothing run) where
  groups_nothing : Takes (groups run) 0 0
  groups_nothing = takes-bind (counted_row run.order (moving run)) (λ (all : Counted). done all.row) 0 0 0 0 none.moving (λ all. takes-done all.row)

  group_bits_nothing : Takes (group_bits run) 0 0
  group_bits_nothing =
      takes-bind (groups run) _ 0 0 0 0 groups_nothing
      (λ group. takes-bind (near_groups run group) _ 0 0 0 0 (none.groups group) (λ near. takes-done (grouped_by group near)))

  probes_nothing : Takes (probes run) 0 1
  probes_nothing =
      takes-bind_of (AreIdle run) (probe_rows run) _ 0 0 0 1 none.rows none.idle
      (λ cycles h. takes-bind (bound_probes run cycles) _ 0 1 0 0 (bound_nothing run cycles h.counts) (λ all. takes-done cycles))

  probes_idle : Makes (AreIdle run) (probes run)
  probes_idle =
      makes-bind (AreIdle run) (AreIdle run) (probe_rows run) _ none.idle
      (λ cycles h. makes-bind (λ (u : Unit {0}). Unit {0}) (AreIdle run) (bound_probes run cycles) _ (λ var. tt)
      (λ u v. makes-done (AreIdle run) cycles h))

  shown_nothing : (all : Grouped) (cycles : List Counted) → AreIdle run cycles → Takes (shown_of run all cycles) 0 0
  shown_nothing all cycles h =
      takes-bind (activities run cycles) _ 0 0 0 0 h.active
      (λ active. takes-bind (hot_cycles run cycles) _ 0 0 0 0 (windowed_nothing run.window (some_counted cycles) (none_false cycles h.counts))
      (λ hot. takes-bind (links run all.group active) _ 0 0 0 0 (none.links all.group active)
      (λ u. takes-bind (reached run active) _ 0 0 0 0 (none.reached active) (λ reached. takes-done (shown_by reached all.near hot)))))

  part_nothing : Takes (probe_part run) 0 1
  part_nothing =
      takes-bind (group_bits run) _ 0 0 0 1 group_bits_nothing
      (λ all. takes-bind_of (AreIdle run) (probes run) _ 0 1 0 0 probes_nothing probes_idle
      (λ cycles h. takes-bind (shown_of run all cycles) _ 0 0 0 0 (shown_nothing all cycles h)
      (λ shown. takes-bind (pairs run shown) _ 0 0 0 0 (none.pairs shown) (λ rows. takes-done (part_of cycles rows)))))

-- ---- without bits

module _ (run : Probing) (sized : IsSized run) (e : run.bits ≡ 0) where
  no_bit : all_bits run ≡ []
  no_bit = ap (range_with_len 0) e

  walk_nothing : (times : List ℕ) (row : List Signal) → Takes (walk_down run times row) 0 0
  walk_nothing times row =
      takes_more (walk_down run times row) (run.bits * 4) (run.bits * 16) 0 0 (takes-walk_down run times row sized) (omega (arith, e)) (omega (arith, e))

  probed_none : length (probed run) ≡ 0
  probed_none = length-map-range_with_len (can_probe run) 0 run.bits ∙ e

  rows_idle : (cycles : List Counted) → HaveNoCounts cycles → AreIdle run cycles
  rows_idle cycles h = record { counts = h; active = each_of_none (λ b. windowed run.window (column cycles b)) (all_bits run) no_bit }

  pub no_bits : Takes (probe_part run) 0 1
  no_bits = part_nothing run (record {
    groups = λ group. walk_nothing (all_cycles run) group;
    moving = empty_row run.order (moving run) (length-map-range_with_len (is_moving run) 0 run.bits ∙ e) sized.order;
    rows = each_nothing (probes_in run) (all_cycles run) (λ t. empty_row run.order (probed run) probed_none sized.order);
    idle = λ var. rows_idle _ (no_counts (length (all_cycles run)) _
        (makes-each HasNoCount (probes_in run) (all_cycles run) (λ t. empty_count run.order (probed run) probed_none sized.order) var));
    links = λ group active. through_none (link_of run group active) (all_bits run) tt no_bit;
    reached = λ active. each_nothing (reached_in run active) (all_cycles run) (λ t. walk_nothing (t ∷ []) _);
    pairs = λ shown. each_nothing (pairs_in run shown) (all_cycles run) (λ t. each_of_none (pair_of run shown t) (all_bits run) no_bit);
  })

-- ---- without cycles

and_never : (a b : Bool) → b ≡ false → (a && b) ≡ false
and_never true b e = e
and_never false b e = refl

module _ (run : Probing) (sized : IsSized run) (e : run.cycles ≡ 0) where
  no_cycle : all_cycles run ≡ []
  no_cycle = ap (range_with_len 0) e

  never : (b : ℕ) → is_moving run b ≡ false
  never b = and_never (can_probe run b) (list_any (λ t. run.moves t b) (all_cycles run)) (ap (list_any (λ t. run.moves t b)) no_cycle)

  all_unwanted : (bits : List ℕ) → AreUnwanted (map (is_moving run) bits)
  all_unwanted [] = tt
  all_unwanted (b ∷ bits) = (never b, all_unwanted bits)

  near_nothing : (group : List Signal) → Takes (walk_down run [] group) 0 0
  near_nothing group =
      all_nothing (pass_on run []) run.cells group
      (λ cell row. all_nothing (pass_at run [] cell) (range_with_len 0 (length (run.wires cell))) row (λ place r. takes-done r))

  none_idle : (cycles : List Counted) → cycles ≡ [] → AreIdle run cycles
  none_idle cycles is = subst (AreIdle run) (sym is) (record {
    counts = tt;
    active = each_nothing (λ b. windowed run.window (column [] b)) (all_bits run) (λ b. windowed_nothing run.window [] tt);
  })

  pub no_cycles : Takes (probe_part run) 0 1
  no_cycles = part_nothing run (record {
    groups = λ group. subst (λ times. Takes (walk_down run times group) 0 0) (sym no_cycle) (near_nothing group);
    moving = unwanted_row run.order (moving run) (all_unwanted (all_bits run)) sized.order;
    rows = each_of_none (probes_in run) (all_cycles run) no_cycle;
    idle = λ var. none_idle _ (none_made (probes_in run) (all_cycles run) no_cycle var);
    links = λ group active. all_nothing (link_of run group active) (all_bits run) tt
        (λ b u. subst (λ w. Takes (link_where w (signal_at group b) (moving_actives run active b)) 0 0) (sym (never b)) (takes-done tt));
    reached = λ active. each_of_none (reached_in run active) (all_cycles run) no_cycle;
    pairs = λ shown. each_of_none (pairs_in run shown) (all_cycles run) no_cycle;
  })
