-- The passes over bits and cycles: groups, near, probes, windows, links, what is reached, and pairs.
use Rattle.std.specs.Prelude.{ℕ, ◌+◌, Bool, false, cond, List, [], ◌∷◌, map, take, get_or}
use Rattle.circuit_clauses.specs.declared.signal.Signal.{Signal}
use Rattle.circuit_clauses.specs.declared.signal.Signal.TheVariants.{Constant}
use Rattle.circuit_clauses.specs.Signals.{negated}
use Rattle.clause_builds.specs.Builds.{Build, done, ◌>>=◌, each, through, fresh, demanded, tally}
use Rattle.clause_builds.specs.Rows.{signal_at}
use Rattle.probe_clauses.specs.declared.counted.Counted.{Counted}
use Rattle.probe_clauses.specs.declared.groups.Grouped.{Grouped}
use Rattle.probe_clauses.specs.declared.shown.Shown.{Shown}
use Rattle.probe_clauses.specs.Probings.{Probing, all_bits, all_cycles, probed, moving, is_moving, is_pair}
use Rattle.probe_clauses.specs.Rows.{at, picked, counted_row, counts_of, column, some_counted}
use Rattle.probe_clauses.specs.Windows.{windowed}
use Rattle.probe_clauses.specs.Walks.{walk_down}

-- a variable for each moving bit, "some chosen probe of it is active while it is not calm", of which at most the order
abbrev pub groups : Probing → Build (List Signal)
groups run = counted_row run.order (moving run) >>= (λ (all : Counted). done all.row)

-- by bit: it may be reached in some cycle from a chosen group
abbrev pub near_groups : Probing → List Signal → Build (List Signal)
near_groups run group = walk_down run (all_cycles run) group

abbrev pub grouped_by : List Signal → List Signal → Grouped
grouped_by group near = record { group = group; near = near }

-- groups, and what is near them
abbrev pub group_bits : Probing → Build Grouped
group_bits run =
    groups run >>= (λ (group : List Signal).
    near_groups run group >>= (λ (near : List Signal).
    done (grouped_by group near)))

-- the probes of a cycle, a variable for each bit that can be probed
abbrev pub probes_in : Probing → ℕ → Build Counted
probes_in run t = counted_row run.order (probed run)

-- at least one probe, and at most the order
abbrev pub bound_probes : Probing → List Counted → Build (Unit {0})
bound_probes run cycles =
    tally run.order (counts_of cycles) >>= (λ (count : List Signal). demanded (take 1 count))

abbrev pub probe_rows : Probing → Build (List Counted)
probe_rows run = each (probes_in run) (all_cycles run)

-- the probes of all cycles
abbrev pub probes : Probing → Build (List Counted)
probes run =
    probe_rows run >>= (λ (cycles : List Counted).
    bound_probes run cycles >>= (λ _.
    done cycles))

-- by bit and cycle: a probe of the bit is active, since its window has the cycle
abbrev pub activities : Probing → List Counted → Build (List (List Signal))
activities run cycles = each (λ b. windowed run.window (column cycles b)) (all_bits run)

-- by cycle: some probe is active
abbrev pub hot_cycles : Probing → List Counted → Build (List Signal)
hot_cycles run cycles = windowed run.window (some_counted cycles)

-- each of some signals implies another
abbrev pub imply : Signal → Signal → Unit {0} → Build (Unit {0})
imply group active none = demanded (negated active ∷ group ∷ [])

abbrev pub imply_all : Signal → List Signal → Build (Unit {0})
imply_all group actives = through (imply group) actives tt

-- a signal is true exactly where one of some others is
abbrev pub link : Signal → List Signal → Build (Unit {0})
link group actives = demanded (negated group ∷ actives) >>= (λ _. imply_all group actives)

abbrev pub link_where : Bool → Signal → List Signal → Build (Unit {0})
link_where wanted group actives = cond wanted (link group actives) (done tt)

-- the activities of a bit in the cycles in which it is not calm
abbrev pub moving_actives : Probing → List (List Signal) → ℕ → List Signal
moving_actives run active b = picked (map (λ t. run.moves t b) (all_cycles run)) (get_or active b [])

-- the group of a moving bit is chosen exactly where a probe of it is active in a cycle in which it is not calm
abbrev pub link_of : Probing → List Signal → List (List Signal) → ℕ → Unit {0} → Build (Unit {0})
link_of run group active b none = link_where (is_moving run b) (signal_at group b) (moving_actives run active b)

abbrev pub links : Probing → List Signal → List (List Signal) → Build (Unit {0})
links run group active = through (link_of run group active) (all_bits run) tt

-- a probe of the bit is active and the bit is not calm in a cycle
abbrev pub start_in : Probing → List (List Signal) → ℕ → ℕ → Signal
start_in run active t b = cond (run.moves t b) (at active b t) (Constant false)

abbrev pub starts_in : Probing → List (List Signal) → ℕ → List Signal
starts_in run active t = map (start_in run active t) (all_bits run)

-- by bit: some active probe reaches it in a cycle
abbrev pub reached_in : Probing → List (List Signal) → ℕ → Build (List Signal)
reached_in run active t = walk_down run (t ∷ []) (starts_in run active t)

-- by cycle and bit
abbrev pub reached : Probing → List (List Signal) → Build (List (List Signal))
reached run active = each (reached_in run active) (all_cycles run)

-- a chosen pair implies that its leaf is reached in the cycle or the next one, that its group is near, and that some
-- probe is active in the cycle or the next one
abbrev pub show_pair : Shown → ℕ → ℕ → Signal → Build (Unit {0})
show_pair shown t b pair =
    demanded (negated pair ∷ at shown.reached t b ∷ at shown.reached (t + 1) b ∷ []) >>= (λ _.
    demanded (negated pair ∷ signal_at shown.near b ∷ []) >>= (λ _.
    demanded (negated pair ∷ signal_at shown.hot t ∷ signal_at shown.hot (t + 1) ∷ [])))

-- a variable for a pair
abbrev pub chosen_pair : Shown → ℕ → ℕ → Build Signal
chosen_pair shown t b = fresh false >>= (λ (pair : Signal). show_pair shown t b pair >>= (λ _. done pair))

-- the same where there is a pair that can be chosen
abbrev pub pair_of : Probing → Shown → ℕ → ℕ → Build Signal
pair_of run shown t b = cond (is_pair run t b) (chosen_pair shown t b) (done (Constant false))

abbrev pub pairs_in : Probing → Shown → ℕ → Build (List Signal)
pairs_in run shown t = each (pair_of run shown t) (all_bits run)

abbrev pub pairs : Probing → Shown → Build (List (List Signal))
pairs run shown = each (pairs_in run shown) (all_cycles run)
