-- How many variables and clauses all passes take together.
use Rattle.std.proofs.Common.{◌≡◌, ℕ, zero, suc, ◌+◌, ◌*◌, ◌≤◌, false, List, [], ◌∷◌, length, map, take, get_or, refl, ap, ◌∙◌, subst, arith}
use Rattle.std.specs.Prelude.{sum_by}
use Rattle.std.proofs.lemmas.List.{length-map}
use Rattle.std.proofs.lemmas.List.FromFn.{length-range_with_len, length-map-range_with_len}
use Rattle.std.proofs.lemmas.List.Sums.{sum_by-cons}
use Rattle.circuit_clauses.specs.declared.signal.Signal.{Signal}
use Rattle.circuit_clauses.specs.declared.signal.Signal.TheVariants.{Constant}
use Rattle.circuit_clauses.specs.Signals.{negated}
use Rattle.tally_clauses.specs.Counts.{potential}
use Rattle.tally_clauses.proofs.Charges.{AllShort}
use Rattle.clause_builds.specs.Builds.{done, ◌>>=◌, fresh, demanded, tally}
use Rattle.clause_builds.specs.Rows.{signal_at}
use Rattle.clause_builds.proofs.Sizing.{Takes, Makes, AreAll, takes_more, takes-done, makes-done, takes-bind, takes-bind_of, makes-bind, takes-each, takes-through, makes-each, takes-fresh, takes-demanded}
use Rattle.clause_builds.proofs.Tallying.{takes-tally}
use Rattle.probe_clauses.specs.declared.counted.Counted.{Counted}
use Rattle.probe_clauses.specs.declared.shown.Shown.{Shown}
use Rattle.probe_clauses.specs.declared.groups.Grouped.{Grouped}
use Rattle.probe_clauses.specs.Probings.{Probing, all_bits, all_cycles, can_probe, probed, is_moving, moving, is_pair}
use Rattle.probe_clauses.specs.Rows.{at, counted_row, counts_of, column, some_counted}
use Rattle.probe_clauses.specs.Windows.{windowed}
use Rattle.probe_clauses.specs.Passes.{groups, near_groups, grouped_by, group_bits, probes_in, probe_rows, bound_probes, probes, activities, hot_cycles, imply, imply_all, link, moving_actives, link_of, links, starts_in, reached_in, reached, show_pair, chosen_pair, pair_of, pairs_in, pairs}
use Rattle.probe_clauses.specs.Parts.{shown_by, part_of, shown_of, probe_part}
use Rattle.probe_clauses.proofs.Sizes.{IsSized, worth_of, IsCountedRow, length-picked, takes-cond, free, takes-counted, makes-counted, takes-walk_down, takes-windowed}

-- groups
takes-groups : (run : Probing) → IsSized run → Takes (groups run) (run.bits + run.bits * worth_of run.order) (4 * (run.bits * worth_of run.order))
takes-groups run sized =
    let w = run.bits * worth_of run.order in
    takes_more (groups run) (run.bits + w + 0) (4 * w + 0) (run.bits + w) (4 * w)
    (takes-bind (counted_row run.order (moving run)) (λ (all : Counted). done all.row) (run.bits + w) (4 * w) 0 0
    (takes-counted run.order run.bits (moving run) (length-map-range_with_len (is_moving run) 0 run.bits) sized.order) (λ (all : Counted). takes-done all.row)) (omega arith) (omega arith)

takes-group_bits : (run : Probing) → IsSized run → Takes (group_bits run) (run.bits * 5 + run.bits * worth_of run.order) (run.bits * 16 + 4 * (run.bits * worth_of run.order))
takes-group_bits run sized =
    let b = run.bits in
    let w = b * worth_of run.order in
    takes_more (group_bits run) (b + w + (b * 4 + 0)) (4 * w + (b * 16 + 0)) (b * 5 + w) (b * 16 + 4 * w)
    (takes-bind (groups run) (λ (group : List Signal). near_groups run group >>= (λ (near : List Signal). done (grouped_by group near))) (b + w) (4 * w) (b * 4 + 0) (b * 16 + 0) (takes-groups run sized)
    (λ (group : List Signal). takes-bind (near_groups run group) (λ (near : List Signal). done (grouped_by group near)) (b * 4) (b * 16) 0 0 (takes-walk_down run (all_cycles run) group sized) (λ (near : List Signal). takes-done (grouped_by group near)))) (omega arith) (omega arith)

-- probes
abbrev pub AreCounted : Probing → List Counted → Type 0
AreCounted run cycles = AreAll (IsCountedRow run.order run.bits) (length (all_cycles run)) cycles

takes-probe_rows : (run : Probing) → IsSized run → Takes (probe_rows run) (run.cycles * (run.bits + run.bits * worth_of run.order)) (run.cycles * (4 * (run.bits * worth_of run.order)))
takes-probe_rows run sized =
    let b = run.bits in
    let w = b * worth_of run.order in
    let e : length (all_cycles run) ≡ run.cycles = length-range_with_len 0 run.cycles in
    subst (λ (n : ℕ). Takes (probe_rows run) (n * (b + w)) (n * (4 * w))) e
    (takes-each (probes_in run) (all_cycles run) (b + w) (4 * w) (λ (t : ℕ). takes-counted run.order b (probed run) (length-map-range_with_len (can_probe run) 0 b) sized.order))

makes-probe_rows : (run : Probing) → IsSized run → Makes (AreCounted run) (probe_rows run)
makes-probe_rows run sized =
    makes-each (IsCountedRow run.order run.bits) (probes_in run) (all_cycles run) (λ (t : ℕ). makes-counted run.order run.bits (probed run) (length-map-range_with_len (can_probe run) 0 run.bits) sized.order)

as_many : {Y : Type 0} (P : Y → Type 0) (n : ℕ) (ys : List Y) → AreAll P n ys → length ys ≡ n
as_many P zero [] h = refl
as_many P zero (y ∷ ys) h = absurd h
as_many P (suc n) [] h = absurd h
as_many P (suc n) (y ∷ ys) h = ap suc (as_many P n ys h.1)

short_counts : (limit n m : ℕ) (cycles : List Counted) → AreAll (IsCountedRow limit n) m cycles → AllShort limit (counts_of cycles)
short_counts limit n zero [] h = tt
short_counts limit n zero (c ∷ cycles) h = absurd h
short_counts limit n (suc m) [] h = absurd h
short_counts limit n (suc m) (c ∷ cycles) h = (h.0.short, short_counts limit n m cycles h.1)

worth_counts : (limit n m : ℕ) (cycles : List Counted) → AreAll (IsCountedRow limit n) m cycles → sum_by (potential limit) (counts_of cycles) ≤ m * (n * worth_of limit)
worth_counts limit n zero [] h = omega arith
worth_counts limit n zero (c ∷ cycles) h = absurd h
worth_counts limit n (suc m) [] h = absurd h
worth_counts limit n (suc m) (c ∷ cycles) h =
    let first : potential limit c.count ≤ n * worth_of limit = h.0.worth in
    let rest = worth_counts limit n m cycles h.1 in
    let e = sum_by-cons (potential limit) c.count (counts_of cycles) in
    omega arith

takes-bound : (run : Probing) (cycles : List Counted) → AreCounted run cycles → Takes (bound_probes run cycles) (run.cycles * (run.bits * worth_of run.order)) (4 * (run.cycles * (run.bits * worth_of run.order)) + 1)
takes-bound run cycles h =
    let n = length (all_cycles run) in
    let e : n ≡ run.cycles = length-range_with_len 0 run.cycles in
    let w = run.bits * worth_of run.order in
    let t : Takes (bound_probes run cycles) (n * w + 0) (4 * (n * w) + 1) =
    takes-bind (tally run.order (counts_of cycles)) (λ (count : List Signal). demanded (take 1 count)) (n * w) (4 * (n * w)) 0 1
    (takes-tally run.order (n * w) (counts_of cycles) (short_counts run.order run.bits n cycles h) (worth_counts run.order run.bits n cycles h)) (λ (count : List Signal). takes-demanded (take 1 count)) in
    let k : n * w ≡ run.cycles * w = ap (λ m. m * w) e in
    takes_more (bound_probes run cycles) (n * w + 0) (4 * (n * w) + 1) (run.cycles * w) (4 * (run.cycles * w) + 1) t (omega arith) (omega arith)

takes-probes : (run : Probing) → IsSized run → Takes (probes run) (run.cycles * run.bits + 2 * (run.cycles * (run.bits * worth_of run.order))) (8 * (run.cycles * (run.bits * worth_of run.order)) + 1)
takes-probes run sized =
    let b = run.bits in
    let c = run.cycles in
    let w = b * worth_of run.order in
    takes_more (probes run) (c * (b + w) + (c * w + 0)) (c * (4 * w) + (4 * (c * w) + 1 + 0)) (c * b + 2 * (c * w)) (8 * (c * w) + 1)
    (takes-bind_of (AreCounted run) (probe_rows run) (λ (cycles : List Counted). bound_probes run cycles >>= (λ (none : Unit {0}). done cycles)) (c * (b + w)) (c * (4 * w)) (c * w + 0) (4 * (c * w) + 1 + 0)
    (takes-probe_rows run sized) (makes-probe_rows run sized)
    (λ (cycles : List Counted) (h : AreCounted run cycles). takes-bind (bound_probes run cycles) (λ (none : Unit {0}). done cycles) (c * w) (4 * (c * w) + 1) 0 0 (takes-bound run cycles h) (λ (none : Unit {0}). takes-done cycles)))
    (omega arith) (omega arith)

abbrev pub HasCycles : Probing → List Counted → Type 0
HasCycles run cycles = length cycles ≡ run.cycles

makes-probes : (run : Probing) → IsSized run → Makes (HasCycles run) (probes run)
makes-probes run sized =
    makes-bind (AreCounted run) (HasCycles run) (probe_rows run) (λ (cycles : List Counted). bound_probes run cycles >>= (λ (none : Unit {0}). done cycles)) (makes-probe_rows run sized)
    (λ (cycles : List Counted) (h : AreCounted run cycles). makes-bind (λ (u : Unit {0}). Unit {0}) (HasCycles run) (bound_probes run cycles) (λ (none : Unit {0}). done cycles) (λ var. tt)
    (λ (u v : Unit {0}). makes-done (HasCycles run) cycles (as_many (IsCountedRow run.order run.bits) (length (all_cycles run)) cycles h ∙ length-range_with_len 0 run.cycles)))

-- what is active
takes-row : (run : Probing) (row : List Signal) → length row ≡ run.cycles → Takes (windowed run.window row) (run.cycles * 3) (run.cycles * 12)
takes-row run row e = subst (λ (n : ℕ). Takes (windowed run.window row) (n * 3) (n * 12)) e (takes-windowed run.window row)

takes-activities : (run : Probing) (cycles : List Counted) → HasCycles run cycles → Takes (activities run cycles) (run.bits * (run.cycles * 3)) (run.bits * (run.cycles * 12))
takes-activities run cycles h =
    subst (λ (n : ℕ). Takes (activities run cycles) (n * (run.cycles * 3)) (n * (run.cycles * 12))) (length-range_with_len 0 run.bits)
    (takes-each (λ (b : ℕ). windowed run.window (column cycles b)) (all_bits run) (run.cycles * 3) (run.cycles * 12)
    (λ (b : ℕ). takes-row run (column cycles b) (length-map cycles (λ (c : Counted). signal_at c.row b) ∙ h)))

takes-hot : (run : Probing) (cycles : List Counted) → HasCycles run cycles → Takes (hot_cycles run cycles) (run.cycles * 3) (run.cycles * 12)
takes-hot run cycles h = takes-row run (some_counted cycles) (length-map cycles (λ (c : Counted). signal_at c.count 0) ∙ h)

-- links
takes-imply_all : (group : Signal) (actives : List Signal) (n : ℕ) → length actives ≤ n → Takes (imply_all group actives) 0 n
takes-imply_all group actives n le =
    takes_more (imply_all group actives) (length actives * 0) (length actives * 1) 0 n
    (takes-through (imply group) actives tt 0 1 (λ (s : Signal) (none : Unit {0}). takes-demanded (negated s ∷ group ∷ []))) (omega arith) (omega arith)

takes-link : (group : Signal) (actives : List Signal) (n : ℕ) → length actives ≤ n → Takes (link group actives) 0 (1 + n)
takes-link group actives n le =
    takes-bind (demanded (negated group ∷ actives)) (λ (none : Unit {0}). imply_all group actives) 0 1 0 n (takes-demanded (negated group ∷ actives)) (λ (none : Unit {0}). takes-imply_all group actives n le)

few_actives : (run : Probing) (active : List (List Signal)) (b : ℕ) → length (moving_actives run active b) ≤ run.cycles
few_actives run active b =
    let h = length-picked (map (λ t. run.moves t b) (all_cycles run)) (get_or active b []) in
    let e : length (map (λ t. run.moves t b) (all_cycles run)) ≡ run.cycles = length-map-range_with_len (λ t. run.moves t b) 0 run.cycles in
    omega arith

takes-links : (run : Probing) (group : List Signal) (active : List (List Signal)) → Takes (links run group active) 0 (run.bits * (1 + run.cycles))
takes-links run group active =
    let n = length (all_bits run) in
    let e : n ≡ run.bits = length-range_with_len 0 run.bits in
    let t : Takes (links run group active) (n * 0) (n * (1 + run.cycles)) =
    takes-through (link_of run group active) (all_bits run) tt 0 (1 + run.cycles)
    (λ (b : ℕ) (none : Unit {0}). takes-cond (is_moving run b) (link (signal_at group b) (moving_actives run active b)) (done tt) 0 (1 + run.cycles)
    (takes-link (signal_at group b) (moving_actives run active b) run.cycles (few_actives run active b)) (free tt 0 (1 + run.cycles))) in
    let k : n * (1 + run.cycles) ≡ run.bits * (1 + run.cycles) = ap (λ m. m * (1 + run.cycles)) e in
    takes_more (links run group active) (n * 0) (n * (1 + run.cycles)) 0 (run.bits * (1 + run.cycles)) t (omega arith) (omega arith)

takes-reached : (run : Probing) (active : List (List Signal)) → IsSized run → Takes (reached run active) (run.cycles * (run.bits * 4)) (run.cycles * (run.bits * 16))
takes-reached run active sized =
    subst (λ (n : ℕ). Takes (reached run active) (n * (run.bits * 4)) (n * (run.bits * 16))) (length-range_with_len 0 run.cycles)
    (takes-each (reached_in run active) (all_cycles run) (run.bits * 4) (run.bits * 16) (λ (t : ℕ). takes-walk_down run (t ∷ []) (starts_in run active t) sized))

takes-shown_of : (run : Probing) (groups : Grouped) (cycles : List Counted) → IsSized run → HasCycles run cycles
    → Takes (shown_of run groups cycles) (run.cycles * run.bits * 7 + run.cycles * 3) (run.cycles * run.bits * 29 + run.cycles * 12 + run.bits)
takes-shown_of run groups cycles sized h =
    let b = run.bits in
    let c = run.cycles in
    takes_more (shown_of run groups cycles) (b * (c * 3) + (c * 3 + (0 + (c * (b * 4) + 0)))) (b * (c * 12) + (c * 12 + (b * (1 + c) + (c * (b * 16) + 0))))
    (c * b * 7 + c * 3) (c * b * 29 + c * 12 + b)
    (takes-bind (activities run cycles) _ (b * (c * 3)) (b * (c * 12)) (c * 3 + (0 + (c * (b * 4) + 0))) (c * 12 + (b * (1 + c) + (c * (b * 16) + 0))) (takes-activities run cycles h)
    (λ (active : List (List Signal)). takes-bind (hot_cycles run cycles) _ (c * 3) (c * 12) (0 + (c * (b * 4) + 0)) (b * (1 + c) + (c * (b * 16) + 0)) (takes-hot run cycles h)
    (λ (hot : List Signal). takes-bind (links run groups.group active) _ 0 (b * (1 + c)) (c * (b * 4) + 0) (c * (b * 16) + 0) (takes-links run groups.group active)
    (λ (none : Unit {0}). takes-bind (reached run active) _ (c * (b * 4)) (c * (b * 16)) 0 0 (takes-reached run active sized) (λ (reached : List (List Signal)). takes-done (shown_by reached groups.near hot))))))
    (omega arith) (omega arith)

-- pairs
takes-show_pair : (shown : Shown) (t b : ℕ) (pair : Signal) → Takes (show_pair shown t b pair) 0 3
takes-show_pair shown t b pair =
    takes-bind (demanded (negated pair ∷ at shown.reached t b ∷ at shown.reached (t + 1) b ∷ [])) _ 0 1 0 2 (takes-demanded (negated pair ∷ at shown.reached t b ∷ at shown.reached (t + 1) b ∷ []))
    (λ (none : Unit {0}). takes-bind (demanded (negated pair ∷ signal_at shown.near b ∷ [])) _ 0 1 0 1 (takes-demanded (negated pair ∷ signal_at shown.near b ∷ []))
    (λ (none : Unit {0}). takes-demanded (negated pair ∷ signal_at shown.hot t ∷ signal_at shown.hot (t + 1) ∷ [])))

takes-pair_of : (run : Probing) (shown : Shown) (t b : ℕ) → Takes (pair_of run shown t b) 1 3
takes-pair_of run shown t b =
    takes-cond (is_pair run t b) (chosen_pair shown t b) (done (Constant false)) 1 3
    (takes-bind (fresh false) (λ (pair : Signal). show_pair shown t b pair >>= (λ (none : Unit {0}). done pair)) 1 0 0 3 (takes-fresh false)
    (λ (pair : Signal). takes-bind (show_pair shown t b pair) (λ (none : Unit {0}). done pair) 0 3 0 0 (takes-show_pair shown t b pair) (λ (none : Unit {0}). takes-done pair)))
    (free (Constant false) 1 3)

takes-pairs : (run : Probing) (shown : Shown) → Takes (pairs run shown) (run.cycles * (run.bits * 1)) (run.cycles * (run.bits * 3))
takes-pairs run shown =
    subst (λ (n : ℕ). Takes (pairs run shown) (n * (run.bits * 1)) (n * (run.bits * 3))) (length-range_with_len 0 run.cycles)
    (takes-each (pairs_in run shown) (all_cycles run) (run.bits * 1) (run.bits * 3)
    (λ (t : ℕ). subst (λ (n : ℕ). Takes (pairs_in run shown t) (n * 1) (n * 3)) (length-range_with_len 0 run.bits) (takes-each (pair_of run shown t) (all_bits run) 1 3 (takes-pair_of run shown t))))

-- all
pub takes-probe_part : (run : Probing) → IsSized run → Takes (probe_part run)
    (run.bits * (3 * run.order + 4) + run.cycles * run.bits * (6 * run.order + 7) + run.cycles * 3)
    (run.bits * (12 * run.order + 13) + run.cycles * run.bits * (24 * run.order + 24) + run.cycles * 12 + 1)
takes-probe_part run sized =
    let b = run.bits in
    let c = run.cycles in
    let d = run.order in
    let w = b * worth_of d in
    let one : worth_of d + 1 ≡ 3 * d = (let le = sized.order in omega arith) in
    let two : b * (worth_of d + 1) ≡ b * (3 * d) = ap (λ k. b * k) one in
    let three : c * (b * (worth_of d + 1)) ≡ c * (b * (3 * d)) = ap (λ k. c * k) two in
    let v1 = b * 5 + w in
    let c1 = b * 16 + 4 * w in
    let v2 = c * b + 2 * (c * w) in
    let c2 = 8 * (c * w) + 1 in
    let v3 = c * b * 7 + c * 3 in
    let c3 = c * b * 29 + c * 12 + b in
    let v4 = c * (b * 1) in
    let c4 = c * (b * 3) in
    takes_more (probe_part run) (v1 + (v2 + (v3 + (v4 + 0)))) (c1 + (c2 + (c3 + (c4 + 0))))
    (b * (3 * d + 4) + c * b * (6 * d + 7) + c * 3) (b * (12 * d + 13) + c * b * (24 * d + 24) + c * 12 + 1)
    (takes-bind (group_bits run) _ v1 c1 (v2 + (v3 + (v4 + 0))) (c2 + (c3 + (c4 + 0))) (takes-group_bits run sized)
    (λ (all : Grouped). takes-bind_of (HasCycles run) (probes run) _ v2 c2 (v3 + (v4 + 0)) (c3 + (c4 + 0)) (takes-probes run sized) (makes-probes run sized)
    (λ (cycles : List Counted) (h : HasCycles run cycles). takes-bind (shown_of run all cycles) _ v3 c3 (v4 + 0) (c4 + 0) (takes-shown_of run all cycles sized h)
    (λ (shown : Shown). takes-bind (pairs run shown) _ v4 c4 0 0 (takes-pairs run shown) (λ (rows : List (List Signal)). takes-done (part_of cycles rows))))))
    (omega arith) (omega arith)
