-- The steps about probes read earlier variables alone, and so do the signals of probes and pairs.
use Rattle.std.proofs.Common.{ℕ, ◌+◌, ◌<◌, ◌≤◌, Bool, true, false, cond, List, [], ◌∷◌, map, take, get_or, suc, zero, sym, subst, arith}
use Rattle.std.specs.List.{AllByRecursion}
use Rattle.circuit_clauses.specs.declared.signal.Signal.{Signal}
use Rattle.circuit_clauses.specs.declared.signal.Signal.TheVariants.{Constant, Literal}
use Rattle.circuit_clauses.specs.Signals.{negated}
use Rattle.circuit_clauses.specs.Steps.{Step}
use Rattle.circuit_clauses.specs.Meanings.{IsBelow}
use Rattle.clause_builds.specs.Builds.{Build, done, ◌>>=◌, each, through, fresh, demanded, tally}
use Rattle.clause_builds.specs.Rows.{signal_at, fresh_if, fresh_row, singles, count_up}
use Rattle.clause_builds.proofs.Lists.{each-nil, each-cons, through-nil, through-cons}
use Rattle.probe_clauses.specs.declared.part.ProbePart.{ProbePart}
use Rattle.probe_clauses.specs.Probings.{Probing, all_bits, all_cycles, probed, moving, is_moving, is_pair}
use Rattle.probe_clauses.specs.Rows.{at, picked, counted, counted_row, rows_of, counts_of, column, some_counted}
use Rattle.probe_clauses.specs.Windows.{windowed}
use Rattle.probe_clauses.specs.Walks.{walk_down}
use Rattle.probe_clauses.specs.Passes.{groups, near_groups, grouped_by, group_bits, probes_in, bound_probes, probe_rows, probes, activities, hot_cycles, imply, imply_all, link, link_where, moving_actives, link_of, links, start_in, starts_in, reached_in, reached, show_pair, chosen_pair, pair_of, pairs_in, pairs}
use Rattle.probe_clauses.specs.Parts.{shown_by, part_of, shown_of, probe_part}
use Rattle.probe_laws.specs.Laws.{ReadsEarlierProbes}
use Rattle.probe_laws.proofs.Rows.{Counted, Grouped, Shown}
use Rattle.probe_laws.proofs.Lower.{Low, low-done, low-bind, low-through, low-tally, RowBelow, RowsBelow, row_more, below_more, negated_below}
use Rattle.probe_laws.proofs.LowPasses.{low-windowed, low-walk}

abbrev Any : Step → Type 0
Any step = Unit {0}

all_any : (steps : List Step) → AllByRecursion Any steps
all_any [] = tt
all_any (step ∷ steps) = (tt, all_any steps)

low-any : {X : Type 0} {Q : Step → Type 0} (var : ℕ) (build : Build X) (P : ℕ → X → Type 0) → Low Q var build P → Low Any var build P
low-any var build P low = record { reads = low.reads; kinds = all_any (build var).steps; result = low.result }

abbrev Nothing : ℕ → Unit {0} → Type 0
Nothing now x = Unit {0}

low-fresh : (var : ℕ) (positive : Bool) → Low Any var (fresh positive) IsBelow
low-fresh var positive = record { reads = (tt, tt); kinds = (tt, tt); result = (let l : var < var + 1 = omega arith in l) }

low-demanded : (var : ℕ) (signals : List Signal) → AllByRecursion (IsBelow var) signals → Low Any var (demanded signals) Nothing
low-demanded var signals h = record { reads = (h, tt); kinds = (tt, tt); result = tt }

-- ---- lists of signals

abbrev AllBelow : ℕ → List Signal → Type 0
AllBelow now signals = AllByRecursion (IsBelow now) signals

row_all : (now : ℕ) (row : List Signal) → AllBelow now row → RowBelow now row
row_all now [] h i = tt
row_all now (s ∷ row) h zero = h.0
row_all now (s ∷ row) h (suc i) = row_all now row h.1 i

all_row : (now : ℕ) (row : List Signal) → RowBelow now row → AllBelow now row
all_row now [] h = tt
all_row now (s ∷ row) h = (h 0, all_row now row (λ i. h (suc i)))

all_more : (now later : ℕ) (row : List Signal) → now ≤ later → AllBelow now row → AllBelow later row
all_more now later [] le h = tt
all_more now later (s ∷ row) le h = (below_more now later s le h.0, all_more now later row le h.1)

all_map : {X : Type 0} (now : ℕ) (f : X → Signal) (xs : List X) → ((x : X) → IsBelow now (f x)) → AllBelow now (map f xs)
all_map now f [] h = tt
all_map now f (x ∷ xs) h = (h x, all_map now f xs h)

picked_all : (now : ℕ) (wanted : List Bool) (row : List Signal) → AllBelow now row → AllBelow now (picked wanted row)
picked_all now [] row h = tt
picked_all now (w ∷ ws) [] h = tt
picked_all now (true ∷ ws) (s ∷ row) h = (h.0, picked_all now ws row h.1)
picked_all now (false ∷ ws) (s ∷ row) h = picked_all now ws row h.1

singles_below : (now : ℕ) (signals : List Signal) → AllBelow now signals → RowsBelow now (singles signals)
singles_below now [] h = tt
singles_below now (s ∷ signals) h = (row_all now (s ∷ []) (h.0, tt), singles_below now signals h.1)

take_all : (now n : ℕ) (row : List Signal) → AllBelow now row → AllBelow now (take n row)
take_all now zero row h = tt
take_all now (suc n) [] h = tt
take_all now (suc n) (s ∷ row) h = (h.0, take_all now n row h.1)

-- ---- builds along lists

abbrev Grows : {X : Type 0} → (ℕ → X → Type 0) → Type 0
Grows {X = X} P = (now later : ℕ) (x : X) → now ≤ later → P now x → P later x

low-each : {X Y : Type 0} (P : ℕ → Y → Type 0) → Grows P → (var : ℕ) (build : X → Build Y)
    → ((x : X) (now : ℕ) → var ≤ now → Low Any now (build x) P) → (xs : List X) (now : ℕ) → var ≤ now
    → Low Any now (each build xs) (λ later ys. AllByRecursion (P later) ys)
low-each {Y = Y} P grows var build turn [] now le =
    subst (λ (b : Build (List Y)). Low Any now b (λ later ys. AllByRecursion (P later) ys)) (sym (each-nil build))
    (low-done Any now (λ later ys. AllByRecursion (P later) ys) [] tt)
low-each {X = X} {Y = Y} P grows var build turn (x ∷ xs) now le =
    subst (λ (b : Build (List Y)). Low Any now b (λ later ys. AllByRecursion (P later) ys)) (sym (each-cons build x xs))
    (low-bind Any now (λ later ys. AllByRecursion (P later) ys) P (build x) (λ y. each build xs >>= (λ ys. done (y ∷ ys)))
    (turn x now le)
    (λ (y : Y) later up p.
    low-bind Any later (λ last ys. AllByRecursion (P last) ys) (λ last ys. AllByRecursion (P last) ys) (each build xs) (λ ys. done (y ∷ ys))
    (low-each P grows var build turn xs later (omega arith))
    (λ (ys : List Y) last over ps. low-done Any last (λ k zs. AllByRecursion (P k) zs) (y ∷ ys) (grows later last y over p, ps))))

-- ---- rows that are counted

abbrev CountedBelow : ℕ → Counted → Type 0
CountedBelow now c = AllBelow now c.row × AllBelow now c.count

counted_more : Grows CountedBelow
counted_more now later c le h = (all_more now later c.row le h.0, all_more now later c.count le h.1)

low-fresh_if : (var : ℕ) (wanted : Bool) → Low Any var (fresh_if wanted) IsBelow
low-fresh_if var true = low-fresh var false
low-fresh_if var false = low-done Any var IsBelow (Constant false) tt

low-fresh_row : (var : ℕ) (wanted : List Bool) → Low Any var (fresh_row wanted) AllBelow
low-fresh_row var wanted =
    low-each IsBelow (λ now later s le h. below_more now later s le h) var fresh_if (λ w now le. low-fresh_if now w) wanted var (omega arith)

low-count : (var limit : ℕ) (parts : List (List Signal)) → RowsBelow var parts → Low Any var (tally limit parts) AllBelow
low-count var limit parts h =
    let low = low-tally limit var parts h in
    record { reads = low.reads; kinds = low.kinds; result = all_row _ _ low.result }

low-counted_row : (var limit : ℕ) (wanted : List Bool) → Low Any var (counted_row limit wanted) CountedBelow
low-counted_row var limit wanted =
    low-bind Any var CountedBelow AllBelow (fresh_row wanted)
    (λ (row : List Signal). count_up limit (picked wanted row) >>= (λ (count : List Signal). done (counted row count)))
    (low-fresh_row var wanted)
    (λ (row : List Signal) now le h.
    low-bind Any now CountedBelow AllBelow (count_up limit (picked wanted row)) (λ (count : List Signal). done (counted row count))
    (low-count now limit (singles (picked wanted row)) (singles_below now (picked wanted row) (picked_all now wanted row h)))
    (λ (count : List Signal) later up k. low-done Any later CountedBelow (counted row count) (all_more now later row up h, k)))

-- ---- groups and probes

abbrev GroupedBelow : ℕ → Grouped → Type 0
GroupedBelow now g = AllBelow now g.group × AllBelow now g.near

low-near : (var : ℕ) (run : Probing) (times : List ℕ) (row : List Signal) → AllBelow var row → Low Any var (walk_down run times row) AllBelow
low-near var run times row h =
    let low = low-walk var run times row (row_all var row h) in
    record { reads = low.reads; kinds = all_any _; result = all_row _ _ low.result }

low-lasting : (var window : ℕ) (row : List Signal) → AllBelow var row → Low Any var (windowed window row) AllBelow
low-lasting var window row h =
    let low = low-windowed var window row (row_all var row h) in
    record { reads = low.reads; kinds = all_any _; result = all_row _ _ low.result }

low-groups : (var : ℕ) (run : Probing) → Low Any var (groups run) AllBelow
low-groups var run =
    low-bind Any var AllBelow CountedBelow (counted_row run.order (moving run)) (λ (all : Counted). done all.row)
    (low-counted_row var run.order (moving run)) (λ (all : Counted) now le h. low-done Any now AllBelow all.row h.0)

low-group_bits : (var : ℕ) (run : Probing) → Low Any var (group_bits run) GroupedBelow
low-group_bits var run =
    low-bind Any var GroupedBelow AllBelow (groups run)
    (λ (group : List Signal). near_groups run group >>= (λ (near : List Signal). done (grouped_by group near)))
    (low-groups var run)
    (λ (group : List Signal) now le h.
    low-bind Any now GroupedBelow AllBelow (near_groups run group) (λ (near : List Signal). done (grouped_by group near))
    (low-near now run (all_cycles run) group h)
    (λ (near : List Signal) later up k. low-done Any later GroupedBelow (grouped_by group near) (all_more now later group up h, k)))

abbrev CyclesBelow : ℕ → List Counted → Type 0
CyclesBelow now cycles = AllByRecursion (CountedBelow now) cycles

cycles_more : Grows CyclesBelow
cycles_more now later [] le h = tt
cycles_more now later (c ∷ cs) le h = (counted_more now later c le h.0, cycles_more now later cs le h.1)

counts_below : (now : ℕ) (cycles : List Counted) → CyclesBelow now cycles → RowsBelow now (counts_of cycles)
counts_below now [] h = tt
counts_below now (c ∷ cs) h = (row_all now c.count h.0.1, counts_below now cs h.1)

column_below : (now place : ℕ) (cycles : List Counted) → CyclesBelow now cycles → AllBelow now (column cycles place)
column_below now place [] h = tt
column_below now place (c ∷ cs) h = (row_all now c.row h.0.0 place, column_below now place cs h.1)

some_below : (now : ℕ) (cycles : List Counted) → CyclesBelow now cycles → AllBelow now (some_counted cycles)
some_below now [] h = tt
some_below now (c ∷ cs) h = (row_all now c.count h.0.1 0, some_below now cs h.1)

low-bound : (var : ℕ) (run : Probing) (cycles : List Counted) → CyclesBelow var cycles → Low Any var (bound_probes run cycles) Nothing
low-bound var run cycles h =
    low-bind Any var Nothing AllBelow (tally run.order (counts_of cycles)) (λ (count : List Signal). demanded (take 1 count))
    (low-count var run.order (counts_of cycles) (counts_below var cycles h))
    (λ (count : List Signal) now le k. low-demanded now (take 1 count) (take_all now 1 count k))

low-probes : (var : ℕ) (run : Probing) → Low Any var (probes run) CyclesBelow
low-probes var run =
    low-bind Any var CyclesBelow CyclesBelow (probe_rows run) (λ (cycles : List Counted). bound_probes run cycles >>= (λ none. done cycles))
    (low-each CountedBelow counted_more var (probes_in run) (λ t now le. low-counted_row now run.order (probed run)) (all_cycles run) var (omega arith))
    (λ (cycles : List Counted) now le h.
    low-bind Any now CyclesBelow Nothing (bound_probes run cycles) (λ none. done cycles) (low-bound now run cycles h)
    (λ none later up k. low-done Any later CyclesBelow cycles (cycles_more now later cycles up h)))

-- ---- rows by bit or cycle

abbrev RowsAre : ℕ → List (List Signal) → Type 0
RowsAre now rows = AllByRecursion (AllBelow now) rows

rows_grow : Grows RowsAre
rows_grow now later [] le h = tt
rows_grow now later (row ∷ rows) le h = (all_more now later row le h.0, rows_grow now later rows le h.1)

row_at : (now : ℕ) (rows : List (List Signal)) (i : ℕ) → RowsAre now rows → AllBelow now (get_or rows i [])
row_at now [] i h = tt
row_at now (row ∷ rows) zero h = h.0
row_at now (row ∷ rows) (suc i) h = row_at now rows i h.1

at_below : (now : ℕ) (rows : List (List Signal)) (i place : ℕ) → RowsAre now rows → IsBelow now (at rows i place)
at_below now rows i place h = row_all now (get_or rows i []) (row_at now rows i h) place

low-activities : (var : ℕ) (run : Probing) (cycles : List Counted) → CyclesBelow var cycles → Low Any var (activities run cycles) RowsAre
low-activities var run cycles h =
    low-each AllBelow (λ now later row le k. all_more now later row le k) var (λ b. windowed run.window (column cycles b))
    (λ b now le. low-lasting now run.window (column cycles b) (column_below now b cycles (cycles_more var now cycles le h))) (all_bits run) var (omega arith)

-- ---- links

low-imply_all : (var : ℕ) (group : Signal) (actives : List Signal) (none : Unit {0}) → IsBelow var group → AllBelow var actives
    → Low Any var (through (imply group) actives none) Nothing
low-imply_all var group [] none g h =
    subst (λ (b : Build (Unit {0})). Low Any var b Nothing) (sym (through-nil (imply group) none)) (low-done Any var Nothing none tt)
low-imply_all var group (a ∷ actives) none g h =
    subst (λ (b : Build (Unit {0})). Low Any var b Nothing) (sym (through-cons (imply group) a actives none))
    (low-bind Any var Nothing Nothing (imply group a none) (through (imply group) actives)
    (low-demanded var (negated a ∷ group ∷ []) (negated_below var a h.0, (g, tt)))
    (λ next now le k. low-imply_all now group actives next (below_more var now group le g) (all_more var now actives le h.1)))

low-link : (var : ℕ) (group : Signal) (actives : List Signal) → IsBelow var group → AllBelow var actives → Low Any var (link group actives) Nothing
low-link var group actives g h =
    low-bind Any var Nothing Nothing (demanded (negated group ∷ actives)) (λ none. imply_all group actives)
    (low-demanded var (negated group ∷ actives) (negated_below var group g, h))
    (λ none now le k. low-imply_all now group actives tt (below_more var now group le g) (all_more var now actives le h))

low-link_where : (var : ℕ) (wanted : Bool) (group : Signal) (actives : List Signal) → IsBelow var group → AllBelow var actives
    → Low Any var (link_where wanted group actives) Nothing
low-link_where var true group actives g h = low-link var group actives g h
low-link_where var false group actives g h = low-done Any var Nothing tt tt

low-links : (var : ℕ) (run : Probing) (group : List Signal) (active : List (List Signal)) → AllBelow var group → RowsAre var active
    → Low Any var (links run group active) Nothing
low-links var run group active g h =
    low-through Any var Nothing (link_of run group active)
    (λ b none now le k. low-link_where now (is_moving run b) (signal_at group b) (moving_actives run active b)
    (row_all now group (all_more var now group le g) b)
    (picked_all now (map (λ t. run.moves t b) (all_cycles run)) (get_or active b []) (row_at now active b (rows_grow var now active le h))))
    (all_bits run) var tt (omega arith) tt

-- ---- what is reached, and pairs

start_below : (now : ℕ) (run : Probing) (active : List (List Signal)) (t b : ℕ) → RowsAre now active → IsBelow now (start_in run active t b)
start_below now run active t b h = go (run.moves t b)
  where
    go : (moves : Bool) → IsBelow now (cond moves (at active b t) (Constant false))
    go true = at_below now active b t h
    go false = tt

low-reached : (var : ℕ) (run : Probing) (active : List (List Signal)) → RowsAre var active → Low Any var (reached run active) RowsAre
low-reached var run active h =
    low-each AllBelow (λ now later row le k. all_more now later row le k) var (reached_in run active)
    (λ t now le. low-near now run (t ∷ []) (starts_in run active t)
    (all_map now (start_in run active t) (all_bits run) (λ b. start_below now run active t b (rows_grow var now active le h))))
    (all_cycles run) var (omega arith)

record ShownBelow (now : ℕ) (shown : Shown) : Type 0 where
  reached : RowsAre now shown.reached
  near : AllBelow now shown.near
  hot : AllBelow now shown.hot

shown_more : Grows ShownBelow
shown_more now later shown le h = record {
  reached = rows_grow now later shown.reached le h.reached;
  near = all_more now later shown.near le h.near;
  hot = all_more now later shown.hot le h.hot;
}

low-show : (var : ℕ) (shown : Shown) (t b : ℕ) (pair : Signal) → ShownBelow var shown → IsBelow var pair → Low Any var (show_pair shown t b pair) Nothing
low-show var shown t b pair h p =
    low-bind Any var Nothing Nothing (demanded (negated pair ∷ at shown.reached t b ∷ at shown.reached (t + 1) b ∷ [])) _
    (low-demanded var (negated pair ∷ at shown.reached t b ∷ at shown.reached (t + 1) b ∷ [])
    (negated_below var pair p, (at_below var shown.reached t b h.reached, (at_below var shown.reached (t + 1) b h.reached, tt))))
    (λ none now le k.
    low-bind Any now Nothing Nothing (demanded (negated pair ∷ signal_at shown.near b ∷ [])) _
    (low-demanded now (negated pair ∷ signal_at shown.near b ∷ [])
    (negated_below now pair (below_more var now pair le p), (row_all now shown.near (all_more var now shown.near le h.near) b, tt)))
    (λ other later up l.
    low-demanded later (negated pair ∷ signal_at shown.hot t ∷ signal_at shown.hot (t + 1) ∷ []) (
      negated_below later pair (below_more var later pair (omega arith) p),
      (row_all later shown.hot (all_more var later shown.hot (omega arith) h.hot) t, (row_all later shown.hot (all_more var later shown.hot (omega arith) h.hot) (t + 1), tt)),
    )))

low-pair : (var : ℕ) (run : Probing) (shown : Shown) (t b : ℕ) → ShownBelow var shown → Low Any var (pair_of run shown t b) IsBelow
low-pair var run shown t b h = go (is_pair run t b)
  where
    go : (wanted : Bool) → Low Any var (cond wanted (chosen_pair shown t b) (done (Constant false))) IsBelow
    go true =
        low-bind Any var IsBelow IsBelow (fresh false) (λ (pair : Signal). show_pair shown t b pair >>= (λ none. done pair)) (low-fresh var false)
        (λ (pair : Signal) now le p.
        low-bind Any now IsBelow Nothing (show_pair shown t b pair) (λ none. done pair) (low-show now shown t b pair (shown_more var now shown le h) p)
        (λ none later up k. low-done Any later IsBelow pair (below_more now later pair up p)))
    go false = low-done Any var IsBelow (Constant false) tt

low-pairs : (var : ℕ) (run : Probing) (shown : Shown) → ShownBelow var shown → Low Any var (pairs run shown) RowsAre
low-pairs var run shown h =
    low-each AllBelow (λ now later row le k. all_more now later row le k) var (pairs_in run shown)
    (λ t now le. low-each IsBelow (λ early late s up k. below_more early late s up k) now (pair_of run shown t)
    (λ b later up. low-pair later run shown t b (shown_more var later shown (omega arith) h)) (all_bits run) now (omega arith))
    (all_cycles run) var (omega arith)

-- ---- the whole part

low-shown : (var : ℕ) (run : Probing) (groups_are : Grouped) (cycles : List Counted) → GroupedBelow var groups_are → CyclesBelow var cycles
    → Low Any var (shown_of run groups_are cycles) ShownBelow
low-shown var run g cycles gh ch =
    low-bind Any var ShownBelow RowsAre (activities run cycles) _ (low-activities var run cycles ch)
    (λ (active : List (List Signal)) n1 le1 ah.
    low-bind Any n1 ShownBelow AllBelow (hot_cycles run cycles) _ (low-lasting n1 run.window (some_counted cycles) (some_below n1 cycles (cycles_more var n1 cycles le1 ch)))
    (λ (hot : List Signal) n2 le2 hh.
    low-bind Any n2 ShownBelow Nothing (links run g.group active) _
    (low-links n2 run g.group active (all_more var n2 g.group (omega arith) gh.0) (rows_grow n1 n2 active le2 ah))
    (λ none n3 le3 k.
    low-bind Any n3 ShownBelow RowsAre (reached run active) (λ (r : List (List Signal)). done (shown_by r g.near hot))
    (low-reached n3 run active (rows_grow n1 n3 active (omega arith) ah))
    (λ (r : List (List Signal)) n4 le4 rh. low-done Any n4 ShownBelow (shown_by r g.near hot) (record {
      reached = rh;
      near = all_more var n4 g.near (omega arith) gh.1;
      hot = all_more n2 n4 hot (omega arith) hh;
    })))))

rows_below : (now : ℕ) (cycles : List Counted) → CyclesBelow now cycles → RowsAre now (rows_of cycles)
rows_below now [] h = tt
rows_below now (c ∷ cs) h = (h.0.0, rows_below now cs h.1)

record PartBelow (now : ℕ) (part : ProbePart) : Type 0 where
  probes : RowsAre now part.probes
  pairs : RowsAre now part.pairs

low-part : (var : ℕ) (run : Probing) → Low Any var (probe_part run) PartBelow
low-part var run =
    low-bind Any var PartBelow GroupedBelow (group_bits run) _ (low-group_bits var run)
    (λ (g : Grouped) n1 le1 gh.
    low-bind Any n1 PartBelow CyclesBelow (probes run) _ (low-probes n1 run)
    (λ (cycles : List Counted) n2 le2 ch.
    low-bind Any n2 PartBelow ShownBelow (shown_of run g cycles) _
    (low-shown n2 run g cycles (all_more n1 n2 g.group le2 gh.0, all_more n1 n2 g.near le2 gh.1) ch)
    (λ (shown : Shown) n3 le3 sh.
    low-bind Any n3 PartBelow RowsAre (pairs run shown) (λ (ps : List (List Signal)). done (part_of cycles ps)) (low-pairs n3 run shown sh)
    (λ (ps : List (List Signal)) n4 le4 ph. low-done Any n4 PartBelow (part_of cycles ps) (record {
      probes = rows_below n4 cycles (cycles_more n2 n4 cycles (omega arith) ch);
      pairs = ph;
    })))))

pub reads_earlier : (var : ℕ) (run : Probing) → ReadsEarlierProbes var run
reads_earlier var run =
    let low = low-part var run in
    record {
      steps = low.reads;
      probes = λ t b. at_below _ _ t b low.result.probes;
      pairs = λ t b. at_below _ _ t b low.result.pairs;
    }
