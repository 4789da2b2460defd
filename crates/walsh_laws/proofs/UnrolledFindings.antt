-- Findings over an unrolled run as a value are those over its roots.
use Rattle.std.proofs.Common.{◌≡◌, ◌≢◌, ℕ, suc, ◌+◌, ◌*◌, ◌/◌, ◌%◌, ◌<◌, ◌≤◌, ◌⊎◌, inl, inr, false, List, [], ◌∷◌, length, get_or, nat_eq, sym, ◌∙◌, ap, subst, arith, mul_comm}
use Rattle.std.specs.Prelude.{Contains}
use Rattle.std.specs.List.{AllByRecursion, IsDistinct}
use Rattle.std.proofs.lemmas.Bool.{cases_eq, cases_lt, ne_eqb, eqb-true}
use Rattle.std.proofs.lemmas.List.{get_or_past}
use Rattle.std.proofs.lemmas.Grind.{get_or_default_zero}
use Rattle.std.proofs.lemmas.Map.Keys.{IsDistinct-cons, IsDistinct-from_apart}
use Rattle.std.proofs.lemmas.Map.Steps.{length-le_from_distinct_below}
use Rattle.std.proofs.lemmas.Map.Views.{Contains-from_any}
use Rattle.std.proofs.lemmas.Nat.{mul-add-lt, div-add-mod'}
use Rattle.std.proofs.Math.Nat.{mod-lt, mul-le-mul_right}
use Rattle.coco_base.specs.declared.cell.Kind.{Kind}
use Rattle.coco_base.specs.declared.cell.Part.{Part}
use Rattle.coco_base.specs.declared.labels.LabelTable.{LabelTable}
use Rattle.coco_base.specs.declared.netlist.Flat.{Flat}
use Rattle.coco_base.specs.declared.setup.Setup.{Setup}
use Rattle.coco_base.specs.declared.finding.Probe.{Probe}
use Rattle.coco_base.specs.declared.unrolled.Node.{Node}
use Rattle.coco_base.specs.declared.unrolled.Node.TheVariants.{Nothing, Gate}
use Rattle.coco_base.specs.declared.unrolled.Unrolled.{Unrolled}
use Rattle.coco_model.specs.Netlist.{IsCellBit}
use Rattle.coco_model.specs.Known.{Row}
use Rattle.coco_model.specs.Reach.{Reaches}
use Rattle.coco_model.specs.Reach.Reaches.{here, through}
use Rattle.coco_model.specs.Secure.{IsProbe, moments}
use Rattle.coco_model.specs.Findings.{Labels, IsSeen, HasFinding}
use Rattle.coco_model.specs.WrittenFindings.{ProbedRun, IsNoGate, IsCandidate, IsWrittenFinding, HasLeakingTry}
use Rattle.coco_model.specs.UnrolledRuns.{rank_of, index_of, node_at, node_row, IsGoodNode, IsUnrolledValue}
use Rattle.coco_model.proofs.Basics.{Contains-here, Contains-later, Contains-cases, Contains-none}
use Rattle.model_laws.proofs.Lists.{contains_or_not}
use Rattle.model_laws.proofs.Windows.{moments-probes}
use Rattle.model_laws.proofs.UnrolledValues.{stands}
use Rattle.model_laws.specs.NodeLaws.{StandsForRun}
use Rattle.walsh_laws.specs.Security.{IsSimulated}
use Rattle.walsh_laws.specs.Written.{IsPlaceOf, ListedRun, probed_with, WritingLaw, ReadingLaw}
use Rattle.walsh_laws.specs.Unrolled.{UnrolledRun, seen_run, SomeTryLaw, TryFindsLaw}
use Rattle.walsh_laws.proofs.Ready.{AreReached, reached_of}
use Rattle.walsh_laws.proofs.RunCounting.{seen_cycle, seen_inside}
use Rattle.walsh_laws.proofs.Writing.{writing_law, reading_law}

-- ---- each number below the number of bits is a rank

all_apart : (x : ℕ) (xs : List ℕ) → (Contains xs x → ⊥) → AllByRecursion (λ y. nat_eq x y ≡ false) xs
all_apart x [] none = tt
all_apart x (y ∷ ys) none = (
  ne_eqb x y (λ e. none (subst (Contains (y ∷ ys)) (sym e) (Contains-here y ys))),
  all_apart x ys (λ h. none (Contains-later y x ys h)),
)

-- where a member of a list of numbers stands
record IsPlaceIn (xs : List ℕ) (x : ℕ) : Type 0 where
  place : ℕ
  below : place < length xs
  at : (d : ℕ) → get_or xs place d ≡ x

place_in : (xs : List ℕ) (x : ℕ) → Contains xs x → IsPlaceIn xs x
place_in [] x h = absurd (Contains-none x h)
place_in (y ∷ ys) x h = go (Contains-cases y x ys h) (place_in ys x)
  where
    go : (y ≡ x) ⊎ Contains ys x → (Contains ys x → IsPlaceIn ys x) → IsPlaceIn (y ∷ ys) x
    go (inl e) rest = record { place = 0; below = omega arith; at = λ d. e }
    go (inr i) rest =
        let r = rest i in let b = r.below in record { place = suc r.place; below = omega arith; at = r.at }

record IsRankOf (u : Unrolled) (number : ℕ) : Type 0 where
  bit : ℕ
  inside : bit < u.bits
  is : rank_of u.ranks bit ≡ number

rank_member : (u : Unrolled) → IsUnrolledValue u → (number : ℕ) → number < u.bits → IsRankOf u number
rank_member u good number below = go (contains_or_not u.ranks number)
  where
    long : length u.ranks ≡ u.bits
    long = good.ranks_long

    apart : (i j d : ℕ) → i < j → j < length u.ranks → get_or u.ranks i d ≢ get_or u.ranks j d
    apart i j d lt inside e =
        let n = long in
        let first = get_or_default_zero u.ranks i d (omega arith) in
        let second = get_or_default_zero u.ranks j d inside in
        let same = good.ranks_apart i j (omega arith) (omega arith) (sym first ∙ e ∙ second) in
        omega arith

    distinct : IsDistinct nat_eq u.ranks
    distinct = IsDistinct-from_apart nat_eq u.ranks
        (λ i j d lt inside. ne_eqb (get_or u.ranks i d) (get_or u.ranks j d) (apart i j d lt inside))

    bounded : (q : ℕ) → Contains (number ∷ u.ranks) q → q < u.bits
    bounded q h = at (Contains-cases number q u.ranks h)
      where
        at : (number ≡ q) ⊎ Contains u.ranks q → q < u.bits
        at (inl e) = subst (λ x. x < u.bits) e below
        at (inr i) =
            let p = place_in u.ranks q i in
            let b = p.below in let n = long in
            subst (λ x. x < u.bits) (p.at 0) (good.ranks_below p.place (omega arith))

    go : Contains u.ranks number ⊎ (Contains u.ranks number → ⊥) → IsRankOf u number
    go (inl h) =
        let p = place_in u.ranks number h in
        let b = p.below in let n = long in
        record { bit = p.place; inside = omega arith; is = p.at 0 }
    go (inr none) = absurd (
        let few = length-le_from_distinct_below (number ∷ u.ranks) u.bits
        (IsDistinct-cons nat_eq number u.ranks (all_apart number u.ranks none) distinct)
        (λ q e. bounded q (Contains-from_any eqb-true q (number ∷ u.ranks) e)) in
        let n = long in omega arith)

-- the row of a place among rows of one length
row_below : (i rows wide : ℕ) → i < rows * wide → i / wide < rows
row_below i rows wide lt = go (cases_lt (i / wide) rows)
  where
    go : (i / wide < rows) ⊎ (rows ≤ i / wide) → i / wide < rows
    go (inl below) = below
    go (inr past) =
        let e = mul-le-mul_right wide past in let f = div-add-mod' i wide in absurd (omega arith)

-- a bit that is reached is no cell's
reached_leaf : (flat : Flat) (calm : Row) (leaf b : ℕ) → Reaches flat calm leaf b → IsCellBit flat leaf → ⊥
reached_leaf flat calm leaf b (here none varies) = none
reached_leaf flat calm leaf b (through bit cell place from listed drives varies live wired rest) = reached_leaf flat calm leaf from rest

-- ---- the nodes of the value are those of the run

module _ (flat : Flat) (setup : Setup) (cycles : ℕ) (run : UnrolledRun flat setup cycles) where
  u : Unrolled
  u = run.unrolled

  pub stand : StandsForRun flat setup cycles run.unrolled run.is
  stand = stands flat setup cycles run.rank run.ranked run.range run.bound_to.bound run.bound_to.controls run.unrolled run.is

  simulated : IsSimulated flat setup cycles run.rank run.is.row run.is.word
  simulated = record {
    ranked = run.ranked;
    driven = run.driven;
    range = run.range;
    bound_to = run.bound_to;
    known = run.is.stepped.known;
    controls = λ t below. (run.is.stepped.good t below).controls;
  }

  node_count : length run.unrolled.nodes ≡ flat.bits * cycles
  node_count = run.is.good.as_long ∙ ap (λ n. n * run.unrolled.cycles) run.is.bits ∙ ap (λ n. flat.bits * n) run.is.is_cycles

  within : (t b : ℕ) → t < cycles → b < flat.bits → index_of run.unrolled t b < length run.unrolled.nodes
  within t b below inside =
      let e = node_count in
      let lower : t * flat.bits + rank_of run.unrolled.ranks b < flat.bits * cycles =
      mul-add-lt t flat.bits (rank_of run.unrolled.ranks b) cycles below
      (subst (λ n. rank_of run.unrolled.ranks b < n) run.is.bits
      (run.is.good.ranks_below b (subst (λ n. b < n) (sym run.is.bits) inside))) in
      subst (λ n. t * n + rank_of run.unrolled.ranks b < length run.unrolled.nodes) (sym run.is.bits) (subst (λ n. t * flat.bits + rank_of run.unrolled.ranks b < n) (sym e) lower)

  placed : (i : ℕ) → i < length run.unrolled.nodes → IsPlaceOf flat cycles (index_of run.unrolled) i
  placed i below = go (rank_member run.unrolled run.is.good (i % run.unrolled.bits) (mod-lt i some))
    where
      total : i < run.unrolled.cycles * run.unrolled.bits
      total = let e = run.is.good.as_long in let f = mul_comm run.unrolled.bits run.unrolled.cycles in omega arith

      some : 0 < run.unrolled.bits
      some = at (cases_eq run.unrolled.bits 0)
        where
          at : (run.unrolled.bits ≡ 0) ⊎ (run.unrolled.bits ≢ 0) → 0 < run.unrolled.bits
          at (inl z) = absurd (
              let e : i < run.unrolled.cycles * 0 = subst (λ n. i < run.unrolled.cycles * n) z total in omega arith)
          at (inr n) = omega arith

      go : IsRankOf run.unrolled (i % run.unrolled.bits) → IsPlaceOf flat cycles (index_of run.unrolled) i
      go r = record {
        cycle = i / run.unrolled.bits;
        bit = r.bit;
        below = subst (λ n. i / run.unrolled.bits < n) run.is.is_cycles (row_below i run.unrolled.cycles run.unrolled.bits total);
        inside = subst (λ n. r.bit < n) run.is.bits r.inside;
        number = sym (div-add-mod' i run.unrolled.bits) ∙ ap (λ p. i / run.unrolled.bits * run.unrolled.bits + p) (sym r.is);
      }

  four_places : (i : ℕ) (kind : Kind) (parts : List Part) (operands : List ℕ)
      → get_or run.unrolled.nodes i Nothing ≡ Gate kind parts operands → length parts ≡ 4
  four_places i kind parts operands e = go (cases_lt i (length run.unrolled.nodes))
    where
      go : (i < length run.unrolled.nodes) ⊎ (length run.unrolled.nodes ≤ i) → length parts ≡ 4
      go (inl below) = (subst (IsGoodNode run.unrolled i) e (run.is.good.nodes i below)).parts_long
      go (inr past) =
          absurd (let f : ◌≡◌ {A = Node} Nothing (Gate kind parts operands) = sym (get_or_past run.unrolled.nodes i Nothing past) ∙ e in cc)

  listed : ListedRun flat setup cycles
  listed = record {
    rank = run.rank;
    row = run.is.row;
    word = run.is.word;
    root = run.is.root;
    rooted = run.is.rooted;
    reach = run.reach;
    index = index_of run.unrolled;
    nodes = run.unrolled.nodes;
    over = record {
      simulated = simulated;
      roots = run.is.roots;
      reached = run.reached;
      listed = record { stand = stand.stand; within = within; covered = placed; places = four_places };
    };
  }

  -- the run with the netlist's numbers and what is known
  known_run : ℕ → ProbedRun
  known_run window = probed_with flat setup cycles window run.is.row run.reach (index_of run.unrolled) run.unrolled.nodes

  -- the same where nodes tell what is unknown
  pub node_run : ℕ → ProbedRun
  node_run window = probed_with flat setup cycles window (node_row run.unrolled) run.reach (index_of run.unrolled) run.unrolled.nodes

  pub same_run : (window : ℕ) → seen_run flat setup cycles run window ≡ node_run window
  unfolding node_run
  same_run window =
      ap (λ bits. with_numbers bits run.unrolled.cycles run.unrolled.table) run.is.bits
      ∙ ap (λ count. with_numbers flat.bits count run.unrolled.table) run.is.is_cycles
      ∙ ap (λ table. with_numbers flat.bits cycles table) run.is.same_table
    where
      with_numbers : ℕ → ℕ → LabelTable → ProbedRun
      with_numbers bits count table = record {
        bits = bits;
        cycles = count;
        clock = setup.clock;
        table = table;
        window = window;
        row = node_row run.unrolled;
        reach = run.reach;
        index = index_of run.unrolled;
        nodes = run.unrolled.nodes;
      }

  pub reached : AreReached flat setup cycles run.is.row run.reached.calm run.reach
  reached = reached_of flat setup cycles run.rank run.is.row run.is.word simulated run.reach run.reached

  -- a pair that is seen is of the run
  module _ (window : ℕ) (probes : List Probe)
      (each : (p : Probe) → Contains probes p → IsProbe flat.bits setup.clock cycles p) where
    lasts : List Probe
    lasts = moments cycles window probes

    all : (p : Probe) → Contains (moments cycles window probes) p → IsProbe flat.bits setup.clock cycles p
    all = moments-probes flat.bits setup.clock cycles window probes each

    seen_by_nodes : (q : Probe) → IsSeen run.is.row run.reach (moments cycles window probes) q
        → IsSeen (node_row run.unrolled) run.reach (moments cycles window probes) q
    unfolding reached
    seen_by_nodes q s = record {
      probe = s.probe;
      listed = s.listed;
      shows = s.shows;
      unknown = (stand.unknown q.cycle q.bit (seen_cycle flat setup cycles run.is.row run.reach (moments cycles window probes) all q s)
          (seen_inside flat setup cycles run.range run.is.row run.reached.calm run.reach reached run.is.row (moments cycles window probes) all q s)).1 s.unknown;
    }

    pub seen_by_rows : (q : Probe) → IsSeen (node_row run.unrolled) run.reach (moments cycles window probes) q
        → IsSeen run.is.row run.reach (moments cycles window probes) q
    unfolding reached
    seen_by_rows q s = record {
      probe = s.probe;
      listed = s.listed;
      shows = s.shows;
      unknown = (stand.unknown q.cycle q.bit (seen_cycle flat setup cycles (node_row run.unrolled) run.reach (moments cycles window probes) all q s)
          (seen_inside flat setup cycles run.range run.is.row run.reached.calm run.reach reached (node_row run.unrolled) (moments cycles window probes) all q s)).0 s.unknown;
    }

  -- the node of a pair is one of the list, and no gate
  pub leaf_node : (window : ℕ) (probes : List Probe)
      → ((p : Probe) → Contains probes p → IsProbe flat.bits setup.clock cycles p)
      → (q : Probe) → IsSeen (node_row run.unrolled) run.reach (moments cycles window probes) q
      → (index_of run.unrolled q.cycle q.bit < length run.unrolled.nodes) × IsNoGate (node_at run.unrolled (index_of run.unrolled q.cycle q.bit))
  unfolding reached
  leaf_node window probes each q s = (within q.cycle q.bit below inside, stand.leaves q.cycle q.bit below inside leaf)
    where
      moment : (p : Probe) → Contains (moments cycles window probes) p → IsProbe flat.bits setup.clock cycles p
      moment = moments-probes flat.bits setup.clock cycles window probes each

      below : q.cycle < cycles
      below = seen_cycle flat setup cycles (node_row run.unrolled) run.reach (moments cycles window probes) moment q s

      inside : q.bit < flat.bits
      inside = seen_inside flat setup cycles run.range run.is.row run.reached.calm run.reach reached (node_row run.unrolled) (moments cycles window probes) moment q s

      leaf : IsCellBit flat q.bit → ⊥
      leaf = reached_leaf flat (run.reached.calm s.probe.cycle) q.bit s.probe.bit
          (((run.reached.reached s.probe.cycle (moment s.probe s.listed).cycle s.probe.bit (moment s.probe s.listed).bit).1 q.bit).0 s.shows.reached)

  candidate_by_nodes : (window d : ℕ) (probes pairs : List Probe) (numbers : List ℕ) (sets : ℕ → Labels)
      → IsCandidate (known_run window) d probes pairs numbers sets → IsCandidate (node_run window) d probes pairs numbers sets
  unfolding known_run node_run
  candidate_by_nodes window d probes pairs numbers sets c = record {
    some = c.some;
    most = c.most;
    each = c.each;
    ascending = c.ascending;
    in_order = c.in_order;
    seen = λ q h. seen_by_nodes window probes c.each q (c.seen q h);
    selection = c.selection;
  }

  candidate_by_rows : (window d : ℕ) (probes pairs : List Probe) (numbers : List ℕ) (sets : ℕ → Labels)
      → IsCandidate (node_run window) d probes pairs numbers sets → IsCandidate (known_run window) d probes pairs numbers sets
  unfolding known_run node_run
  candidate_by_rows window d probes pairs numbers sets c = record {
    some = c.some;
    most = c.most;
    each = c.each;
    ascending = c.ascending;
    in_order = c.in_order;
    seen = λ q h. seen_by_rows window probes c.each q (c.seen q h);
    selection = c.selection;
  }

  pub some_try : (window d : ℕ) → HasFinding flat setup cycles window d → HasLeakingTry (seen_run flat setup cycles run window) d
  unfolding WritingLaw listed known_run node_run
  some_try window d h = subst (λ r. HasLeakingTry r d) (sym (same_run window)) (go (writing_law flat setup cycles listed window d h))
    where
      go : HasLeakingTry (known_run window) d → HasLeakingTry (node_run window) d
      go w = record {
        probes = w.probes;
        pairs = w.pairs;
        numbers = w.numbers;
        sets = w.sets;
        is_try = record {
          candidate = candidate_by_nodes window d w.probes w.pairs w.numbers w.sets w.is_try.candidate;
          elsewhere = w.is_try.elsewhere;
        };
        leaks = w.leaks;
      }

  try_finds : (window d : ℕ) (probes pairs : List Probe) (numbers : List ℕ) (sets : ℕ → Labels)
      → IsWrittenFinding (seen_run flat setup cycles run window) d probes pairs numbers sets → HasFinding flat setup cycles window d
  unfolding ReadingLaw listed known_run node_run
  try_finds window d probes pairs numbers sets w =
      go (subst (λ r. IsWrittenFinding r d probes pairs numbers sets) (same_run window) w)
    where
      go : IsWrittenFinding (node_run window) d probes pairs numbers sets → HasFinding flat setup cycles window d
      go w = reading_law flat setup cycles listed window d probes pairs numbers sets (record {
        candidate = candidate_by_rows window d probes pairs numbers sets w.candidate;
        leaks = w.leaks;
      })

pub some_try_law : SomeTryLaw
unfolding SomeTryLaw
some_try_law = some_try

pub try_finds_law : TryFindsLaw
unfolding TryFindsLaw
try_finds_law = try_finds
