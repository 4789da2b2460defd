-- Where what probes show correlates with no secret bits, the counts are equal.
use Rattle.std.proofs.Common.{◌≡◌, ◌≢◌, ℕ, suc, ◌<◌, ◌⊎◌, inl, inr, Bool, true, List, length, sym, ◌∙◌, ap, subst, arith}
use Rattle.std.specs.Prelude.{Contains}
use Rattle.std.proofs.lemmas.List.Elements.{filter_agree}
use Rattle.coco_base.specs.declared.cell.Part.TheVariants.{Vary}
use Rattle.coco_base.specs.declared.netlist.Flat.{Flat}
use Rattle.coco_base.specs.declared.finding.Probe.{Probe}
use Rattle.coco_base.specs.declared.setup.Setup.{Setup}
use Rattle.coco_base.specs.declared.unrolled.Node.TheVariants.{Nothing}
use Rattle.coco_model.specs.Cells.{xor}
use Rattle.coco_model.specs.Netlist.{Valuation, IsInRange}
use Rattle.coco_model.specs.Labels.{Choice, choices, choices_with, label_bit, label_count, secret_bit_count, same_bits}
use Rattle.coco_model.specs.Run.{Memory, AreRuns, before}
use Rattle.coco_model.specs.Known.{Row}
use Rattle.coco_model.specs.Reach.{Reach}
use Rattle.coco_model.specs.Roots.{Root}
use Rattle.coco_model.specs.Secure.{IsProbe, count_showing}
use Rattle.coco_model.specs.Findings.{Labels, IsSeen}
use Rattle.model_laws.proofs.Lives.{reached_below}
use Rattle.model_laws.proofs.Calms.{vary_or_not}
use Rattle.coco_model.proofs.Keepers.{before_below}
use Rattle.coco_model.specs.Meaning.{HasMeaning}
use Rattle.walsh_laws.specs.Sums.{parity_below}
use Rattle.walsh_laws.specs.Laws.{is_odd, IsShownSet, IsUncorrelated, count_with_values, CountingLaw}
use Rattle.walsh_laws.specs.Security.{IsSimulated, is_odd_in_run, IsRunUncorrelated, RunCountingLaw}
use Rattle.coco_model.proofs.Signs.{sign_total-cong}
use Rattle.walsh_laws.proofs.Parity.{parity-cong_members}
use Rattle.walsh_laws.proofs.Counting.{counting_law}
use Rattle.walsh_laws.proofs.Numbering.{number_count, number-inside, at_number, at_number-number}
use Rattle.walsh_laws.proofs.RunNodes.{IsRootedRun, index_of, nothing_node, nothing_if_known, run_nodes, run_values, are_values, value_at}
use Rattle.walsh_laws.proofs.Listing.{listing, IsListed, listing-member, listing-once, listing-parity}
use Rattle.walsh_laws.proofs.Observed.{shown_numbers, AreNumbered, observed, IsShownNumber, shown_number, shows_when}
use Rattle.walsh_laws.proofs.Ready.{AreReached, reached_of, ready_of, meaning_of, same_row, simulated_by}

module _ (flat : Flat) (setup : Setup) (cycles : ℕ) (rank : ℕ → ℕ) (row : ℕ → Row) (word : ℕ → ℕ → Row) (root : ℕ → ℕ → Root)
    (rooted : ℕ → ℕ → ℕ → Root)
    (ready : IsRootedRun flat setup cycles rank row word root rooted) (calm : ℕ → Row) (reach : Reach)
    (reached : AreReached flat setup cycles row calm reach) where
  leaf_inside : (p : Probe) → IsProbe flat.bits setup.clock cycles p → (l : ℕ) → Contains (reach p.cycle p.bit) l → l < flat.bits
  leaf_inside p is l h = reached_below flat (calm p.cycle) l p.bit ready.range (((reached.reached p.cycle is.cycle p.bit is.bit).1 l).0 h)
      is.bit

  pair_at : ℕ → Probe
  pair_at = at_number flat.bits rank cycles (λ t b. record { bit = b; cycle = t }) (record { bit = 0; cycle = 0 })

  -- what is seen of a member of a set of shown nodes
  record IsSeenNumber (probes : List Probe) (i : ℕ) : Type 0 where
    probe : Probe
    listed : Contains probes probe
    leaf : ℕ
    cycle : ℕ
    is_probe : IsProbe flat.bits setup.clock cycles probe
    from : Contains (reach probe.cycle probe.bit) leaf
    when : (cycle ≡ probe.cycle) ⊎ (suc cycle ≡ probe.cycle)
    number : index_of flat rank cycle leaf ≡ i
    below : cycle < cycles
    inside : leaf < flat.bits

  seen_number : (probes : List Probe) → ((p : Probe) → Contains probes p → IsProbe flat.bits setup.clock cycles p) → (i : ℕ)
      → Contains (shown_numbers (index_of flat rank) reach probes) i
      → IsSeenNumber probes i
  seen_number probes each i h = go (shown_number (index_of flat rank) reach probes i h)
    where
      go : IsShownNumber (index_of flat rank) reach probes i → IsSeenNumber probes i
      go s = record {
        probe = s.probe;
        listed = s.listed;
        leaf = s.leaf;
        cycle = s.cycle;
        is_probe = each s.probe s.listed;
        from = s.reached;
        when = shows_when s.probe.cycle s.cycle s.when;
        number = s.number;
        below = below s.when;
        inside = leaf_inside s.probe (each s.probe s.listed) s.leaf s.reached;
      }
        where
          below : (s.cycle ≡ s.probe.cycle) ⊎ (s.cycle ≡ before s.probe.cycle) → s.cycle < cycles
          below (inl e) = subst (λ t. t < cycles) (sym e) (each s.probe s.listed).cycle
          below (inr e) = subst (λ t. t < cycles) (sym e) (before_below s.probe.cycle cycles (each s.probe s.listed).cycle)

  pair_is : (probes : List Probe) (i : ℕ) → (s : IsSeenNumber probes i) → pair_at i ≡ record { bit = s.leaf; cycle = s.cycle }
  unfolding pair_at
  pair_is probes i s =
      ap (at_number flat.bits rank cycles (λ t b. record { bit = b; cycle = t }) (record { bit = 0; cycle = 0 })) (sym s.number)
      ∙ at_number-number flat.bits rank cycles (λ t b. record { bit = b; cycle = t }) (record { bit = 0; cycle = 0 }) s.cycle s.leaf s.below
      s.inside

  pair_one : (probes : List Probe) (i j : ℕ) → IsSeenNumber probes i → IsSeenNumber probes j → pair_at i ≡ pair_at j → i ≡ j
  pair_one probes i j s u e =
      sym s.number ∙ ap (λ (p : Probe). index_of flat rank p.cycle p.bit) (sym (pair_is probes i s) ∙ e ∙ pair_is probes j u) ∙ u.number

  -- a node that is not nothing is of an unknown bit
  unknown_node : (t b : ℕ) → t < cycles → b < flat.bits → run_nodes flat cycles rank row root (index_of flat rank t b) ≢ Nothing
      → row t b ≡ Vary
  unknown_node t b below inside n = go (vary_or_not (row t b))
    where
      go : (row t b ≡ Vary) ⊎ (row t b ≢ Vary) → row t b ≡ Vary
      go (inl e) = e
      go (inr k) = absurd (n (nothing_node flat cycles rank row root t b below inside
          (nothing_if_known flat setup cycles rank row word root rooted ready t b below k)))

  -- shown nodes correlate with no secret bits where the pairs that they stand for do not
  uncorrelated : (run : Choice → ℕ → Valuation) (memory : Choice → ℕ → Memory) → AreRuns flat setup cycles run memory
      → (probes : List Probe) → ((p : Probe) → Contains probes p → IsProbe flat.bits setup.clock cycles p)
      → IsRunUncorrelated setup cycles row reach run probes
      → IsUncorrelated setup.table cycles (number_count flat.bits rank cycles) (run_nodes flat cycles rank row root)
      (run_values flat cycles rank run) (shown_numbers (index_of flat rank) reach probes)
  uncorrelated run memory runs probes each none = record {
    each = λ members are_shown labels whole l has. sign_total-cong _ _ (odd members are_shown labels)
        (choices (label_count setup.table cycles))
        ∙ none.each (listing members pair_at (number_count flat.bits rank cycles))
        (listing-once members pair_at (λ i j a b e. pair_one probes i j (seen members are_shown i a) (seen members are_shown j b) e)
        (number_count flat.bits rank cycles))
        (λ u h. is_seen members are_shown u (listing-member members pair_at (number_count flat.bits rank cycles) u h)) labels whole l has;
  }
    where
      seen : (members : ℕ → Bool)
          → IsShownSet (shown_numbers (index_of flat rank) reach probes) (run_nodes flat cycles rank row root) members
          → (i : ℕ) → members i ≡ true → IsSeenNumber probes i
      seen members are_shown i e = seen_number probes each i (are_shown.shown_nodes i e)

      is_seen : (members : ℕ → Bool)
          → IsShownSet (shown_numbers (index_of flat rank) reach probes) (run_nodes flat cycles rank row root) members
          → (u : Probe) → IsListed members pair_at (number_count flat.bits rank cycles) u → IsSeen row reach probes u
      is_seen members are_shown u l = go (seen members are_shown l.number l.member)
        where
          go : IsSeenNumber probes l.number → IsSeen row reach probes u
          go s = subst (IsSeen row reach probes) (sym (pair_is probes l.number s) ∙ l.is) (record {
            probe = s.probe;
            listed = s.listed;
            shows = record { reached = s.from; when = s.when };
            unknown = unknown_node s.cycle s.leaf s.below s.inside
                (λ e. are_shown.unknown l.number l.member (ap (run_nodes flat cycles rank row root) (sym s.number) ∙ e));
          })

      value_of : (run : Choice → ℕ → Valuation) (c : Choice) (i : ℕ) → IsSeenNumber probes i
          → run_values flat cycles rank run c i ≡ run c (pair_at i).cycle (pair_at i).bit
      value_of run c i s = ap (run_values flat cycles rank run c) (sym s.number)
          ∙ value_at flat setup cycles rank row word root rooted ready run c s.cycle s.leaf s.below s.inside
          ∙ ap (λ (p : Probe). run c p.cycle p.bit) (sym (pair_is probes i s))

      odd : (members : ℕ → Bool)
          → IsShownSet (shown_numbers (index_of flat rank) reach probes) (run_nodes flat cycles rank row root) members → (labels : Labels)
          → (c : Choice)
          → is_odd (number_count flat.bits rank cycles) members (label_count setup.table cycles) labels (run_values flat cycles rank run) c
          ≡ is_odd_in_run (listing members pair_at (number_count flat.bits rank cycles)) (label_count setup.table cycles) labels run c
      odd members are_shown labels c = ap (λ b. xor b (parity_below (label_count setup.table cycles) labels (label_bit c)))
          (parity-cong_members (number_count flat.bits rank cycles) members (run_values flat cycles rank run c)
          (λ i. run c (pair_at i).cycle (pair_at i).bit)
          (λ i h e. value_of run c i (seen members are_shown i e))
          ∙ sym (listing-parity members pair_at (λ (u : Probe). run c u.cycle u.bit) (number_count flat.bits rank cycles)))

  pub run_counting : (run : Choice → ℕ → Valuation) (memory : Choice → ℕ → Memory) → AreRuns flat setup cycles run memory
      → (probes : List Probe) → ((p : Probe) → Contains probes p → IsProbe flat.bits setup.clock cycles p)
      → IsRunUncorrelated setup cycles row reach run probes
      → (secrets others : List Bool) → length secrets ≡ secret_bit_count setup.table → length others ≡ secret_bit_count setup.table
      → (seen : List Bool) → count_showing setup cycles reach run probes secrets seen
      ≡ count_showing setup cycles reach run probes others seen
  unfolding CountingLaw
  run_counting run memory runs probes each none secrets others e f seen =
      by_values secrets ∙ counting_law setup.table cycles ready.table (number_count flat.bits rank cycles)
      (run_nodes flat cycles rank row root) (run_values flat cycles rank run)
      (are_values flat setup cycles rank row word root rooted ready run memory runs) (shown_numbers (index_of flat rank) reach probes) below
      (uncorrelated run memory runs probes each none) secrets others e f seen ∙ sym (by_values others)
    where
      below : (i : ℕ) → Contains (shown_numbers (index_of flat rank) reach probes) i → i < number_count flat.bits rank cycles
      below i h = go (seen_number probes each i h)
        where
          go : IsSeenNumber probes i → i < number_count flat.bits rank cycles
          go s = subst (λ j. j < number_count flat.bits rank cycles) s.number
              (number-inside flat.bits rank cycles s.cycle s.leaf s.below s.inside)

      numbered : (c : Choice) → AreNumbered flat.bits cycles (index_of flat rank) (run_values flat cycles rank run c) (run c)
      numbered c = record { each = value_at flat setup cycles rank row word root rooted ready run c }

      by_values : (given : List Bool)
          → count_showing setup cycles reach run probes given seen
          ≡ count_with_values setup.table cycles (run_values flat cycles rank run) (shown_numbers (index_of flat rank) reach probes) given
          seen
      by_values given = ap length (filter_agree _ _ (λ c. ap (λ bs. same_bits bs seen)
          (observed flat.bits cycles (index_of flat rank) (run_values flat cycles rank run c) (run c) (numbered c) reach probes
          (λ p h. ((each p h).cycle, leaf_inside p (each p h)))))
          (choices_with setup.table cycles given))

-- a pair that is shown is of a cycle of the run
pub seen_cycle : (flat : Flat) (setup : Setup) (cycles : ℕ) (row : ℕ → Row) (reach : Reach) (probes : List Probe)
    → ((p : Probe) → Contains probes p → IsProbe flat.bits setup.clock cycles p)
    → (u : Probe) → IsSeen row reach probes u → u.cycle < cycles
seen_cycle flat setup cycles row reach probes each u s = go s.shows.when
  where
    go : (u.cycle ≡ s.probe.cycle) ⊎ (suc u.cycle ≡ s.probe.cycle) → u.cycle < cycles
    go (inl e) = let b = (each s.probe s.listed).cycle in omega arith
    go (inr e) = let b = (each s.probe s.listed).cycle in omega arith

-- and a bit of the netlist
pub seen_inside : (flat : Flat) (setup : Setup) (cycles : ℕ) → IsInRange flat → (row calm : ℕ → Row) (reach : Reach)
    → AreReached flat setup cycles row calm reach
    → (seen_row : ℕ → Row) (probes : List Probe) → ((p : Probe) → Contains probes p → IsProbe flat.bits setup.clock cycles p)
    → (u : Probe) → IsSeen seen_row reach probes u → u.bit < flat.bits
seen_inside flat setup cycles range row calm reach reached seen_row probes each u s =
    reached_below flat (calm s.probe.cycle) u.bit s.probe.bit range
    (((reached.reached s.probe.cycle (each s.probe s.listed).cycle s.probe.bit (each s.probe s.listed).bit).1 u.bit).0 s.shows.reached)
    (each s.probe s.listed).bit

pub run_counting_law : RunCountingLaw
unfolding RunCountingLaw
run_counting_law flat setup cycles sim reach is run memory runs probes each none = go
    (meaning_of flat setup cycles sim.rank sim.row sim.word sim.is)
  where
    go : HasMeaning flat setup cycles → (secrets others : List Bool) → length secrets ≡ secret_bit_count setup.table
        → length others ≡ secret_bit_count setup.table
        → (seen : List Bool) → count_showing setup cycles reach run probes secrets seen
        ≡ count_showing setup cycles reach run probes others seen
    go m = run_counting flat setup cycles sim.rank m.row m.word m.root m.rooted
        (ready_of flat setup cycles sim.rank m.row m.word again m.root m.rooted m.roots)
        is.calm reach (reached_of flat setup cycles sim.rank m.row m.word again reach is) run memory runs probes each
        (record { each = λ pairs once seen. none.each pairs once (λ u h. seen_in_row u (seen u h)) })
      where
        again : IsSimulated flat setup cycles sim.rank m.row m.word
        again = simulated_by flat setup cycles sim.rank sim.row sim.word sim.is m.row m.word m.known

        seen_in_row : (u : Probe) → IsSeen m.row reach probes u → IsSeen sim.row reach probes u
        seen_in_row u s = record {
          probe = s.probe;
          listed = s.listed;
          shows = s.shows;
          unknown = ap (λ r. r u.bit) (same_row flat setup cycles sim.rank sim.row sim.word sim.is m.row m.word m.known u.cycle
              (seen_cycle flat setup cycles m.row reach probes each u s)) ∙ s.unknown;
        }
