-- Pairs of bit and cycle that correlate with labels have a selection with these labels.
use Rattle.std.proofs.Common.{◌≡◌, ◌≢◌, ℕ, ◌<◌, ◌≤◌, ◌⊎◌, inl, inr, Bool, false, List, [], ◌∷◌, map, refl, sym, ◌∙◌, ap, arith, nat_eq, pos}
use Rattle.std.specs.Prelude.{Contains}
use Rattle.coco_base.specs.declared.netlist.Flat.{Flat}
use Rattle.coco_base.specs.declared.finding.Probe.{Probe}
use Rattle.coco_base.specs.declared.setup.Setup.{Setup}
use Rattle.coco_model.specs.Cells.{xor}
use Rattle.coco_model.specs.Netlist.{Valuation}
use Rattle.coco_model.specs.Labels.{Choice, choices, label_bit, label_count, parity}
use Rattle.coco_model.specs.Run.{Memory, AreRuns}
use Rattle.coco_model.specs.Known.{Row}
use Rattle.coco_model.specs.Roots.{Root}
use Rattle.coco_model.specs.Roots.Root.{output}
use Rattle.coco_model.specs.Findings.{Labels}
use Rattle.coco_model.proofs.Basics.{Contains-here, Contains-later}
use Rattle.model_laws.proofs.Rooted.{root_law}
use Rattle.model_laws.proofs.Selected.{root_sets_law}
use Rattle.model_laws.specs.Laws.{RootLaw, RootSetsLaw, HasSelection}
use Rattle.walsh_laws.specs.Sums.{parity_below}
use Rattle.walsh_laws.specs.Laws.{is_odd, IsSelected, CorrelationLaw}
use Rattle.walsh_laws.specs.Security.{IsPair, is_odd_in_run, correlation, IsSetOfPairs, RunCorrelationLaw}
use Rattle.coco_model.proofs.Signs.{sign_total-cong}
use Rattle.walsh_laws.proofs.Parity.{parity-xor, parity_one, parity_none}
use Rattle.walsh_laws.proofs.Correlation.{correlation_law}
use Rattle.walsh_laws.proofs.Numbering.{number_count, number-inside}
use Rattle.walsh_laws.proofs.RunNodes.{IsRootedRun, index_of, run_nodes, run_values, are_nodes, are_values, value_at}
use Rattle.walsh_laws.proofs.Ready.{ready_of}

pub map-cong : {X Y : Type 0} (f g : X → Y) (xs : List X) → ((x : X) → Contains xs x → f x ≡ g x) → map f xs ≡ map g xs
map-cong f g [] same = refl
map-cong f g (x ∷ xs) same =
    ap (λ y. y ∷ map f xs) (same x (Contains-here x xs)) ∙ ap (λ ys. g x ∷ ys) (map-cong f g xs (λ y h. same y (Contains-later x y xs h)))

-- numbers of the members of a list, each as often as it stands there
abbrev numbers_in : {X : Type 0} → (X → ℕ) → List X → ℕ → Bool
numbers_in number xs i = parity (map (λ x. nat_eq (number x) i) xs)

parity-numbers : {X : Type 0} (n : ℕ) (number : X → ℕ) (xs : List X) (v : ℕ → Bool) → ((x : X) → Contains xs x → number x < n)
    → parity_below n (numbers_in number xs) v ≡ parity (map (λ x. v (number x)) xs)
parity-numbers n number [] v below = parity_none n (numbers_in number []) v (λ i h. refl)
parity-numbers n number (x ∷ xs) v below =
    parity-xor n (λ i. nat_eq (number x) i) (numbers_in number xs) v
    ∙ rw (parity_one n (number x) v (below x (Contains-here x xs)), parity-numbers n number xs v (λ y h. below y (Contains-later x y xs h)))
    refl

module _ (flat : Flat) (setup : Setup) (cycles : ℕ) (rank : ℕ → ℕ) (row : ℕ → Row) (word : ℕ → ℕ → Row) (root : ℕ → ℕ → Root)
    (rooted : ℕ → ℕ → ℕ → Root)
    (ready : IsRootedRun flat setup cycles rank row word root rooted) where
  pub output_not_later : (t b s c : ℕ) → t < cycles → root t b ≡ output s c → s ≤ t
  unfolding RootLaw
  output_not_later t b s c below e = go ((root_law flat setup cycles (record { rank = rank; row = row; word = word; is = ready.checked }) ready.starts root rooted ready.is_rooted t
      b below).3.earlier s c e)
    where
      go : (s < t) ⊎ ((s ≡ t) × (c ≡ b)) → s ≤ t
      go (inl lt) = omega arith
      go (inr same) = let k = same.0 in omega arith

  pair_number : Probe → ℕ
  pair_number u = index_of flat rank u.cycle u.bit

  pub run_correlation : (run : Choice → ℕ → Valuation) (memory : Choice → ℕ → Memory) → AreRuns flat setup cycles run memory
      → (pairs : List Probe) → ((u : Probe) → Contains pairs u → IsPair flat cycles u)
      → (labels : Labels) → ((l : ℕ) → label_count setup.table cycles ≤ l → labels l ≡ false)
      → correlation setup cycles pairs labels run ≢ pos 0 → IsSetOfPairs flat cycles row root pairs labels
  unfolding CorrelationLaw RootSetsLaw pair_number
  run_correlation run memory runs pairs inside labels outside k = go selected
    where
      members : ℕ → Bool
      members = numbers_in pair_number pairs

      below : (u : Probe) → Contains pairs u → pair_number u < number_count flat.bits rank cycles
      below u h = number-inside flat.bits rank cycles u.cycle u.bit (inside u h).cycle (inside u h).bit

      odd : (c : Choice) → is_odd_in_run pairs (label_count setup.table cycles) labels run c
          ≡ is_odd (number_count flat.bits rank cycles) (numbers_in pair_number pairs) (label_count setup.table cycles) labels
          (run_values flat cycles rank run) c
      odd c = ap (λ b. xor b (parity_below (label_count setup.table cycles) labels (label_bit c)))
          (ap parity (map-cong (λ (u : Probe). run c u.cycle u.bit) (λ u. run_values flat cycles rank run c (pair_number u)) pairs
          (λ u h. sym (value_at flat setup cycles rank row word root rooted ready run c u.cycle u.bit (inside u h).cycle (inside u h).bit)))
          ∙ sym (parity-numbers (number_count flat.bits rank cycles) pair_number pairs (run_values flat cycles rank run c) below))

      selected : IsSelected (number_count flat.bits rank cycles) (run_nodes flat cycles rank row root) members labels
      selected = correlation_law (number_count flat.bits rank cycles) (run_nodes flat cycles rank row root) (label_count setup.table cycles)
          (run_values flat cycles rank run)
          (are_values flat setup cycles rank row word root rooted ready run memory runs) members labels outside
          (λ e. k (sign_total-cong _ _ odd (choices (label_count setup.table cycles)) ∙ e))

      go : IsSelected (number_count flat.bits rank cycles) (run_nodes flat cycles rank row root) (numbers_in pair_number pairs) labels
          → IsSetOfPairs flat cycles row root pairs labels
      go r = by_roots (root_sets_law flat cycles (index_of flat rank) row root (run_nodes flat cycles rank row root)
          (are_nodes flat setup cycles rank row word root rooted ready) ready.range ready.driven output_not_later r.sets
          (λ t b within_run inside. r.selection (index_of flat rank t b) (number-inside flat.bits rank cycles t b within_run inside)))
        where
          by_roots : HasSelection flat cycles (index_of flat rank) row root r.sets → IsSetOfPairs flat cycles row root pairs labels
          by_roots h = record {
            set_of = h.set_of;
            selection = h.selection;
            same = λ l. r.difference l ∙ parity-numbers (number_count flat.bits rank cycles) pair_number pairs (λ i. r.sets i l) below
                ∙ ap parity (map-cong (λ u. r.sets (pair_number u) l) (λ (u : Probe). h.set_of (root u.cycle u.bit) l) pairs
                (λ u i. h.same u.cycle u.bit l (inside u i).cycle (inside u i).bit));
          }

pub run_correlation_law : RunCorrelationLaw
unfolding RunCorrelationLaw
run_correlation_law flat setup cycles sim root rooted is_rooted =
    run_correlation flat setup cycles sim.rank sim.row sim.word root rooted (ready_of flat setup cycles sim.rank sim.row sim.word sim.is root rooted is_rooted)
