-- A run with a finding is covered.
use Rattle.std.proofs.Common.{◌≡◌, ℕ, ◌⊎◌, inl, inr, Bool, true, false, List, [], ◌∷◌, map, sym, ◌∙◌, ap}
use Rattle.std.specs.Prelude.{Contains}
use Rattle.std.proofs.lemmas.Bool.{false≢true, cases_Bool}
use Rattle.coco_base.specs.declared.netlist.Flat.{Flat}
use Rattle.coco_base.specs.declared.setup.Setup.{Setup}
use Rattle.coco_base.specs.declared.finding.Probe.{Probe}
use Rattle.coco_model.specs.Cells.{xor}
use Rattle.coco_model.specs.Labels.{parity, secret_labels}
use Rattle.coco_model.specs.Known.{Row}
use Rattle.coco_model.specs.Reach.{Reach, IsReach}
use Rattle.coco_model.specs.Roots.{Root, IsRooted}
use Rattle.coco_model.specs.Secure.{IsProbe, lasting, moments}
use Rattle.coco_model.specs.Cones.{IsInProbeCone, IsCovered}
use Rattle.coco_model.proofs.Basics.{Contains-here, Contains-later}
use Rattle.model_laws.proofs.Lists.{joined_of_flat_map}
use Rattle.model_laws.proofs.Windows.{moments-probes}
use Rattle.walsh_laws.specs.Security.{IsSimulated}
use Rattle.walsh_laws.specs.Covered.{HasFindingOver, CoverLaw}
use Rattle.walsh_laws.proofs.Ready.{ready_of, AreReached, reached_of}
use Rattle.walsh_laws.proofs.RunCounting.{seen_cycle, seen_inside}
use Rattle.walsh_laws.proofs.RootCones.{root_cone}
use Rattle.walsh_laws.proofs.OneFinding.{one_finding}

-- where an exclusive or is 1, one of its values is
pub odd_member : {X : Type 0} (f : X → Bool) (xs : List X) → parity (map f xs) ≡ true → (x : X) × Contains xs x × (f x ≡ true)
odd_member f [] e = absurd (false≢true e)
odd_member f (x ∷ xs) e = go (cases_Bool (f x)) (odd_member f xs)
  where
    go : (f x ≡ true) ⊎ (f x ≡ false) → (parity (map f xs) ≡ true → (y : _) × Contains xs y × (f y ≡ true))
        → (y : _) × Contains (x ∷ xs) y × (f y ≡ true)
    go (inl h) rest = (x, Contains-here x xs, h)
    go (inr h) rest = let r = rest (sym (ap (λ b. xor b (parity (map f xs))) h) ∙ e) in (r.0, Contains-later x r.0 xs r.1, r.2)

covered_by : (flat : Flat) (setup : Setup) (cycles : ℕ) (rank : ℕ → ℕ) (row : ℕ → Row) (word : ℕ → ℕ → Row)
    → IsSimulated flat setup cycles rank row word
    → (root : ℕ → ℕ → Root) (rooted : ℕ → ℕ → ℕ → Root) → IsRooted flat setup cycles row root rooted
    → (reach : Reach) → IsReach flat setup cycles reach
    → (window d : ℕ) → HasFindingOver flat setup cycles window d row reach root → IsCovered flat setup cycles window row reach root
covered_by flat setup cycles rank row word simulated root rooted is_rooted reach is window d h =
    go (h.finding.whole.no_mask h.finding.member h.finding.not_empty)
  where
    are_reached : AreReached flat setup cycles row is.calm reach
    are_reached = reached_of flat setup cycles rank row word simulated reach is

    lasts : List Probe
    lasts = moments cycles window h.probes

    all : (p : Probe) → Contains lasts p → IsProbe flat.bits setup.clock cycles p
    all = moments-probes flat.bits setup.clock cycles window h.probes h.finding.each

    in_cone : (l : ℕ) → (u : Probe) × Contains h.pairs u × (h.set_of (root u.cycle u.bit) l ≡ true)
        → (probe : Probe) × IsProbe flat.bits setup.clock cycles probe × IsInProbeCone flat cycles window row reach root probe l
    in_cone l (u, listed, has) =
        let s = h.finding.seen u listed in
        let r = joined_of_flat_map (lasting cycles window) h.probes s.probe s.listed in (
          r.source,
          h.finding.each r.source r.listed,
          record {
            moment = s.probe;
            lasts = r.member;
            leaf = u.bit;
            cycle = u.cycle;
            shows = s.shows;
            member = root_cone flat setup cycles rank row word root rooted
                (ready_of flat setup cycles rank row word simulated root rooted is_rooted) h.set_of h.finding.selection u.cycle u.bit l
                (seen_cycle flat setup cycles row reach lasts all u s)
                (seen_inside flat setup cycles simulated.range row is.calm reach are_reached row lasts all u s) has;
          },
        )

    go : (shares : List ℕ) × Contains (secret_labels setup.table.secrets) shares × Contains shares h.finding.member
        → IsCovered flat setup cycles window row reach root
    go (shares, secret, member) = record {
      shares = shares;
      secret = secret;
      each = λ l i. in_cone l (odd_member (λ (u : Probe). h.set_of (root u.cycle u.bit) l) h.pairs
          (h.finding.whole.all_or_none shares secret l h.finding.member i member ∙ h.finding.not_empty));
    }

pub cover_law : CoverLaw
unfolding CoverLaw
cover_law flat setup cycles sim root rooted is_rooted reach is window d h =
    covered_by flat setup cycles sim.rank sim.row sim.word sim.is root rooted is_rooted reach is window d
    (one_finding flat setup cycles sim.rank sim.row sim.word sim.is root rooted is_rooted reach is window d h)
