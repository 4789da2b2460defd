-- Netlists, setups and what is known of runs, as the laws of runs take them.
use Rattle.std.proofs.Common.{◌≡◌, ℕ, ◌<◌, ◌≤◌, ◌⊎◌, inl, inr, false, List, length, get_or, sym, subst}
use Rattle.std.specs.Prelude.{Contains}
use Rattle.std.proofs.Math.Path.{fun_ext}
use Rattle.std.proofs.lemmas.Bool.{cases_lt}
use Rattle.std.proofs.lemmas.List.{get_or_past}
use Rattle.std.proofs.lemmas.List.Elements.{Contains-get_or}
use Rattle.coco_base.specs.declared.netlist.Flat.{Flat}
use Rattle.coco_base.specs.declared.setup.Start.{Start}
use Rattle.coco_base.specs.declared.setup.Start.TheVariants.{Public}
use Rattle.coco_base.specs.declared.setup.Setup.{Setup}
use Rattle.coco_model.specs.Carried.{AreStarts, IsLabelled}
use Rattle.coco_model.specs.Setups.{IsBoundTo}
use Rattle.coco_model.specs.Run.{before}
use Rattle.coco_model.specs.Known.{Row, IsKnown}
use Rattle.coco_model.specs.Controls.{AreControlsKnown}
use Rattle.coco_model.specs.Calm.{IsCalm}
use Rattle.coco_model.specs.Reach.{Reach, IsReach, IsReachedRow}
use Rattle.coco_model.specs.Roots.{Root, IsRooted}
use Rattle.coco_model.proofs.Keepers.{before_below}
use Rattle.model_laws.proofs.Unique.{one_known_law}
use Rattle.model_laws.proofs.Meanings.{meaning_law}
use Rattle.coco_model.specs.Meaning.{HasMeaning}
use Rattle.model_laws.specs.Laws.{IsChecked, OneKnownLaw, MeaningLaw}
use Rattle.walsh_laws.specs.Security.{IsSimulated}
use Rattle.walsh_laws.proofs.RunNodes.{IsRootedRun}

-- a default and the members of a list are good, so what is read from it is
read_good : (P : Start → Type 0) (starts : List Start) (i : ℕ) → P (Public false) → ((s : Start) → Contains starts s → P s)
    → P (get_or starts i (Public false))
read_good P starts i other all = go (cases_lt i (length starts))
  where
    go : (i < length starts) ⊎ (length starts ≤ i) → P (get_or starts i (Public false))
    go (inl below) = all (get_or starts i (Public false)) (Contains-get_or starts i (Public false) below)
    go (inr past) = subst P (sym (get_or_past starts i (Public false) past)) other

pub bound_starts : (flat : Flat) (setup : Setup) → IsBoundTo flat setup → AreStarts (IsLabelled setup.table) flat setup
bound_starts flat setup bound_to = record {
  flops = λ f h. read_good (IsLabelled setup.table) setup.starts f.output tt bound_to.labels;
  inputs = λ p h t. read_good (IsLabelled setup.table) p.values _ tt (bound_to.input_labels p h);
  words = λ w h k. read_good (IsLabelled setup.table) w.bits k tt (bound_to.word_labels w h);
}

pub checked_of : (flat : Flat) (setup : Setup) (cycles : ℕ) (rank : ℕ → ℕ) (row : ℕ → Row) (word : ℕ → ℕ → Row)
    → IsSimulated flat setup cycles rank row word
    → IsChecked flat setup cycles rank row word
checked_of flat setup cycles rank row word simulated = record {
  ranked = simulated.ranked;
  bound = simulated.bound_to.bound;
  has_controls = simulated.bound_to.controls;
  known = simulated.known;
  controls = simulated.controls;
}

pub ready_of : (flat : Flat) (setup : Setup) (cycles : ℕ) (rank : ℕ → ℕ) (row : ℕ → Row) (word : ℕ → ℕ → Row)
    → IsSimulated flat setup cycles rank row word
    → (root : ℕ → ℕ → Root) (rooted : ℕ → ℕ → ℕ → Root) → IsRooted flat setup cycles row root rooted
    → IsRootedRun flat setup cycles rank row word root rooted
ready_of flat setup cycles rank row word simulated root rooted is_rooted = record {
  checked = checked_of flat setup cycles rank row word simulated;
  range = simulated.range;
  driven = simulated.driven;
  table = simulated.bound_to.table;
  starts = bound_starts flat setup simulated.bound_to;
  is_rooted = is_rooted;
}

pub meaning_of : (flat : Flat) (setup : Setup) (cycles : ℕ) (rank : ℕ → ℕ) (row : ℕ → Row) (word : ℕ → ℕ → Row)
    → IsSimulated flat setup cycles rank row word → HasMeaning flat setup cycles
unfolding MeaningLaw
meaning_of flat setup cycles rank row word simulated = meaning_law flat setup cycles rank simulated.ranked simulated.bound_to.bound
    simulated.driven simulated.range

-- what is known is one
pub same_row : (flat : Flat) (setup : Setup) (cycles : ℕ) (rank : ℕ → ℕ) (row : ℕ → Row) (word : ℕ → ℕ → Row)
    → IsSimulated flat setup cycles rank row word
    → (other : ℕ → Row) (others : ℕ → ℕ → Row) → IsKnown flat setup cycles other others → (t : ℕ) → t < cycles → row t ≡ other t
unfolding OneKnownLaw
same_row flat setup cycles rank row word simulated other others known t below =
    fun_ext (one_known_law flat setup cycles rank simulated.ranked simulated.bound_to.bound row other word others simulated.known known t
    below).0

-- a simulation with other rows, which are the same in every cycle
pub simulated_by : (flat : Flat) (setup : Setup) (cycles : ℕ) (rank : ℕ → ℕ) (row : ℕ → Row) (word : ℕ → ℕ → Row)
    → IsSimulated flat setup cycles rank row word
    → (other : ℕ → Row) (others : ℕ → ℕ → Row) → IsKnown flat setup cycles other others → IsSimulated flat setup cycles rank other others
simulated_by flat setup cycles rank row word simulated other others known = record {
  ranked = simulated.ranked;
  driven = simulated.driven;
  range = simulated.range;
  bound_to = simulated.bound_to;
  known = known;
  controls = λ t below. subst (AreControlsKnown setup) (same_row flat setup cycles rank row word simulated other others known t below)
      (simulated.controls t below);
}

-- what is calm in a run and what each bit reaches
pub record AreReached (flat : Flat) (setup : Setup) (cycles : ℕ) (row calm : ℕ → Row) (reach : Reach) : Type 0 where
  pub still : (t : ℕ) → t < cycles → IsCalm flat (row (before t)) (row t) (calm t)
  pub reached : (t : ℕ) → t < cycles → IsReachedRow flat (calm t) (reach t)

pub reached_of : (flat : Flat) (setup : Setup) (cycles : ℕ) (rank : ℕ → ℕ) (row : ℕ → Row) (word : ℕ → ℕ → Row)
    → IsSimulated flat setup cycles rank row word
    → (reach : Reach) → (is : IsReach flat setup cycles reach) → AreReached flat setup cycles row is.calm reach
reached_of flat setup cycles rank row word simulated reach is = record {
  still = λ t below. subst (λ r. IsCalm flat r (row t) (is.calm t)) (sym (same (before t) (before_below t cycles below)))
      (subst (λ r. IsCalm flat (is.row (before t)) r (is.calm t)) (sym (same t below)) (is.still t below));
  reached = is.reached;
}
  where
    same : (t : ℕ) → t < cycles → row t ≡ is.row t
    same = same_row flat setup cycles rank row word simulated is.row is.word is.known
