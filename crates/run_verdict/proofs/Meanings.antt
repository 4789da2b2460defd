-- What a written formula means, by the laws of formulas, of findings and of runs; and that a solver takes it.
use Rattle.std.proofs.Common.{◌≡◌, ℕ, suc, ◌<◌, ◌⊎◌, inl, inr, Bool, List, [], sym, subst, arith}
use Rattle.std.specs.Prelude.{Contains}
use Rattle.coco_base.specs.declared.finding.Finding.{Finding}
use Rattle.coco_base.specs.declared.finding.Probe.{Probe}
use Rattle.coco_base.specs.declared.labels.LabelTable.{LabelTable}
use Rattle.coco_base.specs.declared.limits.Limits.{Limits}
use Rattle.coco_base.specs.declared.setup.Setup.{Setup}
use Rattle.coco_base.specs.declared.unrolled.Unrolled.{Unrolled}
use Rattle.coco_model.specs.Cones.{IsCovered, IsInProbeCone}
use Rattle.coco_model.specs.Findings.{HasFinding, Shows}
use Rattle.coco_model.specs.Goals.{IsProbedLabel}
use Rattle.coco_model.specs.Labels.{label_count, secret_labels}
use Rattle.coco_model.specs.Reach.{Reach}
use Rattle.coco_model.specs.Secure.{IsProbe, lasting}
use Rattle.coco_model.specs.UnrolledRuns.{index_of, node_at}
use Rattle.model_laws.specs.Laws as runs
use Rattle.model_laws.specs.Laws.{ConesLaw}
use Rattle.model_laws.specs.NodeLaws.{UnrolledRunLaw, StandsForRun}
use Rattle.model_laws.proofs.Lives.{reached_below}
use Rattle.model_laws.proofs.Windows.{moment_of}
use Rattle.walsh_laws.specs.Security.{NoFindingLaw, InTimeLaw}
use Rattle.walsh_laws.specs.Unrolled.{NeededTryLaw, TryFindsLaw}
use Rattle.gate_graph.specs.Graphs.{Gates, IsBuilt, rank_in}
use Rattle.calm_reach.specs.CalmRows.{Calmness}
use Rattle.stable_sets.specs.Reached.{AreCalmReach}
use Rattle.label_cone.specs.Coned.{Coned, mark_at}
use Rattle.probe_encode.specs.Formulas.{EncodedView, encoded}
use Rattle.probe_encode.specs.Laws.{FitLaw}
use Rattle.probe_encode.specs.Readings.{finding_of}
use Rattle.probe_encode.specs.Sources.{encoding_of}
use Rattle.formula_laws.specs.Labelled.{EmptyClauseLaw, HasProbedBit}
use Rattle.formula_laws.specs.Laws.{FindingLaw, ModelLaw, InRunLaw, RangeLaw, HasModel, IsInRun, IsModel}
use Rattle.formula_laws.specs.Runs.{seen_in}
use Rattle.run_verdict.specs.Laws.{IsWrittenRun, MeansFindings, MeaningLaw, CanBeSolved, SolvableLaw}
use Rattle.run_verdict.specs.Verdicts.{IsSecureRun, IsFindingOf, IsCoveredRun}
use Rattle.run_verdict.specs.declared.formula.Asked.{Asked}
use Rattle.run_verdict.specs.Written.{view_in}
use Rattle.run_verdict.proofs.Sources.{IsRunSource, is_source, formula_run, unrolled_run, simulated_run, checked_run}

-- the laws that the meaning rests on: of formulas, of findings, and of runs
pub record MeaningLaws : Type 0 where
  pub finding : FindingLaw
  pub model : ModelLaw
  pub in_run : InRunLaw
  pub empty_clause : EmptyClauseLaw
  pub needed_try : NeededTryLaw
  pub try_finds : TryFindsLaw
  pub no_finding : NoFindingLaw
  pub in_time : InTimeLaw
  pub meaning : runs.MeaningLaw
  pub nodes : UnrolledRunLaw
  pub cones : ConesLaw

-- the formula of a run
abbrev form_of : Gates → Setup → Asked → Unrolled → List Calmness → Coned → EncodedView
form_of gates setup asked u rows coned = encoded (encoding_of (view_in gates setup asked u rows) u coned)

module _ (laws : MeaningLaws) (gates : Gates) (setup : Setup) (asked : Asked) (limits : Limits) (u : Unrolled) (rows : List Calmness)
    (coned : Coned) (built : IsBuilt gates) (s : IsRunSource gates setup asked limits u rows coned) (reach : Reach)
    (reached : AreCalmReach gates.flat rows reach) where
  -- a finding has a try that the formula finds
  model_of_finding : HasFinding gates.flat setup asked.cycles asked.window asked.order
      → HasModel (form_of gates setup asked u rows coned).formula.clauses
  unfolding NeededTryLaw ModelLaw unrolled_run
  model_of_finding found =
      laws.model (view_in gates setup asked u rows) u coned reach (formula_run gates setup asked limits u rows coned built s reach reached)
      (laws.needed_try gates.flat setup asked.cycles (unrolled_run gates setup asked limits u rows coned built s reach reached)
      asked.window asked.order (mark_at coned.matters) s.from.cones.matters found)

  secure_without : (HasModel (form_of gates setup asked u rows coned).formula.clauses → ⊥) → IsSecureRun gates.flat setup asked
  unfolding NoFindingLaw InTimeLaw runs.MeaningLaw
  secure_without no_model =
      let secure = laws.no_finding gates.flat setup asked.cycles (simulated_run gates setup asked limits u rows coned built s)
      asked.window asked.order (λ found. no_model (model_of_finding found)) in
      record {
        no_finding = λ found. no_model (model_of_finding found);
        secure = secure;
        in_time = laws.in_time gates.flat setup asked.cycles (checked_run gates setup asked limits u rows coned built s)
            built.one_driver built.range asked.window asked.order secure;
        meaning = laws.meaning gates.flat setup asked.cycles (rank_in gates) built.ranked s.bound.bound built.one_driver built.range;
        no_fault = record { row = s.from.unrolled.row; word = s.from.unrolled.word; stepped = s.from.unrolled.stepped };
      }

  -- bits and labels of the unrolled run are those of the netlist and the setup
  in_this_run : (finding : Finding) → IsInRun u.bits (label_count u.table u.cycles) finding
      → IsInRun gates.flat.bits (label_count setup.table asked.cycles) finding
  in_this_run finding h =
      subst (λ (table : LabelTable). IsInRun gates.flat.bits (label_count table asked.cycles) finding) s.from.unrolled.same_table
      (subst (λ n. IsInRun gates.flat.bits (label_count u.table n) finding) s.from.unrolled.is_cycles
      (subst (λ n. IsInRun n (label_count u.table u.cycles) finding) s.from.unrolled.bits h))

  finding_by : (values : ℕ → Bool) → IsModel (form_of gates setup asked u rows coned).formula.clauses values
      → IsFindingOf gates.flat setup asked (finding_of (form_of gates setup asked u rows coned).tables values)
  unfolding FindingLaw InRunLaw TryFindsLaw unrolled_run
  finding_by values model =
      let run = formula_run gates setup asked limits u rows coned built s reach reached in
      let finding = finding_of (form_of gates setup asked u rows coned).tables values in
      let value = laws.finding (view_in gates setup asked u rows) u coned reach run values model in
      record {
        exists = laws.try_finds gates.flat setup asked.cycles (unrolled_run gates setup asked limits u rows coned built s reach reached)
            asked.window asked.order finding.probes finding.seen finding.selection.choices value.sets value.written;
        u = u;
        unrolled = s.from.unrolled;
        reach = reach;
        reaches = s.from.tell.reach reach reached;
        value = value;
        in_run = in_this_run finding (laws.in_run (view_in gates setup asked u rows) u coned reach run values model);
      }

  -- the nodes stand for the roots
  stand : StandsForRun gates.flat setup asked.cycles u s.from.unrolled
  unfolding UnrolledRunLaw
  stand = laws.nodes gates.flat setup asked.cycles (rank_in gates) built.ranked built.range s.bound.bound s.bound.controls u s.from.unrolled

  -- what a moment of a probe shows is a bit in a cycle of the run
  shown_cycle : (moment : Probe) (leaf cycle : ℕ) → moment.cycle < asked.cycles → Shows reach moment leaf cycle → cycle < asked.cycles
  shown_cycle moment leaf cycle below shows = go shows.when
    where
      go : (cycle ≡ moment.cycle) ⊎ (suc cycle ≡ moment.cycle) → cycle < asked.cycles
      go (inl e) = omega (arith, below, e)
      go (inr e) = omega (arith, below, e)

  shown_bit : (moment : Probe) (leaf cycle : ℕ) → moment.cycle < asked.cycles → moment.bit < gates.flat.bits
      → Shows reach moment leaf cycle → leaf < gates.flat.bits
  shown_bit moment leaf cycle below inside shows =
      let is = s.from.tell.reach reach reached in
      reached_below gates.flat (is.calm moment.cycle) leaf moment.bit built.range
      (((is.reached moment.cycle below moment.bit inside).1 leaf).0 shows.reached) inside

  -- a label that the unrolled run has in the cone of some probe the run has in that of the same probe
  probed : (l : ℕ) → IsProbedLabel (seen_in (view_in gates setup asked u rows) u reach) l
      → (probe : Probe) × IsProbe gates.flat.bits setup.clock asked.cycles probe
      × IsInProbeCone gates.flat asked.cycles asked.window s.from.unrolled.row reach s.from.unrolled.root probe l
  unfolding ConesLaw
  probed l p =
      let is_probe = subst (λ n. IsProbe gates.flat.bits setup.clock n p.probe) s.from.unrolled.is_cycles
      (subst (λ n. IsProbe n setup.clock u.cycles p.probe) s.from.unrolled.bits p.is_probe) in
      let lasts = subst (λ n. Contains (lasting n asked.window p.probe) p.moment) s.from.unrolled.is_cycles p.lasts in
      let m = moment_of asked.cycles asked.window p.probe p.moment lasts in
      let inside = subst (λ b. b < gates.flat.bits) m.bit is_probe.bit in (
        p.probe,
        is_probe,
        record {
          moment = p.moment;
          lasts = lasts;
          leaf = p.leaf;
          cycle = p.cycle;
          shows = p.shows;
          member = (laws.cones gates.flat asked.cycles (index_of u) s.from.unrolled.row s.from.unrolled.root (node_at u)
              stand.stand built.range built.one_driver p.cycle p.leaf l (shown_cycle p.moment p.leaf p.cycle m.below p.shows)
              (shown_bit p.moment p.leaf p.cycle m.below inside p.shows)).0 p.member;
        },
      )

  covered_by : HasProbedBit (seen_in (view_in gates setup asked u rows) u reach)
      → IsCovered gates.flat setup asked.cycles asked.window s.from.unrolled.row reach s.from.unrolled.root
  covered_by h = record {
    shares = h.shares;
    secret = subst (λ (table : LabelTable). Contains (secret_labels table.secrets) h.shares) s.from.unrolled.same_table h.secret;
    each = λ l i. probed l (h.each l i);
  }

  covered_without : (Contains (form_of gates setup asked u rows coned).formula.clauses [] → ⊥) → IsCoveredRun gates.flat setup asked
  unfolding EmptyClauseLaw
  covered_without no_empty = record {
    row = s.from.unrolled.row;
    word = s.from.unrolled.word;
    reach = reach;
    root = s.from.unrolled.root;
    rooted = s.from.unrolled.rooted;
    known = s.from.unrolled.stepped.known;
    reaches = s.from.tell.reach reach reached;
    roots = s.from.unrolled.roots;
    covered = covered_by (laws.empty_clause (view_in gates setup asked u rows) u coned reach
        (formula_run gates setup asked limits u rows coned built s reach reached) no_empty);
  }

  means : MeansFindings gates setup asked (form_of gates setup asked u rows coned)
  means = record { secure = secure_without; finding = finding_by; covered = covered_without }

source_of : (gates : Gates) (setup : Setup) (asked : Asked) (limits : Limits) (form : EncodedView)
    → (w : IsWrittenRun gates setup asked limits form) → IsRunSource gates setup asked limits w.written.u w.written.rows w.written.coned
source_of gates setup asked limits form w = record {
  bound = w.bound;
  asked_is = w.asked_is;
  limits_are = w.limits_are;
  from = w.written.from;
}

pub meaning : MeaningLaws → MeaningLaw
unfolding MeaningLaw
meaning laws gates setup asked limits form w =
    let reach = w.written.from.tell.some_reach in
    subst (MeansFindings gates setup asked) (sym w.written.is)
    (means laws gates setup asked limits w.written.u w.written.rows w.written.coned w.built (source_of gates setup asked limits form w)
    reach.reach reach.is)

-- the formula is one that a solver takes
solvable_by : FitLaw → RangeLaw → (gates : Gates) (setup : Setup) (asked : Asked) (limits : Limits) (u : Unrolled)
    (rows : List Calmness) (coned : Coned) → IsBuilt gates → IsRunSource gates setup asked limits u rows coned
    → (reach : Reach) → AreCalmReach gates.flat rows reach
    → CanBeSolved (form_of gates setup asked u rows coned)
unfolding RangeLaw
solvable_by fit range gates setup asked limits u rows coned built s reach reached = record {
  fits = fit (view_in gates setup asked u rows) u coned built (is_source gates setup asked limits u rows coned s);
  range = range (view_in gates setup asked u rows) u coned reach (formula_run gates setup asked limits u rows coned built s reach reached);
}

pub solvable : FitLaw → RangeLaw → SolvableLaw
unfolding SolvableLaw
solvable fit range gates setup asked limits form w =
    let reach = w.written.from.tell.some_reach in
    subst CanBeSolved (sym w.written.is)
    (solvable_by fit range gates setup asked limits w.written.u w.written.rows w.written.coned w.built (source_of gates setup asked limits form w)
    reach.reach reach.is)
