-- What each answer says of a run.
use Rattle.std.specs.Prelude.{◌≡◌, ℕ, ◌<◌, ◌≤◌, ◌^◌, List, [], ◌⊎◌, length, Contains}
use Rattle.clause_store.specs.declared.lit.Lit.{Lit}
use Rattle.clause_store.specs.declared.line.Line.{Line}
use Rattle.clause_solver.specs.Outcomes.{IsProgress, IsRefutation}
use Rattle.coco_base.specs.declared.finding.Finding.{Finding}
use Rattle.coco_base.specs.declared.netlist.Flat.{Flat}
use Rattle.coco_base.specs.declared.setup.Setup.{Setup}
use Rattle.coco_base.specs.declared.unrolled.Unrolled.{Unrolled}
use Rattle.coco_model.specs.Cones.{IsCovered}
use Rattle.coco_model.specs.Findings.{HasFinding}
use Rattle.coco_model.specs.Labels.{label_count}
use Rattle.coco_model.specs.Known.{Row, IsKnown}
use Rattle.coco_model.specs.Meaning.{HasMeaning}
use Rattle.coco_model.specs.Reach.{Reach, IsReach}
use Rattle.coco_model.specs.Roots.{Root, IsRooted}
use Rattle.coco_model.specs.Secure.{IsSecure}
use Rattle.coco_model.specs.SecureInTime.{IsSecureInTime}
use Rattle.coco_model.specs.Stepped.{HasNoFault}
use Rattle.coco_model.specs.UnrolledRuns.{IsUnrolledOf, probed_run}
use Rattle.coco_model.specs.WrittenFindings.{IsFindingValue}
use Rattle.leak_report.specs.declared.answer.Answer.{Answer}
use Rattle.leak_report.specs.declared.answer.Answer.TheVariants.{Accepted, Rejected, Undecided}
use Rattle.derivation_check.specs.Trimmed.{AllNamed}
use Rattle.probe_encode.specs.Formulas.{EncodedView}
use Rattle.formula_laws.specs.Laws.{IsInRun}
use Rattle.run_verdict.specs.declared.formula.Asked.{Asked}

-- no finding exists. So at most so many probes see the same over their windows whatever the secrets are: the old and
-- new values of the leaves that they reach, and the waveforms of their bits under every order of gate events. Runs and
-- reaches exist, and no cycle has a fault, so that this says something of the run that was asked about
pub record IsSecureRun (flat : Flat) (setup : Setup) (asked : Asked) : Type 0 where
  pub no_finding : HasFinding flat setup asked.cycles asked.window asked.order → ⊥
  pub secure : IsSecure flat setup asked.cycles asked.window asked.order
  pub in_time : IsSecureInTime flat setup asked.cycles asked.window asked.order
  pub meaning : HasMeaning flat setup asked.cycles
  pub no_fault : HasNoFault flat setup asked.cycles

-- a value is a finding of the run, over its nodes and what probes reach in it; it names bits and labels of the run
pub record IsFindingOf (flat : Flat) (setup : Setup) (asked : Asked) (finding : Finding) : Type 0 where
  pub exists : HasFinding flat setup asked.cycles asked.window asked.order
  pub u : Unrolled
  pub unrolled : IsUnrolledOf flat setup asked.cycles u
  pub reach : Reach
  pub reaches : IsReach flat setup asked.cycles reach
  pub value : IsFindingValue (probed_run u setup.clock asked.window reach) asked.order finding
  pub in_run : IsInRun flat.bits (label_count setup.table asked.cycles) finding

-- the cones of all probes together hold all shares of some secret bit
pub record IsCoveredRun (flat : Flat) (setup : Setup) (asked : Asked) : Type 0 where
  pub row : ℕ → Row
  pub word : ℕ → ℕ → Row
  pub reach : Reach
  pub root : ℕ → ℕ → Root
  pub rooted : ℕ → ℕ → ℕ → Root
  pub known : IsKnown flat setup asked.cycles row word
  pub reaches : IsReach flat setup asked.cycles reach
  pub roots : IsRooted flat setup asked.cycles row root rooted
  pub covered : IsCovered flat setup asked.cycles asked.window row reach root

-- a derivation of the empty clause: at most so many lines, each valid and new, the last one empty and resting on all
-- others; or none, where the clauses have the empty one
pub record Refutes (clauses : List (List Lit)) (steps : ℕ) (lines : List Line) : Type 0 where
  pub few : length lines ≤ steps
  pub named : AllNamed (length clauses) lines
  pub empty : IsRefutation clauses lines ⊎ ((lines ≡ []) × Contains clauses [])

-- the search was given up after so many lines, each valid and new and none empty; so there were fewer than 3 to the
-- number of variables
pub record IsSpent (form : EncodedView) (steps : ℕ) (lines : List Line) : Type 0 where
  pub all : length lines ≡ steps
  pub progress : IsProgress form.formula.clauses lines
  pub few : steps < 3 ^ form.formula.vars

-- what an answer says of a run, whose formula is this one
abbrev pub IsVerdict : Flat → Setup → Asked → ℕ → EncodedView → Answer → Type 0
IsVerdict flat setup asked steps form (Accepted d) =
    Refutes form.formula.clauses steps d.lines × IsSecureRun flat setup asked
IsVerdict flat setup asked steps form (Rejected finding) = IsFindingOf flat setup asked finding
IsVerdict flat setup asked steps form (Undecided d) =
    IsSpent form steps d.lines × IsCoveredRun flat setup asked
