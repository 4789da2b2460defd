-- What a call judges: the run that files make, its formula, the answer, and the report.
use Rattle.std.specs.Prelude.{◌≡◌, ℕ, ◌≤◌, ◌<◌, ◌^◌, [], ◌⊎◌, length}
use Rattle.coco_base.specs.declared.limits.Limits.{Limits}
use Rattle.derivation_check.specs.Texts.{formula_text}
use Rattle.gate_graph.specs.Graphs.{IsGraphOf}
use Rattle.leak_report.specs.Places.{driver_text}
use Rattle.leak_report.specs.Reports.{report}
use Rattle.leak_report.specs.Texts.{Text}
use Rattle.leak_report.specs.declared.answer.Answer.{Answer}
use Rattle.leak_report.specs.declared.answer.Answer.TheVariants.{Accepted, Rejected, Undecided}
use Rattle.leak_report.specs.declared.answer.Facts.{Facts}
use Rattle.probe_encode.specs.Formulas.{EncodedView}
use Rattle.refusal_lines.specs.declared.refusal.Refusal.{Refusal}
use Rattle.refusal_lines.specs.declared.stop.Stop.{Stop}
use Rattle.refusal_lines.specs.declared.stop.Stop.TheVariants.{Refused, Memory}
use Rattle.run_inputs.specs.Inputs.{Files}
use Rattle.run_inputs.specs.Prepared.{IsPrepared, IsFileRefusal}
use Rattle.run_inputs.specs.declared.inputs.Inputs.{Inputs}
use Rattle.run_inputs.specs.declared.prepared.Prepared.{Prepared}
use Rattle.run_verdict.specs.Laws.{IsWrittenRun}
use Rattle.run_verdict.specs.Stops.{IsRunRefusal}
use Rattle.run_verdict.specs.Verdicts.{IsVerdict}
use Rattle.run_verdict.specs.Written.{IsAsked, IsWritten}
use Rattle.run_verdict.specs.declared.formula.Asked.{Asked}
use Rattle.unroll.specs.Counters.{ArePcs}
use Rattle.coco_engine.specs.declared.judging.Judged.{Judged}

-- what is asked of a run
abbrev pub asked_in : Inputs → Asked
asked_in inputs = record { order = inputs.order; window = inputs.window; cycles = inputs.cycles }

-- numbers as the programs take them, and files of fewer than 2^32 bytes
pub record AreInputs (inputs : Inputs) : Type 0 where
  pub asked : IsAsked (asked_in inputs)
  pub window : inputs.window ≤ 64
  pub some_steps : 1 ≤ inputs.steps
  pub steps : inputs.steps ≤ 1000000000
  pub some_restart : 1 ≤ inputs.restart
  pub restart : inputs.restart ≤ 1000000000
  pub labels : length inputs.labels.now < 2 ^ 32

-- limits that are at most the usual ones
pub record AreLimits (limits : Limits) : Type 0 where
  pub bits : limits.bits ≤ 1000000
  pub labels : limits.labels ≤ 4096
  pub nodes : limits.nodes ≤ 4000000
  pub weight : limits.weight ≤ 16000000

-- what a report tells beside the answer
pub record AreFacts (run : Prepared) (asked : Asked) (most : ℕ) (facts : Facts) : Type 0 where
  pub order : facts.order ≡ asked.order
  pub window : facts.window ≡ asked.window
  pub cycles : facts.cycles ≡ asked.cycles
  pub steps : facts.steps ≡ most
  pub pcs : ArePcs run.flat run.setup asked.cycles facts.pcs

-- a run that files make, with its written formula, within some limits
pub record IsWrittenRunOf (run : Prepared) (asked : Asked) (form : EncodedView) : Type 0 where
  pub graph : IsGraphOf run.flat run.graph
  pub limits : Limits
  pub written : IsWrittenRun run.graph run.setup asked limits form

-- the text is the report of an answer to a run
pub record IsReport (run : Prepared) (asked : Asked) (steps : ℕ) (answer : Answer) (text : Text) : Type 0 where
  pub facts : Facts
  pub are_facts : AreFacts run asked steps facts
  pub is : text ≡ report answer facts run.flat (driver_text run.graph) run.setup

-- the text of the formula, where the run is accepted
abbrev pub formula_of : Answer → EncodedView → Text
formula_of (Accepted d) form = formula_text form.formula.clauses form.formula.vars
formula_of (Rejected f) form = []
formula_of (Undecided d) form = []

-- files make a run, and its written formula has this answer, which is right, with its report
pub record IsJudged (files : Files) (asked : Asked) (steps : ℕ) (limits : Limits) (judged : Judged) : Type 0 where
  pub run : Prepared
  pub prepared : IsPrepared files limits run
  pub form : EncodedView
  pub written : IsWritten run.graph run.setup asked limits.weight form
  pub verdict : IsVerdict run.flat run.setup asked steps form judged.answer
  pub report_is : IsReport run asked steps judged.answer judged.report
  pub formula_is : judged.formula ≡ formula_of judged.answer form

-- files make a run that is refused
pub record IsRefusedRun (files : Files) (asked : Asked) (limits : Limits) (refusal : Refusal) : Type 0 where
  pub run : Prepared
  pub prepared : IsPrepared files limits run
  pub refused : IsRunRefusal run.flat run.setup asked limits refusal

-- why files are refused: the first cause in order
abbrev pub IsRefusal : Files → Asked → Limits → Refusal → Type 0
IsRefusal files asked limits refusal = IsFileRefusal files limits refusal ⊎ IsRefusedRun files asked limits refusal

-- want of memory has no cause here
abbrev pub IsStop : Files → Asked → Limits → Stop → Type 0
IsStop files asked limits (Refused refusal) = IsRefusal files asked limits refusal
IsStop files asked limits Memory = Unit {0}
