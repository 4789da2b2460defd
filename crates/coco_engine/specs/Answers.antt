-- What a call may leave in its sink, and the status and the answer that go with it.
use Rattle.std.specs.Prelude.{◌≡◌, ℕ, ◌≤◌, ◌++◌, Bool, true, false, [], ◌⊎◌, Option, Some, None, codes}
use Rattle.coco_base.specs.Causes.{Rose}
use Rattle.coco_base.specs.Outside.{after}
use Rattle.coco_base.specs.declared.limits.Limits.{Limits}
use Rattle.coco_base.specs.declared.status.Status.{Status}
use Rattle.coco_base.specs.declared.status.Status.TheVariants.{Accepted, Rejected, Undecided, Refused, ReadFault, WriteFault, NoMemory, Usage}
use Rattle.command_words.specs.Commands.{Check}
use Rattle.derivation_check.specs.Texts.{derivation_text}
use Rattle.leak_report.specs.Texts.{Text, printed}
use Rattle.leak_report.specs.declared.answer.Answer.{Answer}
use Rattle.leak_report.specs.declared.answer.Answer.TheVariants as answer
use Rattle.refusal_lines.specs.Refusals.{refusal_line}
use Rattle.refusal_lines.specs.declared.refusal.Refusal.{Refusal}
use Rattle.refusal_lines.specs.declared.refusal.Refusal.TheVariants.{Long}
use Rattle.run_inputs.specs.Inputs.{Files}
use Rattle.run_verdict.specs.Written.{IsAsked}
use Rattle.run_verdict.specs.declared.formula.Asked.{Asked}
use Rattle.coco_engine.specs.Files.{HasPrefix}
use Rattle.coco_engine.specs.Judged.{IsJudged, IsRefusal}
use Rattle.coco_engine.specs.Reading.{AreContents, AreShort, IsFirstLong, IsNamed}
use Rattle.coco_engine.specs.declared.judging.Judged.{Judged}
use Rattle.coco_engine.specs.declared.reading.ReadStop.{ReadStop}
use Rattle.coco_engine.specs.declared.reading.ReadStop.TheVariants as stop

-- the limits of the programs
abbrev pub usual : Limits
usual = record { bits = 1000000; labels = 4096; nodes = 4000000; weight = 16000000 }

-- ---- what is answered

abbrev pub asked_by : Check → Asked
asked_by c = record { order = c.sizes.order; window = c.sizes.window; cycles = c.sizes.cycles }

-- numbers as they are in the grammar of the words
pub record IsInSizes (c : Check) : Type 0 where
  pub asked : IsAsked (asked_by c)
  pub window : c.sizes.window ≤ 64
  pub some_steps : 1 ≤ c.steps
  pub steps : c.steps ≤ 1000000000
  pub some_restart : 1 ≤ c.restart
  pub restart : c.restart ≤ 1000000000

-- the formula and the derivation behind an accepted report, where they are asked for
abbrev pub proof_part : Bool → Judged → Answer → Text
proof_part true judged (answer.Accepted d) = judged.formula ++ derivation_text d.lines
proof_part true judged (answer.Rejected f) = []
proof_part true judged (answer.Undecided d) = []
proof_part false judged given = []

-- what is written for a judged run
abbrev pub written_text : Bool → Judged → Text
written_text proof judged = judged.report ++ proof_part proof judged judged.answer

-- the answer is right for files of these bytes, with this text
pub record AnswersRun (files : Files) (c : Check) (given : Answer) (text : Text) : Type 0 where
  pub short : AreShort files
  pub judged : Judged
  pub is_judged : IsJudged files (asked_by c) c.steps usual judged
  pub same : judged.answer ≡ given
  pub written : text ≡ written_text c.proof judged

-- the line is right for files of these bytes: one is too long, or what they make is refused
pub record AnswersRefusal (files : Files) (c : Check) (text : Text) : Type 0 where
  pub refusal : Refusal
  pub cause : ((name : Text) × IsFirstLong c.files files name × (refusal ≡ Long name))
      ⊎ (AreShort files × IsRefusal files (asked_by c) usual refusal)
  pub written : text ≡ refusal_line refusal

-- an answer of a form, which is right with this text
abbrev pub AnswersWith : (Answer → Type 0) → Files → Check → Option Answer → Text → Type 0
AnswersWith form files c None text = ⊥
AnswersWith form files c (Some given) text = form given × AnswersRun files c given text

-- the status of an answer
abbrev pub status_of : Answer → Status
status_of (answer.Accepted d) = Accepted
status_of (answer.Rejected f) = Rejected
status_of (answer.Undecided d) = Undecided

-- an accepted answer goes with its status, and so do the others
abbrev pub IsAccepting : Answer → Type 0
IsAccepting (answer.Accepted d) = Unit {0}
IsAccepting (answer.Rejected f) = ⊥
IsAccepting (answer.Undecided d) = ⊥

abbrev pub IsRejecting : Answer → Type 0
IsRejecting (answer.Accepted d) = ⊥
IsRejecting (answer.Rejected f) = Unit {0}
IsRejecting (answer.Undecided d) = ⊥

abbrev pub IsGivingUp : Answer → Type 0
IsGivingUp (answer.Accepted d) = ⊥
IsGivingUp (answer.Rejected f) = ⊥
IsGivingUp (answer.Undecided d) = Unit {0}

-- the texts that go with a status and an answer, for files of these bytes
abbrev pub AnswersFiles : Files → Check → Status → Option Answer → Text → Type 0
AnswersFiles files c Accepted given text = AnswersWith IsAccepting files c given text
AnswersFiles files c Rejected given text = AnswersWith IsRejecting files c given text
AnswersFiles files c Undecided given text = AnswersWith IsGivingUp files c given text
AnswersFiles files c Refused given text = (given ≡ None) × AnswersRefusal files c text
AnswersFiles files c ReadFault given text = ⊥
AnswersFiles files c WriteFault given text = ⊥
AnswersFiles files c NoMemory given text = ⊥
AnswersFiles files c Usage given text = ⊥

-- there are bytes of the files, which the shelf does not contradict, for which the answer is right
pub record AnswersTold (told : Text → Option Text) (c : Check) (status : Status) (given : Option Answer) (text : Text)
    : Type 0 where
  pub files : Files
  pub contents : AreContents told c.files files
  pub answers : AnswersFiles files c status given text

abbrev pub fault_line : Text → Text
fault_line name = codes "read fault " ++ printed name ++ codes "\n"

-- the shelf's count of faults rose in this call, and the text names one of the files
pub record AnswersFault (before now : ℕ) (c : Check) (text : Text) : Type 0 where
  pub rose : Rose before now
  pub name : Text
  pub named : IsNamed c.files name
  pub written : text ≡ fault_line name

-- ---- what is written

-- the texts that a call may write whole, with their statuses and answers
abbrev pub MayWrite : (Text → Option Text) → ℕ → ℕ → Check → Status → Option Answer → Text → Type 0
MayWrite told before now c Accepted given text = AnswersTold told c Accepted given text
MayWrite told before now c Rejected given text = AnswersTold told c Rejected given text
MayWrite told before now c Undecided given text = AnswersTold told c Undecided given text
MayWrite told before now c Refused given text = AnswersTold told c Refused given text
MayWrite told before now c ReadFault given text = (given ≡ None) × AnswersFault before now c text
MayWrite told before now c WriteFault given text = ⊥
MayWrite told before now c NoMemory given text = ⊥
MayWrite told before now c Usage given text = ⊥

-- what is answered in place of files that are not read, because of that of this name
abbrev pub AnswersStop : Text → ReadStop → Status → Option Answer → Text → Type 0
AnswersStop name stop.Long status given text =
    (status ≡ Refused) × (given ≡ None) × (text ≡ refusal_line (Long name))
AnswersStop name stop.Failed status given text =
    (status ≡ ReadFault) × (given ≡ None) × (text ≡ fault_line name)
AnswersStop name stop.Memory status given text = ⊥

-- a call that writes a whole text leaves it in its sink
abbrev pub LeavesWhole : (Text → Type 0) → Option Text → Option Text → Type 0
LeavesWhole may old new = (text : Text) × may text × (new ≡ after old text)

-- after a failed write, a proper front of a text that could have been written whole
pub record LeavesFront (may : Status → Option Answer → Text → Type 0) (old new : Option Text) : Type 0 where
  pub status : Status
  pub given : Option Answer
  pub text : Text
  pub may_be : may status given text
  pub front : HasPrefix old new text

-- what a call leaves in its sink, whose words are of the grammar
abbrev pub Leaves : (Status → Option Answer → Text → Type 0) → Option Text → Option Text → Status → Option Answer
    → Type 0
Leaves may old new Accepted given = LeavesWhole (may Accepted given) old new
Leaves may old new Rejected given = LeavesWhole (may Rejected given) old new
Leaves may old new Undecided given = LeavesWhole (may Undecided given) old new
Leaves may old new Refused given = LeavesWhole (may Refused given) old new
Leaves may old new ReadFault given = LeavesWhole (may ReadFault given) old new
Leaves may old new WriteFault given = (given ≡ None) × LeavesFront may old new
Leaves may old new NoMemory given = (given ≡ None) × (new ≡ old)
Leaves may old new Usage given = ⊥
