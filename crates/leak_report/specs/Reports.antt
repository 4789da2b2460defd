-- The report of a run.
use Rattle.std.specs.Prelude.{ℕ, ◌-◌, ◌<◌, ◌≡◌, ◌==◌, ◌++◌, List, [], All, length, Option, Some, None, codes, if◌then◌else◌}
use Rattle.clause_store.specs.declared.line.Derivation.{Derivation}
use Rattle.coco_base.specs.declared.finding.Finding.{Finding}
use Rattle.coco_base.specs.declared.finding.Probe.{Probe}
use Rattle.coco_base.specs.declared.labels.LabelTable.{LabelTable}
use Rattle.coco_base.specs.declared.netlist.Flat.{Flat}
use Rattle.coco_base.specs.declared.setup.Setup.{Setup}
use Rattle.coco_model.specs.Labels.{label_count, secret_bit_count}
use Rattle.leak_report.specs.Labels.{set_line}
use Rattle.leak_report.specs.Places.{probe_lines, sees_lines}
use Rattle.leak_report.specs.Texts.{Text, count_line}
use Rattle.leak_report.specs.declared.answer.Answer.{Answer}
use Rattle.leak_report.specs.declared.answer.Answer.TheVariants.{Accepted, Rejected, Undecided}
use Rattle.leak_report.specs.declared.answer.Facts.{Facts}

-- all bits but that of the clock line
abbrev pub signal_bits : Flat → Option ℕ → ℕ
signal_bits flat None = flat.bits
signal_bits flat (Some clock) = flat.bits - 1

-- a window of one cycle is not told
abbrev pub window_line : ℕ → Text
window_line window = if window == 1 then [] else count_line (codes "window ") window

abbrev pub verdict_line : Answer → Text
verdict_line (Accepted d) = codes "accepted\n"
verdict_line (Rejected f) = codes "rejected\n"
verdict_line (Undecided d) = codes "undecided\n"

unfoldable pub head_text : Answer → Facts → Flat → Setup → Text
head_text answer facts flat setup =
    verdict_line answer ++ count_line (codes "order ") facts.order ++ window_line facts.window
    ++ count_line (codes "cycles ") facts.cycles ++ count_line (codes "bits ") (signal_bits flat setup.clock)
    ++ count_line (codes "secret bits ") (secret_bit_count setup.table)
    ++ count_line (codes "labels ") (label_count setup.table facts.cycles)

-- with the addresses by cycle and the source lines of the text words
unfoldable pub finding_text : Flat → (ℕ → Text) → List ℕ → List ℕ → LabelTable → Finding → Text
finding_text flat driver pcs lines table finding =
    probe_lines flat driver pcs lines finding.probes ++ sees_lines flat finding.seen ++ set_line table finding.set

-- what follows the head
abbrev pub tail_text : Answer → Flat → (ℕ → Text) → Facts → Setup → Text
tail_text (Accepted d) flat driver facts setup = []
tail_text (Rejected f) flat driver facts setup = finding_text flat driver facts.pcs setup.lines setup.table f
tail_text (Undecided d) flat driver facts setup = count_line (codes "steps ") (length d.lines)

-- the report, where `driver` prints what drives a bit
abbrev pub report : Answer → Facts → Flat → (ℕ → Text) → Setup → Text
report answer facts flat driver setup = head_text answer facts flat setup ++ tail_text answer flat driver facts setup

-- the bits and the labels that a finding names are those of the run
pub record IsFindingInRange (bits labels : ℕ) (finding : Finding) : Type 0 where
  pub probes : All (λ (p : Probe). p.bit < bits) finding.probes
  pub seen : All (λ (p : Probe). p.bit < bits) finding.seen
  pub set : All (λ label. label < labels) finding.set

abbrev pub IsAnswerInRange : ℕ → ℕ → Answer → Type 0
IsAnswerInRange bits labels (Accepted d) = Unit {0}
IsAnswerInRange bits labels (Rejected f) = IsFindingInRange bits labels f
IsAnswerInRange bits labels (Undecided d) = Unit {0}
