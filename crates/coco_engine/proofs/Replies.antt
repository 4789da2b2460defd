-- What a call may write, and what it leaves.
use Rattle.std.proofs.Common.{◌≡◌, ℕ, inl, inr, Option, Some, None, Result, Ok, Err, IfOk, IfSome, refl, sym}
use Rattle.coco_base.specs.declared.limits.Limits.{Limits}
use Rattle.coco_base.specs.declared.status.Status.{Status}
use Rattle.coco_base.specs.declared.status.Status.TheVariants.{Refused, NoMemory}
use Rattle.command_words.specs.Commands.{Check}
use Rattle.leak_report.specs.Texts.{Text}
use Rattle.leak_report.specs.declared.answer.Answer.{Answer}
use Rattle.leak_report.specs.declared.answer.Answer.TheVariants as answer
use Rattle.refusal_lines.specs.Refusals.{refusal_line}
use Rattle.refusal_lines.specs.declared.refusal.Refusal.{Refusal}
use Rattle.refusal_lines.specs.declared.refusal.Refusal.TheVariants.{Long}
use Rattle.run_inputs.specs.Inputs.{Files}
use Rattle.run_verdict.specs.declared.formula.Asked.{Asked}
use Rattle.coco_engine.specs.Answers.{AnswersFiles, AnswersStop, Leaves, MayWrite, asked_by, status_of, usual, written_text}
use Rattle.coco_engine.specs.Judged.{IsJudged, IsRefusal}
use Rattle.coco_engine.specs.Reading.{AreShort, StopsFiles}
use Rattle.coco_engine.specs.declared.judging.Judged.{Judged}
use Rattle.coco_engine.specs.declared.reading.ReadStop.{ReadStop}
use Rattle.coco_engine.specs.declared.reading.ReadStop.TheVariants as stop

-- ---- files that were read

abbrev pub limits_of : ℕ → ℕ → ℕ → ℕ → Limits
limits_of bits labels nodes weight = record { bits = bits; labels = labels; nodes = nodes; weight = weight }

pub is_usual : (bits labels nodes weight : ℕ) → bits ≡ 1000000 → labels ≡ 4096 → nodes ≡ 4000000 → weight ≡ 16000000 → limits_of bits labels nodes weight ≡ usual
is_usual bits labels nodes weight a b c d = rw (a, b, c, d) refl

pub judged_again : (from files : Files) (given asked : Asked) (most steps : ℕ) (limits : Limits) (judged : Judged) → from ≡ files → given ≡ asked → most ≡ steps → limits ≡ usual → IsJudged from given most limits judged → IsJudged files asked steps usual judged
judged_again from files given asked most steps limits judged a b c d h = rw (sym a, sym b, sym c, sym d) h

pub refused_again : (from files : Files) (given asked : Asked) (limits : Limits) (refusal : Refusal) → from ≡ files → given ≡ asked → limits ≡ usual → IsRefusal from given limits refusal → IsRefusal files asked usual refusal
refused_again from files given asked limits refusal a b c h = rw (sym a, sym b, sym c) h

-- a judged run is answered by its report
pub judged_answers : (files : Files) (c : Check) (judged : Judged) (given : Answer) → judged.answer ≡ given → AreShort files → IsJudged files (asked_by c) c.steps usual judged → AnswersFiles files c (status_of given) (Some given) (written_text c.proof judged)
judged_answers files c judged (answer.Accepted d) is short right = (tt, record { short = short; judged = judged; is_judged = right; same = is; written = refl })
judged_answers files c judged (answer.Rejected f) is short right = (tt, record { short = short; judged = judged; is_judged = right; same = is; written = refl })
judged_answers files c judged (answer.Undecided d) is short right = (tt, record { short = short; judged = judged; is_judged = right; same = is; written = refl })

-- a refused one by its line
pub refusal_answers : (files : Files) (c : Check) (refusal : Refusal) → AreShort files → IsRefusal files (asked_by c) usual refusal → AnswersFiles files c Refused None (refusal_line refusal)
refusal_answers files c refusal short right = (refl, record { refusal = refusal; cause = inr (short, right); written = refl })

-- a reply with the status, the answer and the text that are right
pub reply_answers : {R E : Type 0} (s : R → Status) (g : R → Option Answer) (t : R → Text) (result : Result R E) (files : Files) (c : Check) (status : Status) (given : Option Answer) (text : Text)
    → IfOk result (λ r. s r ≡ status) → IfOk result (λ r. g r ≡ given) → IfOk result (λ r. t r ≡ text) → AnswersFiles files c status given text
    → IfOk result (λ r. AnswersFiles files c (s r) (g r) (t r))
reply_answers s g t (Ok r) files c status given text is answered written h = rw (is, answered, written) h
reply_answers s g t (Err e) files c status given text is answered written h = tt

-- ---- files that were not

stop_answers : (told : Text → Option Text) (before now : ℕ) (c : Check) (name : Text) (why : ReadStop) (status : Status) (given : Option Answer) (text : Text) → StopsFiles told before now c.files name why → AnswersStop name why status given text → MayWrite told before now c status given text
stop_answers told before now c name stop.Long status given text stops (is, unanswered, written) =
    rw is (record {
      files = stops.files;
      contents = stops.contents;
      answers = (unanswered, record { refusal = Long name; cause = inl (name, stops.first, refl); written = written });
    })
stop_answers told before now c name stop.Failed status given text stops (is, unanswered, written) =
    rw is (unanswered, record { rose = stops.1; name = name; named = stops.0; written = written })
stop_answers told before now c name stop.Memory status given text stops answers = absurd answers

pub stop_reply_answers : {R E : Type 0} (s : R → Status) (g : R → Option Answer) (t : R → Text) (result : Result R E) (told : Text → Option Text) (before now : ℕ) (c : Check) (name : Text) (why : ReadStop)
    → StopsFiles told before now c.files name why → IfOk result (λ r. AnswersStop name why (s r) (g r) (t r)) → IfOk result (λ r. MayWrite told before now c (s r) (g r) (t r))
stop_reply_answers s g t (Ok r) told before now c name why stops h = stop_answers told before now c name why (s r) (g r) (t r) stops h
stop_reply_answers s g t (Err e) told before now c name why stops h = tt

-- ---- want of memory before anything is read

pub leaves_nothing : (command : Option Check) (told : Text → Option Text) (before now : ℕ) (old : Option Text) (status : Status) (given : Option Answer) → status ≡ NoMemory → given ≡ None → IfSome command (λ c. Leaves (MayWrite told before now c) old old status given)
leaves_nothing None told before now old status given is none = tt
leaves_nothing (Some c) told before now old status given is none = rw is (none, refl)
