-- Reading lines one after the other.
use Rattle.std.proofs.Common.{◌≡◌, ◌+◌, ℕ, true, List, ◌∷◌, Some, Ok, Err, refl, sym, ◌∙◌, ap}
use Rattle.std.specs.Str.{is_utf8}
use Rattle.coco_base.specs.Texts.{words}
use Rattle.label_file.specs.declared.form.Form.{Form}
use Rattle.label_file.specs.Forms.{form_of}
use Rattle.label_file.specs.declared.cause.Cause.{Cause}
use Rattle.label_file.specs.declared.cause.Cause.TheVariants.{BadLine, Twice, UnknownSecret, ShareRange, TooMany, Memory}
use Rattle.label_file.specs.declared.fault.LabelFault.{LabelFault}
use Rattle.label_file.specs.declared.reading.Reading.{Reading}
use Rattle.label_file.specs.Causes.{Fails, fault_at}
use Rattle.label_file.specs.Files.{IsFaultOf, after_form, after_line, after_lines, after_words, before_comment, labels_of, onwards, read_whole}
use Rattle.label_file.specs.Readings.{empty}

-- a line that is taken
pub line_taken : (limit : ℕ) (r n : Reading) (before : ℕ) (bytes : List ℕ) (more ls : List (List ℕ)) → ls ≡ bytes ∷ more
    → after_line limit r bytes ≡ Ok n → after_lines limit n (before + 1) more ≡ after_lines limit r before ls
line_taken limit r n before bytes more ls split e =
    sym (ap (after_lines limit r before) split ∙ ap (onwards (before + 1) (λ next. after_lines limit next (before + 1) more)) e)

-- a line at fault
line_stops : (limit : ℕ) (r : Reading) (before : ℕ) (bytes : List ℕ) (more ls : List (List ℕ)) (c : Cause) → ls ≡ bytes ∷ more
    → after_line limit r bytes ≡ Err c → after_lines limit r before ls ≡ Err (fault_at (before + 1) c)
line_stops limit r before bytes more ls c split e =
    ap (after_lines limit r before) split ∙ ap (onwards (before + 1) (λ next. after_lines limit next (before + 1) more)) e

-- all lines are taken
pub labels_of-read : (limit : ℕ) (ls : List (List ℕ)) (r : Reading) → after_lines limit empty 0 ls ≡ Ok r
    → labels_of limit ls ≡ Ok (record { lines = r.lines; table = r.table })
unfolding labels_of
labels_of-read limit ls r e = ap read_whole e

labels_of-fault : (limit : ℕ) (ls : List (List ℕ)) (f : LabelFault) → after_lines limit empty 0 ls ≡ Err f → labels_of limit ls ≡ Err f
unfolding labels_of
labels_of-fault limit ls f e = ap read_whole e

-- the fault of the line that stops the reading, unless memory ran out
pub stops_at : (limit : ℕ) (r : Reading) (before : ℕ) (bytes : List ℕ) (more ls whole : List (List ℕ)) (c : Cause) → ls ≡ bytes ∷ more
    → after_lines limit r before ls ≡ after_lines limit empty 0 whole → Fails c (after_line limit r bytes)
    → IsFaultOf (labels_of limit whole) (fault_at (before + 1) c)
stops_at limit r before bytes more ls whole BadLine split same h = labels_of-fault limit whole _ (sym same ∙ line_stops limit r before bytes more ls BadLine split h)
stops_at limit r before bytes more ls whole Twice split same h = labels_of-fault limit whole _ (sym same ∙ line_stops limit r before bytes more ls Twice split h)
stops_at limit r before bytes more ls whole UnknownSecret split same h = labels_of-fault limit whole _ (sym same ∙ line_stops limit r before bytes more ls UnknownSecret split h)
stops_at limit r before bytes more ls whole ShareRange split same h = labels_of-fault limit whole _ (sym same ∙ line_stops limit r before bytes more ls ShareRange split h)
stops_at limit r before bytes more ls whole (TooMany count most) split same h = labels_of-fault limit whole _ (sym same ∙ line_stops limit r before bytes more ls (TooMany count most) split h)
stops_at limit r before bytes more ls whole Memory split same h = tt

-- a line that is text says what its words before the comment say
pub line_step : (limit : ℕ) (r : Reading) (bytes : List ℕ) (ws : List (List ℕ)) → is_utf8 bytes ≡ true → ws ≡ before_comment (words bytes)
    → after_words limit r ws ≡ after_line limit r bytes
unfolding after_line
line_step limit r bytes ws text e = rw (e, text) refl

-- words with a form say what the form says
pub words_step : (limit : ℕ) (r : Reading) (ws : List (List ℕ)) (word : List ℕ) (operands : List (List ℕ)) (f : Form) → ws ≡ word ∷ operands
    → form_of word ≡ Some f → after_form limit r f operands ≡ after_words limit r ws
unfolding after_words
words_step limit r ws word operands f split form = rw (split, form) refl
