-- The first `mem` line of an address, and the words that `mem` lines give.
use Rattle.std.proofs.Common.{◌≡◌, ◌≢◌, ℕ, ◌+◌, ◌*◌, List, [], ◌∷◌, ◌++◌, refl, sym, ◌∙◌, ap}
use Rattle.std.specs.Prelude.{Option, Some, None, flat_map}
use Rattle.std.specs.List.{range_with_len}
use Rattle.std.proofs.lemmas.List.Elements.{All-cons, All-head, All-nil, All-tail}
use Rattle.gate_graph.proofs.TableLemmas.{cond_other}
use Rattle.label_file.specs.declared.line.LabelLine.{LabelLine}
use Rattle.label_file.specs.declared.line.LabelLine.TheVariants as line
use Rattle.label_file.specs.declared.line.LabelValue.{LabelValue}
use Rattle.label_file.specs.declared.line.LabelValue.TheVariants.{Number}
use Rattle.rv_asm.specs.declared.image.Image.{Image}
use Rattle.bind_run.specs.Values.{HaveRoom, LineHasRoom}
use Rattle.bind_run.specs.WordPlans.{data_start, data_words, first_of, image_value, line_value, mem_lines, mem_value, plans_of, region_plans, text_words, words_of}

pub other_mem : (address at : ℕ) (value : LabelValue) (l : LabelLine) (more rest : List LabelLine) → rest ≡ l ∷ more → l ≡ line.Mem at value
    → address ≢ at → mem_value address more ≡ mem_value address rest
other_mem address at value l more rest e f n =
    sym (ap (mem_value address) e ∙ ap (λ k. first_of (line_value address k) (mem_value address more)) f
    ∙ ap (λ o. first_of o (mem_value address more)) (cond_other address at (Some value) None n))

none_of : (address : ℕ) (l : LabelLine) → ((at : ℕ) (value : LabelValue) → l ≢ line.Mem at value) → line_value address l ≡ None
none_of address (line.Mem at value) n = absurd (n at value refl)
none_of address l n = refl

pub no_mem : (address : ℕ) (l : LabelLine) (more rest : List LabelLine) → rest ≡ l ∷ more → ((at : ℕ) (value : LabelValue) → l ≢ line.Mem at value)
    → mem_value address more ≡ mem_value address rest
no_mem address l more rest e n =
    sym (ap (mem_value address) e ∙ ap (λ o. first_of o (mem_value address more)) (none_of address l n))

-- the `mem` lines alone give each word the same value
mem_value-mems : (address : ℕ) (ls : List LabelLine) → mem_value address (mem_lines ls) ≡ mem_value address ls
mem_value-mems address [] = refl
mem_value-mems address (line.Mem a value ∷ ls) = ap (first_of (line_value address (line.Mem a value))) (mem_value-mems address ls)
mem_value-mems address (l ∷ ls) = mem_value-mems address ls

region-mems : (start : ℕ) (words : List ℕ) (fill : Option LabelValue) (ls : List LabelLine) (ks : List ℕ)
    → flat_map (region_plans start words fill (mem_lines ls)) ks ≡ flat_map (region_plans start words fill ls) ks
region-mems start words fill ls [] = refl
region-mems start words fill ls (k ∷ ks) =
    ap (λ o. plans_of (start + 4 * k) (first_of (first_of o (image_value words k)) fill) ++ flat_map (region_plans start words fill (mem_lines ls)) ks)
    (mem_value-mems (start + 4 * k) ls)
    ∙ ap (λ ps. region_plans start words fill ls k ++ ps) (region-mems start words fill ls ks)

pub words_of-mems : (image : Image) (ls : List LabelLine) → words_of image (mem_lines ls) ≡ words_of image ls
words_of-mems image ls =
    ap (λ ps. ps ++ flat_map (region_plans data_start image.values (Some (Number 0)) (mem_lines ls)) (range_with_len 0 data_words))
    (region-mems 0 image.text None ls (range_with_len 0 text_words))
    ∙ ap (λ ps. flat_map (region_plans 0 image.text None ls) (range_with_len 0 text_words) ++ ps)
    (region-mems data_start image.values (Some (Number 0)) ls (range_with_len 0 data_words))

pub mems_room : (ls : List LabelLine) → HaveRoom ls → HaveRoom (mem_lines ls)
mems_room [] room = All-nil LineHasRoom
mems_room (line.Mem a value ∷ ls) room =
    All-cons LineHasRoom (line.Mem a value) (mem_lines ls) (All-head LineHasRoom (line.Mem a value) ls room)
    (mems_room ls (All-tail LineHasRoom (line.Mem a value) ls room))
mems_room (l ∷ ls) room = mems_room ls (All-tail LineHasRoom l ls room)
