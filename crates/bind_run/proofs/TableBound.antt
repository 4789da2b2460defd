-- The table of labels of a setup: the labels of a cycle are those of its fresh masks, each once.
use Rattle.std.proofs.Common.{◌≡◌, ℕ, ◌+◌, List, [], ◌∷◌, ◌++◌, refl, sym, ◌∙◌, ap, subst, arith}
use Rattle.std.specs.Prelude.{Contains, flat_map}
use Rattle.std.specs.List.{range_with_len}
use Rattle.coco_base.specs.declared.netlist.Flat.{Flat}
use Rattle.coco_model.specs.Labels.{IsLabelTable, mask_labels}
use Rattle.coco_model.specs.Netlist.{HasNoRepeat}
use Rattle.label_file.specs.declared.line.LabelLine.{LabelLine}
use Rattle.label_file.specs.declared.line.LabelLine.TheVariants as line
use Rattle.label_file.specs.declared.line.Labels.{Labels}
use Rattle.bind_run.specs.Inputs.{fresh_count, fresh_masks}
use Rattle.bind_run.specs.Nets.{wires_of}
use Rattle.bind_run.specs.SetupParts.{table_of}
use Rattle.bind_run.proofs.Ranges.{range-append, range_listed, range_once, range_place}
use Rattle.std.specs.Prelude.{length}

-- the labels of fresh masks are numbered one after the other
fresh_range : (flat : Flat) (first : ℕ) (ls : List LabelLine) → flat_map mask_labels (fresh_masks flat first ls) ≡ range_with_len first (fresh_count flat ls)
fresh_range flat first [] = refl
fresh_range flat first (line.Fresh net name ∷ ls) =
    ap (λ ns. range_with_len first (length (wires_of flat net)) ++ ns) (fresh_range flat (first + length (wires_of flat net)) ls)
    ∙ sym (range-append first (length (wires_of flat net)) (fresh_count flat ls))
fresh_range flat first (l ∷ ls) =
    fresh_range flat (first + 0) ls
    ∙ ap (λ n. range_with_len n (fresh_count flat ls)) (let z : first + 0 ≡ first = omega arith in z)
    ∙ ap (range_with_len first) (let z : fresh_count flat ls ≡ 0 + fresh_count flat ls = omega arith in z)

pub table_is : (flat : Flat) (labels : Labels) → IsLabelTable labels.table → IsLabelTable (table_of flat labels)
table_is flat labels is =
    let e = fresh_range flat 0 labels.lines in
    let n = fresh_count flat labels.lines in
    record {
      wide = is.wide;
      shared = is.shared;
      mask_wide = is.mask_wide;
      few = is.few;
      once = is.once;
      each = is.each;
      fresh_once = subst HasNoRepeat (sym e) (range_once 0 n);
      fresh_each = λ l. (
        (λ h. let r = range_place 0 n l (subst (λ ls. Contains ls l) e h) in let b = r.1 in omega (arith, b)),
        (λ h. subst (λ ls. Contains ls l) (sym e) (range_listed 0 n l (omega arith) (omega (arith, h)))),
      );
    }
