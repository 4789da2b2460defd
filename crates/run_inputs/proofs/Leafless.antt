-- Without `leaf` lines the netlist is that of the file, and no memory word is a leaf.
use Rattle.std.proofs.Common.{◌≡◌, ℕ, ◌+◌, ◌*◌, List, [], ◌∷◌, true, false, Bool, flat_map, refl, sym, ◌∙◌, ap, nat_lt, arith}
use Rattle.std.specs.Prelude.{Option, Result, Ok, Err, None, cond}
use Rattle.coco_base.specs.declared.limits.Limits.{Limits}
use Rattle.coco_base.specs.declared.netlist.Flat.{Flat}
use Rattle.coco_base.specs.declared.setup.LeafPlan.{LeafPlan}
use Rattle.rv_asm.specs.declared.image.Image.{Image}
use Rattle.label_file.specs.Conditions.{named_leaves}
use Rattle.label_file.specs.declared.line.LabelLine.{LabelLine}
use Rattle.label_file.specs.declared.line.LabelLine.TheVariants as line
use Rattle.label_file.specs.declared.line.Labels.{Labels}
use Rattle.bind_run.specs.Memories.{line_leaves}
use Rattle.bind_run.specs.Outcomes.{IsSetupOf}
use Rattle.bind_run.specs.Widened.{bits_with, first_taken, leaf_addresses, leaf_bits, or_taken, widened, widened_by}
use Rattle.bind_run.specs.Nets.{names_of}
use Rattle.bind_run.specs.declared.fault.BindFault.{BindFault}
use Rattle.bind_run.specs.declared.fault.BindFault.TheVariants as fault
use Rattle.run_inputs.specs.Inputs.{Files}
use Rattle.run_inputs.specs.Prepared.{IsLeafless, IsWide}
use Rattle.run_inputs.specs.declared.prepared.Prepared.{Prepared}

-- lines that name no word make none a leaf
no_leaves : (flat : Flat) (lines : List LabelLine) → leaf_addresses lines ≡ [] → flat_map (line_leaves flat) lines ≡ []
no_leaves flat [] e = refl
no_leaves flat (line.Leaf address ∷ lines) e = cc
no_leaves flat (l ∷ lines) e = no_leaves flat lines e

-- with no port more, the netlist is what it was
same_without : (flat : Flat) → widened flat [] ≡ flat
same_without flat = ap (λ n. record { bits = n; ports = flat.ports; cells = flat.cells; flops = flat.flops; nets = flat.nets }) (let e : flat.bits + leaf_bits * 0 ≡ flat.bits = omega arith in e)

-- a netlist that is widened by no word is what it was
same_wide : (plain flat : Flat) (limit : ℕ) → or_taken plain limit [] None ≡ Ok flat → plain ≡ flat
same_wide plain flat limit is = go (nat_lt limit (bits_with plain [])) is
  where
    go : (t : Bool) → cond t (Err (fault.LeafBits (bits_with plain []) limit)) (Ok (widened plain [])) ≡ Ok flat → plain ≡ flat
    go true e = cc
    go false e = sym (same_without plain) ∙ (let f : widened plain [] ≡ flat = cc in f)

pub leafless : (files : Files) (limits : Limits) (p : Prepared) (image : Image) (labels : Labels) (clock : Option ℕ)
    → IsWide files limits p.flat image labels → IsSetupOf p.flat clock image labels p.setup
    → leaf_addresses labels.lines ≡ [] → IsLeafless files limits p
leafless files limits p image labels clock wide setup e = record {
  read = wide.labelled.program.netlist.read ∙ ap Ok (same_wide wide.plain p.flat limits.bits
      (sym (ap (λ a. or_taken wide.plain limits.bits a (first_taken (names_of wide.plain) a)) e) ∙ wide.wide));
  none = ap (λ s. s.leaves) setup.is ∙ no_leaves p.flat labels.lines e;
}
