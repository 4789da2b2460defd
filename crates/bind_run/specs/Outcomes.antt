-- What binding answers: the setup of a run, or the first fault.
use Rattle.std.specs.Prelude.{◌≡◌, ℕ, List, Option, Ok, Err}
use Rattle.coco_base.specs.declared.netlist.Flat.{Flat}
use Rattle.coco_base.specs.declared.setup.Setup.{Setup}
use Rattle.coco_base.specs.BitNames.{name_of_bit}
use Rattle.label_file.specs.declared.line.Labels.{Labels}
use Rattle.rv_asm.specs.declared.image.Image.{Image}
use Rattle.bind_run.specs.declared.fault.BindFault.{BindFault}
use Rattle.bind_run.specs.declared.fault.BindFault.TheVariants as fault
use Rattle.bind_run.specs.Binding.{IsLeastUnbound, IsUnbound, bound_by}
use Rattle.bind_run.specs.SetupParts.{setup_of}

-- lines bind all bits of input ports, without a fault
pub record AreAllBound (flat : Flat) (clock : Option ℕ) (labels : Labels) : Type 0 where
  pub bound : List ℕ
  pub by_lines : bound_by flat clock labels.lines ≡ Ok bound
  pub all : (b : ℕ) → IsUnbound flat bound b → ⊥

-- the setup of a run, where there is no fault
pub record IsSetupOf (flat : Flat) (clock : Option ℕ) (image : Image) (labels : Labels) (setup : Setup) : Type 0 where
  pub bound : AreAllBound flat clock labels
  pub is : setup ≡ setup_of flat image labels

-- the least input port bit that is not bound, where the lines have no fault, by its name
pub record IsInputUnbound (flat : Flat) (clock : Option ℕ) (labels : Labels) (name : List ℕ) : Type 0 where
  pub bound : List ℕ
  pub by_lines : bound_by flat clock labels.lines ≡ Ok bound
  pub bit : ℕ
  pub least : IsLeastUnbound flat bound bit
  pub named : name ≡ name_of_bit flat bit

-- a fault names a bit, where memory sufficed for the name
abbrev pub IsNamedUnbound : Flat → ℕ → BindFault → Type 0
IsNamedUnbound flat bit fault.Memory = Unit {0}
IsNamedUnbound flat bit (fault.InputUnbound name) = name ≡ name_of_bit flat bit
IsNamedUnbound flat bit f = ⊥

-- why there is no setup: the first fault of the lines, or an input port bit that they do not bind; want of memory has
-- no cause here
pub data IsBindFault (flat : Flat) (clock : Option ℕ) (labels : Labels) : BindFault → Type 0 where
  by_line : (f : BindFault) → bound_by flat clock labels.lines ≡ Err f → IsBindFault flat clock labels f
  unbound : (n : List ℕ) → IsInputUnbound flat clock labels n → IsBindFault flat clock labels (fault.InputUnbound n)
  memory : IsBindFault flat clock labels fault.Memory
