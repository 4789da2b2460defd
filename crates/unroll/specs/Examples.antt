-- A register that keeps its value, and what its run is bound to.
use Rattle.std.specs.Prelude.{false, true, [], ◌∷◌, codes, Some, None}
use Rattle.coco_base.specs.declared.labels.MaskPlan.{MaskPlan}
use Rattle.coco_base.specs.declared.netlist.Flat.{Flat}
use Rattle.coco_base.specs.declared.netlist.FlatFlop.{FlatFlop}
use Rattle.coco_base.specs.declared.netlist.FlatPort.{FlatPort}
use Rattle.coco_base.specs.declared.netlist.Wire.TheVariants.{Bit}
use Rattle.coco_base.specs.declared.setup.Setup.{Setup}
use Rattle.coco_base.specs.declared.setup.Start.TheVariants.{Public, Label}

abbrev pub clock_port : FlatPort
clock_port = record { name = codes "clk"; input = true; wires = Bit 0 ∷ [] }

abbrev pub keeping_flop : FlatFlop
keeping_flop =
    record { name = codes "c_q"; clock = Bit 0; next = Bit 1; output = 1; reset = None; level = false }

-- `q = FLOP(q)`
abbrev pub register : Flat
register = record { bits = 2; ports = clock_port ∷ []; cells = []; flops = keeping_flop ∷ []; nets = [] }

abbrev pub one_mask : MaskPlan
one_mask = record { name = codes "m"; width = 1; first = 0 }

-- the register starts at a mask
abbrev pub masked : Setup
masked = record {
  starts = Public false ∷ Label 0 ∷ [];
  inputs = [];
  echoes = [];
  memories = [];
  words = [];
  leaves = [];
  controls = [];
  pc = [];
  lines = [];
  table = record { secrets = []; masks = one_mask ∷ []; fresh = []; declared = 1; per_cycle = 0 };
  clock = Some 0;
}
