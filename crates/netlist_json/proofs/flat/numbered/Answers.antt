-- the new bits are those of the registers
use Rattle.std.proofs.Common.{arith}
use Rattle.netlist_json.proofs.FlatLaws.{sum_by-flat_registers}
use Rattle.netlist_json.proofs.flat.numbered.Goals as goal

pub muxes-requires : goal.muxes-requires
muxes-requires c = rw (c.as_slice.ensures.value, c.in_ok-registers.ensures, sum_by-flat_registers c.args.order.now c.args.elements.now) (omega arith)

pub flops-requires : goal.flops-requires
flops-requires c = rw (c.as_slice-4.ensures.value, c.in_ok-registers.ensures, sum_by-flat_registers c.args.order.now c.args.elements.now) (omega arith)
