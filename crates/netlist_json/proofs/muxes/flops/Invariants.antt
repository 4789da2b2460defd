-- the flops so far, and those of the flops that are left, are the flops of all; the bits counted are left
use Rattle.std.proofs.Common.{◌≡◌, ◌+◌, ◌++◌, drop, sum_by}
use Rattle.netlist_json.specs.Flats.{all_flops, mux_count}
use Rattle.netlist_json.proofs.muxes.flops.Given as goal

abbrev pub invariant-flops : goal.invariant-flops
invariant-flops l = record {
  bits : l.next + sum_by mux_count (drop l.register-index l.registers) ≡ l.fn.bit + sum_by mux_count l.registers;
  left : l.all ++ all_flops (drop l.register-index l.registers) l.next ≡ all_flops l.registers l.fn.bit;
}
