-- the muxes so far, and those of the flops that are left, are the muxes of all; the bits counted are left
use Rattle.std.proofs.Common.{◌≡◌, ◌+◌, ◌++◌, drop, sum_by}
use Rattle.netlist_json.specs.Flats.{all_muxes, mux_count}
use Rattle.netlist_json.proofs.muxes.muxes.Given as goal

abbrev pub invariant-flops : goal.invariant-flops
invariant-flops l = record {
  bits : l.next + sum_by mux_count (drop l.flop-index l.flops) ≡ l.fn.bit + sum_by mux_count l.flops;
  left : l.all.items ++ all_muxes (drop l.flop-index l.flops) l.next ≡ all_muxes l.flops l.fn.bit;
}
