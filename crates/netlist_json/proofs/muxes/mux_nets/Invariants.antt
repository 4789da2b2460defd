-- the nets of the multiplexers so far
use Rattle.std.proofs.Common.{◌≡◌, take, map}
use Rattle.netlist_json.specs.Flats.{mux_net}
use Rattle.netlist_json.proofs.muxes.mux_nets.Given as goal

abbrev pub invariant-muxes : goal.invariant-muxes
invariant-muxes l = l.all.items ≡ map mux_net (take l.mux-index l.muxes)
