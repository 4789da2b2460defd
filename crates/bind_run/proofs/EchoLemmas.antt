-- The echoes of a line.
use Rattle.std.proofs.Common.{◌≡◌, ℕ, List, sym, ◌∙◌, ap}
use Rattle.coco_base.specs.declared.netlist.Flat.{Flat}
use Rattle.coco_base.specs.declared.netlist.Wire.{Wire}
use Rattle.label_file.specs.declared.line.LabelLine.{LabelLine}
use Rattle.label_file.specs.declared.line.LabelLine.TheVariants as line
use Rattle.bind_run.specs.Memories.{echo_plan, line_echoes, wire_of}
use Rattle.bind_run.specs.Nets.{wires_of}
use Rattle.bind_run.specs.Values.{at_bits}

pub echo_line : (flat : Flat) (l : LabelLine) (net source : List ℕ) (wires sources : List Wire) → l ≡ line.Echo net source → wires ≡ wires_of flat net
    → sources ≡ wires_of flat source → at_bits (λ k b. echo_plan b (wire_of sources k)) 0 wires ≡ line_echoes flat l
echo_line flat l net source wires sources e f g =
    ap (at_bits (λ k b. echo_plan b (wire_of sources k)) 0) f ∙ ap (λ ss. at_bits (λ k b. echo_plan b (wire_of ss k)) 0 (wires_of flat net)) g
    ∙ sym (ap (line_echoes flat) e)
