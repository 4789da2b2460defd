use Rattle.std.proofs.Common.{◌≡◌, ◌<◌, length, get_or, sym, ◌∙◌, ap, subst, arith}
use Rattle.std.proofs.lemmas.List.FromFn.{get_or-map-range_with_len, length-map-range_with_len}
use Rattle.std.proofs.lemmas.Result.{IfOk-weaker}
use Rattle.coco_base.specs.BitNames.{name_of_bit}
use Rattle.coco_model.specs.Netlist.{IsWireBelow}
use Rattle.bind_run.specs.Controls.{wire_name}
use Rattle.bind_run.proofs.controls.wire_name.Goals as goal

pub bounds-names-bit : goal.bounds-names-bit
bounds-names-bit c =
    let l = ap length c.requires.names ∙ length-map-range_with_len (name_of_bit c.args.flat.now) 0 c.args.flat.now.bits in
    let b : c.in-Bit.bit < c.args.flat.now.bits = subst (IsWireBelow c.args.flat.now.bits) c.in-Bit.is c.requires.below in
    omega arith

pub returns-in-Bit : goal.returns-in-Bit
returns-in-Bit c =
    let b : c.in-Bit.bit < c.args.flat.now.bits = subst (IsWireBelow c.args.flat.now.bits) c.in-Bit.is c.requires.below in
    let at : get_or c.args.names.now c.in-Bit.bit c.index-names-bit.result ≡ name_of_bit c.args.flat.now c.in-Bit.bit =
    ap (λ ns. get_or ns c.in-Bit.bit c.index-names-bit.result) c.requires.names
    ∙ get_or-map-range_with_len (name_of_bit c.args.flat.now) 0 c.args.flat.now.bits c.in-Bit.bit c.in-Bit.bit c.index-names-bit.result b (omega arith) in
    IfOk-weaker c.of-in-Bit.result _ _ (λ t h. h ∙ c.as_str.ensures ∙ c.index-names-bit.is ∙ at ∙ sym (ap (wire_name c.args.flat.now) c.in-Bit.is)) c.of-in-Bit.ensures
