use Rattle.std.proofs.Common.{◌≡◌, ℕ, List, get_or, ap, ◌∙◌}
use Rattle.coco_base.specs.BitNames.{name_of_bit}
use Rattle.leak_report.proofs.Names.{name_at}
use Rattle.leak_report.proofs.finding.add_bit.Goals as goal

pub returns : goal.returns
returns c =
    let at = name_at c.args.scene.now.flat.now c.args.bit c.index-scene-bit.result c.requires.bit in
    let same = c.requires.names in
    let shown = c.as_bytes.ensures in
    let is = c.index-scene-bit.is in
    let name : c.as_bytes.result.now ≡ name_of_bit c.args.scene.now.flat.now c.args.bit = cc in
    rw name at c.add_name.ensures
