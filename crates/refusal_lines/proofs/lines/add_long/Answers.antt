use Rattle.std.proofs.Common.{◌≡◌, refl, append_assoc}
use Rattle.std.proofs.lemmas.Result.{IfOk-equal}
use Rattle.refusal_lines.proofs.lines.add_long.Goals as goal

pub returns : goal.returns
returns c =
    IfOk-equal c.add.result _ _ _ c.add.ensures (rw (c.in_ok-add_named.ensures, append_assoc) refl)
