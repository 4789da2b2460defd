use Rattle.std.proofs.Common.{◌≡◌, ◌++◌, ◌∷◌, [], false, ap, ◌∙◌}
use Rattle.label_file.specs.Readings.{has_address}
use Rattle.label_file.proofs.addresses.Addresses.add.Goals as goal

pub returns : goal.returns
returns c =
    let absent : has_address c.self.inside.set.keys c.args.address ≡ false = ap (λ ks. has_address ks c.args.address) c.self.view_is ∙ c.requires in
    (rw absent at c.in_ok-insert.ensures.keys) ∙ ap (λ ks. ks ++ c.args.address ∷ []) c.self.view_is
