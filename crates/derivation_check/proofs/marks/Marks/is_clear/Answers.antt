use Rattle.std.proofs.Common.{◌≡◌, ◌∙◌, sym}
use Rattle.std.proofs.lemmas.Bool.{eqb-true, eq-eqb}
use Rattle.derivation_check.proofs.Counts.{count_from_clear, clear_from_count}
use Rattle.derivation_check.proofs.marks.Marks.is_clear.Goals as goal

pub returns : goal.returns
returns c =
    let v : c.args.self.now ≡ c.self.inside.signs.items = cc in
    rw v (
      λ e. clear_from_count c.self.inside.signs.items (sym c.self.invariant ∙ eqb-true c.self.inside.count 0 e),
      λ clear. eq-eqb c.self.inside.count 0 (c.self.invariant ∙ count_from_clear c.self.inside.signs.items clear),
    )
