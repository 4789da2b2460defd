use Rattle.std.proofs.Common.{◌≡◌, ◌++◌, ◌∷◌, decimal, sym, ◌∙◌}
use Rattle.derivation_check.proofs.Reading.{zero_no_index}
use Rattle.derivation_check.proofs.items.read_index.Goals as goal

pub returns-then-number-eq0-clause-none : goal.returns-then-number-eq0-clause-none
returns-then-number-eq0-clause-none c = λ n more h e.
    let t : c.args.reader.now ≡ decimal 0 ++ 32 ∷ c.number.new.self = rw c.if-number-eq0.true at c.in-Some.ensures.some.1 in
    zero_no_index n c.number.new.self more h (sym t ∙ e)
