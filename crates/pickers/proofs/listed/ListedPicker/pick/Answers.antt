use Rattle.std.proofs.Common.{◌≡◌, Bool, is_some, true, false, sym, ap, ◌∙◌}
use Rattle.std.specs.List.{find, position}
use Rattle.std.specs.Option.{option_or}
use Rattle.pickers.specs.Choices.{is_open}
use Rattle.pickers.proofs.Listings.{or_some, or_none}
use Rattle.pickers.proofs.listed.ListedPicker.pick.Goals as goal

pub returns-then-is_some-clause-listed : goal.returns-then-is_some-clause-listed
returns-then-is_some-clause-listed c =
    let first : c.first_listed-first.result ≡ find (is_open c.args.unset.now) c.args.self.now = cc (c.first_listed-first.ensures.first, c.as_slice.ensures, c.self.view_is) in
    let some : is_some (find (is_open c.args.unset.now) c.args.self.now) ≡ true = ap is_some (sym first) ∙ sym c.is_some.ensures ∙ c.if-is_some.true in
    first ∙ sym (or_some _ (position (λ (b : Bool). b) c.args.unset.now) some)

pub returns-clause-listed : goal.returns-clause-listed
returns-clause-listed c =
    let first : c.first_listed-first.result ≡ find (is_open c.args.unset.now) c.args.self.now = cc (c.first_listed-first.ensures.first, c.as_slice.ensures, c.self.view_is) in
    let none : is_some (find (is_open c.args.unset.now) c.args.self.now) ≡ false = ap is_some (sym first) ∙ sym c.is_some.ensures ∙ c.if-is_some.false in
    c.pick.ensures.least ∙ sym (or_none _ (position (λ (b : Bool). b) c.args.unset.now) none)
