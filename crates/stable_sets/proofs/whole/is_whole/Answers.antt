use Rattle.std.proofs.Common.{◌≡◌, true, false, sym, ◌∙◌, subst}
use Rattle.std.specs.Prelude.{Contains}
use Rattle.stable_sets.proofs.ShareLemmas.{alike_of_whole, shares_of_whole, table_fits, whole_set}
use Rattle.stable_sets.proofs.whole.is_whole.Goals as goal

pub are_alike-requires : goal.are_alike-requires
are_alike-requires c s h =
    table_fits c.args.table.now c.requires s (subst (λ ss. Contains ss s) c.as_slice-secrets.ensures h)

pub returns-then-are_shares : goal.returns-then-are_shares
returns-then-are_shares c = (
  (λ h. whole_set c.args.table.now c.as_slice-secrets.result.now c.args.set.now c.as_slice-secrets.ensures
      (c.are_shares.ensures.0 c.if-are_shares.true) (c.are_alike.ensures.0 h)),
  (λ w. c.are_alike.ensures.1 (alike_of_whole c.args.table.now c.as_slice-secrets.result.now c.args.set.now c.as_slice-secrets.ensures w)),
)

pub returns-else-are_shares : goal.returns-else-are_shares
returns-else-are_shares c = (
  (λ h. absurd (let f : false ≡ true = sym c.if-are_shares.false ∙ h in cc)),
  (λ w. c.are_shares.ensures.1
      (shares_of_whole c.args.table.now c.as_slice-secrets.result.now c.args.set.now c.as_slice-secrets.ensures w)),
)
