use Rattle.std.proofs.Common.{◌-◌, ◌*◌, ◌<◌, sym, subst}
use Rattle.std.proofs.lemmas.Bool.{ltb-true, lt-ltb}
use Rattle.stable_sets.proofs.ShareLemmas.{difference_of_share, share_of_difference}
use Rattle.stable_sets.proofs.whole.is_share.Goals as goal

pub returns-then-secret-label : goal.returns-then-secret-label
returns-then-secret-label c =
    let s = c.args.secret.now in
    let e = c.from.ensures in let f = c.from-then-secret-label.ensures in let g = c.from-then-secret-label-2.ensures in (
      (λ h. share_of_difference s c.args.label c.if-secret-label.true
          (subst (λ w. c.args.label - s.first < s.shares * w) g (subst (λ n. c.args.label - s.first < n * c.from-then-secret-label-2.result) f
          (subst (λ d. d < c.from-then-secret-label.result * c.from-then-secret-label-2.result) e (ltb-true _ _ h))))),
      (λ o. lt-ltb _ _
          (subst (λ d. d < c.from-then-secret-label.result * c.from-then-secret-label-2.result) (sym e)
          (subst (λ n. c.args.label - s.first < n * c.from-then-secret-label-2.result) (sym f)
          (subst (λ w. c.args.label - s.first < s.shares * w) (sym g) (difference_of_share s c.args.label o))))),
    )
