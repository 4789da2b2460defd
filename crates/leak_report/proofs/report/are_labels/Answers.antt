use Rattle.std.proofs.Common.{◌≡◌, Bool, true, rules, tests, arith, ◌∙◌, sym}
use Rattle.std.specs.Prelude.{nat_lt, IsTrue}
use Rattle.std.specs.List.{list_all}
use Rattle.std.proofs.lemmas.Iterator.Consumers.{YieldsList-from_rest}
use Rattle.std.proofs.lemmas.Iterator.Search.{all_from_yields_List}
use Rattle.leak_report.proofs.Below.{all_below, below_all}
use Rattle.leak_report.proofs.report.are_labels.Goals as goal

-- the answer is the test of all labels
pub returns : goal.returns
returns c =
    let tested : c.all.result ≡ list_all (λ label. nat_lt label c.args.labels) c.args.set.now =
    all_from_yields_List (λ label. nat_lt label c.args.labels) _ _ c.all.result c.all.ensures.ran
    (YieldsList-from_rest c.args.set.now cc) (λ x b q k. search (rules, tests)) in
    (λ holds. all_below c.args.labels c.args.set.now (sym tested ∙ holds), λ all. tested ∙ below_all c.args.labels c.args.set.now all)
