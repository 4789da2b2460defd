use Rattle.std.proofs.Common.{◌≡◌, ◌↔◌, suc, drop, get_or, ◌∷◌, ◌∙◌, add-one, arith}
use Rattle.std.proofs.Math.Seq.{drop-cons}
use Rattle.clause_store.specs.declared.line.Cut.{Cut}
use Rattle.clause_store.specs.Resolvents.{LeadsTo}
use Rattle.clause_store.specs.Derivations.{clauses_of}
use Rattle.derivation_check.specs.Marked.{signs_in}
use Rattle.derivation_check.proofs.Chains.{followed_more, followed_stop}
use Rattle.derivation_check.proofs.chain.follow.Goals as goal

abbrev none : Cut
none = record { var = 0; id = 0 }

pub returns-then-not-cut_once-clause-leads : goal.returns-then-not-cut_once-clause-leads
returns-then-not-cut_once-clause-leads c = λ r h.
    let rest : drop c.cutting.cut-index c.args.cuts.now ≡ get_or c.args.cuts.now c.cutting.cut-index none ∷ drop (suc c.cutting.cut-index) c.args.cuts.now =
    drop-cons c.args.cuts.now c.cutting.cut-index none (omega arith) in
    followed_stop (clauses_of c.args.store.now c.args.lines.now) (get_or c.args.cuts.now c.cutting.cut-index none) (drop (suc c.cutting.cut-index) c.args.cuts.now) (signs_in c.cutting.marks) r
    c.if-not-cut_once.ensures.cut
    (rw rest at ((c.cutting.invariant.leads r).0 h))

pub cutting-preserved : goal.cutting-preserved
cutting-preserved c =
    let rest : drop c.cutting.cut-index c.args.cuts.now ≡ get_or c.args.cuts.now c.cutting.cut-index none ∷ drop (suc c.cutting.cut-index) c.args.cuts.now =
    drop-cons c.args.cuts.now c.cutting.cut-index none (omega arith) in
    record {
      size = c.cut_once.ensures.size ∙ c.cutting.invariant.size;
      leads = λ r.
          let step : LeadsTo (clauses_of c.args.store.now c.args.lines.now) (signs_in c.cutting.marks) (get_or c.args.cuts.now c.cutting.cut-index none ∷ drop (suc c.cutting.cut-index) c.args.cuts.now) r ↔ LeadsTo (clauses_of c.args.store.now c.args.lines.now) (signs_in c.cut_once.new.marks) (drop (suc c.cutting.cut-index) c.args.cuts.now) r =
          followed_more (clauses_of c.args.store.now c.args.lines.now) (get_or c.args.cuts.now c.cutting.cut-index none) (drop (suc c.cutting.cut-index) c.args.cuts.now) (signs_in c.cutting.marks) (signs_in c.cut_once.new.marks) r c.if-not-cut_once.ensures.cut in
          let before : LeadsTo (clauses_of c.args.store.now c.args.lines.now) (signs_in c.args.marks.now) c.args.cuts.now r ↔ LeadsTo (clauses_of c.args.store.now c.args.lines.now) (signs_in c.cutting.marks) (get_or c.args.cuts.now c.cutting.cut-index none ∷ drop (suc c.cutting.cut-index) c.args.cuts.now) r =
          rw rest at (c.cutting.invariant.leads r) in
          rw add-one (λ h. step.0 (before.0 h), λ h. before.1 (step.1 h));
    }
