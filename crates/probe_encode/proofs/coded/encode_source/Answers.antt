use Rattle.std.proofs.Common.{◌≡◌, ◌∙◌, ℕ, ◌<◌, ◌^◌, List, length, arith, sym, refl, ap, ap₂, subst}
use Rattle.circuit_clauses.specs.Formulas.{Formula, Fits}
use Rattle.clause_builds.specs.Builds.{made, after}
use Rattle.clause_builds.proofs.Leaving.{all_left, first_fits, next_left, none_left}
use Rattle.probe_encode.specs.Formulas.{Tables, first_part, formula, no_formula, tables_by, tables_of}
use Rattle.probe_encode.specs.Sources.{encoding_in}
use Rattle.probe_encode.proofs.Numbered.{HasNumbers, first_numbered}
use Rattle.probe_encode.proofs.Starts.{is_empty}
use Rattle.probe_encode.proofs.coded.encode_source.Goals as goal

pub first_part-requires-clause-fits : goal.first_part-requires-clause-fits
first_part-requires-clause-fits c =
    let e = encoding_in c.args.source.now in
    let empty : c.new-form.result ≡ no_formula = is_empty c.new-form.result c.new-form.ensures.vars c.new-form.ensures.clauses in
    let l0 = all_left no_formula (formula e) in
    subst (λ (f : Formula). Fits (after f (first_part e))) (sym empty) (first_fits _ _ l0 c.requires.fits)

pub goal_demands-requires-clause-fits : goal.goal_demands-requires-clause-fits
goal_demands-requires-clause-fits c =
    let e = encoding_in c.args.source.now in
    let empty : c.new-form.result ≡ no_formula = is_empty c.new-form.result c.new-form.ensures.vars c.new-form.ensures.clauses in
    let l0 = all_left no_formula (formula e) in
    let p = c.in_ok-parts.parts in
    let first : c.first_part.new.form ≡ after no_formula (first_part e) = subst (λ (f : Formula). c.first_part.new.form ≡ after f (first_part e)) empty c.in_ok-parts.ensures.formula in
    let tables : tables_of e p.variables p.part p.sums ≡ made no_formula (first_part e) =
    subst (λ (f : Formula). tables_of e p.variables p.part p.sums ≡ made f (first_part e)) empty c.in_ok-parts.ensures.tables in
    let l1 = next_left _ _ c.first_part.new.form (tables_of e p.variables p.part p.sums) l0 first tables in
    rw (c.as_slice-3.ensures, c.as_slice-2.ensures.value, c.in_ok-labels.ensures.labels) (first_fits _ _ l1 c.requires.fits)

pub returns : goal.returns
returns c =
    let e = encoding_in c.args.source.now in
    let empty : c.new-form.result ≡ no_formula = is_empty c.new-form.result c.new-form.ensures.vars c.new-form.ensures.clauses in
    let l0 = all_left no_formula (formula e) in
    let p = c.in_ok-parts.parts in
    let first : c.first_part.new.form ≡ after no_formula (first_part e) = subst (λ (f : Formula). c.first_part.new.form ≡ after f (first_part e)) empty c.in_ok-parts.ensures.formula in
    let tables : tables_of e p.variables p.part p.sums ≡ made no_formula (first_part e) =
    subst (λ (f : Formula). tables_of e p.variables p.part p.sums ≡ made f (first_part e)) empty c.in_ok-parts.ensures.tables in
    let l1 = next_left _ _ c.first_part.new.form (tables_of e p.variables p.part p.sums) l0 first tables in
    let l2 = next_left _ _ c.goal_demands.new.form tt l1 (rw (c.as_slice-3.ensures, c.as_slice-2.ensures.value, c.in_ok-labels.ensures.labels) at c.in_ok-goal_demands.ensures) refl in
    let ends = none_left (tables_of e p.variables p.part p.sums) l2 in
    ap₂ (λ (f : Formula) (t : Tables). record { formula = f; tables = t }) ends.1
    (ap (λ (ls : List ℕ). tables_by ls p.variables p.part p.sums) c.in_ok-labels.ensures.labels ∙ ends.0)

pub invariant_of-result : goal.invariant_of-result
invariant_of-result c =
    let e = encoding_in c.args.source.now in
    let empty : c.new-form.result ≡ no_formula = is_empty c.new-form.result c.new-form.ensures.vars c.new-form.ensures.clauses in
    let p = c.in_ok-parts.parts in
    let source = c.requires.source in
    let tables : tables_of e p.variables p.part p.sums ≡ made no_formula (first_part e) =
    subst (λ (f : Formula). tables_of e p.variables p.part p.sums ≡ made f (first_part e)) empty c.in_ok-parts.ensures.tables in
    let bits : e.view.gates.flat.bits < 2 ^ 32 = (let b = source.bits in let few = source.few_bits in omega arith) in
    let cycles : length e.view.rows < 2 ^ 32 = (let t = source.cycles in let few = source.few_cycles in omega arith) in
    let numbers : HasNumbers (tables_of e p.variables p.part p.sums) = subst HasNumbers (sym tables) (first_numbered e bits cycles no_formula.vars) in
    record {
      labels = c.in_ok-labels.ensures.ascending;
      probes = numbers.0;
      pairs = numbers.1;
    }
