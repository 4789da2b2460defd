use Rattle.std.proofs.Common.{◌≡◌, ◌∙◌, ℕ, List, sym, refl, ap, ap₂, subst}
use Rattle.coco_base.specs.declared.unrolled.Node.{Node}
use Rattle.circuit_clauses.specs.Formulas.{Fits}
use Rattle.clause_builds.specs.Builds.{Build, made, after}
use Rattle.clause_builds.proofs.Leaving.{all_left, first_fits, next_left, none_left}
use Rattle.node_clauses.specs.Sums.{NodeRun, NodeSums, node_sums}
use Rattle.probe_encode.specs.Formulas.{first_part, nodes_of, tables_of}
use Rattle.probe_encode.specs.Weights.{pair_weights}
use Rattle.probe_encode.specs.Sources.{encoding_in}
use Rattle.probe_encode.proofs.coded.first_part.Goals as goal

pub label_variables-requires : goal.label_variables-requires
label_variables-requires c =
    let e = encoding_in c.args.source.now in
    let l0 = all_left c.args.form.now (first_part e) in
    rw c.requires.labels (first_fits _ _ l0 c.requires.fits)

pub probe_part-requires : goal.probe_part-requires
probe_part-requires c =
    let e = encoding_in c.args.source.now in
    let l0 = all_left c.args.form.now (first_part e) in
    let l1 = next_left _ _ c.label_variables.new.form c.in_ok-variables.variables l0 (rw c.requires.labels at c.in_ok-variables.ensures.formula) (rw c.requires.labels at c.in_ok-variables.ensures.signals) in
    first_fits _ _ l1 c.requires.fits

pub node_sums-requires-clause-fits : goal.node_sums-requires-clause-fits
node_sums-requires-clause-fits c =
    let e = encoding_in c.args.source.now in
    let l0 = all_left c.args.form.now (first_part e) in
    let l1 = next_left _ _ c.label_variables.new.form c.in_ok-variables.variables l0 (rw c.requires.labels at c.in_ok-variables.ensures.formula) (rw c.requires.labels at c.in_ok-variables.ensures.signals) in
    let l2 = next_left _ _ c.probe_part.new.form c.in_ok-part.part l1 c.in_ok-part.ensures.formula c.in_ok-part.ensures.part in
    let r : NodeRun = record { nodes = c.as_slice-2.result.now; matters = e.matters; labels = c.args.labels.now } in
    let same : r ≡ nodes_of e = ap₂ (λ (ns : List Node) (ls : List ℕ). record { nodes = ns; matters = e.matters; labels = ls }) (c.as_slice-2.ensures ∙ sym c.requires.source.nodes) c.requires.labels in
    let weights : c.in_ok-weights.weights.items ≡ pair_weights e.view c.in_ok-part.part.pairs = c.in_ok-weights.ensures.weights ∙ ap (pair_weights e.view) c.as_slice.ensures in
    let build : node_sums r c.in_ok-weights.weights.items ≡ node_sums (nodes_of e) (pair_weights e.view c.in_ok-part.part.pairs) = ap₂ node_sums same weights in
    subst (λ (b : Build NodeSums). Fits (after c.probe_part.new.form b)) (sym build) (first_fits _ _ l2 c.requires.fits)

pub label_sums-requires : goal.label_sums-requires
label_sums-requires c =
    let e = encoding_in c.args.source.now in
    let l0 = all_left c.args.form.now (first_part e) in
    let l1 = next_left _ _ c.label_variables.new.form c.in_ok-variables.variables l0 (rw c.requires.labels at c.in_ok-variables.ensures.formula) (rw c.requires.labels at c.in_ok-variables.ensures.signals) in
    let l2 = next_left _ _ c.probe_part.new.form c.in_ok-part.part l1 c.in_ok-part.ensures.formula c.in_ok-part.ensures.part in
    let r : NodeRun = record { nodes = c.as_slice-2.result.now; matters = e.matters; labels = c.args.labels.now } in
    let same : r ≡ nodes_of e = ap₂ (λ (ns : List Node) (ls : List ℕ). record { nodes = ns; matters = e.matters; labels = ls }) (c.as_slice-2.ensures ∙ sym c.requires.source.nodes) c.requires.labels in
    let weights : c.in_ok-weights.weights.items ≡ pair_weights e.view c.in_ok-part.part.pairs = c.in_ok-weights.ensures.weights ∙ ap (pair_weights e.view) c.as_slice.ensures in
    let build : node_sums r c.in_ok-weights.weights.items ≡ node_sums (nodes_of e) (pair_weights e.view c.in_ok-part.part.pairs) = ap₂ node_sums same weights in
    let formula : c.node_sums.new.form ≡ after c.probe_part.new.form (node_sums (nodes_of e) (pair_weights e.view c.in_ok-part.part.pairs)) =
    c.in_ok-sums.ensures.formula ∙ ap (λ (b : Build NodeSums). after c.probe_part.new.form b) build in
    let sums : c.in_ok-sums.sums ≡ made c.probe_part.new.form (node_sums (nodes_of e) (pair_weights e.view c.in_ok-part.part.pairs)) =
    c.in_ok-sums.ensures.sums ∙ ap (λ (b : Build NodeSums). made c.probe_part.new.form b) build in
    let l3 = next_left _ _ c.node_sums.new.form c.in_ok-sums.sums l2 formula sums in
    rw (c.as_slice-3.ensures, c.totals.ensures) (first_fits _ _ l3 c.requires.fits)

pub returns-clause-tables : goal.returns-clause-tables
returns-clause-tables c =
    let e = encoding_in c.args.source.now in
    let l0 = all_left c.args.form.now (first_part e) in
    let l1 = next_left _ _ c.label_variables.new.form c.in_ok-variables.variables l0 (rw c.requires.labels at c.in_ok-variables.ensures.formula) (rw c.requires.labels at c.in_ok-variables.ensures.signals) in
    let l2 = next_left _ _ c.probe_part.new.form c.in_ok-part.part l1 c.in_ok-part.ensures.formula c.in_ok-part.ensures.part in
    let r : NodeRun = record { nodes = c.as_slice-2.result.now; matters = e.matters; labels = c.args.labels.now } in
    let same : r ≡ nodes_of e = ap₂ (λ (ns : List Node) (ls : List ℕ). record { nodes = ns; matters = e.matters; labels = ls }) (c.as_slice-2.ensures ∙ sym c.requires.source.nodes) c.requires.labels in
    let weights : c.in_ok-weights.weights.items ≡ pair_weights e.view c.in_ok-part.part.pairs = c.in_ok-weights.ensures.weights ∙ ap (pair_weights e.view) c.as_slice.ensures in
    let build : node_sums r c.in_ok-weights.weights.items ≡ node_sums (nodes_of e) (pair_weights e.view c.in_ok-part.part.pairs) = ap₂ node_sums same weights in
    let formula : c.node_sums.new.form ≡ after c.probe_part.new.form (node_sums (nodes_of e) (pair_weights e.view c.in_ok-part.part.pairs)) =
    c.in_ok-sums.ensures.formula ∙ ap (λ (b : Build NodeSums). after c.probe_part.new.form b) build in
    let sums : c.in_ok-sums.sums ≡ made c.probe_part.new.form (node_sums (nodes_of e) (pair_weights e.view c.in_ok-part.part.pairs)) =
    c.in_ok-sums.ensures.sums ∙ ap (λ (b : Build NodeSums). made c.probe_part.new.form b) build in
    let l3 = next_left _ _ c.node_sums.new.form c.in_ok-sums.sums l2 formula sums in
    let l4 = next_left _ _ c.label_sums.new.form tt l3 (rw (c.as_slice-3.ensures, c.totals.ensures) at c.in_ok-label_sums.ensures) refl in
    (none_left (tables_of e c.in_ok-variables.variables c.in_ok-part.part c.in_ok-sums.sums) l4).0

pub returns-clause-formula : goal.returns-clause-formula
returns-clause-formula c =
    let e = encoding_in c.args.source.now in
    let l0 = all_left c.args.form.now (first_part e) in
    let l1 = next_left _ _ c.label_variables.new.form c.in_ok-variables.variables l0 (rw c.requires.labels at c.in_ok-variables.ensures.formula) (rw c.requires.labels at c.in_ok-variables.ensures.signals) in
    let l2 = next_left _ _ c.probe_part.new.form c.in_ok-part.part l1 c.in_ok-part.ensures.formula c.in_ok-part.ensures.part in
    let r : NodeRun = record { nodes = c.as_slice-2.result.now; matters = e.matters; labels = c.args.labels.now } in
    let same : r ≡ nodes_of e = ap₂ (λ (ns : List Node) (ls : List ℕ). record { nodes = ns; matters = e.matters; labels = ls }) (c.as_slice-2.ensures ∙ sym c.requires.source.nodes) c.requires.labels in
    let weights : c.in_ok-weights.weights.items ≡ pair_weights e.view c.in_ok-part.part.pairs = c.in_ok-weights.ensures.weights ∙ ap (pair_weights e.view) c.as_slice.ensures in
    let build : node_sums r c.in_ok-weights.weights.items ≡ node_sums (nodes_of e) (pair_weights e.view c.in_ok-part.part.pairs) = ap₂ node_sums same weights in
    let formula : c.node_sums.new.form ≡ after c.probe_part.new.form (node_sums (nodes_of e) (pair_weights e.view c.in_ok-part.part.pairs)) =
    c.in_ok-sums.ensures.formula ∙ ap (λ (b : Build NodeSums). after c.probe_part.new.form b) build in
    let sums : c.in_ok-sums.sums ≡ made c.probe_part.new.form (node_sums (nodes_of e) (pair_weights e.view c.in_ok-part.part.pairs)) =
    c.in_ok-sums.ensures.sums ∙ ap (λ (b : Build NodeSums). made c.probe_part.new.form b) build in
    let l3 = next_left _ _ c.node_sums.new.form c.in_ok-sums.sums l2 formula sums in
    let l4 = next_left _ _ c.label_sums.new.form tt l3 (rw (c.as_slice-3.ensures, c.totals.ensures) at c.in_ok-label_sums.ensures) refl in
    (none_left (tables_of e c.in_ok-variables.variables c.in_ok-part.part c.in_ok-sums.sums) l4).1
