use Rattle.std.proofs.Common.{◌<◌, ◌^◌, length, sym, subst, ◌∙◌, ap, arith}
use Rattle.bind_run.specs.Nets.{names_of}
use Rattle.coco_base.specs.declared.netlist.Flat.{Flat}
use Rattle.bind_run.specs.Widened.{HasGraph, bits_with, first_taken, leaf_addresses, widened}
use Rattle.bind_run.proofs.LabelLemmas.{labels_leaves}
use Rattle.bind_run.proofs.LeafLemmas.{none_taken, taken_alike, widen_fits, widen_large, widen_taken, within}
use Rattle.bind_run.proofs.WideFaults.{wide_graph}
use Rattle.bind_run.proofs.widening.widen.Goals as goal

pub returns-in-Some-clause-wide : goal.returns-in-Some-clause-wide
returns-in-Some-clause-wide c =
    widen_taken c.args.flat.now c.args.labels.now.lines c.args.limits.now.bits c.in-Some.name
    (sym (c.in_ok-name.ensures
    ∙ ap (first_taken c.in_ok-names.names) (c.as_slice-2.ensures.value ∙ c.in_ok-addresses.ensures ∙ ap leaf_addresses c.as_slice.ensures)
    ∙ taken_alike c.in_ok-names.names (names_of c.args.flat.now) c.in_ok-names.ensures (leaf_addresses c.args.labels.now.lines))
    ∙ c.in-Some.is)

pub returns-then-limit-count-clause-wide : goal.returns-then-limit-count-clause-wide
returns-then-limit-count-clause-wide c =
    widen_large c.args.flat.now c.args.labels.now.lines c.args.limits.now.bits c.bits_with-count.result c.from-limit.result
    (sym (c.in_ok-name.ensures
    ∙ ap (first_taken c.in_ok-names.names) (c.as_slice-2.ensures.value ∙ c.in_ok-addresses.ensures ∙ ap leaf_addresses c.as_slice.ensures)
    ∙ taken_alike c.in_ok-names.names (names_of c.args.flat.now) c.in_ok-names.ensures (leaf_addresses c.args.labels.now.lines))
    ∙ none_taken c.in_ok-name.field-0 c.in_default.not-Some)
    (c.bits_with-count.ensures
    ∙ ap (bits_with c.args.flat.now) (c.as_slice-3.ensures.value ∙ c.in_ok-addresses.ensures ∙ ap leaf_addresses c.as_slice.ensures))
    c.from-limit.ensures c.if-limit-count.true

pub returns-clause-wide : goal.returns-clause-wide
returns-clause-wide c =
    widen_fits c.args.flat.now c.args.labels.now.lines c.args.limits.now.bits c.in_ok-widened.field-0
    (sym (c.in_ok-name.ensures
    ∙ ap (first_taken c.in_ok-names.names) (c.as_slice-2.ensures.value ∙ c.in_ok-addresses.ensures ∙ ap leaf_addresses c.as_slice.ensures)
    ∙ taken_alike c.in_ok-names.names (names_of c.args.flat.now) c.in_ok-names.ensures (leaf_addresses c.args.labels.now.lines))
    ∙ none_taken c.in_ok-name.field-0 c.in_default.not-Some)
    (within c.bits_with-count.result c.from-limit.result c.args.limits.now.bits
    (bits_with c.args.flat.now (leaf_addresses c.args.labels.now.lines))
    (c.bits_with-count.ensures
    ∙ ap (bits_with c.args.flat.now) (c.as_slice-3.ensures.value ∙ c.in_ok-addresses.ensures ∙ ap leaf_addresses c.as_slice.ensures))
    c.from-limit.ensures c.if-limit-count.false)
    (c.in_ok-widened.ensures.wide
    ∙ ap (widened c.args.flat.now) (c.as_slice-4.ensures.value ∙ c.in_ok-addresses.ensures ∙ ap leaf_addresses c.as_slice.ensures))

pub bits_with-count-requires : goal.bits_with-count-requires
bits_with-count-requires c =
    let l = labels_leaves c.args.labels.now c.requires in
    let e = ap length (c.as_slice-3.ensures.value ∙ c.in_ok-addresses.ensures ∙ ap leaf_addresses c.as_slice.ensures) in omega arith

pub returns-clause-graph : goal.returns-clause-graph
returns-clause-graph c gates graph =
    let e = c.in_ok-widened.ensures.wide
    ∙ ap (widened c.args.flat.now) (c.as_slice-4.ensures.value ∙ c.in_ok-addresses.ensures ∙ ap leaf_addresses c.as_slice.ensures) in
    subst HasGraph (sym e)
    (wide_graph c.args.flat.now (leaf_addresses c.args.labels.now.lines) gates graph
    (subst (λ (wide : Flat). length wide.ports < 2 ^ 32) e c.in_ok-widened.ensures.few))
