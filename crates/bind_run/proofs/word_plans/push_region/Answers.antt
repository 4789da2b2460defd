use Rattle.std.proofs.Common.{◌≡◌, ◌+◌, ◌*◌, ◌++◌, sym, ◌∙◌, ap, arith}
use Rattle.std.specs.Prelude.{flat_map}
use Rattle.std.specs.List.{range_with_len}
use Rattle.std.proofs.lemmas.List.{append_assoc}
use Rattle.bind_run.specs.WordPlans.{first_of, mem_value, plans_of, region_plans}
use Rattle.bind_run.proofs.ListLemmas.{flat_map-range_more}
use Rattle.bind_run.proofs.word_plans.push_region.Goals as goal

pub words-preserved : goal.words-preserved
words-preserved c =
    let f = region_plans c.args.region.start c.args.region.words.now c.args.region.fill c.args.lines.now in
    let z : 0 + c.words.place ≡ c.words.place = omega arith in
    c.in_ok-push_word.ensures
    ∙ ap (λ v. c.words.plans.items ++ plans_of (c.args.region.start + 4 * c.words.place) v)
    (c.first_of.ensures
    ∙ ap (λ o. first_of o c.args.region.fill)
    (c.first_of-given.ensures ∙ ap (λ o. first_of o c.image_value.result) c.mem_value.ensures.value
    ∙ ap (λ o. first_of (mem_value (c.args.region.start + 4 * c.words.place) c.args.lines.now) o) c.image_value.ensures.value))
    ∙ ap (λ ps. ps ++ f c.words.place) c.words.invariant
    ∙ append_assoc c.args.plans.now.items (flat_map f (range_with_len 0 c.words.place)) (f c.words.place)
    ∙ ap (λ ys. c.args.plans.now.items ++ ys)
    (sym (flat_map-range_more f 0 c.words.place ∙ ap (λ n. flat_map f (range_with_len 0 c.words.place) ++ f n) z))
