use Rattle.std.proofs.Common.{◌≡◌, ◌++◌}
use Rattle.std.specs.Prelude.{flat_map}
use Rattle.std.specs.List.{range_with_len}
use Rattle.bind_run.specs.WordPlans.{region_plans}
use Rattle.bind_run.proofs.word_plans.push_region.Given as goal

abbrev pub invariant-words : goal.invariant-words
invariant-words l = l.plans.items ≡ l.initial.plans.items ++ flat_map (region_plans l.region.start l.region.words.now l.region.fill l.lines) (range_with_len 0 l.place)
