use Rattle.std.proofs.Common.{◌≡◌, ◌≢◌, ℕ, ◌<◌, ◌≤◌, get_or}
use Rattle.coco_base.specs.declared.cell.Part.TheVariants.{Zero, Vary}
use Rattle.coco_base.specs.declared.unrolled.Node.TheVariants.{Nothing}
use Rattle.coco_model.specs.UnrolledRuns.{node_at}
use Rattle.stable_sets.proofs.tests.runs.are_earlier.Given as goal

abbrev pub invariant-inputs : goal.invariant-inputs
invariant-inputs l = record {
  unread : (j : ℕ) → j < l.input → l.count ≤ j → get_or l.parts j Zero ≡ Zero;
  earlier : (j : ℕ) → j < l.input → get_or l.parts j Zero ≡ Vary → get_or l.operands j 0 < l.fn.place;
  something : (j : ℕ) → j < l.input → get_or l.parts j Zero ≡ Vary → node_at l.run (get_or l.operands j 0) ≢ Nothing;
}
