use Rattle.std.proofs.Common.{◌≡◌, ◌+◌, ◌++◌, length}
use Rattle.bind_run.specs.Inputs.{fresh_count, fresh_masks}
use Rattle.bind_run.proofs.circuit.Circuit.fresh_masks.Given as goal

abbrev pub invariant-lines : goal.invariant-lines
invariant-lines l = record {
  masks : l.masks.items ++ fresh_masks l.self.flat l.fresh l.rest ≡ fresh_masks l.self.flat 0 l.lines;
  count : l.fresh + fresh_count l.self.flat l.rest ≡ fresh_count l.self.flat l.lines;
}

abbrev pub decreases-lines : goal.decreases-lines
decreases-lines l = length l.rest
