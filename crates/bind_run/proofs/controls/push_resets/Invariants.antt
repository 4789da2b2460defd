use Rattle.std.proofs.Common.{◌≡◌, ◌++◌, take}
use Rattle.bind_run.specs.Controls.{resets_of}
use Rattle.bind_run.proofs.controls.push_resets.Given as goal

abbrev pub invariant-flops : goal.invariant-flops
invariant-flops l = l.plans.items ≡ l.initial.plans.items ++ resets_of l.flat (take l.flop-index l.flops)
