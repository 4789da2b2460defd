use Rattle.std.proofs.Common.{ℕ, List, subst, sym}
use Rattle.rv_asm.specs.declared.fault.AsmFault.{AsmFault}
use Rattle.rv_asm.specs.Programs.{FailsUnlessMemory, PutsWords}
use Rattle.rv_asm.proofs.PlacedLemmas.{put_fails, put_one_more}
use Rattle.rv_asm.proofs.image.assembler.put_all.Goals as goal

pub returns-in-Err-clause-fault : goal.returns-in-Err-clause-fault
returns-in-Err-clause-fault c =
    let fails = put_fails c.args.names.now c.args.placed.now c.placed.item-index c.item-item.result c.in-Err.cause c.placed-test.true c.item-item.is c.placed.invariant.right c.in-Err.ensures in
    subst (λ (f : AsmFault). FailsUnlessMemory c.args.names.now c.args.placed.now f) (sym c.at.ensures) fails

pub placed-preserved : goal.placed-preserved
placed-preserved c =
    let puts = subst (λ (ws : List ℕ). PutsWords c.placed.memory c.put_words.new.memory c.item-item.result ws) c.as_slice.ensures c.in_ok-put_words-in-Ok.ensures in
    put_one_more c.args.names.now c.args.placed.now c.placed.item-index c.item-item.result c.placed.memory c.put_words.new.memory _ c.placed-test.true c.item-item.is c.placed.invariant c.in-Ok.ensures puts
