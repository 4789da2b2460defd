use Rattle.std.proofs.Common.{◌≡◌, ◌≢◌, List, [], Some, slice_get, arith}
use Rattle.clause_store.specs.declared.lit.Lit.{Lit}
use Rattle.derivation_check.proofs.Lines.{all_at, contains_at, no_items}
use Rattle.derivation_check.proofs.line.store_has_empty.Goals as goal

pub returns-then-is_empty : goal.returns-then-is_empty
returns-then-is_empty c =
    let e : c.get.result.now ≡ [] = no_items c.get.result.now (cc) in
    let at : slice_get c.args.store.now c.looking.id ≡ Some [] = rw e at c.get.ensures.clause in
    contains_at c.args.store.now c.looking.id [] at

pub returns : goal.returns
returns c = all_at (λ (x : List Lit). x ≢ []) c.args.store.now (λ k x lt at. c.looking.invariant k x (omega arith) at)
