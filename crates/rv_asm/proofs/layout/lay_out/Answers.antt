use Rattle.std.proofs.Common.{List, ℕ, subst}
use Rattle.std.specs.Str.Lines.{lines}
use Rattle.rv_asm.proofs.LayoutLemmas.{IsLaying, laying_goes_on}
use Rattle.rv_asm.proofs.layout.lay_out.Goals as goal

pub lines-preserved : goal.lines-preserved
lines-preserved c =
    laying_goes_on _ _ _ _ _ _ _ (subst (λ (ls : List (List ℕ)). IsLaying (lines c.args.bytes.now) ls c.lines.layout c.lines.number) c.in-Some.ensures.line c.lines.invariant) c.saturating_add-number.ensures c.in-Ok.ensures.ok
