use Rattle.std.proofs.Common.{◌≡◌, ◌∙◌, false, inl, inr, sym, true}
use Rattle.clap.specs.declared.error.kind.ErrorKind.TheVariants as kind
use Rattle.command_words.proofs.Matched.{refused, taken}
use Rattle.command_words.proofs.matching.matched.Goals as goal

pub returns-in-Ok : goal.returns-in-Ok
returns-in-Ok c = taken _ _ _ c.requires (c.in-Ok.ensures.kinds c.requires) c.in-Ok.ensures.matches

-- the kind is not that of memory, so it is one of the kinds of clap's own faults
pub returns-else-eq : goal.returns-else-eq
returns-else-eq c =
    let compared = c.eq.ensures in
    elim (c.in-Err.ensures.kinds c.requires) [
      | inl memory ↦
          let is : c.in-Err.error.kind ≡ kind.OutOfMemory = memory in
          let same = rw (c.kind.ensures, is) at compared in
          let bad : true ≡ false = sym same ∙ c.if-eq.false in
          cc
      | inr other ↦ refused _ _ _ other
    ]
