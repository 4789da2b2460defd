-- What a checked derivation means.
use Rattle.std.specs.Prelude.{ℕ, Bool, List, All}
use Rattle.clause_store.specs.declared.lit.Lit.{Lit}
use Rattle.clause_store.specs.declared.line.Line.{Line}
use Rattle.clause_store.specs.Assignments.{IsMet}
use Rattle.derivation_check.specs.declared.verdict.Verdict.TheVariants.{Empty}
use Rattle.derivation_check.specs.Verdicts.{IsVerdict}

-- where a derivation is checked as empty, no values of the variables meet every clause of the store
abbrev pub RefutationsAreSound : Type 0
RefutationsAreSound =
    (store : List (List Lit)) (lines : List Line) (values : ℕ → Bool) → IsVerdict store lines Empty →
    All (IsMet values) store → ⊥
