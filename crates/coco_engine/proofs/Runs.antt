-- Runs that files make: they are within the limits, and so are the answers to them.
use Rattle.std.proofs.Common.{◌≡◌, ◌≤◌, ℕ, Bool, true, false, List, nat_lt, Option, Some, None, Result, Ok, Err, IfOk, refl, sym, subst, arith, if◌then◌else◌}
use Rattle.std.proofs.lemmas.Bool.Decides.{nat_tests}
use Rattle.std.proofs.lemmas.List.Elements.{Contains-get_or}
use Rattle.coco_base.specs.declared.limits.Limits.{Limits}
use Rattle.coco_base.specs.declared.netlist.Flat.{Flat}
use Rattle.coco_base.specs.declared.setup.Setup.{Setup}
use Rattle.coco_model.specs.Labels.{label_count}
use Rattle.coco_model.specs.Setups.{IsBoundTo}
use Rattle.gate_graph.specs.Graphs.{Gates}
use Rattle.bind_run.specs.Nets.{names_of}
use Rattle.bind_run.specs.Widened.{bits_with, first_taken, leaf_addresses, or_taken, widened}
use Rattle.bind_run.specs.declared.fault.BindFault.TheVariants as fault
use Rattle.leak_report.specs.Reports.{IsAnswerInRange}
use Rattle.leak_report.specs.declared.answer.Answer.{Answer}
use Rattle.leak_report.specs.declared.answer.Answer.TheVariants as answer
use Rattle.probe_encode.specs.Formulas.{EncodedView}
use Rattle.run_inputs.specs.Inputs.{Files}
use Rattle.run_inputs.specs.Prepared.{IsPrepared}
use Rattle.run_inputs.specs.declared.prepared.Prepared.{Prepared}
use Rattle.run_verdict.specs.Laws.{IsWrittenRun}
use Rattle.run_verdict.specs.Stops.{AreRunLimits}
use Rattle.run_verdict.specs.Verdicts.{IsVerdict}
use Rattle.run_verdict.specs.Written.{IsAsked, IsWritten}
use Rattle.run_verdict.specs.declared.formula.Asked.{Asked}
use Rattle.coco_engine.specs.Judged.{AreLimits, IsWrittenRunOf}

-- ---- a prepared run is within the limits

few_bits : (plain flat : Flat) (limit : ℕ) (addresses : List ℕ) (beyond : Bool) → nat_lt limit (bits_with plain addresses) ≡ beyond
    → (if beyond then Err (fault.LeafBits (bits_with plain addresses) limit) else Ok (widened plain addresses)) ≡ Ok flat → flat.bits ≤ limit
few_bits plain flat limit addresses true beyond h = absurd (cc)
few_bits plain flat limit addresses false beyond h =
    let same : widened plain addresses ≡ flat = cc in
    subst (λ (f : Flat). f.bits ≤ limit) same (grind (arith, nat_tests, beyond))

wide_bits : (plain flat : Flat) (limit : ℕ) (addresses : List ℕ) (taken : Option (List ℕ)) → or_taken plain limit addresses taken ≡ Ok flat → flat.bits ≤ limit
wide_bits plain flat limit addresses (Some name) h = absurd (cc)
wide_bits plain flat limit addresses None h = few_bits plain flat limit addresses (nat_lt limit (bits_with plain addresses)) refl h

pub run_limits : (files : Files) (limits : Limits) (run : Prepared) → AreLimits limits → IsPrepared files limits run → AreRunLimits run.flat limits
run_limits files limits run few prepared =
    let wide = prepared.wide in
    let bits = wide_bits wide.plain run.flat limits.bits (leaf_addresses prepared.labels.lines) (first_taken (names_of wide.plain) (leaf_addresses prepared.labels.lines)) wide.wide in
    record { nodes = few.nodes; weight = few.weight; bits = omega (arith, bits, few.bits) }

-- the written formula of a prepared run
pub written_run : (files : Files) (limits : Limits) (run : Prepared) (asked : Asked) (form : EncodedView) → AreLimits limits → IsAsked asked → IsPrepared files limits run → IsWritten run.graph run.setup asked limits.weight form → IsWrittenRunOf run asked form
written_run files limits run asked form few is_asked prepared written =
    let same = sym prepared.graph.flat_is in
    record {
      graph = prepared.graph;
      limits = limits;
      written = record {
        built = prepared.graph.built;
        bound = subst (λ flat. IsBoundTo flat run.setup) same prepared.bound;
        asked_is = is_asked;
        limits_are = subst (λ flat. AreRunLimits flat limits) same (run_limits files limits run few prepared);
        written = written;
      };
    }

-- ---- answers

-- what is said of each written run is said of this one
pub verdict_of : {E : Type 0} (result : Result Answer E) (run : Prepared) (asked : Asked) (steps : ℕ) (form : EncodedView) → IsWrittenRunOf run asked form
    → IfOk result (λ answer. (gates : Gates) (setup : Setup) (asked : Asked) (limits : Limits) → IsWrittenRun gates setup asked limits form → IsVerdict gates.flat setup asked steps form answer)
    → IfOk result (IsVerdict run.flat run.setup asked steps form)
verdict_of (Ok answer) run asked steps form of h =
    subst (λ flat. IsVerdict flat run.setup asked steps form answer) of.graph.flat_is (h run.graph run.setup asked of.limits of.written)
verdict_of (Err e) run asked steps form of h = tt

-- an answer names bits and labels of its run
pub in_range : (flat : Flat) (setup : Setup) (asked : Asked) (steps : ℕ) (form : EncodedView) (given : Answer) → IsVerdict flat setup asked steps form given → IsAnswerInRange flat.bits (label_count setup.table asked.cycles) given
in_range flat setup asked steps form (answer.Accepted d) h = tt
in_range flat setup asked steps form (answer.Rejected f) h = record {
  probes = λ k d lt. h.in_run.probes _ (Contains-get_or f.probes k d lt);
  seen = λ k d lt. h.in_run.seen _ (Contains-get_or f.seen k d lt);
  set = λ k d lt. h.in_run.set _ (Contains-get_or f.set k d lt);
}
in_range flat setup asked steps form (answer.Undecided d) h = tt
