-- Why a run is not judged: it has too many nodes, a cycle has a fault, or its cones are too large.
use Rattle.std.specs.Prelude.{◌≢◌, ◌≤◌}
use Rattle.coco_base.specs.declared.limits.Limits.{Limits}
use Rattle.coco_base.specs.declared.netlist.Flat.{Flat}
use Rattle.coco_base.specs.declared.setup.Setup.{Setup}
use Rattle.coco_base.specs.declared.unrolled.Unrolled.{Unrolled}
use Rattle.coco_model.specs.UnrolledRuns.{IsUnrolledOf}
use Rattle.label_cone.specs.Coned.{IsTooLarge}
use Rattle.label_cone.specs.declared.fault.ConeFault.{ConeFault}
use Rattle.label_cone.specs.declared.fault.ConeFault.TheVariants as cone
use Rattle.refusal_lines.specs.declared.refusal.Refusal.{Refusal}
use Rattle.refusal_lines.specs.declared.refusal.Refusal.TheVariants.{Long, Net, Graph, Asm, Label, Bind, Unroll, Cone, Proof, Other}
use Rattle.refusal_lines.specs.declared.stop.Stop.{Stop}
use Rattle.refusal_lines.specs.declared.stop.Stop.TheVariants.{Refused, Memory}
use Rattle.unroll.specs.Unrolls.{IsUnrollFault}
use Rattle.unroll.specs.declared.fault.UnrollFault.{UnrollFault}
use Rattle.unroll.specs.declared.fault.UnrollFault.TheVariants as unroll
use Rattle.run_verdict.specs.declared.formula.Asked.{Asked}

-- the run is not unrolled
pub record HasNoNodes (flat : Flat) (setup : Setup) (asked : Asked) (limits : Limits) (f : UnrollFault) : Type 0 where
  pub is_fault : IsUnrollFault flat setup asked.cycles limits f
  pub no_want : f ≢ unroll.Memory

-- it is, but its weight is above the limit
pub record HasNoCones (flat : Flat) (setup : Setup) (asked : Asked) (limits : Limits) (f : ConeFault) : Type 0 where
  pub u : Unrolled
  pub unrolled : IsUnrolledOf flat setup asked.cycles u
  pub is_fault : IsTooLarge u asked.order limits.weight f
  pub no_want : f ≢ cone.Memory

abbrev pub IsRunRefusal : Flat → Setup → Asked → Limits → Refusal → Type 0
IsRunRefusal flat setup asked limits (Long name) = ⊥
IsRunRefusal flat setup asked limits (Net f) = ⊥
IsRunRefusal flat setup asked limits (Graph f) = ⊥
IsRunRefusal flat setup asked limits (Asm f) = ⊥
IsRunRefusal flat setup asked limits (Label f) = ⊥
IsRunRefusal flat setup asked limits (Bind f) = ⊥
IsRunRefusal flat setup asked limits (Unroll f) = HasNoNodes flat setup asked limits f
IsRunRefusal flat setup asked limits (Cone f) = HasNoCones flat setup asked limits f
IsRunRefusal flat setup asked limits (Proof f) = ⊥
IsRunRefusal flat setup asked limits (Other line) = ⊥

-- a refusal with its cause; want of memory has none here
abbrev pub IsRunStop : Flat → Setup → Asked → Limits → Stop → Type 0
IsRunStop flat setup asked limits (Refused r) = IsRunRefusal flat setup asked limits r
IsRunStop flat setup asked limits Memory = Unit {0}

-- limits of runs that are at most the usual ones, and a netlist within them
pub record AreRunLimits (flat : Flat) (limits : Limits) : Type 0 where
  pub nodes : limits.nodes ≤ 4000000
  pub weight : limits.weight ≤ 16000000
  pub bits : flat.bits ≤ 1000000
