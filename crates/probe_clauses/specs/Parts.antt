-- All clauses about probes and pairs, pass by pass.
use Rattle.std.specs.Prelude.{List}
use Rattle.circuit_clauses.specs.declared.signal.Signal.{Signal}
use Rattle.clause_builds.specs.Builds.{Build, done, ◌>>=◌}
use Rattle.probe_clauses.specs.declared.counted.Counted.{Counted}
use Rattle.probe_clauses.specs.declared.groups.Grouped.{Grouped}
use Rattle.probe_clauses.specs.declared.shown.Shown.{Shown}
use Rattle.probe_clauses.specs.declared.part.ProbePart.{ProbePart}
use Rattle.probe_clauses.specs.Probings.{Probing}
use Rattle.probe_clauses.specs.Rows.{rows_of}
use Rattle.probe_clauses.specs.Passes.{group_bits, probes, activities, hot_cycles, links, reached, pairs}

abbrev pub shown_by : List (List Signal) → List Signal → List Signal → Shown
shown_by reached near hot = record { reached = reached; near = near; hot = hot }

abbrev pub part_of : List Counted → List (List Signal) → ProbePart
part_of cycles pairs = record { probes = rows_of cycles; pairs = pairs }

-- what is active, and what it reaches and shows
abbrev pub shown_of : Probing → Grouped → List Counted → Build Shown
shown_of run groups cycles =
    activities run cycles >>= (λ (active : List (List Signal)).
    hot_cycles run cycles >>= (λ (hot : List Signal).
    links run groups.group active >>= (λ _.
    reached run active >>= (λ (reached : List (List Signal)).
    done (shown_by reached groups.near hot)))))

-- groups come first, so that a solver meets them first
abbrev pub probe_part : Probing → Build ProbePart
probe_part run =
    group_bits run >>= (λ (all : Grouped).
    probes run >>= (λ (cycles : List Counted).
    shown_of run all cycles >>= (λ (shown : Shown).
    pairs run shown >>= (λ (pairs : List (List Signal)).
    done (part_of cycles pairs)))))
