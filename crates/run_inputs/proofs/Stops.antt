-- A fault of widening or of binding, as a stop, has its cause: it refuses what the step refuses, or is want of memory.
use Rattle.std.proofs.Common.{◌≡◌, inl, inr}
use Rattle.std.specs.Prelude.{◌≢◌}
use Rattle.coco_base.specs.declared.limits.Limits.{Limits}
use Rattle.coco_base.specs.declared.netlist.Flat.{Flat}
use Rattle.gate_graph.specs.Graphs.{Gates, IsGraphOf}
use Rattle.rv_asm.specs.declared.image.Image.{Image}
use Rattle.label_file.specs.declared.line.Labels.{Labels}
use Rattle.bind_run.specs.Causes.{Fails}
use Rattle.bind_run.specs.Outcomes.{IsBindFault}
use Rattle.bind_run.specs.Widened.{widened_by}
use Rattle.bind_run.specs.declared.fault.BindFault.{BindFault}
use Rattle.bind_run.specs.declared.fault.BindFault.TheVariants as bind
use Rattle.refusal_lines.specs.Stops.{bind_stop}
use Rattle.run_inputs.specs.Inputs.{Files}
use Rattle.run_inputs.specs.Prepared.{HasLabels, IsFileStop, IsUnfit, IsWide}

pub wide_stops : (files : Files) (limits : Limits) (plain : Flat) (image : Image) (labels : Labels) (f : BindFault) →
    HasLabels files limits plain image labels → Fails f (widened_by plain labels.lines limits.bits) →
    IsFileStop files limits (bind_stop f)
wide_stops files limits plain image labels (bind.NoSuchNet name) labelled fails =
    inl (record { plain = plain; image = image; labels = labels; labelled = labelled; fails = fails })
wide_stops files limits plain image labels (bind.Width name) labelled fails =
    inl (record { plain = plain; image = image; labels = labels; labelled = labelled; fails = fails })
wide_stops files limits plain image labels (bind.WrongDriver name) labelled fails =
    inl (record { plain = plain; image = image; labels = labels; labelled = labelled; fails = fails })
wide_stops files limits plain image labels (bind.ClockMismatch name) labelled fails =
    inl (record { plain = plain; image = image; labels = labels; labelled = labelled; fails = fails })
wide_stops files limits plain image labels (bind.BoundTwice name) labelled fails =
    inl (record { plain = plain; image = image; labels = labels; labelled = labelled; fails = fails })
wide_stops files limits plain image labels (bind.InputUnbound name) labelled fails =
    inl (record { plain = plain; image = image; labels = labels; labelled = labelled; fails = fails })
wide_stops files limits plain image labels (bind.NameTaken name) labelled fails =
    inl (record { plain = plain; image = image; labels = labels; labelled = labelled; fails = fails })
wide_stops files limits plain image labels (bind.LeafBits count limit) labelled fails =
    inl (record { plain = plain; image = image; labels = labels; labelled = labelled; fails = fails })
wide_stops files limits plain image labels bind.Memory labelled fails = tt

unfit : (files : Files) (limits : Limits) (flat : Flat) (image : Image) (labels : Labels) (gates : Gates) (f : BindFault) →
    IsWide files limits flat image labels → IsGraphOf flat gates → IsBindFault flat gates.clock labels f →
    f ≢ bind.Memory → IsUnfit files limits f
unfit files limits flat image labels gates f wide built is other = record {
  flat = flat;
  image = image;
  labels = labels;
  wide = wide;
  gates = gates;
  graph = built;
  is_fault = is;
  no_want = other;
}

pub bind_stops : (files : Files) (limits : Limits) (flat : Flat) (image : Image) (labels : Labels) (gates : Gates) (f : BindFault) →
    IsWide files limits flat image labels → IsGraphOf flat gates → IsBindFault flat gates.clock labels f →
    IsFileStop files limits (bind_stop f)
bind_stops files limits flat image labels gates (bind.NoSuchNet name) wide built is =
    inr (unfit _ _ _ _ _ gates _ wide built is (λ e. cc))
bind_stops files limits flat image labels gates (bind.Width name) wide built is =
    inr (unfit _ _ _ _ _ gates _ wide built is (λ e. cc))
bind_stops files limits flat image labels gates (bind.WrongDriver name) wide built is =
    inr (unfit _ _ _ _ _ gates _ wide built is (λ e. cc))
bind_stops files limits flat image labels gates (bind.ClockMismatch name) wide built is =
    inr (unfit _ _ _ _ _ gates _ wide built is (λ e. cc))
bind_stops files limits flat image labels gates (bind.BoundTwice name) wide built is =
    inr (unfit _ _ _ _ _ gates _ wide built is (λ e. cc))
bind_stops files limits flat image labels gates (bind.InputUnbound name) wide built is =
    inr (unfit _ _ _ _ _ gates _ wide built is (λ e. cc))
bind_stops files limits flat image labels gates (bind.NameTaken name) wide built is =
    inr (unfit _ _ _ _ _ gates _ wide built is (λ e. cc))
bind_stops files limits flat image labels gates (bind.LeafBits count limit) wide built is =
    inr (unfit _ _ _ _ _ gates _ wide built is (λ e. cc))
bind_stops files limits flat image labels gates bind.Memory wide built is = tt
