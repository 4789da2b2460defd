-- The controls of a setup: the wires of its memory ports, the program counter and the resets are among them, at times
-- that name a port.
use Rattle.std.proofs.Common.{◌≡◌, ℕ, zero, suc, ◌+◌, ◌≤◌, ◌⊎◌, inl, inr, false, List, [], ◌∷◌, ◌++◌, length, refl, sym, subst, arith}
use Rattle.std.specs.Prelude.{Any, Contains, Option, Some, None, flat_map, slice_get}
use Rattle.std.proofs.lemmas.Bool.{eqb-true}
use Rattle.std.proofs.lemmas.List.{length-append}
use Rattle.std.proofs.lemmas.List.Elements.{Contains-append_cases, Contains-append_left, Contains-append_right, Contains-get_or}
use Rattle.coco_base.specs.declared.netlist.Flat.{Flat}
use Rattle.coco_base.specs.declared.netlist.FlatFlop.{FlatFlop}
use Rattle.coco_base.specs.declared.netlist.Wire.{Wire}
use Rattle.coco_base.specs.declared.netlist.Wire.TheVariants.{Const}
use Rattle.coco_base.specs.declared.setup.ControlPlan.{ControlPlan}
use Rattle.coco_base.specs.declared.setup.MemPlan.{MemPlan}
use Rattle.coco_base.specs.declared.setup.When.{When}
use Rattle.coco_base.specs.declared.setup.When.TheVariants.{Always, Requested, Written}
use Rattle.coco_model.specs.Netlist.{IsInRange, IsWireBelow}
use Rattle.coco_model.specs.Setups.{IsWhenBelow}
use Rattle.coco_model.proofs.Basics.{Contains-here, Contains-later, Contains-cases, Contains-none, any_from_member, only_member, some_from_any}
use Rattle.model_laws.proofs.Lists.{Contains-flat_map, joined_of_flat_map}
use Rattle.label_file.specs.declared.line.LabelLine.{LabelLine}
use Rattle.label_file.specs.declared.line.LabelLine.TheVariants as line
use Rattle.bind_run.specs.Controls.{control, control_name, controls_from, controls_of, controls_on, line_controls, lines_controls, port_count, ports_count, reset_control, resets_of, wire_name}
use Rattle.bind_run.specs.Memories.{line_memories, wire_of}
use Rattle.bind_run.specs.Needs.{needs_of}
use Rattle.bind_run.specs.Nets.{wires_of}
use Rattle.bind_run.specs.SetupParts.{line_pc}
use Rattle.bind_run.proofs.MemoriesBound.{wires_below}
use Rattle.bind_run.proofs.TakenLemmas.{AreTaken, LinesTaken}

abbrev IsOne : Wire → When → ControlPlan → Type 0
IsOne wire when c = (c.wire ≡ wire) × (c.when ≡ when)

-- a wire is a control at such times
abbrev pub IsAmong : List ControlPlan → Wire → When → Type 0
IsAmong cs wire when = Any (λ (c : ControlPlan). (c.wire ≡ wire) × (c.when ≡ when)) cs

pub among_left : (xs ys : List ControlPlan) (w : Wire) (when : When) → IsAmong xs w when → IsAmong (xs ++ ys) w when
among_left xs ys w when h =
    let s = some_from_any (IsOne w when) xs h in any_from_member (IsOne w when) (xs ++ ys) s.member (Contains-append_left xs ys s.member s.listed) s.holds

pub among_right : (xs ys : List ControlPlan) (w : Wire) (when : When) → IsAmong ys w when → IsAmong (xs ++ ys) w when
among_right xs ys w when h =
    let s = some_from_any (IsOne w when) ys h in any_from_member (IsOne w when) (xs ++ ys) s.member (Contains-append_right xs ys s.member s.listed) s.holds

from_among : (word : List ℕ) (width : ℕ) (when : When) (k : ℕ) (ws : List Wire) (w : Wire) → Contains ws w → IsAmong (controls_from word width when k ws) w when
from_among word width when k [] w h = absurd (Contains-none w h)
from_among word width when k (v ∷ ws) w h = go (Contains-cases v w ws h) (from_among word width when (k + 1) ws w)
  where
    c : ControlPlan
    c = control (control_name word width k) v when

    go : (v ≡ w) ⊎ Contains ws w → (Contains ws w → IsAmong (controls_from word width when (k + 1) ws) w when)
        → IsAmong (c ∷ controls_from word width when (k + 1) ws) w when
    go (inl e) rest =
        any_from_member (IsOne w when) (c ∷ controls_from word width when (k + 1) ws) c (Contains-here c (controls_from word width when (k + 1) ws)) (e, refl)
    go (inr i) rest = among_right (c ∷ []) (controls_from word width when (k + 1) ws) w when (rest i)

on_among : (flat : Flat) (when : When) (word : List ℕ) (w : Wire) → Contains (wires_of flat word) w → IsAmong (controls_on flat when word) w when
on_among flat when word w h = from_among word (length (wires_of flat word)) when 0 (wires_of flat word) w h

first_wire : (ws : List Wire) → length ws ≡ 1 → Contains ws (wire_of ws 0)
first_wire ws e = Contains-get_or ws 0 (Const false) (omega (arith, e))

-- ---- memory ports

pub record PortControls (cs : List ControlPlan) (port : ℕ) (mem : MemPlan) : Type 0 where
  pub request : IsAmong cs mem.request Always
  pub address : (w : Wire) → Contains mem.address w → IsAmong cs w (Requested port)
  pub write : (w : Wire) → mem.write ≡ Some w → IsAmong cs w (Requested port)
  pub enables : (w : Wire) → Contains mem.enables w → IsAmong cs w (Written port)

port_left : (xs ys : List ControlPlan) (port : ℕ) (mem : MemPlan) → PortControls xs port mem → PortControls (xs ++ ys) port mem
port_left xs ys port mem p = record {
  request = among_left xs ys mem.request Always p.request;
  address = λ w i. among_left xs ys w (Requested port) (p.address w i);
  write = λ w e. among_left xs ys w (Requested port) (p.write w e);
  enables = λ w i. among_left xs ys w (Written port) (p.enables w i);
}

port_right : (xs ys : List ControlPlan) (port : ℕ) (mem : MemPlan) → PortControls ys port mem → PortControls (xs ++ ys) port mem
port_right xs ys port mem p = record {
  request = among_right xs ys mem.request Always p.request;
  address = λ w i. among_right xs ys w (Requested port) (p.address w i);
  write = λ w e. among_right xs ys w (Requested port) (p.write w e);
  enables = λ w i. among_right xs ys w (Written port) (p.enables w i);
}

imem_controls : (flat : Flat) (clock : Option ℕ) (port : ℕ) (request address answer : List ℕ) → AreTaken flat clock (needs_of flat (line.Imem request address answer))
    → (mem : MemPlan) → Contains (line_memories flat (line.Imem request address answer)) mem
    → PortControls (line_controls flat port (line.Imem request address answer)) port mem
imem_controls flat clock port request address answer t mem h =
    let a = controls_on flat Always request in
    let b = controls_on flat (Requested port) address in
    only_member (PortControls (a ++ b) port) _ (record {
      request = among_left a b (wire_of (wires_of flat request) 0) Always
          (on_among flat Always request (wire_of (wires_of flat request) 0) (first_wire (wires_of flat request) (eqb-true (length (wires_of flat request)) 1 t.0.wide)));
      address = λ w i. among_right a b w (Requested port) (on_among flat (Requested port) address w i);
      write = λ w e. absurd cc;
      enables = λ w i. absurd (Contains-none w i);
    }) mem h

dmem_controls : (flat : Flat) (clock : Option ℕ) (port : ℕ) (request write enables address value answer : List ℕ)
    → AreTaken flat clock (needs_of flat (line.Dmem request write enables address value answer))
    → (mem : MemPlan) → Contains (line_memories flat (line.Dmem request write enables address value answer)) mem
    → PortControls (line_controls flat port (line.Dmem request write enables address value answer)) port mem
dmem_controls flat clock port request write enables address value answer t mem h =
    let a = controls_on flat Always request in
    let b = controls_on flat (Requested port) write in
    let c = controls_on flat (Written port) enables in
    let d = controls_on flat (Requested port) address in
    only_member (PortControls (a ++ b ++ c ++ d) port) _ (record {
      request = among_left (a ++ b ++ c) d (wire_of (wires_of flat request) 0) Always (among_left (a ++ b) c (wire_of (wires_of flat request) 0) Always
          (among_left a b (wire_of (wires_of flat request) 0) Always
          (on_among flat Always request (wire_of (wires_of flat request) 0) (first_wire (wires_of flat request) (eqb-true (length (wires_of flat request)) 1 t.0.wide)))));
      address = λ w i. among_right (a ++ b ++ c) d w (Requested port) (on_among flat (Requested port) address w i);
      write = λ w e.
          let same : wire_of (wires_of flat write) 0 ≡ w = cc in
          among_left (a ++ b ++ c) d w (Requested port) (among_left (a ++ b) c w (Requested port) (among_right a b w (Requested port)
          (on_among flat (Requested port) write w
          (subst (Contains (wires_of flat write)) same (first_wire (wires_of flat write) (eqb-true (length (wires_of flat write)) 1 t.1.0.wide))))));
      enables = λ w i.
          among_left (a ++ b ++ c) d w (Written port) (among_right (a ++ b) c w (Written port) (on_among flat (Written port) enables w i));
    }) mem h

-- a port of a line stands first, and the others behind it
first_or_later : (flat : Flat) (port : ℕ) (l : LabelLine) (ls : List LabelLine) (m : MemPlan)
    → ((mem : MemPlan) → Contains (m ∷ []) mem → PortControls (line_controls flat port l) port mem)
    → ((i : ℕ) (mem : MemPlan) → slice_get (flat_map (line_memories flat) ls) i ≡ Some mem → PortControls (lines_controls flat (port + 1) ls) (port + 1 + i) mem)
    → (i : ℕ) (mem : MemPlan) → slice_get (m ∷ flat_map (line_memories flat) ls) i ≡ Some mem
    → PortControls (line_controls flat port l ++ lines_controls flat (port + 1) ls) (port + i) mem
first_or_later flat port l ls m here later zero mem e =
    let same : m ≡ mem = cc in
    subst (λ n. PortControls (line_controls flat port l ++ lines_controls flat (port + 1) ls) n mem) (let z : port ≡ port + 0 = omega arith in z)
    (port_left (line_controls flat port l) (lines_controls flat (port + 1) ls) port mem (here mem (subst (Contains (m ∷ [])) same (Contains-here m []))))
first_or_later flat port l ls m here later (suc i) mem e =
    subst (λ n. PortControls (line_controls flat port l ++ lines_controls flat (port + 1) ls) n mem) (let z : port + 1 + i ≡ port + suc i = omega arith in z)
    (port_right (line_controls flat port l) (lines_controls flat (port + 1) ls) (port + 1 + i) mem (later i mem e))

pub ports_controls : (flat : Flat) (clock : Option ℕ) (port : ℕ) (ls : List LabelLine) → LinesTaken flat clock ls → (i : ℕ) (mem : MemPlan)
    → slice_get (flat_map (line_memories flat) ls) i ≡ Some mem → PortControls (lines_controls flat port ls) (port + i) mem
ports_controls flat clock port [] t i mem e = absurd cc
ports_controls flat clock port (line.Imem request address answer ∷ ls) t i mem e =
    first_or_later flat port (line.Imem request address answer) ls _ (imem_controls flat clock port request address answer t.0)
    (ports_controls flat clock (port + 1) ls t.1) i mem e
ports_controls flat clock port (line.Dmem request write enables address value answer ∷ ls) t i mem e =
    first_or_later flat port (line.Dmem request write enables address value answer) ls _
    (dmem_controls flat clock port request write enables address value answer t.0) (ports_controls flat clock (port + 1) ls t.1) i mem e
ports_controls flat clock port (l ∷ ls) t i mem e =
    subst (λ n. PortControls (lines_controls flat port (l ∷ ls)) n mem) (let z : port + 0 + i ≡ port + i = omega arith in z)
    (port_right (line_controls flat port l) (lines_controls flat (port + 0) ls) (port + 0 + i) mem (ports_controls flat clock (port + 0) ls t.1 i mem e))

-- ---- the program counter and resets

line_pc_among : (flat : Flat) (port : ℕ) (l : LabelLine) (w : Wire) → Contains (line_pc flat l) w → IsAmong (line_controls flat port l) w Always
line_pc_among flat port (line.Pc net) w h = on_among flat Always net w h
line_pc_among flat port l w h = absurd (Contains-none w h)

pub pc_among : (flat : Flat) (port : ℕ) (ls : List LabelLine) (w : Wire) → Contains (flat_map (line_pc flat) ls) w → IsAmong (lines_controls flat port ls) w Always
pc_among flat port [] w h = absurd (Contains-none w h)
pc_among flat port (l ∷ ls) w h = go (Contains-append_cases (line_pc flat l) (flat_map (line_pc flat) ls) w h) (pc_among flat (port + port_count l) ls w)
  where
    go : Contains (line_pc flat l) w ⊎ Contains (flat_map (line_pc flat) ls) w
        → (Contains (flat_map (line_pc flat) ls) w → IsAmong (lines_controls flat (port + port_count l) ls) w Always)
        → IsAmong (line_controls flat port l ++ lines_controls flat (port + port_count l) ls) w Always
    go (inl i) rest = among_left (line_controls flat port l) (lines_controls flat (port + port_count l) ls) w Always (line_pc_among flat port l w i)
    go (inr i) rest = among_right (line_controls flat port l) (lines_controls flat (port + port_count l) ls) w Always (rest i)

pub resets_among : (flat : Flat) (fs : List FlatFlop) (f : FlatFlop) → Contains fs f → (w : Wire) → f.reset ≡ Some w → IsAmong (resets_of flat fs) w Always
resets_among flat fs f i w e =
    let c : ControlPlan = control (wire_name flat w) w Always in
    any_from_member (IsOne w Always) (resets_of flat fs) c
    (Contains-flat_map (λ (g : FlatFlop). reset_control flat g.reset) fs f c i (subst (λ o. Contains (reset_control flat o) c) (sym e) (Contains-here c []))) (refl, refl)

-- ---- their wires and times

record IsFrom (when : When) (ws : List Wire) (c : ControlPlan) : Type 0 where
  wire : Contains ws c.wire
  times : c.when ≡ when

from_is : (word : List ℕ) (width : ℕ) (when : When) (k : ℕ) (ws : List Wire) (c : ControlPlan) → Contains (controls_from word width when k ws) c → IsFrom when ws c
from_is word width when k [] c h = absurd (Contains-none c h)
from_is word width when k (v ∷ ws) c h =
    go (Contains-cases (control (control_name word width k) v when) c (controls_from word width when (k + 1) ws) h) (from_is word width when (k + 1) ws c)
  where
    go : (control (control_name word width k) v when ≡ c) ⊎ Contains (controls_from word width when (k + 1) ws) c
        → (Contains (controls_from word width when (k + 1) ws) c → IsFrom when ws c) → IsFrom when (v ∷ ws) c
    go (inl e) rest = subst (IsFrom when (v ∷ ws)) e (record { wire = Contains-here v ws; times = refl })
    go (inr i) rest = let r = rest i in record { wire = Contains-later v c.wire ws r.wire; times = r.times }

-- a control with a wire of the netlist, at a time that names one of so many ports
pub record IsGood (bits ports : ℕ) (c : ControlPlan) : Type 0 where
  pub wire : IsWireBelow bits c.wire
  pub times : IsWhenBelow ports c.when

on_good : (flat : Flat) → IsInRange flat → (ports : ℕ) (when : When) (word : List ℕ) → IsWhenBelow ports when → (c : ControlPlan)
    → Contains (controls_on flat when word) c → IsGood flat.bits ports c
on_good flat range ports when word below c h =
    let f = from_is word (length (wires_of flat word)) when 0 (wires_of flat word) c h in
    record { wire = wires_below flat range word c.wire f.wire; times = subst (IsWhenBelow ports) (sym f.times) below }

either : {P : ControlPlan → Type 0} (xs ys : List ControlPlan) → ((c : ControlPlan) → Contains xs c → P c) → ((c : ControlPlan) → Contains ys c → P c)
    → (c : ControlPlan) → Contains (xs ++ ys) c → P c
either {P} xs ys left right c h = go (Contains-append_cases xs ys c h)
  where
    go : Contains xs c ⊎ Contains ys c → P c
    go (inl i) = left c i
    go (inr i) = right c i

line_good : (flat : Flat) → IsInRange flat → (port ports : ℕ) (l : LabelLine) → port + port_count l ≤ ports → (c : ControlPlan)
    → Contains (line_controls flat port l) c → IsGood flat.bits ports c
line_good flat range port ports (line.Imem request address answer) few =
    either {P = IsGood flat.bits ports} (controls_on flat Always request) (controls_on flat (Requested port) address)
    (on_good flat range ports Always request tt) (on_good flat range ports (Requested port) address (omega (arith, few)))
line_good flat range port ports (line.Dmem request write enables address value answer) few =
    let a = controls_on flat Always request in
    let b = controls_on flat (Requested port) write in
    let e = controls_on flat (Written port) enables in
    let d = controls_on flat (Requested port) address in
    either {P = IsGood flat.bits ports} (a ++ b ++ e) d
    (either {P = IsGood flat.bits ports} (a ++ b) e
    (either {P = IsGood flat.bits ports} a b (on_good flat range ports Always request tt) (on_good flat range ports (Requested port) write (omega (arith, few))))
    (on_good flat range ports (Written port) enables (omega (arith, few))))
    (on_good flat range ports (Requested port) address (omega (arith, few)))
line_good flat range port ports (line.Control net) few = on_good flat range ports Always net tt
line_good flat range port ports (line.Pc net) few = on_good flat range ports Always net tt
line_good flat range port ports l few = λ c h. absurd (Contains-none c h)

lines_good : (flat : Flat) → IsInRange flat → (port ports : ℕ) (ls : List LabelLine) → port + ports_count ls ≤ ports → (c : ControlPlan)
    → Contains (lines_controls flat port ls) c → IsGood flat.bits ports c
lines_good flat range port ports [] few = λ c h. absurd (Contains-none c h)
lines_good flat range port ports (l ∷ ls) few =
    either {P = IsGood flat.bits ports} (line_controls flat port l) (lines_controls flat (port + port_count l) ls)
    (line_good flat range port ports l (omega (arith, few))) (lines_good flat range (port + port_count l) ports ls (omega (arith, few)))

reset_good : (flat : Flat) → IsInRange flat → (ports : ℕ) (f : FlatFlop) → Contains flat.flops f → (c : ControlPlan) → Contains (reset_control flat f.reset) c
    → IsGood flat.bits ports c
reset_good flat range ports f i c h = go f.reset refl h
  where
    go : (o : Option Wire) → f.reset ≡ o → Contains (reset_control flat o) c → IsGood flat.bits ports c
    go None e k = absurd (Contains-none c k)
    go (Some w) e k = only_member (IsGood flat.bits ports) (control (wire_name flat w) w Always) (record { wire = range.resets f i w e; times = tt }) c k

pub controls_good : (flat : Flat) → IsInRange flat → (ls : List LabelLine) (c : ControlPlan) → Contains (controls_of flat ls) c
    → IsGood flat.bits (ports_count ls) c
controls_good flat range ls =
    either {P = IsGood flat.bits (ports_count ls)} (lines_controls flat 0 ls) (resets_of flat flat.flops)
    (lines_good flat range 0 (ports_count ls) ls (omega arith))
    (λ c h.
    let j = joined_of_flat_map (λ (f : FlatFlop). reset_control flat f.reset) flat.flops c h in
    reset_good flat range (ports_count ls) j.source j.listed c j.member)

line_ports : (flat : Flat) (l : LabelLine) → length (line_memories flat l) ≡ port_count l
line_ports flat (line.Imem request address answer) = refl
line_ports flat (line.Dmem request write enables address value answer) = refl
line_ports flat l = refl

pub ports_length : (flat : Flat) (ls : List LabelLine) → length (flat_map (line_memories flat) ls) ≡ ports_count ls
ports_length flat [] = refl
ports_length flat (l ∷ ls) =
    let h = ports_length flat ls in
    let o = line_ports flat l in
    let e = length-append (line_memories flat l) (flat_map (line_memories flat) ls) in
    omega (arith, h, o, e)
