-- One net, and one line, after the other.
use Rattle.std.proofs.Common.{◌≡◌, ℕ, List, [], ◌∷◌, ◌++◌, refl, sym, ◌∙◌, ap, subst}
use Rattle.std.specs.Prelude.{flat_map, Option, Result, Ok, Err, IfOk, IfErr}
use Rattle.coco_base.specs.declared.netlist.Flat.{Flat}
use Rattle.coco_base.specs.declared.setup.Setup.{Setup}
use Rattle.gate_graph.specs.Graphs.{Gates}
use Rattle.rv_asm.specs.declared.image.Image.{Image}
use Rattle.bind_run.specs.declared.fault.BindFault.{BindFault}
use Rattle.bind_run.specs.declared.fault.BindFault.TheVariants.{NoSuchNet, Width, WrongDriver, ClockMismatch, BoundTwice, InputUnbound, NameTaken, LeafBits, Memory}
use Rattle.label_file.specs.declared.line.Labels.{Labels}
use Rattle.bind_run.specs.Binding.{◌>>=◌, after_need, after_needs, bound_by, IsLeastUnbound}
use Rattle.bind_run.specs.Causes.{Fails}
use Rattle.label_file.specs.declared.line.LabelLine.{LabelLine}
use Rattle.bind_run.specs.Needs.{Need, needs_of}
use Rattle.bind_run.specs.Outcomes.{IsBindFault, IsNamedUnbound, IsSetupOf}
use Rattle.bind_run.specs.Outcomes.IsBindFault.{by_line, memory, unbound}

pub fails_itself : {Y : Type 0} (f : BindFault) (o : Result Y BindFault) → o ≡ Err f → Fails f o
fails_itself (NoSuchNet name) o e = e
fails_itself (Width name) o e = e
fails_itself (WrongDriver name) o e = e
fails_itself (ClockMismatch name) o e = e
fails_itself (BoundTwice name) o e = e
fails_itself (InputUnbound name) o e = e
fails_itself (NameTaken name) o e = e
fails_itself (LeafBits count limit) o e = e
fails_itself Memory o e = tt

-- a fault stays the fault of what goes on
pub fails_on : {A B : Type 0} (f : BindFault) (o : Result A BindFault) (go : A → Result B BindFault) (whole : Result B BindFault)
    → (o >>= go) ≡ whole → Fails f o → Fails f whole
fails_on {A} {B} f o go whole h fails = fails_cases f fails
  where
    then : (f : BindFault) → o ≡ Err f → whole ≡ Err f
    then f e = sym h ∙ ap (λ r. r >>= go) e

    fails_cases : (f : BindFault) → Fails f o → Fails f whole
    fails_cases (NoSuchNet name) e = then (NoSuchNet name) e
    fails_cases (Width name) e = then (Width name) e
    fails_cases (WrongDriver name) e = then (WrongDriver name) e
    fails_cases (ClockMismatch name) e = then (ClockMismatch name) e
    fails_cases (BoundTwice name) e = then (BoundTwice name) e
    fails_cases (InputUnbound name) e = then (InputUnbound name) e
    fails_cases (NameTaken name) e = then (NameTaken name) e
    fails_cases (LeafBits count limit) e = then (LeafBits count limit) e
    fails_cases Memory e = tt

after_append : (flat : Flat) (clock : Option ℕ) (ns : List Need) (r : Result (List ℕ) BindFault) (ms : List Need)
    → ((b : List ℕ) → after_needs flat clock b (ns ++ ms) ≡ (after_needs flat clock b ns >>= (λ more. after_needs flat clock more ms)))
    → (r >>= (λ more. after_needs flat clock more (ns ++ ms))) ≡ ((r >>= (λ more. after_needs flat clock more ns)) >>= (λ more. after_needs flat clock more ms))
after_append flat clock ns (Ok b) ms h = h b
after_append flat clock ns (Err f) ms h = refl

pub after_needs-append : (flat : Flat) (clock : Option ℕ) (ns ms : List Need) (b : List ℕ)
    → after_needs flat clock b (ns ++ ms) ≡ (after_needs flat clock b ns >>= (λ more. after_needs flat clock more ms))
after_needs-append flat clock [] ms b = refl
after_needs-append flat clock (n ∷ ns) ms b =
    after_append flat clock ns (after_need flat clock b n) ms (λ more. after_needs-append flat clock ns ms more)

-- a fault of the lines is why there is no setup
pub fault_of_lines : (flat : Flat) (clock : Option ℕ) (labels : Labels) (f : BindFault) → Fails f (bound_by flat clock labels.lines)
    → IsBindFault flat clock labels f
fault_of_lines flat clock labels (NoSuchNet name) e = by_line (NoSuchNet name) e
fault_of_lines flat clock labels (Width name) e = by_line (Width name) e
fault_of_lines flat clock labels (WrongDriver name) e = by_line (WrongDriver name) e
fault_of_lines flat clock labels (ClockMismatch name) e = by_line (ClockMismatch name) e
fault_of_lines flat clock labels (BoundTwice name) e = by_line (BoundTwice name) e
fault_of_lines flat clock labels (InputUnbound name) e = by_line (InputUnbound name) e
fault_of_lines flat clock labels (NameTaken name) e = by_line (NameTaken name) e
fault_of_lines flat clock labels (LeafBits count limit) e = by_line (LeafBits count limit) e
fault_of_lines flat clock labels Memory e = memory

line_split : (flat : Flat) (clock : Option ℕ) (rest more : List LabelLine) (l : LabelLine) (b : List ℕ) (whole : Result (List ℕ) BindFault)
    → rest ≡ l ∷ more → after_needs flat clock b (flat_map (needs_of flat) rest) ≡ whole
    → (after_needs flat clock b (needs_of flat l) >>= (λ c. after_needs flat clock c (flat_map (needs_of flat) more))) ≡ whole
line_split flat clock rest more l b whole e h =
    sym (after_needs-append flat clock (needs_of flat l) (flat_map (needs_of flat) more) b)
    ∙ ap (λ ls. after_needs flat clock b (flat_map (needs_of flat) ls)) (sym e) ∙ h

-- a line is taken
pub line_taken : (flat : Flat) (clock : Option ℕ) (rest more : List LabelLine) (l : LabelLine) (b c : List ℕ) (whole : Result (List ℕ) BindFault)
    → rest ≡ l ∷ more → after_needs flat clock b (flat_map (needs_of flat) rest) ≡ whole → after_needs flat clock b (needs_of flat l) ≡ Ok c
    → after_needs flat clock c (flat_map (needs_of flat) more) ≡ whole
line_taken flat clock rest more l b c whole e h taken =
    sym (ap (λ r. r >>= (λ d. after_needs flat clock d (flat_map (needs_of flat) more))) taken) ∙ line_split flat clock rest more l b whole e h

-- a line has a fault
pub line_fails : (flat : Flat) (clock : Option ℕ) (rest more : List LabelLine) (l : LabelLine) (b : List ℕ) (whole : Result (List ℕ) BindFault) (f : BindFault)
    → rest ≡ l ∷ more → after_needs flat clock b (flat_map (needs_of flat) rest) ≡ whole → Fails f (after_needs flat clock b (needs_of flat l))
    → Fails f whole
line_fails flat clock rest more l b whole f e h fails =
    fails_on f (after_needs flat clock b (needs_of flat l)) (λ c. after_needs flat clock c (flat_map (needs_of flat) more)) whole
    (line_split flat clock rest more l b whole e h) fails

-- the least bit that is not bound is why there is no setup
pub named_unbound : (flat : Flat) (clock : Option ℕ) (labels : Labels) (bound : List ℕ) (bit : ℕ) (f : BindFault)
    → bound_by flat clock labels.lines ≡ Ok bound → IsLeastUnbound flat bound bit → IsNamedUnbound flat bit f → IsBindFault flat clock labels f
named_unbound flat clock labels bound bit Memory e least named = memory
named_unbound flat clock labels bound bit (InputUnbound name) e least named =
    unbound name (record { bound = bound; by_lines = e; bit = bit; least = least; named = named })
named_unbound flat clock labels bound bit f e least named = absurd named

-- what is answered for the graph is answered for the netlist that it is of
pub setup_for : (g h : Gates) (flat : Flat) (image : Image) (labels : Labels) (r : Result Setup BindFault) → g ≡ h → h.flat ≡ flat
    → IfOk r (IsSetupOf g.flat g.clock image labels) → IfOk r (IsSetupOf flat h.clock image labels)
setup_for g h flat image labels r e f i =
    subst (λ (x : Flat). IfOk r (IsSetupOf x h.clock image labels)) f (subst (λ (x : Gates). IfOk r (IsSetupOf x.flat x.clock image labels)) e i)

pub fault_for : (g h : Gates) (flat : Flat) (labels : Labels) (r : Result Setup BindFault) → g ≡ h → h.flat ≡ flat
    → IfErr r (IsBindFault g.flat g.clock labels) → IfErr r (IsBindFault flat h.clock labels)
fault_for g h flat labels r e f i =
    subst (λ (x : Flat). IfErr r (IsBindFault x h.clock labels)) f (subst (λ (x : Gates). IfErr r (IsBindFault x.flat x.clock labels)) e i)
