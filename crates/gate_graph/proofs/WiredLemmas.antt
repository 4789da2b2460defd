-- From the table of drivers to what drives each bit, and to one driver for each.
use Rattle.std.proofs.Common.{◌≡◌, ◌≢◌, ℕ, zero, suc, ◌+◌, ◌<◌, ◌≤◌, ◌⊎◌, inl, inr, Bool, true, false, cond, nat_eq, List, [], ◌∷◌, ◌++◌, map, length, get_or, refl, sym, ◌∙◌, ap, subst, arith}
use Rattle.std.specs.Prelude.{All, Any, Contains, Option, Some, None, flat_map, slice_get}
use Rattle.std.proofs.lemmas.Bool.{cases_Bool, cases_eq, cases_order}
use Rattle.std.proofs.lemmas.List.{map-append, get_or_default, get_or_past}
use Rattle.std.proofs.lemmas.List.Elements.{Contains-get_or, Contains-append_cases, Contains-append_left, Contains-append_right}
use Rattle.coco_base.specs.declared.netlist.Flat.{Flat}
use Rattle.coco_base.specs.declared.netlist.FlatCell.{FlatCell}
use Rattle.coco_base.specs.declared.netlist.FlatFlop.{FlatFlop}
use Rattle.coco_base.specs.declared.netlist.FlatPort.{FlatPort}
use Rattle.coco_base.specs.declared.netlist.Wire.{Wire}
use Rattle.coco_base.specs.declared.netlist.Wire.TheVariants.{Const, Bit}
use Rattle.coco_model.specs.Netlist.{bits_in, input_bits, driven_bits, HasNoRepeat, HasOneDriver, IsInRange, IsInputBit, IsFlopBit, IsCellBit, IsUndriven}
use Rattle.coco_model.proofs.Basics.{Contains-here, Contains-later, Contains-cases, Contains-none, some_from_any}
use Rattle.model_laws.proofs.Lists.{IsImage, Contains-map, Contains-flat_map, image_of_map, joined_of_flat_map, member_of_place}
use Rattle.gate_graph.specs.declared.driver.Driver.{Driver}
use Rattle.gate_graph.specs.declared.driver.Driver.TheVariants.{Port, Cell, Flop, Nothing}
use Rattle.gate_graph.specs.declared.driver.Driving.{Driving}
use Rattle.gate_graph.specs.Drivers.{HasNumbers, port_driving, port_drivings, output_drivings, cell_drivings, flop_drivings, drivings, drivers_among, drivers_of, IsDriver, IsPortBit, AreDrivers, IsWired}
use Rattle.gate_graph.specs.Tables.{IsDriving, IsTable, first_driver}
use Rattle.gate_graph.proofs.TableLemmas.{cond_same, cond_other, first_among}

-- a bit among wires is one of them
pub bit_wire : (ws : List Wire) (b : ℕ) → Contains (bits_in ws) b → Contains ws (Bit b)
bit_wire [] b h = absurd (Contains-none b h)
bit_wire (Const x ∷ ws) b h = Contains-later (Const x) (Bit b) ws (bit_wire ws b h)
bit_wire (Bit n ∷ ws) b h = go (Contains-cases n b (bits_in ws) h) (λ i. bit_wire ws b i)
  where
    go : (n ≡ b) ⊎ Contains (bits_in ws) b → (Contains (bits_in ws) b → Contains ws (Bit b)) → Contains (Bit n ∷ ws) (Bit b)
    go (inl e) rest = subst (λ m. Contains (Bit n ∷ ws) (Bit m)) e (Contains-here (Bit n) ws)
    go (inr i) rest = Contains-later (Bit n) (Bit b) ws (rest i)

-- the bit of a wire is among the bits
pub wire_bit : (ws : List Wire) (b : ℕ) → Contains ws (Bit b) → Contains (bits_in ws) b
wire_bit [] b h = absurd (Contains-none (Bit b) h)
wire_bit (Const x ∷ ws) b h = go (Contains-cases (Const x) (Bit b) ws h) (λ i. wire_bit ws b i)
  where
    go : (Const x ≡ Bit b) ⊎ Contains ws (Bit b) → (Contains ws (Bit b) → Contains (bits_in ws) b) → Contains (bits_in ws) b
    go (inl e) rest = absurd cc
    go (inr i) rest = rest i
wire_bit (Bit n ∷ ws) b h = go (Contains-cases (Bit n) (Bit b) ws h) (λ i. wire_bit ws b i)
  where
    go : (Bit n ≡ Bit b) ⊎ Contains ws (Bit b) → (Contains ws (Bit b) → Contains (bits_in ws) b) → Contains (n ∷ bits_in ws) b
    go (inl e) rest = let f : n ≡ b = cc in subst (Contains (n ∷ bits_in ws)) f (Contains-here n (bits_in ws))
    go (inr i) rest = Contains-later n b (bits_in ws) (rest i)

-- what stands at a place of an input port
record IsPortPlace (all : List FlatPort) (x : Driving) : Type 0 where
  number : ℕ
  driver_is : x.driver ≡ Port number
  port : FlatPort
  at : slice_get all number ≡ Some port
  input : port.input ≡ true
  wired : Contains port.wires (Bit x.bit)

port_place : (all : List FlatPort) (n : ℕ) (ps : List FlatPort) → ((k : ℕ) → slice_get ps k ≡ slice_get all (n + k)) → (x : Driving)
    → Contains (port_drivings n ps) x → IsPortPlace all x
port_place all n [] same x h = absurd (Contains-none x h)
port_place all n (p ∷ ps) same x h =
    go (Contains-append_cases (map (port_driving n) (cond p.input (bits_in p.wires) [])) (port_drivings (suc n) ps) x h)
    (λ i. port_place all (suc n) ps (λ k. same (suc k) ∙ ap (slice_get all) (let e : n + suc k ≡ suc n + k = omega arith in e)) x i)
  where
    wired : (t : Bool) (b : ℕ) → p.input ≡ t → Contains (cond t (bits_in p.wires) []) b → (p.input ≡ true) × Contains p.wires (Bit b)
    wired true b e i = (e, bit_wire p.wires b i)
    wired false b e i = absurd (Contains-none b i)

    go : Contains (map (port_driving n) (cond p.input (bits_in p.wires) [])) x ⊎ Contains (port_drivings (suc n) ps) x
        → (Contains (port_drivings (suc n) ps) x → IsPortPlace all x) → IsPortPlace all x
    go (inl i) rest =
        let m = image_of_map (port_driving n) (cond p.input (bits_in p.wires) []) x i in
        let w = wired p.input m.source refl m.listed in
        record {
          number = n;
          driver_is = sym (ap (λ (y : Driving). y.driver) m.image);
          port = p;
          at = sym (same 0 ∙ ap (slice_get all) (let e : n + 0 ≡ n = omega arith in e));
          input = w.0;
          wired = subst (λ b. Contains p.wires (Bit b)) (ap (λ (y : Driving). y.bit) m.image) w.1;
        }
    go (inr i) rest = rest i

-- what stands at the place of a cell or a flop
record IsOutputPlace {X : Type 0} (driver : ℕ → Driver) (output : X → ℕ) (all : List X) (x : Driving) : Type 0 where
  number : ℕ
  driver_is : x.driver ≡ driver number
  item : X
  at : slice_get all number ≡ Some item
  drives : output item ≡ x.bit

output_place : {X : Type 0} (driver : ℕ → Driver) (output : X → ℕ) (all : List X) (n : ℕ) (ys : List X)
    → ((k : ℕ) → slice_get ys k ≡ slice_get all (n + k)) → (x : Driving) → Contains (output_drivings driver output n ys) x
    → IsOutputPlace driver output all x
output_place driver output all n [] same x h = absurd (Contains-none x h)
output_place driver output all n (y ∷ ys) same x h =
    go (Contains-cases (record { bit = output y; driver = driver n }) x (output_drivings driver output (suc n) ys) h)
    (λ i. output_place driver output all (suc n) ys (λ k. same (suc k) ∙ ap (slice_get all) (let e : n + suc k ≡ suc n + k = omega arith in e)) x i)
  where
    go : (record { bit = output y; driver = driver n } ≡ x) ⊎ Contains (output_drivings driver output (suc n) ys) x
        → (Contains (output_drivings driver output (suc n) ys) x → IsOutputPlace driver output all x) → IsOutputPlace driver output all x
    go (inl e) rest = record {
      number = n;
      driver_is = sym (ap (λ (z : Driving). z.driver) e);
      item = y;
      at = sym (same 0 ∙ ap (slice_get all) (let f : n + 0 ≡ n = omega arith in f));
      drives = ap (λ (z : Driving). z.bit) e;
    }
    go (inr i) rest = rest i

-- each place drives its bit
record IsPlaceOf (flat : Flat) (x : Driving) : Type 0 where
  drives : IsDriver flat x.bit x.driver
  driving : IsDriving flat.bits x

place_of : (flat : Flat) → IsInRange flat → (x : Driving) → Contains (drivings flat) x → IsPlaceOf flat x
place_of flat range x h = outer (Contains-append_cases (port_drivings 0 flat.ports ++ cell_drivings 0 flat.cells) (flop_drivings 0 flat.flops) x h)
  where
    from_zero : {X : Type 0} (xs : List X) (k : ℕ) → slice_get xs k ≡ slice_get xs (0 + k)
    from_zero xs k = ap (slice_get xs) (let e : k ≡ 0 + k = omega arith in e)

    ports : IsPortPlace flat.ports x → IsPlaceOf flat x
    ports p = record {
      drives = subst (IsDriver flat x.bit) (sym p.driver_is) (record { port = p.port; at = p.at; input = p.input; wired = p.wired });
      driving = record {
        below = range.ports p.port (member_of_place flat.ports p.number p.port p.at) (Bit x.bit) p.wired;
        some = λ e. let f : Port p.number ≡ Nothing = sym p.driver_is ∙ e in cc;
      };
    }

    cells : IsOutputPlace Cell (λ (c : FlatCell). c.output) flat.cells x → IsPlaceOf flat x
    cells p = record {
      drives = subst (IsDriver flat x.bit) (sym p.driver_is) (record { cell = p.item; at = p.at; drives = p.drives });
      driving = record {
        below = subst (λ b. b < flat.bits) p.drives (range.outputs p.item (member_of_place flat.cells p.number p.item p.at));
        some = λ e. let f : Cell p.number ≡ Nothing = sym p.driver_is ∙ e in cc;
      };
    }

    flops : IsOutputPlace Flop (λ (f : FlatFlop). f.output) flat.flops x → IsPlaceOf flat x
    flops p = record {
      drives = subst (IsDriver flat x.bit) (sym p.driver_is) (record { flop = p.item; at = p.at; drives = p.drives });
      driving = record {
        below = subst (λ b. b < flat.bits) p.drives (range.flops p.item (member_of_place flat.flops p.number p.item p.at));
        some = λ e. let f : Flop p.number ≡ Nothing = sym p.driver_is ∙ e in cc;
      };
    }

    inner : Contains (port_drivings 0 flat.ports) x ⊎ Contains (cell_drivings 0 flat.cells) x → IsPlaceOf flat x
    inner (inl i) = ports (port_place flat.ports 0 flat.ports (from_zero flat.ports) x i)
    inner (inr i) = cells (output_place Cell (λ (c : FlatCell). c.output) flat.cells 0 flat.cells (from_zero flat.cells) x i)

    outer : Contains (port_drivings 0 flat.ports ++ cell_drivings 0 flat.cells) x ⊎ Contains (flop_drivings 0 flat.flops) x → IsPlaceOf flat x
    outer (inl i) = inner (Contains-append_cases (port_drivings 0 flat.ports) (cell_drivings 0 flat.cells) x i)
    outer (inr i) = flops (output_place Flop (λ (f : FlatFlop). f.output) flat.flops 0 flat.flops (from_zero flat.flops) x i)

pub all_driving : (flat : Flat) → IsInRange flat → All (IsDriving flat.bits) (drivings flat)
all_driving flat range k d below =
    (place_of flat range (get_or (drivings flat) k d) (Contains-get_or (drivings flat) k d below)).driving

-- the bits of the places are the driven bits
bits_back : (n : ℕ) (bs : List ℕ) → map (λ (d : Driving). d.bit) (map (port_driving n) bs) ≡ bs
bits_back n [] = refl
bits_back n (b ∷ bs) = ap (λ cs. b ∷ cs) (bits_back n bs)

port_bits : (n : ℕ) (ps : List FlatPort) → map (λ (d : Driving). d.bit) (port_drivings n ps) ≡ flat_map (λ (p : FlatPort). cond p.input (bits_in p.wires) []) ps
port_bits n [] = refl
port_bits n (p ∷ ps) =
    map-append (λ (d : Driving). d.bit) (map (port_driving n) (cond p.input (bits_in p.wires) [])) (port_drivings (suc n) ps)
    ∙ ap (λ xs. xs ++ map (λ (d : Driving). d.bit) (port_drivings (suc n) ps)) (bits_back n (cond p.input (bits_in p.wires) []))
    ∙ ap (λ xs. cond p.input (bits_in p.wires) [] ++ xs) (port_bits (suc n) ps)

output_bits : {X : Type 0} (driver : ℕ → Driver) (output : X → ℕ) (n : ℕ) (xs : List X)
    → map (λ (d : Driving). d.bit) (output_drivings driver output n xs) ≡ map output xs
output_bits driver output n [] = refl
output_bits driver output n (x ∷ xs) = ap (λ bs. output x ∷ bs) (output_bits driver output (suc n) xs)

driving_bits : (flat : Flat) → map (λ (d : Driving). d.bit) (drivings flat) ≡ driven_bits flat
driving_bits flat =
    map-append bit (port_drivings 0 flat.ports ++ cell_drivings 0 flat.cells) (flop_drivings 0 flat.flops)
    ∙ ap (λ xs. xs ++ map bit (flop_drivings 0 flat.flops))
    (map-append bit (port_drivings 0 flat.ports) (cell_drivings 0 flat.cells)
    ∙ ap (λ xs. xs ++ map bit (cell_drivings 0 flat.cells)) (port_bits 0 flat.ports)
    ∙ ap (λ xs. input_bits flat ++ xs) (output_bits Cell (λ (c : FlatCell). c.output) 0 flat.cells))
    ∙ ap (λ xs. input_bits flat ++ map (λ (c : FlatCell). c.output) flat.cells ++ xs) (output_bits Flop (λ (f : FlatFlop). f.output) 0 flat.flops)
  where
    bit : Driving → ℕ
    bit = λ (d : Driving). d.bit

-- a place counts among the drivers of its bit
among_some : (b : ℕ) (xs : List Driving) (x : Driving) → Contains xs x → x.bit ≡ b → 1 ≤ length (drivers_among b xs)
among_some b [] x h e = absurd (Contains-none x h)
among_some b (y ∷ xs) x h e = go (cases_eq y.bit b) (Contains-cases y x xs h) (λ i. among_some b xs x i e)
  where
    go : (y.bit ≡ b) ⊎ (y.bit ≢ b) → (y ≡ x) ⊎ Contains xs x → (Contains xs x → 1 ≤ length (drivers_among b xs))
        → 1 ≤ length (cond (nat_eq y.bit b) (y.driver ∷ drivers_among b xs) (drivers_among b xs))
    go (inl is) c rest = let l = ap length (cond_same y.bit b (y.driver ∷ drivers_among b xs) (drivers_among b xs) is) in omega arith
    go (inr n) (inl s) rest = absurd (n (ap (λ (z : Driving). z.bit) s ∙ e))
    go (inr n) (inr i) rest =
        let l = ap length (cond_other y.bit b (y.driver ∷ drivers_among b xs) (drivers_among b xs) n) in let m = rest i in omega arith

among_fewer : (b : ℕ) (y : Driving) (xs : List Driving) → length (drivers_among b xs) ≤ length (drivers_among b (y ∷ xs))
among_fewer b y xs = go (nat_eq y.bit b)
  where
    go : (t : Bool) → length (drivers_among b xs) ≤ length (cond t (y.driver ∷ drivers_among b xs) (drivers_among b xs))
    go true = omega arith
    go false = omega arith

no_repeat : (xs : List Driving) → ((b : ℕ) → length (drivers_among b xs) ≤ 1) → HasNoRepeat (map (λ (d : Driving). d.bit) xs)
no_repeat [] one = tt
no_repeat (x ∷ xs) one = (
  λ h. let m = image_of_map (λ (d : Driving). d.bit) xs x.bit h in
      let some = among_some x.bit xs m.source m.listed m.image in
      let two = one x.bit in
      let l = ap length (cond_same x.bit x.bit (x.driver ∷ drivers_among x.bit xs) (drivers_among x.bit xs) refl) in omega arith,
  no_repeat xs (λ b. let m = one b in let f = among_fewer b x xs in omega arith),
)

-- a driven bit has a place
record HasPlace (flat : Flat) (b : ℕ) : Type 0 where
  place : Driving
  listed : Contains (drivings flat) place
  bit_is : place.bit ≡ b

place_of_bit : (flat : Flat) (b : ℕ) → Contains (driven_bits flat) b → HasPlace flat b
place_of_bit flat b h =
    let m = image_of_map (λ (d : Driving). d.bit) (drivings flat) b (subst (λ bs. Contains bs b) (sym (driving_bits flat)) h) in
    record { place = m.source; listed = m.listed; bit_is = m.image }

pub input_driven : (flat : Flat) (b : ℕ) → IsInputBit flat b → Contains (driven_bits flat) b
input_driven flat b i =
    Contains-append_left (input_bits flat ++ map (λ (c : FlatCell). c.output) flat.cells) (map (λ (f : FlatFlop). f.output) flat.flops) b
    (Contains-append_left (input_bits flat) (map (λ (c : FlatCell). c.output) flat.cells) b i)

pub cell_driven : (flat : Flat) (b : ℕ) → IsCellBit flat b → Contains (driven_bits flat) b
cell_driven flat b i =
    let s = some_from_any (λ (c : FlatCell). c.output ≡ b) flat.cells i in
    Contains-append_left (input_bits flat ++ map (λ (c : FlatCell). c.output) flat.cells) (map (λ (f : FlatFlop). f.output) flat.flops) b
    (Contains-append_right (input_bits flat) (map (λ (c : FlatCell). c.output) flat.cells) b
    (subst (Contains (map (λ (c : FlatCell). c.output) flat.cells)) s.holds (Contains-map (λ (c : FlatCell). c.output) flat.cells s.member s.listed)))

pub flop_driven : (flat : Flat) (b : ℕ) → IsFlopBit flat b → Contains (driven_bits flat) b
flop_driven flat b i =
    let s = some_from_any (λ (f : FlatFlop). f.output ≡ b) flat.flops i in
    Contains-append_right (input_bits flat ++ map (λ (c : FlatCell). c.output) flat.cells) (map (λ (f : FlatFlop). f.output) flat.flops) b
    (subst (Contains (map (λ (f : FlatFlop). f.output) flat.flops)) s.holds (Contains-map (λ (f : FlatFlop). f.output) flat.flops s.member s.listed))

undriven : (flat : Flat) (b : ℕ) → drivers_of flat b ≡ [] → IsUndriven flat b
undriven flat b none = record {
  no_input = λ h. never (input_driven flat b h);
  no_flop = λ h. never (flop_driven flat b h);
  no_cell = λ h. never (cell_driven flat b h);
}
  where
    never : Contains (driven_bits flat) b → ⊥
    never h = let p = place_of_bit flat b h in let m = among_some b (drivings flat) p.place p.listed p.bit_is in let l = ap length none in omega arith

each_driver : (flat : Flat) (drivers : List Driver) → IsInRange flat → length drivers ≡ flat.bits
    → IsTable (drivings flat) drivers None → (b : ℕ) → IsDriver flat b (get_or drivers b Nothing)
each_driver flat drivers range long table b = go (drivers_of flat b) refl (cases_order b (length drivers))
  where
    read : (ds : List Driver) → drivers_of flat b ≡ ds → b < length drivers → get_or drivers b Nothing ≡ first_driver ds
    read ds e below = table.each b below ∙ ap first_driver e

    is_nothing : drivers_of flat b ≡ [] → (b ≡ length drivers) ⊎ ((b < length drivers) ⊎ (length drivers < b)) → get_or drivers b Nothing ≡ Nothing
    is_nothing e (inr (inl below)) = read [] e below
    is_nothing e (inl is) = get_or_past drivers b Nothing (omega arith)
    is_nothing e (inr (inr above)) = get_or_past drivers b Nothing (omega arith)

    go : (ds : List Driver) → drivers_of flat b ≡ ds → (b ≡ length drivers) ⊎ ((b < length drivers) ⊎ (length drivers < b))
        → IsDriver flat b (get_or drivers b Nothing)
    go [] e order = subst (IsDriver flat b) (sym (is_nothing e order)) (undriven flat b e)
    go (d ∷ ds) e order =
        let m = first_among b (drivings flat) d ds e in
        let p = place_of flat range m.place m.listed in
        let below : b < length drivers = let l = p.driving.below in let f = m.bit_is in omega arith in
        subst (IsDriver flat b) (sym (read (d ∷ ds) e below)) (subst (λ n. IsDriver flat n d) m.bit_is (subst (IsDriver flat m.place.bit) m.driver_is p.drives))

pub wired : (flat : Flat) (drivers : List Driver) → IsInRange flat → HasNumbers flat → length drivers ≡ flat.bits
    → IsTable (drivings flat) drivers None → IsWired flat drivers
wired flat drivers range numbers long table = record {
  range = range;
  numbers = numbers;
  one_driver = record { once = subst HasNoRepeat (driving_bits flat) (no_repeat (drivings flat) table.second_is) };
  driven = record { as_long = long; each = each_driver flat drivers range long table };
}

-- the bit of an input port's place
pub port_input : (flat : Flat) (number bit : ℕ) → IsPortBit flat number bit → IsInputBit flat bit
port_input flat number bit p =
    Contains-flat_map (λ (port : FlatPort). cond port.input (bits_in port.wires) []) flat.ports p.port bit
    (member_of_place flat.ports number p.port p.at)
    (subst (λ t. Contains (cond t (bits_in p.port.wires) []) bit) (sym p.input) (wire_bit p.port.wires bit p.wired))

-- a bit of an input port is one of the netlist's
pub input_below : (flat : Flat) → IsInRange flat → (b : ℕ) → IsInputBit flat b → b < flat.bits
input_below flat range b h =
    let j = joined_of_flat_map (λ (p : FlatPort). cond p.input (bits_in p.wires) []) flat.ports b h in
    range.ports j.source j.listed (Bit b) (wired j.source.input j.source j.member)
  where
    wired : (t : Bool) (p : FlatPort) → Contains (cond t (bits_in p.wires) []) b → Contains p.wires (Bit b)
    wired true p i = bit_wire p.wires b i
    wired false p i = absurd (Contains-none b i)

-- a driver that is looked up
pub driver_read : (flat : Flat) (drivers : List Driver) → IsWired flat drivers → (bit : ℕ) → bit < flat.bits → (default d : Driver)
    → get_or drivers bit default ≡ d → IsDriver flat bit d
driver_read flat drivers w bit below default d e =
    subst (IsDriver flat bit) (get_or_default drivers bit Nothing default (let l = w.driven.as_long in omega arith) ∙ e) (w.driven.each bit)
