-- Adding the places that drive bits, one by one.
use Rattle.std.proofs.Common.{◌≡◌, ℕ, suc, ◌+◌, ◌<◌, List, [], ◌∷◌, ◌++◌, map, length, get_or, drop, cond, refl, sym, ◌∙◌, ap, arith, append_assoc}
use Rattle.coco_base.specs.declared.netlist.FlatPort.{FlatPort}
use Rattle.coco_base.specs.declared.netlist.Wire.{Wire}
use Rattle.coco_base.specs.declared.netlist.Wire.TheVariants.{Const, Bit}
use Rattle.coco_model.specs.Netlist.{bits_in}
use Rattle.gate_graph.specs.declared.driver.Driver.{Driver}
use Rattle.gate_graph.specs.declared.driver.Driving.{Driving}
use Rattle.gate_graph.specs.Drivers.{port_driving, port_drivings, output_drivings}
use Rattle.gate_graph.proofs.Items.{item_at}

pub port_step : (done : List Driving) (n : ℕ) (xs : List FlatPort) (x : FlatPort) → n < length xs → x ≡ get_or xs n x
    → (done ++ map (port_driving n) (cond x.input (bits_in x.wires) [])) ++ port_drivings (n + 1) (drop (n + 1) xs)
    ≡ done ++ port_drivings n (drop n xs)
port_step done n xs x h e =
    append_assoc done new (port_drivings (n + 1) (drop (n + 1) xs))
    ∙ ap (λ m. done ++ (new ++ port_drivings m (drop (n + 1) xs))) next
    ∙ sym (ap (λ ys. done ++ port_drivings n ys) (item_at xs n x h e))
  where
    new : List Driving
    new = map (port_driving n) (cond x.input (bits_in x.wires) [])

    next : n + 1 ≡ suc n
    next = omega arith

pub output_step : {X : Type 0} (driver : ℕ → Driver) (output : X → ℕ) (done : List Driving) (n : ℕ) (xs : List X) (x : X) → n < length xs
    → x ≡ get_or xs n x
    → (done ++ record { bit = output x; driver = driver n } ∷ []) ++ output_drivings driver output (n + 1) (drop (n + 1) xs)
    ≡ done ++ output_drivings driver output n (drop n xs)
output_step {X} driver output done n xs x h e =
    append_assoc done new (output_drivings driver output (n + 1) (drop (n + 1) xs))
    ∙ ap (λ m. done ++ (new ++ output_drivings driver output m (drop (n + 1) xs))) next
    ∙ sym (ap (λ ys. done ++ output_drivings driver output n ys) (item_at xs n x h e))
  where
    new : List Driving
    new = record { bit = output x; driver = driver n } ∷ []

    next : n + 1 ≡ suc n
    next = omega arith

-- a wire of an input port: a bit is driven, a constant is not
pub bit_step : (done : List Driving) (n i b : ℕ) (ws : List Wire) (w : Wire) → i < length ws → w ≡ get_or ws i w → w ≡ Bit b
    → (done ++ port_driving n b ∷ []) ++ map (port_driving n) (bits_in (drop (i + 1) ws)) ≡ done ++ map (port_driving n) (bits_in (drop i ws))
bit_step done n i b ws w h e is =
    append_assoc done (port_driving n b ∷ []) (map (port_driving n) (bits_in (drop (i + 1) ws)))
    ∙ sym (ap (λ v. done ++ map (port_driving n) (bits_in (v ∷ drop (i + 1) ws))) is)
    ∙ sym (ap (λ ys. done ++ map (port_driving n) (bits_in ys)) (item_at ws i w h e))

pub constant_step : (done : List Driving) (n i : ℕ) (ws : List Wire) (w : Wire) → i < length ws → w ≡ get_or ws i w → bits_in (w ∷ []) ≡ []
    → done ++ map (port_driving n) (bits_in (drop (i + 1) ws)) ≡ done ++ map (port_driving n) (bits_in (drop i ws))
constant_step done n i ws (Const x) h e is = sym (ap (λ ys. done ++ map (port_driving n) (bits_in ys)) (item_at ws i (Const x) h e))
constant_step done n i ws (Bit b) h e is = absurd cc
