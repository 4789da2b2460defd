-- The clock of a setup: an input port bit that is read as a clock alone.
use Rattle.std.proofs.Common.{◌≡◌, ℕ, inl, inr, Bool, true, false, not, List, refl, sym, ◌∙◌, ap, subst}
use Rattle.std.specs.Prelude.{Contains, Option, Some, None, flat_map, slice_get, ◌&&◌, ◌||◌}
use Rattle.std.specs.List.{list_any}
use Rattle.std.proofs.lemmas.Bool.{eqb-true, eq-eqb}
use Rattle.std.proofs.lemmas.List.Folds.{list_any-from_Any}
use Rattle.coco_base.specs.declared.netlist.Flat.{Flat}
use Rattle.coco_base.specs.declared.netlist.Wire.{Wire}
use Rattle.coco_base.specs.declared.netlist.Wire.TheVariants.{Bit}
use Rattle.coco_model.specs.Netlist.{IsInputBit, wires_of as cell_wires}
use Rattle.coco_model.specs.Setups.{IsClock}
use Rattle.coco_model.proofs.Basics.{Contains-none, any_from_member}
use Rattle.gate_graph.specs.Clocks.{IsGraphClock, IsOneClock}
use Rattle.model_laws.proofs.Lists.{joined_of_flat_map, member_of_place}
use Rattle.label_file.specs.declared.line.LabelLine.{LabelLine}
use Rattle.label_file.specs.declared.line.LabelLine.TheVariants as line
use Rattle.bind_run.specs.declared.need.Role.TheVariants as role
use Rattle.bind_run.specs.Binding.{cell_reads, clashes, flop_reads, is_clock, is_option_of, is_read, is_wire_of, wire_clashes}
use Rattle.bind_run.specs.Needs.{needs_of}
use Rattle.bind_run.specs.Nets.{wires_of}
use Rattle.bind_run.specs.SetupParts.{line_clock}
use Rattle.bind_run.proofs.AtBits.{bits_in-wire}
use Rattle.bind_run.proofs.BitsBound.{clock_driven}
use Rattle.bind_run.proofs.TakenLemmas.{AreTaken, LinesTaken, line_taken}

pub none_of : {X : Type 0} (test : X → Bool) (xs : List X) (x : X) → list_any test xs ≡ false → Contains xs x → test x ≡ true → ⊥
none_of test xs x none i e =
    let yes : list_any test xs ≡ true = list_any-from_Any test xs (any_from_member (λ y. test y ≡ true) xs x i e) in absurd cc

none_free : {X : Type 0} (test : X → Bool) (xs : List X) (x : X) → list_any test xs ≡ false → Contains xs x → test x ≡ false
none_free test xs x none i = go (test x) refl
  where
    go : (t : Bool) → test x ≡ t → t ≡ false
    go true e = absurd (none_of test xs x none i e)
    go false e = refl

neither : (a b : Bool) → (a || b) ≡ false → (a ≡ false) × (b ≡ false)
neither true b h = absurd cc
neither false b h = (refl, h)

yes_no : (b : Bool) → b ≡ false → b ≡ true → ⊥
yes_no b f t = absurd cc

is_itself : (b : ℕ) → is_wire_of b (Bit b) ≡ true
is_itself b = eq-eqb b b refl

is_bit : (b : ℕ) (w : Wire) → w ≡ Bit b → is_wire_of b w ≡ true
is_bit b w e = ap (is_wire_of b) e ∙ is_itself b

is_some_bit : (b : ℕ) (o : Option Wire) → o ≡ Some (Bit b) → is_option_of b o ≡ true
is_some_bit b o e = ap (is_option_of b) e ∙ is_itself b

-- a bit that no cell and no flop reads
unread : (flat : Flat) (b : ℕ) → IsInputBit flat b → is_read flat b ≡ false → IsClock flat b
unread flat b input free =
    let n = neither (list_any (cell_reads b) flat.cells) (list_any (flop_reads b) flat.flops) free in
    record {
      input = input;
      no_cell = λ c i k.
          none_of (is_wire_of b) (cell_wires c) (Bit b) (none_free (cell_reads b) flat.cells c n.0 i) k (is_itself b);
      no_next = λ f i e.
          let p = neither (is_wire_of b f.next || is_wire_of b f.clock) (is_option_of b f.reset) (none_free (flop_reads b) flat.flops f n.1 i) in
          yes_no (is_wire_of b f.next) (neither (is_wire_of b f.next) (is_wire_of b f.clock) p.0).0 (is_bit b f.next e);
      no_reset = λ f i e.
          let p = neither (is_wire_of b f.next || is_wire_of b f.clock) (is_option_of b f.reset) (none_free (flop_reads b) flat.flops f n.1 i) in
          yes_no (is_option_of b f.reset) p.1 (is_some_bit b f.reset e);
    }

-- the clock of the netlist
graph_clock : (flat : Flat) (clock : Option ℕ) (b : ℕ) → IsGraphClock flat clock → IsInputBit flat b → is_clock clock b ≡ true → IsClock flat b
graph_clock flat None b graph input e = absurd cc
graph_clock flat (Some c) b graph input e =
    let same : b ≡ c = eqb-true b c e in
    let one : IsOneClock flat b = subst (IsOneClock flat) (sym same) graph in
    record {
      input = input;
      no_cell = one.no_value.cells;
      no_next = λ f i n. one.no_value.flops f i (inl n);
      no_reset = λ f i r. one.no_value.flops f i (inr r);
    }

free_clock : (flat : Flat) (clock : Option ℕ) (b : ℕ) → IsGraphClock flat clock → IsInputBit flat b → clashes flat clock role.Clock b ≡ false → IsClock flat b
free_clock flat clock b graph input free = go (is_clock clock b) refl
  where
    go : (t : Bool) → is_clock clock b ≡ t → IsClock flat b
    go true e = graph_clock flat clock b graph input e
    go false e =
        let f : (not false && is_read flat b) ≡ false = subst (λ t. (not t && is_read flat b) ≡ false) e free in
        unread flat b input f

line_clock_is : (flat : Flat) (clock : Option ℕ) → IsGraphClock flat clock → (l : LabelLine) → AreTaken flat clock (needs_of flat l) → (b : ℕ)
    → Contains (line_clock flat l) b → IsClock flat b
line_clock_is flat clock graph (line.Clock net) t b i =
    free_clock flat clock b graph (clock_driven flat (wires_of flat net) b (t.0.driven refl) i)
    (none_free (wire_clashes flat clock role.Clock) (wires_of flat net) (Bit b) (t.0.free refl) (bits_in-wire (wires_of flat net) b i))
line_clock_is flat clock graph l t b i = absurd (Contains-none b i)

pub clock_is : (flat : Flat) (clock : Option ℕ) → IsGraphClock flat clock → (ls : List LabelLine) → LinesTaken flat clock ls → (b : ℕ)
    → slice_get (flat_map (line_clock flat) ls) 0 ≡ Some b → IsClock flat b
clock_is flat clock graph ls t b e =
    let j = joined_of_flat_map (line_clock flat) ls b (member_of_place (flat_map (line_clock flat) ls) 0 b e) in
    line_clock_is flat clock graph j.source (line_taken flat clock ls j.source t j.listed) b j.member
