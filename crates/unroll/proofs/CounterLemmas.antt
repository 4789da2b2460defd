-- The program counter, cycle by cycle.
use Rattle.std.proofs.Common.{◌≡◌, ◌≢◌, ℕ, zero, suc, ◌+◌, ◌<◌, ◌⊎◌, inl, inr, List, [], ◌∷◌, ◌++◌, length, get_or, refl, sym, ◌∙◌, ap, subst, arith, length-append}
use Rattle.std.specs.Prelude.{Option, Some, None, MatchOption, option_to_list}
use Rattle.std.proofs.lemmas.Bool.{cases_order}
use Rattle.coco_base.specs.declared.netlist.Flat.{Flat}
use Rattle.coco_base.specs.declared.setup.Setup.{Setup}
use Rattle.coco_model.specs.Carried.{number_on}
use Rattle.coco_model.specs.Known.{Row, ones}
use Rattle.coco_model.specs.Setups.{IsBoundTo}
use Rattle.coco_model.specs.Stepped.{IsStepped, row_of}
use Rattle.gate_graph.specs.Graphs.{Gates, IsBuilt}
use Rattle.cycle_sim.specs.Simulations.{Simulation, HasStepped, pc_of}
use Rattle.unroll.specs.Counters.{IsPcNumber, IsPcIn, ArePcs}
use Rattle.unroll.proofs.SimLemmas.{same_row}

pub pcs_none : (flat : Flat) (setup : Setup) → ArePcs flat setup 0 []
pcs_none flat setup = record { none = λ e. refl; as_long = λ n. refl; each = λ n t h. absurd (omega arith) }

-- without a net there is no number in any cycle
pcs_stay : (flat : Flat) (setup : Setup) (t : ℕ) (pcs : List ℕ) → setup.pc ≡ [] → ArePcs flat setup t pcs → ArePcs flat setup (t + 1) pcs
pcs_stay flat setup t pcs none is = record { none = is.none; as_long = λ n. absurd (n none); each = λ n. absurd (n none) }

get_front : (xs : List ℕ) (y i : ℕ) → i < length xs → get_or (xs ++ y ∷ []) i 0 ≡ get_or xs i 0
get_front [] y i h = absurd (omega arith)
get_front (x ∷ xs) y zero h = refl
get_front (x ∷ xs) y (suc i) h = get_front xs y i (omega arith)

get_last : (xs : List ℕ) (y : ℕ) → get_or (xs ++ y ∷ []) (length xs) 0 ≡ y
get_last [] y = refl
get_last (x ∷ xs) y = get_last xs y

-- one number more
pcs_more : (flat : Flat) (setup : Setup) (t : ℕ) (pcs : List ℕ) (pc : ℕ) → setup.pc ≢ [] → IsPcNumber flat setup t pc → ArePcs flat setup t pcs
    → ArePcs flat setup (t + 1) (pcs ++ pc ∷ [])
pcs_more flat setup t pcs pc some number is = record {
  none = λ e. absurd (some e);
  as_long = λ n. let l = is.as_long n in omega (arith, length-append pcs (pc ∷ []));
  each = λ n s h. go n s h (cases_order s t);
}
  where
    go : setup.pc ≢ [] → (s : ℕ) → s < t + 1 → (s ≡ t) ⊎ ((s < t) ⊎ (t < s)) → IsPcNumber flat setup s (get_or (pcs ++ pc ∷ []) s 0)
    go n s h (inl e) =
        let place : s ≡ length pcs = e ∙ sym (is.as_long n) in
        subst (IsPcNumber flat setup s) (sym (ap (λ i. get_or (pcs ++ pc ∷ []) i 0) place ∙ get_last pcs pc))
        (subst (λ x. IsPcNumber flat setup x pc) (sym e) number)
    go n s h (inr (inl less)) =
        subst (IsPcNumber flat setup s) (sym (get_front pcs pc s (let l = is.as_long n in omega arith))) (is.each n s less)
    go n s h (inr (inr more)) = absurd (omega arith)

no_more : (xs : List ℕ) → xs ++ [] ≡ xs
no_more [] = refl
no_more (x ∷ xs) = ap (λ rest. x ∷ rest) (no_more xs)

-- what a cycle tells is added
pub pcs_next : (flat : Flat) (setup : Setup) (t : ℕ) (pcs : List ℕ) (pc : Option ℕ) → IsPcIn flat setup t pc → ArePcs flat setup t pcs
    → ArePcs flat setup (t + 1) (pcs ++ option_to_list pc)
pcs_next flat setup t pcs None none is = subst (ArePcs flat setup (t + 1)) (sym (no_more pcs)) (pcs_stay flat setup t pcs none is)
pcs_next flat setup t pcs (Some n) (some, number) is = pcs_more flat setup t pcs n some number is

-- what a simulation past a good cycle tells of the program counter
pub pc_in : (g : Gates) (setup : Setup) → IsBuilt g → IsBoundTo g.flat setup → (sim : Simulation) (t : ℕ) → sim.gates ≡ g → sim.setup ≡ setup
    → HasStepped sim t → (pc : Option ℕ) → MatchOption pc (sim.setup.pc ≡ []) (λ n. sim.setup.pc ≢ [])
    → MatchOption pc (Unit {0}) (λ n. n ≡ pc_of sim) → IsPcIn g.flat setup t pc
pc_in g setup built bound sim t gates setups stepped None none value = subst (λ (s : Setup). s.pc ≡ []) setups none
pc_in g setup built bound sim t gates setups stepped (Some n) some value = (
  subst (λ (s : Setup). s.pc ≢ []) setups some,
  (λ row word known. value ∙ ap (λ (s : Setup). number_on (ones (row_of sim.known)) s.pc) setups
      ∙ ap (λ (r : Row). number_on (ones r) setup.pc)
      (sym stepped.now ∙ same_row g setup built bound (suc t) stepped.row row stepped.word word stepped_is.known known t (omega arith))),
)
  where
    stepped_is : IsStepped g.flat setup (suc t) stepped.row stepped.word
    stepped_is =
        subst (λ (s : Setup). IsStepped g.flat s (suc t) stepped.row stepped.word) setups
        (subst (λ (x : Gates). IsStepped x.flat sim.setup (suc t) stepped.row stepped.word) gates stepped.stepped)
