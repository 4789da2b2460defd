-- The cells by the ranks of their outputs.
use Rattle.std.proofs.Common.{◌≡◌, ◌≢◌, ℕ, zero, suc, ◌+◌, ◌-◌, ◌<◌, ◌≤◌, ◌⊎◌, inl, inr, List, [], ◌∷◌, ◌++◌, map, length, get_or, refl, sym, ◌∙◌, ap, subst, arith}
use Rattle.std.specs.Prelude.{Contains, Option, Some, None, slice_get}
use Rattle.std.proofs.lemmas.Bool.{cases_order}
use Rattle.std.proofs.lemmas.List.{length-append, get_or-map, get_or_append_left, get_or_push}
use Rattle.std.proofs.lemmas.List.Elements.{Contains-append_left, Contains-push, Contains-push_cases, Contains-get_or}
use Rattle.coco_base.specs.declared.netlist.Flat.{Flat}
use Rattle.coco_base.specs.declared.netlist.FlatCell.{FlatCell}
use Rattle.coco_base.specs.declared.netlist.Wire.TheVariants.{Bit}
use Rattle.coco_model.specs.Netlist.{wires_of, HasOneDriver, IsCellBit, IsRanked}
use Rattle.coco_model.specs.Events.{IsCellOrder}
use Rattle.coco_model.proofs.Basics.{Contains-here, Contains-later, Contains-cases, Contains-none, some_from_any}
use Rattle.model_laws.proofs.Lists.{IsPlace, member_of_place, place_of_member}
use Rattle.gate_graph.specs.Drivers.{IsCellOutput, IsWired}
use Rattle.gate_graph.specs.Ranks.{GoesBefore, AreRanks, output_rank, IsRankOrder}
use Rattle.gate_graph.specs.Standings.{IsArrangement, AreByRank, ArePlaces}
use Rattle.gate_graph.proofs.Items.{place_below, some_at, get_at}
use Rattle.gate_graph.proofs.LevelLemmas.{same_cell}

-- the rank of a cell's output
pub output_rank_is : (flat : Flat) (ranks : List ℕ) (i : ℕ) (c : FlatCell) → slice_get flat.cells i ≡ Some c → output_rank flat ranks i ≡ get_or ranks c.output 0
output_rank_is flat ranks i c at =
    ap (λ b. get_or ranks b 0)
    (get_or-map (λ (d : FlatCell). d.output) flat.cells i c 0 (place_below flat.cells i c at) ∙ ap (λ (d : FlatCell). d.output) (get_at flat.cells i c c at))

-- the cells whose outputs have ranks below a number
pub record IsOrderTo (flat : Flat) (ranks : List ℕ) (done : ℕ) (order : List ℕ) : Type 0 where
  pub numbers : (i : ℕ) → Contains order i → (i < length flat.cells) × (output_rank flat ranks i < done)
  pub all : (i : ℕ) → i < length flat.cells → output_rank flat ranks i < done → Contains order i
  pub ascending : (j k : ℕ) → j < k → k < length order
      → output_rank flat ranks (get_or order j 0) < output_rank flat ranks (get_or order k 0)

pub order_none : (flat : Flat) (ranks : List ℕ) → IsOrderTo flat ranks 0 []
order_none flat ranks = record {
  numbers = λ i h. absurd (Contains-none i h);
  all = λ i below lt. absurd (omega arith);
  ascending = λ j k lt h. absurd (omega arith);
}

-- the bit at a place has that place as its rank, and no other bit of the netlist has
rank_at : (bits ranks : List ℕ) → ArePlaces bits ranks → (place b : ℕ) → place < length bits → b ≡ get_or bits place 0 → get_or ranks b 0 ≡ place
rank_at bits ranks p place b below e = ap (λ n. get_or ranks n 0) e ∙ p.each place below

bit_of_rank : (bits ranks : List ℕ) → IsArrangement bits → ArePlaces bits ranks → (place b : ℕ) → b < length bits → get_or ranks b 0 ≡ place → b ≡ get_or bits place 0
bit_of_rank bits ranks a p place b below e =
    let s = a.every b below in
    let same : s.0 ≡ place = sym (p.each s.0 s.1) ∙ ap (λ n. get_or ranks n 0) s.2 ∙ e in
    sym s.2 ∙ ap (λ n. get_or bits n 0) same

pub order_cell : (flat : Flat) → HasOneDriver flat → (bits ranks : List ℕ) → IsArrangement bits → ArePlaces bits ranks → length bits ≡ flat.bits
    → ((c : FlatCell) → Contains flat.cells c → c.output < flat.bits)
    → (place i b : ℕ) (order : List ℕ) → place < length bits → b ≡ get_or bits place 0 → IsCellOutput flat i b → IsOrderTo flat ranks place order
    → IsOrderTo flat ranks (place + 1) (order ++ i ∷ [])
order_cell flat one bits ranks a p long range place i b order below at drives o = record {
  numbers = λ j h. numbers j (Contains-push_cases order i j h);
  all = λ j inside lt. all j (cases_order (output_rank flat ranks j) place) inside lt;
  ascending = λ j k lt h. ascending j k lt (cases_order k (length order)) h;
}
  where
    inside : i < length flat.cells
    inside = place_below flat.cells i drives.cell drives.at

    rank : output_rank flat ranks i ≡ place
    rank = output_rank_is flat ranks i drives.cell drives.at ∙ rank_at bits ranks p place drives.cell.output below (drives.drives ∙ at)

    numbers : (j : ℕ) → Contains order j ⊎ (i ≡ j) → (j < length flat.cells) × (output_rank flat ranks j < place + 1)
    numbers j (inl h) = let n = o.numbers j h in (n.0, (let m : output_rank flat ranks j < place = n.1 in omega arith))
    numbers j (inr e) = subst (λ n. (n < length flat.cells) × (output_rank flat ranks n < place + 1)) e (inside, (let r = rank in omega arith))

    all : (j : ℕ) → (output_rank flat ranks j ≡ place) ⊎ ((output_rank flat ranks j < place) ⊎ (place < output_rank flat ranks j)) → j < length flat.cells
        → output_rank flat ranks j < place + 1 → Contains (order ++ i ∷ []) j
    all j (inr (inl lower)) in_cells lt = Contains-append_left order (i ∷ []) j (o.all j in_cells lower)
    all j (inr (inr higher)) in_cells lt = absurd (omega arith)
    all j (inl e) in_cells lt = subst (Contains (order ++ i ∷ [])) same (Contains-push order i)
      where
        c : FlatCell
        c = get_or flat.cells j drives.cell

        at_j : slice_get flat.cells j ≡ Some c
        at_j = some_at flat.cells j drives.cell in_cells

        output : c.output ≡ get_or bits place 0
        output =
            bit_of_rank bits ranks a p place c.output (let r = range c (member_of_place flat.cells j c at_j) in omega arith)
            (sym (output_rank_is flat ranks j c at_j) ∙ e)

        same : i ≡ j
        same = same_cell flat one i j drives.cell c drives.at at_j (drives.drives ∙ at ∙ sym output)

    front : (k : ℕ) → k < length order → get_or (order ++ i ∷ []) k 0 ≡ get_or order k 0
    front k h = get_or_append_left order (i ∷ []) 0 k h

    ascending : (j k : ℕ) → j < k → (k ≡ length order) ⊎ ((k < length order) ⊎ (length order < k)) → k < length (order ++ i ∷ [])
        → output_rank flat ranks (get_or (order ++ i ∷ []) j 0) < output_rank flat ranks (get_or (order ++ i ∷ []) k 0)
    ascending j k lt (inl e) h =
        let before : j < length order = omega arith in
        let low : output_rank flat ranks (get_or order j 0) < place = (o.numbers (get_or order j 0) (Contains-get_or order j 0 before)).1 in
        let left = ap (output_rank flat ranks) (front j before) in
        let right = ap (output_rank flat ranks) (get_or_push order i 0 k (sym e)) in
        let r = rank in omega arith
    ascending j k lt (inr (inl inner)) h =
        let before : j < length order = omega arith in
        let old = o.ascending j k lt inner in
        let left = ap (output_rank flat ranks) (front j before) in
        let right = ap (output_rank flat ranks) (front k inner) in omega arith
    ascending j k lt (inr (inr above)) h = absurd (let l = length-append order (i ∷ []) in omega arith)

pub order_leaf : (flat : Flat) (bits ranks : List ℕ) → IsArrangement bits → ArePlaces bits ranks → length bits ≡ flat.bits
    → ((c : FlatCell) → Contains flat.cells c → c.output < flat.bits)
    → (place b : ℕ) (order : List ℕ) → place < length bits → b ≡ get_or bits place 0 → ((i : ℕ) → IsCellOutput flat i b → ⊥) → IsOrderTo flat ranks place order
    → IsOrderTo flat ranks (place + 1) order
order_leaf flat bits ranks a p long range place b order below at none o = record {
  numbers = λ i h. let n = o.numbers i h in (n.0, (let m : output_rank flat ranks i < place = n.1 in omega arith));
  all = λ i inside lt. all i (cases_order (output_rank flat ranks i) place) inside lt;
  ascending = o.ascending;
}
  where
    all : (i : ℕ) → (output_rank flat ranks i ≡ place) ⊎ ((output_rank flat ranks i < place) ⊎ (place < output_rank flat ranks i)) → i < length flat.cells
        → output_rank flat ranks i < place + 1 → Contains order i
    all i (inr (inl lower)) inside lt = o.all i inside lower
    all i (inr (inr higher)) inside lt = absurd (omega arith)
    all i (inl e) inside lt = absurd (named (slice_get flat.cells i) refl)
      where
        by : (c : FlatCell) → slice_get flat.cells i ≡ Some c → ⊥
        by c at_i = none i (record {
          cell = c;
          at = at_i;
          drives =
              bit_of_rank bits ranks a p place c.output (let r = range c (member_of_place flat.cells i c at_i) in omega arith)
              (sym (output_rank_is flat ranks i c at_i) ∙ e) ∙ sym at;
        })

        named : (c : Option FlatCell) → slice_get flat.cells i ≡ c → ⊥
        named None at_i = never flat.cells i inside at_i
          where
            never : {X : Type 0} (xs : List X) (n : ℕ) → n < length xs → slice_get xs n ≡ None → ⊥
            never [] n h e = omega arith
            never (x ∷ xs) zero h e = cc
            never (x ∷ xs) (suc n) h e = never xs n (omega arith) e
        named (Some c) at_i = by c at_i

pub order_all : (flat : Flat) (ranks : List ℕ) (done : ℕ) (order : List ℕ)
    → ((i : ℕ) → i < length flat.cells → output_rank flat ranks i < done) → IsOrderTo flat ranks done order → IsRankOrder flat ranks order
order_all flat ranks done order low o = record {
  numbers = λ i h. (o.numbers i h).0;
  all = λ i inside. o.all i inside (low i inside);
  ascending = o.ascending;
}

-- every cell's output has a rank below the number of bits
pub low_ranks : (flat : Flat) (bits ranks : List ℕ) → IsArrangement bits → ArePlaces bits ranks → length bits ≡ flat.bits
    → ((c : FlatCell) → Contains flat.cells c → c.output < flat.bits) → (i : ℕ) → i < length flat.cells → output_rank flat ranks i < length bits
low_ranks flat bits ranks a p long range i inside = named (slice_get flat.cells i) refl
  where
    by : (c : FlatCell) → slice_get flat.cells i ≡ Some c → output_rank flat ranks i < length bits
    by c at =
        let s = a.every c.output (let r = range c (member_of_place flat.cells i c at) in omega arith) in
        let below : s.0 < length bits = s.1 in
        let rank : get_or ranks c.output 0 ≡ s.0 = rank_at bits ranks p s.0 c.output s.1 (sym s.2) in
        let is = output_rank_is flat ranks i c at in omega arith

    named : (c : Option FlatCell) → slice_get flat.cells i ≡ c → output_rank flat ranks i < length bits
    named None at = absurd (never flat.cells i inside at)
      where
        never : {X : Type 0} (xs : List X) (n : ℕ) → n < length xs → slice_get xs n ≡ None → ⊥
        never [] n h e = omega arith
        never (x ∷ xs) zero h e = cc
        never (x ∷ xs) (suc n) h e = never xs n (omega arith) e
    named (Some c) at = by c at

-- the ranks are exact
pub exact_ranks : (flat : Flat) (levels bits ranks : List ℕ) → AreByRank levels bits → ArePlaces bits ranks → length levels ≡ flat.bits
    → AreRanks flat (λ b. get_or levels b 0) ranks
exact_ranks flat levels bits ranks by p long = record {
  as_long = p.as_long ∙ by.as_long ∙ long;
  below = λ b h. let s = place b h in let low : s.0 < length bits = s.1 in let r = rank b h in let l = by.as_long in omega arith;
  ordered = λ a b in_a in_b before. ordered a b in_a in_b before (cases_order (get_or ranks a 0) (get_or ranks b 0));
}
  where
    place : (b : ℕ) → b < flat.bits → (k : ℕ) × (k < length bits) × (get_or bits k 0 ≡ b)
    place b h = by.arranged.every b (let l = by.as_long in omega arith)

    rank : (b : ℕ) (h : b < flat.bits) → get_or ranks b 0 ≡ (place b h).0
    rank b h = let s = place b h in rank_at bits ranks p s.0 b s.1 (sym s.2)

    not_both : (a b : ℕ) → GoesBefore (λ c. get_or levels c 0) a b → GoesBefore (λ c. get_or levels c 0) b a → ⊥
    not_both a b (inl h) (inl i) = omega arith
    not_both a b (inl h) (inr i) = let e : get_or levels b 0 ≡ get_or levels a 0 = i.0 in omega arith
    not_both a b (inr h) (inl i) = let e : get_or levels a 0 ≡ get_or levels b 0 = h.0 in omega arith
    not_both a b (inr h) (inr i) = let x : a < b = h.1 in let y : b < a = i.1 in omega arith

    not_itself : (a b : ℕ) → a ≡ b → GoesBefore (λ c. get_or levels c 0) a b → ⊥
    not_itself a b e (inl h) = let f : get_or levels a 0 ≡ get_or levels b 0 = ap (λ c. get_or levels c 0) e in omega arith
    not_itself a b e (inr h) = let x : a < b = h.1 in omega arith

    ordered : (a b : ℕ) → a < flat.bits → b < flat.bits → GoesBefore (λ c. get_or levels c 0) a b
        → (get_or ranks a 0 ≡ get_or ranks b 0) ⊎ ((get_or ranks a 0 < get_or ranks b 0) ⊎ (get_or ranks b 0 < get_or ranks a 0))
        → get_or ranks a 0 < get_or ranks b 0
    ordered a b in_a in_b before (inr (inl lt)) = lt
    ordered a b in_a in_b before (inl e) =
        let s = place a in_a in
        let t = place b in_b in
        let same : s.0 ≡ t.0 = sym (rank a in_a) ∙ e ∙ rank b in_b in
        absurd (not_itself a b (sym s.2 ∙ ap (λ n. get_or bits n 0) same ∙ t.2) before)
    ordered a b in_a in_b before (inr (inr gt)) =
        let s = place a in_a in
        let t = place b in_b in
        let below : t.0 < s.0 = let x = rank a in_a in let y = rank b in_b in omega arith in
        let back = by.ordered t.0 s.0 below s.1 in
        absurd (not_both a b before (subst (λ n. GoesBefore (λ c. get_or levels c 0) n a) t.2
        (subst (GoesBefore (λ c. get_or levels c 0) (get_or bits t.0 0)) s.2 back)))

-- an order by rank has each cell after those whose outputs it reads
pub cell_order : (flat : Flat) → HasOneDriver flat → (ranks order : List ℕ) → IsRanked flat (λ b. get_or ranks b 0) → IsRankOrder flat ranks order
    → IsCellOrder flat [] order
cell_order flat one ranks order ranked o =
    go [] order o.numbers (λ i inside. inl (o.all i inside)) o.ascending
  where
    after : (done : List ℕ) → List ℕ → Type 0
    after done rest = (i : ℕ) → i < length flat.cells → Contains rest i ⊎ ((c : FlatCell) → slice_get flat.cells i ≡ Some c → Contains done c.output)

    -- a bit that a cell drives, by the cell's place
    drives : (done : List ℕ) (b : ℕ) → IsCellBit flat b → ((i : ℕ) (c : FlatCell) → slice_get flat.cells i ≡ Some c → c.output ≡ b → Contains done b) → Contains done b
    drives done b h by =
        let s = some_from_any (λ (c : FlatCell). c.output ≡ b) flat.cells h in
        let p = place_of_member flat.cells s.member s.listed in
        by p.place s.member p.at s.holds

    go : (done rest : List ℕ) → ((i : ℕ) → Contains rest i → i < length flat.cells) → after done rest
        → ((j k : ℕ) → j < k → k < length rest → output_rank flat ranks (get_or rest j 0) < output_rank flat ranks (get_or rest k 0))
        → IsCellOrder flat done rest
    go done [] numbers all ascending = λ b h. drives done b h (λ i c at e. by i c b at e (all i (place_below flat.cells i c at)))
      where
        by : (i : ℕ) (c : FlatCell) (b : ℕ) → slice_get flat.cells i ≡ Some c → c.output ≡ b
            → Contains [] i ⊎ ((c : FlatCell) → slice_get flat.cells i ≡ Some c → Contains done c.output) → Contains done b
        by i c b at e (inl h) = absurd (Contains-none i h)
        by i c b at e (inr has) = subst (Contains done) e (has c at)
    go done (i ∷ rest) numbers all ascending = named (slice_get flat.cells i) refl
        (λ c at. go (c.output ∷ done) rest (λ j h. numbers j (Contains-later i j rest h)) (λ j inside. next c at j (all j inside))
        (λ j k lt h. ascending (suc j) (suc k) (omega arith) (omega arith)))
      where
        inside : i < length flat.cells
        inside = numbers i (Contains-here i rest)

        never : {X : Type 0} (xs : List X) (n : ℕ) → n < length xs → slice_get xs n ≡ None → ⊥
        never [] n h e = omega arith
        never (x ∷ xs) zero h e = cc
        never (x ∷ xs) (suc n) h e = never xs n (omega arith) e

        next : (c : FlatCell) → slice_get flat.cells i ≡ Some c → (j : ℕ)
            → Contains (i ∷ rest) j ⊎ ((d : FlatCell) → slice_get flat.cells j ≡ Some d → Contains done d.output)
            → Contains rest j ⊎ ((d : FlatCell) → slice_get flat.cells j ≡ Some d → Contains (c.output ∷ done) d.output)
        next c at j (inr has) = inr (λ d at_j. Contains-later c.output d.output done (has d at_j))
        next c at j (inl h) = by (Contains-cases i j rest h)
          where
            by : (i ≡ j) ⊎ Contains rest j
                → Contains rest j ⊎ ((d : FlatCell) → slice_get flat.cells j ≡ Some d → Contains (c.output ∷ done) d.output)
            by (inr later) = inl later
            by (inl e) = inr (λ d at_j.
                let f : Some c ≡ Some d = sym at ∙ ap (slice_get flat.cells) e ∙ at_j in
                let g : c ≡ d = cc in
                subst (Contains (c.output ∷ done)) (ap (λ (x : FlatCell). x.output) g) (Contains-here c.output done))

        reads : (c : FlatCell) → slice_get flat.cells i ≡ Some c → (b : ℕ) → Contains (wires_of c) (Bit b) → IsCellBit flat b → Contains done b
        reads c at b read h = drives done b h (λ j d at_j e. by j d at_j e (all j (place_below flat.cells j d at_j)))
          where
            low : get_or ranks b 0 < get_or ranks c.output 0
            low = ranked.cells c (member_of_place flat.cells i c at) b read

            at_place : (j : ℕ) (d : FlatCell) → slice_get flat.cells j ≡ Some d → d.output ≡ b → (i ≡ j) ⊎ Contains rest j → ⊥
            at_place j d at_j e (inl same) =
                let r = output_rank_is flat ranks i c at in
                let s = output_rank_is flat ranks j d at_j in
                let t = ap (output_rank flat ranks) same in
                let u = ap (λ n. get_or ranks n 0) e in
                let l = low in omega arith
            at_place j d at_j e (inr later) = higher (place_of_member rest j later)
              where
                higher : IsPlace rest j → ⊥
                higher p =
                    let lt = ascending 0 (suc p.place) (omega arith) (let l = place_below rest p.place j p.at in omega arith) in
                    let item : get_or rest p.place 0 ≡ j = get_at rest p.place j 0 p.at in
                    let v = ap (output_rank flat ranks) item in
                    let r = output_rank_is flat ranks i c at in
                    let s = output_rank_is flat ranks j d at_j in
                    let u = ap (λ n. get_or ranks n 0) e in
                    let l = low in omega arith

            by : (j : ℕ) (d : FlatCell) → slice_get flat.cells j ≡ Some d → d.output ≡ b
                → Contains (i ∷ rest) j ⊎ ((x : FlatCell) → slice_get flat.cells j ≡ Some x → Contains done x.output) → Contains done b
            by j d at_j e (inr has) = subst (Contains done) e (has d at_j)
            by j d at_j e (inl listed) = absurd (at_place j d at_j e (Contains-cases i j rest listed))

        named : (o : Option FlatCell) → slice_get flat.cells i ≡ o → ((c : FlatCell) → slice_get flat.cells i ≡ Some c → IsCellOrder flat (c.output ∷ done) rest)
            → IsCellOrder flat done (i ∷ rest)
        named None at later = absurd (never flat.cells i inside at)
        named (Some c) at later = (c, at, reads c at, later c at)
