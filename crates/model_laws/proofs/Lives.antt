-- Whether an input is live, and whether a leaf is reached, is decided.
use Rattle.std.proofs.Common.{◌≡◌, ◌≢◌, ℕ, zero, suc, ◌<◌, ◌≤◌, ◌⊎◌, inl, inr, Bool, true, false, List, [], ◌∷◌, map, length, get_or, set, refl, ap, subst, arith}
use Rattle.std.specs.Prelude.{Contains}
use Rattle.std.proofs.lemmas.Bool.{cases_eq, cases_lt}
use Rattle.std.proofs.lemmas.List.{get_or_past}
use Rattle.std.proofs.lemmas.List.Elements.{Contains-append_cases, Contains-append_left, Contains-append_right}
use Rattle.coco_base.specs.declared.cell.Kind.{Kind}
use Rattle.coco_base.specs.declared.cell.Part.{Part}
use Rattle.coco_base.specs.declared.cell.Part.TheVariants.{Zero, One, Vary}
use Rattle.coco_base.specs.declared.netlist.Flat.{Flat}
use Rattle.coco_base.specs.declared.netlist.FlatCell.{FlatCell}
use Rattle.coco_base.specs.declared.netlist.Wire.{Wire}
use Rattle.coco_base.specs.declared.netlist.Wire.TheVariants.{Const, Bit}
use Rattle.coco_model.specs.Cells.{output_of, Allows, AllowsAll, allowed_inputs, IsLiveInput, IsForced, Forces}
use Rattle.coco_model.specs.Netlist.{wires_of, IsRanked, IsInRange, IsCellBit}
use Rattle.coco_model.specs.Known.{Row, cell_parts}
use Rattle.coco_model.specs.Reach.{IsLive, Reaches, IsReachedRow}
use Rattle.coco_model.specs.Reach.Reaches.{here, through}
use Rattle.coco_model.proofs.Bits.{same_or_not}
use Rattle.coco_model.proofs.Basics.{Contains-here, Contains-cases, Contains-none, HasMember}
use Rattle.coco_model.proofs.Walks.{IsAtLeaf, IsStep, walk_cases}
use Rattle.model_laws.proofs.Lists.{Contains-map, IsImage, image_of_map, some_or_none, some_member_or_none}
use Rattle.model_laws.proofs.Ranks.{cell_bit_or_not}
use Rattle.model_laws.proofs.Ascending.{HasList, list_of}
use Rattle.model_laws.proofs.Calms.{vary_or_not, member_at}

-- the allowed inputs are listed
allowed_listed : (ps : List Part) (xs : List Bool) → AllowsAll ps xs → Contains (allowed_inputs ps) xs
allowed_listed [] [] a = Contains-here [] []
allowed_listed [] (x ∷ xs) a = absurd a
allowed_listed (p ∷ ps) [] a = absurd a
allowed_listed (Zero ∷ ps) (true ∷ xs) a = absurd (let e = a.0 in cc)
allowed_listed (Zero ∷ ps) (false ∷ xs) a = Contains-map (λ (ys : List Bool). false ∷ ys) (allowed_inputs ps) xs (allowed_listed ps xs a.1)
allowed_listed (One ∷ ps) (false ∷ xs) a = absurd (let e = a.0 in cc)
allowed_listed (One ∷ ps) (true ∷ xs) a = Contains-map (λ (ys : List Bool). true ∷ ys) (allowed_inputs ps) xs (allowed_listed ps xs a.1)
allowed_listed (Vary ∷ ps) (false ∷ xs) a =
    Contains-append_left (map (λ (ys : List Bool). false ∷ ys) (allowed_inputs ps))
    (map (λ (ys : List Bool). true ∷ ys) (allowed_inputs ps)) (false ∷ xs)
    (Contains-map (λ (ys : List Bool). false ∷ ys) (allowed_inputs ps) xs (allowed_listed ps xs a.1))
allowed_listed (Vary ∷ ps) (true ∷ xs) a =
    Contains-append_right (map (λ (ys : List Bool). false ∷ ys) (allowed_inputs ps))
    (map (λ (ys : List Bool). true ∷ ys) (allowed_inputs ps)) (true ∷ xs)
    (Contains-map (λ (ys : List Bool). true ∷ ys) (allowed_inputs ps) xs (allowed_listed ps xs a.1))

image_allowed : (q : Part) (b : Bool) (ps : List Part) (xs : List Bool) → Allows q b
    → IsImage (λ (ys : List Bool). b ∷ ys) (allowed_inputs ps) xs
    → ((ys : List Bool) → Contains (allowed_inputs ps) ys → AllowsAll ps ys) → AllowsAll (q ∷ ps) xs
image_allowed q b ps xs allowed r rest = subst (AllowsAll (q ∷ ps)) r.image (allowed, rest r.source r.listed)

listed_allowed : (ps : List Part) (xs : List Bool) → Contains (allowed_inputs ps) xs → AllowsAll ps xs
listed_allowed [] xs h = go (Contains-cases [] xs [] h)
  where
    go : ([] ≡ xs) ⊎ Contains [] xs → AllowsAll [] xs
    go (inl e) = subst (AllowsAll []) e tt
    go (inr none) = absurd (Contains-none xs none)
listed_allowed (Zero ∷ ps) xs h =
    image_allowed Zero false ps xs refl (image_of_map (λ (ys : List Bool). false ∷ ys) (allowed_inputs ps) xs h)
    (λ ys i. listed_allowed ps ys i)
listed_allowed (One ∷ ps) xs h =
    image_allowed One true ps xs refl (image_of_map (λ (ys : List Bool). true ∷ ys) (allowed_inputs ps) xs h)
    (λ ys i. listed_allowed ps ys i)
listed_allowed (Vary ∷ ps) xs h =
    go (Contains-append_cases (map (λ (ys : List Bool). false ∷ ys) (allowed_inputs ps)) (map (λ (ys : List Bool). true ∷ ys) (allowed_inputs ps)) xs h)
    (λ ys i. listed_allowed ps ys i)
  where
    go : Contains (map (λ (ys : List Bool). false ∷ ys) (allowed_inputs ps)) xs
        ⊎ Contains (map (λ (ys : List Bool). true ∷ ys) (allowed_inputs ps)) xs
        → ((ys : List Bool) → Contains (allowed_inputs ps) ys → AllowsAll ps ys) → AllowsAll (Vary ∷ ps) xs
    go (inl i) rest = image_allowed Vary false ps xs tt (image_of_map (λ (ys : List Bool). false ∷ ys) (allowed_inputs ps) xs i) rest
    go (inr i) rest = image_allowed Vary true ps xs tt (image_of_map (λ (ys : List Bool). true ∷ ys) (allowed_inputs ps) xs i) rest

-- the negation of a decided fact is decided
not_or : {A : Type 0} → A ⊎ (A → ⊥) → (A → ⊥) ⊎ ((A → ⊥) → ⊥)
not_or (inl a) = inr (λ n. n a)
not_or (inr n) = inl n

live_or_not : (kind : Kind) (ps : List Part) (place : ℕ) → IsLiveInput kind ps place ⊎ (IsLiveInput kind ps place → ⊥)
live_or_not kind ps place = go (vary_or_not (get_or ps place Zero))
    (some_or_none (λ xs. output_of kind (set xs place false) ≢ output_of kind (set xs place true)) (λ xs. not_or (same_or_not (output_of kind (set xs place false)) (output_of kind (set xs place true)))) (allowed_inputs ps))
  where
    go : (get_or ps place Zero ≡ Vary) ⊎ (get_or ps place Zero ≢ Vary)
        → HasMember (λ xs. output_of kind (set xs place false) ≢ output_of kind (set xs place true)) (allowed_inputs ps)
        ⊎ ((xs : List Bool) → Contains (allowed_inputs ps) xs → output_of kind (set xs place false) ≢ output_of kind (set xs place true) → ⊥)
        → IsLiveInput kind ps place ⊎ (IsLiveInput kind ps place → ⊥)
    go (inr n) other = inr (λ live. n live.varies)
    go (inl varies) (inr none) = inr (λ live. none live.inputs (allowed_listed ps live.inputs live.allowed) live.changes)
    go (inl varies) (inl s) =
        inl (record { varies = varies; inputs = s.member; allowed = listed_allowed ps s.member s.listed; changes = s.holds })

-- the part that is forced
pub record HasForced (kind : Kind) (ps : List Part) : Type 0 where
  pub part : Part
  pub forced : IsForced kind ps part

forces_or_not : (kind : Kind) (ps : List Part) (c : Bool) → Forces kind ps c ⊎ (Forces kind ps c → ⊥)
forces_or_not kind ps c =
    go (some_or_none (λ xs. output_of kind xs ≢ c) (λ xs. not_or (same_or_not (output_of kind xs) c)) (allowed_inputs ps))
  where
    settle : (xs : List Bool) → ((output_of kind xs ≢ c) → ⊥) → (output_of kind xs ≡ c) ⊎ (output_of kind xs ≢ c) → output_of kind xs ≡ c
    settle xs none (inl e) = e
    settle xs none (inr n) = absurd (none n)

    go : HasMember (λ xs. output_of kind xs ≢ c) (allowed_inputs ps)
        ⊎ ((xs : List Bool) → Contains (allowed_inputs ps) xs → output_of kind xs ≢ c → ⊥) → Forces kind ps c ⊎ (Forces kind ps c → ⊥)
    go (inl s) = inr (λ forces. s.holds (forces s.member (listed_allowed ps s.member s.listed)))
    go (inr none) = inl (λ xs allowed. settle xs (none xs (allowed_listed ps xs allowed)) (same_or_not (output_of kind xs) c))

pub forced_exists : (kind : Kind) (ps : List Part) → HasForced kind ps
forced_exists kind ps = go (forces_or_not kind ps false) (forces_or_not kind ps true)
  where
    go : Forces kind ps false ⊎ (Forces kind ps false → ⊥) → Forces kind ps true ⊎ (Forces kind ps true → ⊥) → HasForced kind ps
    go (inl f) other = record { part = Zero; forced = f }
    go (inr n) (inl f) = record { part = One; forced = f }
    go (inr n) (inr m) = record { part = Vary; forced = (n, m) }

-- a number below another has P, or none
pub record IsSomeBelow (P : ℕ → Type 0) (n : ℕ) : Type 0 where
  pub number : ℕ
  pub below : number < n
  pub holds : P number

some_below : (P : ℕ → Type 0) → ((k : ℕ) → P k ⊎ (P k → ⊥)) → (n : ℕ) → IsSomeBelow P n ⊎ ((k : ℕ) → k < n → P k → ⊥)
some_below P decide zero = inr (λ k below. absurd (omega arith))
some_below P decide (suc n) = go (decide n) (some_below P decide n)
  where
    go : P n ⊎ (P n → ⊥) → IsSomeBelow P n ⊎ ((k : ℕ) → k < n → P k → ⊥) → IsSomeBelow P (suc n) ⊎ ((k : ℕ) → k < suc n → P k → ⊥)
    go (inl p) rest = inl (record { number = n; below = omega arith; holds = p })
    go (inr m) (inl s) = inl (record { number = s.number; below = let e = s.below in omega arith; holds = s.holds })
    go (inr m) (inr none) = inr (λ k below p. last k below p (cases_eq k n))
      where
        last : (k : ℕ) → k < suc n → P k → (k ≡ n) ⊎ (k ≡ n → ⊥) → ⊥
        last k below p (inl e) = m (subst P e p)
        last k below p (inr apart) = none k (omega arith) p

-- what holds of a number where it holds of those of lower rank holds of all
pub by_measure : (rank : ℕ → ℕ) (P : ℕ → Type 0) → ((b : ℕ) → ((a : ℕ) → rank a < rank b → P a) → P b) → (b : ℕ) → P b
by_measure rank P step b = below (suc (rank b)) b (omega arith)
  where
    below : (n b : ℕ) → rank b < n → P b
    below zero b lt = absurd (omega arith)
    below (suc n) b lt = step b (λ a le. below n a (omega arith))

-- a step of a walk by a cell at a place
pub record IsStepAt (flat : Flat) (calm : Row) (leaf : ℕ) (cell : FlatCell) (place : ℕ) : Type 0 where
  pub live : IsLive calm cell place
  pub from : ℕ
  pub wired : get_or (wires_of cell) place (Const false) ≡ Bit from
  pub rest : Reaches flat calm leaf from

-- a step of a walk from a bit by a cell
pub record IsStepBy (flat : Flat) (calm : Row) (leaf bit : ℕ) (cell : FlatCell) : Type 0 where
  pub drives : cell.output ≡ bit
  pub at : IsSomeBelow (IsStepAt flat calm leaf cell) (length (wires_of cell))

place_below : (ws : List Wire) (place n : ℕ) → get_or ws place (Const false) ≡ Bit n → place < length ws
place_below ws place n e = go (cases_lt place (length ws))
  where
    go : (place < length ws) ⊎ (length ws ≤ place) → place < length ws
    go (inl below) = below
    go (inr past) = absurd (let f : get_or ws place (Const false) ≡ Const false = get_or_past ws place (Const false) past in cc)

reaches_or_not : (flat : Flat) (rank : ℕ → ℕ) (calm : Row) (leaf : ℕ) → IsRanked flat rank → (b : ℕ)
    → Reaches flat calm leaf b ⊎ (Reaches flat calm leaf b → ⊥)
reaches_or_not flat rank calm leaf ranked = by_measure rank (λ b. Reaches flat calm leaf b ⊎ (Reaches flat calm leaf b → ⊥)) step
  where
    at_place : (b : ℕ) → ((a : ℕ) → rank a < rank b → Reaches flat calm leaf a ⊎ (Reaches flat calm leaf a → ⊥)) → (c : FlatCell)
        → Contains flat.cells c → c.output ≡ b
        → (place : ℕ) → IsStepAt flat calm leaf c place ⊎ (IsStepAt flat calm leaf c place → ⊥)
    at_place b lower c listed drives place = wire (get_or (wires_of c) place (Const false)) refl
      where
        wire : (w : Wire) → get_or (wires_of c) place (Const false) ≡ w
            → IsStepAt flat calm leaf c place ⊎ (IsStepAt flat calm leaf c place → ⊥)
        wire (Const x) e = inr (λ s. let f = s.wired in cc)
        wire (Bit n) e =
            go (live_or_not c.kind (cell_parts calm c) place)
            (lower n (let f = ranked.cells c listed n (member_at (wires_of c) place n e) in let g : rank c.output ≡ rank b = ap rank drives in omega arith))
          where
            go : IsLive calm c place ⊎ (IsLive calm c place → ⊥) → Reaches flat calm leaf n ⊎ (Reaches flat calm leaf n → ⊥)
                → IsStepAt flat calm leaf c place ⊎ (IsStepAt flat calm leaf c place → ⊥)
            go (inr not_live) other = inr (λ s. not_live s.live)
            go (inl live) (inl walk) = inl (record { live = live; from = n; wired = e; rest = walk })
            go (inl live) (inr none) =
                inr (λ s. none (subst (Reaches flat calm leaf) (let f = s.wired in let g : s.from ≡ n = cc in g) s.rest))

    by_cell : (b : ℕ) → ((a : ℕ) → rank a < rank b → Reaches flat calm leaf a ⊎ (Reaches flat calm leaf a → ⊥)) → (c : FlatCell)
        → Contains flat.cells c
        → IsStepBy flat calm leaf b c ⊎ (IsStepBy flat calm leaf b c → ⊥)
    by_cell b lower c listed = go (cases_eq c.output b)
      where
        go : (c.output ≡ b) ⊎ (c.output ≡ b → ⊥) → IsStepBy flat calm leaf b c ⊎ (IsStepBy flat calm leaf b c → ⊥)
        go (inr apart) = inr (λ s. apart s.drives)
        go (inl drives) = found (some_below (IsStepAt flat calm leaf c) (at_place b lower c listed drives) (length (wires_of c)))
          where
            found : IsSomeBelow (IsStepAt flat calm leaf c) (length (wires_of c))
                ⊎ ((k : ℕ) → k < length (wires_of c) → IsStepAt flat calm leaf c k → ⊥)
                → IsStepBy flat calm leaf b c ⊎ (IsStepBy flat calm leaf b c → ⊥)
            found (inl s) = inl (record { drives = drives; at = s })
            found (inr none) = inr (λ s. none s.at.number s.at.below s.at.holds)

    at_leaf : (b : ℕ) → IsAtLeaf flat calm leaf b ⊎ (IsAtLeaf flat calm leaf b → ⊥)
    at_leaf b = go (cases_eq leaf b) (cell_bit_or_not flat leaf) (vary_or_not (calm leaf))
      where
        go : (leaf ≡ b) ⊎ (leaf ≡ b → ⊥) → IsCellBit flat leaf ⊎ (IsCellBit flat leaf → ⊥) → (calm leaf ≡ Vary) ⊎ (calm leaf ≢ Vary)
            → IsAtLeaf flat calm leaf b ⊎ (IsAtLeaf flat calm leaf b → ⊥)
        go (inr n) f g = inr (λ a. n a.same)
        go (inl e) (inl f) g = inr (λ a. a.no_cell f)
        go (inl e) (inr f) (inr n) = inr (λ a. n a.varies)
        go (inl e) (inr f) (inl v) = inl (record { same = e; no_cell = f; varies = v })

    step : (b : ℕ) → ((a : ℕ) → rank a < rank b → Reaches flat calm leaf a ⊎ (Reaches flat calm leaf a → ⊥))
        → Reaches flat calm leaf b ⊎ (Reaches flat calm leaf b → ⊥)
    step b lower = go (at_leaf b) (vary_or_not (calm b)) (some_member_or_none (IsStepBy flat calm leaf b) flat.cells (by_cell b lower))
      where
        step_by : (s : IsStep flat calm leaf b) → IsStepBy flat calm leaf b s.cell
        step_by s = record {
          drives = s.drives;
          at =
              record { number = s.place; below = place_below (wires_of s.cell) s.place s.from s.wired; holds = record { live = s.live; from = s.from; wired = s.wired; rest = s.rest } };
        }

        either : (IsAtLeaf flat calm leaf b → ⊥) → (IsStep flat calm leaf b → ⊥) → IsAtLeaf flat calm leaf b ⊎ IsStep flat calm leaf b → ⊥
        either no_leaf no_step (inl a) = no_leaf a
        either no_leaf no_step (inr s) = no_step s

        go : IsAtLeaf flat calm leaf b ⊎ (IsAtLeaf flat calm leaf b → ⊥) → (calm b ≡ Vary) ⊎ (calm b ≢ Vary)
            → HasMember (IsStepBy flat calm leaf b) flat.cells ⊎ ((c : FlatCell) → Contains flat.cells c → IsStepBy flat calm leaf b c → ⊥)
            → Reaches flat calm leaf b ⊎ (Reaches flat calm leaf b → ⊥)
        go (inl a) v s = inl (subst (Reaches flat calm leaf) a.same (here a.no_cell a.varies))
        go (inr no_leaf) (inr known) s = inr (λ walk. either no_leaf (λ t. known t.varies) (walk_cases flat calm leaf b walk))
        go (inr no_leaf) (inl varies) (inr none) =
            inr (λ walk. either no_leaf (λ t. none t.cell t.listed (step_by t)) (walk_cases flat calm leaf b walk))
        go (inr no_leaf) (inl varies) (inl s) = let t = s.holds.at in
            inl (through b s.member t.number t.holds.from s.listed s.holds.drives varies t.holds.live t.holds.wired t.holds.rest)

-- a reached leaf is a bit of the netlist
pub reached_below : (flat : Flat) (calm : Row) (leaf b : ℕ) → IsInRange flat → Reaches flat calm leaf b → b < flat.bits → leaf < flat.bits
reached_below flat calm leaf b range (here none varies) inside = inside
reached_below flat calm leaf b range (through bit c place from listed drives varies live wired rest) inside =
    reached_below flat calm leaf from range rest (range.inputs c listed (Bit from) (member_at (wires_of c) place from wired))

-- the leaves that each bit reaches
pub record HasReached (flat : Flat) (calm : Row) : Type 0 where
  pub reached : ℕ → List ℕ
  pub row : IsReachedRow flat calm reached

pub reached_exists : (flat : Flat) (rank : ℕ → ℕ) (calm : Row) → IsRanked flat rank → IsInRange flat → HasReached flat calm
reached_exists flat rank calm ranked range =
    record { reached = λ b. (lists b).listed; row = λ b inside. ((lists b).up, λ leaf. (there b leaf, back b inside leaf)) }
  where
    lists : (b : ℕ) → HasList (λ leaf. Reaches flat calm leaf b) 0 flat.bits
    lists b = list_of (λ leaf. Reaches flat calm leaf b) (λ leaf. reaches_or_not flat rank calm leaf ranked b) 0 flat.bits

    there : (b leaf : ℕ) → Contains (lists b).listed leaf → Reaches flat calm leaf b
    there b leaf h = ((lists b).sound leaf h).1

    back : (b : ℕ) → b < flat.bits → (leaf : ℕ) → Reaches flat calm leaf b → Contains (lists b).listed leaf
    back b inside leaf walk =
        (lists b).complete leaf (omega arith) (let e = reached_below flat calm leaf b range walk inside in omega arith) walk
