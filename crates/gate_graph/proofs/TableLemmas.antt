-- Filling the table of drivers, place by place.
use Rattle.std.proofs.Common.{◌≡◌, ◌≢◌, ℕ, zero, suc, ◌+◌, ◌<◌, ◌≤◌, ◌⊎◌, inl, inr, Bool, true, false, cond, nat_eq, List, [], ◌∷◌, ◌++◌, length, get_or, set, replicate, refl, sym, ◌∙◌, ap, subst, arith}
use Rattle.std.specs.Prelude.{All, Contains, Option, Some, None}
use Rattle.std.proofs.lemmas.Bool.{cases_Bool, cases_eq, eqb-true, eq-eqb}
use Rattle.std.proofs.lemmas.List.{append-nil, get_or-replicate, get_or-set_same, get_or-set_other, length-append, length-set, length-replicate}
use Rattle.std.proofs.lemmas.List.Elements.{All-contains}
use Rattle.coco_base.specs.declared.netlist.Flat.{Flat}
use Rattle.coco_model.proofs.Basics.{Contains-here, Contains-later}
use Rattle.gate_graph.specs.declared.driver.Driver.{Driver}
use Rattle.gate_graph.specs.declared.driver.Driver.TheVariants.{Nothing}
use Rattle.gate_graph.specs.declared.driver.Driving.{Driving}
use Rattle.gate_graph.specs.declared.fault.GraphFault.{GraphFault}
use Rattle.gate_graph.specs.declared.fault.GraphFault.TheVariants.{TwoDrivers, Loop, SecondClock, Memory}
use Rattle.gate_graph.specs.Drivers.{drivings, drivers_among, drivers_of, driver_name}
use Rattle.gate_graph.specs.Faults.{IsGraphFault}
use Rattle.gate_graph.specs.Tables.{IsDriving, first_driver, IsSecond, IsSecondIn, IsTable, IsBefore, IsTwoDriversFault}

pub cond_same : {X : Type 0} (a b : ℕ) (x y : X) → a ≡ b → cond (nat_eq a b) x y ≡ x
cond_same a b x y e = ap (λ t. cond t x y) (eq-eqb a b e)

pub cond_other : {X : Type 0} (a b : ℕ) (x y : X) → a ≢ b → cond (nat_eq a b) x y ≡ y
cond_other {X} a b x y n = go (cases_Bool (nat_eq a b))
  where
    go : (nat_eq a b ≡ true) ⊎ (nat_eq a b ≡ false) → cond (nat_eq a b) x y ≡ y
    go (inl e) = absurd (n (eqb-true a b e))
    go (inr e) = ap (λ t. cond t x y) e

among-append : (b : ℕ) (xs ys : List Driving) → drivers_among b (xs ++ ys) ≡ drivers_among b xs ++ drivers_among b ys
among-append b [] ys = refl
among-append b (x ∷ xs) ys =
    ap (λ ds. cond (nat_eq x.bit b) (x.driver ∷ ds) ds) (among-append b xs ys) ∙ go (nat_eq x.bit b) (drivers_among b xs) (drivers_among b ys)
  where
    go : (t : Bool) (ds es : List Driver) → cond t (x.driver ∷ (ds ++ es)) (ds ++ es) ≡ cond t (x.driver ∷ ds) ds ++ es
    go true ds es = refl
    go false ds es = refl

pub push_same : (b : ℕ) (xs : List Driving) (x : Driving) → x.bit ≡ b → drivers_among b (xs ++ x ∷ []) ≡ drivers_among b xs ++ x.driver ∷ []
push_same b xs x e = among-append b xs (x ∷ []) ∙ ap (λ ds. drivers_among b xs ++ ds) (cond_same x.bit b (x.driver ∷ []) [] e)

pub push_other : (b : ℕ) (xs : List Driving) (x : Driving) → x.bit ≢ b → drivers_among b (xs ++ x ∷ []) ≡ drivers_among b xs
push_other b xs x n =
    among-append b xs (x ∷ []) ∙ ap (λ ds. drivers_among b xs ++ ds) (cond_other x.bit b (x.driver ∷ []) [] n) ∙ append-nil (drivers_among b xs)

-- a driver among places has a place
pub record IsAmong (b : ℕ) (xs : List Driving) (d : Driver) : Type 0 where
  pub place : Driving
  pub listed : Contains xs place
  pub bit_is : place.bit ≡ b
  pub driver_is : place.driver ≡ d

pub first_among : (b : ℕ) (xs : List Driving) (d : Driver) (ds : List Driver) → drivers_among b xs ≡ d ∷ ds → IsAmong b xs d
first_among b [] d ds e = absurd cc
first_among b (x ∷ xs) d ds e = go (cases_eq x.bit b) (λ f. first_among b xs d ds f)
  where
    go : (x.bit ≡ b) ⊎ (x.bit ≢ b) → (drivers_among b xs ≡ d ∷ ds → IsAmong b xs d) → IsAmong b (x ∷ xs) d
    go (inl is) rest =
        let f : x.driver ∷ drivers_among b xs ≡ d ∷ ds = sym (cond_same x.bit b (x.driver ∷ drivers_among b xs) (drivers_among b xs) is) ∙ e in
        record { place = x; listed = Contains-here x xs; bit_is = is; driver_is = cc }
    go (inr n) rest =
        let r = rest (sym (cond_other x.bit b (x.driver ∷ drivers_among b xs) (drivers_among b xs) n) ∙ e) in
        record { place = r.place; listed = Contains-later x r.place xs r.listed; bit_is = r.bit_is; driver_is = r.driver_is }

-- places that drive have no driver that is nothing
nothing_among : (bits b : ℕ) (xs : List Driving) → All (IsDriving bits) xs → (ds : List Driver) → drivers_among b xs ≡ ds → first_driver ds ≡ Nothing → ds ≡ []
nothing_among bits b xs all [] e f = refl
nothing_among bits b xs all (d ∷ ds) e f =
    let m = first_among b xs d ds e in
    absurd ((All-contains (IsDriving bits) xs m.place all m.listed).some (m.driver_is ∙ f))

-- a list that has a first driver
record HasFirst (ds : List Driver) : Type 0 where
  first : Driver
  rest : List Driver
  is : ds ≡ first ∷ rest

has_first : (ds : List Driver) → first_driver ds ≢ Nothing → HasFirst ds
has_first [] n = absurd (n refl)
has_first (d ∷ ds) n = record { first = d; rest = ds; is = refl }

pub table_none : (n : ℕ) (drivers : List Driver) → drivers ≡ replicate n Nothing → IsTable [] drivers None
table_none n drivers e = record {
  each = λ b below. sym (ap (λ ds. get_or ds b Nothing) (sym e)) ∙ get_or-replicate n b Nothing Nothing (let l = ap length e ∙ length-replicate n Nothing in omega arith);
  second_is = λ b. omega arith;
}

-- a second driver stays, where no lower bit gets one
second_push : (ps : List Driving) (x s : Driving) → IsSecond ps s → ((b : ℕ) → b < s.bit → x.bit ≡ b → drivers_among b ps ≡ [])
    → IsSecond (ps ++ x ∷ []) s
second_push ps x s is new = go (cases_eq x.bit s.bit)
  where
    least : (b : ℕ) → b < s.bit → length (drivers_among b (ps ++ x ∷ [])) ≤ 1
    least b below = by (cases_eq x.bit b)
      where
        by : (x.bit ≡ b) ⊎ (x.bit ≢ b) → length (drivers_among b (ps ++ x ∷ [])) ≤ 1
        by (inl e) = let l = ap length (push_same b ps x e ∙ ap (λ ds. ds ++ x.driver ∷ []) (new b below e)) in omega arith
        by (inr n) = let l = ap length (push_other b ps x n) in let m = is.least b below in omega arith

    go : (x.bit ≡ s.bit) ⊎ (x.bit ≢ s.bit) → IsSecond (ps ++ x ∷ []) s
    go (inl e) = record {
      first = is.first;
      rest = is.rest ++ x.driver ∷ [];
      drivers = push_same s.bit ps x e ∙ ap (λ ds. ds ++ x.driver ∷ []) is.drivers;
      least = least;
    }
    go (inr n) = record { first = is.first; rest = is.rest; drivers = push_other s.bit ps x n ∙ is.drivers; least = least }

-- a bit gets its first driver
pub table_first : (bits : ℕ) (ps : List Driving) (drivers : List Driver) (second : Option Driving) (x : Driving) → length drivers ≡ bits
    → All (IsDriving bits) ps → IsDriving bits x → IsTable ps drivers second → get_or drivers x.bit Nothing ≡ Nothing
    → IsTable (ps ++ x ∷ []) (set drivers x.bit x.driver) second
table_first bits ps drivers second x long all driving table open_at = record {
  each = λ b below. each b (let l = length-set drivers x.bit x.driver in omega arith) (cases_eq x.bit b);
  second_is = seconds second table.second_is;
}
  where
    inside : x.bit < length drivers
    inside = let d = driving.below in omega arith

    none : drivers_among x.bit ps ≡ []
    none = nothing_among bits x.bit ps all (drivers_among x.bit ps) refl (sym (table.each x.bit inside) ∙ open_at)

    none_at : (b : ℕ) → x.bit ≡ b → drivers_among b ps ≡ []
    none_at b e = subst (λ n. drivers_among n ps ≡ []) e none

    only : (b : ℕ) → x.bit ≡ b → drivers_among b (ps ++ x ∷ []) ≡ x.driver ∷ []
    only b e = push_same b ps x e ∙ ap (λ ds. ds ++ x.driver ∷ []) (none_at b e)

    each : (b : ℕ) → b < length drivers → (x.bit ≡ b) ⊎ (x.bit ≢ b)
        → get_or (set drivers x.bit x.driver) b Nothing ≡ first_driver (drivers_among b (ps ++ x ∷ []))
    each b below (inl e) =
        ap (λ n. get_or (set drivers x.bit x.driver) n Nothing) (sym e) ∙ get_or-set_same drivers x.bit x.driver Nothing inside ∙ sym (ap first_driver (only b e))
    each b below (inr n) =
        get_or-set_other drivers x.bit b x.driver Nothing (λ e. n (sym e)) ∙ table.each b below ∙ sym (ap first_driver (push_other b ps x n))

    at_most : ((b : ℕ) → length (drivers_among b ps) ≤ 1) → (b : ℕ) → (x.bit ≡ b) ⊎ (x.bit ≢ b) → length (drivers_among b (ps ++ x ∷ [])) ≤ 1
    at_most old b (inl e) = let l = ap length (only b e) in omega arith
    at_most old b (inr n) = let l = ap length (push_other b ps x n) in let m = old b in omega arith

    seconds : (second : Option Driving) → IsSecondIn ps second → IsSecondIn (ps ++ x ∷ []) second
    seconds None old = λ b. at_most old b (cases_eq x.bit b)
    seconds (Some s) old = second_push ps x s old (λ b below e. none_at b e)

-- what holds where a bit has a driver already
record HasTaken (ps : List Driving) (drivers : List Driver) (x : Driving) : Type 0 where
  taken : HasFirst (drivers_among x.bit ps)
  each : (b : ℕ) → b < length drivers → get_or drivers b Nothing ≡ first_driver (drivers_among b (ps ++ x ∷ []))

has_taken : (bits : ℕ) (ps : List Driving) (drivers : List Driver) (second : Option Driving) (x : Driving) → length drivers ≡ bits
    → IsDriving bits x → IsTable ps drivers second → get_or drivers x.bit Nothing ≢ Nothing → HasTaken ps drivers x
has_taken bits ps drivers second x long driving table is_taken = record {
  taken = had;
  each = λ b below. table.each b below ∙ kept b (cases_eq x.bit b);
}
  where
    had : HasFirst (drivers_among x.bit ps)
    had = has_first (drivers_among x.bit ps) (λ e. is_taken (table.each x.bit (let d = driving.below in omega arith) ∙ e))

    first_kept : (ds : List Driver) → HasFirst ds → first_driver ds ≡ first_driver (ds ++ x.driver ∷ [])
    first_kept ds h = ap first_driver h.is ∙ sym (ap (λ es. first_driver (es ++ x.driver ∷ [])) h.is)

    kept : (b : ℕ) → (x.bit ≡ b) ⊎ (x.bit ≢ b) → first_driver (drivers_among b ps) ≡ first_driver (drivers_among b (ps ++ x ∷ []))
    kept b (inl e) =
        first_kept (drivers_among b ps) (subst (λ n. HasFirst (drivers_among n ps)) e had) ∙ sym (ap first_driver (push_same b ps x e))
    kept b (inr n) = sym (ap first_driver (push_other b ps x n))

at_most_one : (ps : List Driving) (second : Option Driving) (bit : ℕ) → IsSecondIn ps second → IsBefore bit second → (b : ℕ) → b ≤ bit
    → length (drivers_among b ps) ≤ 1
at_most_one ps None bit is before b le = is b
at_most_one ps (Some s) bit is before b le = is.least b (omega arith)

-- the least bit so far gets its second driver
pub table_second : (bits : ℕ) (ps : List Driving) (drivers : List Driver) (second : Option Driving) (x : Driving) → length drivers ≡ bits
    → IsDriving bits x → IsTable ps drivers second → get_or drivers x.bit Nothing ≢ Nothing → IsBefore x.bit second
    → IsTable (ps ++ x ∷ []) drivers (Some x)
table_second bits ps drivers second x long driving table is_taken before =
    let had = has_taken bits ps drivers second x long driving table is_taken in
    let one = at_most_one ps second x.bit table.second_is before x.bit (omega arith) in
    record {
      each = had.each;
      second_is = record {
        first = had.taken.first;
        rest = [];
        drivers = push_same x.bit ps x refl ∙ ap (λ ds. ds ++ x.driver ∷ []) (alone had.taken one);
        least = λ b below.
            let l = ap length (push_other b ps x (λ e. omega arith)) in
            let m = at_most_one ps second x.bit table.second_is before b (omega arith) in omega arith;
      };
    }
  where
    no_rest : (rest : List Driver) → length rest ≤ 0 → rest ≡ []
    no_rest [] h = refl
    no_rest (d ∷ ds) h = absurd (omega arith)

    alone : (h : HasFirst (drivers_among x.bit ps)) → length (drivers_among x.bit ps) ≤ 1 → drivers_among x.bit ps ≡ h.first ∷ []
    alone h one = h.is ∙ ap (λ ds. h.first ∷ ds) (no_rest h.rest (let l = ap length h.is in omega arith))

-- a bit that is not below the one with a second driver gets another driver
pub table_later : (bits : ℕ) (ps : List Driving) (drivers : List Driver) (second : Option Driving) (x : Driving) → length drivers ≡ bits
    → IsDriving bits x → IsTable ps drivers second → get_or drivers x.bit Nothing ≢ Nothing → (IsBefore x.bit second → ⊥)
    → IsTable (ps ++ x ∷ []) drivers second
table_later bits ps drivers second x long driving table is_taken after =
    let had = has_taken bits ps drivers second x long driving table is_taken in
    record { each = had.each; second_is = seconds second table.second_is after }
  where
    seconds : (second : Option Driving) → IsSecondIn ps second → (IsBefore x.bit second → ⊥) → IsSecondIn (ps ++ x ∷ []) second
    seconds None old after = absurd (after tt)
    seconds (Some s) old after = second_push ps x s old (λ b below e. absurd (after (omega arith)))

-- the bit with a second driver is one of the bits
pub second_below : (bits : ℕ) (ps : List Driving) (s : Driving) → All (IsDriving bits) ps → IsSecond ps s → s.bit < bits
second_below bits ps s all is =
    let m = first_among s.bit ps is.first (s.driver ∷ is.rest) is.drivers in
    subst (λ b. b < bits) m.bit_is (All-contains (IsDriving bits) ps m.place all m.listed).below

-- the fault of a bit with two drivers
pub two_drivers_fault : (flat : Flat) (first : Driver) (s : Driving) (fault : GraphFault) → IsTwoDriversFault flat first s fault → IsSecond (drivings flat) s
    → first ≡ first_driver (drivers_of flat s.bit) → IsGraphFault flat fault
two_drivers_fault flat first s (TwoDrivers bit one other) named is e = record {
  bit = s.bit;
  one = is.first;
  other = s.driver;
  twice = record { rest = is.rest; drivers = is.drivers; least = is.least };
  bit_name = named.0;
  first_name = named.1 ∙ ap (driver_name flat) (e ∙ ap first_driver is.drivers);
  second_name = named.2;
}
two_drivers_fault flat first s (Loop cells) named is e = absurd named
two_drivers_fault flat first s (SecondClock cell) named is e = absurd named
two_drivers_fault flat first s Memory named is e = absurd named
