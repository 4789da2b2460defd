-- Nodes of the tree, and that a refreshed node is led.
use Rattle.std.proofs.Common.{◌≡◌, ◌≢◌, ℕ, suc, zero, ◌+◌, ◌-◌, ◌*◌, ◌/◌, ◌<◌, ◌≤◌, true, false, ltb, List, length, get_or, Option, Some, None, IfSome, is_some, refl, sym, inl, inr, ◌⊎◌, arith}
use Rattle.std.proofs.Math.ListN.{set}
use Rattle.std.proofs.lemmas.List.{length-set, get_or-set_same, get_or-set_other}
use Rattle.std.proofs.lemmas.Grind.{common_steps}
use Rattle.std.proofs.lemmas.List.Elements.{All-set}
use Rattle.std.proofs.lemmas.Bool.{cases_eq, cases_lt}
use Rattle.std.specs.List.{All}
use Rattle.pickers.specs.Choices.{GoesFirst, Beats}
use Rattle.pickers.specs.Tree.{above, IsUnder, leader_of, AreLed, AreLedBut, IsRefreshed}

pub goes_first_itself : (numbers : List ℕ) (a : ℕ) → GoesFirst numbers a a
goes_first_itself numbers a = record { number = omega arith; tie = λ lt. absurd (omega arith) }

pub goes_first_trans : (numbers : List ℕ) (a b c : ℕ) → GoesFirst numbers a b → GoesFirst numbers b c → GoesFirst numbers a c
goes_first_trans numbers a b c p q =
    let one : get_or numbers b 0 ≤ get_or numbers a 0 = p.number in
    let two : get_or numbers c 0 ≤ get_or numbers b 0 = q.number in
    record {
      number = omega arith;
      tie = λ lt.
          elim (cases_lt c b) [
            | inl less ↦ let x : get_or numbers c 0 < get_or numbers b 0 = q.tie less in omega arith
            | inr more ↦ let x : get_or numbers b 0 < get_or numbers a 0 = p.tie (omega arith) in omega arith
          ];
    }

-- a node is not less than any above it
above_le : (levels node : ℕ) → above levels node ≤ node
above_le zero node = omega arith
above_le (suc levels) node = let h : above levels (node / 2) ≤ node / 2 = above_le levels (node / 2) in omega arith

pub under_le : (node top : ℕ) → IsUnder node top → top ≤ node
under_le node top u =
    let h : above u.levels node ≤ node = above_le u.levels node in
    let e : above u.levels node ≡ top = u.is_top in omega arith

pub under_itself : (node : ℕ) → IsUnder node node
under_itself node = record { levels = 0; is_top = refl }

-- a node under another one is that one or under one of the two below it
split_levels : (levels node top : ℕ) → above levels node ≡ top → 0 < top → (node ≡ top) ⊎ (IsUnder node (2 * top) ⊎ IsUnder node (2 * top + 1))
split_levels zero node top e pos = inl e
split_levels (suc zero) node top e pos =
    elim (cases_eq node (2 * top)) [
      | inl even ↦ inr (inl (record { levels = 0; is_top = even }))
      | inr odd ↦ inr (inr (record { levels = 0; is_top = omega arith }))
    ]
split_levels (suc (suc levels)) node top e pos =
    elim (split_levels (suc levels) (node / 2) top e pos) [
      | inl same ↦
          elim (cases_eq node (2 * top)) [
            | inl even ↦ inr (inl (record { levels = 0; is_top = even }))
            | inr odd ↦ inr (inr (record { levels = 0; is_top = omega arith }))
          ]
      | inr (inl u) ↦ inr (inl (record { levels = suc u.levels; is_top = u.is_top }))
      | inr (inr u) ↦ inr (inr (record { levels = suc u.levels; is_top = u.is_top }))
    ]

pub under_split : (node top : ℕ) → IsUnder node top → 0 < top → (node ≡ top) ⊎ (IsUnder node (2 * top) ⊎ IsUnder node (2 * top + 1))
under_split node top u pos = split_levels u.levels node top u.is_top pos

-- one level up, or the node itself
pub under_up : (node top : ℕ) → IsUnder node top → (node ≡ top) ⊎ IsUnder (node / 2) top
under_up node top u = up_levels u.levels u.is_top
  where
    up_levels : (levels : ℕ) → above levels node ≡ top → (node ≡ top) ⊎ IsUnder (node / 2) top
    up_levels zero e = inl e
    up_levels (suc levels) e = inr (record { levels = levels; is_top = e })

-- a leaf has nothing under it
pub leaf_alone : (n var node : ℕ) → var < n → n ≤ node → IsUnder (n + var) node → node ≡ n + var
leaf_alone n var node lt le u =
    elim (under_up (n + var) node u) [
      | inl same ↦ sym same
      | inr up ↦ let h : node ≤ (n + var) / 2 = under_le ((n + var) / 2) node up in absurd (omega arith)
    ]

-- every node is under the root
root_levels : (k node : ℕ) → node ≤ k → 0 < node → IsUnder node 1
root_levels zero node le pos = absurd (omega arith)
root_levels (suc k) node le pos =
    elim (cases_eq node 1) [
      | inl one ↦ record { levels = 0; is_top = one }
      | inr more ↦
          let u : IsUnder (node / 2) 1 = root_levels k (node / 2) (omega arith) (omega arith) in
          record { levels = suc u.levels; is_top = u.is_top }
    ]

pub under_root : (node : ℕ) → 0 < node → IsUnder node 1
under_root node pos = root_levels node node (omega arith) pos

pub leader-leaf : (leaders : List ℕ) (node : ℕ) → length leaders ≤ node → leader_of leaders node ≡ node - length leaders
leader-leaf leaders node le = let e : ltb node (length leaders) ≡ false = grind (arith, common_steps) in rw e refl

pub leader-inner : (leaders : List ℕ) (node : ℕ) → node < length leaders → leader_of leaders node ≡ get_or leaders node 0
leader-inner leaders node lt = let e : ltb node (length leaders) ≡ true = grind (arith, common_steps) in rw e refl

pub leader-set_same : (leaders : List ℕ) (node w : ℕ) → node < length leaders → leader_of (set leaders node w) node ≡ w
leader-set_same leaders node w lt =
    let n : length (set leaders node w) ≡ length leaders = length-set leaders node w in
    let e : leader_of (set leaders node w) node ≡ get_or (set leaders node w) node 0 = leader-inner (set leaders node w) node (omega arith) in
    grind (arith, common_steps)

pub leader-set_other : (leaders : List ℕ) (node w k : ℕ) → k ≢ node → leader_of (set leaders node w) k ≡ leader_of leaders k
leader-set_other leaders node w k ne =
    let n : length (set leaders node w) ≡ length leaders = length-set leaders node w in
    let g : get_or (set leaders node w) k 0 ≡ get_or leaders k 0 = grind (arith, common_steps) in
    rw (n, g) refl

pub beats_more : (numbers : List ℕ) (found : Option ℕ) (a b : ℕ) → Beats numbers found a → GoesFirst numbers a b → Beats numbers found b
beats_more numbers None a b h g = absurd h
beats_more numbers (Some u) a b h g = goes_first_trans numbers u a b h g

pub ahead_of_found : (numbers : List ℕ) (found : Option ℕ) (a b : ℕ) → IfSome found (λ u. GoesFirst numbers a u) → Beats numbers found b → GoesFirst numbers a b
ahead_of_found numbers None a b h g = absurd g
ahead_of_found numbers (Some u) a b h g = goes_first_trans numbers a u b h g

pub leads : (numbers leaders : List ℕ) (node best var : ℕ) → AreLed numbers leaders → best ≡ leader_of leaders node → 0 < node → var < length numbers → IsUnder (length numbers + var) node → GoesFirst numbers best var
leads numbers leaders node best var led e pos lt u = rw e (led node pos var lt u)

-- at a leaf the leader is the only variable under it
pub leader_alone : (leaders : List ℕ) (n node best var : ℕ) → length leaders ≡ n → best ≡ leader_of leaders node → n ≤ node → var < n → IsUnder (n + var) node → best ≡ var
leader_alone leaders n node best var same e le lt u =
    let leaf : node ≡ n + var = leaf_alone n var node lt le u in
    let l : leader_of leaders node ≡ node - length leaders = leader-leaf leaders node (omega arith) in
    omega arith

-- a refreshed node goes before all variables under it
pub refreshed_leads : (numbers old new : List ℕ) (node var : ℕ) → length old ≡ length numbers → 0 < node → node < length numbers → IsRefreshed numbers old new node → IsUnder (length numbers + var) node → ((k : ℕ) → node < k → IsUnder (length numbers + var) k → GoesFirst numbers (leader_of old k) var) → GoesFirst numbers (leader_of new node) var
refreshed_leads numbers old new node var same pos lt r u below =
    let written : new ≡ set old node r.leader = r.written in
    let in_old : node < length old = omega arith in
    let is : leader_of new node ≡ r.leader = rw written (leader-set_same old node r.leader in_old) in
    rw is (elim (under_split (length numbers + var) node u pos) [
      | inl itself ↦ absurd (omega arith)
      | inr (inl left) ↦ goes_first_trans numbers r.leader (leader_of old (2 * node)) var r.left (below (2 * node) (omega arith) left)
      | inr (inr right) ↦ goes_first_trans numbers r.leader (leader_of old (2 * node + 1)) var r.right (below (2 * node + 1) (omega arith) right)
    ])

pub refreshed_other : (numbers old new : List ℕ) (node k : ℕ) → IsRefreshed numbers old new node → k ≢ node → leader_of new k ≡ leader_of old k
refreshed_other numbers old new node k r ne =
    let written : new ≡ set old node r.leader = r.written in
    rw written (leader-set_other old node r.leader k ne)

-- refreshing keeps a led tree led
pub led_refreshed : (numbers old new : List ℕ) (node : ℕ) → length old ≡ length numbers → 0 < node → node < length numbers → IsRefreshed numbers old new node → AreLed numbers old → AreLed numbers new
led_refreshed numbers old new node same pos lt r led = λ k k_pos var var_lt u.
    elim (cases_eq k node) [
      | inl itself ↦
          rw itself (refreshed_leads numbers old new node var same pos lt r (rw (← itself) u) (λ j j_lt w. led j (omega arith) var var_lt w))
      | inr other ↦
          let e : leader_of new k ≡ leader_of old k = refreshed_other numbers old new node k r other in
          rw e (led k k_pos var var_lt u)
    ]

under_higher : (node k : ℕ) → IsUnder node k → k ≢ node → IsUnder (node / 2) k
under_higher node k u ne =
    elim (under_up node k u) [ inl same ↦ absurd (ne (sym same)) | inr up ↦ up ]

-- refreshing a node leaves only those above it
pub climbed : (numbers old new : List ℕ) (node : ℕ) → length old ≡ length numbers → 0 < node → node < length numbers → IsRefreshed numbers old new node → AreLedBut numbers old node → AreLedBut numbers new (node / 2)
climbed numbers old new node same pos lt r led = λ k var k_pos var_lt u.
    elim (cases_eq k node) [
      | inl itself ↦
          inl (rw itself (refreshed_leads numbers old new node var same pos lt r (rw (← itself) u)
          (λ j j_lt w. elim (led j var (omega arith) var_lt w) [
            | inl good ↦ good
            | inr up ↦ let h : j ≤ node = under_le node j up in absurd (omega arith)
          ])))
      | inr other ↦
          elim (led k var k_pos var_lt u) [
            | inl good ↦
                let e : leader_of new k ≡ leader_of old k = refreshed_other numbers old new node k r other in
                inl (rw e good)
            | inr up ↦ inr (under_higher node k up other)
          ]
    ]

pub climbed_all : (numbers leaders : List ℕ) (node : ℕ) → node ≤ 0 → AreLedBut numbers leaders node → AreLed numbers leaders
climbed_all numbers leaders node none led = λ k k_pos var var_lt u.
    elim (led k var k_pos var_lt u) [
      | inl good ↦ good
      | inr up ↦ let h : k ≤ node = under_le node k up in absurd (omega arith)
    ]

pub range_refreshed : (numbers old new : List ℕ) (node : ℕ) → length old ≡ length numbers → IsRefreshed numbers old new node → All (λ v. v < length old) old → All (λ v. v < length new) new
range_refreshed numbers old new node same r range =
    let written : new ≡ set old node r.leader = r.written in
    let n : length (set old node r.leader) ≡ length old = length-set old node r.leader in
    let in_old : r.leader < length old = let h : r.leader < length numbers = r.in_range in omega arith in
    let all : All (λ v. v < length old) (set old node r.leader) = All-set (λ v. v < length old) old node r.leader in_old range in
    rw written (λ k d k_lt. let g : get_or (set old node r.leader) k d < length old = all k d k_lt in omega arith)

-- what a change of one number keeps: a leader still goes before each variable but that one
pub raised_goes : (numbers : List ℕ) (var number leader other : ℕ) → var < length numbers → get_or numbers var 0 ≤ number → other ≢ var → GoesFirst numbers leader other → GoesFirst (set numbers var number) leader other
raised_goes numbers var number leader other lt le ne g =
    let same : get_or (set numbers var number) other 0 ≡ get_or numbers other 0 = get_or-set_other numbers var other number 0 ne in
    let first : get_or numbers other 0 ≤ get_or numbers leader 0 = g.number in
    let second : other < leader → get_or numbers other 0 < get_or numbers leader 0 = g.tie in
    elim (cases_eq leader var) [
      | inl itself ↦
          let at_var : get_or (set numbers var number) var 0 ≡ number = get_or-set_same numbers var number 0 lt in
          let new : get_or (set numbers var number) leader 0 ≡ number = rw itself at_var in
          let old : get_or numbers leader 0 ≡ get_or numbers var 0 = rw itself refl in
          record { number = omega arith; tie = λ l. omega arith }
      | inr not_it ↦
          let new : get_or (set numbers var number) leader 0 ≡ get_or numbers leader 0 = get_or-set_other numbers var leader number 0 not_it in
          record { number = omega arith; tie = λ l. omega arith }
    ]

-- after a variable's number rose, all nodes are led but those above its leaf
pub led_raised : (numbers leaders : List ℕ) (var number : ℕ) → length leaders ≡ length numbers → var < length numbers → get_or numbers var 0 ≤ number → AreLed numbers leaders → AreLedBut (set numbers var number) leaders ((length numbers + var) / 2)
led_raised numbers leaders var number same lt le led = λ node other pos other_lt u.
    let n : length (set numbers var number) ≡ length numbers = length-set numbers var number in
    let u' : IsUnder (length numbers + other) node = rw (← n) u in
    elim (cases_eq other var) [
      | inl itself ↦
          let here : IsUnder (length numbers + var) node = rw (← itself) u' in
          elim (under_up (length numbers + var) node here) [
            | inl leaf ↦
                let l : leader_of leaders node ≡ node - length leaders = leader-leaf leaders node (omega arith) in
                let e : leader_of leaders node ≡ other = omega arith in
                inl (rw e (goes_first_itself (set numbers var number) other))
            | inr up ↦ inr up
          ]
      | inr another ↦
          inl (raised_goes numbers var number (leader_of leaders node) other lt le another (led node pos other (omega arith) u'))
    ]

pub beats_some : (numbers : List ℕ) (found : Option ℕ) (v : ℕ) → Beats numbers found v → is_some found ≡ true
beats_some numbers None v h = absurd h
beats_some numbers (Some u) v h = refl
