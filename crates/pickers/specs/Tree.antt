-- A tree over variables, in one list: node 1 is the root, the nodes under node k are 2 * k and 2 * k + 1, and with n
-- variables the nodes from n to 2 * n - 1 are its leaves, in the order of the variables. The list gives for each
-- node that is no leaf its leader, which goes before all variables under the node.
use Rattle.std.specs.Prelude.{◌≡◌, ℕ, suc, zero, ◌+◌, ◌-◌, ◌*◌, ◌/◌, ◌<◌, cond, nat_lt, ◌^◌, Bool, List, Option, length, slice_index, slice_set, All, ◌⊎◌}
use Rattle.pickers.specs.Choices.{IsOpen, GoesFirst, Beats}

-- the node some levels above a node
abbrev pub above : ℕ → ℕ → ℕ
above zero node = node
above (suc levels) node = above levels (node / 2)

-- the node is the top one or under it
pub record IsUnder (node top : ℕ) : Type 0 where
  pub levels : ℕ
  pub is_top : above levels node ≡ top

abbrev pub leader_of : List ℕ → ℕ → ℕ
leader_of leaders node = cond (nat_lt node (length leaders)) (slice_index leaders node) (node - length leaders)

-- a variable goes before all variables under a node
abbrev pub LeadsNode : List ℕ → ℕ → ℕ → Type 0
LeadsNode numbers node leader =
    (var : ℕ) → var < length numbers → IsUnder (length numbers + var) node → GoesFirst numbers leader var

abbrev pub AreLed : List ℕ → List ℕ → Type 0
AreLed numbers leaders = (node : ℕ) → 0 < node → LeadsNode numbers node (leader_of leaders node)

-- the same, but for the node `at` and those above it
abbrev pub AreLedBut : List ℕ → List ℕ → ℕ → Type 0
AreLedBut numbers leaders at =
    (node var : ℕ) → 0 < node → var < length numbers → IsUnder (length numbers + var) node
    → GoesFirst numbers (leader_of leaders node) var ⊎ IsUnder at node

-- what was found goes before all variables under a node that are unset and have a number
abbrev pub LeadsOpen : List ℕ → List Bool → ℕ → Option ℕ → Type 0
LeadsOpen numbers unset node found =
    (v : ℕ) → v < length numbers → IsUnder (length numbers + v) node → IsOpen unset v → 0 < slice_index numbers v → Beats numbers found v

-- the node has a new leader, which goes before those of the two nodes under it
pub record IsRefreshed (numbers old new : List ℕ) (node : ℕ) : Type 0 where
  pub leader : ℕ
  pub in_range : leader < length numbers
  pub written : new ≡ slice_set old node leader
  pub left : GoesFirst numbers leader (leader_of old (2 * node))
  pub right : GoesFirst numbers leader (leader_of old (2 * node + 1))

-- numbers by variable with the leaders of their tree
pub record IsRanking (numbers leaders : List ℕ) : Type 0 where
  pub small : length numbers < 2 ^ 32
  pub same : length leaders ≡ length numbers
  pub range : All (λ v. v < length leaders) leaders
  pub led : AreLed numbers leaders
