-- Signals that tell the choice of a gate, place by place.
use Rattle.std.specs.Prelude.{ℕ, zero, suc, Bool, true, false, not, cond, List, [], ◌∷◌, map, slice_set, Option, Some, None}
use Rattle.std.specs.Option.{option_or}
use Rattle.std.specs.Bool.{beq}
use Rattle.std.specs.List.{list_any, list_all}
use Rattle.coco_model.specs.Goals.{is_among}
use Rattle.circuit_clauses.specs.declared.signal.Signal.{Signal}
use Rattle.circuit_clauses.specs.declared.signal.Signal.TheVariants.{Constant, Literal}
use Rattle.circuit_clauses.specs.Signals.{negated}
use Rattle.clause_builds.specs.Builds.{Build, done, ◌>>=◌, through, fresh, demanded}
use Rattle.clause_builds.specs.Rows.{signal_at}
use Rattle.node_clauses.specs.Choices.{four_places, set_numbers, has_place}

abbrev pub is_literal : Signal → Bool
is_literal (Constant bit) = false
is_literal (Literal lit) = true

abbrev pub all_have : List ℕ → ℕ → Bool
all_have numbers place = list_all (has_place place) numbers

abbrev pub some_has : List ℕ → ℕ → Bool
some_has numbers place = list_any (has_place place) numbers

-- all numbers have one place exactly where they have another
abbrev pub are_alike : List ℕ → ℕ → ℕ → Bool
are_alike numbers p q = list_all (λ n. beq (has_place p n) (has_place q n)) numbers

-- all numbers have one place exactly where they lack another
abbrev pub are_opposite : List ℕ → ℕ → ℕ → Bool
are_opposite numbers p q = list_all (λ n. not (beq (has_place p n) (has_place q n))) numbers

-- what an earlier place with a variable tells of a place: the same, the opposite, or nothing
abbrev pub twin_at : List ℕ → List Signal → ℕ → ℕ → Option Signal
twin_at numbers selected place q =
    cond (is_literal (signal_at selected q))
    (cond (are_alike numbers place q) (Some (signal_at selected q))
    (cond (are_opposite numbers place q) (Some (negated (signal_at selected q))) None))
    None

-- of the earlier places the last one that tells of a place
abbrev pub twin_before : List ℕ → List Signal → ℕ → ℕ → Option Signal
twin_before numbers selected place zero = None
twin_before numbers selected place (suc q) =
    option_or (twin_at numbers selected place q) (twin_before numbers selected place q)

-- the signal of a place where it takes no variable of its own: all numbers have it, none has, or an earlier place tells
abbrev pub known_place : List ℕ → List Signal → ℕ → Option Signal
known_place numbers selected place =
    cond (some_has numbers place)
    (cond (all_have numbers place) (Some (Constant true)) (twin_before numbers selected place place))
    (Some (Constant false))

abbrev pub known_or_fresh : Option Signal → Build Signal
known_or_fresh None = fresh false
known_or_fresh (Some s) = done s

-- the signal of a place, where those before it are there
abbrev pub add_place : List ℕ → ℕ → List Signal → Build (List Signal)
add_place numbers place selected =
    known_or_fresh (known_place numbers selected place) >>= (λ s. done (slice_set selected place s))

-- what is true of a selection that differs from a number at a place
abbrev pub differs_at : List Signal → ℕ → ℕ → Signal
differs_at selected number place =
    cond (has_place place number) (negated (signal_at selected place)) (signal_at selected place)

-- that a selection is not a number
abbrev pub differs : List Signal → ℕ → Build (Unit {0})
differs selected number = demanded (map (differs_at selected number) four_places)

-- the same, unless the number is one of some
abbrev pub differs_unless : List ℕ → List Signal → ℕ → Unit {0} → Build (Unit {0})
differs_unless numbers selected number all = cond (is_among numbers number) (done tt) (differs selected number)

abbrev pub no_places : List Signal
no_places = Constant false ∷ Constant false ∷ Constant false ∷ Constant false ∷ []

-- the signals of all places
abbrev pub add_places : List ℕ → List Signal → Build (List Signal)
add_places numbers = through (add_place numbers) four_places

-- a selection is no number but some
abbrev pub others_differ : List ℕ → List Signal → Build (Unit {0})
others_differ numbers selected = through (differs_unless numbers selected) set_numbers tt

-- a selection that is one of some numbers: a signal for each place, and the demands that it is no other number
abbrev pub selectors : List ℕ → Build (List Signal)
selectors numbers =
    add_places numbers no_places >>= (λ (selected : List Signal). others_differ numbers selected >>= (λ all. done selected))
