-- Joined lists without repeats, in another order.
use Rattle.std.proofs.Common.{◌⊎◌, inl, inr, List, ◌++◌}
use Rattle.std.specs.Prelude.{Contains}
use Rattle.std.proofs.lemmas.List.Elements.{Contains-append_cases, Contains-append_left, Contains-append_right}
use Rattle.coco_model.specs.Netlist.{HasNoRepeat}
use Rattle.model_laws.proofs.Apart.{AreApart, apart_parts, no_repeat-append}

pub member_swap : {X : Type 0} (xs ys zs : List X) (x : X) → Contains ((xs ++ ys) ++ zs) x → Contains ((xs ++ zs) ++ ys) x
member_swap xs ys zs x h = go (Contains-append_cases (xs ++ ys) zs x h)
  where
    inner : Contains xs x ⊎ Contains ys x → Contains ((xs ++ zs) ++ ys) x
    inner (inl i) = Contains-append_left (xs ++ zs) ys x (Contains-append_left xs zs x i)
    inner (inr j) = Contains-append_right (xs ++ zs) ys x j

    go : Contains (xs ++ ys) x ⊎ Contains zs x → Contains ((xs ++ zs) ++ ys) x
    go (inl i) = inner (Contains-append_cases xs ys x i)
    go (inr j) = Contains-append_left (xs ++ zs) ys x (Contains-append_right xs zs x j)

pub no_repeat_swap : {X : Type 0} (xs ys zs : List X) → HasNoRepeat ((xs ++ ys) ++ zs) → HasNoRepeat ((xs ++ zs) ++ ys)
no_repeat_swap {X} xs ys zs h =
    let outer = apart_parts (xs ++ ys) zs h in
    let inner = apart_parts xs ys outer.left in
    no_repeat-append (xs ++ zs) ys (record {
      left = no_repeat-append xs zs (record {
        left = inner.left;
        right = outer.right;
        apart = λ x i j. outer.apart x (Contains-append_left xs ys x i) j;
      });
      right = inner.right;
      apart = λ x i j. go outer inner x j (Contains-append_cases xs zs x i);
    })
  where
    go : AreApart (xs ++ ys) zs → AreApart xs ys → (x : X) → Contains ys x → Contains xs x ⊎ Contains zs x → ⊥
    go outer inner x j (inl i) = inner.apart x i j
    go outer inner x j (inr i) = outer.apart x (Contains-append_right xs ys x j) i

-- the second of five lists moved behind the fourth
pub member_moved : {X : Type 0} (cs ps es qs ls : List X) (x : X) → Contains (cs ++ es ++ qs ++ ps ++ ls) x → Contains (cs ++ ps ++ es ++ qs ++ ls) x
member_moved {X} cs ps es qs ls x h = go (Contains-append_cases (cs ++ es ++ qs ++ ps) ls x h)
  where
    inner : Contains (cs ++ es ++ ps) x ⊎ Contains qs x → Contains (cs ++ ps ++ es ++ qs) x
    inner (inl i) = Contains-append_left (cs ++ ps ++ es) qs x (member_swap cs es ps x i)
    inner (inr j) = Contains-append_right (cs ++ ps ++ es) qs x j

    go : Contains (cs ++ es ++ qs ++ ps) x ⊎ Contains ls x → Contains (cs ++ ps ++ es ++ qs ++ ls) x
    go (inl i) = Contains-append_left (cs ++ ps ++ es ++ qs) ls x (inner (Contains-append_cases (cs ++ es ++ ps) qs x (member_swap (cs ++ es) qs ps x i)))
    go (inr j) = Contains-append_right (cs ++ ps ++ es ++ qs) ls x j

pub no_repeat_moved : {X : Type 0} (cs ps es qs ls : List X) → HasNoRepeat (cs ++ ps ++ es ++ qs ++ ls) → HasNoRepeat (cs ++ es ++ qs ++ ps ++ ls)
no_repeat_moved {X} cs ps es qs ls h =
    let outer : AreApart (cs ++ ps ++ es ++ qs) ls = apart_parts (cs ++ ps ++ es ++ qs) ls h in
    let inner : AreApart (cs ++ ps ++ es) qs = apart_parts (cs ++ ps ++ es) qs outer.left in
    let near : HasNoRepeat (cs ++ es ++ ps ++ qs) = no_repeat-append (cs ++ es ++ ps) qs (record {
      left = no_repeat_swap cs ps es inner.left;
      right = inner.right;
      apart = λ x i j. inner.apart x (member_swap cs es ps x i) j;
    }) in
    no_repeat-append (cs ++ es ++ qs ++ ps) ls (record {
      left = no_repeat_swap (cs ++ es) ps qs near;
      right = outer.right;
      apart = λ x i j. outer.apart x (back x i) j;
    })
  where
    inner_of : (x : X) → Contains (cs ++ es ++ ps) x ⊎ Contains qs x → Contains (cs ++ ps ++ es ++ qs) x
    inner_of x (inl i) = Contains-append_left (cs ++ ps ++ es) qs x (member_swap cs es ps x i)
    inner_of x (inr j) = Contains-append_right (cs ++ ps ++ es) qs x j

    back : (x : X) → Contains (cs ++ es ++ qs ++ ps) x → Contains (cs ++ ps ++ es ++ qs) x
    back x i = inner_of x (Contains-append_cases (cs ++ es ++ ps) qs x (member_swap (cs ++ es) qs ps x i))
