-- The cone of a node is what the definition says, where the cones of the nodes before it are.
use Rattle.std.proofs.Common.{◌≡◌, ℕ, ◌+◌, ◌<◌, ◌⊎◌, ◌↔◌, inl, inr, true, false, List, [], ◌∷◌, length, get_or, refl, sym, ◌∙◌, ap, subst, arith, length-append}
use Rattle.std.proofs.lemmas.List.{get_or_append_left, get_or_push, length-map}
use Rattle.std.proofs.lemmas.Bool.{cases_order}
use Rattle.std.specs.List.Sorted.{IsStrictlyIncreasing}
use Rattle.coco_base.specs.LabelSets.{has}
use Rattle.coco_base.specs.declared.cell.Kind.{Kind}
use Rattle.coco_base.specs.declared.cell.Part.{Part}
use Rattle.coco_base.specs.declared.unrolled.Node.{Node}
use Rattle.coco_base.specs.declared.unrolled.Node.TheVariants.{Nothing, Label, Copy, Gate}
use Rattle.coco_model.specs.Cells.{input_places, IsLiveInput}
use Rattle.coco_model.specs.Cones.{AreCones, IsInCone}
use Rattle.coco_model.specs.Cones.IsInCone.{here, copied, through}
use Rattle.label_cone.specs.NodeCones.{AddsCone, AreConesTo, AreSets, IsNodeCone, ReadsEarlier, cone_at, cones_in, node_in}
use Rattle.label_cone.proofs.NodeLemmas.{part_of_input, place_below_four}
use Rattle.label_cone.proofs.SetLemmas.{label_of_one, one_of_label, member_of_has, has_of_member, cone_of_place}

-- a label is in the cone of an operand that is live
record IsThrough (nodes : ℕ → Node) (l : ℕ) (kind : Kind) (parts : List Part) (operands : List ℕ) : Type 0 where
  pub place : ℕ
  pub live : IsLiveInput kind (input_places kind parts) place
  pub rest : IsInCone nodes l (get_or operands place 0)

cone_of_nothing : (nodes : ℕ → Node) (l i : ℕ) → IsInCone nodes l i → nodes i ≡ Nothing → ⊥
cone_of_nothing nodes l i (here k is) at = let f : Nothing ≡ Label l = sym at ∙ is in cc
cone_of_nothing nodes l i (copied k j is rest) at = let f : Nothing ≡ Copy j = sym at ∙ is in cc
cone_of_nothing nodes l i (through k kind parts operands place is live rest) at =
    let f : Nothing ≡ Gate kind parts operands = sym at ∙ is in cc

cone_of_label : (nodes : ℕ → Node) (l i : ℕ) → IsInCone nodes l i → (m : ℕ) → nodes i ≡ Label m → m ≡ l
cone_of_label nodes l i (here k is) m at = let f : Label m ≡ Label l = sym at ∙ is in cc
cone_of_label nodes l i (copied k j is rest) m at = absurd (let f : Label m ≡ Copy j = sym at ∙ is in cc)
cone_of_label nodes l i (through k kind parts operands place is live rest) m at =
    absurd (let f : Label m ≡ Gate kind parts operands = sym at ∙ is in cc)

cone_of_copy : (nodes : ℕ → Node) (l i : ℕ) → IsInCone nodes l i → (j : ℕ) → nodes i ≡ Copy j → IsInCone nodes l j
cone_of_copy nodes l i (here k is) j at = absurd (let f : Copy j ≡ Label l = sym at ∙ is in cc)
cone_of_copy nodes l i (copied k h is rest) j at =
    let f : Copy j ≡ Copy h = sym at ∙ is in let e : h ≡ j = cc in subst (IsInCone nodes l) e rest
cone_of_copy nodes l i (through k kind parts operands place is live rest) j at =
    absurd (let f : Copy j ≡ Gate kind parts operands = sym at ∙ is in cc)

cone_of_gate : (nodes : ℕ → Node) (l i : ℕ) → IsInCone nodes l i → (kind : Kind) (parts : List Part) (operands : List ℕ)
    → nodes i ≡ Gate kind parts operands → IsThrough nodes l kind parts operands
cone_of_gate nodes l i (here k is) kind parts operands at =
    absurd (let f : Gate kind parts operands ≡ Label l = sym at ∙ is in cc)
cone_of_gate nodes l i (copied k j is rest) kind parts operands at =
    absurd (let f : Gate kind parts operands ≡ Copy j = sym at ∙ is in cc)
cone_of_gate nodes l i (through k other others reads place is live rest) kind parts operands at =
    let f : Gate other others reads ≡ Gate kind parts operands = sym is ∙ at in
    let kinds : other ≡ kind = cc in let same_parts : others ≡ parts = cc in let same_operands : reads ≡ operands = cc in
    record {
      place = place;
      live = subst (λ n. IsLiveInput n (input_places n parts) place) kinds
          (subst (λ ps. IsLiveInput other (input_places other ps) place) same_parts live);
      rest = subst (λ os. IsInCone nodes l (get_or os place 0)) same_operands rest;
    }

cone_is : (nodes : List Node) (i : ℕ) (old : List (List ℕ)) (cone : List ℕ) → AreConesTo nodes i old
    → ReadsEarlier i (node_in nodes i) → IsNodeCone old (node_in nodes i) cone
    → (l : ℕ) → (has cone l ≡ true) ↔ IsInCone (node_in nodes) l i
cone_is nodes i old cone known reads is l = go (node_in nodes i) refl reads is
  where
    go : (node : Node) → node_in nodes i ≡ node → ReadsEarlier i node → IsNodeCone old node cone
        → (has cone l ≡ true) ↔ IsInCone (node_in nodes) l i
    go Nothing e r c = (
      (λ h. absurd (let f : false ≡ true = ap (λ s. has s l) (sym c) ∙ h in cc)),
      (λ h. absurd (cone_of_nothing (node_in nodes) l i h e)),
    )
    go (Label m) e r c = (
      (λ h. here i (e ∙ ap Label (sym (label_of_one m l (ap (λ s. has s l) (sym c) ∙ h))))),
      (λ h. ap (λ s. has s l) c ∙ one_of_label m l (cone_of_label (node_in nodes) l i h m e)),
    )
    go (Copy j) e r c = (
      (λ h. copied i j e ((known.members j r l).0 (ap (λ s. has s l) (sym c) ∙ h))),
      (λ h. ap (λ s. has s l) c ∙ (known.members j r l).1 (cone_of_copy (node_in nodes) l i h j e)),
    )
    go (Gate kind parts operands) e r c = (to, back)
      where
        earlier : (place : ℕ) → IsLiveInput kind (input_places kind parts) place → get_or operands place 0 < i
        earlier place live = r place (part_of_input kind parts place live.varies)

        to : has cone l ≡ true → IsInCone (node_in nodes) l i
        to h = let o = (c l).0 h in
            through i kind parts operands o.place e o.live
            ((known.members (get_or operands o.place 0) (earlier o.place o.live) l).0 o.member)

        back : IsInCone (node_in nodes) l i → has cone l ≡ true
        back h = let t = cone_of_gate (node_in nodes) l i h kind parts operands e in
            (c l).1 (record {
              place = t.place;
              within = place_below_four kind parts t.place t.live.varies;
              live = t.live;
              member = (known.members (get_or operands t.place 0) (earlier t.place t.live) l).1 t.rest;
            })

pub cones_none : (nodes : List Node) → AreConesTo nodes 0 []
cones_none nodes = record { as_long = refl; members = λ i below l. absurd (omega arith) }

pub cones_more : (nodes : List Node) (count : ℕ) (old new : List (List ℕ)) → AreConesTo nodes count old
    → ReadsEarlier count (node_in nodes count) → AddsCone (node_in nodes count) old new → AreConesTo nodes (count + 1) new
cones_more nodes count old new known reads adds = record {
  as_long = ap length adds.added ∙ length-append old (adds.cone ∷ []) ∙ (let n = known.as_long in omega arith);
  members = λ i below l. by_place i l (cases_order i count) below;
}
  where
    by_place : (i l : ℕ) → (i ≡ count) ⊎ ((i < count) ⊎ (count < i)) → i < count + 1
        → (has (cone_at new i) l ≡ true) ↔ IsInCone (node_in nodes) l i
    by_place i l (inl e) below =
        let same : cone_at new i ≡ adds.cone = ap (λ cs. cone_at cs i) adds.added ∙ get_or_push old adds.cone [] i (known.as_long ∙ sym e) in
        subst (λ k. (has (cone_at new i) l ≡ true) ↔ IsInCone (node_in nodes) l k) (sym e)
        (subst (λ s. (has s l ≡ true) ↔ IsInCone (node_in nodes) l count) (sym same)
        (cone_is nodes count old adds.cone known reads adds.is_cone l))
    by_place i l (inr (inl lower)) below =
        let inside : i < length old = (let n = known.as_long in omega (arith, n, lower)) in
        let same : cone_at new i ≡ cone_at old i = ap (λ cs. cone_at cs i) adds.added ∙ get_or_append_left old (adds.cone ∷ []) [] i inside in
        subst (λ s. (has s l ≡ true) ↔ IsInCone (node_in nodes) l i) (sym same) (known.members i lower l)
    by_place i l (inr (inr higher)) below = absurd (omega (arith, below, higher))

-- as many cones as places
pub places_long : (nodes : List Node) (count : ℕ) (sets : List (List ℕ)) (places : List ℕ)
    → AreConesTo nodes count (cones_in sets places) → length places ≡ count
places_long nodes count sets places known = sym (length-map places (λ p. get_or sets p [])) ∙ known.as_long

-- all cones
pub cones_all : (nodes : List Node) (sets : List (List ℕ)) (places : List ℕ) → AreSets sets places
    → AreConesTo nodes (length nodes) (cones_in sets places) → AreCones nodes (cone_at (cones_in sets places))
cones_all nodes sets places s known = record {
  ascending = λ i below.
      let inside : i < length places = (let n = places_long nodes (length nodes) sets places known in omega (arith, n, below)) in
      subst IsStrictlyIncreasing (sym (cone_of_place sets places i inside)) (s.ascending (get_or places i 0) (s.within i inside));
  members = λ i below l. (
    (λ h. (known.members i below l).0 (has_of_member l (cone_at (cones_in sets places) i) h)),
    (λ h. member_of_has l (cone_at (cones_in sets places) i) ((known.members i below l).1 h)),
  );
}
