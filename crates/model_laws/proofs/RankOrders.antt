-- The numbers of all cells by rank are an order of cells.
use Rattle.std.proofs.Common.{◌≡◌, ℕ, ◌⊎◌, inl, inr, List, [], ◌∷◌, sym, ◌∙◌, ap, subst, arith}
use Rattle.std.specs.Prelude.{Contains, slice_get, Some}
use Rattle.coco_base.specs.declared.netlist.Flat.{Flat}
use Rattle.coco_base.specs.declared.netlist.FlatCell.{FlatCell}
use Rattle.coco_base.specs.declared.netlist.Wire.TheVariants.{Bit}
use Rattle.coco_model.specs.Netlist.{wires_of, IsCellBit, IsRanked}
use Rattle.coco_model.specs.Events.{IsCellOrder}
use Rattle.coco_model.proofs.Basics.{Contains-here, Contains-later, Contains-cases, Contains-none, some_from_any}
use Rattle.model_laws.proofs.Lists.{place_of_member, member_of_place}
use Rattle.model_laws.specs.RunLaws.{AreByRank, RankOrderLaw}

-- a cell of an order drives a bit
record IsLater (flat : Flat) (order : List ℕ) (b : ℕ) : Type 0 where
  number : ℕ
  cell : FlatCell
  listed : Contains order number
  at : slice_get flat.cells number ≡ Some cell
  drives : cell.output ≡ b

module _ (flat : Flat) (rank : ℕ → ℕ) (ranked : IsRanked flat rank) where
  order_from : (done order : List ℕ) → AreByRank flat rank order
      → ((b : ℕ) → IsCellBit flat b → Contains done b ⊎ IsLater flat order b) → IsCellOrder flat done order
  order_from done [] by driven = λ b h. go b (driven b h)
    where
      go : (b : ℕ) → Contains done b ⊎ IsLater flat [] b → Contains done b
      go b (inl i) = i
      go b (inr l) = absurd (Contains-none l.number l.listed)
  order_from done (i ∷ is) (c, at, least, rest) driven = (c, at, reads, order_from (c.output ∷ done) is rest further)
    where
      listed : Contains flat.cells c
      listed = member_of_place flat.cells i c at

      -- a cell of the rest drives nothing that this one reads
      no_lower : (b : ℕ) → Contains (wires_of c) (Bit b) → (l : IsLater flat (i ∷ is) b) → (i ≡ l.number) ⊎ Contains is l.number → ⊥
      no_lower b read l (inl e) =
          let lower = ranked.cells c listed b read in
          let same : Some c ≡ Some l.cell = sym at ∙ ap (slice_get flat.cells) e ∙ l.at in
          let one : c ≡ l.cell = cc in
          let r : rank c.output ≡ rank b = ap (λ (d : FlatCell). rank d.output) one ∙ ap rank l.drives in
          omega arith
      no_lower b read l (inr later) =
          let lower = ranked.cells c listed b read in
          let r : rank l.cell.output ≡ rank b = ap rank l.drives in
          let le = least l.number l.cell later l.at in
          omega arith

      reads : (b : ℕ) → Contains (wires_of c) (Bit b) → IsCellBit flat b → Contains done b
      reads b read h = go (driven b h)
        where
          go : Contains done b ⊎ IsLater flat (i ∷ is) b → Contains done b
          go (inl j) = j
          go (inr l) = absurd (no_lower b read l (Contains-cases i l.number is l.listed))

      further : (b : ℕ) → IsCellBit flat b → Contains (c.output ∷ done) b ⊎ IsLater flat is b
      further b h = go (driven b h)
        where
          at_place : (l : IsLater flat (i ∷ is) b) → (i ≡ l.number) ⊎ Contains is l.number
              → Contains (c.output ∷ done) b ⊎ IsLater flat is b
          at_place l (inl e) =
              let same : Some c ≡ Some l.cell = sym at ∙ ap (slice_get flat.cells) e ∙ l.at in
              let one : c ≡ l.cell = cc in
              inl (subst (Contains (c.output ∷ done)) (ap (λ (d : FlatCell). d.output) one ∙ l.drives) (Contains-here c.output done))
          at_place l (inr later) =
              inr (record { number = l.number; cell = l.cell; listed = later; at = l.at; drives = l.drives })

          go : Contains done b ⊎ IsLater flat (i ∷ is) b → Contains (c.output ∷ done) b ⊎ IsLater flat is b
          go (inl j) = inl (Contains-later c.output b done j)
          go (inr l) = at_place l (Contains-cases i l.number is l.listed)

pub rank_order_law : RankOrderLaw
unfolding RankOrderLaw
rank_order_law flat rank ranked order by all = order_from flat rank ranked [] order by first
  where
    first : (b : ℕ) → IsCellBit flat b → Contains [] b ⊎ IsLater flat order b
    first b h =
        let s = some_from_any (λ (c : FlatCell). c.output ≡ b) flat.cells h in
        let p = place_of_member flat.cells s.member s.listed in
        inr (record { number = p.place; cell = s.member; listed = all p.place s.member p.at; at = p.at; drives = s.holds })
