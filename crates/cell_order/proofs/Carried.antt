-- Going along the order carries marks from what flip-flops drive to what hangs on it.
use Rattle.std.proofs.Common.{◌≡◌, ℕ, ◌+◌, ◌<◌, ◌≤◌, ◌⊎◌, inl, inr, ◌↔◌, Bool, true, false, List, length, arith, refl, sym, subst, ap, ◌∙◌}
use Rattle.std.proofs.lemmas.Bool.Decides.{eqb_tells}
use Rattle.std.proofs.lemmas.Option.{slice_get_within}
use Rattle.list_laws.proofs.Options.{is_there}
use Rattle.netlist_model.proofs.Search.{cell_at_once}
use Rattle.cell_library.specs.Gates.{is_flop}
use Rattle.netlist_model.specs.declared.CellId.{CellId}
use Rattle.netlist_model.specs.Lists.{CellView, NetlistView, cell_at}
use Rattle.netlist_model.specs.Cones.{GateReads, InCone, itself, behind}
use Rattle.netlist_model.specs.Orders.{StandsAt, IsCellOrder}
use Rattle.cell_order.specs.Marks.{AddsMarks, HasInCone, IsCarried, IsDrivenFrom, IsKept, IsMarked, ReadsMarked}
use Rattle.cell_order.proofs.Spread.{one_cell}

pub carried_start : (N : NetlistView) (order : List CellId) (roots : List Bool) → length roots ≡ length N.nets → IsCarried N order roots roots 0
carried_start N order roots long = record {
  long = long;
  sound = λ net m. record { source = net; is = inl m; cone = itself };
  roots_in = λ net m. m;
  carried = λ j v net low there d. absurd (omega (arith, low));
}

-- a cone begins one gate earlier
cone_before : (N : NetlistView) (net mid source : ℕ) → GateReads N net mid → InCone N mid source → InCone N net source
cone_before N net mid source g itself = behind itself g
cone_before N net mid source g (behind {net = before} c r) = behind (cone_before N net mid before g c) r

-- what a cell drives, of what it reads
driven_sound : (N : NetlistView) (roots inside : List Bool) (u net : ℕ) → ((other : ℕ) → IsMarked inside other → HasInCone N roots other) → IsDrivenFrom N inside u net → HasInCone N roots net
driven_sound N roots inside u net sound d = by (is_flop N.library d.cell.kind) refl d.why
  where
    by : (b : Bool) → is_flop N.library d.cell.kind ≡ b → (is_flop N.library d.cell.kind ≡ true) ⊎ ReadsMarked N inside u → HasInCone N roots net
    by true flop why = record { source = net; is = inr (record { number = u; cell = d.cell; flop = flop; drives = d.drives }); cone = itself }
    by false gate (inl flop) = absurd (let no : false ≡ true = sym gate ∙ flop in cc)
    by false gate (inr r) =
        let same : r.cell ≡ d.cell = cell_at_once N u u r.cell d.cell refl r.reads.live d.drives.live in
        let rest = sound r.net r.marked in
        record {
          source = rest.source;
          is = rest.is;
          cone = cone_before N net r.net rest.source (record {
            number = u;
            cell = r.cell;
            place = r.place;
            gate = ap (λ (x : CellView). is_flop N.library x.kind) same ∙ gate;
            drives = record { live = r.reads.live; output = ap (λ (x : CellView). x.output) same ∙ d.drives.output };
            reads = r.reads;
          }) rest.cone;
        }

-- one more cell of the order
pub carried_more : (N : NetlistView) (order : List CellId) (roots old new : List Bool) (i u : ℕ) → IsCellOrder N order → StandsAt order i u → IsCarried N order roots old i
    → AddsMarks (IsDrivenFrom N old u) old new → IsCarried N order roots new (i + 1)
carried_more N order roots old new i u ordered here s a = record {
  long = a.long ∙ s.long;
  sound = λ net m. elim (a.only net m) [ inl h ↦ s.sound net h | inr h ↦ driven_sound N roots old u net s.sound h ];
  roots_in = λ net m. a.kept net (s.roots_in net m);
  carried = λ j v net low there d. elim (eqb_tells j i) [
    | inl e ↦ let same : v ≡ u = one_cell order j i v u e.1 there here in
        a.added net (subst (λ x. IsDrivenFrom N old x net) same (as_old j v net (omega (arith, low)) there d))
    | inr e ↦ let apart = e.1 in a.kept net (s.carried j v net (omega (arith, low, apart)) there (as_old j v net (omega (arith, low)) there d))
  ];
}
  where
    -- what a gate up to here reads is none of the nets that are marked now
    reads_old : (j v : ℕ) → j < i + 1 → StandsAt order j v → (r : ReadsMarked N new v) → is_flop N.library r.cell.kind ≡ false → ReadsMarked N old v
    reads_old j v low there r gate = record {
      cell = r.cell;
      place = r.place;
      net = r.net;
      reads = r.reads;
      marked = elim (a.only r.net r.marked) [
        | inl h ↦ h
        | inr h ↦ absurd (
            let before = ordered.after j v u r.cell h.cell r.place r.net there gate r.reads h.drives in
            let same = ordered.once before.0 i u before.2 here in
            let less = before.1 in
            omega (arith, same, less, low))
      ];
    }

    as_old : (j v net : ℕ) → j < i + 1 → StandsAt order j v → IsDrivenFrom N new v net → IsDrivenFrom N old v net
    as_old j v net low there d = record { cell = d.cell; drives = d.drives; why = by (is_flop N.library d.cell.kind) refl d.why }
      where
        by : (b : Bool) → is_flop N.library d.cell.kind ≡ b → (is_flop N.library d.cell.kind ≡ true) ⊎ ReadsMarked N new v → (is_flop N.library d.cell.kind ≡ true) ⊎ ReadsMarked N old v
        by true flop why = inl flop
        by false gate (inl flop) = inl flop
        by false gate (inr r) =
            let same : r.cell ≡ d.cell = cell_at_once N v v r.cell d.cell refl r.reads.live d.drives.live in
            inr (reads_old j v low there r (ap (λ (x : CellView). is_flop N.library x.kind) same ∙ gate))

-- where the whole order is passed, a net is marked whose cone has a marked one
carried_back : (N : NetlistView) (order : List CellId) (roots inside : List Bool) (done : ℕ) → IsCellOrder N order → IsCarried N order roots inside done → length order ≤ done
    → (net source : ℕ) → InCone N net source → IsMarked inside source → IsMarked inside net
carried_back N order roots inside done ordered s all net source itself m = m
carried_back N order roots inside done ordered s all net source (behind {net = mid} c r) m =
    let at = ordered.each r.number (is_there (cell_at N r.number) r.cell r.drives.live) in
    let low = slice_get_within order at.0 (record { 0 = r.number }) at.1 in
    carried_back N order roots inside done ordered s all net mid c
    (s.carried at.0 r.number mid (omega (arith, low, all)) at.1 (record { cell = r.cell; drives = r.drives; why = inr (record { cell = r.cell; place = r.place; net = source; reads = r.reads; marked = m }) }))

pub carried_iff : (N : NetlistView) (order : List CellId) (roots inside : List Bool) (done : ℕ) → IsCellOrder N order → IsCarried N order roots inside done → length order ≤ done
    → (net : ℕ) → IsMarked inside net ↔ HasInCone N roots net
carried_iff N order roots inside done ordered s all net = (s.sound net, λ h. carried_back N order roots inside done ordered s all net h.source h.cone (source_in h.source h.is))
  where
    source_in : (source : ℕ) → IsMarked roots source ⊎ IsKept N source → IsMarked inside source
    source_in source (inl m) = s.roots_in source m
    source_in source (inr k) =
        let at = ordered.each k.number (is_there (cell_at N k.number) k.cell k.drives.live) in
        let low = slice_get_within order at.0 (record { 0 = k.number }) at.1 in
        s.carried at.0 k.number source (omega (arith, low, all)) at.1 (record { cell = k.cell; drives = k.drives; why = inl k.flop })
