-- A net is derived exactly where the netlist has a flip-flop or a marked inout in its cone.
use Rattle.std.proofs.Common.{◌≡◌, ℕ, inl, inr, ◌↔◌, Bool, true, false, List, length, map, Option, Some, None, refl, sym, subst, ap, ◌∙◌}
use Rattle.std.specs.Prelude.{slice_index_or}
use Rattle.std.specs.Option.{option_map}
use Rattle.std.proofs.lemmas.Option.{slice_get-map, get_or_from_slice_get}
use Rattle.std.proofs.lemmas.Bool.Decides.{leb_tells}
use Rattle.std.proofs.lemmas.List.{length-map, get_or_past}
use Rattle.list_laws.proofs.Lists.{slice_get_there}
use Rattle.cell_library.specs.Gates.{is_flop}
use Rattle.netlist_model.specs.declared.Dir.{Dir}
use Rattle.netlist_model.specs.declared.Dir.TheVariants.{Input, Output, Inout}
use Rattle.netlist_model.specs.Lists.{NetlistView}
use Rattle.cell_order.specs.Marks as marks
use Rattle.cell_order.specs.Marks.{HasInCone, IsMarked}
use Rattle.link_model.specs.Nets.{NamedNet}
use Rattle.link_model.specs.Cells.{NamedCell}
use Rattle.link_model.specs.Faults.{is_inout}
use Rattle.link_model.specs.Late.{IsKept, IsInoutNet, IsDerived}
use Rattle.link_model.specs.Denoted.{AreCells}
use Rattle.link_rules.specs.Cones.{is_inout_net}
use Rattle.link_rules.specs.Links.{is_found_net}
use Rattle.link_rules.proofs.ClocksCells.{Keeps, drives_live, drives_named}
use Rattle.link_rules.proofs.Cones.{cone-live, cone-named}

inout-is : (dir : Option Dir) → is_inout dir ≡ true → dir ≡ Some Inout
inout-is None e = absurd (cc)
inout-is (Some Input) e = absurd (cc)
inout-is (Some Output) e = absurd (cc)
inout-is (Some Inout) e = refl

-- the marks at first are those of inouts
inout-from : (nets : List NamedNet) (net : ℕ) → IsMarked (map is_inout_net nets) net → IsInoutNet nets net
inout-from nets net m = elim (leb_tells (length nets) net) [
  | inl past ↦ absurd (let no : false ≡ true = sym (get_or_past (map is_inout_net nets) net false (simp length-map past.1)) ∙ m in cc)
  | inr low ↦
      let there = slice_get_there nets net low.1 in
      let here : slice_index_or (map is_inout_net nets) net false ≡ is_inout_net there.0 =
      get_or_from_slice_get (map is_inout_net nets) net (is_inout_net there.0) false (slice_get-map is_inout_net nets net ∙ ap (option_map is_inout_net) there.1) in
      record { named = there.0; there = there.1; inout = inout-is there.0.dir (sym here ∙ m) }
]

inout-to : (nets : List NamedNet) (net : ℕ) → IsInoutNet nets net → IsMarked (map is_inout_net nets) net
inout-to nets net i =
    get_or_from_slice_get (map is_inout_net nets) net (is_inout_net i.named) false (slice_get-map is_inout_net nets net ∙ ap (option_map is_inout_net) i.there)
    ∙ ap is_inout i.inout

kept-named : (table : List (List ℕ)) (N : NetlistView) (cells : List NamedCell) (net : ℕ) → AreCells table N cells → Keeps N cells → marks.IsKept N net → IsKept cells net
kept-named table N cells net all keeps k =
    let d = drives_named table N cells k.number k.cell net all k.drives in
    record { number = k.number; cell = d.0; there = d.1.there; flop = keeps k.number d.0 d.1.there ∙ ap (is_flop N.library) (sym d.2.kind) ∙ k.flop; drives = d.1.output }

kept-live : (table : List (List ℕ)) (N : NetlistView) (cells : List NamedCell) (net : ℕ) → AreCells table N cells → Keeps N cells → IsKept cells net → marks.IsKept N net
kept-live table N cells net all keeps k =
    let d = drives_live table N cells k.number k.cell net all (record { there = k.there; output = k.drives }) in
    record { number = k.number; cell = d.0; flop = ap (is_flop N.library) d.2.kind ∙ sym (keeps k.number k.cell k.there) ∙ k.flop; drives = d.1 }

pub derived_iff : (table : List (List ℕ)) (N : NetlistView) (nets : List NamedNet) (cells : List NamedCell) → AreCells table N cells → Keeps N cells
    → (net : ℕ) → HasInCone N (map is_inout_net nets) net ↔ IsDerived nets cells net
derived_iff table N nets cells all keeps net = (
  λ h. record {
    net = h.source;
    cone = cone-named table N cells net h.source all keeps h.cone;
    sequential = elim h.is [ inl m ↦ inr (inout-from nets h.source m) | inr k ↦ inl (kept-named table N cells h.source all keeps k) ];
  },
  λ d. record {
    source = d.net;
    is = elim d.sequential [ inl k ↦ inr (kept-live table N cells d.net all keeps k) | inr i ↦ inl (inout-to nets d.net i) ];
    cone = cone-live table N cells net d.net all keeps d.cone;
  },
)

-- the same of what the pass leaves
pub derived_by : (table : List (List ℕ)) (N : NetlistView) (nets : List NamedNet) (cells : List NamedCell) (first new : List Bool) → AreCells table N cells → Keeps N cells → first ≡ map is_inout_net nets
    → ((net : ℕ) → IsMarked new net ↔ HasInCone N first net) → (net : ℕ) → (is_found_net new net ≡ true) ↔ IsDerived nets cells net
derived_by table N nets cells first new all keeps is says net =
    let iff = derived_iff table N nets cells all keeps net in (
      λ m. iff.0 (subst (λ (ms : List Bool). HasInCone N ms net) is ((says net).0 m)),
      λ d. (says net).1 (subst (λ (ms : List Bool). HasInCone N ms net) (sym is) (iff.1 d)),
    )
