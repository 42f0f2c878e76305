-- Netlists that differ in nothing but numbers without a cell have the same names.
use Rattle.std.proofs.Common.{◌≡◌, List, [], refl, ap, sym, ◌∙◌, inl, Some, None, arith}
use Rattle.std.specs.Prelude.{slice_get}
use Rattle.netlist_model.specs.declared.Name.{Name}
use Rattle.netlist_model.specs.Lists.{PortView, NetView, NetlistView, direction}
use Rattle.core_sides.specs.netlist_unlink.Prefixes.{IsUsed, port as used_port, net as used_net, cell as used_cell}
use Rattle.written_netlists.specs.Same.{IsSameNetlist, SameIsNamed}
use Rattle.written_netlists.proofs.Extended.{core_net, Extends, extended_named}

-- nothing is added
same_extends : (one other : NetlistView) → IsSameNetlist one other → Extends other one []
same_extends one other same = record {
  library = same.library;
  net_kept = λ net view at. ap (λ (ns : List NetView). slice_get ns net) same.nets ∙ at;
  nets = λ net view at. core_net (ap (λ (ns : List NetView). slice_get ns net) (sym same.nets) ∙ at);
  ports = λ p port at. inl (ap (λ (ps : List PortView). slice_get ps p) (sym same.ports) ∙ at);
  sides = λ net low. ap (λ (ps : List PortView). direction ps net) same.ports;
  cells = λ i cell at. inl (record { was = cell; live = sym (same.cells i) ∙ at; kind = refl; name = refl; output = λ some. some });
}

pub same_named : SameIsNamed
same_named table one other same well =
    extended_named table table other one [] well (record { once = well.once; spelled = well.spelled; longer = omega arith })
    (record { each = λ k name at. absurd (let no : None ≡ Some name = at in cc); apart = λ j k name at there. absurd (let no : None ≡ Some name = at in cc) })
    (same_extends one other same)

pub used_same : (one other : NetlistView) → IsSameNetlist one other → (name : Name) → IsUsed one name → IsUsed other name
used_same one other same _ (used_port p port at) = used_port p port (ap (λ (ps : List PortView). slice_get ps p) (sym same.ports) ∙ at)
used_same one other same _ (used_net net view at) = used_net net view (ap (λ (ns : List NetView). slice_get ns net) (sym same.nets) ∙ at)
used_same one other same _ (used_cell i cell name live is) = used_cell i cell name (sym (same.cells i) ∙ live) is
