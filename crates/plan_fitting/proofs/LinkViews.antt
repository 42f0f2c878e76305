-- A link view of a tree has a net for each bit, and what is fitted to it is fitting.
use Rattle.std.proofs.Common.{◌≡◌, ℕ, zero, suc, ◌+◌, List, [], ◌∷◌, map, length, slice_get, Option, Some, None, option_map, refl, sym, ap, ◌∙◌}
use Rattle.std.proofs.lemmas.List.{length-map}
use Rattle.list_laws.proofs.Lists.{AreAll-right, length-counted_from}
use Rattle.verilog_tree.specs.declared.tree.Module.{Module}
use Rattle.list_laws.proofs.Options.{some_same}
use Rattle.verilog_tree.specs.declared.tree.Port.{Port}
use Rattle.verilog_tree.specs.declared.tree.Range as tree
use Rattle.link_model.specs.Nets.{dir_of, width, counted_from}
use Rattle.link_model.specs.Denoted.{range_of, NamedPort, IsPort, ports_from, net_id}
use Rattle.netlist_model.specs.declared.NetId.{NetId}
use Rattle.netlist_model.specs.Formed.{width_of}
use Rattle.netlist_unlink.specs.netlist_link.Linked.{LinkedView}
use Rattle.netlist_unlink.specs.netlist_link.Links.{IsLinkOf}
use Rattle.netlist_unlink.specs.netlist_link.ViewLaws.{LinkViewIsNamed, LinkViewIsFormed}
use Rattle.plan_fitting.specs.FittingPlan.{HasWidths}
use Rattle.plan_fitting.specs.DevicesLaws.{FittedIsFitting}

same_width : (range : Option tree.Range) → width range ≡ width_of (option_map range_of range)
same_width None = refl
same_width (Some r) = refl

-- a port has a net for each bit
from_wide : (first : ℕ) (ports : List Port) (k : ℕ) (named : NamedPort) → slice_get (ports_from first ports) k ≡ Some named → length named.nets ≡ width_of named.range
from_wide first [] k named h = absurd (cc)
from_wide first (q ∷ ports) zero named h =
    let one : NamedPort = record { name = q.name; dir = dir_of q.dir; range = option_map range_of q.range; nets = map net_id (counted_from first (width q.range)) } in
    let same : one ≡ named = some_same one named (Some one) refl h in
    ap (λ (n : NamedPort). length n.nets) (sym same)
    ∙ length-map (counted_from first (width q.range)) net_id
    ∙ length-counted_from first (width q.range)
    ∙ same_width q.range
    ∙ ap (λ (n : NamedPort). width_of n.range) same
from_wide first (q ∷ ports) (suc k) named h = from_wide (first + width q.range) ports k named h

pub view_is_wide : (m : Module) (L : LinkedView) → IsLinkOf m L → HasWidths L.arena.lists
view_is_wide m L view number port there =
    let at = AreAll-right (IsPort L.names) L.arena.lists.ports (ports_from 0 m.ports) number port view.denoted.ports there in
    ap (λ (n : List NetId). length n) at.2.nets ∙ from_wide 0 m.ports number at.0 at.1 ∙ ap width_of (sym at.2.range)

pub fitted_is_fitting : LinkViewIsNamed → LinkViewIsFormed → FittedIsFitting
fitted_is_fitting named formed m L p f tree listed view spelled is = record {
  formed = formed m L tree listed view;
  wide = view_is_wide m L view;
  named = named m L tree listed view;
  spelled = spelled;
  are_seen = is.are_seen;
  faultless = is.faultless;
  straight = is.straight;
  ends = is.ends;
}
