-- own: which nets are those of hidden bits, in a table.
use Rattle.std.specs.Prelude.{◌≡◌, ℕ, ◌<◌, Bool, true, false, List, [], ◌∷◌, map, length, slice_get, slice_index_or, slice_set}
use Rattle.std.specs.Option.{option_map_or}
use Rattle.netlist_model.specs.declared.NetId.{NetId}
use Rattle.netlist_model.specs.Lists.{PortView, NetlistView}
use Rattle.netlist_link.specs.Linked.{LinkedView}
use Rattle.plan_fitting.specs.Names.{is_hidden_net}

-- the nets of a port's bits
abbrev pub nets_of : PortView → List ℕ
nets_of port = map (λ (net : NetId). net.0) port.nets

abbrev pub nets_at : NetlistView → ℕ → List ℕ
nets_at N number = option_map_or nets_of (slice_get N.ports number) []

-- the table with these marked too
abbrev pub marked : List ℕ → List Bool → List Bool
marked [] marks = marks
marked (net ∷ nets) marks = marked nets (slice_set marks net true)

-- the nets of hidden bits are marked, and no others
pub record MarksHidden (L : LinkedView) (marks : List Bool) : Type 0 where
  pub long : length marks ≡ length L.arena.lists.nets
  pub each : (net : ℕ) → net < length L.arena.lists.nets → slice_index_or marks net false ≡ is_hidden_net L net
