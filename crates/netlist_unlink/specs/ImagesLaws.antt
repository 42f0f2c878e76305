-- The netlist that a written tree denotes is the one that was written, with its nets and cells numbered anew.
-- IEEE Std 1364-2001: modules and ports, module instances; the numbers are own.
use Rattle.std.specs.Prelude.{◌≡◌, ℕ, zero, suc, ltb, List, [], ◌∷◌, length, Option, Some, None, IsSome, if◌then◌else◌}
use Rattle.verilog_tree.specs.declared.tree.Module.{Module}
use Rattle.netlist_model.specs.Lists.{CellView, NetlistView, cell_at}
use Rattle.netlist_model.specs.Formed.{IsLaidOut}
use Rattle.netlist_model.specs.Contained.{IsDense}
use Rattle.link_model.specs.Denoted.{IsNamed, denoted}
use Rattle.netlist_link.specs.Linked.{LinkedView}
use Rattle.netlist_link.specs.Links.{IsLinkOf}
use Rattle.netlist_unlink.specs.Trees.{Naming}
use Rattle.netlist_unlink.specs.Renumbered.{net_order, place_of, IsWritten, IsWrittenAs}
use Rattle.netlist_model.specs.Renumbered.{IsRenumbering}

-- own: the new number of a net of the list; other numbers stay
abbrev pub new_number : NetlistView → ℕ → ℕ
new_number N net = if ltb net (length N.nets) then place_of (net_order N) net else net

-- own: how many live cells stand before this number
abbrev pub new_place : List (Option CellView) → ℕ → ℕ
new_place [] number = 0
new_place (place ∷ places) zero = 0
new_place (None ∷ places) (suc number) = new_place places number
new_place (Some cell ∷ places) (suc number) = suc (new_place places number)

-- own: any netlist that the written tree denotes with the same library, with any table of names
abbrev pub DenotedIsRenumbered : Type 0
DenotedIsRenumbered = (naming : Naming) (N M : NetlistView) (tree : Module) (table : List (List ℕ)) → IsLaidOut N → IsWritten naming N tree
    → M.library ≡ N.library → IsNamed table M (denoted N.library tree)
    → IsRenumbering N M (new_number N) (new_place N.cells)

-- own: so it is of what the written tree links as with the same library
abbrev pub WrittenIsRenumbered : Type 0
WrittenIsRenumbered = (linked written : LinkedView) (prefix : List ℕ) (tree : Module) → IsLaidOut linked.arena.lists → IsWrittenAs linked prefix tree
    → written.arena.lists.library ≡ linked.arena.lists.library → IsLinkOf tree written
    → IsRenumbering linked.arena.lists written.arena.lists (new_number linked.arena.lists) (new_place linked.arena.lists.cells)

-- own: without gaps, cells keep their numbers
abbrev pub DenseKeepsPlaces : Type 0
DenseKeepsPlaces = (N : NetlistView) → IsDense N → (i : ℕ) → IsSome (cell_at N i) → new_place N.cells i ≡ i
