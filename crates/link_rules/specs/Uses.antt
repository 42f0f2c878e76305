-- How cells use a net: how many drive it, whether one of these is a three-state gate, and whether one reads it.
use Rattle.std.specs.Prelude.{ℕ, ◌+◌, ◌||◌, Bool, false, List, count_by, slice_index_or, if◌then◌else◌}
use Rattle.std.specs.List.{list_any}
use Rattle.cell_library.specs.Gates.{is_three_state}
use Rattle.netlist_model.specs.declared.Feed.{Feed}
use Rattle.link_model.specs.Cells.{NamedCell}
use Rattle.link_model.specs.Faults.{drives, feeds_from, is_driven_by_bufif, is_read}
use Rattle.link_rules.specs.declared.drivers.uses.NetUses.{NetUses}

-- own: no cell uses the net
abbrev pub unused : NetUses
unused = record { drivers = 0; by_bufif = false; read = false }

-- own: what the list has for a net
abbrev pub uses_at : List NetUses → ℕ → NetUses
uses_at uses net = slice_index_or uses net unused

-- own: how these cells use the net
abbrev pub uses_among : List NamedCell → ℕ → NetUses
uses_among cells net = record { drivers = count_by (drives net) cells; by_bufif = is_driven_by_bufif cells net; read = is_read cells net }

-- own: with one driver more
abbrev pub driven : Bool → NetUses → NetUses
driven bufif uses = record { drivers = uses.drivers + 1; by_bufif = uses.by_bufif || bufif; read = uses.read }

-- own: with the output of one cell more
abbrev pub with_output : ℕ → NamedCell → NetUses → NetUses
with_output net cell uses = if drives net cell then driven (is_three_state cell.kind) uses else uses

-- own: with the operands of one cell more
abbrev pub with_feeds : ℕ → List Feed → NetUses → NetUses
with_feeds net feeds uses = record { drivers = uses.drivers; by_bufif = uses.by_bufif; read = uses.read || list_any (feeds_from net) feeds }
