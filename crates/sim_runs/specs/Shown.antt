-- The bits whose readings are told, and how they are named.
-- IEEE Std 1364-2001: vectors, bit-selects; which bits are told is own.
use Rattle.std.specs.Prelude.{ℕ, List, [], slice_get, Option, Some, None, unwrap_or}
use Rattle.netlist_model.specs.Lists.{NetView}
use Rattle.link_model.specs.Denoted.{name_bytes}
use Rattle.netlist_link.specs.Linked.{LinkedView}
use Rattle.output_lines.specs.Lines.{bit_text}
pub use Rattle.event_sim.specs.Shown.{shown_of, shown_nets}

-- the name of a net's port or wire, with its index in brackets where that has a range
abbrev pub label_of : List (List ℕ) → Option NetView → List ℕ
label_of names None = []
label_of names (Some view) = bit_text (unwrap_or (name_bytes names view.name) []) view.index

-- own: the name of a net's bit
abbrev pub label : LinkedView → ℕ → List ℕ
label L net = label_of L.names (slice_get L.arena.lists.nets net)
