-- When the word of a hidden bit names it.
-- IEEE Std 1364-2001: bit-selects; the words are own.
use Rattle.std.specs.Prelude.{◌≡◌, ◌≢◌, ℕ, ◌<◌, true, false, List, [], ◌∷◌, ◌++◌, slice_get, Some}
use Rattle.netlist_model.specs.declared.Range.{Range}
use Rattle.netlist_model.specs.Lists.{PortView}
use Rattle.netlist_model.specs.Formed.{IsLaidOut, width_of}
use Rattle.link_model.specs.Denoted.{name_bytes}
use Rattle.netlist_link.specs.Linked.{LinkedView, is_straight}
use Rattle.netlist_link.specs.PinWords.{IsPortNamed, IsScalarWord}
use Rattle.netlist_link.specs.WellNamed.{IsWellNamed, index_from}
use Rattle.default_starts.specs.Starts.{bit_word}

-- no other scalar port has the word of a hidden vector's bit as its name
pub record HasHiddenWords (L : LinkedView) : Type 0 where
  pub named : IsWellNamed L.names L.arena.lists
  pub laid : IsLaidOut L.arena.lists
  pub clear : (number other bit index : ℕ) (port : PortView) (name : List ℕ) (range : Range) → is_straight L number ≡ true → is_straight L other ≡ false
      → IsPortNamed L.names L.arena.lists number port name → port.range ≡ Some range → bit < width_of (Some range) → index_from (Some range) bit ≡ Some index
      → IsScalarWord L.names L.arena.lists (bit_word name (Some index)) other → ⊥
  -- no hidden port's name ends with `]`
  pub open_names : (number : ℕ) (port : PortView) (front : List ℕ) → is_straight L number ≡ true → slice_get L.arena.lists.ports number ≡ Some port
      → name_bytes L.names port.name ≢ Some (front ++ 93 ∷ [])
