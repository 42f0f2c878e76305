-- Pin lines name one list of bits.
-- IEEE Std 1364-2001: vectors, bit-selects; the statement is own.
use Rattle.std.specs.Prelude.{◌≡◌, List}
use Rattle.netlist_link.specs.Linked.{LinkedView}
use Rattle.netlist_link.specs.WellNamed.{IsWellNamed}
use Rattle.plan_texts.specs.declared.plan.PinLine.{PinLine}
use Rattle.plan_fitting.specs.Pins.{PinSeen, AreSeen}

-- own: in a netlist that is well named
abbrev pub PinsAreSeenOnce : Type 0
PinsAreSeenOnce = (L : LinkedView) (lines : List PinLine) (one other : List PinSeen) → IsWellNamed L.names L.arena.lists → AreSeen L lines one → AreSeen L lines other → one ≡ other
