-- The words of a device's bits, in a netlist whose own ports have plain names.
-- IEEE Std 1364-2001: bit-selects; the annex of IEEE Std 1149.1-2001 on BSDL (logical port description).
-- The words are own.
use Rattle.std.specs.Prelude.{◌≡◌, ℕ, ◌==◌, ◌<◌, false, List, Option}
use Rattle.std.specs.Bool.{IsFalse}
use Rattle.std.specs.List.{AllByRecursion}
use Rattle.netlist_model.specs.declared.PinBit.{PinBit}
use Rattle.netlist_model.specs.Lists.{PortView}
use Rattle.netlist_model.specs.Formed.{width_of}
use Rattle.netlist_link.specs.Linked.{LinkedView, is_straight}
use Rattle.netlist_link.specs.PinWords.{IsPortNamed, IsPinWord, pin_at}
use Rattle.netlist_link.specs.WellNamed.{IsWellNamed}
use Rattle.wrapped_chip.specs.Cells.{bit_place}
use Rattle.plan_fitting.specs.Names.{HasOpenNames}
use Rattle.scan_programs.specs.Pins.{bit_word}

-- the name has no `[`
abbrev pub IsPlain : List ℕ → Type 0
IsPlain name = AllByRecursion (λ c. IsFalse (c == 91)) name

-- so have all ports but hidden ones
abbrev pub ArePlain : LinkedView → Type 0
ArePlain L = (number : ℕ) (port : PortView) (name : List ℕ) → is_straight L number ≡ false → IsPortNamed L.names L.arena.lists number port name → IsPlain name

-- what the word of a bit names is that bit alone
abbrev pub WordsNameBits : Type 0
WordsNameBits = (L : LinkedView) → IsWellNamed L.names L.arena.lists → ArePlain L → HasOpenNames L → (number : ℕ) (port : PortView) (name : List ℕ) → is_straight L number ≡ false
    → IsPortNamed L.names L.arena.lists number port name → (index : Option ℕ) → bit_place port.range index < width_of port.range
    → (pin : PinBit) → IsPinWord L.names L.arena.lists (bit_word name index) pin → pin ≡ pin_at number (bit_place port.range index)
