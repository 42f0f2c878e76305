-- What starts of hidden bits change of the rules on event lines. Own.
use Rattle.std.specs.Prelude.{◌≡◌, ◌↔◌, ℕ, ◌+◌, ◌<◌, true, List, length, slice_get, Some}
use Rattle.netlist_model.specs.declared.PinBit.{PinBit}
use Rattle.netlist_model.specs.Formed.{IsLaidOut}
use Rattle.netlist_link.specs.Linked.{LinkedView, is_straight}
use Rattle.netlist_link.specs.WellNamed.{IsWellNamed}
use Rattle.scan_vectors.specs.declared.lines.Act.TheVariants.{Start}
use Rattle.scan_vectors.specs.declared.lines.Line.{Line}
use Rattle.scan_vectors.specs.declared.lines.Lines.{Lines}
use Rattle.scan_vectors.specs.Grammar.{act_of, pin_of}
use Rattle.scan_vectors.specs.Pins.{Names, TakesValue, HasStart}
use Rattle.scan_vectors.specs.Rules.{IsBroken, IsUnbroken, AreLegal, AreIllegalAt}
use Rattle.default_starts.specs.Starts.{AreDefaultStarts, IsWithStarts}
use Rattle.default_starts.specs.Words.{HasHiddenWords}
use Rattle.default_starts.specs.OwnRules.{BeginsItself, IsOwnBroken, AreOwnIllegalAt, AreOwnLegal}

-- lines have their starts in one way at most
abbrev pub OneWithStarts : Type 0
OneWithStarts = (L : LinkedView) (lines one other : Lines) → IsWithStarts L lines one → IsWithStarts L lines other → one ≡ other

-- each line has its number, where each had
abbrev pub EachHasNumber : Type 0
EachHasNumber = (L : LinkedView) (lines new : Lines) → IsWithStarts L lines new → length lines.numbers ≡ length lines.list → length new.numbers ≡ length new.list

-- where no port is hidden they stay as they are
abbrev pub NoneHiddenNoneAdded : Type 0
NoneHiddenNoneAdded = (L : LinkedView) → L.straight.count ≡ 0 → (lines new : Lines) → IsWithStarts L lines new ↔ (new ≡ lines)

-- and the rules are those that they were
abbrev pub NoneHiddenSameRules : Type 0
NoneHiddenSameRules = (L : LinkedView) → L.straight.count ≡ 0 → IsWellNamed L.names L.arena.lists → IsLaidOut L.arena.lists → (lines : Lines)
    → (AreLegal L lines ↔ AreOwnLegal L lines) × ((number : ℕ) → AreIllegalAt L lines number ↔ AreOwnIllegalAt L lines number)

-- no line that is added breaks a rule
abbrev pub StartsBreakNoRule : Type 0
StartsBreakNoRule = (L : LinkedView) → HasHiddenWords L → (lines new : Lines) (put : IsWithStarts L lines new) (place : ℕ) → place < length put.starts → IsBroken L new.list place → ⊥

-- each other line breaks one where it did, but that hidden input bits begin by themselves
abbrev pub OthersBreakAsBefore : Type 0
OthersBreakAsBefore = (L : LinkedView) → HasHiddenWords L → (lines new : Lines) (put : IsWithStarts L lines new) (place : ℕ)
    → IsBroken L new.list (length put.starts + place) ↔ IsOwnBroken L lines.list place

-- the lines with their starts are legal just where these are
abbrev pub LegalWithStarts : Type 0
LegalWithStarts = (L : LinkedView) → HasHiddenWords L → (lines new : Lines) → IsWithStarts L lines new → AreLegal L new ↔ AreOwnLegal L lines

-- and illegal at the same line
abbrev pub IllegalWithStarts : Type 0
IllegalWithStarts = (L : LinkedView) → HasHiddenWords L → (lines new : Lines) → IsWithStarts L lines new → (number : ℕ) → AreIllegalAt L new number ↔ AreOwnIllegalAt L lines number

-- the lines are starts of hidden bits, of which none breaks a rule; each hidden input bit that no start among the others
-- names has one
pub record StartHiddenBits (L : LinkedView) (lines starts : List Line) : Type 0 where
  pub are : (place : ℕ) (line : Line) → slice_get starts place ≡ Some line → act_of line ≡ Start
  pub hidden : (place : ℕ) (line : Line) (pin : PinBit) → slice_get starts place ≡ Some line → Names L (pin_of line) pin → is_straight L pin.port.0 ≡ true
  pub unbroken : IsUnbroken L starts
  pub all : (pin : PinBit) → BeginsItself L lines pin → TakesValue L.arena.lists pin → HasStart L starts pin

abbrev pub StartsAreHidden : Type 0
StartsAreHidden = (L : LinkedView) → HasHiddenWords L → (lines starts : List Line) → AreDefaultStarts L lines starts → StartHiddenBits L lines starts
