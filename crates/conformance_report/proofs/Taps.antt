-- The lines as they are gone through for the rule of the test access port.
use Rattle.std.proofs.Common.{◌≡◌, ◌↔◌, ℕ, ◌+◌, ◌<◌, ◌≤◌, inl, inr, Bool, true, false, IsTrue, List, length, Some, None, sym, subst, ap, ◌∙◌, arith}
use Rattle.std.specs.Prelude.{slice_get}
use Rattle.std.proofs.lemmas.Bool.{cases_lt}
use Rattle.std.proofs.lemmas.Option.{same_Some, slice_get_within}
use Rattle.bsdl_device.specs.declared.values.DevPort.{DevPort}
use Rattle.bsdl_device.specs.declared.values.Device.{Device}
use Rattle.scan_vectors.specs.declared.lines.Line.{Line}
use Rattle.scan_vectors.specs.declared.lines.Lines.{Lines}
use Rattle.scan_vectors.specs.Grammar.{pin_of}
use Rattle.conformance_report.specs.Rules.{NamesPort, BreaksTapRule, IsTapBroken, KeepsTapRule}
use Rattle.conformance_report.specs.Firsts.{IsFirstTapBroken}

-- Ports and their names.

pub port_named : (d : Device) (place : ℕ) (line : Line) (port : DevPort) (r : Bool) → slice_get d.ports place ≡ Some port → IsTrue r ↔ (pin_of line ≡ port.name) → IsTrue r ↔ NamesPort d place line
port_named d place line port r there is = (
  λ t. record { port = port; there = there; name = is.0 t },
  λ n. is.1 (n.name ∙ ap (λ (p : DevPort). p.name) (same_Some n.port port (sym n.there ∙ there))),
)

pub port_absent : (d : Device) (place : ℕ) (line : Line) → slice_get d.ports place ≡ None → IsTrue false ↔ NamesPort d place line
port_absent d place line none = (λ t. absurd (let no : false ≡ true = t in cc), λ n. absurd (let no : None ≡ Some n.port = sym none ∙ n.there in cc))

-- Lines.

-- none of the first so many lines breaks it
abbrev pub AreKept : Device → List Line → ℕ → Type 0
AreKept d lines place = (earlier : ℕ) → earlier < place → IsTapBroken d lines earlier → ⊥

pub tap_next : (d : Device) (lines : List Line) (place : ℕ) (line : Line) → slice_get lines place ≡ Some line → (BreaksTapRule d line → ⊥) → AreKept d lines place → AreKept d lines (place + 1)
tap_next d lines place line there keeps kept earlier less is = elim (cases_lt earlier place) [
  | inl low ↦ kept earlier low is
  | inr high ↦
      let at : earlier ≡ place = omega arith in
      let same : is.line ≡ line = same_Some is.line line (sym is.there ∙ ap (slice_get lines) at ∙ there) in
      keeps (subst (BreaksTapRule d) same is.rule)
]

pub tap_found : (d : Device) (lines : Lines) (place : ℕ) (line : Line) (number : ℕ) → slice_get lines.list place ≡ Some line → slice_get lines.numbers place ≡ Some number → BreaksTapRule d line
    → AreKept d lines.list place → IsFirstTapBroken d lines number
tap_found d lines place line number there numbered breaks kept =
    record { place = place; here = record { line = line; there = there; rule = breaks }; first = kept; number_is = numbered }

pub tap_kept : (d : Device) (lines : List Line) (place : ℕ) → length lines ≤ place → AreKept d lines place → KeepsTapRule d lines
tap_kept d lines place all kept k is = let within = slice_get_within lines k is.line is.there in kept k (omega (arith, within, all)) is

-- what a test that fails says
pub not_so : {P : Type 0} (r : Bool) → IsTrue r ↔ P → r ≡ false → P → ⊥
not_so r is fails holds = let no : false ≡ true = sym fails ∙ is.1 holds in cc
