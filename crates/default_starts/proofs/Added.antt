-- The lines that are added: each starts a hidden bit that no other line starts, and no two the same.
use Rattle.std.proofs.Common.{◌≡◌, subst, ℕ, zero, suc, ◌+◌, ◌<◌, ◌⊎◌, inl, inr, List, ◌∷◌, refl, ap, sym, ◌∙◌, Some, arith}
use Rattle.std.specs.Prelude.{slice_get}
use Rattle.std.specs.List.{AllByRecursion}
use Rattle.std.proofs.lemmas.Option.{same_Some}
use Rattle.signal_values.specs.declared.PinSig.{PinSig}
use Rattle.netlist_model.specs.declared.PinBit.{PinBit}
use Rattle.netlist_model.specs.Lists.{NetlistView}
use Rattle.netlist_link.specs.Linked.{LinkedView}
use Rattle.netlist_link.specs.WellNamed.{IsWellNamed}
use Rattle.scan_vectors.specs.declared.lines.Act.TheVariants as act
use Rattle.scan_vectors.specs.declared.lines.Line.{Line}
use Rattle.scan_vectors.specs.declared.lines.Line.TheVariants.{Start}
use Rattle.scan_vectors.specs.Grammar.{act_of, pin_of}
use Rattle.scan_vectors.specs.Pins.{Names, HasStart}
use Rattle.default_starts.specs.Starts.{HiddenBit, BeginsAt, AreStarts}
use Rattle.default_starts.specs.Starts.BeginsAt.{control, plain}
use Rattle.default_starts.specs.Starts.AreStarts.{none, had, added}
use Rattle.default_starts.proofs.WordsNamed.{names_once}
use Rattle.default_starts.proofs.Ordered.{IsBit, IsFrom, Ascend, later, Stands}
use Rattle.default_starts.proofs.Ordered.Stands.{here, behind}

-- what an added line is
pub record IsAdded (L : LinkedView) (lines : List Line) (port place : ℕ) (line : Line) : Type 0 where
  pub bit : HiddenBit
  pub is : IsBit L bit
  pub hasnt : HasStart L lines bit.pin → ⊥
  pub value : PinSig
  pub begins : BeginsAt L.arena.lists bit.net.0 value
  pub line_is : line ≡ Start bit.word value
  pub from : IsFrom port place bit.pin

later_added : (L : LinkedView) (lines : List Line) (port place : ℕ) (pin : PinBit) (line : Line) → IsFrom port place pin → IsAdded L lines pin.port.0 (pin.bit + 1) line → IsAdded L lines port place line
later_added L lines port place pin line from is = record {
  bit = is.bit;
  is = is.is;
  hasnt = is.hasnt;
  value = is.value;
  begins = is.begins;
  line_is = is.line_is;
  from = later port place pin is.bit.pin from is.from;
}

pub added_at : (L : LinkedView) (lines : List Line) (bits : List HiddenBit) (starts : List Line) (port place k : ℕ) (line : Line) → AreStarts L lines bits starts → AllByRecursion (IsBit L) bits
    → Ascend port place bits → slice_get starts k ≡ Some line → IsAdded L lines port place line
added_at L lines bits starts port place k line none all up at = absurd (cc)
added_at L lines bits starts port place k line (had {bit = x} {bits = rest} has are) all up at =
    later_added L lines port place x.pin line up.0 (added_at L lines rest starts x.pin.port.0 (x.pin.bit + 1) k line are all.1 up.1 at)
added_at L lines bits starts port place zero line (added {bit = x} {value = v} hasnt begins are) all up at =
    record { bit = x; is = all.0; hasnt = hasnt; value = v; begins = begins; line_is = sym (same_Some (Start x.word v) line at); from = up.0 }
added_at L lines bits starts port place (suc k) line (added {bit = x} {bits = rest} {starts = more} hasnt begins are) all up at =
    later_added L lines port place x.pin line up.0 (added_at L lines rest more x.pin.port.0 (x.pin.bit + 1) k line are all.1 up.1 at)

-- it names its bit alone

pub added_start : (L : LinkedView) (lines : List Line) (port place : ℕ) (line : Line) → IsAdded L lines port place line → act_of line ≡ act.Start
added_start L lines port place line is = ap act_of is.line_is

pub added_names : (L : LinkedView) (lines : List Line) (port place : ℕ) (line : Line) (is : IsAdded L lines port place line) → Names L (pin_of line) is.bit.pin
added_names L lines port place line is = subst (λ (l : Line). Names L (pin_of l) is.bit.pin) (sym is.line_is) is.is.named

pub added_only : (L : LinkedView) (lines : List Line) (port place : ℕ) (line : Line) → IsWellNamed L.names L.arena.lists → (is : IsAdded L lines port place line) → (pin : PinBit)
    → Names L (pin_of line) pin → pin ≡ is.bit.pin
added_only L lines port place line well is pin named = names_once L.names L.arena.lists (pin_of line) pin is.bit.pin well named (added_names L lines port place line is)

-- no two name the same bit

no_way_back : (pin : PinBit) → IsFrom pin.port.0 (pin.bit + 1) pin → ⊥
no_way_back pin (inl low) = omega (arith, low)
no_way_back pin (inr at) = let h = at.1 in omega (arith, h)

pub added_apart : (L : LinkedView) (lines : List Line) (bits : List HiddenBit) (starts : List Line) (port place j k : ℕ) (one other : Line) (pin : PinBit) → IsWellNamed L.names L.arena.lists
    → AreStarts L lines bits starts → AllByRecursion (IsBit L) bits → Ascend port place bits → j < k → slice_get starts j ≡ Some one → slice_get starts k ≡ Some other
    → Names L (pin_of one) pin → Names L (pin_of other) pin → ⊥
added_apart L lines bits starts port place j k one other pin well none all up less at behind_at first second = absurd (cc)
added_apart L lines bits starts port place j k one other pin well (had {bit = x} {bits = rest} has are) all up less at behind_at first second =
    added_apart L lines rest starts x.pin.port.0 (x.pin.bit + 1) j k one other pin well are all.1 up.1 less at behind_at first second
added_apart L lines bits starts port place zero zero one other pin well (added hasnt begins are) all up less at behind_at first second = omega (arith, less)
added_apart L lines bits starts port place zero (suc k) one other pin well (added {bit = x} {bits = rest} {starts = more} {value = v} hasnt begins are) all up less at behind_at first second =
    let is = added_at L lines rest more x.pin.port.0 (x.pin.bit + 1) k other are all.1 up.1 behind_at in
    let named : Names L x.word pin = subst (λ (l : Line). Names L (pin_of l) pin) (sym (same_Some (Start x.word v) one at)) first in
    let mine : pin ≡ x.pin = names_once L.names L.arena.lists x.word pin x.pin well named all.0.named in
    let its : pin ≡ is.bit.pin = added_only L lines x.pin.port.0 (x.pin.bit + 1) other well is pin second in
    no_way_back x.pin (subst (IsFrom x.pin.port.0 (x.pin.bit + 1)) (sym its ∙ mine) is.from)
added_apart L lines bits starts port place (suc j) zero one other pin well (added hasnt begins are) all up less at behind_at first second = omega (arith, less)
added_apart L lines bits starts port place (suc j) (suc k) one other pin well (added {bit = x} {bits = rest} {starts = more} hasnt begins are) all up less at behind_at first second =
    added_apart L lines rest more x.pin.port.0 (x.pin.bit + 1) j k one other pin well are all.1 up.1 (omega (arith, less)) at behind_at first second

-- each hidden bit has a start, among the lines or added

start_behind : (L : LinkedView) (line : Line) (starts : List Line) (pin : PinBit) → HasStart L starts pin → HasStart L (line ∷ starts) pin
start_behind L line starts pin has = record { place = suc has.place; line = has.line; there = has.there; start = has.start; named = has.named }

pub bit_starts : (L : LinkedView) (lines : List Line) (bits : List HiddenBit) (starts : List Line) (pin : PinBit) → AreStarts L lines bits starts → AllByRecursion (IsBit L) bits → Stands pin bits
    → HasStart L lines pin ⊎ HasStart L starts pin
bit_starts L lines bits starts pin none all s = elim s [ ]
bit_starts L lines bits starts pin (had {bit = x} has are) all (here e) = inl (subst (HasStart L lines) e has)
bit_starts L lines bits starts pin (had {bits = rest} has are) all (behind s) = bit_starts L lines rest starts pin are all.1 s
bit_starts L lines bits starts pin (added {bit = x} {starts = more} {value = v} hasnt begins are) all (here e) =
    inr (record { place = 0; line = Start x.word v; there = refl; start = refl; named = subst (Names L x.word) e all.0.named })
bit_starts L lines bits starts pin (added {bit = x} {bits = rest} {starts = more} {value = v} hasnt begins are) all (behind s) =
    elim (bit_starts L lines rest more pin are all.1 s) [ inl has ↦ inl has | inr has ↦ inr (start_behind L (Start x.word v) more pin has) ]

-- the starts are added in one way

value_once : (N : NetlistView) (net : ℕ) (one two : PinSig) → BeginsAt N net one → BeginsAt N net two → one ≡ two
value_once N net one two (control a) (control b) = refl
value_once N net one two (control a) (plain b) = absurd (b a)
value_once N net one two (plain a) (control b) = absurd (a b)
value_once N net one two (plain a) (plain b) = refl

pub starts_once : (L : LinkedView) (lines : List Line) (bits : List HiddenBit) (one two : List Line) → AreStarts L lines bits one → AreStarts L lines bits two → one ≡ two
starts_once L lines bits one two none none = refl
starts_once L lines bits one two (had {bits = rest} has a) (had has_too b) = starts_once L lines rest one two a b
starts_once L lines bits one two (had has a) (added hasnt begins b) = absurd (hasnt has)
starts_once L lines bits one two (added hasnt begins a) (had has b) = absurd (hasnt has)
starts_once L lines bits one two (added {bit = x} {bits = rest} {starts = more} {value = v} hasnt begins a) (added {starts = other} {value = w} hasnt_too begins_too b) =
    ap (λ (u : PinSig). Start x.word u ∷ more) (value_once L.arena.lists x.net.0 v w begins begins_too) ∙ ap (λ (s : List Line). Start x.word w ∷ s) (starts_once L lines rest more other a b)
