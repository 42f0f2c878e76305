-- Operations give known values for known operands, as lemmas.
use Rattle.std.proofs.Common.{◌≡◌, Bool, true, false, not, ◌&&◌, ◌||◌, if◌then◌else◌, refl, ◌∙◌, ap}
use Rattle.signal_values.specs.declared.Sig.{Sig}
use Rattle.signal_values.specs.Values.{bit, sig_not, sig_and, sig_or, sig_xor, sig_mux}
use Rattle.signal_values.proofs.Laws.{not-bit, and-bit, or-bit, xor-bit, mux-bit}
use Rattle.cell_library.specs.Laws.{IsKnown}

-- an operation gives 0 or 1 for operands of 0 or 1
abbrev pub KeepsKnown : (Sig → Sig → Sig) → Type 0
KeepsKnown f = (a b : Sig) → IsKnown a → IsKnown b → IsKnown (f a b)

pub is_known-not : (a : Sig) → IsKnown a → IsKnown (sig_not a)
is_known-not a h = record { known = not h.known; same = ap sig_not h.same ∙ not-bit h.known }

pub is_known-and : KeepsKnown sig_and
is_known-and a b h k = record { known = h.known && k.known; same = rw (h.same, k.same) (and-bit h.known k.known) }

pub is_known-or : KeepsKnown sig_or
is_known-or a b h k = record { known = h.known || k.known; same = rw (h.same, k.same) (or-bit h.known k.known) }

pub is_known-xor : KeepsKnown sig_xor
is_known-xor a b h k = record { known = if h.known then not k.known else k.known; same = rw (h.same, k.same) (xor-bit h.known k.known) }

if_bit : (s a b : Bool) → (if s then bit b else bit a) ≡ bit (if s then b else a)
if_bit true a b = refl
if_bit false a b = refl

pub is_known-mux : (s a b : Sig) → IsKnown s → IsKnown a → IsKnown b → IsKnown (sig_mux s a b)
is_known-mux s a b h k l = record {
  known = if h.known then l.known else k.known;
  same = rw (h.same, k.same, l.same) (mux-bit h.known (bit k.known) (bit l.known) ∙ if_bit h.known k.known l.known);
}
