-- Tables, as the turns of an event need them.
use Rattle.std.proofs.Common.{◌≡◌, ◌⊎◌, ℕ, ◌*◌, ◌<◌, ◌≤◌, List, length, slice_index, inl, inr, ◌∙◌, arith, subst}
use Rattle.event_parts.specs.QueuesLaws.{IsIn}
use Rattle.event_turns.specs.Circuits.{CircuitView, IsCircuit, IsInRange, HasReader, Wakes}

-- the turn of a live cell is one of the queue's
pub early : (c : CircuitView) (net turn : ℕ) (words : List ℕ) → IsCircuit c → 3 * length c.gates ≤ 64 * length words → HasReader c.lists c.turns net turn → turn < 64 * length words
early c net turn words is room r =
    let at = is.gates r.reader r.waits.cell r.waits.reads.live in
    let below = at.early in let there = r.there in omega arith

pub reader_early : (c : CircuitView) (net : ℕ) (words : List ℕ) → IsCircuit c → net < length c.lists.nets → 3 * length c.gates ≤ 64 * length words
    → (k : ℕ) → IsInRange c.starts net k → slice_index c.readers k < 64 * length words
reader_early c net words is there room k range = early c net (slice_index c.readers k) words is room (is.readers.only net k there range)

pub woken : (c : CircuitView) (net : ℕ) (old new : List ℕ) → IsCircuit c → net < length c.lists.nets → length new ≡ length old → ((turn : ℕ) → IsIn old turn → IsIn new turn)
    → ((k : ℕ) → IsInRange c.starts net k → IsIn new (slice_index c.readers k))
    → ((turn : ℕ) → IsIn new turn → IsIn old turn ⊎ ((k : ℕ) × IsInRange c.starts net k × (slice_index c.readers k ≡ turn)))
    → Wakes c net old new
woken c net old new is there long keeps adds only = record {
  long = long;
  each = λ turn. (
    λ now. elim (only turn now) [
      | inl was ↦ inl was
      | inr k ↦ inr (let r = is.readers.only net k.0 there k.1 in record { reader = r.reader; waits = r.waits; there = r.there ∙ k.2 })
    ],
    λ either. elim either [
      | inl was ↦ keeps turn was
      | inr r ↦ (let k = is.readers.each net turn r in subst (λ (t : ℕ). IsIn new t) k.2 (adds k.0 k.1))
    ],
  );
}
