-- What a put gives, from its parts.
use Rattle.std.proofs.Common.{◌≡◌, ℕ, ◌≤◌, List, take, Option, Ok, Err, arith}
use Rattle.edge_io.specs.Shelf.{Rose, appended}
use Rattle.output_lines.specs.Puts.{Puts}

-- a count that rose from a later value rose from an earlier one
rose_earlier : (a b c : ℕ) → a ≤ b → Rose b c → Rose a c
rose_earlier a b c h k = grind arith

≤-both : (a b c : ℕ) → a ≤ b → b ≤ c → a ≤ c
≤-both a b c h k = omega (arith, h, k)

-- a part was refused after others: a front of the text was given, and the count rose
pub Puts-refused : {S T E : Type 0} (given : S → Option (List ℕ)) (faults : S → ℕ) (old mid new : S) (text : List ℕ) (e : E) → (k : ℕ) × (given new ≡ appended (take k text) (given old))
    → faults old ≤ faults mid → Rose (faults mid) (faults new) → faults mid ≤ faults new → Puts {S = S} {T = T} {E = E} given faults old new text (Err e)
Puts-refused given faults old mid new text e front before rose later = record {
  ok = tt;
  fault = front;
  cause = rose_earlier (faults old) (faults mid) (faults new) before rose;
  later = ≤-both (faults old) (faults mid) (faults new) before later;
}

-- all parts were taken
pub Puts-whole : {S T E : Type 0} (given : S → Option (List ℕ)) (faults : S → ℕ) (old mid new : S) (text : List ℕ) (x : T) → given new ≡ appended text (given old)
    → faults old ≤ faults mid → faults mid ≤ faults new → Puts {S = S} {T = T} {E = E} given faults old new text (Ok x)
Puts-whole given faults old mid new text x whole before later = record {
  ok = whole;
  fault = tt;
  cause = tt;
  later = ≤-both (faults old) (faults mid) (faults new) before later;
}
