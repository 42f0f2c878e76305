use Rattle.std.proofs.Common.{◌≡◌, ◌↔◌, ◌⊎◌, ◌<◌, ◌≤◌, ◌-◌, ◌++◌, ℕ, Bool, true, false, List, [], Option, Some, None, length, min, refl, sym, ap, subst, inl, inr, arith}
use Rattle.std.specs.Prelude.{IsNone, IfSome, option_and_then, unwrap_or}
use Rattle.std.specs.Option.{option_map}
use Rattle.edge_io.specs.declared.outputs.Output.{Output}
use Rattle.edge_io.specs.Outputs.{bytes_if_started}
use Rattle.edge_io.specs.Shelf.{appended}

-- how many more bytes a name may take
abbrev spare_at : Option Output → ℕ
spare_at v = unwrap_or (option_map (λ (o : Output). o.text.room) v) 0 - length (unwrap_or (option_and_then bytes_if_started v) [])

-- when nothing was added, in terms of what was written and of the room
abbrev AddsNone : Option ℕ → ℕ → Option Output → Type 0
AddsNone r k v = IsNone r ↔ (IsNone (option_and_then bytes_if_started v) ⊎ ((0 < k) × (spare_at v ≡ 0)))

adds_none : (r : Option ℕ) (k room : ℕ) (bytes : List ℕ) (started : Bool)
    → IsNone r ↔ ((started ≡ false) ⊎ ((0 < k) × (room ≤ length bytes)))
    → AddsNone r k (Some (record { text = record { room = room; bytes = bytes }; started = started }))
adds_none r k room bytes true h = (
  (λ n. elim (h.0 n) [ inl untrue ↦ absurd cc | inr full ↦ inr (full.0, omega arith) ]),
  (λ c. elim c [ inl untrue ↦ absurd cc | inr full ↦ h.1 (inr (full.0, omega arith)) ]),
)
adds_none r k room bytes false h = ((λ n. inl refl), (λ c. h.1 (inl refl)))

-- the same at a name that stands for this output
pub AddsNone-found : (r : Option ℕ) (k : ℕ) (o : Output) (v : Option Output) → v ≡ Some o
    → IsNone r ↔ ((o.started ≡ false) ⊎ ((0 < k) × (o.text.room ≤ length o.text.bytes))) → AddsNone r k v
AddsNone-found r k o v is h = subst (AddsNone r k) (sym is) (adds_none r k o.text.room o.text.bytes o.started h)

-- a name that stands for nothing takes nothing
pub AddsNone-missing : (r : Option ℕ) (k : ℕ) (v : Option Output) → v ≡ None → r ≡ None → AddsNone r k v
AddsNone-missing r k v is none = subst (AddsNone r k) (sym is) ((λ n. inl refl), (λ c. subst IsNone (sym none) refl))

-- as many as fit were added
adds_count : (r : Option ℕ) (k room : ℕ) (bytes : List ℕ) (started : Bool)
    → IsNone r ↔ ((started ≡ false) ⊎ ((0 < k) × (room ≤ length bytes)))
    → IfSome r (λ n. n ≡ min k (room - length bytes))
    → IfSome r (λ n. n ≡ min k (spare_at (Some (record { text = record { room = room; bytes = bytes }; started = started }))))
adds_count r k room bytes true h count = count
adds_count None k room bytes false h count = tt
adds_count (Some n) k room bytes false h count = absurd (let no : IsNone (Some n) = h.1 (inl refl) in cc)

pub adds_count-found : (r : Option ℕ) (k : ℕ) (o : Output) (v : Option Output) → v ≡ Some o
    → IsNone r ↔ ((o.started ≡ false) ⊎ ((0 < k) × (o.text.room ≤ length o.text.bytes)))
    → IfSome r (λ n. n ≡ min k (o.text.room - length o.text.bytes)) → IfSome r (λ n. n ≡ min k (spare_at v))
adds_count-found r k o v is h count = subst (λ (w : Option Output). IfSome r (λ n. n ≡ min k (spare_at w))) (sym is) (adds_count r k o.text.room o.text.bytes o.started h count)

-- what was written goes on with what was added
pub bytes_if_started-added : (o after : Output) (piece : List ℕ) → after.started ≡ o.started → after.text.bytes ≡ o.text.bytes ++ piece
    → bytes_if_started after ≡ appended piece (bytes_if_started o)
bytes_if_started-added o after piece started bytes = by_cases o.started after.started o.text.bytes after.text.bytes started bytes where
  by_cases : (s t : Bool) (b c : List ℕ) → t ≡ s → c ≡ b ++ piece → bytes_if_started (record { text = record { room = after.text.room; bytes = c }; started = t }) ≡ appended piece (bytes_if_started (record { text = record { room = o.text.room; bytes = b }; started = s }))
  by_cases true true b c e more = ap (λ (l : List ℕ). Some l) more
  by_cases false false b c e more = refl
  by_cases true false b c e more = absurd cc
  by_cases false true b c e more = absurd cc

-- a name that was just started has no bytes
pub bytes_if_started-empty : (after : Output) → after.started ≡ true → after.text.bytes ≡ [] → bytes_if_started after ≡ Some []
bytes_if_started-empty after started bytes = by_cases after.started after.text.bytes started bytes where
  by_cases : (t : Bool) (c : List ℕ) → t ≡ true → c ≡ [] → bytes_if_started (record { text = record { room = after.text.room; bytes = c }; started = t }) ≡ Some []
  by_cases true c e more = ap (λ (l : List ℕ). Some l) more
  by_cases false c e more = absurd cc
