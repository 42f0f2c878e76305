-- Cycles and bits that are put down one by one.
use Rattle.std.proofs.Common.{◌≡◌, ℕ, zero, suc, ◌+◌, ◌-◌, ◌/◌, ◌%◌, ◌==◌, ◌<◌, ◌≤◌, Bool, not, List, [], ◌∷◌, ◌++◌, length, drop, get_or, refl, sym, ap, ◌∙◌, inl, inr, arith}
use Rattle.std.proofs.lemmas.List.{append_assoc, append-nil, drop_more, drop_all}
use Rattle.std.proofs.lemmas.Bool.Decides.{eqb_tells}
use Rattle.list_laws.proofs.Numbers.{eqb_less}
use Rattle.scan_programs.specs.declared.clocks.Clock.{Clock}
use Rattle.scan_programs.specs.Scans.{shifts, is_last, low_bits, alternating}

eqb_suc : (a b : ℕ) → (a == b) ≡ (suc a == suc b)
eqb_suc a b = elim (eqb_tells a b) [
  | inl e ↦ e.0 ∙ sym (elim (eqb_tells (suc a) (suc b)) [ inl f ↦ f.0 | inr f ↦ absurd (f.1 (ap suc e.1)) ])
  | inr e ↦ e.0 ∙ sym (elim (eqb_tells (suc a) (suc b)) [ inl f ↦ absurd (e.1 (let same = f.1 in omega (arith, same))) | inr f ↦ f.0 ])
]

last_of : {A : Type 0} (xs : List A) (k : ℕ) → k ≤ length xs → is_last (drop k xs) ≡ (k == length xs)
last_of [] zero h = refl
last_of [] (suc k) h = absurd (omega (arith, h))
last_of (x ∷ xs) zero h = sym (eqb_less zero (suc (length xs)) (omega arith))
last_of (x ∷ xs) (suc k) h = last_of xs k (omega (arith, h)) ∙ eqb_suc k (length xs)

shifts_cons : (bit : Bool) (bits : List Bool) → shifts (bit ∷ bits) ≡ record { tms = is_last bits; tdi = bit } ∷ shifts bits
unfolding shifts
shifts_cons bit bits = refl

shifts_nil : shifts [] ≡ []
unfolding shifts
shifts_nil = refl

-- one more cycle of a scan
pub shifts_more : (done : List Clock) (bits : List Bool) (i : ℕ) (d last : Bool) (all : List Clock) → i < length bits → last ≡ (i + 1 == length bits)
    → done ++ shifts (drop i bits) ≡ all → (done ++ record { tms = last; tdi = get_or bits i d } ∷ []) ++ shifts (drop (i + 1) bits) ≡ all
shifts_more done bits i d last all h end e =
    let make : Bool → Clock = λ t. record { tms = t; tdi = get_or bits i d } in
    let rest = shifts (drop (i + 1) bits) in
    append_assoc done (make last ∷ []) rest
    ∙ ap (λ (t : Bool). done ++ make t ∷ rest) (end ∙ sym (last_of bits (i + 1) (omega (arith, h))))
    ∙ ap (λ (l : List Clock). done ++ l) (sym (ap shifts (drop_more bits i d h) ∙ shifts_cons (get_or bits i d) (drop (i + 1) bits)))
    ∙ e

pub shifts_end : (done : List Clock) (bits : List Bool) (i : ℕ) (all : List Clock) → length bits ≤ i → done ++ shifts (drop i bits) ≡ all → done ≡ all
shifts_end done bits i all h e = sym (append-nil done) ∙ ap (λ (l : List Clock). done ++ l) (sym (ap shifts (drop_all i bits h) ∙ shifts_nil)) ∙ e

low_none : (value : ℕ) → low_bits 0 value ≡ []
unfolding low_bits
low_none value = refl

low_more : (count value : ℕ) → low_bits (suc count) value ≡ (value % 2 == 1) ∷ low_bits count (value / 2)
unfolding low_bits
low_more count value = refl

pub low_bits_more : (done : List Bool) (count k rest : ℕ) (all : List Bool) → k < count → done ++ low_bits (count - k) rest ≡ all
    → (done ++ (rest % 2 == 1) ∷ []) ++ low_bits (count - (k + 1)) (rest / 2) ≡ all
low_bits_more done count k rest all h e =
    let s : count - k ≡ suc (count - (k + 1)) = omega arith in
    append_assoc done ((rest % 2 == 1) ∷ []) (low_bits (count - (k + 1)) (rest / 2))
    ∙ ap (λ (l : List Bool). done ++ l) (sym (ap (λ (n : ℕ). low_bits n rest) s ∙ low_more (count - (k + 1)) rest)) ∙ e

pub low_bits_end : (done : List Bool) (count k rest : ℕ) (all : List Bool) → count ≤ k → done ++ low_bits (count - k) rest ≡ all → done ≡ all
low_bits_end done count k rest all h e =
    let z : count - k ≡ 0 = omega arith in
    sym (append-nil done) ∙ ap (λ (l : List Bool). done ++ l) (sym (ap (λ (n : ℕ). low_bits n rest) z ∙ low_none rest)) ∙ e

turn_none : (first : Bool) → alternating 0 first ≡ []
unfolding alternating
turn_none first = refl

turn_more : (count : ℕ) (first : Bool) → alternating (suc count) first ≡ first ∷ alternating count (not first)
unfolding alternating
turn_more count first = refl

pub alternating_more : (done : List Bool) (count k : ℕ) (next : Bool) (all : List Bool) → k < count → done ++ alternating (count - k) next ≡ all
    → (done ++ next ∷ []) ++ alternating (count - (k + 1)) (not next) ≡ all
alternating_more done count k next all h e =
    let s : count - k ≡ suc (count - (k + 1)) = omega arith in
    append_assoc done (next ∷ []) (alternating (count - (k + 1)) (not next))
    ∙ ap (λ (l : List Bool). done ++ l) (sym (ap (λ (n : ℕ). alternating n next) s ∙ turn_more (count - (k + 1)) next)) ∙ e

pub alternating_end : (done : List Bool) (count k : ℕ) (next : Bool) (all : List Bool) → count ≤ k → done ++ alternating (count - k) next ≡ all → done ≡ all
alternating_end done count k next all h e =
    let z : count - k ≡ 0 = omega arith in
    sym (append-nil done) ∙ ap (λ (l : List Bool). done ++ l) (sym (ap (λ (n : ℕ). alternating n next) z ∙ turn_none next)) ∙ e
