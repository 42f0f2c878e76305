-- Single underscores, from a place of a run on.
use Rattle.std.proofs.Common.{◌≡◌, ℕ, ◌+◌, ◌==◌, ◌<◌, ◌≤◌, Bool, false, List, ◌∷◌, length, drop, get_or, sym, ap, ◌∙◌, arith}
use Rattle.std.specs.Prelude.{◌&&◌, not}
use Rattle.std.proofs.lemmas.List.{drop_more, drop_all}
use Rattle.std.proofs.lemmas.Bool.{ne_eqb}
use Rattle.std.proofs.Math.Bool.{and-false}
use Rattle.bsdl_device.specs.Runs.{has_single_underscores}

last_is : (run : List ℕ) (i : ℕ) → i < length run → length run ≤ i + 1 → has_single_underscores (drop i run) ≡ not (get_or run i 0 == 95)
last_is run i within last = ap has_single_underscores (drop_more run i 0 within ∙ ap (λ (l : List ℕ). get_or run i 0 ∷ l) (drop_all (i + 1) run last))

more_is : (run : List ℕ) (i : ℕ) → i + 1 < length run → has_single_underscores (drop i run) ≡ (not (get_or run i 0 == 95 && get_or run (i + 1) 0 == 95) && has_single_underscores (drop (i + 1) run))
more_is run i within =
    let b : ℕ = get_or run i 0 in
    let c : ℕ = get_or run (i + 1) 0 in
    let more : drop (i + 1) run ≡ c ∷ drop (i + 1 + 1) run = drop_more run (i + 1) 0 within in
    ap has_single_underscores (drop_more run i 0 (omega arith) ∙ ap (λ (l : List ℕ). b ∷ l) more)
    ∙ ap (λ (l : List ℕ). not (b == 95 && c == 95) && has_single_underscores l) (sym more)

-- An `_` is the last byte, or stands before another.

pub double_last : (run : List ℕ) (i : ℕ) → i < length run → i + 1 ≡ length run → get_or run i 0 ≡ 95 → has_single_underscores (drop i run) ≡ false
double_last run i within last is = last_is run i within (omega (arith, last)) ∙ ap (λ (b : ℕ). not (b == 95)) is

pub double_here : (run : List ℕ) (i : ℕ) → i + 1 < length run → get_or run i 0 ≡ 95 → get_or run (i + 1) 0 ≡ 95 → has_single_underscores (drop i run) ≡ false
double_here run i within first second =
    more_is run i within
    ∙ ap (λ (b : ℕ). not (b == 95 && get_or run (i + 1) 0 == 95) && has_single_underscores (drop (i + 1) run)) first
    ∙ ap (λ (c : ℕ). not (c == 95) && has_single_underscores (drop (i + 1) run)) second

-- No `_` is there, or it is a single one.

pub single_last : (run : List ℕ) (i : ℕ) → i < length run → length run ≤ i + 1 → (get_or run i 0 ≡ 95 → ⊥) → has_single_underscores (drop i run) ≡ has_single_underscores (drop (i + 1) run)
single_last run i within last apart =
    last_is run i within last
    ∙ ap (λ (t : Bool). not t) (ne_eqb (get_or run i 0) 95 apart)
    ∙ sym (ap has_single_underscores (drop_all (i + 1) run last))

pub single_here : (run : List ℕ) (i : ℕ) → i + 1 < length run → (get_or run i 0 ≡ 95 → ⊥) → has_single_underscores (drop i run) ≡ has_single_underscores (drop (i + 1) run)
single_here run i within apart =
    more_is run i within
    ∙ ap (λ (t : Bool). not (t && get_or run (i + 1) 0 == 95) && has_single_underscores (drop (i + 1) run)) (ne_eqb (get_or run i 0) 95 apart)

pub single_next : (run : List ℕ) (i : ℕ) → i + 1 < length run → (get_or run (i + 1) 0 ≡ 95 → ⊥) → has_single_underscores (drop i run) ≡ has_single_underscores (drop (i + 1) run)
single_next run i within apart =
    more_is run i within
    ∙ ap (λ (t : Bool). not (get_or run i 0 == 95 && t) && has_single_underscores (drop (i + 1) run)) (ne_eqb (get_or run (i + 1) 0) 95 apart)
    ∙ ap (λ (t : Bool). not t && has_single_underscores (drop (i + 1) run)) (and-false (get_or run i 0 == 95))
