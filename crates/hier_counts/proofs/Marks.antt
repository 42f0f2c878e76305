-- The first that a test gives along marked modules.
use Rattle.std.proofs.Common.{◌≡◌, ℕ, zero, suc, ◌+◌, ◌<◌, ◌≤◌, Bool, true, false, if◌then◌else◌, ◌&&◌, List, [], ◌∷◌, length, map, drop, Option, Some, None, refl, sym, ap, ◌∙◌, arith}
use Rattle.std.specs.Prelude.{slice_index_or, slice_get}
use Rattle.std.proofs.lemmas.List.{get_or_default}
use Rattle.texts.specs.First.{or_else, first_in}
use Rattle.list_laws.proofs.Options.{none_some}
use Rattle.verilog_tree.specs.declared.tree.Module.{Module}
use Rattle.hier_counts.specs.Marked.{first_marked}

-- at a place that is marked, and at one that isn't (`add-one` turns the code's `k + 1` into `suc k`)
pub marked_next : {X : Type 0} (test : Module → Option X) (marks : List Bool) (ms : List Module) (k : ℕ) (b : Bool) (m : Module) → k < length marks → slice_index_or marks k b ≡ b → slice_get ms k ≡ Some m
    → first_marked test (drop k marks) (drop k ms) ≡ (if b then or_else (test m) (first_marked test (drop (suc k) marks) (drop (suc k) ms)) else first_marked test (drop (suc k) marks) (drop (suc k) ms))
marked_next test [] ms k b m low mark at = absurd (omega (arith, low))
marked_next test (c ∷ marks) [] k b m low mark at = none_some at
marked_next {X} test (c ∷ marks) (n ∷ ms) zero b m low mark at = by c b mark (let same : n ≡ m = cc in same)
  where
    by : (c b : Bool) → c ≡ b → n ≡ m → first_marked test (c ∷ marks) (n ∷ ms) ≡ (if b then or_else (test m) (first_marked test marks ms) else first_marked test marks ms)
    by true true e same = ap (λ (x : Module). or_else (test x) (first_marked test marks ms)) same
    by true false e same = absurd (cc)
    by false true e same = absurd (cc)
    by false false e same = refl
marked_next test (c ∷ marks) (n ∷ ms) (suc k) b m low mark at = marked_next test marks ms k b m (omega (arith, low)) mark at

pub marked_end : {X : Type 0} (test : Module → Option X) (marks : List Bool) (ms : List Module) (k : ℕ) → length ms ≤ k → length marks ≡ length ms → first_marked test (drop k marks) (drop k ms) ≡ None
marked_end test [] [] k low same = by k
  where
    by : (k : ℕ) → first_marked test (drop k []) (drop k []) ≡ None
    by zero = refl
    by (suc k) = refl
marked_end test [] (m ∷ ms) k low same = absurd (omega (arith, same))
marked_end test (c ∷ marks) [] k low same = absurd (omega (arith, same))
marked_end test (c ∷ marks) (m ∷ ms) zero low same = absurd (omega (arith, low))
marked_end test (c ∷ marks) (m ∷ ms) (suc k) low same = marked_end test marks ms k (omega (arith, low)) (omega (arith, same))

-- behind a place that isn't marked, or where the test gives nothing
pub marked_on : {X : Type 0} (test : Module → Option X) (marks : List Bool) (ms : List Module) (k : ℕ) (m : Module) (all : Option X) → k < length marks → slice_get ms k ≡ Some m → first_marked test (drop k marks) (drop k ms) ≡ all
    → (slice_index_or marks k false ≡ true → test m ≡ None) → first_marked test (drop (k + 1) marks) (drop (k + 1) ms) ≡ all
marked_on {X} test marks ms k m all low at was gives = by (slice_index_or marks k false) refl
  where
    more : suc k ≡ k + 1
    more = omega arith

    by : (b : Bool) → slice_index_or marks k false ≡ b → first_marked test (drop (k + 1) marks) (drop (k + 1) ms) ≡ all
    by true mark =
        let here = get_or_default marks k true false low ∙ mark in
        ap (λ (n : ℕ). first_marked test (drop n marks) (drop n ms)) (sym more)
        ∙ ap (λ (o : Option X). or_else o (first_marked test (drop (suc k) marks) (drop (suc k) ms))) (sym (gives mark))
        ∙ sym (marked_next test marks ms k true m low here at) ∙ was
    by false mark = ap (λ (n : ℕ). first_marked test (drop n marks) (drop n ms)) (sym more) ∙ sym (marked_next test marks ms k false m low mark at) ∙ was

-- at a place that is marked, where the test gives something
pub marked_here : {X : Type 0} (test : Module → Option X) (marks : List Bool) (ms : List Module) (k : ℕ) (m : Module) (x : X) (all : Option X) → k < length marks → slice_get ms k ≡ Some m → first_marked test (drop k marks) (drop k ms) ≡ all
    → slice_index_or marks k false ≡ true → test m ≡ Some x → Some x ≡ all
marked_here {X} test marks ms k m x all low at was mark some =
    let here = get_or_default marks k true false low ∙ mark in
    ap (λ (o : Option X). or_else o (first_marked test (drop (suc k) marks) (drop (suc k) ms))) (sym some)
    ∙ sym (marked_next test marks ms k true m low here at) ∙ was

-- along modules that are marked where they pass
pub marked_is : {X : Type 0} (test : Module → Option X) (p : Module → Bool) (ms : List Module) → first_marked test (map p ms) ms ≡ first_in (λ (m : Module). if p m then test m else None) ms
marked_is test p [] = refl
marked_is {X} test p (m ∷ ms) = by (p m) (marked_is test p ms)
  where
    by : (b : Bool) → first_marked test (map p ms) ms ≡ first_in (λ (x : Module). if p x then test x else None) ms
        → first_marked test (b ∷ map p ms) (m ∷ ms) ≡ or_else (if b then test m else None) (first_in (λ (x : Module). if p x then test x else None) ms)
    by true rest = ap (or_else (test m)) rest
    by false rest = rest

pub both_are : {X : Type 0} (p q : Module → Bool) (value : Module → X) (ms : List Module) → first_in (λ (m : Module). if p m then (if q m then Some (value m) else None) else None) ms ≡ first_in (λ (m : Module). if p m && q m then Some (value m) else None) ms
both_are p q value [] = refl
both_are {X} p q value (m ∷ ms) = by (p m) (q m) (both_are p q value ms)
  where
    by : (a b : Bool) → first_in (λ (x : Module). if p x then (if q x then Some (value x) else None) else None) ms ≡ first_in (λ (x : Module). if p x && q x then Some (value x) else None) ms
        → or_else (if a then (if b then Some (value m) else None) else None) (first_in (λ (x : Module). if p x then (if q x then Some (value x) else None) else None) ms) ≡ or_else (if a && b then Some (value m) else None) (first_in (λ (x : Module). if p x && q x then Some (value x) else None) ms)
    by true true rest = refl
    by true false rest = rest
    by false true rest = rest
    by false false rest = rest
