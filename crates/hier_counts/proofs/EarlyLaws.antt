-- Names that come once, and counts that pass their limits.
use Rattle.std.proofs.Common.{◌≡◌, ℕ, zero, suc, ◌+◌, min, Bool, true, false, not, if◌then◌else◌, ◌||◌, List, [], ◌∷◌, ◌++◌, Some, None, refl, sym, ap, ◌∙◌, arith, ltb-true, ltb-false}
use Rattle.std.specs.Prelude.{nat_lt}
use Rattle.std.specs.List.{list_any}
use Rattle.std.specs.Str.{bytes_eq}
use Rattle.std.specs.Cmp.Lexicographic.{bytes_decides}
use Rattle.std.proofs.lemmas.List.Folds.{list_any-append}
use Rattle.list_laws.proofs.Options.{none_some}
use Rattle.list_laws.proofs.Tests.{or_more}
use Rattle.texts.specs.Repeated.{has_name}
use Rattle.cell_library.specs.declared.listed.ListedCell.{ListedCell}
use Rattle.verilog_tree.specs.declared.tree.Module.{Module}
use Rattle.hier_model.specs.Visits.{has_levels}
use Rattle.hier_model.specs.declared.fault.HierWhat.TheVariants as what
use Rattle.hier_model.specs.Entries.{level_limit}
use Rattle.hier_model.specs.Faults.{is_cell, twice_name, too_many_in, cell_count, net_count, cell_limit, net_limit}
use Rattle.hier_counts.specs.Once.{At, AreOnce}
use Rattle.hier_counts.specs.Levels.{counts_at}
use Rattle.hier_counts.specs.Early.{too_many, count_fault}

-- Names.

pub next_once : (library : List ListedCell) (before : List (List ℕ)) (m : Module) (ms : List Module) → twice_name library before (m ∷ ms) ≡ None → (has_name before m.name ≡ false) × (twice_name library (before ++ m.name ∷ []) ms ≡ None)
next_once library before m ms h = by (has_name before m.name) (is_cell library m.name) refl h
  where
    by : (a b : Bool) → has_name before m.name ≡ a → (if a || b then Some m.name else twice_name library (before ++ m.name ∷ []) ms) ≡ None → (has_name before m.name ≡ false) × (twice_name library (before ++ m.name ∷ []) ms ≡ None)
    by true b e f = none_some (sym f)
    by false true e f = none_some (sym f)
    by false false e f = (e, f)

bytes_same : (name : List ℕ) → bytes_eq name name ≡ true
bytes_same name = (bytes_decides name name).1 refl

before_more : (before : List (List ℕ)) (n name : List ℕ) → has_name before name ≡ true → has_name (before ++ n ∷ []) name ≡ true
before_more before n name h = list_any-append (bytes_eq name) before (n ∷ []) ∙ ap (λ (b : Bool). b || list_any (bytes_eq name) (n ∷ [])) h

last_before : (before : List (List ℕ)) (name : List ℕ) → has_name (before ++ name ∷ []) name ≡ true
last_before before name = list_any-append (bytes_eq name) before (name ∷ []) ∙ or_more (has_name before name) (list_any (bytes_eq name) (name ∷ [])) (ap (λ (b : Bool). b || false) (bytes_same name))

-- a name before is none of those behind
none_before : (library : List ListedCell) (before : List (List ℕ)) (name : List ℕ) (ms : List Module) (k : ℕ) (m : Module) → twice_name library before ms ≡ None → has_name before name ≡ true → At ms k m → m.name ≡ name → ⊥
none_before library before name [] k m h had at same = none_some at
none_before library before name (x ∷ ms) zero m h had at same =
    let is : x ≡ m = cc in
    let no : true ≡ false = sym had ∙ ap (has_name before) (sym same ∙ ap (λ (y : Module). y.name) (sym is)) ∙ (next_once library before x ms h).0 in
    absurd (cc)
none_before library before name (x ∷ ms) (suc k) m h had at same = none_before library (before ++ x.name ∷ []) name ms k m ((next_once library before x ms h).1) (before_more before x.name name had) at same

pub once_of : (library : List ListedCell) (before : List (List ℕ)) (ms : List Module) → twice_name library before ms ≡ None → AreOnce ms
once_of library before [] h i j m n at_i at_j same = none_some at_i
once_of library before (x ∷ ms) h zero zero m n at_i at_j same = refl
once_of library before (x ∷ ms) h zero (suc j) m n at_i at_j same =
    let is : x ≡ m = cc in
    absurd (none_before library (before ++ x.name ∷ []) x.name ms j n ((next_once library before x ms h).1) (last_before before x.name) at_j (sym same ∙ ap (λ (y : Module). y.name) (sym is)))
once_of library before (x ∷ ms) h (suc i) zero m n at_i at_j same =
    let is : x ≡ n = cc in
    absurd (none_before library (before ++ x.name ∷ []) x.name ms i m ((next_once library before x ms h).1) (last_before before x.name) at_i (same ∙ ap (λ (y : Module). y.name) (sym is)))
once_of library before (x ∷ ms) h (suc i) (suc j) m n at_i at_j same = ap (λ (k : ℕ). suc k) (once_of library (before ++ x.name ∷ []) ms ((next_once library before x ms h).1) i j m n at_i at_j same)

-- Counts.

-- a count up to a limit passes it where the count does
cap_passes : (l n : ℕ) → nat_lt l (min n (l + 1)) ≡ nat_lt l n
cap_passes l n = by (nat_lt l (min n (l + 1))) (nat_lt l n) refl refl
  where
    by : (a b : Bool) → nat_lt l (min n (l + 1)) ≡ a → nat_lt l n ≡ b → a ≡ b
    by true true e f = refl
    by true false e f = let more = ltb-true l (min n (l + 1)) e in let less = ltb-false l n f in absurd (omega (arith, more, less))
    by false true e f = let less = ltb-false l (min n (l + 1)) e in let more = ltb-true l n f in absurd (omega (arith, more, less))
    by false false e f = refl

pub limit_is : level_limit ≡ 64
unfolding level_limit
limit_is = refl

pub counts_pass : (modules : List Module) (top : Module) → count_fault (counts_at level_limit modules top) ≡ too_many_in modules top
counts_pass modules top =
    ap (λ (b : Bool). if not (has_levels level_limit modules top) then Some (too_many what.Depth 64) else if b then Some (too_many what.Cells cell_limit) else if nat_lt net_limit (min (net_count level_limit modules top) (net_limit + 1)) then Some (too_many what.Nets net_limit) else None) (cap_passes cell_limit (cell_count level_limit modules top))
    ∙ ap (λ (b : Bool). if not (has_levels level_limit modules top) then Some (too_many what.Depth 64) else if nat_lt cell_limit (cell_count level_limit modules top) then Some (too_many what.Cells cell_limit) else if b then Some (too_many what.Nets net_limit) else None) (cap_passes net_limit (net_count level_limit modules top))
    ∙ ap (λ (n : ℕ). if not (has_levels level_limit modules top) then Some (too_many what.Depth n) else if nat_lt cell_limit (cell_count level_limit modules top) then Some (too_many what.Cells cell_limit) else if nat_lt net_limit (net_count level_limit modules top) then Some (too_many what.Nets net_limit) else None) (sym limit_is)
