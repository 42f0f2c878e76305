-- That rows disable one control cell by different values, by the cells that they disable by 0 and by 1.
use Rattle.std.proofs.Common.{◌≡◌, ℕ, Bool, true, false, ◌||◌, ◌&&◌, ◌==◌, List, [], ◌∷◌, nat_eq, Option, Some, None, if◌then◌else◌, refl, ap, sym, ◌∙◌}
use Rattle.std.specs.List.{list_any, filter_map, cons_option}
use Rattle.std.specs.Option.{option_map_or}
use Rattle.list_laws.proofs.Numbers.{eqb-sym}
use Rattle.list_laws.proofs.Lists.{any_same}
use Rattle.bsdl_device.specs.declared.values.Disable.{Disable}
use Rattle.bsdl_device.specs.declared.entries.RowEntry.{RowEntry}
use Rattle.bsdl_device.specs.Checks.{any_pair}
use Rattle.bsdl_device.specs.RowRules.{differ, rows_disagree, disables_disagree}
use Rattle.bsdl_row_rules.specs.Controls.{control_by}

-- the control cell of a disable value
abbrev pub cell_by : Bool → Option Disable → Option ℕ
cell_by value o = option_map_or (λ (d : Disable). if differ d.value value then None else Some d.control) o None

abbrev pub cells_by : Bool → List RowEntry → List ℕ
cells_by value rows = filter_map (control_by value) rows

-- a number of the first list is one of the second
abbrev pub meet : List ℕ → List ℕ → Bool
meet ns ms = list_any (λ n. list_any (nat_eq n) ms) ns

-- the row gives this control cell another value
abbrev pub gives_other : ℕ → Bool → RowEntry → Bool
gives_other n value s = option_map_or (λ (e : Disable). n == e.control && differ value e.value) s.disable false

and_true : (b : Bool) → (b && true) ≡ b
and_true true = refl
and_true false = refl

no_cell : (b r : Bool) → ((b && false) || r) ≡ r
no_cell true r = refl
no_cell false r = refl

swap_ors : (a b c d : Bool) → (a || b) || (c || d) ≡ (a || c) || (b || d)
swap_ors true b c d = refl
swap_ors false true true d = refl
swap_ors false true false d = refl
swap_ors false false c d = refl

any_either : {A : Type 0} (p q : A → Bool) → (xs : List A) → list_any (λ x. p x || q x) xs ≡ (list_any p xs || list_any q xs)
any_either p q [] = refl
any_either p q (x ∷ xs) = ap (λ b. (p x || q x) || b) (any_either p q xs) ∙ swap_ors (p x) (q x) (list_any p xs) (list_any q xs)

any_never : {A : Type 0} → (xs : List A) → list_any (λ (x : A). false) xs ≡ false
any_never [] = refl
any_never (x ∷ xs) = any_never xs

others_of_one : (n : ℕ) → (rows : List RowEntry) → list_any (gives_other n true) rows ≡ list_any (nat_eq n) (cells_by false rows)
others_of_one n [] = refl
others_of_one n (r ∷ rs) = by r.disable (others_of_one n rs)
  where
    at : (control : ℕ) (value : Bool) → list_any (gives_other n true) rs ≡ list_any (nat_eq n) (cells_by false rs)
        → ((n == control && differ true value) || list_any (gives_other n true) rs) ≡ list_any (nat_eq n) (cons_option (if differ value false then None else Some control) (cells_by false rs))
    at control true rest = no_cell (n == control) (list_any (gives_other n true) rs) ∙ rest
    at control false rest = ap (λ b. b || list_any (gives_other n true) rs) (and_true (n == control)) ∙ ap (λ b. (n == control) || b) rest

    by : (o : Option Disable) → list_any (gives_other n true) rs ≡ list_any (nat_eq n) (cells_by false rs)
        → (option_map_or (λ (e : Disable). n == e.control && differ true e.value) o false || list_any (gives_other n true) rs) ≡ list_any (nat_eq n) (cons_option (cell_by false o) (cells_by false rs))
    by None rest = rest
    by (Some e) rest = at e.control e.value rest

others_of_zero : (n : ℕ) → (rows : List RowEntry) → list_any (gives_other n false) rows ≡ list_any (λ m. nat_eq m n) (cells_by true rows)
others_of_zero n [] = refl
others_of_zero n (r ∷ rs) = by r.disable (others_of_zero n rs)
  where
    at : (control : ℕ) (value : Bool) → list_any (gives_other n false) rs ≡ list_any (λ m. nat_eq m n) (cells_by true rs)
        → ((n == control && differ false value) || list_any (gives_other n false) rs) ≡ list_any (λ m. nat_eq m n) (cons_option (if differ value true then None else Some control) (cells_by true rs))
    at control true rest = ap (λ b. b || list_any (gives_other n false) rs) (and_true (n == control) ∙ eqb-sym n control) ∙ ap (λ b. (control == n) || b) rest
    at control false rest = no_cell (n == control) (list_any (gives_other n false) rs) ∙ rest

    by : (o : Option Disable) → list_any (gives_other n false) rs ≡ list_any (λ m. nat_eq m n) (cells_by true rs)
        → (option_map_or (λ (e : Disable). n == e.control && differ false e.value) o false || list_any (gives_other n false) rs) ≡ list_any (λ m. nat_eq m n) (cons_option (cell_by true o) (cells_by true rs))
    by None rest = rest
    by (Some e) rest = at e.control e.value rest

pub disagreeing : (rows : List RowEntry) → any_pair rows_disagree rows ≡ meet (cells_by true rows) (cells_by false rows)
disagreeing [] = refl
disagreeing (r ∷ rs) = by r.disable (disagreeing rs)
  where
    at : (control : ℕ) (value : Bool) → any_pair rows_disagree rs ≡ meet (cells_by true rs) (cells_by false rs)
        → (list_any (gives_other control value) rs || any_pair rows_disagree rs)
        ≡ meet (cons_option (if differ value true then None else Some control) (cells_by true rs)) (cons_option (if differ value false then None else Some control) (cells_by false rs))
    at control true rest = ap (λ b. b || any_pair rows_disagree rs) (others_of_one control rs) ∙ ap (λ b. list_any (nat_eq control) (cells_by false rs) || b) rest
    at control false rest =
        ap (λ b. b || any_pair rows_disagree rs) (others_of_zero control rs) ∙ ap (λ b. list_any (λ m. nat_eq m control) (cells_by true rs) || b) rest
        ∙ sym (any_either (λ m. nat_eq m control) (λ m. list_any (nat_eq m) (cells_by false rs)) (cells_by true rs))

    by : (o : Option Disable) → any_pair rows_disagree rs ≡ meet (cells_by true rs) (cells_by false rs)
        → (list_any (λ (s : RowEntry). option_map_or (λ (d : Disable). option_map_or (disables_disagree d) s.disable false) o false) rs || any_pair rows_disagree rs)
        ≡ meet (cons_option (cell_by true o) (cells_by true rs)) (cons_option (cell_by false o) (cells_by false rs))
    by None rest = ap (λ b. b || any_pair rows_disagree rs) (any_never rs) ∙ rest
    by (Some d) rest = at d.control d.value rest

pub disagree_by_sets : (rows : List RowEntry) (set zeros ones : List ℕ) → zeros ≡ cells_by false rows → ones ≡ cells_by true rows
    → ((n : ℕ) → list_any (nat_eq n) set ≡ list_any (nat_eq n) zeros) → list_any (λ n. list_any (nat_eq n) set) ones ≡ any_pair rows_disagree rows
disagree_by_sets rows set zeros ones by_zero by_one same =
    any_same (λ n. list_any (nat_eq n) set) (λ n. list_any (nat_eq n) zeros) same ones
    ∙ ap (meet ones) by_zero ∙ ap (λ ns. meet ns (cells_by false rows)) by_one ∙ sym (disagreeing rows)
