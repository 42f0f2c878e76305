-- What the numbers that rows give tell of the rows.
use Rattle.std.proofs.Common.{◌≡◌, ℕ, Bool, true, false, ◌||◌, ◌&&◌, ◌==◌, List, [], ◌∷◌, nat_eq, Option, Some, None, if◌then◌else◌, refl, ap, ◌∙◌}
use Rattle.std.specs.List.{list_any, filter_map, cons_option}
use Rattle.std.specs.Option.{option_map, option_map_or}
use Rattle.list_laws.proofs.Numbers.{eqb-sym}
use Rattle.bsdl_device.specs.declared.values.Disable.{Disable}
use Rattle.bsdl_device.specs.declared.entries.RowEntry.{RowEntry}
use Rattle.bsdl_device.specs.Checks.{is_numbered}
use Rattle.bsdl_device.specs.RowRules.{is_control, is_disabled_by}
use Rattle.bsdl_row_rules.specs.Controls.{control_in, own_number}

pub named_by : (n : ℕ) (rows : List RowEntry) → list_any (nat_eq n) (filter_map control_in rows) ≡ list_any (is_disabled_by n) rows
named_by n [] = refl
named_by n (r ∷ rs) = by r.disable (named_by n rs)
  where
    by : (d : Option Disable) → list_any (nat_eq n) (filter_map control_in rs) ≡ list_any (is_disabled_by n) rs
        → list_any (nat_eq n) (cons_option (option_map (λ (e : Disable). e.control) d) (filter_map control_in rs)) ≡ (option_map_or (λ (e : Disable). e.control == n) d false || list_any (is_disabled_by n) rs)
    by None rest = rest
    by (Some d) rest = ap (λ b. b || list_any (nat_eq n) (filter_map control_in rs)) (eqb-sym n d.control) ∙ ap (λ b. (d.control == n) || b) rest

and_true : (b : Bool) → b ≡ (b && true)
and_true true = refl
and_true false = refl

or_nothing : (a b : Bool) → b ≡ ((a && false) || b)
or_nothing true b = refl
or_nothing false b = refl

pub present_by : (n : ℕ) (rows : List RowEntry) → list_any (nat_eq n) (filter_map own_number rows) ≡ list_any (λ (s : RowEntry). is_numbered n s && is_control s) rows
present_by n [] = refl
present_by n (r ∷ rs) = by (is_control r) (present_by n rs)
  where
    by : (b : Bool) → list_any (nat_eq n) (filter_map own_number rs) ≡ list_any (λ (s : RowEntry). is_numbered n s && is_control s) rs
        → list_any (nat_eq n) (cons_option (if b then Some r.number else None) (filter_map own_number rs)) ≡ ((r.number == n && b) || list_any (λ (s : RowEntry). is_numbered n s && is_control s) rs)
    by true rest = ap (λ b. b || list_any (nat_eq n) (filter_map own_number rs)) (eqb-sym n r.number ∙ and_true (r.number == n)) ∙ ap (λ b. (r.number == n && true) || b) rest
    by false rest = rest ∙ or_nothing (r.number == n) (list_any (λ (s : RowEntry). is_numbered n s && is_control s) rs)
