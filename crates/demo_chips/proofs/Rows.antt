-- How many boundary cells the plan has: one for each bit, and one that controls the outputs.
use Rattle.std.proofs.Common.{◌≡◌, ℕ, ◌+◌, Bool, true, false, ◌||◌, List, [], ◌∷◌, ◌++◌, map, length, position, Option, Some, None, refl, sym, ap, ◌∙◌, subst, arith, length-append}
use Rattle.std.specs.Prelude.{if◌then◌else◌}
use Rattle.std.specs.List.{list_any, list_all}
use Rattle.std.proofs.lemmas.List.Folds.{list_any-append, list_any_at}
use Rattle.std.proofs.lemmas.List.Quantifiers.{position-Some}
use Rattle.list_laws.specs.Lists.{AreAll}
use Rattle.list_laws.specs.Options.{or_else}
use Rattle.list_laws.proofs.Lists.{position_none}
use Rattle.list_laws.proofs.Tests.{and_left, and_right, or_true}
use Rattle.cell_library.specs.declared.codes.BoundaryKind.TheVariants.{Bc1}
use Rattle.cell_library.specs.declared.codes.Function.TheVariants as function
use Rattle.netlist_model.specs.declared.Dir.{Dir}
use Rattle.netlist_model.specs.declared.Dir.TheVariants as dir
use Rattle.netlist_model.specs.declared.Feed.TheVariants.{Net, Const}
use Rattle.netlist_model.specs.Drivers.{DriverDrives}
use Rattle.netlist_link.specs.Linked.{LinkedView}
use Rattle.netlist_link.specs.Links.{IsLinkOf}
use Rattle.netlist_link.specs.WellNamed.{IsWellNamed}
use Rattle.plan_texts.specs.declared.plan.PinLine.{PinLine}
use Rattle.plan_fitting.specs.declared.fitted.FitRow.{FitRow}
use Rattle.plan_fitting.specs.Pins.{PinSeen, AreSeen}
use Rattle.plan_fitting.specs.Rows.{Driver, three_state, added_driver, controls, input_row, data_row, control_row, controlled_by, controlled_rows, output_rows, rows_at, rows_after, rows}
use Rattle.demo_chips.specs.Netlists.{demo_module}
use Rattle.demo_chips.specs.Plans.{demo_plan, pin_lines}
use Rattle.demo_chips.specs.PlansLaws.{boundary_cells}
use Rattle.demo_chips.proofs.Pins.{Spot, IsSpot, chip_spots, seen_are}

-- the driver of an output that the constant 1 enables
abbrev driver : PinSeen → Driver
driver one = record { core = Net one.net; operand = Const true; active_high = true }

-- the row controls such drivers, whatever they drive
abbrev is_control : FitRow → Bool
is_control row = controls (record { core = Const true; operand = Const true; active_high = true }) row

-- how many rows there are of bits on these sides, where a row controls outputs, or none does yet
abbrev grows : Bool → List Dir → ℕ
grows controlled [] = 0
grows controlled (dir.Input ∷ sides) = 1 + grows controlled sides
grows true (dir.Output ∷ sides) = 1 + grows true sides
grows false (dir.Output ∷ sides) = 2 + grows true sides
grows controlled (dir.Inout ∷ sides) = grows controlled sides

some_position : (rows : List FitRow) (k : ℕ) (row : FitRow) → position is_control rows ≡ Some k → list_any is_control rows ≡ true
some_position rows k row at = let there = position-Some is_control rows k row at in list_any_at is_control rows k row there.0 there.1

-- what the rows of a bit come to
record Adds (before new : List FitRow) (count : ℕ) (controlled : Bool) : Type 0 where
  pub many : length new ≡ count
  pub controls : list_any is_control (before ++ new) ≡ controlled

or_none : (b : Bool) → (b || (false || false)) ≡ b
or_none true = refl
or_none false = refl

input_adds : (before : List FitRow) (line : PinLine) (one : PinSeen) → Adds before (input_row line one ∷ []) 1 (list_any is_control before)
input_adds before line one = record {
  many = refl;
  controls = list_any-append is_control before (input_row line one ∷ []) ∙ ap (λ (t : Bool). list_any is_control before || (t || false)) (plain one.clock) ∙ or_none (list_any is_control before);
}
  where
    plain : (clock : Bool) → is_control (record (input_row line one) { function = if clock then function.Clock else function.Input }) ≡ false
    plain true = refl
    plain false = refl

controlled_adds : (before : List FitRow) (line : PinLine) (one : PinSeen) (k : ℕ) → list_any is_control before ≡ true → Adds before (controlled_by Bc1 before function.Output3 line one (driver one) (Some k)) 1 true
controlled_adds before line one k has = record { many = refl; controls = list_any-append is_control before (data_row function.Output3 line one (driver one) k ∷ []) ∙ ap (λ (t : Bool). t || false) has }

first_adds : (before : List FitRow) (line : PinLine) (one : PinSeen) → Adds before (controlled_by Bc1 before function.Output3 line one (driver one) None) 2 true
first_adds before line one = record {
  many = refl;
  controls = list_any-append is_control before (data_row function.Output3 line one (driver one) (length before + 1) ∷ control_row Bc1 (driver one) ∷ []) ∙ or_true (list_any is_control before);
}

abbrev output_count : Bool → ℕ
output_count controlled = if controlled then 1 else 2

output_adds : (before : List FitRow) (line : PinLine) (one : PinSeen) → Adds before (controlled_rows Bc1 before function.Output3 line one (driver one)) (output_count (list_any is_control before)) true
output_adds before line one = by (position is_control before) refl
  where
    by : (found : Option ℕ) → position is_control before ≡ found → Adds before (controlled_by Bc1 before function.Output3 line one (driver one) (position is_control before)) (output_count (list_any is_control before)) true
    by (Some k) e =
        let has = some_position before k (input_row line one) e in
        let adds : Adds before (controlled_by Bc1 before function.Output3 line one (driver one) (Some k)) (output_count (list_any is_control before)) true =
        subst (λ (c : Bool). Adds before (controlled_by Bc1 before function.Output3 line one (driver one) (Some k)) (output_count c) true) (sym has) (controlled_adds before line one k has) in
        subst (λ (o : Option ℕ). Adds before (controlled_by Bc1 before function.Output3 line one (driver one) o) (output_count (list_any is_control before)) true) (sym e) adds
    by None e =
        let none = position_none is_control before e in
        let adds : Adds before (controlled_by Bc1 before function.Output3 line one (driver one) None) (output_count (list_any is_control before)) true =
        subst (λ (c : Bool). Adds before (controlled_by Bc1 before function.Output3 line one (driver one) None) (output_count c) true) (sym none) (first_adds before line one) in
        subst (λ (o : Option ℕ). Adds before (controlled_by Bc1 before function.Output3 line one (driver one) o) (output_count (list_any is_control before)) true) (sym e) adds

rows_of_output : (before : List FitRow) (line : PinLine) (one : PinSeen) → three_state one.driver ≡ None → rows_at Bc1 true before line one dir.Output ≡ controlled_rows Bc1 before function.Output3 line one (driver one)
rows_of_output before line one none = ap (λ (o : Option Driver). output_rows Bc1 before line one (or_else o (added_driver true (Net one.net)))) none

abbrev no_inout : Dir → Bool
no_inout dir.Inout = false
no_inout dir.Input = true
no_inout dir.Output = true

-- so many rows come of the other lines, whatever stands before
abbrev Grow : List PinLine → List PinSeen → List Dir → Type 0
Grow lines seen sides = (before : List FitRow) → length (rows_after Bc1 true before lines seen) ≡ length before + grows (list_any is_control before) sides

grown : (lines : List PinLine) (seen : List PinSeen) (sides : List Dir) (before new : List FitRow) (count : ℕ) (controlled : Bool) → Grow lines seen sides → Adds before new count controlled
    → length (rows_after Bc1 true (before ++ new) lines seen) ≡ length before + (count + grows controlled sides)
grown lines seen sides before new count controlled grow adds =
    let more : length (rows_after Bc1 true (before ++ new) lines seen) ≡ length (before ++ new) + grows (list_any is_control (before ++ new)) sides = grow (before ++ new) in
    let joined : length (before ++ new) ≡ length before + length new = length-append before new in
    let count_is = adds.many in
    let same : grows (list_any is_control (before ++ new)) sides ≡ grows controlled sides = ap (λ (c : Bool). grows c sides) adds.controls in
    omega arith

counted : (sides : List Dir) (c : Bool) → output_count c + grows true sides ≡ grows c (dir.Output ∷ sides)
counted sides true = refl
counted sides false = refl

line_grows : (line : PinLine) (one : PinSeen) (lines : List PinLine) (seen : List PinSeen) (sides : List Dir) (before : List FitRow) (side : Dir) → no_inout side ≡ true → three_state one.driver ≡ None → Grow lines seen sides
    → length (rows_after Bc1 true (before ++ rows_at Bc1 true before line one side) lines seen) ≡ length before + grows (list_any is_control before) (side ∷ sides)
line_grows line one lines seen sides before dir.Input plain none grow = grown lines seen sides before (input_row line one ∷ []) 1 (list_any is_control before) grow (input_adds before line one)
line_grows line one lines seen sides before dir.Output plain none grow =
    let more = grown lines seen sides before (controlled_rows Bc1 before function.Output3 line one (driver one)) (output_count (list_any is_control before)) true grow (output_adds before line one) in
    ap (λ (new : List FitRow). length (rows_after Bc1 true (before ++ new) lines seen)) (rows_of_output before line one none) ∙ more ∙ ap (λ (n : ℕ). length before + n) (counted sides (list_any is_control before))
line_grows line one lines seen sides before dir.Inout plain none grow = absurd (cc)

rows_grow : (lines : List PinLine) (seen : List PinSeen) (spots : List Spot) → AreAll IsSpot seen spots → length lines ≡ length spots → list_all no_inout (map (λ (s : Spot). s.side) spots) ≡ true
    → Grow lines seen (map (λ (s : Spot). s.side) spots)
rows_grow [] [] [] are many plain before = omega arith
rows_grow [] seen (s ∷ spots) are many plain before = absurd (omega (arith, many))
rows_grow [] (one ∷ seen) [] are many plain before = absurd are
rows_grow (line ∷ lines) seen [] are many plain before = absurd (omega (arith, many))
rows_grow (line ∷ lines) [] (s ∷ spots) are many plain before = absurd are
rows_grow (line ∷ lines) (one ∷ seen) (s ∷ spots) are many plain before =
    let sides : List Dir = map (λ (t : Spot). t.side) spots in
    let more : Grow lines seen sides = rows_grow lines seen spots are.1 (omega (arith, many)) (and_right (no_inout s.side) (list_all no_inout sides) plain) in
    ap (λ (d : Dir). length (rows_after Bc1 true (before ++ rows_at Bc1 true before line one d) lines seen)) are.0.side
    ∙ line_grows line one lines seen sides before s.side (and_left (no_inout s.side) (list_all no_inout sides) plain) are.0.driver more

pub rows_are_counted : DriverDrives → (number : ℕ) (L : LinkedView) → IsLinkOf (demo_module number) L → IsWellNamed L.names L.arena.lists → (seen : List PinSeen) → AreSeen L demo_plan.pins seen
    → length (rows demo_plan seen) ≡ boundary_cells
rows_are_counted law number L links well seen are = rows_grow pin_lines seen chip_spots (seen_are law number L links well seen are) refl refl []
