-- A row at no bit names no control cell.
use Rattle.std.proofs.Common.{◌≡◌, ℕ, Bool, List, [], ◌∷◌, ◌++◌, slice_get, position, Option, Some, None, refl}
use Rattle.std.specs.List.{AllByRecursion}
use Rattle.list_laws.proofs.Lists.{all_append, all_at}
use Rattle.cell_library.specs.declared.codes.BoundaryKind.{BoundaryKind}
use Rattle.cell_library.specs.declared.codes.Function.{Function}
use Rattle.cell_library.specs.declared.codes.Function.TheVariants as function
use Rattle.netlist_model.specs.declared.Dir.{Dir}
use Rattle.netlist_model.specs.declared.Dir.TheVariants as dir
use Rattle.plan_texts.specs.declared.plan.Plan.{Plan}
use Rattle.plan_texts.specs.declared.plan.PinLine.{PinLine}
use Rattle.plan_fitting.specs.declared.fitted.FitRow.{FitRow}
use Rattle.plan_fitting.specs.Pins.{PinSeen}
use Rattle.plan_fitting.specs.Rows.{Driver, controls, controlled_by, output_rows, inout_rows, rows_at, rows_after, rows, output_driver, three_state, has_highz}

abbrev pub NamesNone : FitRow → Type 0
NamesNone row = row.pin ≡ None → row.control ≡ None

by_control : (kind : BoundaryKind) (before : List FitRow) (does : Function) (line : PinLine) (one : PinSeen) (d : Driver) (number : Option ℕ)
    → AllByRecursion NamesNone (controlled_by kind before does line one d number)
by_control kind before does line one d (Some number) = ((λ e. absurd (cc)), tt)
by_control kind before does line one d None = ((λ e. absurd (cc)), ((λ e. refl), tt))

by_output : (kind : BoundaryKind) (before : List FitRow) (line : PinLine) (one : PinSeen) (d : Option Driver) → AllByRecursion NamesNone (output_rows kind before line one d)
by_output kind before line one None = ((λ e. absurd (cc)), tt)
by_output kind before line one (Some d) = by_control kind before function.Output3 line one d (position (controls d) before)

by_inout : (kind : BoundaryKind) (before : List FitRow) (line : PinLine) (one : PinSeen) (d : Option Driver) → AllByRecursion NamesNone (inout_rows kind before line one d)
by_inout kind before line one None = tt
by_inout kind before line one (Some d) = by_control kind before function.Bidir line one d (position (controls d) before)

by_line : (kind : BoundaryKind) (highz : Bool) (before : List FitRow) (line : PinLine) (one : PinSeen) (side : Dir) → AllByRecursion NamesNone (rows_at kind highz before line one side)
by_line kind highz before line one dir.Input = ((λ e. absurd (cc)), tt)
by_line kind highz before line one dir.Output = by_output kind before line one (output_driver highz one)
by_line kind highz before line one dir.Inout = by_inout kind before line one (three_state one.driver)

by_lines : (kind : BoundaryKind) (highz : Bool) (before : List FitRow) (lines : List PinLine) (seen : List PinSeen) → AllByRecursion NamesNone before
    → AllByRecursion NamesNone (rows_after kind highz before lines seen)
by_lines kind highz before [] seen all = all
by_lines kind highz before (line ∷ lines) [] all = all
by_lines kind highz before (line ∷ lines) (one ∷ seen) all =
    by_lines kind highz (before ++ rows_at kind highz before line one one.side) lines seen
    (all_append NamesNone before (rows_at kind highz before line one one.side) all (by_line kind highz before line one one.side))

pub names_none : (p : Plan) (seen : List PinSeen) (k : ℕ) (row : FitRow) → slice_get (rows p seen) k ≡ Some row → row.pin ≡ None → row.control ≡ None
names_none p seen k row at = all_at NamesNone (rows p seen) k row (by_lines p.control (has_highz p.opcodes) [] p.pins seen tt) at
