-- What holds of a plan that fits, taken together.
use Rattle.std.proofs.Common.{◌≡◌, ℕ, ◌<◌, true, List, length, slice_get, Some, None, arith}
use Rattle.std.specs.List.{AllByRecursion}
use Rattle.list_laws.proofs.Lists.{slice_get_there}
use Rattle.list_laws.proofs.Options.{or_else-parts}
use Rattle.netlist_model.specs.Ports.{BitHasDirection}
use Rattle.netlist_model.specs.Drivers.{DriverIsFound}
use Rattle.netlist_unlink.specs.netlist_link.Linked.{LinkedView}
use Rattle.texts.specs.First.{or_else}
use Rattle.plan_texts.specs.declared.plan.Plan.{Plan}
use Rattle.plan_texts.specs.declared.plan.PinLine.{PinLine}
use Rattle.plan_fitting.specs.Pins.{PinSeen}
use Rattle.plan_fitting.specs.Rows.{rows, has_highz}
use Rattle.plan_fitting.specs.Fits.{missing_fault, twice_fault, cell_fault, name_fault, prefix_fault}
use Rattle.plan_fitting.specs.FittingPlan.{IsFitting}
use Rattle.plan_fitting.proofs.DevicesLists.{all_from_places}
use Rattle.plan_fitting.proofs.DevicesNames.{NamesFit, names_fit}
use Rattle.plan_fitting.proofs.Taken.{TakenOnce, taken_once}
use Rattle.plan_fitting.proofs.PortBits.{AreLined, are_lined}
use Rattle.plan_fitting.proofs.Lined.{IsLined, are_fit}
use Rattle.plan_fitting.proofs.Rows.{Each, rows_each}
use Rattle.plan_fitting.proofs.RowCounts.{makes_row}
use Rattle.plan_fitting.proofs.DevicesDrivers.{makes_rows}
use Rattle.std.proofs.lemmas.Option.{slice_get_within}

-- no fault stands, kind by kind
pub record NoFault (L : LinkedView) (p : Plan) (seen : List PinSeen) : Type 0 where
  pub missing : missing_fault L seen ≡ None
  pub twice : twice_fault p seen ≡ None
  pub cells : cell_fault p.pins seen ≡ None
  pub names : name_fault L p ≡ None
  pub prefix : prefix_fault L p ≡ None

pub no_fault : (L : LinkedView) (p : Plan) (seen : List PinSeen) → IsFitting L p seen → NoFault L p seen
no_fault L p seen fits =
    let a = or_else-parts (missing_fault L seen) (or_else (twice_fault p seen) (or_else (cell_fault p.pins seen) (or_else (name_fault L p) (prefix_fault L p)))) fits.faultless in
    let b = or_else-parts (twice_fault p seen) (or_else (cell_fault p.pins seen) (or_else (name_fault L p) (prefix_fault L p))) a.1 in
    let c = or_else-parts (cell_fault p.pins seen) (or_else (name_fault L p) (prefix_fault L p)) b.1 in
    let d = or_else-parts (name_fault L p) (prefix_fault L p) c.1 in
    record { missing = a.0; twice = b.0; cells = c.0; names = d.0; prefix = d.1 }

pub record Facts (L : LinkedView) (p : Plan) (seen : List PinSeen) : Type 0 where
  pub names : NamesFit L p
  pub once : TakenOnce p seen
  pub lined : AreLined L seen
  -- each row is a data cell of a line, or a control cell
  pub each : Each (IsLined L) p.control (has_highz p.opcodes) (rows p seen)
  pub lines : (place : ℕ) (line : PinLine) (one : PinSeen) → slice_get p.pins place ≡ Some line → slice_get seen place ≡ Some one → IsLined L line one
  pub makes : AllByRecursion (λ (one : PinSeen). makes_row one one.side ≡ true) seen

pub facts_of : BitHasDirection → DriverIsFound → (L : LinkedView) (p : Plan) (seen : List PinSeen) → IsFitting L p seen → Facts L p seen
facts_of has found L p seen fits =
    let none = no_fault L p seen fits in
    let lines = are_fit L p seen fits.are_seen none.cells in
    let many : length seen ≡ length p.pins = fits.are_seen.count in
    record {
      names = names_fit L p none.names;
      once = taken_once p seen fits.are_seen.count none.twice;
      lined = are_lined L seen none.missing;
      each = rows_each (IsLined L) p seen lines;
      lines = lines;
      makes = all_from_places (λ (one : PinSeen). makes_row one one.side ≡ true) seen (λ k one there.
          let line = slice_get_there p.pins k (inside k one there many) in
          makes_rows has found L fits.formed line.0.port one (lines k line.0 one line.1 there).seen);
    }
  where
    inside : (k : ℕ) (one : PinSeen) → slice_get seen k ≡ Some one → length seen ≡ length p.pins → k < length p.pins
    inside k one there many = let low : k < length seen = slice_get_within seen k one there in omega arith
