-- What `demo` writes and puts. Own.
use Rattle.std.specs.Prelude.{◌≡◌, ℕ, ◌+◌, List, [], ◌∷◌, length, codes, true}
use Rattle.std.specs.Fmt.{decimal}
use Rattle.verilog_tree.specs.Canonical.{canonical}
use Rattle.netlist_model.specs.Lists.{cell_count}
use Rattle.output_lines.specs.Lines.{words_line}
use Rattle.plan_texts.specs.Canonical.{canonical_plan}
use Rattle.plan_fitting.specs.Devices.{device_of}
use Rattle.status_insertions.specs.insertions.Insertions.{IsInsertionText}
use Rattle.command_faults.specs.declared.status.Status.{Status}
use Rattle.command_faults.specs.declared.status.Status.TheVariants as status
use Rattle.command_faults.specs.Statuses.{status_of}
use Rattle.command_edges.specs.Tasks.{Task}
use Rattle.demo_chips.specs.Netlists.{gate_count, demo_module}
use Rattle.demo_chips.specs.Plans.{demo_plan}
use Rattle.demo_chips.specs.PlansLaws.{boundary_cells}

-- the cells of a netlist: its gates, 32 flip-flops, and 16 gates of outputs
abbrev pub kept_cells : ℕ → ℕ
kept_cells number = gate_count number + 48

-- `demo N kept K boundary C`: the number, the cells of its netlist, and the boundary cells
abbrev pub demo_line : ℕ → List ℕ
demo_line number = words_line (codes "demo") (decimal number ∷ codes "kept" ∷ decimal (kept_cells number) ∷ codes "boundary" ∷ decimal boundary_cells ∷ [])

-- These two texts come of inserting the demonstration plan's test logic into the netlist of the number, and its line
-- tells the cells of that netlist and the boundary cells of the device.
pub record IsDemo (number : ℕ) (verilog bsdl : List ℕ) : Type 0 where
  pub report : List ℕ
  pub insertion : IsInsertionText [] (canonical (demo_module number)) (canonical_plan demo_plan) verilog bsdl report
  pub kept : kept_cells number ≡ cell_count insertion.is.linked.arena.lists
  pub boundary : boundary_cells ≡ length (device_of insertion.is.linked insertion.is.wanted insertion.is.fits.seen).cells

-- these are the texts of the demonstration of the number, and its line
abbrev pub AreDemo : ℕ → List (List ℕ) → List (List ℕ) → List ℕ → Status → Type 0
AreDemo number [] (verilog ∷ bsdl ∷ []) line end = IsDemo number verilog bsdl × (line ≡ demo_line number) × (end ≡ status.Done)
AreDemo number _ _ line end = ⊥

-- The texts of the demonstration are written, and its line is put. It is refused only where memory is short,
-- or a write fails.
abbrev pub demo_task : ℕ → List ℕ → List ℕ → Task
demo_task number outnet outbsdl = record {
  reads = [];
  writes = outnet ∷ outbsdl ∷ [];
  puts = true;
  Makes = AreDemo number;
  HaveFault = λ texts f. status_of f ≡ status.Memory;
  AreFree = λ texts. Unit {0};
}
