-- What a demonstration comes to, from what is inserted.
use Rattle.std.proofs.Common.{◌≡◌, ℕ, List, [], length, sym, ◌∙◌, subst}
use Rattle.std.proofs.lemmas.List.{length-map}
use Rattle.verilog_tree.specs.declared.tree.Module.{Module}
use Rattle.verilog_tree.specs.IsTree.{IsTree}
use Rattle.verilog_tree.specs.Canonical.{canonical}
use Rattle.cell_library.specs.Sound.{IsLibrary}
use Rattle.netlist_link.specs.Linked.{LinkedView}
use Rattle.netlist_link.specs.Links.{IsLinkOf}
use Rattle.plan_texts.specs.declared.plan.Plan.{Plan}
use Rattle.plan_texts.specs.Canonical.{canonical_plan}
use Rattle.plan_fitting.specs.Pins.{PinSeen, AreSeen}
use Rattle.plan_fitting.specs.Rows.{rows}
use Rattle.plan_fitting.specs.Devices.{fitted_of, cell_row, device_of}
use Rattle.status_insertions.specs.insertions.Insertions.{IsInsertionText}
use Rattle.demo_chips.specs.Netlists.{demo_module}
use Rattle.demo_chips.specs.Plans.{demo_plan}
use Rattle.demo_chips.specs.NetlistsLaws.{DemoHasItsCells}
use Rattle.demo_chips.specs.PlansLaws.{ChipsAreCounted, PlanIsAlone, boundary_cells}
use Rattle.insert_command.specs.Demonstrations.{IsDemo}

-- Texts that come of inserting.

-- so many cells has the device of the plan, where the plan is this one
cells_counted : (L : LinkedView) (p q : Plan) (seen : List PinSeen) → p ≡ q → ((s : List PinSeen) → AreSeen L q.pins s → length (rows q s) ≡ boundary_cells) → AreSeen L p.pins seen → boundary_cells ≡ length (device_of L p seen).cells
cells_counted L p q seen same counts are =
    let f = fitted_of L p seen in
    let here : length (rows p seen) ≡ boundary_cells = subst (λ (r : Plan). AreSeen L r.pins seen → length (rows r seen) ≡ boundary_cells) (sym same) (counts seen) are in
    sym (length-map f.rows (cell_row f) ∙ here)

pub demo_is : DemoHasItsCells → ChipsAreCounted → PlanIsAlone → (number : ℕ) (verilog bsdl report : List ℕ) → IsTree (demo_module number)
    → (i : IsInsertionText [] (canonical (demo_module number)) (canonical_plan demo_plan) verilog bsdl report) → demo_module number ≡ i.is.tree → IsDemo number verilog bsdl
demo_is cells counted alone number verilog bsdl report tree i same =
    let links = subst (λ (t : Module). IsLinkOf t i.is.linked) (sym same) i.is.links in
    let counts = counted number i.is.linked tree (subst IsLibrary (sym i.is.library_is) i.is.listed) links in
    record {
      report = report;
      insertion = i;
      kept = sym (cells number i.is.linked links);
      boundary = cells_counted i.is.linked i.is.wanted demo_plan i.is.fits.seen (alone i.is.wanted i.is.spells_plan) counts.boundary i.is.fits.are_seen;
    }
