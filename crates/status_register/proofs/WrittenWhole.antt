-- The module that the netlist with the test logic and registers is written as, and how the netlist behaves that it tells.
use Rattle.std.proofs.Common.{◌≡◌, ℕ, ◌+◌, ◌≤◌, List, map, length, Some, refl, sym, ◌∙◌, ap, subst}
use Rattle.std.specs.Prelude.{slice_get}
use Rattle.list_laws.proofs.Options.{is_there}
use Rattle.verilog_tree.specs.declared.tree.Module.{Module}
use Rattle.verilog_tree.specs.IsTree.{IsTree}
use Rattle.verilog_tree.specs.Canonical.{canonical}
use Rattle.verilog_tree.specs.Texts.{SpellsText}
use Rattle.verilog_texts.specs.Laws.{BytesSpellOneTree}
use Rattle.cell_library.specs.declared.listed.ListedCell.{ListedCell}
use Rattle.link_model.specs.Cells.{NamedCell}
use Rattle.link_model.specs.Faults.{text_fault}
use Rattle.link_model.specs.Late.{IsLinkable}
use Rattle.link_model.specs.Denoted.{AreAll, IsPort, AreCells, denoted}
use Rattle.netlist_model.specs.declared.Name.TheVariants.{Original}
use Rattle.netlist_model.specs.Lists.{CellView, PortView, NetlistView, cell_at}
use Rattle.netlist_model.specs.Contained.{IsDense}
use Rattle.netlist_model.specs.Formed.{IsLaidOut}
use Rattle.netlist_model.specs.Renumbered.{IsRenumbering}
use Rattle.netlist_link.specs.Linked.{LinkedView}
use Rattle.netlist_link.specs.Links.{IsLinkOf}
use Rattle.netlist_link.specs.WellNamed.{IsWellNamed}
use Rattle.netlist_link.specs.ViewLaws.{LinkViewsAgree, LinkViewExists}
use Rattle.netlist_unlink.specs.Trees.{Naming, naming_of}
use Rattle.netlist_unlink.specs.Renumbered.{net_order, new_port, IsWrittenAs}
use Rattle.register_gates.specs.Constants.{ConstantsAreBits}
use Rattle.wrapped_chip.specs.Realises.{Keeps}
use Rattle.wrapped_chip.specs.CopiesLaws.{KeepsNumbers, HasNumbers, RenumberedRealisesBy, RenumberedAlone, RenumberedFindsHomeBy, RenumberedControls}
use Rattle.netlist_unlink.specs.ImagesLaws.{new_number, new_place, WrittenIsRenumbered, DenseKeepsPlaces}
use Rattle.plan_texts.specs.declared.plan.Plan.{Plan}
use Rattle.plan_fitting.specs.declared.fitted.Fitted.{Fitted}
use Rattle.plan_fitting.specs.Pins.{PinSeen}
use Rattle.plan_fitting.specs.Devices.{fitted_of, device_of}
use Rattle.plan_fitting.specs.FittingPlan.{IsFitting}
use Rattle.plan_fitting.specs.DevicesLaws.{FittedIsFitting}
use Rattle.plan_fitting.proofs.PlanClock.{plans_have_registers}
use Rattle.stitched_netlist.specs.declared.model.TapNames.{TapNames}
use Rattle.stitched_netlist.specs.Sides.{core_cell}
use Rattle.stitched_netlist.specs.Stitched.{boundary_at, stitched}
use Rattle.stitched_netlist.specs.Sizes.{StitchedHasCounts}
use Rattle.written_netlists.specs.Prepared.{AreTapNames}
use Rattle.written_netlists.specs.NamesLaws.{TapNamesAreEntered, StitchedHasFreePrefix}
use Rattle.written_netlists.specs.Same.{IsSameNetlist}
use Rattle.written_netlists.specs.Written.{spelt, tap_of}
use Rattle.written_netlists.proofs.Ports.{ports_kept, bits_kept}
use Rattle.written_netlists.proofs.ModulesCells.{cell_called}
use Rattle.written_netlists.proofs.ModulesWhole.{told_name, named_by}
use Rattle.written_netlists.proofs.ModulesLimits.{none_passed}
use Rattle.status_fitting.specs.declared.fitted.FittedStatus.{FittedStatus}
use Rattle.status_stitch.specs.status_build.FormedLaws.{RegistersAreNamed}
use Rattle.status_stitch.specs.status_room.Needed.{AreBuildable}
use Rattle.status_stitch.specs.status_room.ReadyLaws.{FittedCanBeBuilt}
use Rattle.status_gates.specs.Realises.{status_tdo, register_lengths, status_home_tdo}
use Rattle.status_stitch.specs.Built.{IsBuilt}
use Rattle.status_stitch.specs.BuiltLaws.{BuiltHasStatus, BuiltStatusRealises, BuiltStatusIsAlone, BuiltStatusFindsHome, IsWholeStatus}
use Rattle.status_stitch.specs.RealisedLaws.{StatusIsAloneFromHome}
use Rattle.status_stitch.specs.Stitched.{stitched_status}
use Rattle.status_register.specs.Stitch.{HasRoomFor}
use Rattle.status_register.proofs.Built.{built_of}
use Rattle.status_register.specs.WrittenLaws.{IsStitchedOf, IsStitching, StatusCanBeWritten, StatusKeepsLimits, StatusIsWritten, WrittenStatusRealises, WrittenStatusIsAlone, WrittenStatusFindsHome, WrittenStatusIsAloneFromHome, WrittenStatusHasControls}
use Rattle.status_register.proofs.WrittenCells.{used_before, used_same, dense_after, core_after}
use Rattle.status_register.proofs.Limits.{status_fits}

-- What stands beneath.

-- own: a netlist without gaps, its cells as a text told them, and its names
record IsLinkedAs (L : LinkedView) : Type 0 where
  dense : IsDense L.arena.lists
  told : (cells : List NamedCell) × AreCells L.names L.arena.lists cells
  well : IsWellNamed L.names L.arena.lists

-- What was stitched, of the netlist that fits.

abbrev fits_of : FittedIsFitting → (m : Module) (L : LinkedView) (p : Plan) (f : Fitted) (s : FittedStatus) (after : LinkedView) (c : IsStitching m L p f s after) → IsFitting L p c.fits.seen
fits_of fitting m L p f s after c = fitting m L p f c.tree c.listed c.linked c.plan c.fits

stitched_here : (m : Module) (L : LinkedView) (p : Plan) (f : Fitted) (s : FittedStatus) (after : LinkedView) (c : IsStitching m L p f s after) → IsStitchedOf L (fitted_of L p c.fits.seen) s after
stitched_here m L p f s after c = subst (λ (g : Fitted). IsStitchedOf L g s after) c.fits.is c.is

-- Before it is written.

same_itself : (N : NetlistView) → IsSameNetlist N N
same_itself N = record { library = refl; ports = refl; nets = refl; cells = λ k. refl }

pub can_be_written : FittedIsFitting → StitchedHasFreePrefix → RegistersAreNamed → StatusCanBeWritten
can_be_written fitting free names m L p f s after c =
    let g : Fitted = fitted_of L p c.fits.seen in
    let is = stitched_here m L p f s after c in
    let base : NetlistView = stitched L.arena.lists is.names g in
    let plain : LinkedView = record after { arena = record after.arena { lists = base } } in
    let found = free L plain p c.fits.seen is.names (fits_of fitting m L p f s after c) c.laid c.linked.dense is.are is.table (same_itself base) in
    record {
      word = found.word;
      free = λ number rest used at. found.free number rest
          (used_before names L.arena.lists is.names g s.registers (Original number) number
          (used_same after.arena.lists (stitched_status L.arena.lists is.names g s.registers) is.same (Original number) used) refl) at;
    }

-- Limits.

pub keeps_limits : FittedIsFitting → FittedCanBeBuilt → StitchedHasCounts → ConstantsAreBits → StatusKeepsLimits
keeps_limits fitting built counts constants m L p f s after c =
    let g : Fitted = fitted_of L p c.fits.seen in
    let fits = fits_of fitting m L p f s after c in
    let is = stitched_here m L p f s after c in
    let room = subst (λ (h : Fitted). HasRoomFor L h s) c.fits.is c.room in
    let can : AreBuildable L.arena.lists g s.registers = built L p c.fits.seen c.registers.asked s fits c.registers.spelled c.registers.fitted c.registers.faultless in
    let short : g.codes.length ≤ 32 = (plans_have_registers p c.plan).most in
    none_passed after.arena.lists (status_fits counts constants after.arena.lists L.arena.lists is.names g s.registers is.same short can.each room)

-- The netlist that the module tells.

ports_by : (L after written : LinkedView) (f : Fitted) (s : FittedStatus) (prefix : List ℕ) (tree : Module) (is : IsStitchedOf L f s after) → IsWrittenAs after prefix tree
    → written.arena.lists.library ≡ L.arena.lists.library → IsLinkOf tree written
    → AreAll (IsPort written.names) written.arena.lists.ports (map (new_port after.names (net_order after.arena.lists)) (stitched L.arena.lists is.names f).ports)
ports_by L after written f s prefix tree is writes listed link =
    subst (λ (ps : List PortView). AreAll (IsPort written.names) written.arena.lists.ports (map (new_port after.names (net_order after.arena.lists)) ps)) is.same.ports
    (named_by after written prefix tree writes (listed ∙ sym is.same.library) link).ports

kept_by : TapNamesAreEntered → DenseKeepsPlaces → (L : LinkedView) (p : Plan) (seen : List PinSeen) (s : FittedStatus) (after : LinkedView) → IsLinkedAs L → IsStitchedOf L (fitted_of L p seen) s after
    → (tree : Module) → IsWrittenAs after p.prefix tree → (written : LinkedView) → written.arena.lists.library ≡ L.arena.lists.library → IsLinkOf tree written
    → Keeps written.arena.lists L.arena.lists (spelt written.names) (spelt L.names) (tap_of p)
kept_by entered places L p seen s after linked is tree writes written listed link =
    let N : NetlistView = L.arena.lists in
    let A : NetlistView = after.arena.lists in
    let M : NetlistView = written.arena.lists in
    let f : Fitted = fitted_of L p seen in
    let naming : Naming = naming_of after p.prefix in
    let named = named_by after written p.prefix tree writes (listed ∙ sym is.same.library) link in
    let kept : (k : ℕ) (bytes : List ℕ) → slice_get L.names k ≡ Some bytes → slice_get after.names k ≡ Some bytes =
    (λ k bytes at. ap (λ (table : List (List ℕ)). slice_get table k) is.table ∙ (entered L.names f).kept k bytes at) in
    record {
      library = listed;
      ports = ports_kept L p seen M after.names written.names (net_order A) is.names linked.well kept (subst (λ (table : List (List ℕ)). AreTapNames table f is.names) (sym is.table) is.are)
          (ports_by L after written f s p.prefix tree is writes listed link);
      cells = λ i cell live. (let told = told_name L.names N linked.told.0 linked.told.1 i cell live in
          cell_called places A M L.names written.names naming (net_order A) (dense_after A N is.names f s.registers is.same) kept named.cells i cell (core_cell (boundary_at N f) cell) told.named told.is
          (core_after A N is.names f s.registers is.same linked.dense i cell live) refl refl);
    }

-- own: the laws that stand beneath
pub record WritingLaws : Type 0 where
  pub fitting : FittedIsFitting
  pub limits : StatusKeepsLimits
  pub entered : TapNamesAreEntered
  pub places : DenseKeepsPlaces
  pub agree : LinkViewsAgree
  pub exists : LinkViewExists
  pub spell : (tree : Module) → IsTree tree → SpellsText (canonical tree) tree
  pub one : BytesSpellOneTree

pub is_written : WritingLaws → StatusIsWritten
is_written laws m L p f s after c tree good writes =
    let none = laws.limits m L p f s after c in
    let library = c.is.same.library in
    let linkable = subst (λ (l : List ListedCell). IsLinkable l tree) library (writes.links none) in
    let spells = laws.spell tree good in
    let fit = fits_of laws.fitting m L p f s after c in
    let linked : IsLinkedAs L = record { dense = c.linked.dense; told = ((denoted L.arena.lists.library m).cells, c.linked.denoted.cells); well = fit.named } in
    record {
      spells = spells;
      only = λ other also. laws.one (canonical tree) other tree also spells;
      faultless = ap (λ (l : List ListedCell). text_fault l tree) (sym library) ∙ writes.fault ∙ none;
      linkable = linkable;
      linked = laws.exists L.arena.lists.library tree linkable;
      one = λ written other listed also. laws.agree tree written other (listed ∙ sym also);
      keeps = kept_by laws.entered laws.places L p c.fits.seen s after linked (stitched_here m L p f s after c) tree writes;
      bits = λ written listed link. bits_kept L.arena.lists written.arena.lists f after.names written.names (net_order after.arena.lists) c.is.names (ports_by L after written f s p.prefix tree c.is writes listed link);
    }

-- How it behaves.

-- own: the laws that stand beneath
pub record RunLaws : Type 0 where
  pub fitting : FittedIsFitting
  pub renumbered : WrittenIsRenumbered
  pub places : DenseKeepsPlaces

-- the netlist that was stitched, and the one that is told, by their numbers
record Told (L : LinkedView) (p : Plan) (seen : List PinSeen) (s : FittedStatus) (A M : NetlistView) : Type 0 where
  fits : IsFitting L p seen
  names : TapNames
  built : IsBuilt A L.arena.lists names (fitted_of L p seen) s.registers
  to : ℕ → ℕ
  at : ℕ → ℕ
  anew : IsRenumbering A M to at
  stay : KeepsNumbers L.arena.lists at
  has : HasNumbers A L.arena.lists

told_by : RunLaws → (m : Module) (L : LinkedView) (p : Plan) (f : Fitted) (s : FittedStatus) (after : LinkedView) (c : IsStitching m L p f s after) → IsLaidOut after.arena.lists
    → (tree : Module) → IsWrittenAs after p.prefix tree → (written : LinkedView) → written.arena.lists.library ≡ L.arena.lists.library → IsLinkOf tree written
    → Told L p c.fits.seen s after.arena.lists written.arena.lists
told_by laws m L p f s after c laid tree writes written listed link =
    let N : NetlistView = L.arena.lists in
    let A : NetlistView = after.arena.lists in
    let g : Fitted = fitted_of L p c.fits.seen in
    let is = stitched_here m L p f s after c in
    let there = λ (i : ℕ) (cell : CellView) (live : cell_at N i ≡ Some cell). core_after A N is.names g s.registers is.same c.linked.dense i cell live in
    record {
      fits = fits_of laws.fitting m L p f s after c;
      names = is.names;
      built = built_of A N is.names g s.registers is.formed is.same;
      to = new_number A;
      at = new_place A.cells;
      anew = laws.renumbered after written p.prefix tree laid writes (listed ∙ sym is.same.library) link;
      stay = λ i cell live. laws.places A (dense_after A N is.names g s.registers is.same) i
          (is_there (cell_at A i) (core_cell (boundary_at N g) cell) (there i cell live));
      has = λ i cell live. (core_cell (boundary_at N g) cell, there i cell live);
    }

whole_of : (m : Module) (L : LinkedView) (p : Plan) (f : Fitted) (s : FittedStatus) (after : LinkedView) (c : IsStitching m L p f s after) (M : NetlistView) (told : Told L p c.fits.seen s after.arena.lists M)
    → IsWholeStatus L p c.fits.seen told.names c.registers.asked s after.arena.lists
whole_of m L p f s after c M told = record {
  fits = told.fits;
  laid_out = c.laid;
  dense = c.linked.dense;
  spelled = c.registers.spelled;
  fitted_is = c.registers.fitted;
  faultless = c.registers.faultless;
  built = told.built;
}

pub realises : RunLaws → BuiltStatusRealises → RenumberedRealisesBy → WrittenStatusRealises
realises laws built copies m L p f s after c laid tree writes written listed link =
    let A : NetlistView = after.arena.lists in
    let B = device_of L p c.fits.seen in
    let t = told_by laws m L p f s after c laid tree writes written listed link in
    copies A written.arena.lists L.arena.lists B (status_tdo s.registers B) t.to t.at t.anew t.built.formed t.stay
    (built L p c.fits.seen t.names c.registers.asked s A (whole_of m L p f s after c written.arena.lists t))

pub is_alone : RunLaws → BuiltStatusIsAlone → RenumberedAlone → WrittenStatusIsAlone
is_alone laws built copies m L p f s after c laid tree writes written listed link =
    let A : NetlistView = after.arena.lists in
    let B = device_of L p c.fits.seen in
    let t = told_by laws m L p f s after c laid tree writes written listed link in
    copies A written.arena.lists L.arena.lists B t.to t.at t.anew t.built.formed t.stay (built L p c.fits.seen t.names c.registers.asked s A (whole_of m L p f s after c written.arena.lists t))

pub finds_home : RunLaws → BuiltStatusFindsHome → RenumberedFindsHomeBy → WrittenStatusFindsHome
finds_home laws built copies m L p f s after c laid tree writes written listed link =
    let A : NetlistView = after.arena.lists in
    let B = device_of L p c.fits.seen in
    let t = told_by laws m L p f s after c laid tree writes written listed link in
    copies A written.arena.lists L.arena.lists B (register_lengths s.registers) (status_home_tdo s.registers B) t.to t.at t.anew t.built.formed t.has t.stay
    (built L p c.fits.seen t.names c.registers.asked s A (whole_of m L p f s after c written.arena.lists t))

pub is_alone_from_home : FittedIsFitting → StatusIsAloneFromHome → WrittenStatusIsAloneFromHome
is_alone_from_home fitting alone m L p f s after c written = alone L p c.fits.seen written.arena.lists s.registers (fits_of fitting m L p f s after c)

pub has_controls : RunLaws → BuiltHasStatus → RenumberedControls → WrittenStatusHasControls
has_controls laws built copies m L p f s after c laid tree writes written listed link =
    let A : NetlistView = after.arena.lists in
    let t = told_by laws m L p f s after c laid tree writes written listed link in
    copies A written.arena.lists L.arena.lists t.to t.at t.anew (built L p c.fits.seen t.names A s.registers t.fits c.laid c.linked.dense t.built).controls
