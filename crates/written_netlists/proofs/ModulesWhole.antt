-- The module that the netlist with the test logic is written as.
use Rattle.std.proofs.Common.{◌≡◌, ℕ, ◌<◌, List, map, sym, ◌∙◌, ap, subst, Option, Some}
use Rattle.std.specs.Prelude.{slice_get, IsSome}
use Rattle.list_laws.proofs.Lists.{slice_get_there}
use Rattle.list_laws.proofs.Options.{is_there}
use Rattle.verilog_tree.specs.declared.tree.Module.{Module}
use Rattle.verilog_tree.specs.IsTree.{IsTree}
use Rattle.verilog_tree.specs.Canonical.{canonical}
use Rattle.verilog_tree.specs.Texts.{SpellsText}
use Rattle.verilog_texts.specs.Laws.{BytesSpellOneTree}
use Rattle.cell_library.specs.declared.listed.ListedCell.{ListedCell}
use Rattle.link_model.specs.Cells.{NamedCell}
use Rattle.link_model.specs.Faults.{text_fault}
use Rattle.link_model.specs.Late.{IsLinkable}
use Rattle.link_model.specs.Denoted.{AreAll, IsName, IsLive, IsPort, AreCells, IsNamed, denoted}
use Rattle.netlist_model.specs.Lists.{PortView, CellView, NetlistView, cell_at, cell_count}
use Rattle.netlist_model.specs.Contained.{IsDense}
use Rattle.netlist_link.specs.Linked.{LinkedView}
use Rattle.netlist_link.specs.Links.{IsLinkOf}
use Rattle.netlist_link.specs.WellNamed.{IsWellNamed}
use Rattle.netlist_link.specs.ViewLaws.{LinkViewsAgree, LinkViewExists}
use Rattle.core_sides.specs.netlist_unlink.Trees.{Naming, naming_of}
use Rattle.core_sides.specs.netlist_unlink.Renumbered.{net_order, new_port, renumbered, IsWrittenAs}
use Rattle.core_sides.specs.netlist_unlink.ImagesLaws.{DenseKeepsPlaces}
use Rattle.wrapped_chip.specs.Realises.{Keeps}
use Rattle.plan_texts.specs.declared.plan.Plan.{Plan}
use Rattle.core_sides.specs.plan_fitting.declared.fitted.Fitted.{Fitted}
use Rattle.core_sides.specs.plan_fitting.Pins.{PinSeen}
use Rattle.core_sides.specs.plan_fitting.Devices.{fitted_of}
use Rattle.core_sides.specs.plan_fitting.DevicesLaws.{FittedIsFitting}
use Rattle.core_sides.specs.stitched_netlist.Stitched.{stitched}
use Rattle.core_sides.specs.stitched_netlist.Sizes.{StitchedHasCounts}
use Rattle.core_sides.specs.stitched_netlist.Places.{StitchedKeeps}
use Rattle.written_netlists.specs.Prepared.{AreTapNames}
use Rattle.written_netlists.specs.NamesLaws.{TapNamesAreEntered, StitchedHasFreePrefix}
use Rattle.written_netlists.specs.Written.{spelt, tap_of, IsStitchedOf}
use Rattle.written_netlists.specs.ModulesLaws.{StitchedCanBeWritten, StitchedKeepsLimits, StitchedIsWritten}
use Rattle.written_netlists.proofs.ModulesLists.{same_count}
use Rattle.written_netlists.proofs.Ports.{ports_kept, bits_kept}
use Rattle.written_netlists.proofs.ModulesCells.{cell_called}

-- Before it is written.

pub can_be_written : FittedIsFitting → StitchedHasFreePrefix → StitchedCanBeWritten
can_be_written fitting free m L p f after c =
    let is = subst (λ (g : Fitted). IsStitchedOf L g after) c.fits.is c.is in
    free L after p c.fits.seen is.names (fitting m L p f c.tree c.listed c.linked c.plan c.fits) c.laid c.linked.dense is.are is.table is.same

-- What stands there.

pub dense_after : StitchedHasCounts → (L after : LinkedView) (f : Fitted) → IsStitchedOf L f after → IsDense after.arena.lists
dense_after counts L after f is i low =
    let S : NetlistView = stitched L.arena.lists is.names f in
    let same : cell_count after.arena.lists ≡ cell_count S = same_count after.arena.lists.cells S.cells is.same.cells in
    subst (λ (o : Option CellView). IsSome o) (sym (is.same.cells i)) ((counts L.arena.lists is.names f).dense i (subst (λ (n : ℕ). i < n) same low))

-- the name of a cell as the text told it
pub record IsToldName (table : List (List ℕ)) (cell : CellView) : Type 0 where
  pub named : Option (List ℕ)
  pub is : IsName table cell.name named

pub told_name : (table : List (List ℕ)) (N : NetlistView) (cells : List NamedCell) → AreCells table N cells → (i : ℕ) (cell : CellView) → cell_at N i ≡ Some cell → IsToldName table cell
told_name table N cells are i cell live =
    let there = slice_get_there cells i (are.only i (is_there (cell_at N i) cell live)) in
    let is : IsLive table (Some cell) there.0 = subst (λ (o : Option CellView). IsLive table o there.0) live (are.each i there.0 there.1) in
    record { named = there.0.name; is = is.name }

-- One netlist that the written module tells.

-- what was stitched, of what fits
record IsFittedStitching (L : LinkedView) (p : Plan) (seen : List PinSeen) (after : LinkedView) : Type 0 where
  dense : IsDense L.arena.lists
  told : (cells : List NamedCell) × AreCells L.names L.arena.lists cells
  well : IsWellNamed L.names L.arena.lists
  is : IsStitchedOf L (fitted_of L p seen) after

-- the written netlist by its table of names
pub named_by : (after written : LinkedView) (prefix : List ℕ) (tree : Module) → IsWrittenAs after prefix tree → written.arena.lists.library ≡ after.arena.lists.library → IsLinkOf tree written
    → IsNamed written.names written.arena.lists (renumbered (naming_of after prefix) after.arena.lists)
named_by after written prefix tree writes listed link =
    subst (IsNamed written.names written.arena.lists) (ap (λ (l : List ListedCell). denoted l tree) listed ∙ writes.denotes) link.denoted

ports_by : (L after written : LinkedView) (f : Fitted) (prefix : List ℕ) (tree : Module) (is : IsStitchedOf L f after) → IsWrittenAs after prefix tree
    → written.arena.lists.library ≡ L.arena.lists.library → IsLinkOf tree written
    → AreAll (IsPort written.names) written.arena.lists.ports (map (new_port after.names (net_order after.arena.lists)) (stitched L.arena.lists is.names f).ports)
ports_by L after written f prefix tree is writes listed link =
    subst (λ (ps : List PortView). AreAll (IsPort written.names) written.arena.lists.ports (map (new_port after.names (net_order after.arena.lists)) ps)) is.same.ports
    (named_by after written prefix tree writes (listed ∙ sym is.same.library) link).ports

kept_by : TapNamesAreEntered → StitchedKeeps → DenseKeepsPlaces → StitchedHasCounts → (L : LinkedView) (p : Plan) (seen : List PinSeen) (after : LinkedView) → IsFittedStitching L p seen after
    → (tree : Module) → IsWrittenAs after p.prefix tree → (written : LinkedView) → written.arena.lists.library ≡ L.arena.lists.library → IsLinkOf tree written
    → Keeps written.arena.lists L.arena.lists (spelt written.names) (spelt L.names) (tap_of p)
kept_by entered keeps places counts L p seen after c tree writes written listed link =
    let N : NetlistView = L.arena.lists in
    let A : NetlistView = after.arena.lists in
    let M : NetlistView = written.arena.lists in
    let f : Fitted = fitted_of L p seen in
    let is = c.is in
    let naming : Naming = naming_of after p.prefix in
    let named = named_by after written p.prefix tree writes (listed ∙ sym is.same.library) link in
    let kept : (k : ℕ) (bytes : List ℕ) → slice_get L.names k ≡ Some bytes → slice_get after.names k ≡ Some bytes =
    (λ k bytes at. ap (λ (table : List (List ℕ)). slice_get table k) is.table ∙ (entered L.names f).kept k bytes at) in
    record {
      library = listed;
      ports = ports_kept L p seen M after.names written.names (net_order A) is.names c.well kept (subst (λ (table : List (List ℕ)). AreTapNames table f is.names) (sym is.table) is.are)
          (ports_by L after written f p.prefix tree is writes listed link);
      cells = λ i cell live. (let told = told_name L.names N c.told.0 c.told.1 i cell live in
          let still = (keeps N is.names f c.dense).cells i cell live in
          cell_called places A M L.names written.names naming (net_order A) (dense_after counts L after f is) kept named.cells i cell still.found told.named told.is
          (is.same.cells i ∙ still.there) still.kind still.name);
    }

pub is_written : FittedIsFitting → StitchedKeepsLimits → TapNamesAreEntered → StitchedKeeps → DenseKeepsPlaces → StitchedHasCounts → LinkViewsAgree → LinkViewExists
    → ((tree : Module) → IsTree tree → SpellsText (canonical tree) tree) → BytesSpellOneTree → StitchedIsWritten
is_written fitting limits entered keeps places counts agree exists spell one m L p f after c tree good writes =
    let none = limits m L p f after c in
    let library = c.is.same.library in
    let linkable = subst (λ (l : List ListedCell). IsLinkable l tree) library (writes.links none) in
    let spells = spell tree good in
    let fit = fitting m L p f c.tree c.listed c.linked c.plan c.fits in
    let is : IsStitchedOf L (fitted_of L p c.fits.seen) after = subst (λ (g : Fitted). IsStitchedOf L g after) c.fits.is c.is in
    record {
      spells = spells;
      only = λ other also. one (canonical tree) other tree also spells;
      faultless = ap (λ (l : List ListedCell). text_fault l tree) (sym library) ∙ writes.fault ∙ none;
      linkable = linkable;
      linked = exists L.arena.lists.library tree linkable;
      one = λ written other listed also. agree tree written other (listed ∙ sym also);
      keeps = kept_by entered keeps places counts L p c.fits.seen after
          (record { dense = c.linked.dense; told = ((denoted L.arena.lists.library m).cells, c.linked.denoted.cells); well = fit.named; is = is }) tree writes;
      bits = λ written listed link. bits_kept L.arena.lists written.arena.lists f after.names written.names (net_order after.arena.lists) c.is.names (ports_by L after written f p.prefix tree c.is writes listed link);
    }
