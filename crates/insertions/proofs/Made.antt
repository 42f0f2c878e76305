-- What is written of a netlist with its test logic is what inserting comes to.
use Rattle.std.proofs.Common.{◌≡◌, ℕ, ◌+◌, List, [], ◌∷◌, ◌++◌, length, None, Result, Ok, Err, IfOk, refl, sym, ap, subst, ◌∙◌}
use Rattle.std.proofs.lemmas.List.Sums.{sum_by-append}
use Rattle.verilog_tree.specs.declared.tree.Module.{Module}
use Rattle.verilog_tree.specs.Texts.{SpellsText}
use Rattle.bsdl_device.specs.declared.values.Device.{Device}
use Rattle.bsdl_device.specs.IsDevice.{IsDevice}
use Rattle.bsdl_device.specs.Canonical.{canonical_device}
use Rattle.bsdl_device.specs.Spelled.{SpellsText as SpellsDeviceText}
use Rattle.bsdl_values.specs.Laws.{DevicesAreReadBack}
use Rattle.cell_library.specs.declared.listed.ListedCell.{ListedCell}
use Rattle.cell_library.specs.Sound.{IsLibrary}
use Rattle.netlist_model.specs.Lists.{PortView, cell_count}
use Rattle.netlist_model.specs.Formed.{IsLaidOut}
use Rattle.netlist_arena.specs.Arena.{bit_count}
use Rattle.netlist_arena.specs.Room.{too_many}
use Rattle.netlist_link.specs.Linked.{LinkedView, HidesNone}
use Rattle.netlist_link.specs.Links.{IsLinkOf}
use Rattle.netlist_unlink.specs.Prefixes.{IsFreePrefix}
use Rattle.netlist_unlink.specs.Trees.{tree_of}
use Rattle.plan_texts.specs.declared.plan.Plan.{Plan}
use Rattle.plan_texts.specs.Exactly.{SpelledOnce}
use Rattle.plan_texts.specs.Grammar.{SpellsPlan}
use Rattle.plan_fitting.specs.declared.fitted.Fitted.{Fitted}
use Rattle.plan_fitting.specs.Devices.{IsFitted, fitted_of, device_of}
use Rattle.stitched_netlist.specs.declared.model.TapNames.{TapNames}
use Rattle.stitched_netlist.specs.declared.model.TapPort.{TapPort}
use Rattle.stitched_netlist.specs.Stitched.{tap_ports, tap_port}
use Rattle.insertion_report.specs.Reports.{report_of}
use Rattle.insertion_inputs.specs.declared.fault.InsertFault.{InsertFault}
use Rattle.insertion_inputs.specs.declared.fault.InsertFault.TheVariants as fault
use Rattle.insertion_inputs.specs.Inputs.{IsNetlistOf, IsLinkedTree, IsFittingAs}
use Rattle.insertion_inputs.specs.Faults.{StandsInNetlist, StandsInPlan, StandsInTexts}
use Rattle.plan_fitting.specs.DevicesLaws.{FittedIsFitting}
use Rattle.written_netlists.specs.Prepared.{room_of, ports_of, prepared, with_tap_names, AreTapNames}
use Rattle.insertion_inputs.specs.scan_stitch.Stitch.{CanStitch, IsStitched}
use Rattle.written_netlists.specs.Written.{IsStitchedOf, WritesStitched}
use Rattle.written_netlists.specs.ModulesLaws.{IsStitching, StitchedCanBeWritten, StitchedIsWritten}
use Rattle.written_netlists.specs.RunsLaws.{WrittenRealises, WrittenIsAlone, WrittenHasControls, WrittenFindsHome, WrittenIsAloneFromHome}
use Rattle.insertions.specs.declared.written_texts.Inserted.{Inserted}
use Rattle.insertions.specs.Insertions.{IsNetlistText, IsDeviceText, IsInsertion, IsInsertionText}
use Rattle.written_netlists.specs.InsertedLaws.{with_test_logic}
use Rattle.insertions.proofs.Trees.{tree_is}

-- Faults.

pub netlist_stands : (library : List ListedCell) (net text : List ℕ) (f : InsertFault) → StandsInNetlist library net f → StandsInTexts library net text f
netlist_stands library net text (fault.Netlist f) stands = stands
netlist_stands library net text (fault.Link f) stands = stands
netlist_stands library net text fault.OutOfMemory stands = tt
netlist_stands library net text f stands = absurd stands

pub plan_stands : (library : List ListedCell) (net text : List ℕ) (linked : LinkedView) (f : InsertFault) → IsNetlistOf library net linked → StandsInPlan linked text f → StandsInTexts library net text f
plan_stands library net text linked (fault.Plan f) is stands = record { linked = linked; netlist = is; stands = stands }
plan_stands library net text linked (fault.Fit f) is stands = record { linked = linked; netlist = is; stands = stands }
plan_stands library net text linked (fault.TooMany what count limit) is stands = record { linked = linked; netlist = is; stands = stands }
plan_stands library net text linked fault.OutOfMemory is stands = tt
plan_stands library net text linked f is stands = absurd stands

-- The netlist with its test logic.

pub listed_of : (library : List ListedCell) (net : List ℕ) (linked : LinkedView) → IsNetlistOf library net linked → IsLibrary linked.arena.lists.library
listed_of library net linked is = subst IsLibrary (sym is.library_is) is.listed

pub linked_tree : (library : List ListedCell) (net : List ℕ) (linked : LinkedView) → IsNetlistOf library net linked → IsLinkedTree linked
linked_tree library net linked is = record { tree = is.tree; is = is.is; listed = listed_of library net linked is; links = is.links; hides = is.hides }

abbrev pub stitching : (library : List ListedCell) (net text : List ℕ) (before readied after : LinkedView) (p : Plan) (f : Fitted) (d : Device) → (is : IsNetlistOf library net before) → IsLaidOut before.arena.lists
    → IsFittingAs text before p f d readied → IsStitchedOf before f after → IsStitching is.tree before p f after
stitching library net text before readied after p f d is laid made stitched = record {
  tree = is.is;
  listed = listed_of library net before is;
  linked = is.links;
  laid = laid;
  plan = (text, made.spells);
  fits = made.prepares.ready.fits;
  room = made.prepares.room;
  is = stitched;
}

stitching_fits : (library : List ListedCell) (net text : List ℕ) (before readied after : LinkedView) (p : Plan) (f : Fitted) (d : Device) → (is : IsNetlistOf library net before) → (laid : IsLaidOut before.arena.lists)
    → (made : IsFittingAs text before p f d readied) → (stitched : IsStitchedOf before f after) → (stitching library net text before readied after p f d is laid made stitched).fits ≡ made.prepares.ready.fits
stitching_fits library net text before readied after p f d is laid made stitched = refl

pub can_stitch : FittedIsFitting → (library : List ListedCell) (net text : List ℕ) (before readied : LinkedView) (p : Plan) (f : Fitted) (d : Device) → IsNetlistOf library net before → IsFittingAs text before p f d readied
    → CanStitch readied f
can_stitch law library net text before readied p f d is made = record {
  before = before;
  plan = p;
  fitted = made.prepares.ready.fits;
  fitting = law is.tree before p f is.is (listed_of library net before is) is.links (text, made.spells) made.prepares.ready.fits;
  dense = is.links.dense;
  prepared_is = made.prepares.after_is;
  small = made.prepares.ready.small;
  few = made.prepares.room;
}

pub stitched_of : (before ready after : LinkedView) (f : Fitted) → ready ≡ prepared f before → IsStitched ready after f → IsStitchedOf before f after
stitched_of before ready after f is made =
    let s : IsStitched (prepared f before) after f = subst (λ (l : LinkedView). IsStitched l after f) is made in
    record { names = s.tap; table = s.names; are = s.tap_is; same = s.netlist }

pub title_kept : (before ready after : LinkedView) (f : Fitted) → ready ≡ prepared f before → IsStitched ready after f → after.module_name ≡ before.module_name
title_kept before ready after f is made = made.title ∙ ap (λ (l : LinkedView). l.module_name) is

-- The report.

tap_bits : (names : TapNames) (port : TapPort) → bit_count (tap_ports names port) ≡ 5
tap_bits names port = refl

five_more : (before after : LinkedView) (f : Fitted) → IsStitchedOf before f after → bit_count after.arena.lists.ports ≡ bit_count before.arena.lists.ports + 5
five_more before after f s =
    let port = tap_port (length before.arena.lists.nets) in
    ap bit_count s.same.ports ∙ sum_by-append (λ (q : PortView). length q.nets) before.arena.lists.ports (tap_ports s.names port)
    ∙ ap (λ (n : ℕ). bit_count before.arena.lists.ports + n) (tap_bits s.names port)

-- What writing needs.

pub free_prefix : StitchedCanBeWritten → (library : List ListedCell) (net text : List ℕ) (before readied after : LinkedView) (p : Plan) (f : Fitted) (d : Device) → IsNetlistOf library net before → IsLaidOut before.arena.lists
    → IsFittingAs text before p f d readied → IsStitched readied after f → IsFreePrefix after p.prefix
free_prefix law library net text before readied after p f d is laid made built =
    law is.tree before p f after (stitching library net text before readied after p f d is laid made (stitched_of before readied after f made.prepares.after_is built))

pub device_kept : (text : List ℕ) (before readied : LinkedView) (p : Plan) (f : Fitted) (d : Device) → IsFittingAs text before p f d readied → IsDevice d
device_kept text before readied p f d made = subst IsDevice (sym made.device_is) made.prepares.device

-- The written netlist.

-- the same netlist, in which nothing is marked as hidden
abbrev unmarked : LinkedView → LinkedView
unmarked L = record {
  arena = L.arena;
  names = L.names;
  module_name = L.module_name;
  order = L.order;
  room = L.room;
  straight = record { first = length L.arena.lists.ports; count = 0 };
  inner = 0;
  rails = [];
}

unmarked_links : (m : Module) (L : LinkedView) → IsLinkOf m L → IsLinkOf m (unmarked L)
unmarked_links m L links = record { linkable = links.linkable; denoted = links.denoted; names = links.names; title = links.title; dense = links.dense }

unmarked_hides : (L : LinkedView) → HidesNone (unmarked L)
unmarked_hides L = record { straight = refl; inner = refl; rails = refl }

-- The whole.

-- what it tells
report_made : (report : List ℕ) (before after written : LinkedView) (f : Fitted) (d e : Device) → report ≡ report_of (bit_count after.arena.lists.ports) f.kept d
    → bit_count after.arena.lists.ports ≡ bit_count written.arena.lists.ports → f.kept ≡ cell_count before.arena.lists → d ≡ e
    → report ≡ report_of (bit_count written.arena.lists.ports) (cell_count before.arena.lists) e
report_made report before after written f d e told bits kept same =
    told ∙ ap (λ (n : ℕ). report_of n f.kept d) bits ∙ ap (λ (n : ℕ). report_of (bit_count written.arena.lists.ports) n d) kept
    ∙ ap (λ (other : Device). report_of (bit_count written.arena.lists.ports) (cell_count before.arena.lists) other) same

-- what it does
insertion_does : SpelledOnce → StitchedIsWritten → WrittenRealises → WrittenIsAlone → WrittenHasControls → WrittenFindsHome → WrittenIsAloneFromHome → (library : List ListedCell) (net text verilog bsdl : List ℕ) (before after : LinkedView) (p : Plan) (f : Fitted) (d : Device) → (is : IsNetlistOf library net before)
    → (s : IsStitching is.tree before p f after) → IsLaidOut after.arena.lists → SpellsPlan text p → d ≡ device_of before p s.fits.seen → IsNetlistText after p.prefix verilog → IsDeviceText d bsdl
    → IsInsertion library net text verilog bsdl
insertion_does once law realise single steer find stay library net text verilog bsdl before after p f d is s laid_after spelled device_is out device =
    let w : WritesStitched before p out.tree = law is.tree before p f after s out.tree out.is out.writes in
    written_made once realise single steer find stay library net text verilog bsdl before after p f d is s laid_after spelled device_is out device w (unmarked w.linked.0) w.linked.1
    (unmarked_links out.tree w.linked.0 w.linked.2) (unmarked_hides w.linked.0)
  where
    written_made : SpelledOnce → WrittenRealises → WrittenIsAlone → WrittenHasControls → WrittenFindsHome → WrittenIsAloneFromHome → (library : List ListedCell) (net text verilog bsdl : List ℕ) (before after : LinkedView) (p : Plan) (f : Fitted) (d : Device) → (is : IsNetlistOf library net before)
        → (s : IsStitching is.tree before p f after) → IsLaidOut after.arena.lists → SpellsPlan text p → d ≡ device_of before p s.fits.seen → (out : IsNetlistText after p.prefix verilog) → IsDeviceText d bsdl
        → WritesStitched before p out.tree → (written : LinkedView)
        → written.arena.lists.library ≡ before.arena.lists.library → IsLinkOf out.tree written → HidesNone written → IsInsertion library net text verilog bsdl
    written_made once realise single steer find stay library net text verilog bsdl before after p f d is s laid_after spelled device_is out device w written same links hides =
        record {
          tree = is.tree;
          spells = is.spells;
          only = is.only;
          linked = before;
          listed = is.listed;
          library_is = is.library_is;
          links = is.links;
          hides = is.hides;
          wanted = p;
          spells_plan = spelled;
          only_plan = λ other spells. once text other p spells spelled;
          fits = record { seen = s.fits.seen; are_seen = s.fits.are_seen; faultless = s.fits.faultless };
          written_tree = out.tree;
          spells_written = subst (λ (t : List ℕ). SpellsText t out.tree) (sym out.text_is) w.spells;
          only_written = λ other spells. w.only other (subst (λ (t : List ℕ). SpellsText t other) out.text_is spells);
          written = written;
          written_library = same ∙ is.library_is;
          links_written = links;
          written_hides = hides;
          one = λ other other_same other_links. w.one written other same (other_same ∙ sym is.library_is) links other_links;
          keeps = w.keeps written same links;
          spells_device = subst (λ (e : Device). SpellsDeviceText bsdl e) device_is device.spells;
          only_device = λ other spells. device.only other spells ∙ device_is;
          realises = realise is.tree before p f after s laid_after out.tree out.writes written same links;
          alone = single is.tree before p f after s laid_after out.tree out.writes written same links;
          controls = steer is.tree before p f after s laid_after out.tree out.writes written same links;
          finds_home = find is.tree before p f after s laid_after out.tree out.writes written same links;
          alone_from_home = stay is.tree before p f after s laid_after out.tree out.writes written same links;
        }

-- the tree that was written, in the words of what was fitted
written_tree : (m : Module) (before after : LinkedView) (p : Plan) (f : Fitted) → (s : IsStitching m before p f after) → after.module_name ≡ before.module_name → (tree : Module) → tree ≡ tree_of after p.prefix
    → tree ≡ tree_of (with_test_logic before s.is.names (fitted_of before p s.fits.seen)) p.prefix
written_tree m before after p f s title tree is =
    is ∙ tree_is before after s.is.names f p.prefix title s.is.table s.is.same ∙ ap (λ (g : Fitted). tree_of (with_test_logic before s.is.names g) p.prefix) s.fits.is

pub insertion_made : SpelledOnce → StitchedIsWritten → WrittenRealises → WrittenIsAlone → WrittenHasControls → WrittenFindsHome → WrittenIsAloneFromHome → (library : List ListedCell) (net text verilog bsdl report : List ℕ) (before after : LinkedView) (p : Plan) (f : Fitted) (d : Device) → (is : IsNetlistOf library net before)
    → (s : IsStitching is.tree before p f after) → after.module_name ≡ before.module_name → IsLaidOut after.arena.lists → SpellsPlan text p → d ≡ device_of before p s.fits.seen → IsNetlistText after p.prefix verilog
    → IsDeviceText d bsdl → report ≡ report_of (bit_count after.arena.lists.ports) f.kept d → IsInsertionText library net text verilog bsdl report
unfolding insertion_does
insertion_made once law realise single steer find stay library net text verilog bsdl report before after p f d is s title laid_after spelled device_is out device told =
    let w : WritesStitched before p out.tree = law is.tree before p f after s out.tree out.is out.writes in
    let does = insertion_does once law realise single steer find stay library net text verilog bsdl before after p f d is s laid_after spelled device_is out device in
    let written = does.written in
    let bits : bit_count after.arena.lists.ports ≡ bit_count written.arena.lists.ports =
    five_more before after f s.is ∙ sym (w.bits written (does.written_library ∙ sym is.library_is) does.links_written) in
    record {
      is = does;
      can_be_written = is.is;
      verilog_is = out.text_is;
      bsdl_is = device.text_is ∙ ap canonical_device device_is;
      report_is = report_made report before after written f d (device_of before p s.fits.seen) told bits (ap (λ (g : Fitted). g.kept) s.fits.is) device_is;
      room = subst (λ (g : Fitted). too_many before.arena.lists (room_of g) (room_of g) (ports_of g) ≡ None) s.fits.is s.room;
      names = s.is.names;
      names_are = subst (λ (g : Fitted). AreTapNames (with_tap_names g before.names) g s.is.names) s.fits.is s.is.are;
      written_is = written_tree is.tree before after p f s title out.tree out.tree_is;
    }

-- The device's text.

pub device_told : {E : Type 0} → DevicesAreReadBack → (r : Result (List ℕ) E) (d : Device) → IsDevice d → IfOk r (λ text. text ≡ canonical_device d) → IfOk r (IsDeviceText d)
device_told law (Ok text) d is told =
    let back = law d is in record {
      text_is = told;
      spells = subst (λ (t : List ℕ). SpellsDeviceText t d) (sym told) back.spells;
      only = λ other spells. back.only other (subst (λ (t : List ℕ). SpellsDeviceText t other) told spells);
    }
device_told law (Err e) d is told = tt

-- so it is of whatever was written, where memory lasted
pub insertions_made : {E : Type 0} → SpelledOnce → StitchedIsWritten → WrittenRealises → WrittenIsAlone → WrittenHasControls → WrittenFindsHome → WrittenIsAloneFromHome → (library : List ListedCell) (net text : List ℕ) (r : Result Inserted E) (before readied after : LinkedView) (p : Plan) (f : Fitted) (d : Device)
    → IsNetlistOf library net before → IsLaidOut before.arena.lists → IsLaidOut after.arena.lists → IsFittingAs text before p f d readied → IsStitched readied after f
    → IfOk r (λ made. IsNetlistText after p.prefix made.verilog) → IfOk r (λ made. IsDeviceText d made.bsdl)
    → IfOk r (λ made. made.report ≡ report_of (bit_count after.arena.lists.ports) f.kept d) → IfOk r (λ made. IsInsertionText library net text made.verilog made.bsdl made.report)
insertions_made once law realise single steer find stay library net text (Ok made) before readied after p f d is laid laid_after fitting built out device told =
    let stitched = stitched_of before readied after f fitting.prepares.after_is built in
    let same = stitching_fits library net text before readied after p f d is laid fitting stitched in
    insertion_made once law realise single steer find stay library net text made.verilog made.bsdl made.report before after p f d is (stitching library net text before readied after p f d is laid fitting stitched)
    (title_kept before readied after f fitting.prepares.after_is built) laid_after fitting.spells
    (fitting.device_is ∙ sym (ap (λ (fits : IsFitted before p f). device_of before p fits.seen) same)) out device told
insertions_made once law realise single steer find stay library net text (Err e) before readied after p f d is laid laid_after fitting built out device told = tt
