-- What is written of a netlist with its test logic and registers is what inserting with registers comes to.
use Rattle.std.proofs.Common.{◌≡◌, ℕ, ◌+◌, List, length, Result, Ok, Err, IfOk, refl, sym, ap, subst, ◌∙◌}
use Rattle.std.proofs.lemmas.List.Sums.{sum_by-append}
use Rattle.verilog_tree.specs.Texts.{SpellsText}
use Rattle.cell_library.specs.declared.listed.ListedCell.{ListedCell}
use Rattle.bsdl_device.specs.declared.registers.values.Extended.{Extended}
use Rattle.bsdl_device.specs.IsExtended.{IsExtended}
use Rattle.bsdl_device.specs.RegistersCanonical.{canonical_extended}
use Rattle.bsdl_device.specs.RegistersSpelled.{SpellsExtendedText}
use Rattle.bsdl_device.specs.RegistersRoundTripLaws.{CanonicalExtendedSpells}
use Rattle.bsdl_values.specs.RegisterTextsLaws.{SpellsOneExtended}
use Rattle.netlist_model.specs.Lists.{PortView, cell_count}
use Rattle.netlist_model.specs.Formed.{IsLaidOut}
use Rattle.netlist_arena.specs.Arena.{bit_count}
use Rattle.netlist_link.specs.Linked.{LinkedView}
use Rattle.netlist_link.specs.Links.{IsLinkOf}
use Rattle.netlist_unlink.specs.Prefixes.{IsFreePrefix}
use Rattle.plan_texts.specs.declared.plan.Plan.{Plan}
use Rattle.plan_texts.specs.Exactly as plans
use Rattle.plan_fitting.specs.declared.fitted.Fitted.{Fitted}
use Rattle.plan_fitting.specs.Devices.{IsFitted, device_of_fitted, device_of}
use Rattle.status_fitting.specs.Exactly as lines
use Rattle.status_fitting.specs.declared.fitted.FittedStatus.{FittedStatus}
use Rattle.insertions.specs.Insertions.{IsNetlistText}
use Rattle.written_netlists.specs.Written.{WritesStitched}
use Rattle.insertions.specs.insertion_inputs.Inputs.{IsNetlistOf}
use Rattle.status_inputs.specs.Inputs.{IsFittingAs}
use Rattle.plan_fitting.specs.DevicesLaws.{FittedIsFitting}
use Rattle.stitched_netlist.specs.declared.model.TapNames.{TapNames}
use Rattle.stitched_netlist.specs.declared.model.TapPort.{TapPort}
use Rattle.stitched_netlist.specs.Stitched.{tap_ports, tap_port}
use Rattle.status_inputs.specs.status_register.Devices.{extended_of}
use Rattle.status_inputs.specs.status_register.Stitch.{HasRoomFor}
use Rattle.status_inputs.specs.status_room.Prepared.{prepared_status}
use Rattle.status_inputs.specs.status_stitch.Stitch.{CanStitchStatus, IsStitchedStatus}
use Rattle.status_inputs.specs.status_register.WrittenLaws.{IsStitchedOf, IsStitching, StatusCanBeWritten, StatusIsWritten, WrittenStatusRealises, WrittenStatusIsAlone, WrittenStatusHasControls, WrittenStatusFindsHome, WrittenStatusIsAloneFromHome}
use Rattle.insertions.specs.declared.written_texts.Inserted.{Inserted}
use Rattle.status_insertions.specs.Reports.{extended_report}
use Rattle.status_insertions.specs.Insertions.{IsExtendedText, IsStatusInsertion}
use Rattle.status_insertions.proofs.Stand.{listed_of}

-- The netlist with its test logic and registers.

pub stitched_of : (before ready after : LinkedView) (f : Fitted) (s : FittedStatus) → ready ≡ prepared_status f s.registers before → IsStitchedStatus ready after f s.registers → IsStitchedOf before f s after
stitched_of before ready after f s is made =
    let m : IsStitchedStatus (prepared_status f s.registers before) after f s.registers = subst (λ (l : LinkedView). IsStitchedStatus l after f s.registers) is made in
    record { names = m.tap; table = m.names; are = m.tap_is; same = m.netlist; formed = m.linked.formed }

abbrev pub stitching : (library : List ListedCell) (net text lines : List ℕ) (before readied after : LinkedView) (p : Plan) (f : Fitted) (s : FittedStatus) (e : Extended) → (is : IsNetlistOf library net before)
    → IsLaidOut before.arena.lists → IsFittingAs text lines before p f s e readied → IsStitchedOf before f s after → IsStitching is.tree before p f s after
stitching library net text lines before readied after p f s e is laid made stitched = record {
  tree = is.is;
  listed = listed_of library net before is;
  linked = is.links;
  laid = laid;
  plan = (text, made.spells);
  fits = made.prepares.ready.fits;
  registers = made.prepares.registers;
  room = made.prepares.room;
  is = stitched;
}

pub can_stitch : FittedIsFitting → (library : List ListedCell) (net text lines : List ℕ) (before readied : LinkedView) (p : Plan) (f : Fitted) (s : FittedStatus) (e : Extended) → IsNetlistOf library net before
    → IsFittingAs text lines before p f s e readied → CanStitchStatus readied f s.registers
can_stitch law library net text lines before readied p f s e is made = record {
  before = before;
  plan = p;
  lines = made.prepares.registers.asked;
  fitted = made.prepares.ready.fits;
  fitting = law is.tree before p f is.is (listed_of library net before is) is.links (text, made.spells) made.prepares.ready.fits;
  spelled = made.prepares.registers.spelled;
  registers = made.prepares.registers.fitted;
  faultless = made.prepares.registers.faultless;
  dense = is.links.dense;
  prepared_is = made.prepares.after_is;
  small = made.prepares.ready.small;
  few = made.prepares.room;
}

-- What writing needs.

pub free_prefix : StatusCanBeWritten → (library : List ListedCell) (net text lines : List ℕ) (before readied after : LinkedView) (p : Plan) (f : Fitted) (s : FittedStatus) (e : Extended)
    → IsNetlistOf library net before → IsLaidOut before.arena.lists → IsFittingAs text lines before p f s e readied → IsStitchedStatus readied after f s.registers → IsFreePrefix after p.prefix
free_prefix law library net text lines before readied after p f s e is laid made built =
    law is.tree before p f s after (stitching library net text lines before readied after p f s e is laid made (stitched_of before readied after f s made.prepares.after_is built))

extended_same : (text lines : List ℕ) (before readied : LinkedView) (p : Plan) (f : Fitted) (s : FittedStatus) (e : Extended) (made : IsFittingAs text lines before p f s e readied)
    → e ≡ extended_of (device_of before p made.prepares.ready.fits.seen) s
extended_same text lines before readied p f s e made = made.extended_is ∙ ap (λ (g : Fitted). extended_of (device_of_fitted g) s) made.prepares.ready.fits.is

pub extended_kept : (text lines : List ℕ) (before readied : LinkedView) (p : Plan) (f : Fitted) (s : FittedStatus) (e : Extended) → IsFittingAs text lines before p f s e readied → IsExtended e
extended_kept text lines before readied p f s e made = subst IsExtended (sym (extended_same text lines before readied p f s e made)) made.prepares.device

-- The device's text.

pub extended_told : {E : Type 0} → CanonicalExtendedSpells → SpellsOneExtended → (r : Result (List ℕ) E) (e : Extended) → IsExtended e → IfOk r (λ text. text ≡ canonical_extended e) → IfOk r (IsExtendedText e)
extended_told spell once (Ok text) e is told =
    let spells : SpellsExtendedText text e = subst (λ (t : List ℕ). SpellsExtendedText t e) (sym told) (spell e is) in
    record { text_is = told; spells = spells; only = λ other also. once text e other spells also }
extended_told spell once (Err f) e is told = tt

-- The whole.

tap_bits : (names : TapNames) (port : TapPort) → bit_count (tap_ports names port) ≡ 5
tap_bits names port = refl

-- five port bits more
five_more : (before after : LinkedView) (f : Fitted) (s : FittedStatus) → IsStitchedOf before f s after → bit_count after.arena.lists.ports ≡ bit_count before.arena.lists.ports + 5
five_more before after f s st =
    let port = tap_port (length before.arena.lists.nets) in
    ap bit_count st.same.ports ∙ sum_by-append (λ (q : PortView). length q.nets) before.arena.lists.ports (tap_ports st.names port)
    ∙ ap (λ (n : ℕ). bit_count before.arena.lists.ports + n) (tap_bits st.names port)

-- own: the laws that stand beneath
pub record Laws : Type 0 where
  pub plans_once : plans.SpelledOnce
  pub lines_once : lines.SpelledOnce
  pub writes : StatusIsWritten
  pub realise : WrittenStatusRealises
  pub single : WrittenStatusIsAlone
  pub steer : WrittenStatusHasControls
  pub find : WrittenStatusFindsHome
  pub stay : WrittenStatusIsAloneFromHome

insertion_made : Laws → (library : List ListedCell) (net text lines verilog bsdl report : List ℕ) (before readied after : LinkedView) (p : Plan) (f : Fitted) (s : FittedStatus) (e : Extended)
    → (is : IsNetlistOf library net before) → IsLaidOut before.arena.lists → IsLaidOut after.arena.lists → (made : IsFittingAs text lines before p f s e readied) → IsStitchedStatus readied after f s.registers
    → (out : IsNetlistText after p.prefix verilog) → IsExtendedText e bsdl
    → report ≡ extended_report (bit_count after.arena.lists.ports) f.kept e → IsStatusInsertion library net text lines verilog bsdl report
insertion_made laws library net text lines verilog bsdl report before readied after p f s e is laid laid_after made built out device told =
    let stitched = stitched_of before readied after f s made.prepares.after_is built in
    let st : IsStitching is.tree before p f s after = stitching library net text lines before readied after p f s e is laid made stitched in
    let w : WritesStitched before p out.tree = laws.writes is.tree before p f s after st out.tree out.is out.writes in
    let written : LinkedView = w.linked.0 in
    let same = w.linked.1 in
    let links : IsLinkOf out.tree written = w.linked.2 in
    let fits : IsFitted before p f = made.prepares.ready.fits in
    let bits : bit_count after.arena.lists.ports ≡ bit_count written.arena.lists.ports = five_more before after f s stitched ∙ sym (w.bits written same links) in
    let kept : f.kept ≡ cell_count before.arena.lists = ap (λ (g : Fitted). g.kept) fits.is in
    let whole : e ≡ extended_of (device_of before p fits.seen) s = extended_same text lines before readied p f s e made in
    record {
      tree = is.tree;
      spells = is.spells;
      only = is.only;
      is = is.is;
      linked = before;
      listed = is.listed;
      library_is = is.library_is;
      links = is.links;
      wanted = p;
      spells_plan = made.spells;
      only_plan = λ other spells. laws.plans_once text other p spells made.spells;
      fits = record { seen = fits.seen; are_seen = fits.are_seen; faultless = fits.faultless };
      asked = made.registers.asked;
      spells_registers = made.registers.spells;
      only_registers = λ other spells. laws.lines_once lines other made.registers.asked spells made.registers.spells;
      faultless = made.registers.faultless;
      registers = s;
      registers_fit = made.registers.fitted;
      room = subst (λ (g : Fitted). HasRoomFor before g s) fits.is made.prepares.room;
      written_tree = out.tree;
      verilog_is = out.text_is;
      spells_written = subst (λ (t : List ℕ). SpellsText t out.tree) (sym out.text_is) w.spells;
      only_written = λ other spells. w.only other (subst (λ (t : List ℕ). SpellsText t other) out.text_is spells);
      written = written;
      written_library = same ∙ is.library_is;
      links_written = links;
      one = λ other other_same other_links. w.one written other same (other_same ∙ sym is.library_is) links other_links;
      keeps = w.keeps written same links;
      device = subst (λ (x : Extended). IsExtendedText x bsdl) whole device;
      report_is = told ∙ ap (λ (n : ℕ). extended_report n f.kept e) bits ∙ ap (λ (n : ℕ). extended_report (bit_count written.arena.lists.ports) n e) kept
          ∙ ap (λ (x : Extended). extended_report (bit_count written.arena.lists.ports) (cell_count before.arena.lists) x) whole;
      realises = laws.realise is.tree before p f s after st laid_after out.tree out.writes written same links;
      alone = laws.single is.tree before p f s after st laid_after out.tree out.writes written same links;
      controls = laws.steer is.tree before p f s after st laid_after out.tree out.writes written same links;
      finds_home = laws.find is.tree before p f s after st laid_after out.tree out.writes written same links;
      alone_from_home = laws.stay is.tree before p f s after st written;
    }

-- so it is of whatever was written, where memory lasted
pub insertions_made : {E : Type 0} → Laws → (library : List ListedCell) (net text lines : List ℕ) (r : Result Inserted E) (before readied after : LinkedView) (p : Plan) (f : Fitted) (s : FittedStatus) (e : Extended)
    → IsNetlistOf library net before → IsLaidOut before.arena.lists → IsLaidOut after.arena.lists → IsFittingAs text lines before p f s e readied → IsStitchedStatus readied after f s.registers
    → IfOk r (λ made. IsNetlistText after p.prefix made.verilog) → IfOk r (λ made. IsExtendedText e made.bsdl)
    → IfOk r (λ made. made.report ≡ extended_report (bit_count after.arena.lists.ports) f.kept e) → IfOk r (λ made. IsStatusInsertion library net text lines made.verilog made.bsdl made.report)
insertions_made laws library net text lines (Ok made) before readied after p f s e is laid laid_after fitting built out device told =
    insertion_made laws library net text lines made.verilog made.bsdl made.report before readied after p f s e is laid laid_after fitting built out device told
insertions_made laws library net text lines (Err x) before readied after p f s e is laid laid_after fitting built out device told = tt
