-- A netlist that keeps and realises has the chip of its device; so has what is read of texts that belong together.
use Rattle.std.proofs.Common.{◌≡◌, ◌≢◌, ℕ, Bool, true, false, List, [], ◌++◌, map, slice_get, Option, Some, None, refl, sym, ap, ◌∙◌, subst}
use Rattle.std.specs.Prelude.{option_and_then}
use Rattle.list_laws.proofs.Options.{some_same}
use Rattle.verilog_tree.specs.declared.tree.Module.{Module}
use Rattle.verilog_tree.specs.IsTree.{IsTree}
use Rattle.verilog_tree.specs.Conditions.{SpelledTreesKeepConditions}
use Rattle.verilog_texts.specs.Laws.{BytesSpellOneTree}
use Rattle.cell_library.specs.declared.listed.ListedCell.{ListedCell}
use Rattle.cell_library.specs.Sound.{IsLibrary}
use Rattle.netlist_model.specs.declared.Dir.TheVariants.{Inout}
use Rattle.netlist_model.specs.declared.NetId.{NetId}
use Rattle.netlist_model.specs.Lists.{PortView, bit_net, direction}
use Rattle.netlist_model.specs.Ports.{BitHasDirection}
use Rattle.netlist_model.specs.Formed.{IsWellFormed}
use Rattle.netlist_link.specs.Linked.{LinkedView, HidesNone, is_straight}
use Rattle.netlist_link.specs.Links.{IsLinkOf}
use Rattle.netlist_link.specs.ViewLaws.{IsSameView, LinkViewsAgree, LinkViewIsNamed, LinkViewIsFormed}
use Rattle.netlist_link.specs.WellNamed.{IsWellNamed}
use Rattle.bsdl_device.specs.declared.values.Device.{Device}
use Rattle.bsdl_device.specs.IsDevice.{IsDevice}
use Rattle.bsdl_device.specs.RoundTripLaws.{SpelledDevicesKeep}
use Rattle.bsdl_values.specs.Laws.{SpellsOneDevice}
use Rattle.wrapped_chip.specs.Realises.{port_text, tap_ports, SameBit, Keeps, Realises}
use Rattle.wrapped_chip.specs.CopiesLaws.{SameRealises}
use Rattle.plan_texts.specs.declared.plan.Plan.{Plan}
use Rattle.plan_fitting.specs.Pins.{PinSeen}
use Rattle.plan_fitting.specs.Devices.{device_of}
use Rattle.plan_fitting.specs.FittingPlan.{HasWidths, IsFitting}
use Rattle.plan_fitting.specs.DevicesLaws.{PlansSuitNetlists, DevicesHavePorts, HiddenBitsHaveNone}
use Rattle.program_runs.specs.Laws.{PlansStandAround}
use Rattle.scan_vectors.specs.declared.lines.Lines.{Lines}
use Rattle.scan_vectors.specs.Canonical.{canonical_lines}
use Rattle.scan_vectors.specs.Exactly.{SpelledOnce}
use Rattle.scan_vectors.specs.Rules.{IsBroken}
use Rattle.scan_vectors.proofs.Verdicts.{spelled_lengths}
use Rattle.scan_programs.specs.Program.{program_of}
use Rattle.conformance_report.specs.Agreement.{PortsAgree}
use Rattle.program_runs.specs.Beside.{IsHiddenBeside, IsDescribed}
use Rattle.program_runs.specs.ScriptsLaws.{AreHiddenStarts, HasChip, ProgramsAreLegal, ScriptsAreMet}
use Rattle.written_netlists.specs.Written.{spelt, tap_of}
use Rattle.insertion_laws.specs.ChecksTexts.{IsRead, HidesSame, KeepsAndRealises, BelongTogether}
use Rattle.insertion_laws.specs.ChecksLaws.{NetlistsHaveChips, ProgramTextsSpellPrograms, TextsHaveChips, TextsAgree, ProgramsAreLegalThere, TextsMissNothing, WrittenProgramsMissNothing}
use Rattle.plan_fitting.proofs.LinkViews.{view_is_wide}
use Rattle.plan_fitting.proofs.NoneHidden.{not_straight, none_open}
use Rattle.insertion_laws.proofs.Ports.{Known, own_place, own_below, hidden_high, own_port, inner_port, device_port, ports_agree, are_plain, input_at, tdo_at, input_is, tdo_is}

-- Where nothing is hidden.

pub is_own : (L : LinkedView) → HidesNone L → (number : ℕ) → is_straight L number ≡ false
is_own L none number = by (is_straight L number) refl
  where
    by : (b : Bool) → is_straight L number ≡ b → b ≡ false
    by false e = refl
    by true e = absurd (not_straight L none number e)

-- another view of the netlist hides what the first hides
hides_same : (written linked K : LinkedView) → HidesNone written → HidesNone linked → HidesSame written K → HidesSame linked K
hides_same written linked K none other same = record {
  numbers = λ number. is_own linked other number ∙ sym (is_own written none number) ∙ same.numbers number;
  open_names = none_open linked other;
  controls = λ net there bit hidden. absurd (not_straight linked other bit.port hidden);
}

-- The same netlist, read anew.

-- what is known of a view of the written netlist, where the plan fits K
record IsViewed (written linked K : LinkedView) (p : Plan) (seen : List PinSeen) : Type 0 where
  fits : IsFitting K p seen
  same : IsSameView written linked
  named : IsWellNamed linked.names linked.arena.lists
  formed : IsWellFormed linked.arena.lists
  wide : HasWidths linked.arena.lists
  was_formed : IsWellFormed written.arena.lists
  keeps : Keeps written.arena.lists K.arena.lists (spelt written.names) (spelt K.names) (tap_of p)
  hides : HidesSame linked K

ports_keep : (written linked K : LinkedView) (p : Plan) (seen : List PinSeen) → IsViewed written linked K p seen
    → map (port_text (spelt linked.names)) linked.arena.lists.ports ≡ map (port_text (spelt K.names)) K.arena.lists.ports ++ tap_ports (tap_of p)
ports_keep written linked K p seen viewed =
    ap (λ (names : List (List ℕ)). map (port_text (spelt names)) linked.arena.lists.ports) (sym viewed.same.names)
    ∙ ap (λ (ports : List PortView). map (port_text (spelt written.names)) ports) (sym viewed.same.ports)
    ∙ viewed.keeps.ports

known_of : DevicesHavePorts → (written linked K : LinkedView) (p : Plan) (seen : List PinSeen) → IsViewed written linked K p seen → Known linked K p (device_of K p seen)
known_of have written linked K p seen viewed =
    let ports = have K p seen viewed.fits in
    record {
      named = viewed.named;
      numbers = viewed.hides.numbers;
      ends = viewed.fits.ends;
      keeps = ports_keep written linked K p seen viewed;
      has = ports.0;
      places = ports.1;
    }

described_of : DevicesHavePorts → (written linked K : LinkedView) (p : Plan) (seen : List PinSeen) → IsViewed written linked K p seen → IsDevice (device_of K p seen)
    → IsDescribed linked (device_of K p seen)
described_of have written linked K p seen viewed is =
    let B = device_of K p seen in
    let known = known_of have written linked K p seen viewed in
    record {
      named = viewed.named;
      formed = viewed.formed;
      wide = viewed.wide;
      plain = are_plain linked K p B known is.ports.each;
      open_names = viewed.hides.open_names;
      inner = inner_port linked K p B known;
      ports = device_port linked K p B known;
      input_is = input_is K p B known.has known.places;
      tdo_is = tdo_is K p B known.has known.places;
    }

-- the direction of a hidden bit
hidden_way : BitHasDirection → (K : LinkedView) (p : Plan) (seen : List PinSeen) → IsFitting K p seen → (number bit net : ℕ) → is_straight K number ≡ true
    → bit_net K.arena.lists number bit ≡ Some (record { 0 = net }) → direction K.arena.lists.ports net ≢ Some Inout
hidden_way directed K p seen fits number bit net hidden at = by (slice_get K.arena.lists.ports number) refl
  where
    wanted : NetId
    wanted = record { 0 = net }

    by : (o : Option PortView) → slice_get K.arena.lists.ports number ≡ o → direction K.arena.lists.ports net ≢ Some Inout
    by None e way = let no : None ≡ Some wanted = sym (ap (option_and_then (λ (p : PortView). slice_get p.nets bit)) e) ∙ at in cc
    by (Some port) e way =
        let has : slice_get port.nets bit ≡ Some wanted = sym (ap (option_and_then (λ (p : PortView). slice_get p.nets bit)) e) ∙ at in
        let is : direction K.arena.lists.ports net ≡ Some port.dir =
        directed K.arena.lists fits.formed port.dir wanted (record { number = number; port = port; bit = bit; stands = e; has = has; same = refl }) in
        (fits.straight number bit port wanted hidden e has).side (some_same port.dir Inout (direction K.arena.lists.ports net) is way)

hidden_beside : BitHasDirection → HiddenBitsHaveNone → (written linked K : LinkedView) (p : Plan) (seen : List PinSeen) → IsViewed written linked K p seen
    → (net there : ℕ) (bit : SameBit linked.arena.lists K.arena.lists net there) → is_straight linked bit.port ≡ true → IsHiddenBeside linked (device_of K p seen) K.arena.lists net there
hidden_beside directed hidden written linked K p seen viewed net there bit is =
    let was : is_straight K bit.port ≡ true = sym (viewed.hides.numbers bit.port) ∙ is in
    record {
      none = hidden K p seen viewed.fits bit.port bit.place (record { 0 = net }) (hidden_high K bit.port was) bit.here;
      way = hidden_way directed K p seen viewed.fits bit.port bit.place net was bit.here;
      controls = viewed.hides.controls net there bit is;
    }

chip_of : BitHasDirection → PlansSuitNetlists → DevicesHavePorts → HiddenBitsHaveNone → PlansStandAround → SameRealises → (written linked K : LinkedView) (p : Plan) (seen : List PinSeen)
    → IsViewed written linked K p seen → IsDevice (device_of K p seen) → Realises written.arena.lists (device_of K p seen) K.arena.lists → HasChip linked (device_of K p seen) K.arena.lists
chip_of directed suit have hidden stand same_there written linked K p seen viewed is realises =
    let B = device_of K p seen in
    let known = known_of have written linked K p seen viewed in
    record {
      formed = viewed.fits.formed;
      suits = suit K p seen viewed.fits;
      around = stand K p seen viewed.fits;
      beside = record {
        described = described_of have written linked K p seen viewed is;
        wide = viewed.fits.wide;
        own = own_port linked K p B known;
        places = λ number low own. own_place linked K p B known number (own_below K known.ends number low (sym (known.numbers number) ∙ own));
        hidden = hidden_beside directed hidden written linked K p seen viewed;
        input_at = input_at linked K p B known;
        tdo_at = tdo_at linked K p B known;
      };
      realises = same_there written.arena.lists linked.arena.lists K.arena.lists B viewed.same.library viewed.same.ports viewed.same.cells viewed.was_formed realises;
    }

-- Netlists.

itself : (linked : LinkedView) → IsSameView linked linked
itself linked = record { title = refl; names = refl; library = refl; ports = refl; nets = refl; cells = λ number. refl }

viewed_alone : LinkViewIsNamed → LinkViewIsFormed → (tree : Module) (linked : LinkedView) (device : Device) → IsTree tree → IsLibrary linked.arena.lists.library → IsLinkOf tree linked → (is : KeepsAndRealises linked device)
    → IsViewed linked linked is.core is.plan is.seen
viewed_alone named formed tree linked device spelled listed links is = record {
  fits = is.fits;
  same = itself linked;
  named = named tree linked spelled listed links;
  formed = formed tree linked spelled listed links;
  wide = view_is_wide tree linked links;
  was_formed = formed tree linked spelled listed links;
  keeps = is.keeps;
  hides = is.hides;
}

-- of the device that it is
chip_by : BitHasDirection → PlansSuitNetlists → DevicesHavePorts → HiddenBitsHaveNone → PlansStandAround → SameRealises → (written linked : LinkedView) (device : Device) (is : KeepsAndRealises written device)
    → IsViewed written linked is.core is.plan is.seen → IsDevice device → HasChip linked device is.core.arena.lists
chip_by directed suit have hidden stand same_there written linked device is viewed kept =
    let K : LinkedView = is.core in
    let B : Device = device_of K is.plan is.seen in
    let realises : Realises written.arena.lists B K.arena.lists = subst (λ (d : Device). Realises written.arena.lists d K.arena.lists) is.device_is is.realises in
    subst (λ (d : Device). HasChip linked d K.arena.lists) (sym is.device_is)
    (chip_of directed suit have hidden stand same_there written linked K is.plan is.seen viewed (subst IsDevice is.device_is kept) realises)

pub netlists_have_chips : BitHasDirection → LinkViewIsNamed → LinkViewIsFormed → PlansSuitNetlists → DevicesHavePorts → HiddenBitsHaveNone → PlansStandAround → SameRealises → NetlistsHaveChips
netlists_have_chips directed named formed suit have hidden stand same_there tree linked device spelled listed links kept is =
    chip_by directed suit have hidden stand same_there linked linked device is (viewed_alone named formed tree linked device spelled listed links is) kept

-- Programs.

pub program_texts_spell_programs : ProgramTextsSpellPrograms
program_texts_spell_programs bsdl events is =
    record { device = is.device; spells = is.spells; lines = canonical_lines (program_of is.device); spelled = is.again; program = refl }

-- Texts.

viewed_of : SpelledTreesKeepConditions → BytesSpellOneTree → LinkViewsAgree → LinkViewIsNamed → LinkViewIsFormed → (library : List ListedCell) (netlist bsdl : List ℕ) (are : BelongTogether library netlist bsdl) (linked : LinkedView)
    → IsRead library netlist linked → IsViewed are.linked linked are.chip.core are.chip.plan are.chip.seen
viewed_of keep one agree named formed library netlist bsdl are linked read =
    let tree : read.tree ≡ are.read.tree = one netlist read.tree are.read.tree read.spells are.read.spells in
    let links : IsLinkOf are.read.tree linked = subst (λ (m : Module). IsLinkOf m linked) tree read.links in
    let is = keep netlist are.read.tree are.read.spells in
    let listed = subst IsLibrary (sym read.library_is) read.listed in
    let was_listed = subst IsLibrary (sym are.read.library_is) are.read.listed in
    record {
      fits = are.chip.fits;
      same = agree are.read.tree are.linked linked (are.read.library_is ∙ sym read.library_is) are.read.links links;
      named = named are.read.tree linked is listed links;
      formed = formed are.read.tree linked is listed links;
      wide = view_is_wide are.read.tree linked links;
      was_formed = formed are.read.tree are.linked is was_listed are.read.links;
      keeps = are.chip.keeps;
      hides = hides_same are.linked linked are.chip.core are.read.hides read.hides are.chip.hides;
    }

pub texts_have_chips : BitHasDirection → SpelledTreesKeepConditions → SpelledDevicesKeep → BytesSpellOneTree → SpellsOneDevice → LinkViewsAgree → LinkViewIsNamed → LinkViewIsFormed → PlansSuitNetlists
    → DevicesHavePorts → HiddenBitsHaveNone → PlansStandAround → SameRealises → TextsHaveChips
texts_have_chips directed keep devices one one_device agree named formed suit have hidden stand same_there library netlist bsdl are linked read device spells =
    let same : are.device ≡ device = one_device bsdl are.device device are.spells spells in
    subst (λ (d : Device). HasChip linked d are.chip.core.arena.lists) same
    (chip_by directed suit have hidden stand same_there are.linked linked are.device are.chip (viewed_of keep one agree named formed library netlist bsdl are linked read) (devices bsdl are.device are.spells))

pub texts_agree : SpelledTreesKeepConditions → BytesSpellOneTree → SpellsOneDevice → LinkViewsAgree → LinkViewIsNamed → LinkViewIsFormed → DevicesHavePorts → TextsAgree
texts_agree keep one one_device agree named formed have library netlist bsdl are linked read device spells =
    let K : LinkedView = are.chip.core in
    let B : Device = device_of K are.chip.plan are.chip.seen in
    let same : device ≡ B = one_device bsdl device are.device spells are.spells ∙ are.chip.device_is in
    let viewed = viewed_of keep one agree named formed library netlist bsdl are linked read in
    subst (λ (d : Device). PortsAgree linked d) (sym same) (ports_agree linked K are.chip.plan B (known_of have are.linked linked K are.chip.plan are.chip.seen viewed))

-- where nothing is hidden, no start stands in front of a program
no_starts : (L : LinkedView) → HidesNone L → AreHiddenStarts L []
no_starts L none = record {
  are = λ place line there. absurd (cc);
  hidden = λ place line pin there named. absurd (cc);
  unbroken = λ place b. absurd (nothing_broken place b);
  all = λ pin hidden takes. absurd (not_straight L none pin.port.0 hidden);
}
  where
    nothing_broken : (place : ℕ) → IsBroken L [] place → ⊥
    nothing_broken place b = let no : None ≡ Some b.line = b.there in cc

pub programs_are_legal_there : TextsHaveChips → ProgramsAreLegal → ProgramsAreLegalThere
programs_are_legal_there chips legal library netlist bsdl are linked read device spells lines program =
    legal linked device (chips library netlist bsdl are linked read device spells).beside.described [] (no_starts linked read.hides) lines program

pub texts_miss_nothing : TextsHaveChips → ScriptsAreMet → TextsMissNothing
texts_miss_nothing chips met library netlist bsdl are linked read device spells script is verdict judged =
    met linked device are.chip.core.arena.lists (chips library netlist bsdl are linked read device spells) script is verdict judged

pub written_programs_miss_nothing : TextsMissNothing → SpelledOnce → WrittenProgramsMissNothing
written_programs_miss_nothing none once library netlist bsdl events are program linked read lines spelled script resolved verdict judged =
    let same : lines ≡ program.lines = once events lines program.lines spelled program.spelled in
    none library netlist bsdl are linked read program.device program.spells script
    (record {
      starts = [];
      hidden = no_starts linked read.hides;
      lines = lines;
      numbered = spelled_lengths lines (record { bytes = events; spells = spelled });
      program = ap (λ (l : Lines). l.list) same ∙ program.program;
      resolved = resolved;
    }) verdict judged
