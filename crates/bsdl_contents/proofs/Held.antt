-- What is read of a file's sections is what their strings hold.
use Rattle.std.proofs.Common.{◌≡◌, ℕ, Bool, true, List, [], ◌∷◌, ◌++◌, Option, Some, None, Result, Ok, Err, refl, sym, subst, ap, ◌∙◌}
use Rattle.std.specs.Prelude.{◌&&◌}
use Rattle.std.specs.List.{list_all, AllByRecursion}
use Rattle.std.specs.Option.{option_map}
use Rattle.list_laws.proofs.Tests.{and_true, and_left, and_right}
use Rattle.cell_library.specs.declared.codes.Bits.{Bits}
use Rattle.bsdl_device.specs.declared.entries.MappedPins.{MappedPins}
use Rattle.bsdl_device.specs.declared.entries.MappedPins.TheVariants as pins
use Rattle.bsdl_device.specs.declared.entries.PinEntry.{PinEntry}
use Rattle.bsdl_device.specs.declared.entries.OpcodeEntry.{OpcodeEntry}
use Rattle.bsdl_device.specs.declared.entries.AccessEntry.{AccessEntry}
use Rattle.bsdl_device.specs.declared.entries.RowEntry.{RowEntry}
use Rattle.bsdl_device.specs.declared.entries.Contents.{Contents}
use Rattle.bsdl_device.specs.declared.written.StringAttribute.{StringAttribute}
use Rattle.bsdl_device.specs.declared.written.File.{File}
use Rattle.bsdl_device.specs.Patterns.{is_filled}
use Rattle.bsdl_device.specs.Runs.{ContentWord, ContentPattern, Fits, content_words}
use Rattle.bsdl_device.specs.Shape.{joined}
use Rattle.bsdl_device.specs.Grammar.{has_pins, pin_map_words, opcodes_words, capture_words, idcode_words, accesses_words, rows_words, opcode_words, row_words, pin_entry_words, access_words}
use Rattle.bsdl_device.specs.Spelled.{Hold, HoldPinMap, HoldOpcodes, HoldCapture, HoldIdcode, HoldAccess, HoldRows, HasContents}
use Rattle.bsdl_device.specs.Faults as faults
use Rattle.bsdl_device.specs.Readers.{Read}
use Rattle.bsdl_device.proofs.Exact.{Exact}
use Rattle.bsdl_device.proofs.Matched.{Spelled}
use Rattle.bsdl_device.proofs.Listed.{AreSome}
use Rattle.bsdl_device.proofs.Views.{Free, all_free}
use Rattle.bsdl_contents.specs.Laws.{HoldOneContents}
use Rattle.bsdl_contents.specs.Reader as reading
use Rattle.bsdl_contents.specs.Reader.{section_at, contents_from, contents_at}
use Rattle.bsdl_contents.proofs.Chosen.{whole_sound, whole_complete}
use Rattle.bsdl_contents.proofs.EntryLaws.{ArePins, IsPinEntry, IsAccessEntry, list_law, pin_entry_law, opcode_law, bits_law, code_law, access_law}
use Rattle.bsdl_contents.proofs.RowLaws.{row_law}

-- what was read is what is held, and what is held is read
pub record Reads {X : Type 0} (holds : X → Type 0) (read : Option X) : Type 0 where
  pub sound : (x : X) → read ≡ Some x → holds x
  pub complete : (x : X) → holds x → read ≡ Some x

-- a section whose strings spell what is read
reads_section : {X : Type 0} {one : List ContentWord → Read ContentWord X} (ok : X → Type 0) (words : X → List ContentPattern) {B : List ContentWord → Type 0} (holds : X → Type 0) (strings : List (List ℕ)) → Exact ContentWord X one (Spelled Fits ok words) B → B [] → ((x : X) → ok x → Hold strings (words x) → holds x) → ((x : X) → holds x → ok x × Hold strings (words x)) → Reads holds (section_at one strings)
unfolding section_at
reads_section {X} {one} ok words holds strings l stop to from = record {
  sound = λ x h. let s = whole_sound ok words l (content_words (joined strings)) x h in to x s.0 s.1;
  complete = λ x h. let s = from x h in ap (λ (r : Read ContentWord X). r.0) (whole_complete ok words l stop (content_words (joined strings)) x s.0 s.1);
}

-- Rules.

pins_to : (m : MappedPins) → ArePins m → has_pins m ≡ true
pins_to (pins.One pin) h = refl
pins_to (pins.Several list) h = h.0

pins_from : (m : MappedPins) → has_pins m ≡ true → ArePins m
pins_from (pins.One pin) h = tt
pins_from (pins.Several list) h = (h, all_free list)

entries_to : (es : List PinEntry) → AllByRecursion IsPinEntry es → list_all (λ (e : PinEntry). has_pins e.pins) es ≡ true
entries_to [] h = refl
entries_to (e ∷ es) h = and_true (has_pins e.pins) (list_all (λ (e : PinEntry). has_pins e.pins) es) (pins_to e.pins h.0) (entries_to es h.1)

entries_from : (es : List PinEntry) → list_all (λ (e : PinEntry). has_pins e.pins) es ≡ true → AllByRecursion IsPinEntry es
entries_from [] h = tt
entries_from (e ∷ es) h =
    let tail : Bool = list_all (λ (e : PinEntry). has_pins e.pins) es in
    (pins_from e.pins (and_left (has_pins e.pins) tail h), entries_from es (and_right (has_pins e.pins) tail h))

accesses_to : (list : List AccessEntry) → AllByRecursion IsAccessEntry list → list_all (λ (a : AccessEntry). is_filled a.instructions) list ≡ true
accesses_to [] h = refl
accesses_to (a ∷ list) h = and_true (is_filled a.instructions) (list_all (λ (a : AccessEntry). is_filled a.instructions) list) h.0.0 (accesses_to list h.1)

accesses_from : (list : List AccessEntry) → list_all (λ (a : AccessEntry). is_filled a.instructions) list ≡ true → AllByRecursion IsAccessEntry list
accesses_from [] h = tt
accesses_from (a ∷ list) h =
    let tail : Bool = list_all (λ (a : AccessEntry). is_filled a.instructions) list in
    ((and_left (is_filled a.instructions) tail h, all_free a.instructions), accesses_from list (and_right (is_filled a.instructions) tail h))

-- Sections.

reads_pin_map : (strings : List (List ℕ)) → Reads (HoldPinMap strings) (section_at reading.pin_map_at strings)
reads_pin_map strings = reads_section (AreSome IsPinEntry) pin_map_words (HoldPinMap strings) strings (list_law pin_entry_words pin_entry_law) refl
    (λ es k h. record { is = record { filled = k.0; pins = entries_to es k.1 }; hold = h })
    (λ es h. ((h.is.filled, entries_from es h.is.pins), h.hold))

reads_opcodes : (strings : List (List ℕ)) → Reads (HoldOpcodes strings) (section_at reading.opcodes_at strings)
reads_opcodes strings = reads_section (AreSome Free) opcodes_words (HoldOpcodes strings) strings (list_law opcode_words opcode_law) refl
    (λ es k h. record { filled = k.0; hold = h })
    (λ es h. ((h.filled, all_free es), h.hold))

reads_capture : (strings : List (List ℕ)) → Reads (HoldCapture strings) (section_at reading.bits_at strings)
reads_capture strings = reads_section Free capture_words (HoldCapture strings) strings bits_law tt (λ b k h. h) (λ b h. (tt, h))

reads_code : (strings : List (List ℕ)) → Reads (λ code. HoldIdcode (Some (record { entity = []; strings = strings })) (Some code)) (section_at reading.code_at strings)
reads_code strings = reads_section Free idcode_words (λ code. HoldIdcode (Some (record { entity = []; strings = strings })) (Some code)) strings code_law tt (λ c k h. h) (λ c h. (tt, h))

reads_optional : (a : Option StringAttribute) → Reads (HoldIdcode a) (reading.optional_code_at a)
reads_optional None = record { sound = none_sound; complete = none_complete }
  where
    none_sound : (x : Option ℕ) → Some None ≡ Some x → HoldIdcode None x
    none_sound None h = tt
    none_sound (Some c) h = absurd (cc)

    none_complete : (x : Option ℕ) → HoldIdcode None x → Some None ≡ Some x
    none_complete None h = refl
    none_complete (Some c) h = absurd h
reads_optional (Some a) = record { sound = λ x h. some_sound (section_at reading.code_at a.strings) refl x h; complete = some_complete }
  where
    some_sound : (o : Option ℕ) → section_at reading.code_at a.strings ≡ o → (x : Option ℕ) → option_map reading.something o ≡ Some x → HoldIdcode (Some a) x
    some_sound None e x h = absurd (cc)
    some_sound (Some c) e None h = absurd (cc)
    some_sound (Some c) e (Some d) h = let same : c ≡ d = cc in (reads_code a.strings).sound d (e ∙ ap (λ (n : ℕ). Some n) same)

    some_complete : (x : Option ℕ) → HoldIdcode (Some a) x → option_map reading.something (section_at reading.code_at a.strings) ≡ Some x
    some_complete None h = absurd h
    some_complete (Some c) h = ap (λ (o : Option ℕ). option_map reading.something o) ((reads_code a.strings).complete c h)

reads_access : (strings : List (List ℕ)) → Reads (HoldAccess strings) (section_at reading.accesses_at strings)
reads_access strings = reads_section (AreSome IsAccessEntry) accesses_words (HoldAccess strings) strings (list_law access_words access_law) refl
    (λ es k h. record { is = record { filled = k.0; instructions = accesses_to es k.1 }; hold = h })
    (λ es h. ((h.is.filled, accesses_from es h.is.instructions), h.hold))

reads_rows : (strings : List (List ℕ)) → Reads (HoldRows strings) (section_at reading.rows_at strings)
reads_rows strings = reads_section (AreSome Free) rows_words (HoldRows strings) strings (list_law row_words row_law) refl
    (λ es k h. record { filled = k.0; hold = h })
    (λ es h. ((h.filled, all_free es), h.hold))

-- The file.

-- something is wrong where nothing is read
wrong_at : {X : Type 0} {holds : X → Type 0} (read : Option X) → Reads holds read → read ≡ None → (x : X) × holds x → ⊥
wrong_at {X} read r e (x, h) = let never : None ≡ Some x = sym e ∙ r.complete x h in absurd (cc)

pub contents_sound : (f : File) (c : Contents) → contents_at f ≡ Ok c → HasContents f c
contents_sound f c h = go (section_at reading.pin_map_at f.pin_map) (section_at reading.opcodes_at f.opcodes.strings) (section_at reading.bits_at f.capture.strings) (reading.optional_code_at f.idcode) (reading.optional_code_at f.usercode) (section_at reading.accesses_at f.access.strings) (section_at reading.rows_at f.boundary.strings) (reads_pin_map f.pin_map) (reads_opcodes f.opcodes.strings) (reads_capture f.capture.strings) (reads_optional f.idcode) (reads_optional f.usercode) (reads_access f.access.strings) (reads_rows f.boundary.strings) h
  where
    go : (p : Option (List PinEntry)) (o : Option (List OpcodeEntry)) (k : Option Bits) (i u : Option (Option ℕ)) (a : Option (List AccessEntry)) (r : Option (List RowEntry)) → Reads (HoldPinMap f.pin_map) p → Reads (HoldOpcodes f.opcodes.strings) o → Reads (HoldCapture f.capture.strings) k → Reads (HoldIdcode f.idcode) i → Reads (HoldIdcode f.usercode) u → Reads (HoldAccess f.access.strings) a → Reads (HoldRows f.boundary.strings) r → contents_from p o k i u a r ≡ Ok c → HasContents f c
    go None o k i u a r rp ro rk ri ru ra rr h = absurd (cc)
    go (Some p) None k i u a r rp ro rk ri ru ra rr h = absurd (cc)
    go (Some p) (Some o) None i u a r rp ro rk ri ru ra rr h = absurd (cc)
    go (Some p) (Some o) (Some k) None u a r rp ro rk ri ru ra rr h = absurd (cc)
    go (Some p) (Some o) (Some k) (Some i) None a r rp ro rk ri ru ra rr h = absurd (cc)
    go (Some p) (Some o) (Some k) (Some i) (Some u) None r rp ro rk ri ru ra rr h = absurd (cc)
    go (Some p) (Some o) (Some k) (Some i) (Some u) (Some a) None rp ro rk ri ru ra rr h = absurd (cc)
    go (Some p) (Some o) (Some k) (Some i) (Some u) (Some a) (Some r) rp ro rk ri ru ra rr h =
        let d : Contents = record { pin_map = p; opcodes = o; capture = k; idcode = i; usercode = u; access = a; rows = r } in
        let same : d ≡ c = cc in
        let there : HasContents f d = record { pin_map = rp.sound p refl; opcodes = ro.sound o refl; capture = rk.sound k refl; idcode = ri.sound i refl; usercode = ru.sound u refl; access = ra.sound a refl; rows = rr.sound r refl } in
        subst (λ (x : Contents). HasContents f x) same there

pub contents_complete : (f : File) (c : Contents) → HasContents f c → contents_at f ≡ Ok c
contents_complete f c h =
    rw ((reads_pin_map f.pin_map).complete c.pin_map h.pin_map)
    (rw ((reads_opcodes f.opcodes.strings).complete c.opcodes h.opcodes)
    (rw ((reads_capture f.capture.strings).complete c.capture h.capture)
    (rw ((reads_optional f.idcode).complete c.idcode h.idcode)
    (rw ((reads_optional f.usercode).complete c.usercode h.usercode)
    (rw ((reads_access f.access.strings).complete c.access h.access)
    (rw ((reads_rows f.boundary.strings).complete c.rows h.rows) refl))))))

pub one_contents : HoldOneContents
one_contents f c other h k =
    let same : ◌≡◌ {A = Result Contents faults.StringSection} (Ok other) (Ok c) = sym (contents_complete f other k) ∙ contents_complete f c h in cc

-- the sections before one are right, and it isn't
record FirstWrong (f : File) (s : faults.StringSection) : Type 0 where
  pub before : List faults.StringSection
  pub behind : List faults.StringSection
  pub order : faults.string_sections ≡ before ++ s ∷ behind
  pub right : AllByRecursion (faults.IsRight f) before
  pub wrong : faults.IsRight f s → ⊥

pub contents_wrong : (f : File) (s : faults.StringSection) → contents_at f ≡ Err s → faults.IsContentsFault f (faults.string_word f s)
contents_wrong f s h =
    let w = go (section_at reading.pin_map_at f.pin_map) (section_at reading.opcodes_at f.opcodes.strings) (section_at reading.bits_at f.capture.strings) (reading.optional_code_at f.idcode) (reading.optional_code_at f.usercode) (section_at reading.accesses_at f.access.strings) (section_at reading.rows_at f.boundary.strings) (reads_pin_map f.pin_map) (reads_opcodes f.opcodes.strings) (reads_capture f.capture.strings) (reads_optional f.idcode) (reads_optional f.usercode) (reads_access f.access.strings) (reads_rows f.boundary.strings) h in
    record { before = w.before; section = s; behind = w.behind; order = w.order; right = w.right; wrong = w.wrong; there = refl }
  where
    First : faults.StringSection → Type 0
    First t = FirstWrong f t

    go : (p : Option (List PinEntry)) (o : Option (List OpcodeEntry)) (k : Option Bits) (i u : Option (Option ℕ)) (a : Option (List AccessEntry)) (r : Option (List RowEntry)) → Reads (HoldPinMap f.pin_map) p → Reads (HoldOpcodes f.opcodes.strings) o → Reads (HoldCapture f.capture.strings) k → Reads (HoldIdcode f.idcode) i → Reads (HoldIdcode f.usercode) u → Reads (HoldAccess f.access.strings) a → Reads (HoldRows f.boundary.strings) r → contents_from p o k i u a r ≡ Err s → FirstWrong f s
    go None o k i u a r rp ro rk ri ru ra rr h =
        let same : faults.PinMap ≡ s = cc in
        subst First same (record { before = []; behind = faults.Opcodes ∷ faults.Capture ∷ faults.Idcode ∷ faults.Usercode ∷ faults.Access ∷ faults.Rows ∷ []; order = refl; right = tt; wrong = wrong_at None rp refl })
    go (Some p) None k i u a r rp ro rk ri ru ra rr h =
        let same : faults.Opcodes ≡ s = cc in
        subst First same (record { before = faults.PinMap ∷ []; behind = faults.Capture ∷ faults.Idcode ∷ faults.Usercode ∷ faults.Access ∷ faults.Rows ∷ []; order = refl; right = ((p, rp.sound p refl), tt); wrong = wrong_at None ro refl })
    go (Some p) (Some o) None i u a r rp ro rk ri ru ra rr h =
        let same : faults.Capture ≡ s = cc in
        subst First same (record { before = faults.PinMap ∷ faults.Opcodes ∷ []; behind = faults.Idcode ∷ faults.Usercode ∷ faults.Access ∷ faults.Rows ∷ []; order = refl; right = ((p, rp.sound p refl), ((o, ro.sound o refl), tt)); wrong = wrong_at None rk refl })
    go (Some p) (Some o) (Some k) None u a r rp ro rk ri ru ra rr h =
        let same : faults.Idcode ≡ s = cc in
        subst First same (record { before = faults.PinMap ∷ faults.Opcodes ∷ faults.Capture ∷ []; behind = faults.Usercode ∷ faults.Access ∷ faults.Rows ∷ []; order = refl; right = ((p, rp.sound p refl), ((o, ro.sound o refl), ((k, rk.sound k refl), tt))); wrong = wrong_at None ri refl })
    go (Some p) (Some o) (Some k) (Some i) None a r rp ro rk ri ru ra rr h =
        let same : faults.Usercode ≡ s = cc in
        subst First same (record { before = faults.PinMap ∷ faults.Opcodes ∷ faults.Capture ∷ faults.Idcode ∷ []; behind = faults.Access ∷ faults.Rows ∷ []; order = refl; right = ((p, rp.sound p refl), ((o, ro.sound o refl), ((k, rk.sound k refl), ((i, ri.sound i refl), tt)))); wrong = wrong_at None ru refl })
    go (Some p) (Some o) (Some k) (Some i) (Some u) None r rp ro rk ri ru ra rr h =
        let same : faults.Access ≡ s = cc in
        subst First same (record { before = faults.PinMap ∷ faults.Opcodes ∷ faults.Capture ∷ faults.Idcode ∷ faults.Usercode ∷ []; behind = faults.Rows ∷ []; order = refl; right = ((p, rp.sound p refl), ((o, ro.sound o refl), ((k, rk.sound k refl), ((i, ri.sound i refl), ((u, ru.sound u refl), tt))))); wrong = wrong_at None ra refl })
    go (Some p) (Some o) (Some k) (Some i) (Some u) (Some a) None rp ro rk ri ru ra rr h =
        let same : faults.Rows ≡ s = cc in
        subst First same (record { before = faults.PinMap ∷ faults.Opcodes ∷ faults.Capture ∷ faults.Idcode ∷ faults.Usercode ∷ faults.Access ∷ []; behind = []; order = refl; right = ((p, rp.sound p refl), ((o, ro.sound o refl), ((k, rk.sound k refl), ((i, ri.sound i refl), ((u, ru.sound u refl), ((a, ra.sound a refl), tt)))))); wrong = wrong_at None rr refl })
    go (Some p) (Some o) (Some k) (Some i) (Some u) (Some a) (Some r) rp ro rk ri ru ra rr h = absurd (cc)
