-- Names and opcodes that can stand behind those before them: none is the standard's, and no two are the same.
use Rattle.std.proofs.Common.{◌≡◌, ℕ, ◌==◌, List, [], ◌∷◌, ◌++◌, Bool, false, ◌&&◌, ◌||◌, not, refl, sym, ap, subst, ◌∙◌, append_assoc, append-nil}
use Rattle.std.specs.Prelude.{flat_map, codes}
use Rattle.std.specs.List.{list_any}
use Rattle.list_laws.proofs.Numbers.{eqb-sym}
use Rattle.list_laws.proofs.Tests.{or_first, or_second, neither, not_false}
use Rattle.cell_library.specs.declared.codes.Bits.{Bits}
use Rattle.cell_library.specs.declared.codes.Opcode.{Opcode}
use Rattle.bsdl_lexicon.specs.Names.{is_same_name}
use Rattle.bsdl_lexicon.specs.Reserved.{is_reserved}
use Rattle.bsdl_lexicon.specs.Pieces.{IsIdentifier}
use Rattle.bsdl_lexicon.proofs.SameNames.{same_turned}
use Rattle.bsdl_device.specs.Runs.{is_identifier}
use Rattle.bsdl_device.specs.Instructions.{same_bits}
use Rattle.bsdl_device.specs.Checks.{any_pair, has_other_length}
use Rattle.bsdl_device.specs.IsDevice.{IsDeviceName}
use Rattle.bsdl_device.proofs.Identifiers.{identifier_from}
use Rattle.bsdl_device.specs.Rules.{names_register, names_some_instruction}
use Rattle.plan_texts.specs.declared.plan.Plan.{Plan}
use Rattle.plan_fitting.proofs.Identifiers.{is_device_name}
use Rattle.plan_fitting.proofs.Pairs.{any_front, any_back}
use Rattle.status_fitting.specs.declared.register_texts.plan.StatusRow.{StatusRow}
use Rattle.status_fitting.specs.First.{Stands}
use Rattle.status_fitting.specs.Names.{Given, RegisterName, InstructionName, given_by, same_given, is_barred}
use Rattle.status_fitting.specs.Opcodes.{opcodes_of, is_taken_behind, is_taken}

-- Names.

-- the names of a line can stand behind these
pub record IsFreeRow (before : List Given) (row : StatusRow) : Type 0 where
  pub name : IsDeviceName row.name
  pub apart : names_register row.name ≡ false
  pub new_name : list_any (same_given (RegisterName row.name)) before ≡ false
  pub instr : IsIdentifier row.instr
  pub own : names_some_instruction row.instr ≡ false
  pub new_instr : list_any (same_given (InstructionName row.instr)) before ≡ false

-- so can those of all lines, each behind those before it
abbrev pub AreFreeRows : List Given → List StatusRow → Type 0
AreFreeRows before [] = Unit {0}
AreFreeRows before (row ∷ rows) = IsFreeRow before row × AreFreeRows (before ++ given_by row) rows

abbrev StandBehind : List Given → List StatusRow → Type 0
StandBehind before rows = (mid more : List Given) (x : Given) → flat_map given_by rows ≡ mid ++ x ∷ more → is_barred (before ++ mid) x ≡ false

free_row : (before : List Given) (row : StatusRow) → is_barred before (RegisterName row.name) ≡ false → is_barred (before ++ RegisterName row.name ∷ []) (InstructionName row.instr) ≡ false → IsFreeRow before row
free_row before row one two =
    let unnamed : Bool = not (is_identifier row.name) in
    let held : Bool = is_reserved row.name in
    let standard : Bool = names_register row.name in
    let clash : Bool = list_any (same_given (RegisterName row.name)) before in
    let front = or_first (unnamed || held || standard) clash one in
    let names = or_first (unnamed || held) standard front in
    let unnamed' : Bool = not (is_identifier row.instr) in
    let held' : Bool = is_reserved row.instr in
    let profile : Bool = names_some_instruction row.instr in
    let intest : Bool = is_same_name row.instr (codes "INTEST") in
    let runbist : Bool = is_same_name row.instr (codes "RUNBIST") in
    let clash' : Bool = list_any (same_given (InstructionName row.instr)) (before ++ RegisterName row.name ∷ []) in
    let front' = or_first (unnamed' || held' || (profile || intest || runbist)) clash' two in
    let names' = or_first (unnamed' || held') (profile || intest || runbist) front' in
    let standards = or_second (unnamed' || held') (profile || intest || runbist) front' in
    record {
      name = is_device_name row.name (not_false (is_identifier row.name) (or_first unnamed held names)) (or_second unnamed held names);
      apart = or_second (unnamed || held) standard front;
      new_name = or_second (unnamed || held || standard) clash one;
      instr = identifier_from row.instr (not_false (is_identifier row.instr) (or_first unnamed' held' names'));
      own = or_first profile intest (or_first (profile || intest) runbist standards);
      new_instr = any_front (same_given (InstructionName row.instr)) before (RegisterName row.name ∷ []) (or_second (unnamed' || held' || (profile || intest || runbist)) clash' two);
    }

free_behind : (before : List Given) (rows : List StatusRow) → StandBehind before rows → AreFreeRows before rows
free_behind before [] stand = tt
free_behind before (row ∷ rows) stand =
    let one : is_barred before (RegisterName row.name) ≡ false = ap (λ (b : List Given). is_barred b (RegisterName row.name)) (sym (append-nil before)) ∙ stand [] (InstructionName row.instr ∷ flat_map given_by rows) (RegisterName row.name) refl in
    let two : is_barred (before ++ RegisterName row.name ∷ []) (InstructionName row.instr) ≡ false = stand (RegisterName row.name ∷ []) (flat_map given_by rows) (InstructionName row.instr) refl in (
      free_row before row one two,
      free_behind (before ++ given_by row) rows (λ mid more x e.
          ap (λ (b : List Given). is_barred b x) (append_assoc before (given_by row) mid)
          ∙ stand (RegisterName row.name ∷ InstructionName row.instr ∷ mid) more x (ap (λ (l : List Given). RegisterName row.name ∷ InstructionName row.instr ∷ l) e)),
    )

pub free_rows : (rows : List StatusRow) → Stands is_barred (flat_map given_by rows) → AreFreeRows [] rows
free_rows rows stand = free_behind [] rows (λ mid more x e. stand mid more x e)

-- no later line has this one's names
later_names : (before mid : List Given) (row : StatusRow) (rows : List StatusRow) → AreFreeRows ((before ++ given_by row) ++ mid) rows → list_any (λ (s : StatusRow). is_same_name row.name s.name) rows ≡ false
later_names before mid row [] free = refl
later_names before mid row (r ∷ rows) free =
    let p : Given → Bool = same_given (RegisterName r.name) in
    let here : list_any p (given_by row) ≡ false = any_back p before (given_by row) (any_front p (before ++ given_by row) mid free.0.new_name) in
    let apart : is_same_name row.name r.name ≡ false = same_turned row.name r.name ∙ or_first (is_same_name r.name row.name) (list_any p (InstructionName row.instr ∷ [])) here in
    neither (is_same_name row.name r.name) (list_any (λ (s : StatusRow). is_same_name row.name s.name) rows) apart
    (later_names before (mid ++ given_by r) row rows (subst (λ (b : List Given). AreFreeRows b rows) (append_assoc (before ++ given_by row) mid (given_by r)) free.1))

later_instrs : (before mid : List Given) (row : StatusRow) (rows : List StatusRow) → AreFreeRows ((before ++ given_by row) ++ mid) rows → list_any (λ (s : StatusRow). is_same_name row.instr s.instr) rows ≡ false
later_instrs before mid row [] free = refl
later_instrs before mid row (r ∷ rows) free =
    let p : Given → Bool = same_given (InstructionName r.instr) in
    let here : list_any p (given_by row) ≡ false = any_back p before (given_by row) (any_front p (before ++ given_by row) mid free.0.new_instr) in
    let last : list_any p (InstructionName row.instr ∷ []) ≡ false = or_second (p (RegisterName row.name)) (list_any p (InstructionName row.instr ∷ [])) here in
    let apart : is_same_name row.instr r.instr ≡ false = same_turned row.instr r.instr ∙ or_first (is_same_name r.instr row.instr) (list_any p []) last in
    neither (is_same_name row.instr r.instr) (list_any (λ (s : StatusRow). is_same_name row.instr s.instr) rows) apart
    (later_instrs before (mid ++ given_by r) row rows (subst (λ (b : List Given). AreFreeRows b rows) (append_assoc (before ++ given_by row) mid (given_by r)) free.1))

behind_these : (before : List Given) (row : StatusRow) (rows : List StatusRow) → AreFreeRows (before ++ given_by row) rows → AreFreeRows ((before ++ given_by row) ++ []) rows
behind_these before row rows free = subst (λ (b : List Given). AreFreeRows b rows) (sym (append-nil (before ++ given_by row))) free

pub names_apart : (before : List Given) (rows : List StatusRow) → AreFreeRows before rows → any_pair (λ (r : StatusRow) (s : StatusRow). is_same_name r.name s.name) rows ≡ false
names_apart before [] free = refl
names_apart before (row ∷ rows) free =
    neither (list_any (λ (s : StatusRow). is_same_name row.name s.name) rows) (any_pair (λ (r : StatusRow) (s : StatusRow). is_same_name r.name s.name) rows)
    (later_names before [] row rows (behind_these before row rows free.1)) (names_apart (before ++ given_by row) rows free.1)

pub instrs_apart : (before : List Given) (rows : List StatusRow) → AreFreeRows before rows → any_pair (λ (r : StatusRow) (s : StatusRow). is_same_name r.instr s.instr) rows ≡ false
instrs_apart before [] free = refl
instrs_apart before (row ∷ rows) free =
    neither (list_any (λ (s : StatusRow). is_same_name row.instr s.instr) rows) (any_pair (λ (r : StatusRow) (s : StatusRow). is_same_name r.instr s.instr) rows)
    (later_instrs before [] row rows (behind_these before row rows free.1)) (instrs_apart (before ++ given_by row) rows free.1)

-- Opcodes.

-- each can stand behind those before it
abbrev pub AreFreeOpcodes : Plan → List Bits → List StatusRow → Type 0
AreFreeOpcodes base before [] = Unit {0}
AreFreeOpcodes base before (row ∷ rows) = (is_taken_behind base before row.bits ≡ false) × AreFreeOpcodes base (before ++ row.bits ∷ []) rows

bits_append : (rows more : List StatusRow) → opcodes_of (rows ++ more) ≡ opcodes_of rows ++ opcodes_of more
bits_append [] more = refl
bits_append (row ∷ rows) more = ap (λ (l : List Bits). row.bits ∷ l) (bits_append rows more)

opcodes_behind : (base : Plan) (before rows : List StatusRow) → ((mid more : List StatusRow) (x : StatusRow) → rows ≡ mid ++ x ∷ more → is_taken base (before ++ mid) x ≡ false)
    → AreFreeOpcodes base (opcodes_of before) rows
opcodes_behind base before [] stand = tt
opcodes_behind base before (row ∷ rows) stand = (
  ap (λ (b : List StatusRow). is_taken base b row) (sym (append-nil before)) ∙ stand [] rows row refl,
  subst (λ (b : List Bits). AreFreeOpcodes base b rows) (bits_append before (row ∷ []))
      (opcodes_behind base (before ++ row ∷ []) rows (λ mid more x e.
      ap (λ (b : List StatusRow). is_taken base b x) (append_assoc before (row ∷ []) mid) ∙ stand (row ∷ mid) more x (ap (λ (l : List StatusRow). row ∷ l) e))),
)

pub free_opcodes : (base : Plan) (rows : List StatusRow) → Stands (is_taken base) rows → AreFreeOpcodes base [] rows
free_opcodes base rows stand = opcodes_behind base [] rows (λ mid more x e. stand mid more x e)

bits_turned : (a b : Bits) → same_bits a b ≡ same_bits b a
bits_turned a b = ap (λ (x : Bool). x && a.value == b.value) (eqb-sym a.len b.len) ∙ ap (λ (x : Bool). b.len == a.len && x) (eqb-sym a.value b.value)

later_opcodes : (base : Plan) (before mid : List Bits) (row : StatusRow) (rows : List StatusRow) → AreFreeOpcodes base ((before ++ row.bits ∷ []) ++ mid) rows
    → list_any (λ (s : StatusRow). same_bits row.bits s.bits) rows ≡ false
later_opcodes base before mid row [] free = refl
later_opcodes base before mid row (r ∷ rows) free =
    let p : Bits → Bool = same_bits r.bits in
    let longer : Bool = has_other_length base.length r.bits in
    let clash : Bool = list_any (λ (o : Opcode). same_bits r.bits o.bits) base.opcodes in
    let again : list_any p ((before ++ row.bits ∷ []) ++ mid) ≡ false = or_second (longer || clash) (list_any p ((before ++ row.bits ∷ []) ++ mid)) free.0 in
    let here : list_any p (row.bits ∷ []) ≡ false = any_back p before (row.bits ∷ []) (any_front p (before ++ row.bits ∷ []) mid again) in
    let apart : same_bits row.bits r.bits ≡ false = bits_turned row.bits r.bits ∙ or_first (p row.bits) (list_any p []) here in
    neither (same_bits row.bits r.bits) (list_any (λ (s : StatusRow). same_bits row.bits s.bits) rows) apart
    (later_opcodes base before (mid ++ r.bits ∷ []) row rows (subst (λ (b : List Bits). AreFreeOpcodes base b rows) (append_assoc (before ++ row.bits ∷ []) mid (r.bits ∷ [])) free.1))

pub opcodes_apart : (base : Plan) (before : List Bits) (rows : List StatusRow) → AreFreeOpcodes base before rows → any_pair (λ (r : StatusRow) (s : StatusRow). same_bits r.bits s.bits) rows ≡ false
opcodes_apart base before [] free = refl
opcodes_apart base before (row ∷ rows) free =
    neither (list_any (λ (s : StatusRow). same_bits row.bits s.bits) rows) (any_pair (λ (r : StatusRow) (s : StatusRow). same_bits r.bits s.bits) rows)
    (later_opcodes base before [] row rows (subst (λ (b : List Bits). AreFreeOpcodes base b rows) (sym (append-nil (before ++ row.bits ∷ []))) free.1))
    (opcodes_apart base (before ++ row.bits ∷ []) rows free.1)
