-- The contents of a canonical text: its base is the device's, and its own registers are the stated ones and break no rule.
use Rattle.std.proofs.Common.{◌≡◌, ℕ, ◌+◌, ◌<◌, ◌≤◌, ◌==◌, Bool, true, false, cond, List, [], ◌∷◌, ◌++◌, length, map, count_by, find, Option, Some, refl, sym, ap, ◌∙◌, arith, append-nil, append_assoc, eq-eqb, ltb-true}
use Rattle.std.specs.Prelude.{◌||◌, ◌&&◌, not, nat_lt, filter}
use Rattle.std.specs.List.{list_any, filter_map, cons_option, AllByRecursion}
use Rattle.std.specs.Option.{option_map}
use Rattle.std.proofs.lemmas.List.{length-map}
use Rattle.std.proofs.lemmas.List.Elements.{filter-append}
use Rattle.std.proofs.lemmas.List.Sums.{sum_by-cons}
use borrow.Author.Tests.{eqb-true}
use Rattle.list_laws.proofs.Tests.{neither, or_first, or_second, or_more}
use Rattle.list_laws.proofs.Lists.{any_map, each_fails}
use Rattle.cell_library.specs.declared.codes.Instr.{Instr}
use Rattle.cell_library.specs.declared.codes.Instr.TheVariants as instr
use Rattle.cell_library.specs.declared.codes.Opcode.{Opcode}
use Rattle.bsdl_lexicon.specs.Names.{is_same_name}
use Rattle.bsdl_lexicon.proofs.SameNames.{same_turned}
use Rattle.bsdl_device.specs.declared.values.Device.{Device}
use Rattle.bsdl_device.specs.declared.entries.OpcodeEntry.{OpcodeEntry}
use Rattle.bsdl_device.specs.Instructions.{instruction_word, names_instruction, all_instructions, same_bits}
use Rattle.bsdl_device.specs.Checks.{any_pair, has_other_length}
use Rattle.bsdl_device.specs.IsDevice.{opcode_entry}
use Rattle.bsdl_device.proofs.RoundTripNames.{same_self}
use Rattle.bsdl_device.specs.declared.registers.values.RegisterEntry.{RegisterEntry}
use Rattle.bsdl_device.specs.declared.registers.values.TestRegister.{TestRegister}
use Rattle.bsdl_device.specs.declared.registers.values.Extended.{Extended}
use Rattle.bsdl_device.specs.Rules.{is_own, own_opcodes, base_opcodes, names_register, names_some_instruction, entry_fails, registers_fail}
use Rattle.bsdl_device.specs.IsExtended.{IsTestRegister, IsExtended}
use Rattle.bsdl_device.specs.RegistersSpelled.{register_of}

abbrev pub own_entry : TestRegister → OpcodeEntry
own_entry r = record { name = r.instr; bits = r.bits }

abbrev pub entry_of : TestRegister → RegisterEntry
entry_of r = record { name = r.name; length = r.length; instruction = r.instr }

abbrev pub entries_of : List TestRegister → List RegisterEntry
entries_of rs = map entry_of rs

-- The profile's instructions are none of the design's own.

abbrev pub IsApart : TestRegister → Type 0
IsApart r = names_some_instruction r.instr ≡ false

not_named : (i : Instr) (name : List ℕ) → names_some_instruction name ≡ false → is_same_name (instruction_word i) name ≡ false
not_named i name h = same_turned (instruction_word i) name ∙ by i (each_fails (λ (i : Instr). names_instruction i name) all_instructions h)
  where
    by : (i : Instr) → AllByRecursion (λ i. names_instruction i name ≡ false) all_instructions → names_instruction i name ≡ false
    by instr.Bypass all = all.0
    by instr.Extest all = all.1.0
    by instr.Sample all = all.1.1.0
    by instr.Preload all = all.1.1.1.0
    by instr.Idcode all = all.1.1.1.1.0
    by instr.Highz all = all.1.1.1.1.1.0
    by instr.Clamp all = all.1.1.1.1.1.1.0
    by instr.Usercode all = all.1.1.1.1.1.1.1.0

profile_apart : (i : Instr) (rs : List TestRegister) → AllByRecursion IsApart rs → is_own (entries_of rs) (instruction_word i) ≡ false
profile_apart i [] all = refl
profile_apart i (r ∷ rs) all = neither (is_same_name (instruction_word i) r.instr) (is_own (entries_of rs) (instruction_word i)) (not_named i r.instr all.0) (profile_apart i rs all.1)

-- The design's own are.

own_more : (r : TestRegister) (rs qs : List TestRegister) → AllByRecursion (λ (q : TestRegister). is_own (entries_of rs) q.instr ≡ true) qs → AllByRecursion (λ (q : TestRegister). is_own (entries_of (r ∷ rs)) q.instr ≡ true) qs
own_more r rs [] all = tt
own_more r rs (q ∷ qs) all = (or_more (is_same_name q.instr r.instr) (is_own (entries_of rs) q.instr) all.0, own_more r rs qs all.1)

own_all : (rs : List TestRegister) → AllByRecursion (λ (q : TestRegister). is_own (entries_of rs) q.instr ≡ true) rs
own_all [] = tt
own_all (r ∷ rs) = (ap (λ (b : Bool). b || is_own (entries_of rs) r.instr) (same_self r.instr), own_more r rs rs (own_all rs))

-- What a test keeps.

keeps_all : {A B : Type 0} (p : B → Bool) (f : A → B) (xs : List A) → AllByRecursion (λ x. p (f x) ≡ true) xs → filter p (map f xs) ≡ map f xs
keeps_all p f [] all = refl
keeps_all {B = B} p f (x ∷ xs) all = ap (λ (t : Bool). cond t (f x ∷ filter p (map f xs)) (filter p (map f xs))) all.0 ∙ ap (λ (l : List B). f x ∷ l) (keeps_all p f xs all.1)

keeps_none : {A B : Type 0} (p : B → Bool) (f : A → B) (xs : List A) → AllByRecursion (λ x. p (f x) ≡ false) xs → filter p (map f xs) ≡ []
keeps_none p f [] all = refl
keeps_none p f (x ∷ xs) all = ap (λ (t : Bool). cond t (f x ∷ filter p (map f xs)) (filter p (map f xs))) all.0 ∙ keeps_none p f xs all.1

each_apart : (rs : List TestRegister) → AllByRecursion IsApart rs → (ops : List Opcode) → AllByRecursion (λ (o : Opcode). is_own (entries_of rs) (opcode_entry o).name ≡ false) ops
each_apart rs all [] = tt
each_apart rs all (o ∷ ops) = (profile_apart o.instr rs all, each_apart rs all ops)

each_not : {A : Type 0} (p : A → Bool) (b : Bool) (xs : List A) → AllByRecursion (λ x. p x ≡ b) xs → AllByRecursion (λ x. not (p x) ≡ not b) xs
each_not p b [] all = tt
each_not p b (x ∷ xs) all = (ap not all.0, each_not p b xs all.1)

abbrev pub whole_opcodes : List Opcode → List TestRegister → List OpcodeEntry
whole_opcodes ops rs = map opcode_entry ops ++ map own_entry rs

pub base_same : (ops : List Opcode) (rs : List TestRegister) → AllByRecursion IsApart rs → base_opcodes (entries_of rs) (whole_opcodes ops rs) ≡ map opcode_entry ops
base_same ops rs all =
    let p = λ (o : OpcodeEntry). not (is_own (entries_of rs) o.name) in
    filter-append p (map opcode_entry ops) (map own_entry rs)
    ∙ ap (λ (l : List OpcodeEntry). l ++ filter p (map own_entry rs)) (keeps_all p opcode_entry ops (each_not (λ (o : Opcode). is_own (entries_of rs) (opcode_entry o).name) false ops (each_apart rs all ops)))
    ∙ ap (λ (l : List OpcodeEntry). map opcode_entry ops ++ l) (keeps_none p own_entry rs (each_not (λ (q : TestRegister). is_own (entries_of rs) q.instr) true rs (own_all rs)))
    ∙ append-nil (map opcode_entry ops)

pub own_same : (ops : List Opcode) (rs : List TestRegister) → AllByRecursion IsApart rs → own_opcodes (entries_of rs) (whole_opcodes ops rs) ≡ map own_entry rs
own_same ops rs all =
    let p = λ (o : OpcodeEntry). is_own (entries_of rs) o.name in
    filter-append p (map opcode_entry ops) (map own_entry rs)
    ∙ ap (λ (l : List OpcodeEntry). l ++ filter p (map own_entry rs)) (keeps_none p opcode_entry ops (each_apart rs all ops))
    ∙ keeps_all p own_entry rs (own_all rs)

-- The registers, by their entries and opcodes.

abbrev same_instr : TestRegister → TestRegister → Bool
same_instr r s = is_same_name r.instr s.instr

-- none before it has its instruction, so it is found
find_here : (before after : List TestRegister) (r : TestRegister) → AllByRecursion (λ (b : TestRegister). same_instr r b ≡ false) before → find (λ (o : OpcodeEntry). is_same_name r.instr o.name) (map own_entry (before ++ r ∷ after)) ≡ Some (own_entry r)
find_here [] after r all = ap (λ (t : Bool). cond t (Some (own_entry r)) (find (λ (o : OpcodeEntry). is_same_name r.instr o.name) (map own_entry after))) (same_self r.instr)
find_here (b ∷ before) after r all =
    ap (λ (t : Bool). cond t (Some (own_entry b)) (find (λ (o : OpcodeEntry). is_same_name r.instr o.name) (map own_entry (before ++ r ∷ after)))) all.0 ∙ find_here before after r all.1

-- what none before has in common with those behind, none before has in common with the first of them
heads : (before rest : List TestRegister) (r : TestRegister) → AllByRecursion (λ (b : TestRegister). list_any (same_instr b) (r ∷ rest) ≡ false) before → AllByRecursion (λ (b : TestRegister). same_instr r b ≡ false) before
heads [] rest r all = tt
heads (b ∷ before) rest r all = (same_turned r.instr b.instr ∙ or_first (same_instr b r) (list_any (same_instr b) rest) all.0, heads before rest r all.1)

tails : (before rest : List TestRegister) (r : TestRegister) → AllByRecursion (λ (b : TestRegister). list_any (same_instr b) (r ∷ rest) ≡ false) before → list_any (same_instr r) rest ≡ false → AllByRecursion (λ (b : TestRegister). list_any (same_instr b) rest ≡ false) (before ++ r ∷ [])
tails [] rest r all h = (h, tt)
tails (b ∷ before) rest r all h = (or_second (same_instr b r) (list_any (same_instr b) rest) all.0, tails before rest r all.1 h)

again_from : (before rs : List TestRegister) → AllByRecursion (λ (b : TestRegister). list_any (same_instr b) rs ≡ false) before → any_pair same_instr rs ≡ false → filter_map (register_of (map own_entry (before ++ rs))) (entries_of rs) ≡ rs
again_from before [] all apart = refl
again_from before (r ∷ rs) all apart =
    let join : (before ++ r ∷ []) ++ rs ≡ before ++ r ∷ rs = append_assoc before (r ∷ []) rs in
    let rest : filter_map (register_of (map own_entry (before ++ r ∷ rs))) (entries_of rs) ≡ rs =
    sym (ap (λ (l : List TestRegister). filter_map (register_of (map own_entry l)) (entries_of rs)) join)
    ∙ again_from (before ++ r ∷ []) rs (tails before rs r all (or_first (list_any (same_instr r) rs) (any_pair same_instr rs) apart)) (or_second (list_any (same_instr r) rs) (any_pair same_instr rs) apart) in
    ap (λ (o : Option OpcodeEntry). cons_option (option_map (λ (o : OpcodeEntry). let made : TestRegister = record { name = r.name; instr = o.name; bits = o.bits; length = r.length } in made) o) (filter_map (register_of (map own_entry (before ++ r ∷ rs))) (entries_of rs))) (find_here before rs r (heads before rs r all))
    ∙ ap (λ (l : List TestRegister). r ∷ l) rest

pub registers_again : (rs : List TestRegister) → any_pair same_instr rs ≡ false → filter_map (register_of (map own_entry rs)) (entries_of rs) ≡ rs
registers_again rs apart = again_from [] rs tt apart

-- The rules.

none_counted : {A : Type 0} (p : A → Bool) (xs : List A) → list_any p xs ≡ false → count_by p xs ≡ 0
none_counted p [] h = refl
none_counted p (x ∷ xs) h =
    sum_by-cons (λ y. cond (p y) 1 0) x xs ∙ ap (λ (t : Bool). cond t 1 0 + count_by p xs) (or_first (p x) (list_any p xs) h) ∙ ap (λ (n : ℕ). 0 + n) (none_counted p xs (or_second (p x) (list_any p xs) h))

pub pairs_map : {A B : Type 0} (p : B → B → Bool) (f : A → B) (xs : List A) → any_pair p (map f xs) ≡ any_pair (λ x y. p (f x) (f y)) xs
pairs_map p f [] = refl
pairs_map p f (x ∷ xs) = ap (λ (b : Bool). b || any_pair p (map f xs)) (any_map (p (f x)) f xs) ∙ ap (λ (b : Bool). list_any (λ y. p (f x) (f y)) xs || b) (pairs_map p f xs)

-- one of them has the instruction
counted_from : (before rs : List TestRegister) (r : TestRegister) → AllByRecursion (λ (b : TestRegister). same_instr r b ≡ false) before → list_any (same_instr r) rs ≡ false → count_by (λ (o : OpcodeEntry). is_same_name r.instr o.name) (map own_entry (before ++ r ∷ rs)) ≡ 1
counted_from [] rs r all h =
    sum_by-cons (λ (o : OpcodeEntry). cond (is_same_name r.instr o.name) 1 0) (own_entry r) (map own_entry rs)
    ∙ ap (λ (t : Bool). cond t 1 0 + count_by (λ (o : OpcodeEntry). is_same_name r.instr o.name) (map own_entry rs)) (same_self r.instr)
    ∙ ap (λ (n : ℕ). 1 + n) (none_counted (λ (o : OpcodeEntry). is_same_name r.instr o.name) (map own_entry rs) (any_map (λ (o : OpcodeEntry). is_same_name r.instr o.name) own_entry rs ∙ h))
counted_from (b ∷ before) rs r all h =
    sum_by-cons (λ (o : OpcodeEntry). cond (is_same_name r.instr o.name) 1 0) (own_entry b) (map own_entry (before ++ r ∷ rs))
    ∙ ap (λ (t : Bool). cond t 1 0 + count_by (λ (o : OpcodeEntry). is_same_name r.instr o.name) (map own_entry (before ++ r ∷ rs))) all.0
    ∙ ap (λ (n : ℕ). 0 + n) (counted_from before rs r all.1 h)

entry_right : (d : Device) (before rs : List TestRegister) (r : TestRegister) → IsTestRegister d r → AllByRecursion (λ (b : TestRegister). same_instr r b ≡ false) before → list_any (same_instr r) rs ≡ false → entry_fails (map own_entry (before ++ r ∷ rs)) (entry_of r) ≡ false
entry_right d before rs r is all h =
    let names = names_register r.name in
    let profile = names_some_instruction r.instr in
    let many = not (count_by (λ (o : OpcodeEntry). is_same_name r.instr o.name) (map own_entry (before ++ r ∷ rs)) == 1) in
    neither (names || profile || many || r.length == 0) (nat_lt 256 r.length)
    (neither (names || profile || many) (r.length == 0) (neither (names || profile) many (neither names profile is.apart is.own) (ap not (eq-eqb (count_by (λ (o : OpcodeEntry). is_same_name r.instr o.name) (map own_entry (before ++ r ∷ rs))) 1 (counted_from before rs r all h))))
    (unequal (r.length == 0) refl)) (below (nat_lt 256 r.length) refl)
  where
    unequal : (t : Bool) → (r.length == 0) ≡ t → (r.length == 0) ≡ false
    unequal true e = let none : r.length ≡ 0 = eqb-true r.length 0 e in absurd (omega (arith, none, is.some))
    unequal false e = e

    below : (t : Bool) → nat_lt 256 r.length ≡ t → nat_lt 256 r.length ≡ false
    below true e = let past : 256 < r.length = ltb-true 256 r.length e in absurd (omega (arith, past, is.few))
    below false e = e

entries_right : (d : Device) (before rs : List TestRegister) → AllByRecursion (IsTestRegister d) rs → AllByRecursion (λ (b : TestRegister). list_any (same_instr b) rs ≡ false) before → any_pair same_instr rs ≡ false → list_any (entry_fails (map own_entry (before ++ rs))) (entries_of rs) ≡ false
entries_right d before [] each all apart = refl
entries_right d before (r ∷ rs) each all apart =
    let alone : list_any (same_instr r) rs ≡ false = or_first (list_any (same_instr r) rs) (any_pair same_instr rs) apart in
    let join : (before ++ r ∷ []) ++ rs ≡ before ++ r ∷ rs = append_assoc before (r ∷ []) rs in
    neither (entry_fails (map own_entry (before ++ r ∷ rs)) (entry_of r)) (list_any (entry_fails (map own_entry (before ++ r ∷ rs))) (entries_of rs)) (entry_right d before rs r each.0 (heads before rs r all) alone)
    (sym (ap (λ (l : List TestRegister). list_any (entry_fails (map own_entry l)) (entries_of rs)) join) ∙ entries_right d (before ++ r ∷ []) rs each.1 (tails before rs r all alone) (or_second (list_any (same_instr r) rs) (any_pair same_instr rs) apart))

lengths_right : (d : Device) (rs : List TestRegister) → AllByRecursion (IsTestRegister d) rs → list_any (λ (o : OpcodeEntry). has_other_length d.length o.bits) (map own_entry rs) ≡ false
lengths_right d [] each = refl
lengths_right d (r ∷ rs) each = neither (has_other_length d.length r.bits) (list_any (λ (o : OpcodeEntry). has_other_length d.length o.bits) (map own_entry rs)) (ap not (eq-eqb r.bits.len d.length each.0.fits)) (lengths_right d rs each.1)

patterns_free : (d : Device) (rs : List TestRegister) → AllByRecursion (IsTestRegister d) rs → list_any (λ (o : OpcodeEntry). list_any (λ (p : OpcodeEntry). same_bits o.bits p.bits) (map opcode_entry d.opcodes)) (map own_entry rs) ≡ false
patterns_free d [] each = refl
patterns_free d (r ∷ rs) each =
    neither (list_any (λ (p : OpcodeEntry). same_bits r.bits p.bits) (map opcode_entry d.opcodes)) (list_any (λ (o : OpcodeEntry). list_any (λ (p : OpcodeEntry). same_bits o.bits p.bits) (map opcode_entry d.opcodes)) (map own_entry rs))
    (any_map (λ (p : OpcodeEntry). same_bits r.bits p.bits) opcode_entry d.opcodes ∙ each.0.free) (patterns_free d rs each.1)

few_right : (rs : List TestRegister) → length rs ≤ 16 → nat_lt 16 (length (entries_of rs)) ≡ false
few_right rs few = by (nat_lt 16 (length (entries_of rs))) refl
  where
    by : (t : Bool) → nat_lt 16 (length (entries_of rs)) ≡ t → nat_lt 16 (length (entries_of rs)) ≡ false
    by true e = let past : 16 < length (entries_of rs) = ltb-true 16 (length (entries_of rs)) e in absurd (omega (arith, past, few, length-map rs entry_of))
    by false e = e

-- no rule on the registers of their own is broken
pub registers_right : (e : Extended) → IsExtended e → registers_fail e.device.length (map opcode_entry e.device.opcodes) (map own_entry e.registers) (entries_of e.registers) ≡ false
registers_right e is =
    let rs = e.registers in
    let d = e.device in
    let few = nat_lt 16 (length (entries_of rs)) in
    let names = any_pair (λ (a : RegisterEntry) (b : RegisterEntry). is_same_name a.name b.name) (entries_of rs) in
    let instructions = any_pair (λ (a : RegisterEntry) (b : RegisterEntry). is_same_name a.instruction b.instruction) (entries_of rs) in
    let lengths = list_any (λ (o : OpcodeEntry). has_other_length d.length o.bits) (map own_entry rs) in
    let bases = list_any (λ (o : OpcodeEntry). list_any (λ (p : OpcodeEntry). same_bits o.bits p.bits) (map opcode_entry d.opcodes)) (map own_entry rs) in
    let pairs = any_pair (λ (o : OpcodeEntry) (p : OpcodeEntry). same_bits o.bits p.bits) (map own_entry rs) in
    neither (few || names || instructions || list_any (entry_fails (map own_entry rs)) (entries_of rs)) (lengths || bases || pairs)
    (neither (few || names || instructions) (list_any (entry_fails (map own_entry rs)) (entries_of rs))
    (neither (few || names) instructions (neither few names (few_right rs is.few) (pairs_map (λ (a : RegisterEntry) (b : RegisterEntry). is_same_name a.name b.name) entry_of rs ∙ is.names))
    (pairs_map (λ (a : RegisterEntry) (b : RegisterEntry). is_same_name a.instruction b.instruction) entry_of rs ∙ is.instructions))
    (entries_right d [] rs is.each tt is.instructions))
    (neither (lengths || bases) pairs (neither lengths bases (lengths_right d rs is.each) (patterns_free d rs is.each)) (pairs_map (λ (o : OpcodeEntry) (p : OpcodeEntry). same_bits o.bits p.bits) own_entry rs ∙ is.opcodes))
