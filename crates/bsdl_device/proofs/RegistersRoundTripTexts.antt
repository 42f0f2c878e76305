-- The canonical text with registers of the design's own is that of the atoms.
use Rattle.std.proofs.Common.{◌≡◌, ℕ, List, [], ◌∷◌, ◌++◌, true, map, refl, sym, ap, ◌∙◌, append_assoc}
use Rattle.std.specs.Prelude.{codes}
use Rattle.std.specs.List.{flat_map}
use Rattle.std.specs.Fmt.{decimal}
use Rattle.std.proofs.lemmas.List.{map-id, map-append, append_cancel_right}
use Rattle.cell_library.specs.declared.codes.Opcode.{Opcode}
use Rattle.bsdl_device.specs.declared.entries.AccessEntry.{AccessEntry}
use Rattle.bsdl_device.specs.Patterns.{is_filled}
use Rattle.bsdl_device.specs.Canonical.{each_after, separated_text, next_string, pattern_text, head_text, tap_text, attribute_text, opcode_text, opcodes_text, idcode_text, usercode_text, access_text, boundary_text}
use Rattle.bsdl_device.proofs.RoundTripHeld.{GoodDevice, opcodes_filled, filled_map}
use Rattle.bsdl_device.proofs.EntryAtoms.{comma_strings, opcode_bytes, access_bytes}
use Rattle.bsdl_device.proofs.Rebuilt.{opcode_entry, access_entries}
use Rattle.bsdl_device.proofs.FileAtoms.{text_then}
use Rattle.bsdl_device.proofs.FileTexts.{section_atoms_by, strings_atoms}
use Rattle.bsdl_device.proofs.CanonicalText.{chain, end_text, strings_of_entries, opcodes_same, access_then, boundary_then, registers_by_then, tap_then, head_then}
use Rattle.bsdl_device.specs.declared.registers.values.TestRegister.{TestRegister}
use Rattle.bsdl_device.specs.declared.registers.values.Extended.{Extended}
use Rattle.bsdl_device.specs.RegistersCanonical.{own_opcode_text, own_opcodes_text, own_access_text, own_accesses_text, middle_text, front_text, back_text, canonical_extended}
use Rattle.bsdl_device.proofs.RegistersRoundTripRules.{own_entry, entry_of, entries_of, whole_opcodes}
use Rattle.bsdl_device.proofs.RegistersRoundTripHeld.{item_bytes, access_item, own_item, items, whole_opcode_strings, whole_access_strings}

-- Texts, one behind the other.

abbrev same : List ℕ → List ℕ
same s = s

-- those of a list, with a string's end before each
abbrev behind : List (List ℕ) → List ℕ
behind texts = each_after next_string same texts

abbrev between : List (List ℕ) → List ℕ
between texts = separated_text next_string same texts

behind_more : (xs ys : List (List ℕ)) → behind (xs ++ ys) ≡ behind xs ++ behind ys
behind_more [] ys = refl
behind_more (x ∷ xs) ys = ap (λ (t : List ℕ). (next_string ++ x) ++ t) (behind_more xs ys) ∙ sym (append_assoc (next_string ++ x) (behind xs) (behind ys))

between_more : (xs ys : List (List ℕ)) → is_filled xs ≡ true → between xs ++ behind ys ≡ between (xs ++ ys)
between_more [] ys some = absurd (cc)
between_more (x ∷ xs) ys some = append_assoc x (behind xs) (behind ys) ∙ ap (λ (t : List ℕ). x ++ t) (sym (behind_more xs ys))

behind_map : {A : Type 0} (text : A → List ℕ) (xs : List A) → each_after next_string text xs ≡ behind (map text xs)
behind_map text [] = refl
behind_map text (x ∷ xs) = ap (λ (t : List ℕ). (next_string ++ text x) ++ t) (behind_map text xs)

between_map : {A : Type 0} (text : A → List ℕ) (xs : List A) → separated_text next_string text xs ≡ between (map text xs)
between_map text [] = refl
between_map text (x ∷ xs) = ap (λ (t : List ℕ). text x ++ t) (behind_map text xs)

-- as strings of their own
strings_between : {A : Type 0} (text : A → List ℕ) (xs : List A) (rest : List ℕ) → is_filled (map text xs) ≡ true → 34 ∷ (between (map text xs) ++ (34 ∷ rest)) ≡ text_then (strings_atoms (comma_strings text xs)) rest
strings_between text xs rest some = strings_of_entries same text (map text xs) xs rest some (map-id (map text xs))

filled_more : (xs ys : List (List ℕ)) → is_filled xs ≡ true → is_filled (xs ++ ys) ≡ true
filled_more [] ys h = absurd (cc)
filled_more (x ∷ xs) ys h = refl

-- Opcodes.

own_opcode_is : (r : TestRegister) → own_opcode_text r ≡ next_string ++ opcode_bytes (own_entry r)
unfolding own_opcode_text
own_opcode_is r = five next_string r.instr (codes " (") (pattern_text r.bits) (codes ")")
  where
    five : (a b c d e : List ℕ) → (((a ++ b) ++ c) ++ d) ++ e ≡ a ++ (b ++ (c ++ (d ++ e)))
    five a b c d e = simp append_assoc

own_opcodes_are : (rs : List TestRegister) → own_opcodes_text rs ≡ behind (map opcode_bytes (map own_entry rs))
unfolding own_opcodes_text
own_opcodes_are [] = refl
own_opcodes_are (r ∷ rs) =
    ap (λ (t : List ℕ). t ++ flat_map own_opcode_text rs) (own_opcode_is r)
    ∙ ap (λ (t : List ℕ). (next_string ++ opcode_bytes (own_entry r)) ++ t) (own_opcodes_are rs)

opcodes_are : (ops : List Opcode) → opcodes_text ops ≡ between (map opcode_bytes (map opcode_entry ops))
unfolding opcodes_text
opcodes_are ops = between_map opcode_text ops ∙ ap between (opcodes_same ops)

whole_opcodes_are : (ops : List Opcode) (rs : List TestRegister) → is_filled ops ≡ true → opcodes_text ops ++ own_opcodes_text rs ≡ between (map opcode_bytes (whole_opcodes ops rs))
whole_opcodes_are ops rs some =
    ap (λ (t : List ℕ). t ++ own_opcodes_text rs) (opcodes_are ops)
    ∙ ap (λ (t : List ℕ). between (map opcode_bytes (map opcode_entry ops)) ++ t) (own_opcodes_are rs)
    ∙ between_more (map opcode_bytes (map opcode_entry ops)) (map opcode_bytes (map own_entry rs)) (filled_map opcode_bytes (map opcode_entry ops) (filled_map opcode_entry ops some))
    ∙ ap between (sym (map-append opcode_bytes (map opcode_entry ops) (map own_entry rs)))

whole_filled : (ops : List Opcode) (rs : List TestRegister) → is_filled ops ≡ true → is_filled (map opcode_bytes (whole_opcodes ops rs)) ≡ true
whole_filled [] rs h = absurd (cc)
whole_filled (o ∷ ops) rs h = refl

opcodes_then : (ops : List Opcode) (rs : List TestRegister) → is_filled ops ≡ true → (rest : List ℕ) → 34 ∷ ((opcodes_text ops ++ own_opcodes_text rs) ++ (34 ∷ rest)) ≡ text_then (strings_atoms (comma_strings opcode_bytes (whole_opcodes ops rs))) rest
opcodes_then ops rs some rest = ap (λ (t : List ℕ). 34 ∷ (t ++ (34 ∷ rest))) (whole_opcodes_are ops rs some) ∙ strings_between opcode_bytes (whole_opcodes ops rs) rest (whole_filled ops rs some)

-- Registers.

own_access_is : (r : TestRegister) (rest : List ℕ) → own_access_text r ++ (41 ∷ rest) ≡ 41 ∷ (next_string ++ (item_bytes (own_item (entry_of r)) ++ rest))
unfolding own_access_text
own_access_is r rest =
    eight (codes ")") next_string r.name (codes "[") (decimal r.length) (codes "] (") r.instr (41 ∷ rest)
    ∙ ap (λ (t : List ℕ). 41 ∷ (next_string ++ t)) (sym (four r.name (decimal r.length) r.instr))
  where
    eight : (a b c d e f g h : List ℕ) → ((((((a ++ b) ++ c) ++ d) ++ e) ++ f) ++ g) ++ h ≡ a ++ (b ++ (c ++ (d ++ (e ++ (f ++ (g ++ h))))))
    eight a b c d e f g h = simp append_assoc

    four : (name length instr : List ℕ) → (name ++ (91 ∷ (length ++ (93 ∷ 32 ∷ 40 ∷ (instr ++ (41 ∷ [])))))) ++ rest ≡ name ++ (91 ∷ (length ++ (93 ∷ 32 ∷ 40 ∷ (instr ++ (41 ∷ rest)))))
    four name length instr =
        append_assoc name (91 ∷ (length ++ (93 ∷ 32 ∷ 40 ∷ (instr ++ (41 ∷ []))))) rest
        ∙ ap (λ (t : List ℕ). name ++ (91 ∷ t)) (append_assoc length (93 ∷ 32 ∷ 40 ∷ (instr ++ (41 ∷ []))) rest
        ∙ ap (λ (t : List ℕ). length ++ (93 ∷ 32 ∷ 40 ∷ t)) (append_assoc instr (41 ∷ []) rest))

abbrev own_bytes : List TestRegister → List (List ℕ)
own_bytes rs = map item_bytes (map own_item (entries_of rs))

own_accesses_are : (rs : List TestRegister) (rest : List ℕ) → own_accesses_text rs ++ (41 ∷ rest) ≡ 41 ∷ (behind (own_bytes rs) ++ rest)
unfolding own_accesses_text
own_accesses_are [] rest = refl
own_accesses_are (r ∷ rs) rest =
    append_assoc (own_access_text r) (flat_map own_access_text rs) (41 ∷ rest)
    ∙ ap (λ (t : List ℕ). own_access_text r ++ t) (own_accesses_are rs rest)
    ∙ own_access_is r (behind (own_bytes rs) ++ rest)
    ∙ ap (λ (t : List ℕ). 41 ∷ t) (sym (append_assoc next_string (item_bytes (own_item (entry_of r))) (behind (own_bytes rs) ++ rest)))
    ∙ ap (λ (t : List ℕ). 41 ∷ t) (sym (append_assoc (next_string ++ item_bytes (own_item (entry_of r))) (behind (own_bytes rs)) rest))

-- without its first byte
abbrev less_one : List ℕ → List ℕ
less_one [] = []
less_one (b ∷ bytes) = bytes

-- the profile's registers, with the parenthesis that ends them
accesses_are : (ops : List Opcode) → access_text ops ++ (41 ∷ []) ≡ between (map access_bytes (access_entries ops))
accesses_are ops =
    let whole : access_text ops ++ (41 ∷ 34 ∷ []) ≡ between (map access_bytes (access_entries ops)) ++ (34 ∷ []) = ap less_one (access_then ops [] ∙ sym (strings_between access_bytes (access_entries ops) [] refl)) in
    append_cancel_right (access_text ops ++ (41 ∷ [])) (between (map access_bytes (access_entries ops))) (34 ∷ []) (append_assoc (access_text ops) (41 ∷ []) (34 ∷ []) ∙ whole)

item_map : (list : List AccessEntry) → map item_bytes (map access_item list) ≡ map access_bytes list
item_map [] = refl
item_map (a ∷ list) = ap (λ (l : List (List ℕ)). access_bytes a ∷ l) (item_map list)

items_are : (ops : List Opcode) (rs : List TestRegister) → between (map access_bytes (access_entries ops)) ++ behind (own_bytes rs) ≡ between (map item_bytes (items ops rs))
items_are ops rs =
    between_more (map access_bytes (access_entries ops)) (own_bytes rs) refl
    ∙ ap between (ap (λ (l : List (List ℕ)). l ++ own_bytes rs) (sym (item_map (access_entries ops))) ∙ sym (map-append item_bytes (map access_item (access_entries ops)) (map own_item (entries_of rs))))

whole_access_then : (ops : List Opcode) (rs : List TestRegister) (rest : List ℕ) → 34 ∷ ((access_text ops ++ own_accesses_text rs) ++ (41 ∷ 34 ∷ rest)) ≡ text_then (strings_atoms (comma_strings item_bytes (items ops rs))) rest
whole_access_then ops rs rest =
    ap (λ (t : List ℕ). 34 ∷ t) (
    append_assoc (access_text ops) (own_accesses_text rs) (41 ∷ 34 ∷ rest)
    ∙ ap (λ (t : List ℕ). access_text ops ++ t) (own_accesses_are rs (34 ∷ rest))
    ∙ sym (append_assoc (access_text ops) (41 ∷ []) (behind (own_bytes rs) ++ (34 ∷ rest)))
    ∙ ap (λ (t : List ℕ). t ++ (behind (own_bytes rs) ++ (34 ∷ rest))) (accesses_are ops)
    ∙ sym (append_assoc (between (map access_bytes (access_entries ops))) (behind (own_bytes rs)) (34 ∷ rest))
    ∙ ap (λ (t : List ℕ). t ++ (34 ∷ rest)) (items_are ops rs))
    ∙ strings_between item_bytes (items ops rs) rest refl

-- The whole text.

all_parts : (h t l n o c p k q i u a x y b z : List ℕ) → (((((((h ++ t) ++ l) ++ n) ++ o) ++ c) ++ p) ++ (((((k ++ q) ++ i) ++ u) ++ a) ++ x)) ++ y ++ (b ++ z) ≡ h ++ (t ++ (l ++ (n ++ (o ++ ((c ++ p) ++ (k ++ (q ++ (i ++ (u ++ (a ++ ((x ++ y) ++ (b ++ z))))))))))))
all_parts h t l n o c p k q i u a x y b z = simp append_assoc

pub extended_text : (e : Extended) → GoodDevice e.device → canonical_extended e ≡ chain (section_atoms_by e.device (whole_opcode_strings e) (whole_access_strings e))
unfolding canonical_extended front_text middle_text back_text
extended_text e g =
    let d = e.device in
    let os = whole_opcode_strings e in
    let bs = whole_access_strings e in
    let own = own_opcodes_text e.registers in
    let others = own_accesses_text e.registers in
    let tap_part = λ (t : List ℕ). head_text d ++ (tap_text d ++ t) in
    all_parts (head_text d) (tap_text d) (attribute_text [] (codes "INSTRUCTION_LENGTH") d.entity (codes " ")) (decimal d.length) (attribute_text (codes ";\n") (codes "INSTRUCTION_OPCODE") d.entity (codes "\n    \"")) (opcodes_text d.opcodes) own
    (attribute_text (codes "\";\n") (codes "INSTRUCTION_CAPTURE") d.entity (codes " \"")) (pattern_text d.capture) (idcode_text d.entity d.idcode) (usercode_text d.entity d.usercode) (attribute_text (codes "\";\n") (codes "REGISTER_ACCESS") d.entity (codes "\n    \"")) (access_text d.opcodes) others (boundary_text d) (end_text d)
    ∙ ap (λ (t : List ℕ). tap_part (attribute_text [] (codes "INSTRUCTION_LENGTH") d.entity (codes " ") ++ (decimal d.length ++ (attribute_text (codes ";\n") (codes "INSTRUCTION_OPCODE") d.entity (codes "\n    \"") ++ ((opcodes_text d.opcodes ++ own)
    ++ (attribute_text (codes "\";\n") (codes "INSTRUCTION_CAPTURE") d.entity (codes " \"") ++ (pattern_text d.capture ++ (idcode_text d.entity d.idcode ++ (usercode_text d.entity d.usercode
    ++ (attribute_text (codes "\";\n") (codes "REGISTER_ACCESS") d.entity (codes "\n    \"") ++ ((access_text d.opcodes ++ others) ++ t))))))))))) (boundary_then d g)
    ∙ ap tap_part (registers_by_then d os bs (opcodes_text d.opcodes ++ own) (access_text d.opcodes ++ others) (opcodes_then d.opcodes e.registers (opcodes_filled d.opcodes g.all)) (whole_access_then d.opcodes e.registers))
    ∙ ap (λ (t : List ℕ). head_text d ++ t) (tap_then d os bs)
    ∙ head_then d os bs g
