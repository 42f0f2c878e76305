-- No file's words go on with the word where reading stops.
use Rattle.std.proofs.Common.{◌≡◌, ℕ, suc, ◌+◌, ◌-◌, ◌<◌, ◌≤◌, List, [], ◌∷◌, ◌++◌, length, take, Option, Some, None, sym, ap, subst, ◌∙◌, arith, append_assoc, length-append}
use Rattle.std.specs.Prelude.{codes}
use Rattle.std.proofs.lemmas.List.{append_cancel_right}
use Rattle.std.proofs.Math.Seq.{take-append-add}
use Rattle.list_laws.proofs.Options.{none_some}
use Rattle.bsdl_lexicon.specs.declared.token.BsdlToken.{BsdlToken}
use Rattle.bsdl_lexicon.specs.declared.symbol.BsdlSymbol.TheVariants.{LeftParenthesis, RightParenthesis, Colon, Semicolon, Comma, Ampersand}
use Rattle.bsdl_lexicon.specs.Words.{name_in, key_in, integer_in, real_in, quoted_in, symbol_in}
use Rattle.bsdl_device.specs.declared.values.Stop.{Stop}
use Rattle.bsdl_device.specs.declared.written.WrittenRange.{WrittenRange}
use Rattle.bsdl_device.specs.declared.written.PortDeclaration.{PortDeclaration}
use Rattle.bsdl_device.specs.declared.written.IntegerAttribute.{IntegerAttribute}
use Rattle.bsdl_device.specs.declared.written.StringAttribute.{StringAttribute}
use Rattle.bsdl_device.specs.declared.written.File.{File}
use Rattle.bsdl_device.specs.Shape.{Pattern, Mark}
use Rattle.bsdl_device.specs.Faults.{Begun}
use Rattle.bsdl_device.specs.Readers.{Read, pair_at, skip_at, ended_at}
use Rattle.bsdl_device.specs.Files as files
use Rattle.bsdl_device.specs.Files.{views, key, mode_in, direction_in, stop_in, bound_in}
use Rattle.bsdl_device.specs.ReadingLaws.{file_at}
use Rattle.bsdl_device.proofs.Exact.{got}
use Rattle.bsdl_device.proofs.Views.{name_law, string_law}
use Rattle.bsdl_device.proofs.Sections.{declaration_law}
use Rattle.bsdl_device.proofs.Proved.{reads_each_file}
use Rattle.bsdl_device.proofs.Local.{Local, local_done, local_after, local_take, local_either, local_some, local_end, local_pair, local_skip, local_ended, local_made}

abbrev Here : (X : Type 0) → (List BsdlToken → Read BsdlToken X) → Type 0
Here X r = Local BsdlToken X r

name_local : Here (List ℕ) (λ ws. files.name_at ws)
name_local = local_take name_in

string_local : Here (List ℕ) (λ ws. files.string_at ws)
string_local = local_take quoted_in

strings_local : Here (List (List ℕ)) (λ ws. files.strings_at ws)
strings_local = local_some (symbol_in Ampersand) string_local string_law.sound

names_local : Here (List (List ℕ)) (λ ws. files.names_at ws)
names_local = local_some (symbol_in Comma) name_local name_law.sound

-- a name between marks
named_local : (before behind : List Pattern) → Here (List ℕ) (λ ws. ended_at (skip_at (views before) files.name_at) (views behind) ws)
named_local before behind = local_ended (views behind) (local_skip (views before) name_local)

range_local : Here WrittenRange (λ ws. files.range_at ws)
range_local = local_made (λ z. record { left = z.0; direction = z.1.0; right = z.1.1 }) (local_pair (local_take integer_in) (λ left. local_pair (local_take direction_in) (λ d. local_take (bound_in left d))))

type_local : Here (Option WrittenRange) (λ ws. files.type_at ws)
type_local = local_either (key_in (codes "bit")) (λ _. local_done None) (local_made (λ r. Some r) (local_ended (views (Mark RightParenthesis ∷ [])) (local_skip (views (key (codes "bit_vector") ∷ Mark LeftParenthesis ∷ [])) range_local)))

declaration_local : Here PortDeclaration (λ ws. files.declaration_at ws)
declaration_local = local_made (λ z. record { names = z.0; mode = z.1.0; range = z.1.1 }) (local_pair (local_ended (views (Mark Colon ∷ [])) names_local) (λ _. local_pair (local_take mode_in) (λ _. type_local)))

declarations_local : Here (List PortDeclaration) (λ ws. files.declarations_at ws)
declarations_local = local_some (symbol_in Semicolon) declaration_local declaration_law.sound

entity_local : (kind : List ℕ) → Here (List ℕ) (λ ws. files.entity_at kind ws)
entity_local kind = named_local (key (codes "attribute") ∷ key kind ∷ key (codes "of") ∷ []) (Mark Colon ∷ key (codes "entity") ∷ key (codes "is") ∷ [])

integer_attribute_local : (kind : List ℕ) → Here IntegerAttribute (λ ws. files.integer_attribute_at kind ws)
integer_attribute_local kind = local_made (λ z. record { entity = z.0; value = z.1 }) (local_pair (entity_local kind) (λ _. local_ended (views (Mark Semicolon ∷ [])) (local_take integer_in)))

string_attribute_local : (kind : List ℕ) → Here StringAttribute (λ ws. files.string_attribute_at kind ws)
string_attribute_local kind = local_made (λ z. record { entity = z.0; strings = z.1 }) (local_pair (entity_local kind) (λ _. local_ended (views (Mark Semicolon ∷ [])) strings_local))

behind_local : Here StringAttribute (λ ws. files.strings_behind ws)
behind_local = local_made (λ z. record { entity = z.0; strings = z.1 }) (local_pair (named_local (key (codes "of") ∷ []) (Mark Colon ∷ key (codes "entity") ∷ key (codes "is") ∷ [])) (λ _. local_ended (views (Mark Semicolon ∷ [])) strings_local))

optional_local : {Y : Type 0} {next : List BsdlToken → Read BsdlToken Y} (kind : List ℕ) → Here Y (λ ws. next ws) → Here (Option StringAttribute × Y) (λ ws. files.optional_before kind next ws)
optional_local kind local = local_either (key_in kind)
    (λ _. local_made (λ z. (Some z.0, z.1)) (local_pair behind_local (λ _. local_skip (views (key (codes "attribute") ∷ [])) local)))
    (local_made (λ x. (None, x)) local)

registers_local : Here (Option StringAttribute × (Option StringAttribute × StringAttribute)) (λ ws. files.registers_at ws)
registers_local = local_skip (views (key (codes "attribute") ∷ []))
    (optional_local (codes "IDCODE_REGISTER") (optional_local (codes "USERCODE_REGISTER") (local_skip (views (key (codes "REGISTER_ACCESS") ∷ [])) behind_local)))

-- a part of a file
record Piece (X : Type 0) : Type 0 where
  read : List BsdlToken → Read BsdlToken X
  law : Local BsdlToken X (λ ws. read ws)

abbrev both : {X Y : Type 0} → Piece X → Piece Y → Piece (X × Y)
both {X} {Y} p r = record {
  read = λ ws. pair_at p.read (λ _ a. r.read a) ws;
  law = local_pair p.law (λ _. r.law);
}

abbrev named : List Pattern → List Pattern → Piece (List ℕ)
named before behind = record { read = λ ws. ended_at (skip_at (views before) files.name_at) (views behind) ws; law = named_local before behind }

abbrev generic_piece : Piece (List ℕ)
generic_piece = record { read = λ ws. files.generic_section_at ws; law = local_ended (views files.generic_behind) (local_skip (views files.generic_before) string_local) }

abbrev ports_piece : Piece (List PortDeclaration)
ports_piece = record { read = λ ws. files.ports_section_at ws; law = local_ended (views files.ports_behind) (local_skip (views files.ports_before) declarations_local) }

abbrev pins_piece : Piece (List (List ℕ))
pins_piece = record { read = λ ws. files.pins_section_at ws; law = local_ended (views files.pins_behind) (local_skip (views files.pins_before) strings_local) }

abbrev frequency_piece : Piece (List ℕ)
frequency_piece = record { read = λ ws. files.frequency_section_at ws; law = local_ended (views files.frequency_behind) (local_skip (views files.frequency_before) (local_take real_in)) }

abbrev stop_piece : Piece Stop
stop_piece = record { read = λ ws. files.stop_section_at ws; law = local_ended (views files.stop_behind) (local_skip (views files.stop_before) (local_take stop_in)) }

abbrev integer_piece : List ℕ → Piece IntegerAttribute
integer_piece kind = record { read = λ ws. files.integer_attribute_at kind ws; law = integer_attribute_local kind }

abbrev strings_piece : List ℕ → Piece StringAttribute
strings_piece kind = record { read = λ ws. files.string_attribute_at kind ws; law = string_attribute_local kind }

abbrev registers_piece : Piece (Option StringAttribute × (Option StringAttribute × StringAttribute))
registers_piece = record { read = λ ws. files.registers_at ws; law = registers_local }

abbrev whole : Piece files.FileParts
whole = both (named files.entity_before files.entity_behind) (both generic_piece (both ports_piece (both (named files.conformance_before files.conformance_behind) (both (named files.pin_map_before files.pin_map_behind) (both (named files.constant_before files.constant_behind) (both pins_piece (both (named files.scan_in_before files.scan_in_behind) (both (named files.scan_mode_before files.scan_mode_behind) (both (named files.scan_out_before files.scan_out_behind) (both (named files.scan_reset_before files.scan_reset_behind) (both (named files.scan_clock_before files.scan_clock_behind) (both frequency_piece (both stop_piece (both (integer_piece (codes "INSTRUCTION_LENGTH")) (both (strings_piece (codes "INSTRUCTION_OPCODE")) (both (strings_piece (codes "INSTRUCTION_CAPTURE")) (both registers_piece (both (integer_piece (codes "BOUNDARY_LENGTH")) (both (strings_piece (codes "BOUNDARY_REGISTER")) (named files.end_before files.end_behind))))))))))))))))))))

sections_local : Here File (λ ws. files.sections_at ws)
sections_local = local_made files.file_of whole.law

pub file_local : Here File (λ ws. file_at ws)
file_local = local_after sections_local (λ f. local_after local_end (λ _. local_done f))

-- No file's words begin with these up to and with the word of this number.
pub record StopsAt (ws : List BsdlToken) (number : ℕ) : Type 0 where
  pub within : number ≤ length ws
  pub greatest : (v : ℕ) → number < v → v ≤ length ws → Begun (take v ws) → ⊥

-- words that go on with the word where reading stops begin no file
not_begun : (p : List BsdlToken) (w : BsdlToken) (left : List BsdlToken) → file_at (p ++ w ∷ left) ≡ (None, w ∷ left) → (next : List BsdlToken) → Begun (p ++ w ∷ next) → ⊥
not_begun p w left h next b =
    let t = file_local.at (p ++ w ∷ left) None w left h in
    let same : p ≡ t.0 = append_cancel_right p t.0 (w ∷ left) t.1 in
    let words : (p ++ w ∷ next) ++ b.more ≡ t.0 ++ w ∷ (next ++ b.more) = append_assoc p (w ∷ next) b.more ∙ ap (λ (q : List BsdlToken). q ++ w ∷ (next ++ b.more)) same in
    none_some (got (sym (t.2 (next ++ b.more)) ∙ sym (ap (λ (q : List BsdlToken). file_at q) words) ∙ reads_each_file b.file ((p ++ w ∷ next) ++ b.more) b.spells))

-- the words before that word, it, and some that follow
take_past : (p : List BsdlToken) (w : BsdlToken) (left : List BsdlToken) (v n : ℕ) → v ≡ length p + suc n → take v (p ++ w ∷ left) ≡ p ++ w ∷ take n left
take_past p w left v n e = ap (λ (k : ℕ). take k (p ++ w ∷ left)) e ∙ take-append-add p (w ∷ left) (suc n)

nothing_past : (p : List BsdlToken) (w : BsdlToken) (left : List BsdlToken) → file_at (p ++ w ∷ left) ≡ (None, w ∷ left) → (v : ℕ) → length p < v → v ≤ length (p ++ w ∷ left) → Begun (take v (p ++ w ∷ left)) → ⊥
nothing_past p w left h v above within b =
    let n : ℕ = v - suc (length p) in
    let is : take v (p ++ w ∷ left) ≡ p ++ w ∷ take n left = take_past p w left v n (omega arith) in
    let P : List BsdlToken → Type 0 = λ q. Begun q in
    not_begun p w left h (take n left) (subst P is b)

stops_there : (p : List BsdlToken) (w : BsdlToken) (left : List BsdlToken) → file_at (p ++ w ∷ left) ≡ (None, w ∷ left) → StopsAt (p ++ w ∷ left) (length p)
stops_there p w left h = record {
  within = omega (arith, length-append p (w ∷ left));
  greatest = nothing_past p w left h;
}

pub nothing_goes_on : (ws left : List BsdlToken) → file_at ws ≡ (None, left) → StopsAt ws (length ws - length left)
nothing_goes_on ws [] h = record {
  within = omega arith;
  greatest = λ v above within b. absurd (omega (arith, above, within));
}
nothing_goes_on ws (w ∷ left) h =
    let t = file_local.at ws None w left h in
    let here : file_at (t.0 ++ w ∷ left) ≡ (None, w ∷ left) = t.2 left in
    let count : length t.0 ≡ length ws - length (w ∷ left) = omega (arith, ap (λ (q : List BsdlToken). length q) t.1, length-append t.0 (w ∷ left)) in
    let P : ℕ → Type 0 = λ u. StopsAt ws u in
    let Q : List BsdlToken → Type 0 = λ q. StopsAt q (length t.0) in
    subst P count (subst Q (sym t.1) (stops_there t.0 w left here))
