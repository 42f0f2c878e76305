-- A file is read from its words alone, and from all of them.
use Rattle.std.proofs.Common.{◌≡◌, ℕ, List, [], ◌∷◌, refl, sym, ap, append_assoc}
use Rattle.std.specs.Prelude.{◌++◌, codes}
use Rattle.bsdl_lexicon.specs.declared.token.BsdlToken.{BsdlToken}
use Rattle.bsdl_lexicon.specs.declared.symbol.BsdlSymbol.TheVariants.{RightParenthesis, Semicolon, Ampersand}
use Rattle.bsdl_device.specs.declared.values.Stop.{Stop}
use Rattle.bsdl_device.specs.declared.written.PortDeclaration.{PortDeclaration}
use Rattle.bsdl_device.specs.declared.written.IntegerAttribute.{IntegerAttribute}
use Rattle.bsdl_device.specs.declared.written.StringAttribute.{StringAttribute}
use Rattle.bsdl_device.specs.declared.written.File.{File}
use Rattle.bsdl_device.specs.Patterns.{separated_by}
use Rattle.bsdl_device.specs.Shape.{Pattern, KeyWord, NameOf, RealOf, StringOf, Mark, Fits, declaration_words, strings_words, stop_word, integer_attribute_words, string_attribute_words, file_words, entity_section, generic_section, port_section, use_section, conformance_section, pin_map_section, constant_section, tap_section, clock_section, length_section, opcode_section, capture_section, idcode_section, access_section, boundary_length_section, boundary_section, end_section}
use Rattle.bsdl_device.specs.Readers.{Read, pair_at}
use Rattle.bsdl_device.specs.Files as files
use Rattle.bsdl_device.proofs.Exact.{Exact, Anything}
use Rattle.bsdl_device.proofs.Matched.{Spelled, spelled_skip, spelled_ended, spelled_pair, spelled_made}
use Rattle.bsdl_device.proofs.Listed.{AreSome}
use Rattle.bsdl_device.proofs.Views.{Free, marks_law, name_law, string_law, strings_law, real_law, symbol_next, HasStrings, integer_attribute_law, string_attribute_law}
use Rattle.bsdl_device.proofs.Declarations.{stop_law}
use Rattle.bsdl_device.proofs.Sections.{IsDeclaration, declarations_law, Attributes, HaveStrings, sections_words, registers_are_law}

-- a part of a file: how it is read, and its words
pub record Part (X : Type 0) (ok : X → Type 0) : Type 0 where
  pub read : List BsdlToken → Read BsdlToken X
  pub words : X → List Pattern
  pub law : Exact BsdlToken X (λ ws. read ws) (Spelled Fits ok words) Anything

abbrev pub both : {X Y : Type 0} {ok : X → Type 0} {fine : Y → Type 0} → Part X ok → Part Y fine → Part (X × Y) (λ z. ok z.0 × fine z.1)
both {X} {Y} {ok} {fine} p r = record {
  read = λ ws. pair_at p.read (λ _ a. r.read a) ws;
  words = λ z. p.words z.0 ++ r.words z.1;
  law = spelled_pair Fits ok (λ _ y. fine y) p.words (λ _ y. r.words y) p.law (λ _. r.law) (λ x y b left m t. tt);
}

abbrev pub entity_part : Part (List ℕ) (λ x. Unit {0})
entity_part = record {
  read = λ ws. files.entity_section_at ws;
  words = λ x. (files.entity_before ++ NameOf x ∷ []) ++ files.entity_behind;
  law = spelled_ended Fits (files.views files.entity_behind) files.entity_behind (λ x. files.entity_before ++ NameOf x ∷ []) (spelled_skip Fits (files.views files.entity_before) files.entity_before (λ x. NameOf x ∷ []) (marks_law files.entity_before (refl, tt)) name_law) (marks_law files.entity_behind (refl, tt)) (λ b left m. tt);
}

abbrev pub generic_part : Part (List ℕ) (λ x. Unit {0})
generic_part = record {
  read = λ ws. files.generic_section_at ws;
  words = λ x. (files.generic_before ++ StringOf x ∷ []) ++ files.generic_behind;
  law = spelled_ended Fits (files.views files.generic_behind) files.generic_behind (λ x. files.generic_before ++ StringOf x ∷ []) (spelled_skip Fits (files.views files.generic_before) files.generic_before (λ x. StringOf x ∷ []) (marks_law files.generic_before (refl, (refl, (refl, (refl, (refl, (refl, tt))))))) string_law) (marks_law files.generic_behind (refl, (refl, tt))) (λ b left m. tt);
}

abbrev pub ports_part : Part (List PortDeclaration) (λ x. AreSome IsDeclaration x)
ports_part = record {
  read = λ ws. files.ports_section_at ws;
  words = λ x. (files.ports_before ++ separated_by (Mark Semicolon) declaration_words x) ++ files.ports_behind;
  law = spelled_ended Fits (files.views files.ports_behind) files.ports_behind (λ x. files.ports_before ++ separated_by (Mark Semicolon) declaration_words x) (spelled_skip Fits (files.views files.ports_before) files.ports_before (λ list. separated_by (Mark Semicolon) declaration_words list) (marks_law files.ports_before (refl, (refl, tt))) declarations_law) (marks_law files.ports_behind (refl, (refl, tt))) (λ b left m. symbol_next RightParenthesis Semicolon refl (Mark Semicolon ∷ []) b left m);
}

abbrev pub conformance_part : Part (List ℕ) (λ x. Unit {0})
conformance_part = record {
  read = λ ws. files.conformance_section_at ws;
  words = λ x. (files.conformance_before ++ NameOf x ∷ []) ++ files.conformance_behind;
  law = spelled_ended Fits (files.views files.conformance_behind) files.conformance_behind (λ x. files.conformance_before ++ NameOf x ∷ []) (spelled_skip Fits (files.views files.conformance_before) files.conformance_before (λ x. NameOf x ∷ []) (marks_law files.conformance_before (refl, (refl, (refl, (refl, (refl, (refl, (refl, (refl, tt))))))))) name_law) (marks_law files.conformance_behind (refl, (refl, (refl, (refl, (refl, tt)))))) (λ b left m. tt);
}

abbrev pub pin_map_part : Part (List ℕ) (λ x. Unit {0})
pin_map_part = record {
  read = λ ws. files.pin_map_section_at ws;
  words = λ x. (files.pin_map_before ++ NameOf x ∷ []) ++ files.pin_map_behind;
  law = spelled_ended Fits (files.views files.pin_map_behind) files.pin_map_behind (λ x. files.pin_map_before ++ NameOf x ∷ []) (spelled_skip Fits (files.views files.pin_map_before) files.pin_map_before (λ x. NameOf x ∷ []) (marks_law files.pin_map_before (refl, (refl, (refl, tt)))) name_law) (marks_law files.pin_map_behind (refl, (refl, (refl, (refl, (refl, tt)))))) (λ b left m. tt);
}

abbrev pub constant_part : Part (List ℕ) (λ x. Unit {0})
constant_part = record {
  read = λ ws. files.constant_section_at ws;
  words = λ x. (files.constant_before ++ NameOf x ∷ []) ++ files.constant_behind;
  law = spelled_ended Fits (files.views files.constant_behind) files.constant_behind (λ x. files.constant_before ++ NameOf x ∷ []) (spelled_skip Fits (files.views files.constant_before) files.constant_before (λ x. NameOf x ∷ []) (marks_law files.constant_before (refl, tt)) name_law) (marks_law files.constant_behind (refl, (refl, (refl, tt)))) (λ b left m. tt);
}

abbrev pub pins_part : Part (List (List ℕ)) (λ x. AreSome Free x)
pins_part = record {
  read = λ ws. files.pins_section_at ws;
  words = λ x. (files.pins_before ++ strings_words x) ++ files.pins_behind;
  law = spelled_ended Fits (files.views files.pins_behind) files.pins_behind (λ x. files.pins_before ++ strings_words x) (spelled_skip Fits (files.views files.pins_before) files.pins_before strings_words (marks_law files.pins_before tt) strings_law) (marks_law files.pins_behind (refl, tt)) (λ b left m. symbol_next Semicolon Ampersand refl [] b left m);
}

abbrev pub scan_in_part : Part (List ℕ) (λ x. Unit {0})
scan_in_part = record {
  read = λ ws. files.scan_in_section_at ws;
  words = λ x. (files.scan_in_before ++ NameOf x ∷ []) ++ files.scan_in_behind;
  law = spelled_ended Fits (files.views files.scan_in_behind) files.scan_in_behind (λ x. files.scan_in_before ++ NameOf x ∷ []) (spelled_skip Fits (files.views files.scan_in_before) files.scan_in_before (λ x. NameOf x ∷ []) (marks_law files.scan_in_before (refl, (refl, (refl, tt)))) name_law) (marks_law files.scan_in_behind (refl, (refl, (refl, (refl, (refl, tt)))))) (λ b left m. tt);
}

abbrev pub scan_mode_part : Part (List ℕ) (λ x. Unit {0})
scan_mode_part = record {
  read = λ ws. files.scan_mode_section_at ws;
  words = λ x. (files.scan_mode_before ++ NameOf x ∷ []) ++ files.scan_mode_behind;
  law = spelled_ended Fits (files.views files.scan_mode_behind) files.scan_mode_behind (λ x. files.scan_mode_before ++ NameOf x ∷ []) (spelled_skip Fits (files.views files.scan_mode_before) files.scan_mode_before (λ x. NameOf x ∷ []) (marks_law files.scan_mode_before (refl, (refl, (refl, tt)))) name_law) (marks_law files.scan_mode_behind (refl, (refl, (refl, (refl, (refl, tt)))))) (λ b left m. tt);
}

abbrev pub scan_out_part : Part (List ℕ) (λ x. Unit {0})
scan_out_part = record {
  read = λ ws. files.scan_out_section_at ws;
  words = λ x. (files.scan_out_before ++ NameOf x ∷ []) ++ files.scan_out_behind;
  law = spelled_ended Fits (files.views files.scan_out_behind) files.scan_out_behind (λ x. files.scan_out_before ++ NameOf x ∷ []) (spelled_skip Fits (files.views files.scan_out_before) files.scan_out_before (λ x. NameOf x ∷ []) (marks_law files.scan_out_before (refl, (refl, (refl, tt)))) name_law) (marks_law files.scan_out_behind (refl, (refl, (refl, (refl, (refl, tt)))))) (λ b left m. tt);
}

abbrev pub scan_reset_part : Part (List ℕ) (λ x. Unit {0})
scan_reset_part = record {
  read = λ ws. files.scan_reset_section_at ws;
  words = λ x. (files.scan_reset_before ++ NameOf x ∷ []) ++ files.scan_reset_behind;
  law = spelled_ended Fits (files.views files.scan_reset_behind) files.scan_reset_behind (λ x. files.scan_reset_before ++ NameOf x ∷ []) (spelled_skip Fits (files.views files.scan_reset_before) files.scan_reset_before (λ x. NameOf x ∷ []) (marks_law files.scan_reset_before (refl, (refl, (refl, tt)))) name_law) (marks_law files.scan_reset_behind (refl, (refl, (refl, (refl, (refl, tt)))))) (λ b left m. tt);
}

abbrev pub scan_clock_part : Part (List ℕ) (λ x. Unit {0})
scan_clock_part = record {
  read = λ ws. files.scan_clock_section_at ws;
  words = λ x. (files.scan_clock_before ++ NameOf x ∷ []) ++ files.scan_clock_behind;
  law = spelled_ended Fits (files.views files.scan_clock_behind) files.scan_clock_behind (λ x. files.scan_clock_before ++ NameOf x ∷ []) (spelled_skip Fits (files.views files.scan_clock_before) files.scan_clock_before (λ x. NameOf x ∷ []) (marks_law files.scan_clock_before (refl, (refl, (refl, tt)))) name_law) (marks_law files.scan_clock_behind (refl, (refl, (refl, (refl, tt))))) (λ b left m. tt);
}

abbrev pub frequency_part : Part (List ℕ) (λ x. Unit {0})
frequency_part = record {
  read = λ ws. files.frequency_section_at ws;
  words = λ x. (files.frequency_before ++ RealOf x ∷ []) ++ files.frequency_behind;
  law = spelled_ended Fits (files.views files.frequency_behind) files.frequency_behind (λ x. files.frequency_before ++ RealOf x ∷ []) (spelled_skip Fits (files.views files.frequency_before) files.frequency_before (λ x. RealOf x ∷ []) (marks_law files.frequency_before tt) real_law) (marks_law files.frequency_behind (refl, tt)) (λ b left m. tt);
}

abbrev pub stop_part : Part Stop (λ x. Unit {0})
stop_part = record {
  read = λ ws. files.stop_section_at ws;
  words = λ x. (files.stop_before ++ KeyWord (stop_word x) ∷ []) ++ files.stop_behind;
  law = spelled_ended Fits (files.views files.stop_behind) files.stop_behind (λ x. files.stop_before ++ KeyWord (stop_word x) ∷ []) (spelled_skip Fits (files.views files.stop_before) files.stop_before (λ x. KeyWord (stop_word x) ∷ []) (marks_law files.stop_before tt) stop_law) (marks_law files.stop_behind (refl, (refl, tt))) (λ b left m. tt);
}

abbrev pub end_part : Part (List ℕ) (λ x. Unit {0})
end_part = record {
  read = λ ws. files.end_section_at ws;
  words = λ x. (files.end_before ++ NameOf x ∷ []) ++ files.end_behind;
  law = spelled_ended Fits (files.views files.end_behind) files.end_behind (λ x. files.end_before ++ NameOf x ∷ []) (spelled_skip Fits (files.views files.end_before) files.end_before (λ x. NameOf x ∷ []) (marks_law files.end_before (refl, tt)) name_law) (marks_law files.end_behind (refl, tt)) (λ b left m. tt);
}

abbrev pub length_part : Part IntegerAttribute (λ x. Unit {0})
length_part = record {
  read = λ ws. files.integer_attribute_at (codes "INSTRUCTION_LENGTH") ws;
  words = λ a. integer_attribute_words (codes "INSTRUCTION_LENGTH") a;
  law = integer_attribute_law (codes "INSTRUCTION_LENGTH");
}

abbrev pub opcodes_part : Part StringAttribute (λ x. HasStrings x)
opcodes_part = record {
  read = λ ws. files.string_attribute_at (codes "INSTRUCTION_OPCODE") ws;
  words = λ a. string_attribute_words (codes "INSTRUCTION_OPCODE") a;
  law = string_attribute_law (codes "INSTRUCTION_OPCODE");
}

abbrev pub capture_part : Part StringAttribute (λ x. HasStrings x)
capture_part = record {
  read = λ ws. files.string_attribute_at (codes "INSTRUCTION_CAPTURE") ws;
  words = λ a. string_attribute_words (codes "INSTRUCTION_CAPTURE") a;
  law = string_attribute_law (codes "INSTRUCTION_CAPTURE");
}

abbrev pub registers_part : Part Attributes (λ x. HaveStrings x)
registers_part = record {
  read = λ ws. files.registers_at ws;
  words = λ z. sections_words z;
  law = registers_are_law;
}

abbrev pub boundary_length_part : Part IntegerAttribute (λ x. Unit {0})
boundary_length_part = record {
  read = λ ws. files.integer_attribute_at (codes "BOUNDARY_LENGTH") ws;
  words = λ a. integer_attribute_words (codes "BOUNDARY_LENGTH") a;
  law = integer_attribute_law (codes "BOUNDARY_LENGTH");
}

abbrev pub boundary_part : Part StringAttribute (λ x. HasStrings x)
boundary_part = record {
  read = λ ws. files.string_attribute_at (codes "BOUNDARY_REGISTER") ws;
  words = λ a. string_attribute_words (codes "BOUNDARY_REGISTER") a;
  law = string_attribute_law (codes "BOUNDARY_REGISTER");
}

-- the rules that a file's parts keep
abbrev pub KeptBy : files.FileParts → Type 0
KeptBy z = (Unit {0} × (Unit {0} × (AreSome IsDeclaration (z.1.1.0) × (Unit {0} × (Unit {0} × (Unit {0} × (AreSome Free (z.1.1.1.1.1.1.0) × (Unit {0} × (Unit {0} × (Unit {0} × (Unit {0} × (Unit {0} × (Unit {0} × (Unit {0} × (Unit {0} × (HasStrings (z.1.1.1.1.1.1.1.1.1.1.1.1.1.1.1.0) × (HasStrings (z.1.1.1.1.1.1.1.1.1.1.1.1.1.1.1.1.0) × (HaveStrings (z.1.1.1.1.1.1.1.1.1.1.1.1.1.1.1.1.1.0) × (Unit {0} × (HasStrings (z.1.1.1.1.1.1.1.1.1.1.1.1.1.1.1.1.1.1.1.0) × Unit {0}))))))))))))))))))))

abbrev whole : Part files.FileParts KeptBy
whole = (both entity_part (both generic_part (both ports_part (both conformance_part (both pin_map_part (both constant_part (both pins_part (both scan_in_part (both scan_mode_part (both scan_out_part (both scan_reset_part (both scan_clock_part (both frequency_part (both stop_part (both length_part (both opcodes_part (both capture_part (both registers_part (both boundary_length_part (both boundary_part end_part))))))))))))))))))))

-- The parts of a file.
abbrev parts_of : File → files.FileParts
parts_of f = (f.entity, (f.default_package, (f.declarations, (f.conformance_entity, (f.pin_map_entity, (f.«package», (f.pin_map, (f.tap.tdi, (f.tap.tms, (f.tap.tdo, (f.tap.trst, (f.tap.tck, (f.clock, (f.stop, (f.length, (f.opcodes, (f.capture, ((f.idcode, (f.usercode, f.access)), (f.boundary_length, (f.boundary, f.end))))))))))))))))))))

-- the rules that a file keeps
abbrev pub KeptFile : File → Type 0
KeptFile f = KeptBy (parts_of f)

-- the sections before the identification register, and these words behind them
abbrev sections_before : File → List Pattern → List Pattern
sections_before f tail = entity_section f ++ (generic_section f ++ (port_section f ++ (use_section ++ (conformance_section f ++ (pin_map_section f ++ (constant_section f ++ (tap_section f ++ (clock_section f ++ (length_section f ++ (opcode_section f ++ (capture_section f ++ tail)))))))))))

words_are : (f : File) → whole.words (parts_of f) ≡ file_words f
words_are f =
    let last : List Pattern = boundary_length_section f ++ (boundary_section f ++ (end_section f ++ [])) in
    ap (λ (tail : List Pattern). sections_before f tail) (append_assoc (idcode_section f) (access_section f) last)

pub file_law : Exact BsdlToken File (λ ws. files.sections_at ws) (Spelled Fits KeptFile file_words) Anything
file_law = spelled_made Fits KeptFile file_words files.file_of parts_of (λ f. refl) (λ x h. h) (λ y h. h) (λ z. words_are (files.file_of z)) (λ f. sym (words_are f)) whole.law
