-- The words before a fault begin a file's words.
use Rattle.std.proofs.Common.{◌≡◌, ℕ, ◌-◌, ◌==◌, Bool, true, false, cond, List, [], ◌∷◌, ◌++◌, length, take, Option, Some, None, refl, sym, ap, subst, ◌∙◌, arith, append-nil, length-append}
use Rattle.std.specs.Prelude.{codes, map}
use Rattle.std.specs.List.{AllByRecursion}
use Rattle.std.proofs.Math.Seq.{take-append_seam}
use Rattle.list_laws.proofs.Options.{none_some}
use Rattle.bsdl_lexicon.specs.declared.token.BsdlToken.{BsdlToken}
use Rattle.bsdl_lexicon.specs.declared.token.BsdlToken.TheVariants as word
use Rattle.bsdl_lexicon.specs.declared.symbol.BsdlSymbol.{BsdlSymbol}
use Rattle.bsdl_lexicon.specs.declared.symbol.BsdlSymbol.TheVariants.{LeftParenthesis, RightParenthesis, Colon, Semicolon, Comma, Ampersand, Dot}
use Rattle.bsdl_lexicon.specs.Names.{lower, is_same_name}
use Rattle.bsdl_lexicon.specs.Reserved.{is_reserved}
use Rattle.std.proofs.lemmas.Slice.Eq.{bytes_eq-Decides}
use Rattle.std.proofs.lemmas.Bool.{le-leb}
use Rattle.bsdl_lexicon.specs.Words.{name_in, key_in, integer_in, real_in, quoted_in, symbol_in, symbol_byte}
use Rattle.bsdl_device.specs.declared.values.Stop.{Stop}
use Rattle.bsdl_device.specs.declared.values.Stop.TheVariants as stop
use Rattle.bsdl_device.specs.declared.values.PortMode.{PortMode}
use Rattle.bsdl_device.specs.declared.values.PortMode.TheVariants as mode
use Rattle.bsdl_device.specs.declared.written.Direction.{Direction}
use Rattle.bsdl_device.specs.declared.written.Direction.TheVariants as direction
use Rattle.bsdl_device.specs.declared.written.WrittenRange.{WrittenRange}
use Rattle.bsdl_device.specs.declared.written.PortDeclaration.{PortDeclaration}
use Rattle.bsdl_device.specs.declared.written.IntegerAttribute.{IntegerAttribute}
use Rattle.bsdl_device.specs.declared.written.StringAttribute.{StringAttribute}
use Rattle.bsdl_device.specs.declared.written.File.{File}
use Rattle.bsdl_device.specs.Shape.{Pattern, KeyWord, NameOf, IntegerOf, RealOf, StringOf, Mark, BecomesMark, Fits, names_words, declaration_words}
use Rattle.bsdl_device.specs.Faults.{Begun}
use Rattle.bsdl_device.specs.Readers.{Read, front, after, done, take_at, skip_at, ended_at, made_at, marks_at, end_at}
use Rattle.bsdl_device.specs.Files as files
use Rattle.bsdl_device.specs.Files.{views, key, mark_in, mode_in, direction_in, stop_in, bounded, bound_in}
use Rattle.bsdl_device.specs.Spelled.{SpellsFile}
use Rattle.bsdl_device.specs.Patterns.{separated_by}
use Rattle.bsdl_device.specs.ReadingLaws.{file_at, FaultsAtFaultWord}
use Rattle.bsdl_device.proofs.Exact.{Exact, Anything, exact_take, got, stays, reading}
use Rattle.bsdl_device.proofs.Choices.{NotNext}
use Rattle.bsdl_device.proofs.Matched.{Spelled, spelled_skip, spelled_ended}
use Rattle.bsdl_device.proofs.Listed.{AreSome}
use Rattle.bsdl_device.proofs.Views.{is_mark, Free, HasStrings, marks_law, name_law, integer_law, real_law, string_law, strings_law, names_law, entity_law, symbol_next}
use Rattle.bsdl_device.proofs.Declarations.{key_differs, range_law, range_words}
use Rattle.bsdl_device.proofs.Sections.{IsDeclaration, declaration_law, declarations_law, behind_law, MayHave, IsUnseen, Attributes, access_words, access_law, access_unseen, user_words, user_at, user_law, user_unseen, HaveStrings}
use Rattle.bsdl_device.proofs.ReadingRules.{is_file}
use Rattle.bsdl_device.proofs.Proved.{faults_spell_nothing}
use Rattle.bsdl_device.proofs.LocalFile.{nothing_goes_on}
use Rattle.bsdl_device.proofs.ReadingWhole.{Part, both, KeptBy, file_law, entity_part, generic_part, ports_part, conformance_part, pin_map_part, constant_part, pins_part, scan_in_part, scan_mode_part, scan_out_part, scan_reset_part, scan_clock_part, frequency_part, stop_part, length_part, opcodes_part, capture_part, registers_part, boundary_length_part, boundary_part, end_part}
use Rattle.bsdl_device.proofs.Reach.{Reach, reach_done, reach_map, reach_take, reach_either, reach_marks, reach_some, reach_pair, reach_skip, reach_ended}

abbrev Here : (X : Type 0) → (List BsdlToken → Read BsdlToken X) → Type 0
Here X r = Reach BsdlToken X r

-- a word that is a mark; for what is no mark any word
word_of : Pattern → BsdlToken
word_of (KeyWord k) = word.Name k
word_of (NameOf name) = word.Becomes
word_of (IntegerOf value) = word.Becomes
word_of (RealOf real) = word.Becomes
word_of (StringOf bytes) = word.Quoted bytes
word_of (Mark s) = word.Symbol s
word_of BecomesMark = word.Becomes

symbol_itself : (s : BsdlSymbol) → symbol_in s (word.Symbol s) ≡ Some tt
symbol_itself LeftParenthesis = refl
symbol_itself RightParenthesis = refl
symbol_itself Colon = refl
symbol_itself Semicolon = refl
symbol_itself Comma = refl
symbol_itself Ampersand = refl
symbol_itself Dot = refl

mark_itself : (q : Pattern) → is_mark q ≡ true → mark_in q (word_of q) ≡ Some tt
unfolding word_of
mark_itself (KeyWord k) h = ap (λ (b : Bool). let o : Option (Unit {0}) = cond b (Some tt) None in o) ((bytes_eq-Decides (map lower k) (map lower k)).1 refl)
mark_itself (NameOf name) h = absurd (cc)
mark_itself (IntegerOf value) h = absurd (cc)
mark_itself (RealOf real) h = absurd (cc)
mark_itself (StringOf bytes) h = ap (λ (b : Bool). let o : Option (Unit {0}) = cond b (Some tt) None in o) ((bytes_eq-Decides bytes bytes).1 refl)
mark_itself (Mark s) h = symbol_itself s
mark_itself BecomesMark h = refl

marks_themselves : (marks : List Pattern) → AllByRecursion (λ q. is_mark q ≡ true) marks → AllByRecursion (λ q. mark_in q (word_of q) ≡ Some tt) marks
marks_themselves [] all = tt
marks_themselves (q ∷ marks) all = (mark_itself q all.0, marks_themselves marks all.1)

abbrev AreMarks : List Pattern → Type 0
AreMarks marks = AllByRecursion (λ q. is_mark q ≡ true) marks

marks_reach : (marks : List Pattern) → AreMarks marks → Here (Unit {0}) (λ ws. marks_at (views marks) ws)
marks_reach marks all = reach_marks mark_in word_of marks (marks_themselves marks all)

-- a part between marks, where anything may follow the part
between : {X : Type 0} {one : List BsdlToken → Read BsdlToken X} {ok : X → Type 0} (words : X → List Pattern) (before behind : List Pattern) → AreMarks before → AreMarks behind → Exact BsdlToken X one (Spelled Fits ok words) Anything → Here X one → Here X (λ ws. ended_at (skip_at (views before) one) (views behind) ws)
between words before behind b e law l =
    reach_ended (views behind) (spelled_skip Fits (views before) before words (marks_law before b) law) (reach_skip (views before) (marks_law before b) (marks_reach before b) l) (marks_reach behind e) (λ q h. tt)

-- what marks begin with is no other symbol
closes : (s t : BsdlSymbol) → (symbol_byte s == symbol_byte t) ≡ false → (patterns : List Pattern) → AreMarks (Mark s ∷ patterns) → (b : List BsdlToken) → marks_at (views (Mark s ∷ patterns)) b ≡ (Some tt, []) → NotNext (symbol_in t) b
closes s t apart patterns all b h =
    let m = (marks_law (Mark s ∷ patterns) all).sound b tt [] h in
    subst (λ (q : List BsdlToken). NotNext (symbol_in t) q) (sym m.1) (symbol_next s t apart patterns m.0 [] m.2.1)

-- a list between marks, where no mark of the list may follow it
listed : {X : Type 0} {one : List BsdlToken → Read BsdlToken X} {ok : X → Type 0} (words : X → List Pattern) (s t : BsdlSymbol) → (symbol_byte s == symbol_byte t) ≡ false → (before patterns : List Pattern) → AreMarks before → AreMarks (Mark s ∷ patterns) → Exact BsdlToken X one (Spelled Fits ok words) (NotNext (symbol_in t)) → Here X one → Here X (λ ws. ended_at (skip_at (views before) one) (views (Mark s ∷ patterns)) ws)
listed words s t apart before patterns b e law l =
    reach_ended (views (Mark s ∷ patterns)) (spelled_skip Fits (views before) before words (marks_law before b) law) (reach_skip (views before) (marks_law before b) (marks_reach before b) l) (marks_reach (Mark s ∷ patterns) e) (closes s t apart patterns e)

name_reach : Here (List ℕ) (λ ws. files.name_at ws)
unfolding is_reserved
name_reach = reach_take name_in (codes "y") (word.Name (codes "y")) refl

string_reach : Here (List ℕ) (λ ws. files.string_at ws)
string_reach = reach_take quoted_in [] (word.Quoted []) refl

integer_reach : Here ℕ (λ ws. files.integer_at ws)
integer_reach = reach_take integer_in 0 (word.Integer 0) refl

real_reach : Here (List ℕ) (λ ws. files.real_at ws)
real_reach = reach_take real_in [] (word.Real []) refl

strings_reach : Here (List (List ℕ)) (λ ws. files.strings_at ws)
strings_reach = reach_some (symbol_in Ampersand) string_law string_reach

names_reach : Here (List (List ℕ)) (λ ws. files.names_at ws)
names_reach = reach_some (symbol_in Comma) name_law name_reach

itself_ordered : (left : ℕ) (d : Direction) → bounded left d left ≡ Some left
itself_ordered left direction.To = ap (λ (b : Bool). let o : Option ℕ = cond b (Some left) None in o) (le-leb left left (omega arith))
itself_ordered left direction.Downto = ap (λ (b : Bool). let o : Option ℕ = cond b (Some left) None in o) (le-leb left left (omega arith))

range_reach : Here WrittenRange (λ ws. files.range_at ws)
range_reach = reach_map (λ z. record { left = z.0; direction = z.1.0; right = z.1.1 })
    (reach_pair (exact_take integer_in) integer_reach (λ left. reach_pair (exact_take direction_in) (reach_take direction_in direction.To (word.Name (codes "to")) refl) (λ d. reach_take (bound_in left d) left (word.Integer left) (itself_ordered left d)) (λ x y b h. tt)) (λ x y b h. tt))

-- what a reading goes through first
first_of : {X Y : Type 0} (read : Read BsdlToken X) (next : X → List BsdlToken → Read BsdlToken Y) (y : Y) (b : List BsdlToken) → after read next ≡ (Some y, b) → (x : X) × (a : List BsdlToken) × (read ≡ (Some x, a))
first_of (None, a) next y b h = none_some (got h)
first_of (Some x, a) next y b h = (x, a, refl)

-- a first mark that was read stands there, and so no other key word does
other_key : (a b : List ℕ) → is_same_name a b ≡ false → (ws left : List BsdlToken) (u : Unit {0}) → take_at (mark_in (KeyWord a)) ws ≡ (Some u, left) → front (key_in b) ws ≡ None
other_key a b apart [] left u h = refl
other_key a b apart (w ∷ ws) left u h = key_differs a b apart w (got h)

-- A part behind a key word: where it was read, no other key word stands there.
behind_key : {X : Type 0} (one : List BsdlToken → Read BsdlToken X) (a b : List ℕ) → is_same_name a b ≡ false → (marks : List Pattern) (ws left : List BsdlToken) (x : X) → skip_at (views (KeyWord a ∷ marks)) one ws ≡ (Some x, left) → front (key_in b) ws ≡ None
behind_key {X} one a b apart marks ws left x h =
    let all = first_of (marks_at (views (KeyWord a ∷ marks)) ws) (λ _ c. one c) x left h in
    let one_mark = first_of (take_at (mark_in (KeyWord a)) ws) (λ _ c. marks_at (views marks) c) all.0 all.1 all.2 in
    other_key a b apart ws one_mark.1 one_mark.0 one_mark.2

type_reach : Here (Option WrittenRange) (λ ws. files.type_at ws)
type_reach = reach_either (key_in (codes "bit")) (λ _. reach_done None)
    (reach_map (λ r. Some r) (between range_words (key (codes "bit_vector") ∷ Mark LeftParenthesis ∷ []) (Mark RightParenthesis ∷ []) (refl, (refl, tt)) (refl, tt) range_law range_reach)) unseen
  where
    unseen : (y : Option WrittenRange) (p : List BsdlToken) → made_at (λ r. Some r) (ended_at (skip_at (views (key (codes "bit_vector") ∷ Mark LeftParenthesis ∷ [])) files.range_at) (views (Mark RightParenthesis ∷ []))) p ≡ (Some y, []) → front (key_in (codes "bit")) p ≡ None
    unseen y p h =
        let made = first_of (ended_at (skip_at (views (key (codes "bit_vector") ∷ Mark LeftParenthesis ∷ [])) files.range_at) (views (Mark RightParenthesis ∷ [])) p) (λ x a. done (Some x) a) y [] h in
        let ended = first_of (skip_at (views (key (codes "bit_vector") ∷ Mark LeftParenthesis ∷ [])) files.range_at p) (λ x a. after (marks_at (views (Mark RightParenthesis ∷ [])) a) (λ _ b. done x b)) made.0 made.1 made.2 in
        behind_key files.range_at (codes "bit_vector") (codes "bit") refl (Mark LeftParenthesis ∷ []) p ended.1 ended.0 ended.2

mode_reach : Here PortMode (λ ws. take_at mode_in ws)
mode_reach = reach_take mode_in mode.Input (word.Name (codes "in")) refl

stop_reach : Here Stop (λ ws. files.stop_at ws)
stop_reach = reach_take stop_in stop.Low (word.Name (codes "LOW")) refl

declaration_reach : Here PortDeclaration (λ ws. files.declaration_at ws)
declaration_reach = reach_map (λ z. record { names = z.0; mode = z.1.0; range = z.1.1 })
    (reach_pair (spelled_ended Fits (views (Mark Colon ∷ [])) (Mark Colon ∷ []) names_words names_law (marks_law (Mark Colon ∷ []) (refl, tt)) (λ b left m. symbol_next Colon Comma refl [] b left m))
    (reach_ended (views (Mark Colon ∷ [])) names_law names_reach (marks_reach (Mark Colon ∷ []) (refl, tt)) (closes Colon Comma refl [] (refl, tt)))
    (λ _. reach_pair (exact_take mode_in) mode_reach (λ _. type_reach) (λ x y b h. tt)) (λ x y b h. tt))

declarations_reach : Here (List PortDeclaration) (λ ws. files.declarations_at ws)
declarations_reach = reach_some (symbol_in Semicolon) declaration_law declaration_reach

entity_reach : (kind : List ℕ) → Here (List ℕ) (λ ws. files.entity_at kind ws)
entity_reach kind = between (λ x. NameOf x ∷ []) (key (codes "attribute") ∷ key kind ∷ key (codes "of") ∷ []) (Mark Colon ∷ key (codes "entity") ∷ key (codes "is") ∷ []) (refl, (refl, (refl, tt))) (refl, (refl, (refl, tt))) name_law name_reach

closed_reach : Here (List (List ℕ)) (λ ws. ended_at files.strings_at (views (Mark Semicolon ∷ [])) ws)
closed_reach = reach_ended (views (Mark Semicolon ∷ [])) strings_law strings_reach (marks_reach (Mark Semicolon ∷ []) (refl, tt)) (closes Semicolon Ampersand refl [] (refl, tt))

integer_attribute_reach : (kind : List ℕ) → Here IntegerAttribute (λ ws. files.integer_attribute_at kind ws)
integer_attribute_reach kind = reach_map (λ z. record { entity = z.0; value = z.1 })
    (reach_pair (entity_law kind) (entity_reach kind) (λ _. reach_ended (views (Mark Semicolon ∷ [])) integer_law integer_reach (marks_reach (Mark Semicolon ∷ []) (refl, tt)) (λ b h. tt)) (λ x y b h. tt))

string_attribute_reach : (kind : List ℕ) → Here StringAttribute (λ ws. files.string_attribute_at kind ws)
string_attribute_reach kind = reach_map (λ z. record { entity = z.0; strings = z.1 }) (reach_pair (entity_law kind) (entity_reach kind) (λ _. closed_reach) (λ x y b h. tt))

behind_reach : Here StringAttribute (λ ws. files.strings_behind ws)
behind_reach =
    let first : List Pattern = key (codes "of") ∷ [] in
    let middle : List Pattern = Mark Colon ∷ key (codes "entity") ∷ key (codes "is") ∷ [] in
    reach_map (λ z. record { entity = z.0; strings = z.1 })
    (reach_pair (spelled_ended Fits (views middle) middle (λ name. first ++ NameOf name ∷ []) (spelled_skip Fits (views first) first (λ name. NameOf name ∷ []) (marks_law first (refl, tt)) name_law) (marks_law middle (refl, (refl, (refl, tt)))) (λ b left m. tt))
    (between (λ x. NameOf x ∷ []) first middle (refl, tt) (refl, (refl, (refl, tt))) name_law name_reach) (λ _. closed_reach) (λ x y b h. tt))

optional_reach : {Y : Type 0} (kind : List ℕ) (next : List BsdlToken → Read BsdlToken Y) (ok : Y → Type 0) (words : Y → List Pattern)
    → Exact BsdlToken Y (λ ws. next ws) (Spelled Fits ok words) Anything → IsUnseen kind words → Here Y (λ ws. next ws) → Here (Option StringAttribute × Y) (λ ws. files.optional_before kind next ws)
optional_reach {Y} kind next ok words law unseen_here reach =
    let mark : List Pattern = key (codes "attribute") ∷ [] in
    reach_either (key_in kind)
    (λ _. reach_map (λ z. (Some z.0, z.1)) (reach_pair behind_law behind_reach (λ _. reach_skip (views mark) (marks_law mark (refl, tt)) (marks_reach mark (refl, tt)) reach) (λ x y b h. tt)))
    (reach_map (λ x. (None, x)) reach)
    unseen
  where
    unseen : (y : Option StringAttribute × Y) (p : List BsdlToken) → made_at (λ x. (None, x)) next p ≡ (Some y, []) → front (key_in kind) p ≡ None
    unseen y p h =
        let made = first_of (next p) (λ x a. let r : Read BsdlToken (Option StringAttribute × Y) = done (None, x) a in r) y [] h in
        let s = law.sound p made.0 made.1 made.2 in
        subst (λ (ws : List BsdlToken). front (key_in kind) ws ≡ None) (sym s.1) (unseen_here made.0 s.0 made.1 s.2.1)

access_reach : Here StringAttribute (λ ws. files.access_behind ws)
access_reach =
    let mark : List Pattern = key (codes "REGISTER_ACCESS") ∷ [] in
    reach_skip (views mark) (marks_law mark (refl, tt)) (marks_reach mark (refl, tt)) behind_reach

registers_reach : Here Attributes (λ ws. files.registers_at ws)
registers_reach =
    let first : List Pattern = key (codes "attribute") ∷ [] in
    reach_skip (views first) (marks_law first (refl, tt)) (marks_reach first (refl, tt))
    (optional_reach (codes "IDCODE_REGISTER") user_at (MayHave HasStrings) user_words user_law user_unseen
    (optional_reach (codes "USERCODE_REGISTER") files.access_behind HasStrings access_words access_law access_unseen access_reach))

-- a part of a file, whose words can be completed
record Piece (X : Type 0) (ok : X → Type 0) : Type 0 where
  part : Part X ok
  reach : Reach BsdlToken X (λ ws. part.read ws)

abbrev join : {X Y : Type 0} {ok : X → Type 0} {fine : Y → Type 0} → Piece X ok → Piece Y fine → Piece (X × Y) (λ z. ok z.0 × fine z.1)
join {X} {Y} {ok} {fine} p r = record {
  part = both p.part r.part;
  reach = reach_pair p.part.law p.reach (λ _. r.reach) (λ x y b h. tt);
}

abbrev entity_piece : Piece (List ℕ) (λ x. Unit {0})
entity_piece = record { part = entity_part; reach = between (λ x. NameOf x ∷ []) files.entity_before files.entity_behind (refl, tt) (refl, tt) name_law name_reach }

abbrev generic_piece : Piece (List ℕ) (λ x. Unit {0})
generic_piece = record { part = generic_part; reach = between (λ x. StringOf x ∷ []) files.generic_before files.generic_behind (refl, (refl, (refl, (refl, (refl, (refl, tt)))))) (refl, (refl, tt)) string_law string_reach }

abbrev ports_piece : Piece (List PortDeclaration) (λ x. AreSome IsDeclaration x)
ports_piece = record { part = ports_part; reach = listed (λ list. separated_by (Mark Semicolon) declaration_words list) RightParenthesis Semicolon refl files.ports_before (Mark Semicolon ∷ []) (refl, (refl, tt)) (refl, (refl, tt)) declarations_law declarations_reach }

abbrev conformance_piece : Piece (List ℕ) (λ x. Unit {0})
conformance_piece = record { part = conformance_part; reach = between (λ x. NameOf x ∷ []) files.conformance_before files.conformance_behind (refl, (refl, (refl, (refl, (refl, (refl, (refl, (refl, tt)))))))) (refl, (refl, (refl, (refl, (refl, tt))))) name_law name_reach }

abbrev pin_map_piece : Piece (List ℕ) (λ x. Unit {0})
pin_map_piece = record { part = pin_map_part; reach = between (λ x. NameOf x ∷ []) files.pin_map_before files.pin_map_behind (refl, (refl, (refl, tt))) (refl, (refl, (refl, (refl, (refl, tt))))) name_law name_reach }

abbrev constant_piece : Piece (List ℕ) (λ x. Unit {0})
constant_piece = record { part = constant_part; reach = between (λ x. NameOf x ∷ []) files.constant_before files.constant_behind (refl, tt) (refl, (refl, (refl, tt))) name_law name_reach }

abbrev pins_piece : Piece (List (List ℕ)) (λ x. AreSome Free x)
pins_piece = record { part = pins_part; reach = closed_reach }

abbrev scan_in_piece : Piece (List ℕ) (λ x. Unit {0})
scan_in_piece = record { part = scan_in_part; reach = between (λ x. NameOf x ∷ []) files.scan_in_before files.scan_in_behind (refl, (refl, (refl, tt))) (refl, (refl, (refl, (refl, (refl, tt))))) name_law name_reach }

abbrev scan_mode_piece : Piece (List ℕ) (λ x. Unit {0})
scan_mode_piece = record { part = scan_mode_part; reach = between (λ x. NameOf x ∷ []) files.scan_mode_before files.scan_mode_behind (refl, (refl, (refl, tt))) (refl, (refl, (refl, (refl, (refl, tt))))) name_law name_reach }

abbrev scan_out_piece : Piece (List ℕ) (λ x. Unit {0})
scan_out_piece = record { part = scan_out_part; reach = between (λ x. NameOf x ∷ []) files.scan_out_before files.scan_out_behind (refl, (refl, (refl, tt))) (refl, (refl, (refl, (refl, (refl, tt))))) name_law name_reach }

abbrev scan_reset_piece : Piece (List ℕ) (λ x. Unit {0})
scan_reset_piece = record { part = scan_reset_part; reach = between (λ x. NameOf x ∷ []) files.scan_reset_before files.scan_reset_behind (refl, (refl, (refl, tt))) (refl, (refl, (refl, (refl, (refl, tt))))) name_law name_reach }

abbrev scan_clock_piece : Piece (List ℕ) (λ x. Unit {0})
scan_clock_piece = record { part = scan_clock_part; reach = between (λ x. NameOf x ∷ []) files.scan_clock_before files.scan_clock_behind (refl, (refl, (refl, tt))) (refl, (refl, (refl, (refl, tt)))) name_law name_reach }

abbrev frequency_piece : Piece (List ℕ) (λ x. Unit {0})
frequency_piece = record { part = frequency_part; reach = reach_ended (views files.frequency_behind) real_law real_reach (marks_reach files.frequency_behind (refl, tt)) (λ b h. tt) }

abbrev stop_piece : Piece Stop (λ x. Unit {0})
stop_piece = record { part = stop_part; reach = reach_ended (views files.stop_behind) (exact_take stop_in) stop_reach (marks_reach files.stop_behind (refl, (refl, tt))) (λ b h. tt) }

abbrev length_piece : Piece IntegerAttribute (λ x. Unit {0})
length_piece = record { part = length_part; reach = integer_attribute_reach (codes "INSTRUCTION_LENGTH") }

abbrev opcodes_piece : Piece StringAttribute (λ x. HasStrings x)
opcodes_piece = record { part = opcodes_part; reach = string_attribute_reach (codes "INSTRUCTION_OPCODE") }

abbrev capture_piece : Piece StringAttribute (λ x. HasStrings x)
capture_piece = record { part = capture_part; reach = string_attribute_reach (codes "INSTRUCTION_CAPTURE") }

abbrev registers_piece : Piece Attributes (λ x. HaveStrings x)
registers_piece = record { part = registers_part; reach = registers_reach }

abbrev boundary_length_piece : Piece IntegerAttribute (λ x. Unit {0})
boundary_length_piece = record { part = boundary_length_part; reach = integer_attribute_reach (codes "BOUNDARY_LENGTH") }

abbrev boundary_piece : Piece StringAttribute (λ x. HasStrings x)
boundary_piece = record { part = boundary_part; reach = string_attribute_reach (codes "BOUNDARY_REGISTER") }

abbrev end_piece : Piece (List ℕ) (λ x. Unit {0})
end_piece = record { part = end_part; reach = between (λ x. NameOf x ∷ []) files.end_before files.end_behind (refl, tt) (refl, tt) name_law name_reach }

abbrev whole_piece : Piece files.FileParts KeptBy
whole_piece = join entity_piece (join generic_piece (join ports_piece (join conformance_piece (join pin_map_piece (join constant_piece (join pins_piece (join scan_in_piece (join scan_mode_piece (join scan_out_piece (join scan_reset_piece (join scan_clock_piece (join frequency_piece (join stop_piece (join length_piece (join opcodes_piece (join capture_piece (join registers_piece (join boundary_length_piece (join boundary_piece end_piece)))))))))))))))))))

sections_reach : Here File (λ ws. files.sections_at ws)
sections_reach = reach_map files.file_of whole_piece.reach

-- The fault's word.

begun_sections : (ws left : List BsdlToken) → files.sections_at ws ≡ (None, left) → (p : List BsdlToken) × (ws ≡ p ++ left) × Begun p
begun_sections ws left h =
    let b = sections_reach.begins ws left h in
    let s = file_law.sound (b.0 ++ b.2.0) b.2.1 [] b.2.2 in
    let words : b.0 ++ b.2.0 ≡ s.0 = s.1 ∙ append-nil s.0 in
    let Q : List BsdlToken → Type 0 = λ q. SpellsFile q b.2.1 in
    (b.0, b.1, record { file = b.2.1; more = b.2.0; spells = subst Q (sym words) (record { is = is_file b.2.1 s.2.0; matches = s.2.1 }) })

begun_there : (ws left : List BsdlToken) → file_at ws ≡ (None, left) → (p : List BsdlToken) × (ws ≡ p ++ left) × Begun p
begun_there ws left h = go (files.sections_at ws) refl h
  where
    ended : (f : File) (a : List BsdlToken) → files.sections_at ws ≡ (Some f, a) → after (end_at a) (λ _ b. done f b) ≡ (None, left) → (p : List BsdlToken) × (ws ≡ p ++ left) × Begun p
    ended f [] e k = none_some (sym (got k))
    ended f (w ∷ a) e k =
        let s = file_law.sound ws f (w ∷ a) e in
        let Q : List BsdlToken → Type 0 = λ q. SpellsFile q f in
        (s.0, s.1 ∙ ap (λ (z : List BsdlToken). s.0 ++ z) (stays k), record { file = f; more = []; spells = subst Q (sym (append-nil s.0)) (record { is = is_file f s.2.0; matches = s.2.1 }) })

    go : (read : Read BsdlToken File) → files.sections_at ws ≡ read → after read (λ f a. after (end_at a) (λ _ b. done f b)) ≡ (None, left) → (p : List BsdlToken) × (ws ≡ p ++ left) × Begun p
    go (None, a) e k = begun_sections ws left (e ∙ reading refl (stays k))
    go (Some f, a) e k = ended f a e k

pub faults_at_fault_word : FaultsAtFaultWord
faults_at_fault_word ws left h =
    let b = begun_there ws left h in
    let stops = nothing_goes_on ws left h in
    let count : length b.0 ≡ length ws - length left = omega (arith, ap (λ (q : List BsdlToken). length q) b.1, length-append b.0 left) in
    let taken : b.0 ≡ take (length ws - length left) ws = sym (ap (λ (q : List BsdlToken). take (length b.0) q) b.1 ∙ take-append_seam b.0 left) ∙ ap (λ (n : ℕ). take n ws) count in
    let Q : List BsdlToken → Type 0 = λ q. Begun q in record {
      unspelled = λ f spells. faults_spell_nothing ws left f h spells;
      within = stops.within;
      begun = subst Q taken b.2;
      greatest = stops.greatest;
    }
