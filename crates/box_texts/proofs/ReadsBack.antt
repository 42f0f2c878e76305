-- The rows of the canonical text are words, and read back.
use Rattle.std.proofs.Common.{◌≡◌, ◌≢◌, ◌≤◌, ◌<◌, ℕ, ◌+◌, ◌*◌, ◌-◌, ◌^◌, Bool, true, false, ◌&&◌, cond, List, [], ◌∷◌, ◌++◌, map, take, length, codes, nat_le, Option, Some, None, Result, Ok, Err, IfOk, All, refl, sym, ap, ◌∙◌, subst, inl, inr, arith, leb-true, append-nil, length-append}
use Rattle.std.specs.Prelude.{IsTrue, IfSome}
use Rattle.std.specs.List.{list_all, AllByRecursion}
use Rattle.std.specs.Fmt.{decimal}
use Rattle.std.proofs.lemmas.Bool.Decides.{nat_tests}
use Rattle.std.proofs.lemmas.Fmt.{length-decimal-le, decimal_nonempty}
use Rattle.std.proofs.lemmas.List.{length-map}
use Rattle.std.proofs.lemmas.List.Elements.{All-nil, All-cons, All-head, All-tail, All-append}
use Rattle.std.proofs.Math.Seq.{take-append_seam}
use Rattle.list_laws.specs.Digits.{value_after}
use Rattle.list_laws.specs.Lists.{AreAll}
use Rattle.list_laws.proofs.Digits.{decimal_digits}
use Rattle.list_laws.proofs.Lists.{all_from_list_all}
use Rattle.list_laws.proofs.Tests.{and_left, and_right}
use Rattle.verilog_lexicon.specs.Bytes.{is_digit, is_escaped_byte}
use Rattle.verilog_lexicon.specs.Pieces.{value_from}
use Rattle.verilog_tree.specs.declared.tree.Range.{Range}
use Rattle.verilog_tree.specs.IsTree.{IsTreeRange}
use Rattle.texts.specs.declared.text.OutOfMemory.{OutOfMemory}
use Rattle.texts.specs.Repeated.{repeated}
use Rattle.word_cutter.specs.Rows.{IsWordByte, IsWord, IsRow}
use Rattle.word_cutter.specs.LinesLaws.{ReadsBack, RowsReadBack}
use Rattle.cell_library.specs.declared.listed.ListedCell.{ListedCell}
use Rattle.cell_library.specs.Sound.{IsSoundCell}
use Rattle.cell_text.specs.Words.{Words}
use Rattle.cell_text.specs.Faults.{words_in}
use Rattle.cell_text.specs.Grammar.{cell_words}
use Rattle.cell_text.proofs.Rows.{name_word, port_word, colon_word, cells_are_rows, words_numbered}
use Rattle.box_model.specs.declared.boxes.BoxCell.{BoxCell}
use Rattle.box_model.specs.declared.boxes.BoxDir.{BoxDir}
use Rattle.box_model.specs.declared.boxes.BoxDir.TheVariants.{Takes, Gives}
use Rattle.box_model.specs.declared.boxes.BoxLibrary.{BoxLibrary}
use Rattle.box_model.specs.declared.boxes.BoxPort.{BoxPort}
use Rattle.box_model.specs.Sound.{IsSoundPort}
use Rattle.box_texts.specs.Boxes.{bare_of}
use Rattle.box_texts.specs.Rules.{is_instance_name}
use Rattle.box_texts.specs.Sound.{is_dir, ports_to, IsTextBox, IsBoxLibrary}
use Rattle.box_texts.specs.Grammar.{SpellsNumber, SpellsRange, SpellsPort, SpellsBox, version_words, cut_words, SpellsPlain, SpellsBoxes}
use Rattle.box_texts.specs.Canonical.{bounds_text, range_text, port_text, port_words, box_words, own_cells, boxes_rows, canonical_boxes}
use Rattle.box_texts.specs.Laws.{SpelledCanBePrinted}
use Rattle.box_texts.proofs.PortTexts.{bounds_are}
use Rattle.box_texts.proofs.Named.{all_left, all_right}

-- Numbers.

same_value : (n : ℕ) (ds : List ℕ) → value_from n ds ≡ value_after 10 n ds
same_value n [] = refl
same_value n (d ∷ ds) = same_value (10 * n + (d - 48)) ds

pub decimal_spells : (n : ℕ) → n < 10 ^ 9 → SpellsNumber (decimal n) n
decimal_spells n low =
    let fits : n < 2 ^ 64 = omega arith in
    let written = decimal_digits n fits in
    record {
      is = (decimal_nonempty n fits, length-decimal-le 9 n (omega arith) low fits, all_from_list_all is_digit (decimal n) written.digits);
      value = same_value 0 (decimal n) ∙ written.value;
    }

-- Ports.

range_spells : (range : Option Range) → IfSome range IsTreeRange → SpellsRange (range_text range) range
range_spells None is = refl
range_spells (Some range) is =
    record { left = decimal range.left; right = decimal range.right; bytes_are = refl; is_left = decimal_spells range.left is.left; is_right = decimal_spells range.right is.right }

dir_is : (one other : BoxDir) → is_dir one other ≡ true → one ≡ other
dir_is Takes Takes is = refl
dir_is Takes Gives is = absurd (let clash : false ≡ true = is in cc)
dir_is Gives Takes is = absurd (let clash : false ≡ true = is in cc)
dir_is Gives Gives is = refl

ports_spell : (dir : BoxDir) (ports : List BoxPort) → AllByRecursion IsSoundPort ports → AreAll (SpellsPort dir) (port_words dir ports) (ports_to dir ports)
ports_spell dir [] sound = tt
ports_spell dir (p ∷ ports) sound = by (is_dir p.dir dir) refl (ports_spell dir ports sound.1)
  where
    by : (b : Bool) → is_dir p.dir dir ≡ b → AreAll (SpellsPort dir) (port_words dir ports) (ports_to dir ports)
        → AreAll (SpellsPort dir) (map port_text (cond b (p ∷ ports_to dir ports) (ports_to dir ports))) (cond b (p ∷ ports_to dir ports) (ports_to dir ports))
    by true e rest = (record { behind = range_text p.range; word_is = refl; range = range_spells p.range sound.0.range; dir_is = dir_is p.dir dir e }, rest)
    by false e rest = rest

boxes_spell : (boxes : List BoxCell) → All IsTextBox boxes → AreAll SpellsBox (map box_words boxes) boxes
boxes_spell [] text = tt
boxes_spell (b ∷ boxes) text =
    let here = All-head IsTextBox b boxes text in (
      record {
        gives = port_words Gives b.ports;
        takes = port_words Takes b.ports;
        words_are = refl;
        outputs = ports_to Gives b.ports;
        inputs = ports_to Takes b.ports;
        ports_are = sym here.order;
        each_gives = ports_spell Gives b.ports here.ports;
        each_takes = ports_spell Takes b.ports here.ports;
      },
      boxes_spell boxes (All-tail IsTextBox b boxes text),
    )

-- Words.

word_byte : (b : ℕ) → 33 ≤ b → IsWordByte b
word_byte b h = record { no_blank = grind (arith, nat_tests); no_end = grind (arith, nat_tests) }

digit_bytes : (ds : List ℕ) → AllByRecursion (λ c. IsTrue (is_digit c)) ds → All IsWordByte ds
digit_bytes [] all = All-nil IsWordByte
digit_bytes (d ∷ ds) all = All-cons IsWordByte d ds (word_byte d (low d all.0)) (digit_bytes ds all.1)
  where
    low : (d : ℕ) → IsTrue (is_digit d) → 33 ≤ d
    low d is = grind arith

pub escaped_bytes : (bytes : List ℕ) → list_all is_escaped_byte bytes ≡ true → All IsWordByte bytes
escaped_bytes [] all = All-nil IsWordByte
escaped_bytes (b ∷ bytes) all =
    All-cons IsWordByte b bytes (word_byte b (leb-true 33 b (and_left (nat_le 33 b) (nat_le b 126) (and_left (is_escaped_byte b) (list_all is_escaped_byte bytes) all))))
    (escaped_bytes bytes (and_right (is_escaped_byte b) (list_all is_escaped_byte bytes) all))

number_bytes : (n : ℕ) → n < 10 ^ 9 → All IsWordByte (decimal n)
number_bytes n low = digit_bytes (decimal n) (decimal_spells n low).is.2

bounds_bytes : (range : Range) → IsTreeRange range → All IsWordByte (bounds_text range)
bounds_bytes range is =
    subst (All IsWordByte) (sym (bounds_are (decimal range.left) (decimal range.right)))
    (All-cons IsWordByte 91 (decimal range.left ++ 58 ∷ (decimal range.right ++ 93 ∷ [])) (word_byte 91 (omega arith))
    (All-append IsWordByte (decimal range.left) (58 ∷ (decimal range.right ++ 93 ∷ [])) (number_bytes range.left is.left)
    (All-cons IsWordByte 58 (decimal range.right ++ 93 ∷ []) (word_byte 58 (omega arith))
    (All-append IsWordByte (decimal range.right) (93 ∷ []) (number_bytes range.right is.right) (All-cons IsWordByte 93 [] (word_byte 93 (omega arith)) (All-nil IsWordByte))))))

range_bytes : (range : Option Range) → IfSome range IsTreeRange → All IsWordByte (range_text range)
range_bytes None is = All-nil IsWordByte
range_bytes (Some range) is = bounds_bytes range is

some_more : (a b : List ℕ) → a ≢ [] → a ++ b ≢ []
some_more [] b some = λ e. some refl
some_more (x ∷ a) b some = λ e. cc

port_is_word : (p : BoxPort) → IsSoundPort p → IsWord (port_text p)
port_is_word p sound =
    let name = port_word p.name sound.name in
    record { some = some_more p.name (range_text p.range) name.some; each = All-append IsWordByte p.name (range_text p.range) name.each (range_bytes p.range sound.range) }

ports_are_words : (dir : BoxDir) (ports : List BoxPort) → AllByRecursion IsSoundPort ports → All IsWord (port_words dir ports)
ports_are_words dir [] sound = All-nil IsWord
ports_are_words dir (p ∷ ports) sound = by (is_dir p.dir dir) (ports_are_words dir ports sound.1)
  where
    by : (b : Bool) → All IsWord (port_words dir ports) → All IsWord (map port_text (cond b (p ∷ ports_to dir ports) (ports_to dir ports)))
    by true rest = All-cons IsWord (port_text p) (port_words dir ports) (port_is_word p sound.0) rest
    by false rest = rest

known : (b : ℕ) (bytes : List ℕ) → list_all is_escaped_byte (b ∷ bytes) ≡ true → IsWord (b ∷ bytes)
known b bytes all = record { some = λ e. cc; each = escaped_bytes (b ∷ bytes) all }

box_key_word : IsWord (codes "box")
box_key_word = known 98 (codes "ox") refl

cut_key_word : IsWord (codes "cut")
cut_key_word = known 99 (codes "ut") refl

instance_word : (name : List ℕ) → is_instance_name name ≡ true → IsWord name
instance_word [] is = absurd (let clash : false ≡ true = is in cc)
instance_word (b ∷ bytes) is =
    known b bytes (and_right (nat_le (length (b ∷ bytes)) 255) (list_all is_escaped_byte (b ∷ bytes)) (and_right (nat_le 1 (length (b ∷ bytes))) (nat_le (length (b ∷ bytes)) 255 && list_all is_escaped_byte (b ∷ bytes)) is))

-- Rows.

version_is_row : IsRow version_words
version_is_row = record { kept = refl; each = All-cons IsWord (codes "boxes") (codes "1" ∷ []) (known 98 (codes "oxes") refl) (All-cons IsWord (codes "1") [] (known 49 [] refl) (All-nil IsWord)) }

box_is_row : (b : BoxCell) → IsWord b.name → IsTextBox b → IsRow (box_words b)
box_is_row b name text =
    let gives = port_words Gives b.ports in
    let takes = port_words Takes b.ports in
    let ports : All IsWord (gives ++ codes ":" ∷ takes) =
    All-append IsWord gives (codes ":" ∷ takes) (ports_are_words Gives b.ports text.ports) (All-cons IsWord (codes ":") takes colon_word (ports_are_words Takes b.ports text.ports)) in
    record { kept = refl; each = All-cons IsWord (codes "box") (b.name ∷ gives ++ codes ":" ∷ takes) box_key_word (All-cons IsWord b.name (gives ++ codes ":" ∷ takes) name ports) }

boxes_are_rows : (boxes : List BoxCell) → All IsSoundCell (map bare_of boxes) → All IsTextBox boxes → All IsRow (map box_words boxes)
boxes_are_rows [] sound text = All-nil IsRow
boxes_are_rows (b ∷ boxes) sound text =
    All-cons IsRow (box_words b) (map box_words boxes)
    (box_is_row b (name_word b.name (All-head IsSoundCell (bare_of b) (map bare_of boxes) sound).name) (All-head IsTextBox b boxes text))
    (boxes_are_rows boxes (All-tail IsSoundCell (bare_of b) (map bare_of boxes) sound) (All-tail IsTextBox b boxes text))

cuts_are_rows : (cuts : Words) → list_all is_instance_name cuts ≡ true → All IsRow (map cut_words cuts)
cuts_are_rows [] fit = All-nil IsRow
cuts_are_rows (n ∷ cuts) fit =
    All-cons IsRow (cut_words n) (map cut_words cuts)
    (record { kept = refl; each = All-cons IsWord (codes "cut") (n ∷ []) cut_key_word (All-cons IsWord n [] (instance_word n (and_left (is_instance_name n) (list_all is_instance_name cuts) fit)) (All-nil IsWord)) })
    (cuts_are_rows cuts (and_right (is_instance_name n) (list_all is_instance_name cuts) fit))

own_are : (library : BoxLibrary) (is : IsBoxLibrary library) → own_cells library ≡ is.own
own_are library is =
    let l : length library.cells ≡ length (is.own ++ map bare_of library.boxes) = ap length is.cells_are in
    let m = length-append is.own (map bare_of library.boxes) in
    let n : length (map bare_of library.boxes) ≡ length library.boxes = length-map library.boxes bare_of in
    let count : length library.cells - length library.boxes ≡ length is.own = omega arith in
    ap (λ (k : ℕ). take k library.cells) count ∙ ap (take (length is.own)) is.cells_are ∙ take-append_seam is.own (map bare_of library.boxes)

rows_are : (library : BoxLibrary) (is : IsBoxLibrary library) → boxes_rows library ≡ version_words ∷ (map cell_words is.own ++ map box_words library.boxes ++ map cut_words library.cuts)
rows_are library is = ap (λ (own : List ListedCell). version_words ∷ (map cell_words own ++ map box_words library.boxes ++ map cut_words library.cuts)) (own_are library is)

are_rows : (library : BoxLibrary) → IsBoxLibrary library → All IsRow (boxes_rows library)
are_rows library is =
    let sound : All IsSoundCell (is.own ++ map bare_of library.boxes) = subst (All IsSoundCell) is.cells_are is.cells.sound in
    let cells = map cell_words is.own in
    let boxes = map box_words library.boxes in
    let cuts = map cut_words library.cuts in
    subst (All IsRow) (sym (rows_are library is))
    (All-cons IsRow version_words (cells ++ boxes ++ cuts) version_is_row
    (All-append IsRow (cells ++ boxes) cuts
    (All-append IsRow cells boxes (cells_are_rows is.own (all_left IsSoundCell is.own (map bare_of library.boxes) sound)) (boxes_are_rows library.boxes (all_right IsSoundCell is.own (map bare_of library.boxes) sound) is.boxes))
    (cuts_are_rows library.cuts is.cuts)))

pub canonical_spells : RowsReadBack → (library : BoxLibrary) → IsBoxLibrary library → SpellsBoxes (canonical_boxes library) library
canonical_spells law library is =
    let back : ReadsBack (boxes_rows library) = law (boxes_rows library) (are_rows library is) in
    inr (record {
      own = is.own;
      boxes = map box_words library.boxes;
      lines_are = ap (map words_in) back.kept ∙ words_numbered 1 (boxes_rows library) ∙ rows_are library is;
      cells_are = is.cells_are;
      boxes_are = boxes_spell library.boxes is.boxes;
      can_be = is;
    })

pub text_spells : RowsReadBack → (library : BoxLibrary) (r : Result (List ℕ) OutOfMemory) → IfOk r (λ text. text ≡ canonical_boxes library) → IfOk r (λ text. IsBoxLibrary library → SpellsBoxes text library)
text_spells law library (Err e) is = tt
text_spells law library (Ok text) is = λ sound. subst (λ (t : List ℕ). SpellsBoxes t library) (sym is) (canonical_spells law library sound)

-- What is spelled can be printed.

plain_library : (bytes : List ℕ) (library : BoxLibrary) → SpellsPlain bytes library → IsBoxLibrary library
plain_library bytes library is =
    let few = is.cells.can_be.few in
    let none : length library.cuts ≡ 0 = ap length is.no_cuts in
    record {
      own = library.cells;
      cells_are = sym (ap (λ (boxes : List BoxCell). library.cells ++ map bare_of boxes) is.no_boxes ∙ append-nil library.cells);
      cells = is.cells.can_be;
      boxes = subst (All IsTextBox) (sym is.no_boxes) (All-nil IsTextBox);
      few = omega arith;
      cuts = ap (list_all is_instance_name) is.no_cuts;
      once = ap repeated is.no_cuts;
    }

pub spelled_can_be_printed : RowsReadBack → SpelledCanBePrinted
spelled_can_be_printed law bytes library is = (sound is, canonical_spells law library (sound is))
  where
    sound : SpellsBoxes bytes library → IsBoxLibrary library
    sound (inl plain) = plain_library bytes library plain
    sound (inr boxed) = boxed.can_be
