-- Spelling and faults of a library's text.
use Rattle.std.proofs.Common.{◌≡◌, ◌≢◌, ◌↔◌, ◌⊎◌, ◌≤◌, ◌<◌, ℕ, zero, suc, ◌+◌, Bool, true, false, ◌&&◌, not, if◌then◌else◌, List, [], ◌∷◌, ◌++◌, map, length, slice_get, codes, is_some, is_none, nat_lt, Option, Some, None, All, refl, sym, ap, ◌∙◌, subst, inl, inr, arith, eqb-true, eq-eqb, ltb-false, le-ltb, lt-ltb}
use Rattle.std.specs.Option.{option_map, option_map_or}
use Rattle.std.specs.Str.{bytes_eq}
use Rattle.std.proofs.lemmas.Slice.Eq.{bytes_eq-Decides}
use Rattle.std.proofs.lemmas.List.{length-map}
use Rattle.std.proofs.lemmas.List.Elements.{All-nil, All-cons, All-head, All-tail}
use Rattle.list_laws.specs.Options.{or_else, first_in}
use Rattle.list_laws.proofs.Options.{or_else-parts}
use Rattle.list_laws.proofs.Tests.{and_left, and_right, neither}
use Rattle.word_cutter.specs.LinesWords.{kept_lines}
use Rattle.word_cutter.specs.Ahead.{rest_of}
use Rattle.cell_library.specs.declared.FlopKind.{FlopKind}
use Rattle.cell_library.specs.declared.listed.ListedCell.{ListedCell}
use Rattle.cell_library.specs.Gates.{flop_operand_count}
use Rattle.cell_library.specs.Laws.{OwnNamesAreExact}
use Rattle.cell_library.specs.Library.{own_kind_named}
use Rattle.cell_library.specs.Sound.{is_cell_name, IsSoundCell, IsLibrary}
use Rattle.cell_text.specs.declared.fault.LibFault.{LibFault}
use Rattle.cell_text.specs.declared.fault.LibFault.TheVariants as fault
use Rattle.cell_text.specs.Words.{Words, flop_named}
use Rattle.cell_text.specs.Lines.{parted, takes, is_version, is_gate, is_flop, is_cell_line}
use Rattle.cell_text.specs.Cells.{cell_in}
use Rattle.cell_text.specs.Rules.{name_in, is_unfit, barred_after, too_many, name_fault, body_fault, rule_fault}
use Rattle.cell_text.specs.Faults.{words_in, end_of, other_form, line_fault, cell_rows, first_fault}
use Rattle.cell_text.specs.Grammar.{cell_words, version_words, SpellsLibrary}
use Rattle.cell_text.specs.Reader.{CanBeCells}
use Rattle.cell_text.specs.Laws.{SpelledOnce, SpelledIsFaultless, FaultlessIsSpelled, GateForm, FlopForm, LinesHaveForms}
use Rattle.cell_text.proofs.Barred.{none_barred}
use Rattle.cell_text.proofs.Parts.{parts_of, is_parted}
use Rattle.cell_text.proofs.Written.{cell_of_line, name_of_words, flop_word}
use Rattle.cell_text.proofs.Again.{cell_again, cell_has_form, flop_there}
use Rattle.cell_text.proofs.Added.{are_library}

version_is : (words : Words) → is_version words ≡ true → words ≡ version_words
version_is [] is = absurd (cc)
version_is (a ∷ []) is = absurd (cc)
version_is (a ∷ b ∷ c ∷ more) is = absurd (cc)
version_is (a ∷ b ∷ []) is =
    let one : a ≡ codes "cells" = (bytes_eq-Decides a (codes "cells")).0 (and_left (bytes_eq a (codes "cells")) (bytes_eq b (codes "1")) is) in
    let two : b ≡ codes "1" = (bytes_eq-Decides b (codes "1")).0 (and_right (bytes_eq a (codes "cells")) (bytes_eq b (codes "1")) is) in
    rw (one, two) refl

pub words_of_cells : OwnNamesAreExact → (rows : List Words) (library : List ListedCell) → map cell_in rows ≡ map (λ (c : ListedCell). Some c) library → rows ≡ map cell_words library
words_of_cells exact [] [] same = refl
words_of_cells exact [] (c ∷ library) same = absurd (cc)
words_of_cells exact (w ∷ rows) [] same = absurd (cc)
words_of_cells exact (w ∷ rows) (c ∷ library) same =
    let here : cell_in w ≡ Some c = cc in
    let more : map cell_in rows ≡ map (λ (c : ListedCell). Some c) library = cc in
    ap (λ (x : Words). x ∷ rows) (cell_of_line exact w c here).words_are ∙ ap (λ (l : List Words). cell_words c ∷ l) (words_of_cells exact rows library more)

-- the first line is `cells 1`, and all others have the form of a cell's
begun : (end : ℕ) (rows : List (ℕ × Words)) → line_fault end rows ≡ None → (map words_in rows ≡ version_words ∷ map words_in (rest_of rows)) × (first_in other_form (rest_of rows) ≡ None)
begun end [] none = absurd (let some : Some end ≡ None = none in cc)
begun end (row ∷ rows) none = by (is_version row.1) refl none
  where
    by : (b : Bool) → is_version row.1 ≡ b → (if b then first_in other_form rows else Some row.0) ≡ None → (row.1 ∷ map words_in rows ≡ version_words ∷ map words_in rows) × (first_in other_form rows ≡ None)
    by true e h = (ap (λ (w : Words). w ∷ map words_in rows) (version_is row.1 e), h)
    by false e h = absurd (let some : Some row.0 ≡ None = h in cc)

forms_all : (rows : List (ℕ × Words)) → first_in other_form rows ≡ None → All (λ (words : Words). is_cell_line words ≡ true) (map words_in rows)
forms_all [] none = All-nil (λ (words : Words). is_cell_line words ≡ true)
forms_all (row ∷ rows) none =
    let both = or_else-parts (other_form row) (first_in other_form rows) none in
    All-cons (λ (words : Words). is_cell_line words ≡ true) row.1 (map words_in rows) (by (is_cell_line row.1) refl both.0) (forms_all rows both.1)
  where
    by : (b : Bool) → is_cell_line row.1 ≡ b → (if b then None else Some row.0) ≡ None → is_cell_line row.1 ≡ true
    by true e h = e
    by false e h = absurd (let some : Some row.0 ≡ None = h in cc)

pub can_be_cells : (bytes : List ℕ) → line_fault (end_of bytes) (kept_lines bytes) ≡ None → length (cell_rows bytes) ≤ 4096 → barred_after [] (map name_in (cell_rows bytes)) ≡ None → CanBeCells (cell_rows bytes)
can_be_cells bytes lines few names = record { few = few; forms = forms_all (rest_of (kept_lines bytes)) (begun (end_of bytes) (kept_lines bytes) lines).1; names = names }

pub spelled : OwnNamesAreExact → (bytes : List ℕ) (library : List ListedCell) → line_fault (end_of bytes) (kept_lines bytes) ≡ None → CanBeCells (cell_rows bytes)
    → map cell_in (cell_rows bytes) ≡ map (λ (c : ListedCell). Some c) library → SpellsLibrary bytes library
spelled exact bytes library lines can same = record {
  lines_are = (begun (end_of bytes) (kept_lines bytes) lines).0 ∙ ap (λ (l : List Words). version_words ∷ l) (words_of_cells exact (cell_rows bytes) library same);
  can_be = are_library exact (cell_rows bytes) library can same;
}

-- Faults of rules.

pub count_none : (rows : List Words) → length rows ≤ 4096 → too_many rows ≡ None
count_none rows few = ap (λ (b : Bool). if b then Some (fault.TooMany (length rows)) else None) (le-ltb 4096 (length rows) few)

pub told_rules : (bytes : List ℕ) (f : LibFault) → line_fault (end_of bytes) (kept_lines bytes) ≡ None → rule_fault (cell_rows bytes) ≡ Some f → first_fault bytes ≡ Some f
told_rules bytes f lines rules = ap (λ (o : Option ℕ). or_else (option_map fault.LibLine o) (rule_fault (cell_rows bytes))) lines ∙ rules

pub told_line : (bytes : List ℕ) (line : ℕ) → line_fault (end_of bytes) (kept_lines bytes) ≡ Some line → first_fault bytes ≡ Some (fault.LibLine line)
told_line bytes line told = ap (λ (o : Option ℕ). or_else (option_map fault.LibLine o) (rule_fault (cell_rows bytes))) told

pub told_many : (rows : List Words) (count : ℕ) → count ≡ length rows → 4096 < count → rule_fault rows ≡ Some (fault.TooMany count)
told_many rows count same many =
    ap (λ (b : Bool). or_else (if b then Some (fault.TooMany (length rows)) else None) (or_else (name_fault rows) (first_in body_fault rows))) (lt-ltb 4096 (length rows) (omega arith))
    ∙ ap (λ (n : ℕ). Some (fault.TooMany n)) (sym same)

pub told_name : (rows : List Words) (name : List ℕ) → length rows ≤ 4096 → barred_after [] (map name_in rows) ≡ Some name → rule_fault rows ≡ Some (fault.LibName name)
told_name rows name few barred =
    ap (λ (o : Option LibFault). or_else o (or_else (name_fault rows) (first_in body_fault rows))) (count_none rows few)
    ∙ ap (λ (o : Option (List ℕ)). or_else (option_map fault.LibName o) (first_in body_fault rows)) barred

pub told_body : (rows : List Words) (f : LibFault) → length rows ≤ 4096 → barred_after [] (map name_in rows) ≡ None → first_in body_fault rows ≡ Some f → rule_fault rows ≡ Some f
told_body rows f few barred body =
    ap (λ (o : Option LibFault). or_else o (or_else (name_fault rows) (first_in body_fault rows))) (count_none rows few)
    ∙ ap (λ (o : Option (List ℕ)). or_else (option_map fault.LibName o) (first_in body_fault rows)) barred ∙ body

-- Laws.

pub cells_again : (library : List ListedCell) → All IsSoundCell library → map cell_in (map cell_words library) ≡ map (λ (c : ListedCell). Some c) library
cells_again [] all = refl
cells_again (c ∷ library) all =
    ap (λ (o : Option ListedCell). o ∷ map cell_in (map cell_words library)) (cell_again c (All-head IsSoundCell c library all))
    ∙ ap (λ (l : List (Option ListedCell)). Some c ∷ l) (cells_again library (All-tail IsSoundCell c library all))

pub same_cells : (one other : List ListedCell) → map (λ (c : ListedCell). Some c) one ≡ map (λ (c : ListedCell). Some c) other → one ≡ other
same_cells [] [] same = refl
same_cells [] (c ∷ other) same = absurd (cc)
same_cells (c ∷ one) [] same = absurd (cc)
same_cells (c ∷ one) (d ∷ other) same =
    let here : c ≡ d = cc in
    let more : map (λ (c : ListedCell). Some c) one ≡ map (λ (c : ListedCell). Some c) other = cc in
    ap (λ (x : ListedCell). x ∷ one) here ∙ ap (λ (l : List ListedCell). d ∷ l) (same_cells one other more)

pub spelled_once : SpelledOnce
spelled_once bytes one other is like =
    let rows : version_words ∷ map cell_words one ≡ version_words ∷ map cell_words other = sym is.lines_are ∙ like.lines_are in
    let cells : map cell_words one ≡ map cell_words other = cc in
    same_cells one other (sym (cells_again one is.can_be.sound) ∙ ap (map cell_in) cells ∙ cells_again other like.can_be.sound)

pub names_again : (library : List ListedCell) → map name_in (map cell_words library) ≡ map (λ (c : ListedCell). c.name) library
names_again [] = refl
names_again (c ∷ library) = ap (λ (n : List ℕ). n ∷ map name_in (map cell_words library)) (name_of_words c) ∙ ap (λ (l : Words). c.name ∷ l) (names_again library)

named_at : (library : List ListedCell) (k : ℕ) (name : List ℕ) → slice_get (map (λ (c : ListedCell). c.name) library) k ≡ Some name → (c : ListedCell) × (slice_get library k ≡ Some c) × (c.name ≡ name)
named_at [] k name at = absurd (let none : None ≡ Some name = at in cc)
named_at (c ∷ library) zero name at = (c, refl, (let same : c.name ≡ name = cc in same))
named_at (c ∷ library) (suc k) name at = named_at library k name at

all_there : (library : List ListedCell) (k : ℕ) (c : ListedCell) → All IsSoundCell library → slice_get library k ≡ Some c → IsSoundCell c
all_there [] k c all at = absurd (let none : None ≡ Some c = at in cc)
all_there (d ∷ library) zero c all at = let same : d ≡ c = cc in subst IsSoundCell same (All-head IsSoundCell d library all)
all_there (d ∷ library) (suc k) c all at = all_there library k c (All-tail IsSoundCell d library all) at

pub names_free : (library : List ListedCell) → IsLibrary library → barred_after [] (map (λ (c : ListedCell). c.name) library) ≡ None
names_free library is = none_barred [] (map (λ (c : ListedCell). c.name) library)
    (λ k name at.
    let found = named_at library k name at in
    let sound = all_there library k found.0 is.sound found.1 in
    let proper : not (is_cell_name found.0.name) ≡ false = ap not sound.name in
    let free : is_some (own_kind_named found.0.name) ≡ false = ap is_some (is.named k found.0 found.1) in
    ap is_unfit (sym found.2) ∙ neither (not (is_cell_name found.0.name)) (is_some (own_kind_named found.0.name)) proper free)
    (λ i j name at there.
    let a = named_at library i name at in
    let b = named_at library j name there in
    is.once i j a.0 b.0 a.1 b.1 (a.2 ∙ sym b.2))
    (λ k name at. refl)

pub no_body_fault : (library : List ListedCell) → All IsSoundCell library → first_in body_fault (map cell_words library) ≡ None
no_body_fault [] all = refl
no_body_fault (c ∷ library) all =
    ap (λ (o : Option ListedCell). or_else (if is_none o then Some (fault.LibBody (name_in (cell_words c))) else None) (first_in body_fault (map cell_words library))) (cell_again c (All-head IsSoundCell c library all))
    ∙ no_body_fault library (All-tail IsSoundCell c library all)

no_other_form : (rows : List (ℕ × Words)) (library : List ListedCell) → All IsSoundCell library → map words_in rows ≡ map cell_words library → first_in other_form rows ≡ None
no_other_form [] library all same = refl
no_other_form (row ∷ rows) [] all same = absurd (cc)
no_other_form (row ∷ rows) (c ∷ library) all same =
    let here : row.1 ≡ cell_words c = cc in
    let more : map words_in rows ≡ map cell_words library = cc in
    let form : is_cell_line row.1 ≡ true = ap is_cell_line here ∙ cell_has_form c (All-head IsSoundCell c library all).body in
    ap (λ (b : Bool). or_else (if b then None else Some row.0) (first_in other_form rows)) form ∙ no_other_form rows library (All-tail IsSoundCell c library all) more

lines_faultless : (end : ℕ) (rows : List (ℕ × Words)) (library : List ListedCell) → All IsSoundCell library → map words_in rows ≡ version_words ∷ map cell_words library
    → (line_fault end rows ≡ None) × (map words_in (rest_of rows) ≡ map cell_words library)
lines_faultless end [] library all same = absurd (cc)
lines_faultless end (row ∷ rows) library all same =
    let here : row.1 ≡ version_words = cc in
    let more : map words_in rows ≡ map cell_words library = cc in
    (ap (λ (b : Bool). if b then first_in other_form rows else Some row.0) (ap is_version here) ∙ no_other_form rows library all more, more)

pub spelled_is_faultless : SpelledIsFaultless
spelled_is_faultless bytes library is =
    let lines = lines_faultless (end_of bytes) (kept_lines bytes) library is.can_be.sound is.lines_are in
    let count : length (map cell_words library) ≡ length library = length-map library cell_words in
    let few = is.can_be.few in
    let rules : rule_fault (map cell_words library) ≡ None =
    ap (λ (o : Option LibFault). or_else o (or_else (name_fault (map cell_words library)) (first_in body_fault (map cell_words library)))) (count_none (map cell_words library) (omega arith))
    ∙ ap (λ (o : Option (List ℕ)). or_else (option_map fault.LibName o) (first_in body_fault (map cell_words library))) (ap (barred_after []) (names_again library) ∙ names_free library is.can_be)
    ∙ no_body_fault library is.can_be.sound in
    ap (λ (o : Option ℕ). or_else (option_map fault.LibLine o) (rule_fault (cell_rows bytes))) lines.0 ∙ ap rule_fault lines.1 ∙ rules

no_line : (o : Option ℕ) → option_map fault.LibLine o ≡ None → o ≡ None
no_line None e = refl
no_line (Some n) e = absurd (cc)

pub no_name : (o : Option (List ℕ)) → option_map fault.LibName o ≡ None → o ≡ None
no_name None e = refl
no_name (Some n) e = absurd (cc)

pub few_rows : (rows : List Words) → too_many rows ≡ None → length rows ≤ 4096
few_rows rows none = by (nat_lt 4096 (length rows)) refl none
  where
    by : (b : Bool) → nat_lt 4096 (length rows) ≡ b → (if b then Some (fault.TooMany (length rows)) else None) ≡ None → length rows ≤ 4096
    by true e h = absurd (let some : Some (fault.TooMany (length rows)) ≡ None = h in cc)
    by false e h = ltb-false 4096 (length rows) e

pub cells_there : (rows : List Words) → first_in body_fault rows ≡ None → (library : List ListedCell) × (map cell_in rows ≡ map (λ (c : ListedCell). Some c) library)
cells_there [] none = ([], refl)
cells_there (w ∷ rows) none =
    let both = or_else-parts (body_fault w) (first_in body_fault rows) none in
    let more = cells_there rows both.1 in
    let here = there (cell_in w) refl both.0 in
    (here.0 ∷ more.0, ap (λ (o : Option ListedCell). o ∷ map cell_in rows) here.1 ∙ ap (λ (l : List (Option ListedCell)). Some here.0 ∷ l) more.1)
  where
    there : (o : Option ListedCell) → cell_in w ≡ o → (if is_none o then Some (fault.LibBody (name_in w)) else None) ≡ None → (c : ListedCell) × (cell_in w ≡ Some c)
    there None e h = absurd (let some : Some (fault.LibBody (name_in w)) ≡ None = h in cc)
    there (Some c) e h = (c, e)

pub faultless_is_spelled : OwnNamesAreExact → FaultlessIsSpelled
faultless_is_spelled exact bytes none =
    let both = or_else-parts (option_map fault.LibLine (line_fault (end_of bytes) (kept_lines bytes))) (rule_fault (cell_rows bytes)) none in
    let lines = no_line (line_fault (end_of bytes) (kept_lines bytes)) both.0 in
    let rules = or_else-parts (too_many (cell_rows bytes)) (or_else (name_fault (cell_rows bytes)) (first_in body_fault (cell_rows bytes))) both.1 in
    let more = or_else-parts (name_fault (cell_rows bytes)) (first_in body_fault (cell_rows bytes)) rules.1 in
    let names = no_name (barred_after [] (map name_in (cell_rows bytes))) more.0 in
    let cells = cells_there (cell_rows bytes) more.1 in
    let can = can_be_cells bytes lines (few_rows (cell_rows bytes) rules.0) names in
    (cells.0, spelled exact bytes cells.0 lines can cells.1)

-- Forms.

gate_form : (words : Words) → is_gate words ≡ true → GateForm (codes "gate" ∷ words)
gate_form [] is = absurd (cc)
gate_form (name ∷ []) is = absurd (cc)
gate_form (name ∷ output ∷ words) is = by (parted [] words) refl is
  where
    by : (o : Option (Words × Words)) → parted [] words ≡ o → is_some o ≡ true → GateForm (codes "gate" ∷ name ∷ output ∷ words)
    by None e is = absurd (cc)
    by (Some parts) e is =
        let p = parts_of [] words parts e in
        record { name = name; output = output; inputs = parts.0; steps = parts.1; words_are = ap (λ (l : Words). codes "gate" ∷ name ∷ output ∷ l) p.words_are; few = p.few; some = p.some; short = p.short }

flop_form : OwnNamesAreExact → (words : Words) → is_flop words ≡ true → FlopForm (codes "flop" ∷ words)
flop_form exact [] is = absurd (cc)
flop_form exact (name ∷ []) is = absurd (cc)
flop_form exact (name ∷ word ∷ ports) is = by (flop_named word) refl is
  where
    taken : (kind : FlopKind) → flop_named word ≡ Some kind → (ports : Words) → takes ports kind ≡ true → FlopForm (codes "flop" ∷ name ∷ word ∷ ports)
    taken kind named [] t = absurd (let l : 0 ≡ 1 + flop_operand_count kind.reset = eqb-true 0 (1 + flop_operand_count kind.reset) t in omega arith)
    taken kind named (output ∷ inputs) t =
        let l : suc (length inputs) ≡ 1 + flop_operand_count kind.reset = eqb-true (suc (length inputs)) (1 + flop_operand_count kind.reset) t in
        record {
          name = name;
          kind = kind;
          output = output;
          inputs = inputs;
          words_are = ap (λ (w : List ℕ). codes "flop" ∷ name ∷ w ∷ output ∷ inputs) (flop_word exact word kind named);
          count = omega arith;
        }

    by : (o : Option FlopKind) → flop_named word ≡ o → option_map_or (takes ports) o false ≡ true → FlopForm (codes "flop" ∷ name ∷ word ∷ ports)
    by None e is = absurd (cc)
    by (Some kind) e is = taken kind e ports is

form_there : OwnNamesAreExact → (words : Words) → is_cell_line words ≡ true → GateForm words ⊎ FlopForm words
form_there exact [] is = absurd (cc)
form_there exact (key ∷ words) is = by (bytes_eq key (codes "gate")) refl is
  where
    by : (b : Bool) → bytes_eq key (codes "gate") ≡ b → (if b then is_gate words else bytes_eq key (codes "flop") && is_flop words) ≡ true → GateForm (key ∷ words) ⊎ FlopForm (key ∷ words)
    by true e is = inl (subst (λ (k : List ℕ). GateForm (k ∷ words)) (sym ((bytes_eq-Decides key (codes "gate")).0 e)) (gate_form words is))
    by false e is =
        let flop : key ≡ codes "flop" = (bytes_eq-Decides key (codes "flop")).0 (and_left (bytes_eq key (codes "flop")) (is_flop words) is) in
        inr (subst (λ (k : List ℕ). FlopForm (k ∷ words)) (sym flop) (flop_form exact words (and_right (bytes_eq key (codes "flop")) (is_flop words) is)))

form_reads : (words : Words) → GateForm words ⊎ FlopForm words → is_cell_line words ≡ true
form_reads words (inl g) = let few = g.few in ap is_cell_line g.words_are ∙ is_parted [] g.inputs g.steps (omega arith) g.some g.short
form_reads words (inr f) =
    let count = f.count in
    ap is_cell_line f.words_are ∙ ap (λ (o : Option FlopKind). option_map_or (takes (f.output ∷ f.inputs)) o false) (flop_there f.kind)
    ∙ eq-eqb (suc (length f.inputs)) (1 + flop_operand_count f.kind.reset) (omega arith)

pub lines_have_forms : OwnNamesAreExact → LinesHaveForms
lines_have_forms exact words = (form_there exact words, form_reads words)
