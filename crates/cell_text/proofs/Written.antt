-- The cell of a line, and the words of its line.
use Rattle.std.proofs.Common.{◌≡◌, ◌≤◌, ◌<◌, ℕ, suc, ◌+◌, Bool, true, false, ◌&&◌, ◌==◌, if◌then◌else◌, List, [], ◌∷◌, ◌++◌, map, length, codes, Option, Some, None, option_and_then, refl, sym, ap, ◌∙◌, subst, arith, eqb-true, eq-eqb, le-leb}
use Rattle.std.specs.Str.{bytes_eq}
use Rattle.std.proofs.lemmas.Slice.Eq.{bytes_eq-Decides}
use Rattle.std.proofs.lemmas.List.{length-map}
use Rattle.cell_library.specs.declared.FlopKind.{FlopKind}
use Rattle.cell_library.specs.declared.Kind.{Kind}
use Rattle.cell_library.specs.declared.Kind.TheVariants.{Flop}
use Rattle.cell_library.specs.declared.listed.Step.{Step}
use Rattle.cell_library.specs.declared.listed.Body.{Body}
use Rattle.cell_library.specs.declared.listed.Body.TheVariants as body
use Rattle.cell_library.specs.declared.listed.ListedCell.{ListedCell}
use Rattle.cell_library.specs.Gates.{flop_operand_count}
use Rattle.cell_library.specs.Library.{flop_name, own_kind_named, own_cell_name}
use Rattle.cell_library.specs.Laws.{OwnNamesAreExact}
use Rattle.cell_library.specs.Sound.{leaves_one, is_sound_body}
use Rattle.cell_text.specs.Words.{Words, of_kind, flop_named, step_word}
use Rattle.cell_text.specs.Lines.{parted, takes}
use Rattle.cell_text.specs.Cells.{are_ports, steps_of, sound_steps, cell_of, with_ports, gate_of, flop_of, gate_in, flop_in, cell_in}
use Rattle.cell_text.specs.Rules.{name_in}
use Rattle.cell_text.specs.Grammar.{body_words, cell_words}
use Rattle.cell_text.proofs.Parts.{parts_of}
use Rattle.cell_text.proofs.Bodies.{steps_are_words}

-- what is known of the cell of a line
pub record IsCellOf (words : Words) (cell : ListedCell) : Type 0 where
  pub words_are : words ≡ cell_words cell
  pub ports : are_ports (cell.output ∷ cell.inputs) ≡ true
  pub body : is_sound_body (length cell.inputs) cell.body ≡ true

ported : (name output : List ℕ) (inputs : Words) (b : Body) (cell : ListedCell) → with_ports name (output ∷ inputs) b ≡ Some cell
    → (cell_of name output inputs b ≡ cell) × (are_ports (output ∷ inputs) ≡ true)
ported name output inputs b cell e = by (are_ports (output ∷ inputs)) refl e
  where
    by : (ok : Bool) → are_ports (output ∷ inputs) ≡ ok → (if ok then Some (cell_of name output inputs b) else None) ≡ Some cell → (cell_of name output inputs b ≡ cell) × (are_ports (output ∷ inputs) ≡ true)
    by true is e = (cc, is)
    by false is e = absurd (let none : None ≡ Some cell = e in cc)

-- gates

gate_is : (key name output : List ℕ) (words inputs sts : Words) (steps : List Step) (cell : ListedCell) → key ≡ codes "gate" → words ≡ inputs ++ codes ":" ∷ sts
    → length inputs ≤ 16 → 1 ≤ length sts → length sts ≤ 64 → map (step_word inputs) steps ≡ sts → leaves_one (length inputs) 0 steps ≡ true
    → with_ports name (output ∷ inputs) (body.Gate steps) ≡ Some cell → IsCellOf (key ∷ name ∷ output ∷ words) cell
gate_is key name output words inputs sts steps cell gate split few some short spelled sound e =
    let both = ported name output inputs (body.Gate steps) cell e in
    let count : length steps ≡ length sts = sym (length-map steps (step_word inputs)) ∙ ap length spelled in
    let low : 1 ≤ length steps = omega arith in
    let high : length steps ≤ 64 = omega arith in
    subst (IsCellOf (key ∷ name ∷ output ∷ words)) both.0 (record {
      words_are = ap (λ (k : List ℕ). k ∷ name ∷ output ∷ words) gate ∙ ap (λ (l : Words). codes "gate" ∷ name ∷ output ∷ l) (split ∙ ap (λ (l : Words). inputs ++ codes ":" ∷ l) (sym spelled));
      ports = both.1;
      body = rw (le-leb (length inputs) 16 few, le-leb 1 (length steps) low, le-leb (length steps) 64 high, sound) refl;
    })

gate_behind : (key name output : List ℕ) (words : Words) (cell : ListedCell) → key ≡ codes "gate" → gate_in (name ∷ output ∷ words) ≡ Some cell → IsCellOf (key ∷ name ∷ output ∷ words) cell
gate_behind key name output words cell gate e = by (parted [] words) refl e
  where
    left : (parts : Words × Words) → parted [] words ≡ Some parts → (o : Option (List Step)) → steps_of parts.0 parts.1 ≡ o
        → option_and_then (λ steps. with_ports name (output ∷ parts.0) (body.Gate steps)) (option_and_then (sound_steps (length parts.0)) o) ≡ Some cell
        → IsCellOf (key ∷ name ∷ output ∷ words) cell
    left parts at None is e = absurd (let none : None ≡ Some cell = e in cc)
    left parts at (Some steps) is e = sound (leaves_one (length parts.0) 0 steps) refl e
      where
        sound : (b : Bool) → leaves_one (length parts.0) 0 steps ≡ b
            → option_and_then (λ steps. with_ports name (output ∷ parts.0) (body.Gate steps)) (if b then Some steps else None) ≡ Some cell → IsCellOf (key ∷ name ∷ output ∷ words) cell
        sound false l e = absurd (let none : None ≡ Some cell = e in cc)
        sound true l e =
            let p = parts_of [] words parts at in
            gate_is key name output words parts.0 parts.1 steps cell gate p.words_are p.few p.some p.short (steps_are_words parts.0 parts.1 steps is) l e

    by : (o : Option (Words × Words)) → parted [] words ≡ o → option_and_then (λ parts. gate_of name (output ∷ parts.0) parts.1) o ≡ Some cell → IsCellOf (key ∷ name ∷ output ∷ words) cell
    by None at e = absurd (let none : None ≡ Some cell = e in cc)
    by (Some parts) at e = left parts at (steps_of parts.0 parts.1) refl e

gate_line : (key : List ℕ) (words : Words) (cell : ListedCell) → key ≡ codes "gate" → gate_in words ≡ Some cell → IsCellOf (key ∷ words) cell
gate_line key [] cell gate e = absurd (let none : None ≡ Some cell = e in cc)
gate_line key (name ∷ []) cell gate e = absurd (let none : None ≡ Some cell = e in cc)
gate_line key (name ∷ output ∷ words) cell gate e = gate_behind key name output words cell gate e

-- flip-flops

-- the word that names a kind of flip-flop is that kind's name
pub flop_word : OwnNamesAreExact → (word : List ℕ) (kind : FlopKind) → flop_named word ≡ Some kind → word ≡ flop_name kind.edge kind.reset
flop_word exact word kind e = by (own_kind_named word) refl e
  where
    by : (o : Option Kind) → own_kind_named word ≡ o → of_kind o ≡ Some kind → word ≡ flop_name kind.edge kind.reset
    by None at e = absurd (let none : None ≡ Some kind = e in cc)
    by (Some (Flop k)) at e =
        let same : k ≡ kind = cc in
        let named : own_cell_name (Flop k) ≡ Some word = (exact word (Flop k)).0 at in
        let name : flop_name k.edge k.reset ≡ word = cc in sym name ∙ ap (λ (x : FlopKind). flop_name x.edge x.reset) same
    by (Some other) at e = absurd (let none : None ≡ Some kind = e in cc)

flop_behind : OwnNamesAreExact → (key name word : List ℕ) (ports : Words) (cell : ListedCell) → key ≡ codes "flop" → flop_in (name ∷ word ∷ ports) ≡ Some cell → IsCellOf (key ∷ name ∷ word ∷ ports) cell
flop_behind exact key name word ports cell flop e = by (flop_named word) refl e
  where
    taken : (kind : FlopKind) → flop_named word ≡ Some kind → (ports : Words) → (b : Bool) → takes ports kind ≡ b → (if b then with_ports name ports (body.Flop kind) else None) ≡ Some cell
        → IsCellOf (key ∷ name ∷ word ∷ ports) cell
    taken kind named ports false t e = absurd (let none : None ≡ Some cell = e in cc)
    taken kind named [] true t e = absurd (let none : None ≡ Some cell = e in cc)
    taken kind named (output ∷ inputs) true t e =
        let both = ported name output inputs (body.Flop kind) cell e in
        let all : suc (length inputs) ≡ 1 + flop_operand_count kind.reset = eqb-true (suc (length inputs)) (1 + flop_operand_count kind.reset) t in
        let count : length inputs ≡ flop_operand_count kind.reset = omega arith in
        subst (IsCellOf (key ∷ name ∷ word ∷ output ∷ inputs)) both.0 (record {
          words_are = ap (λ (k : List ℕ). k ∷ name ∷ word ∷ output ∷ inputs) flop ∙ ap (λ (w : List ℕ). codes "flop" ∷ name ∷ w ∷ output ∷ inputs) (flop_word exact word kind named);
          ports = both.1;
          body = eq-eqb (length inputs) (flop_operand_count kind.reset) count;
        })

    by : (o : Option FlopKind) → flop_named word ≡ o → option_and_then (flop_of name ports) o ≡ Some cell → IsCellOf (key ∷ name ∷ word ∷ ports) cell
    by None named e = absurd (let none : None ≡ Some cell = e in cc)
    by (Some kind) named e = taken kind named ports (takes ports kind) refl e

flop_line : OwnNamesAreExact → (key : List ℕ) (words : Words) (cell : ListedCell) → key ≡ codes "flop" → flop_in words ≡ Some cell → IsCellOf (key ∷ words) cell
flop_line exact key [] cell flop e = absurd (let none : None ≡ Some cell = e in cc)
flop_line exact key (name ∷ []) cell flop e = absurd (let none : None ≡ Some cell = e in cc)
flop_line exact key (name ∷ word ∷ ports) cell flop e = flop_behind exact key name word ports cell flop e

pub cell_of_line : OwnNamesAreExact → (words : Words) (cell : ListedCell) → cell_in words ≡ Some cell → IsCellOf words cell
cell_of_line exact [] cell e = absurd (let none : None ≡ Some cell = e in cc)
cell_of_line exact (key ∷ words) cell e = by (bytes_eq key (codes "gate")) (bytes_eq key (codes "flop")) refl refl e
  where
    by : (g f : Bool) → bytes_eq key (codes "gate") ≡ g → bytes_eq key (codes "flop") ≡ f → (if g then gate_in words else if f then flop_in words else None) ≡ Some cell → IsCellOf (key ∷ words) cell
    by true f ge fe e = gate_line key words cell ((bytes_eq-Decides key (codes "gate")).0 ge) e
    by false true ge fe e = flop_line exact key words cell ((bytes_eq-Decides key (codes "flop")).0 fe) e
    by false false ge fe e = absurd (let none : None ≡ Some cell = e in cc)

-- the second word is the cell's name
pub name_of_words : (cell : ListedCell) → name_in (cell_words cell) ≡ cell.name
name_of_words cell = by cell.body
  where
    by : (b : Body) → name_in (body_words cell.name cell.output cell.inputs b) ≡ cell.name
    by (body.Gate steps) = refl
    by (body.Flop kind) = refl

pub name_is : (words : Words) (cell : ListedCell) → IsCellOf words cell → name_in words ≡ cell.name
name_is words cell is = ap name_in is.words_are ∙ name_of_words cell
