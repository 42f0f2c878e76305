-- The boxes of lines, read and spelled.
use Rattle.std.proofs.Common.{◌≡◌, ◌≤◌, ℕ, suc, ◌+◌, Bool, true, false, not, cond, if◌then◌else◌, List, [], ◌∷◌, ◌++◌, take, drop, length, codes, position, slice_get, get_or, nat_le, nat_lt, is_none, Option, Some, None, option_and_then, refl, sym, ap, ◌∙◌, subst, arith, le-leb, leb-true, lt-ltb, append-nil, append_assoc, length-append, take-append-drop}
use Rattle.std.specs.List.{list_any, list_all, position_or_len, AllByRecursion}
use Rattle.std.specs.Option.{option_map}
use Rattle.std.specs.Str.{bytes_eq}
use Rattle.std.proofs.lemmas.Slice.Eq.{bytes_eq-Decides}
use Rattle.std.proofs.lemmas.List.Elements.{filter-append}
use Rattle.std.proofs.lemmas.List.Quantifiers.{position-Some}
use Rattle.std.proofs.lemmas.Option.{slice_get-get_or}
use Rattle.std.proofs.Math.Seq.{take-append_seam, drop-append_seam}
use Rattle.list_laws.specs.Lists.{AreAll}
use Rattle.list_laws.proofs.Lists.{AreAll-length, left_at, all_front, all_back, all_append}
use Rattle.list_laws.proofs.Tests.{and_left, and_right, and_true, or_more}
use Rattle.texts.specs.Repeated.{repeated}
use Rattle.cell_text.specs.Words.{Words, is_colon}
use Rattle.cell_text.specs.Rules.{name_in}
use Rattle.cell_text.proofs.Again.{none_is}
use Rattle.box_model.specs.declared.boxes.BoxCell.{BoxCell}
use Rattle.box_model.specs.declared.boxes.BoxDir.{BoxDir}
use Rattle.box_model.specs.declared.boxes.BoxDir.TheVariants.{Takes, Gives}
use Rattle.box_model.specs.declared.boxes.BoxPort.{BoxPort}
use Rattle.box_model.specs.Sound.{IsSoundPort}
use Rattle.box_texts.specs.Ports.{port_in}
use Rattle.box_texts.specs.Boxes.{put_before, ports_in, behind_those, names_of, apart, all_ports, ports_of, box_of, box_in}
use Rattle.box_texts.specs.Forms.{is_box, is_box_line}
use Rattle.box_texts.specs.Sound.{is_dir, ports_to, IsTextBox}
use Rattle.box_texts.specs.Grammar.{SpellsPort, SpellsBox}
use Rattle.box_texts.proofs.PortTexts.{front_exact, port_again, port_spelled}
use Rattle.box_texts.proofs.Sorting.{passes_first, fails_first}

-- The place of the colon.

abbrev pub IsSplit : Words → ℕ → Type 0
IsSplit words place = words ≡ take place words ++ codes ":" ∷ drop (place + 1) words

pub colon_splits : (words : Words) (place : ℕ) → position is_colon words ≡ Some place → IsSplit words place
colon_splits words place e =
    let found = position-Some is_colon words place [] e in
    let word = get_or words place [] in
    let at : slice_get words place ≡ Some word = slice_get-get_or words place [] found.0 in
    let colon : word ≡ codes ":" = (bytes_eq-Decides word (codes ":")).0 found.1 in
    let more : suc place ≡ place + 1 = omega arith in
    sym (take-append-drop place words)
    ∙ ap (λ (l : Words). take place words ++ l)
    (left_at words place word at ∙ ap (λ (w : List ℕ). w ∷ drop (suc place) words) colon ∙ ap (λ (n : ℕ). codes ":" ∷ drop n words) more)

colon_found : (gives takes : Words) → list_all (λ (w : List ℕ). not (is_colon w)) gives ≡ true → position is_colon (gives ++ codes ":" ∷ takes) ≡ Some (length gives)
colon_found gives takes none =
    let all = gives ++ codes ":" ∷ takes in
    let place : position_or_len is_colon all ≡ length gives = front_exact (λ (w : List ℕ). not (is_colon w)) gives (codes ":" ∷ takes) none refl in
    let l = length-append gives (codes ":" ∷ takes) in
    ap (λ (n : ℕ). cond (nat_lt n (length all)) (Some n) None) place
    ∙ ap (λ (b : Bool). cond b (Some (length gives)) None) (lt-ltb (length gives) (length all) (omega arith))

-- Ports.

no_colon : (dir : BoxDir) (word : List ℕ) (p : BoxPort) → port_in dir word ≡ Some p → is_colon word ≡ false
no_colon dir word p e = by (is_colon word) refl
  where
    by : (b : Bool) → is_colon word ≡ b → is_colon word ≡ false
    by false is = is
    by true is =
        let same : word ≡ codes ":" = (bytes_eq-Decides word (codes ":")).0 is in
        let none : port_in dir (codes ":") ≡ None = refl in
        absurd (let clash : Some p ≡ None = sym e ∙ ap (port_in dir) same ∙ none in cc)

-- words that tell ports again
record AreAgain (dir : BoxDir) (words : Words) (ports : List BoxPort) : Type 0 where
  ports_are : ports_in dir words ≡ Some ports
  no_colons : list_all (λ (w : List ℕ). not (is_colon w)) words ≡ true

ports_again : (dir : BoxDir) (words : Words) (ports : List BoxPort) → AreAll (SpellsPort dir) words ports → AllByRecursion IsSoundPort ports → AreAgain dir words ports
ports_again dir [] [] each sound = record { ports_are = refl; no_colons = refl }
ports_again dir [] (p ∷ ports) each sound = absurd each
ports_again dir (w ∷ words) [] each sound = absurd each
ports_again dir (w ∷ words) (p ∷ ports) each sound =
    let here = port_again dir w p each.0 sound.0.name in
    let more = ports_again dir words ports each.1 sound.1 in
    record {
      ports_are = ap (λ (o : Option BoxPort). put_before o (ports_in dir words)) here ∙ ap (put_before (Some p)) more.ports_are;
      no_colons = and_true (not (is_colon w)) (list_all (λ (w : List ℕ). not (is_colon w)) words) (ap not (no_colon dir w p here)) more.no_colons;
    }

-- what is known of the ports of words
record ArePortsOf (dir : BoxDir) (words : Words) (ports : List BoxPort) : Type 0 where
  spelled : AreAll (SpellsPort dir) words ports
  sound : AllByRecursion IsSoundPort ports

ports_spelled : (dir : BoxDir) (words : Words) (ports : List BoxPort) → ports_in dir words ≡ Some ports → ArePortsOf dir words ports
ports_spelled dir [] ports e = let same : [] ≡ ports = cc in subst (ArePortsOf dir []) same (record { spelled = tt; sound = tt })
ports_spelled dir (w ∷ words) ports e = by (port_in dir w) (ports_in dir words) refl refl e (λ more h. ports_spelled dir words more h)
  where
    by : (o : Option BoxPort) (q : Option (List BoxPort)) → port_in dir w ≡ o → ports_in dir words ≡ q → put_before o q ≡ Some ports
        → ((more : List BoxPort) → ports_in dir words ≡ Some more → ArePortsOf dir words more) → ArePortsOf dir (w ∷ words) ports
    by None q oe qe e next = absurd (let none : None ≡ Some ports = e in cc)
    by (Some p) None oe qe e next = absurd (let none : None ≡ Some ports = e in cc)
    by (Some p) (Some more) oe qe e next =
        let same : p ∷ more ≡ ports = cc in
        let here = port_spelled dir w p oe in
        let rest = next more qe in
        subst (ArePortsOf dir (w ∷ words)) same (record { spelled = (here.spelled, rest.spelled); sound = (here.sound, rest.sound) })

-- Directions.

dir_again : (dir : BoxDir) → is_dir dir dir ≡ true
dir_again Takes = refl
dir_again Gives = refl

to_same : (dir : BoxDir) (words : Words) (ports : List BoxPort) → AreAll (SpellsPort dir) words ports → ports_to dir ports ≡ ports
to_same dir [] [] each = refl
to_same dir [] (p ∷ ports) each = absurd each
to_same dir (w ∷ words) [] each = absurd each
to_same dir (w ∷ words) (p ∷ ports) each =
    passes_first (λ (q : BoxPort). is_dir q.dir dir) p ports (ap (λ (d : BoxDir). is_dir d dir) each.0.dir_is ∙ dir_again dir) ∙ ap (λ (l : List BoxPort). p ∷ l) (to_same dir words ports each.1)

to_other : (dir other : BoxDir) (words : Words) (ports : List BoxPort) → is_dir dir other ≡ false → AreAll (SpellsPort dir) words ports → ports_to other ports ≡ []
to_other dir other [] [] apart each = refl
to_other dir other [] (p ∷ ports) apart each = absurd each
to_other dir other (w ∷ words) [] apart each = absurd each
to_other dir other (w ∷ words) (p ∷ ports) apart each =
    fails_first (λ (q : BoxPort). is_dir q.dir other) p ports (ap (λ (d : BoxDir). is_dir d other) each.0.dir_is ∙ apart) ∙ to_other dir other words ports apart each.1

in_order : (gives takes : Words) (outputs inputs : List BoxPort) → AreAll (SpellsPort Gives) gives outputs → AreAll (SpellsPort Takes) takes inputs
    → ports_to Gives (outputs ++ inputs) ++ ports_to Takes (outputs ++ inputs) ≡ outputs ++ inputs
in_order gives takes outputs inputs outs ins =
    let a = filter-append (λ (q : BoxPort). is_dir q.dir Gives) outputs inputs in
    let b = filter-append (λ (q : BoxPort). is_dir q.dir Takes) outputs inputs in
    let first : ports_to Gives (outputs ++ inputs) ≡ outputs =
    a ∙ ap (λ (l : List BoxPort). l ++ ports_to Gives inputs) (to_same Gives gives outputs outs)
    ∙ ap (λ (l : List BoxPort). outputs ++ l) (to_other Takes Gives takes inputs refl ins) ∙ append-nil outputs in
    let last : ports_to Takes (outputs ++ inputs) ≡ inputs =
    b ∙ ap (λ (l : List BoxPort). l ++ ports_to Takes inputs) (to_other Gives Takes gives outputs refl outs) ∙ to_same Takes takes inputs ins in
    ap (λ (l : List BoxPort). l ++ ports_to Takes (outputs ++ inputs)) first ∙ ap (λ (l : List BoxPort). outputs ++ l) last

-- A box's words, read again.

abbrev made : List ℕ → List BoxPort → BoxCell
made name ports = record { name = name; ports = ports }

pub box_again : (words : Words) (cell : BoxCell) → SpellsBox words cell → IsTextBox cell → box_in words ≡ Some cell
box_again words cell is text =
    let split : AllByRecursion IsSoundPort (is.outputs ++ is.inputs) = subst (AllByRecursion IsSoundPort) is.ports_are text.ports in
    let outs = ports_again Gives is.gives is.outputs is.each_gives (all_front IsSoundPort is.outputs is.inputs split) in
    let ins = ports_again Takes is.takes is.inputs is.each_takes (all_back IsSoundPort is.outputs is.inputs split) in
    let rest = is.gives ++ codes ":" ∷ is.takes in
    let more : length is.gives + 1 ≡ length (is.gives ++ codes ":" ∷ []) = sym (length-append is.gives (codes ":" ∷ [])) in
    let back : drop (length is.gives + 1) rest ≡ is.takes =
    ap (λ (n : ℕ). drop n rest) more ∙ ap (drop (length (is.gives ++ codes ":" ∷ []))) (sym (append_assoc is.gives (codes ":" ∷ []) is.takes))
    ∙ drop-append_seam (is.gives ++ codes ":" ∷ []) is.takes in
    let none : is_none (repeated (names_of (is.outputs ++ is.inputs))) ≡ true = ap (λ (ports : List BoxPort). is_none (repeated (names_of ports))) (sym is.ports_are) ∙ ap is_none text.apart in
    ap box_in is.words_are
    ∙ ap (option_and_then (λ (place : ℕ). box_of cell.name (take place rest) (drop (place + 1) rest))) (colon_found is.gives is.takes outs.no_colons)
    ∙ ap (λ (l : Words). box_of cell.name l (drop (length is.gives + 1) rest)) (take-append_seam is.gives (codes ":" ∷ is.takes))
    ∙ ap (box_of cell.name is.gives) back
    ∙ ap (λ (o : Option (List BoxPort)). option_map (made cell.name) (option_and_then apart (option_and_then (λ (outputs : List BoxPort). behind_those outputs (ports_in Takes is.takes)) (behind_those [] o)))) outs.ports_are
    ∙ ap (λ (o : Option (List BoxPort)). option_map (made cell.name) (option_and_then apart (behind_those is.outputs o))) ins.ports_are
    ∙ ap (λ (b : Bool). option_map (made cell.name) (if b then Some (is.outputs ++ is.inputs) else None)) none
    ∙ ap (λ (ports : List BoxPort). Some (made cell.name ports)) (sym is.ports_are)

pub box_has_form : (words : Words) (cell : BoxCell) → SpellsBox words cell → IsTextBox cell → is_box_line words ≡ true
box_has_form words cell is text =
    let rest = is.gives ++ codes ":" ∷ is.takes in
    let a : length is.gives ≡ length is.outputs = AreAll-length (SpellsPort Gives) is.gives is.outputs is.each_gives in
    let b : length is.takes ≡ length is.inputs = AreAll-length (SpellsPort Takes) is.takes is.inputs is.each_takes in
    let c : length cell.ports ≡ length (is.outputs ++ is.inputs) = ap length is.ports_are in
    let d = length-append is.outputs is.inputs in
    let e = length-append is.gives (codes ":" ∷ is.takes) in
    let few = text.few in
    ap is_box_line is.words_are
    ∙ and_true (nat_le (length rest) 1025) (list_any is_colon rest) (le-leb (length rest) 1025 (omega arith)) (any_there is.gives is.takes)
  where
    any_there : (gives takes : Words) → list_any is_colon (gives ++ codes ":" ∷ takes) ≡ true
    any_there [] takes = refl
    any_there (w ∷ gives) takes = or_more (is_colon w) (list_any is_colon (gives ++ codes ":" ∷ takes)) (any_there gives takes)

-- The box of a line.

pub record IsBoxOf (words : Words) (cell : BoxCell) : Type 0 where
  pub spelled : SpellsBox words cell
  pub text : IsTextBox cell

-- the ports of two lists of words
record AreSides (gives takes : Words) (ports : List BoxPort) : Type 0 where
  outputs : List BoxPort
  inputs : List BoxPort
  outs : ports_in Gives gives ≡ Some outputs
  ins : ports_in Takes takes ≡ Some inputs
  joined : ports ≡ outputs ++ inputs

sides_told : (gives takes : Words) (ports : List BoxPort) → all_ports gives takes ≡ Some ports → AreSides gives takes ports
sides_told gives takes ports e = by (ports_in Gives gives) (ports_in Takes takes) refl refl e
  where
    by : (o q : Option (List BoxPort)) → ports_in Gives gives ≡ o → ports_in Takes takes ≡ q → option_and_then (λ (outputs : List BoxPort). behind_those outputs q) (behind_those [] o) ≡ Some ports
        → AreSides gives takes ports
    by None q oe qe e = absurd (let none : None ≡ Some ports = e in cc)
    by (Some outputs) None oe qe e = absurd (let none : None ≡ Some ports = e in cc)
    by (Some outputs) (Some inputs) oe qe e = record { outputs = outputs; inputs = inputs; outs = oe; ins = qe; joined = (let same : outputs ++ inputs ≡ ports = cc in sym same) }

ports_told : (gives takes : Words) (ports : List BoxPort) → ports_of gives takes ≡ Some ports → AreSides gives takes ports × (repeated (names_of ports) ≡ None)
ports_told gives takes ports e = by (all_ports gives takes) refl e
  where
    once : (found : List BoxPort) (b : Bool) → is_none (repeated (names_of found)) ≡ b → all_ports gives takes ≡ Some found → (if b then Some found else None) ≡ Some ports
        → AreSides gives takes ports × (repeated (names_of ports) ≡ None)
    once found false n is e = absurd (let none : None ≡ Some ports = e in cc)
    once found true n is e =
        let same : found ≡ ports = cc in
        (sides_told gives takes ports (is ∙ ap (λ (l : List BoxPort). Some l) same), none_is (repeated (names_of ports)) (ap (λ (l : List BoxPort). is_none (repeated (names_of l))) (sym same) ∙ n))

    by : (o : Option (List BoxPort)) → all_ports gives takes ≡ o → option_and_then apart o ≡ Some ports → AreSides gives takes ports × (repeated (names_of ports) ≡ None)
    by None is e = absurd (let none : None ≡ Some ports = e in cc)
    by (Some found) is e = once found (is_none (repeated (names_of found))) refl is e

box_told : (key name : List ℕ) (words gives takes : Words) (cell : BoxCell) → key ≡ codes "box" → words ≡ gives ++ codes ":" ∷ takes → length words ≤ 1025 → box_of name gives takes ≡ Some cell
    → IsBoxOf (key ∷ name ∷ words) cell
box_told key name words gives takes cell box split short e = by (ports_of gives takes) refl e
  where
    by : (o : Option (List BoxPort)) → ports_of gives takes ≡ o → option_map (λ (ports : List BoxPort). record { name = name; ports = ports }) o ≡ Some cell → IsBoxOf (key ∷ name ∷ words) cell
    by None is e = absurd (let none : None ≡ Some cell = e in cc)
    by (Some ports) is e =
        let same : record { name = name; ports = ports } ≡ cell = cc in
        let told = ports_told gives takes ports is in
        let sides = told.0 in
        let outs = ports_spelled Gives gives sides.outputs sides.outs in
        let ins = ports_spelled Takes takes sides.inputs sides.ins in
        let a : length gives ≡ length sides.outputs = AreAll-length (SpellsPort Gives) gives sides.outputs outs.spelled in
        let b : length takes ≡ length sides.inputs = AreAll-length (SpellsPort Takes) takes sides.inputs ins.spelled in
        let c : length ports ≡ length (sides.outputs ++ sides.inputs) = ap length sides.joined in
        let d = length-append sides.outputs sides.inputs in
        let l : length words ≡ length (gives ++ codes ":" ∷ takes) = ap length split in
        let m = length-append gives (codes ":" ∷ takes) in
        subst (IsBoxOf (key ∷ name ∷ words)) same (record {
          spelled = record {
            gives = gives;
            takes = takes;
            words_are = ap (λ (k : List ℕ). k ∷ name ∷ words) box ∙ ap (λ (l : Words). codes "box" ∷ name ∷ l) split;
            outputs = sides.outputs;
            inputs = sides.inputs;
            ports_are = sides.joined;
            each_gives = outs.spelled;
            each_takes = ins.spelled;
          };
          text = record {
            ports = subst (AllByRecursion IsSoundPort) (sym sides.joined) (all_append IsSoundPort sides.outputs sides.inputs outs.sound ins.sound);
            order = ap (λ (l : List BoxPort). ports_to Gives l ++ ports_to Takes l) sides.joined ∙ in_order gives takes sides.outputs sides.inputs outs.spelled ins.spelled ∙ sym sides.joined;
            apart = told.1;
            few = omega arith;
          };
        })

pub box_of_line : (words : Words) (cell : BoxCell) → is_box_line words ≡ true → box_in words ≡ Some cell → IsBoxOf words cell
box_of_line [] cell form e = absurd (let none : None ≡ Some cell = e in cc)
box_of_line (key ∷ []) cell form e = absurd (let none : None ≡ Some cell = e in cc)
box_of_line (key ∷ name ∷ words) cell form e = by (position is_colon words) refl e
  where
    key_is : key ≡ codes "box"
    key_is = (bytes_eq-Decides key (codes "box")).0 (and_left (bytes_eq key (codes "box")) (is_box (name ∷ words)) form)

    short : length words ≤ 1025
    short = leb-true (length words) 1025 (and_left (nat_le (length words) 1025) (list_any is_colon words) (and_right (bytes_eq key (codes "box")) (is_box (name ∷ words)) form))

    by : (o : Option ℕ) → position is_colon words ≡ o → option_and_then (λ (place : ℕ). box_of name (take place words) (drop (place + 1) words)) o ≡ Some cell → IsBoxOf (key ∷ name ∷ words) cell
    by None is e = absurd (let none : None ≡ Some cell = e in cc)
    by (Some place) is e = box_told key name words (take place words) (drop (place + 1) words) cell key_is (colon_splits words place is) short e

pub name_of_box : (words : Words) (cell : BoxCell) → SpellsBox words cell → name_in words ≡ cell.name
name_of_box words cell is = ap name_in is.words_are
