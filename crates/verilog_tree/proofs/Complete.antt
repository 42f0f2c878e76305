-- The words of a module are read as it.
use Rattle.std.proofs.Common.{◌≡◌, ℕ, suc, zero, ◌≤◌, ◌==◌, Bool, true, false, IsTrue, List, [], ◌∷◌, ◌++◌, length, Option, Some, None, refl, ap, ◌∙◌, arith, append_assoc, append-nil, length-append}
use Rattle.std.specs.List.{list_all}
use Rattle.std.specs.Option.{option_map_or}
use Rattle.verilog_lexicon.proofs.list_laws.Tests.{and_left, and_right}
use borrow.Author.Tests.{eqb-true}
use Rattle.verilog_lexicon.specs.declared.word.Word.{Word}
use Rattle.verilog_lexicon.specs.declared.word.Word.TheVariants as word
use Rattle.verilog_lexicon.specs.declared.symbol.Symbol.{Symbol}
use Rattle.verilog_lexicon.specs.declared.symbol.Symbol.TheVariants.{LeftParenthesis, RightParenthesis, LeftBracket, Comma, Semicolon, Dot, Equals}
use Rattle.verilog_lexicon.specs.Words.{front, rest, symbol_in}
use Rattle.verilog_tree.specs.declared.tree.Dir.{Dir}
use Rattle.verilog_tree.specs.declared.tree.Dir.TheVariants as dir
use Rattle.verilog_tree.specs.declared.tree.Range.{Range}
use Rattle.verilog_tree.specs.declared.tree.GateKind.{GateKind}
use Rattle.verilog_tree.specs.declared.tree.GateKind.TheVariants as gate
use Rattle.verilog_tree.specs.declared.tree.Bit.{Bit}
use Rattle.verilog_tree.specs.declared.tree.Operand.{Operand}
use Rattle.verilog_tree.specs.declared.tree.Operand.TheVariants as operand
use Rattle.verilog_tree.specs.declared.tree.Link.{Link}
use Rattle.verilog_tree.specs.Sources.{DeclarationHead, PortSource, Header, absent, empty, ansi, names, AssignSource, GateSource, InstanceSource}
use Rattle.verilog_tree.specs.WrittenWords.{key_of_dir, each_after_comma, optional_words, name_words, range_words, index_words, bit_words, operand_words, wire_words, head_words, port_words, header_words, assign_words, gate_words, link_words, listed_words, instance_words}
use Rattle.verilog_tree.specs.Trees.{takes_inputs}
use Rattle.verilog_tree.specs.Reader.{Read, done, after, optional_at, more_of, some_of, symbol_at, name_at, range_at, index_at, bit_at, operand_at, head_at, dir_in, port_at, ansi_at, names_at, header_at, assign_at, inputs_at, gate_at, link_at, links_at, instance_at}
use Rattle.verilog_tree.proofs.Parts.{free, gate_fits}

-- What follows is no such symbol.
abbrev pub No : Symbol → List Word → Type 0
No symbol left = front (symbol_in symbol) left ≡ None

-- anything may follow
abbrev pub Any : List Word → Type 0
Any left = Unit {0}

-- a part that keeps its rule is read from its words, where what follows allows it
abbrev pub Again : (X : Type 0) → (List Word → Read X) → (X → List Word) → (X → Bool) → (List Word → Type 0) → Type 0
Again X one words ok Follows = (x : X) (left : List Word) → IsTrue (ok x) → Follows left → one (words x ++ left) ≡ (Some x, left)

pub optional_again : {X : Type 0} (mark : Symbol) (one : List Word → Read X) (words : X → List Word) → ((x : X) (left : List Word) → optional_at mark one (words x ++ left) ≡ (Some (Some x), left)) → (o : Option X) (left : List Word) → No mark left → optional_at mark one (optional_words words o ++ left) ≡ (Some o, left)
optional_again {X = X} mark one words again None left none = ap (λ (z : Option (Unit {0})). option_map_or (λ _. after (one (rest left)) (λ x more. done (Some x) more)) z (done None left)) none
optional_again mark one words again (Some x) left none = again x left

more_again : {X : Type 0} (one : List Word → Read X) (words : X → List Word) (ok : X → Bool) (Follows : List Word → Type 0) → Again X one words ok Follows → ((l : List Word) → Follows (word.Symbol Comma ∷ l))
    → (xs : List X) (left : List Word) (n : ℕ) → IsTrue (list_all ok xs) → length xs ≤ n → No Comma left → Follows left → more_of one n (each_after_comma words xs ++ left) ≡ (Some xs, left)
more_again one words ok Follows again comma [] left zero good enough none follows = refl
more_again {X = X} one words ok Follows again comma [] left (suc n) good enough none follows = ap (λ (z : Option (Unit {0})). option_map_or (λ _. after (one (rest left)) (λ x more. after (more_of one n more) (λ xs end. done (x ∷ xs) end))) z (done [] left)) none
more_again one words ok Follows again comma (x ∷ xs) left zero good enough none follows = absurd (omega arith)
more_again {X = X} one words ok Follows again comma (x ∷ xs) left (suc n) good enough none follows =
    let next : X → List Word → Read (List X) = λ y more. after (more_of one n more) (λ ys end. done (y ∷ ys) end) in
    ap (λ (l : List Word). after (one l) next) (append_assoc (words x) (each_after_comma words xs) left)
    ∙ ap (λ (read : Read X). after read next) (again x (each_after_comma words xs ++ left) (and_left _ _ good) (goes_on xs))
    ∙ ap (λ (read : Read (List X)). after read (λ ys end. done (x ∷ ys) end)) (more_again one words ok Follows again comma xs left n (and_right _ _ good) (omega arith) none follows)
  where
    goes_on : (ys : List X) → Follows (each_after_comma words ys ++ left)
    goes_on [] = follows
    goes_on (y ∷ ys) = comma ((words y ++ each_after_comma words ys) ++ left)

-- each part of a list takes a word at least
pub each_long : {X : Type 0} (words : X → List Word) (xs : List X) (left : List Word) → length xs ≤ length (each_after_comma words xs ++ left)
each_long words [] left = omega arith
each_long words (x ∷ xs) left =
    omega (arith, each_long words xs left, length-append (each_after_comma words xs) left, length-append (words x ++ each_after_comma words xs) left, length-append (words x) (each_after_comma words xs))

pub some_again : {X : Type 0} (one : List Word → Read X) (words : X → List Word) (ok : X → Bool) (Follows : List Word → Type 0) → Again X one words ok Follows → ((l : List Word) → Follows (word.Symbol Comma ∷ l))
    → (x : X) (xs : List X) (left : List Word) → IsTrue (list_all ok (x ∷ xs)) → No Comma left → Follows left → some_of one (words x ++ (each_after_comma words xs ++ left)) ≡ (Some (x, xs), left)
some_again {X = X} one words ok Follows again comma x xs left good none follows =
    let pair : X → List X → X × List X = λ y ys. (y, ys) in
    ap (λ (read : Read X). after read (λ y more. after (more_of one (length more) more) (λ ys end. done (pair y ys) end))) (again x (each_after_comma words xs ++ left) (and_left _ _ good) (goes_on xs))
    ∙ ap (λ (read : Read (List X)). after read (λ ys end. done (pair x ys) end)) (more_again one words ok Follows again comma xs left (length (each_after_comma words xs ++ left)) (and_right _ _ good) (each_long words xs left) none follows)
  where
    goes_on : (ys : List X) → Follows (each_after_comma words ys ++ left)
    goes_on [] = follows
    goes_on (y ∷ ys) = comma ((words y ++ each_after_comma words ys) ++ left)

pub all_free : {X : Type 0} (xs : List X) → IsTrue (list_all free xs)
all_free [] = refl
all_free (x ∷ xs) = all_free xs

-- Parts.

abbrev bit_of : List ℕ → Option ℕ → Bit
bit_of net index = record { net = net; index = index }

index_again : (index : ℕ) (left : List Word) → optional_at LeftBracket index_at (index_words index ++ left) ≡ (Some (Some index), left)
unfolding index_at
index_again index left = refl

pub range_again : (range : Range) (left : List Word) → optional_at LeftBracket range_at (range_words range ++ left) ≡ (Some (Some range), left)
unfolding range_at
range_again range left = refl

bit_again : Again Bit bit_at bit_words free (No LeftBracket)
unfolding bit_at
bit_again b left good none = ap (λ (read : Read (Option ℕ)). after read (λ index a. done (bit_of b.net index) a)) (optional_again LeftBracket index_at index_words index_again b.index left none)

operand_again : Again Operand operand_at operand_words free (No LeftBracket)
unfolding operand_at
operand_again (operand.Bit b) left good none = ap (λ (read : Read Bit). after read (λ x a. done (operand.Bit x) a)) (bit_again b left refl none)
operand_again (operand.Const value) left good none = refl

name_again : Again (List ℕ) name_at name_words free Any
name_again name left good none = refl

-- a head stands before a name
pub head_again : (h : DeclarationHead) (name : List ℕ) (left : List Word) → head_at h.dir (wire_words h.wire ++ optional_words range_words h.range ++ word.Name name ∷ left) ≡ (Some h, word.Name name ∷ left)
unfolding head_at range_at
head_again h name left = go h.dir h.wire h.range
  where
    go : (d : Dir) (wire : Bool) (range : Option Range) → head_at d (wire_words wire ++ optional_words range_words range ++ word.Name name ∷ left) ≡ (Some (record { dir = d; wire = wire; range = range }), word.Name name ∷ left)
    go d true None = refl
    go d true (Some range) = refl
    go d false None = refl
    go d false (Some range) = refl

pub dir_in-key : (d : Dir) → dir_in (word.Reserved (key_of_dir d)) ≡ Some d
dir_in-key dir.Input = refl
dir_in-key dir.Output = refl
dir_in-key dir.Inout = refl

port_again : Again PortSource port_at port_words free Any
unfolding port_at
port_again p left good any = go p.head p.name
  where
    go : (o : Option DeclarationHead) (name : List ℕ) → port_at ((optional_words head_words o ++ name_words name) ++ left) ≡ (Some (record { head = o; name = name }), left)
    go None name = refl
    go (Some h) name = rw (append_assoc (wire_words h.wire ++ optional_words range_words h.range) (word.Name name ∷ []) left, dir_in-key h.dir, head_again h name left) refl

pub names_again : (first : List ℕ) (more : List (List ℕ)) (left : List Word) → No Comma left → some_of name_at (word.Name first ∷ (each_after_comma name_words more ++ left)) ≡ (Some (first, more), left)
names_again first more left none = some_again name_at name_words free Any name_again (λ l. tt) first more left (all_free more) none tt

pub header_again : (h : Header) (left : List Word) → header_at (header_words h ++ word.Symbol Semicolon ∷ left) ≡ (Some h, word.Symbol Semicolon ∷ left)
unfolding header_at ansi_at names_at
header_again absent left = refl
header_again empty left = refl
header_again (ansi h first more) left =
    let head : List Word = wire_words h.wire ++ optional_words range_words h.range in
    let each : List Word = each_after_comma port_words more in
    let end : List Word = word.Symbol RightParenthesis ∷ word.Symbol Semicolon ∷ left in
    let joined : (((head ++ word.Name first ∷ []) ++ each) ++ word.Symbol RightParenthesis ∷ []) ++ word.Symbol Semicolon ∷ left ≡ head ++ word.Name first ∷ (each ++ end) = simp append_assoc in
    rw (joined, dir_in-key h.dir, head_again h first (each ++ end), more_again port_at port_words free Any port_again (λ l. tt) more end (length (each ++ end)) (all_free more) (each_long port_words more end) refl tt) refl
header_again (names first more) left = rw (append_assoc (each_after_comma name_words more) (word.Symbol RightParenthesis ∷ []) (word.Symbol Semicolon ∷ left), names_again first more (word.Symbol RightParenthesis ∷ word.Symbol Semicolon ∷ left) refl) refl

pub assign_again : Again AssignSource assign_at assign_words free (No LeftBracket)
unfolding assign_at
assign_again a left good none = rw (append_assoc (bit_words a.output) (word.Symbol Equals ∷ operand_words a.input) left, bit_again a.output (word.Symbol Equals ∷ (operand_words a.input ++ left)) refl refl, operand_again a.input left refl none) refl

-- Gates.

some_inputs_again : (first : Operand) (more : List Operand) (left : List Word) → some_of operand_at (operand_words first ++ (each_after_comma operand_words more ++ word.Symbol RightParenthesis ∷ left)) ≡ (Some (first, more), word.Symbol RightParenthesis ∷ left)
some_inputs_again first more left = some_again operand_at operand_words free (No LeftBracket) operand_again (λ l. refl) first more (word.Symbol RightParenthesis ∷ left) (all_free more) refl refl

one_input_again : (first : Operand) (more : List Operand) (left : List Word) → (length (first ∷ more) == 1) ≡ true → after (operand_at (operand_words first ++ (each_after_comma operand_words more ++ word.Symbol RightParenthesis ∷ left))) (λ x a. let inputs : Operand × List Operand = (x, []) in done inputs a) ≡ (Some (first, more), word.Symbol RightParenthesis ∷ left)
one_input_again first [] left fits = rw (operand_again first (word.Symbol RightParenthesis ∷ left) refl refl) refl
one_input_again first (x ∷ more) left fits = absurd (omega (arith, eqb-true (length (first ∷ x ∷ more)) 1 fits))

two_inputs_again : (first : Operand) (more : List Operand) (left : List Word) → (length (first ∷ more) == 2) ≡ true → after (operand_at (operand_words first ++ (each_after_comma operand_words more ++ word.Symbol RightParenthesis ∷ left))) (λ x a. after (symbol_at Comma a) (λ _ b. after (operand_at b) (λ y c. let inputs : Operand × List Operand = (x, y ∷ []) in done inputs c))) ≡ (Some (first, more), word.Symbol RightParenthesis ∷ left)
two_inputs_again first [] left fits = cc
two_inputs_again first (x ∷ []) left fits = rw (append-nil (operand_words x), operand_again first (word.Symbol Comma ∷ (operand_words x ++ word.Symbol RightParenthesis ∷ left)) refl refl, operand_again x (word.Symbol RightParenthesis ∷ left) refl refl) refl
two_inputs_again first (x ∷ y ∷ more) left fits = absurd (omega (arith, eqb-true (length (first ∷ x ∷ y ∷ more)) 2 fits))

inputs_again : (kind : GateKind) (first : Operand) (more : List Operand) (left : List Word) → IsTrue (takes_inputs kind (length (first ∷ more))) → inputs_at kind (operand_words first ++ (each_after_comma operand_words more ++ word.Symbol RightParenthesis ∷ left)) ≡ (Some (first, more), word.Symbol RightParenthesis ∷ left)
unfolding inputs_at
inputs_again gate.And first more left fits = some_inputs_again first more left
inputs_again gate.Or first more left fits = some_inputs_again first more left
inputs_again gate.Nand first more left fits = some_inputs_again first more left
inputs_again gate.Nor first more left fits = some_inputs_again first more left
inputs_again gate.Xor first more left fits = some_inputs_again first more left
inputs_again gate.Xnor first more left fits = some_inputs_again first more left
inputs_again gate.Buf first more left fits = one_input_again first more left fits
inputs_again gate.Not first more left fits = one_input_again first more left fits
inputs_again gate.Bufif0 first more left fits = two_inputs_again first more left fits
inputs_again gate.Bufif1 first more left fits = two_inputs_again first more left fits

pub gate_again : (kind : GateKind) → Again GateSource (gate_at kind) gate_words (gate_fits kind) Any
unfolding gate_at
gate_again kind g left fits any = go g.name
  where
    each : List Word
    each = each_after_comma operand_words g.more

    joined : (((bit_words g.output ++ word.Symbol Comma ∷ operand_words g.first) ++ each) ++ word.Symbol RightParenthesis ∷ []) ++ left ≡ bit_words g.output ++ word.Symbol Comma ∷ (operand_words g.first ++ (each ++ word.Symbol RightParenthesis ∷ left))
    joined = simp append_assoc

    go : (o : Option (List ℕ)) → gate_at kind ((optional_words name_words o ++ word.Symbol LeftParenthesis ∷ bit_words g.output ++ word.Symbol Comma ∷ operand_words g.first ++ each ++ word.Symbol RightParenthesis ∷ []) ++ left) ≡ (Some (record { name = o; output = g.output; first = g.first; more = g.more }), left)
    go None = rw (joined, bit_again g.output (word.Symbol Comma ∷ (operand_words g.first ++ (each ++ word.Symbol RightParenthesis ∷ left))) refl refl, inputs_again kind g.first g.more left fits) refl
    go (Some name) = rw (joined, bit_again g.output (word.Symbol Comma ∷ (operand_words g.first ++ (each ++ word.Symbol RightParenthesis ∷ left))) refl refl, inputs_again kind g.first g.more left fits) refl

-- Instances.

link_again : Again Link link_at link_words free Any
unfolding link_at
link_again l left good any = go l.operand
  where
    go : (o : Option Operand) → link_at ((word.Symbol Dot ∷ word.Name l.port ∷ word.Symbol LeftParenthesis ∷ optional_words operand_words o ++ word.Symbol RightParenthesis ∷ []) ++ left) ≡ (Some (record { port = l.port; operand = o }), left)
    go None = refl
    go (Some (operand.Const value)) = rw (operand_again (operand.Const value) (word.Symbol RightParenthesis ∷ left) refl refl) refl
    go (Some (operand.Bit b)) = rw (append_assoc (optional_words index_words b.index) (word.Symbol RightParenthesis ∷ []) left, operand_again (operand.Bit b) (word.Symbol RightParenthesis ∷ left) refl refl) refl

links_again : (links : List Link) (left : List Word) → links_at (listed_words link_words links ++ word.Symbol RightParenthesis ∷ left) ≡ (Some links, left)
unfolding links_at
links_again [] left = refl
links_again (l ∷ ls) left = rw (append_assoc (link_words l) (each_after_comma link_words ls) (word.Symbol RightParenthesis ∷ left), some_again link_at link_words free Any link_again (λ z. tt) l ls (word.Symbol RightParenthesis ∷ left) (all_free ls) refl tt) refl

pub instance_again : Again InstanceSource instance_at instance_words free Any
unfolding instance_at
instance_again i left good any = rw (append_assoc (listed_words link_words i.links) (word.Symbol RightParenthesis ∷ []) left, links_again i.links left) refl
