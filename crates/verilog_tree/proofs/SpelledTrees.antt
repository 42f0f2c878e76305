-- The tree of a written module whose words a text has: it keeps the conditions of `IsTree`.
use Rattle.std.proofs.Common.{◌≡◌, ℕ, List, [], ◌∷◌, ◌++◌, length, map, filter, cond, Bool, true, false, Option, Some, None, refl, sym, subst, arith}
use Rattle.std.specs.Prelude.{not, find, IfSome, unwrap_or}
use Rattle.std.specs.Bool.{IsFalse}
use Rattle.std.specs.List.{flat_map, list_all, AllByRecursion}
use Rattle.verilog_lexicon.proofs.list_laws.Tests.{and_left, and_right}
use Rattle.verilog_lexicon.proofs.list_laws.Lists.{all_append, all_front, all_back, all_from_list_all, all_mapped}
use Rattle.verilog_lexicon.specs.declared.word.Word.{Word}
use Rattle.verilog_lexicon.specs.declared.word.Spanned.{Spanned}
use Rattle.verilog_lexicon.specs.Pieces.{words_of}
use Rattle.verilog_lexicon.specs.Words.{plain}
use Rattle.verilog_lexicon.specs.declared.word.Word.TheVariants as word
use Rattle.verilog_lexicon.specs.declared.reserved.Reserved.TheVariants as key
use Rattle.verilog_lexicon.specs.declared.symbol.Symbol.TheVariants.{LeftParenthesis, RightParenthesis, Comma, Semicolon, Dot, Equals}
use Rattle.verilog_tree.specs.declared.tree.Range.{Range}
use Rattle.verilog_tree.specs.declared.tree.GateKind.{GateKind}
use Rattle.verilog_tree.specs.declared.tree.Bit.{Bit}
use Rattle.verilog_tree.specs.declared.tree.Operand.{Operand}
use Rattle.verilog_tree.specs.declared.tree.Operand.TheVariants as operand
use Rattle.verilog_tree.specs.declared.tree.Link.{Link}
use Rattle.verilog_tree.specs.declared.tree.Port.{Port}
use Rattle.verilog_tree.specs.declared.tree.Module.{Module}
use Rattle.verilog_tree.specs.Sources.{DeclarationHead, PortSource, Header, absent, empty, ansi, names, AssignSource, GateSource, InstanceSource, ItemSource, directions, wires, assigns, gates, instances, Source}
use Rattle.verilog_tree.specs.WrittenWords.{key_of_gate, each_after_comma, optional_words, name_words, range_words, index_words, bit_words, operand_words, wire_words, head_words, port_words, header_words, assign_words, gate_words, link_words, listed_words, instance_words, item_words, source_words}
use Rattle.verilog_tree.specs.Trees.{port_of, ports_after, declared_by, declarations, has_name, declared_port, header_ports, takes_inputs, gate_inputs, item_fits, IsSource, is_port_net, wire_of, item_wires, gate_of, instance_of, assign_of, item_items, ports_of, tree_of}
use Rattle.verilog_tree.specs.IsTree.{IsTreeName, IsTreeNumber, IsTreeRange, IsTreeBit, IsTreeOperand, IsTreePort, IsTreeWire, IsTreeLink, IsTreeItem, IsTree}
use Rattle.verilog_tree.specs.Texts.{SpellsText}
use Rattle.verilog_tree.proofs.SpelledWords.{IsSpelled, AreSpelled, all_more, words_are_spelled}

-- Lists.

all_flat_map : {A B : Type 0} (P : B → Type 0) (f : A → List B) (xs : List A) → AllByRecursion (λ x. AllByRecursion P (f x)) xs → AllByRecursion P (flat_map f xs)
all_flat_map P f [] all = tt
all_flat_map P f (x ∷ xs) all = all_append P (f x) (flat_map f xs) all.0 (all_flat_map P f xs all.1)

all_filter : {A : Type 0} (P : A → Type 0) (p : A → Bool) (xs : List A) → AllByRecursion P xs → AllByRecursion P (filter p xs)
all_filter P p [] all = tt
all_filter P p (x ∷ xs) all = elim (p x) as (λ b. AllByRecursion P (cond b (x ∷ filter p xs) (filter p xs))) [ true ↦ (all.0, all_filter P p xs all.1) | false ↦ all_filter P p xs all.1 ]

filtered_at : {A : Type 0} (q : A → Bool) (x : A) (xs : List A) (b : Bool) → q x ≡ b → AllByRecursion (λ y. IsFalse (q y)) xs → AllByRecursion (λ y. IsFalse (q y)) (cond (not b) (x ∷ xs) xs)
filtered_at q x xs true is all = all
filtered_at q x xs false is all = (is, all)

all_filtered : {A : Type 0} (q : A → Bool) (xs : List A) → AllByRecursion (λ x. IsFalse (q x)) (filter (λ x. not (q x)) xs)
all_filtered q [] = tt
all_filtered q (x ∷ xs) = filtered_at q x (filter (λ y. not (q y)) xs) (q x) refl (all_filtered q xs)

found_or : {A : Type 0} (P : A → Type 0) (p : A → Bool) (xs : List A) (d : A) → AllByRecursion P xs → P d → P (unwrap_or (find p xs) d)
found_or P p [] d all is = is
found_or P p (x ∷ xs) d all is = elim (p x) as (λ b. P (unwrap_or (cond b (Some x) (find p xs)) d)) [ true ↦ all.0 | false ↦ found_or P p xs d all.1 is ]

-- what the words of each part say, where each stands after a comma
each_is : {A : Type 0} (P : A → Type 0) (words : A → List Word) → ((x : A) → AreSpelled (words x) → P x) → (xs : List A) → AreSpelled (each_after_comma words xs) → AllByRecursion P xs
each_is P words one [] spelled = tt
each_is P words one (x ∷ xs) spelled = (
  one x (all_front IsSpelled (words x) (each_after_comma words xs) spelled.1),
  each_is P words one xs (all_back IsSpelled (words x) (each_after_comma words xs) spelled.1),
)

-- Ranges, bits and operands.

range_is : (range : Range) → AreSpelled (range_words range) → IsTreeRange range
range_is range spelled = record { left = spelled.1.0; right = spelled.1.1.1.0 }

ranged_is : (range : Option Range) → AreSpelled (optional_words range_words range) → IfSome range IsTreeRange
ranged_is None spelled = tt
ranged_is (Some range) spelled = range_is range spelled

index_is : (index : Option ℕ) → AreSpelled (optional_words index_words index) → IfSome index IsTreeNumber
index_is None spelled = tt
index_is (Some index) spelled = spelled.1.0

bit_is : (bit : Bit) → AreSpelled (bit_words bit) → IsTreeBit bit
bit_is bit spelled = record { net = spelled.0; index = index_is bit.index spelled.1 }

operand_is : (o : Operand) → AreSpelled (operand_words o) → IsTreeOperand o
operand_is (operand.Bit bit) spelled = bit_is bit spelled
operand_is (operand.Const value) spelled = tt

name_is : (name : List ℕ) → AreSpelled (name_words name) → IsTreeName name
name_is name spelled = spelled.0

optional_name_is : (name : Option (List ℕ)) → AreSpelled (optional_words name_words name) → IfSome name IsTreeName
optional_name_is None spelled = tt
optional_name_is (Some name) spelled = spelled.0

-- Ports.

abbrev IsHead : DeclarationHead → Type 0
IsHead head = IfSome head.range IsTreeRange

head_is : (head : DeclarationHead) → AreSpelled (head_words head) → IsHead head
head_is head spelled = ranged_is head.range (all_back IsSpelled (wire_words head.wire) (optional_words range_words head.range) spelled.1)

port_is : (head : DeclarationHead) → IsHead head → (name : List ℕ) → IsTreeName name → IsTreePort (port_of head name)
port_is head range name is = record { name = is; range = range }

record IsPortSource (p : PortSource) : Type 0 where
  head : IfSome p.head IsHead
  name : IsTreeName p.name

optional_head_is : (head : Option DeclarationHead) → AreSpelled (optional_words head_words head) → IfSome head IsHead
optional_head_is None spelled = tt
optional_head_is (Some head) spelled = head_is head spelled

port_source_is : (p : PortSource) → AreSpelled (port_words p) → IsPortSource p
port_source_is p spelled = record {
  head = optional_head_is p.head (all_front IsSpelled (optional_words head_words p.head) (name_words p.name) spelled);
  name = name_is p.name (all_back IsSpelled (optional_words head_words p.head) (name_words p.name) spelled);
}

head_or : (o : Option DeclarationHead) (head : DeclarationHead) → IfSome o IsHead → IsHead head → IsHead (unwrap_or o head)
head_or None head is before = before
head_or (Some h) head is before = is

ports_after_are : (head : DeclarationHead) → IsHead head → (ps : List PortSource) → AllByRecursion IsPortSource ps → AllByRecursion IsTreePort (ports_after head ps)
ports_after_are head is [] all = tt
ports_after_are head is (p ∷ ps) all =
    let next : IsHead (unwrap_or p.head head) = head_or p.head head all.0.head is in
    (port_is (unwrap_or p.head head) next p.name all.0.name, ports_after_are (unwrap_or p.head head) next ps all.1)

declared_port_is : (declared : List Port) → AllByRecursion IsTreePort declared → (name : List ℕ) → IsTreeName name → IsTreePort (declared_port declared name)
declared_port_is declared all name is = found_or IsTreePort (has_name name) declared _ all (record { name = is; range = tt })

header_ports_are : (header : Header) (declared : List Port) → AreSpelled (header_words header) → AllByRecursion IsTreePort declared → AllByRecursion IsTreePort (header_ports header declared)
header_ports_are absent declared spelled all = tt
header_ports_are empty declared spelled all = tt
header_ports_are (ansi head first more) declared spelled all =
    let opened : List Word = word.Symbol LeftParenthesis ∷ head_words head in
    let ports = all_front IsSpelled ((opened ++ name_words first) ++ each_after_comma port_words more) (word.Symbol RightParenthesis ∷ []) spelled in
    let front = all_front IsSpelled (opened ++ name_words first) (each_after_comma port_words more) ports in
    let is : IsHead head = head_is head (all_front IsSpelled opened (name_words first) front).1 in (
      port_is head is first (name_is first (all_back IsSpelled opened (name_words first) front)),
      ports_after_are head is more (each_is IsPortSource port_words port_source_is more (all_back IsSpelled (opened ++ name_words first) (each_after_comma port_words more) ports)),
    )
header_ports_are (names first more) declared spelled all =
    let listed = all_front IsSpelled (word.Symbol LeftParenthesis ∷ word.Name first ∷ each_after_comma name_words more) (word.Symbol RightParenthesis ∷ []) spelled in
    all_mapped IsTreePort (declared_port declared) (first ∷ more)
    (all_more IsTreeName (λ name. IsTreePort (declared_port declared name)) (declared_port_is declared all) (first ∷ more) (listed.1.0, each_is IsTreeName name_words name_is more listed.1.1))

-- Items.

assign_is : (a : AssignSource) → AreSpelled (assign_words a) → IsTreeItem (assign_of a)
assign_is a spelled = record {
  written = bit_is a.output (all_front IsSpelled (bit_words a.output) (word.Symbol Equals ∷ operand_words a.input) spelled);
  read = operand_is a.input (all_back IsSpelled (bit_words a.output) (word.Symbol Equals ∷ operand_words a.input) spelled).1;
}

gate_is : (kind : GateKind) (g : GateSource) → AreSpelled (gate_words g) → takes_inputs kind (length (gate_inputs g)) ≡ true → IsTreeItem (gate_of kind g)
gate_is kind g spelled takes =
    let opened : List Word = optional_words name_words g.name in
    let output : List Word = word.Symbol LeftParenthesis ∷ bit_words g.output in
    let first : List Word = word.Symbol Comma ∷ operand_words g.first in
    let more : List Word = each_after_comma operand_words g.more in
    let to_more = all_front IsSpelled (((opened ++ output) ++ first) ++ more) (word.Symbol RightParenthesis ∷ []) spelled in
    let to_first = all_front IsSpelled ((opened ++ output) ++ first) more to_more in
    let to_output = all_front IsSpelled (opened ++ output) first to_first in
    record {
      name = optional_name_is g.name (all_front IsSpelled opened output to_output);
      output = bit_is g.output (all_back IsSpelled opened output to_output).1;
      inputs = (operand_is g.first (all_back IsSpelled (opened ++ output) first to_first).1, each_is IsTreeOperand operand_words operand_is g.more (all_back IsSpelled ((opened ++ output) ++ first) more to_more));
      reads = omega arith;
      takes = takes;
    }

gates_are : (kind : GateKind) (gs : List GateSource) → AllByRecursion (λ g. AreSpelled (gate_words g)) gs → AllByRecursion (λ g. takes_inputs kind (length (gate_inputs g)) ≡ true) gs → AllByRecursion IsTreeItem (map (gate_of kind) gs)
gates_are kind [] spelled takes = tt
gates_are kind (g ∷ gs) spelled takes = (gate_is kind g spelled.0 takes.0, gates_are kind gs spelled.1 takes.1)

connected_is : (o : Option Operand) → AreSpelled (optional_words operand_words o) → IfSome o IsTreeOperand
connected_is None spelled = tt
connected_is (Some o) spelled = operand_is o spelled

link_is : (link : Link) → AreSpelled (link_words link) → IsTreeLink link
link_is link spelled =
    let opened = all_front IsSpelled (word.Symbol Dot ∷ word.Name link.port ∷ word.Symbol LeftParenthesis ∷ optional_words operand_words link.operand) (word.Symbol RightParenthesis ∷ []) spelled in
    record { port = opened.1.0; operand = connected_is link.operand opened.1.1.1 }

links_are : (links : List Link) → AreSpelled (listed_words link_words links) → AllByRecursion IsTreeLink links
links_are [] spelled = tt
links_are (link ∷ links) spelled = (
  link_is link (all_front IsSpelled (link_words link) (each_after_comma link_words links) spelled),
  each_is IsTreeLink link_words link_is links (all_back IsSpelled (link_words link) (each_after_comma link_words links) spelled),
)

instance_is : (cell : List ℕ) → IsTreeName cell → (i : InstanceSource) → AreSpelled (instance_words i) → IsTreeItem (instance_of cell i)
instance_is cell is i spelled =
    let opened = all_front IsSpelled (word.Name i.name ∷ word.Symbol LeftParenthesis ∷ listed_words link_words i.links) (word.Symbol RightParenthesis ∷ []) spelled in
    record { cell = is; name = opened.0; links = links_are i.links opened.1.1 }

-- what an item of the written module gives to the tree
record Gives (i : ItemSource) : Type 0 where
  ports : AllByRecursion IsTreePort (declared_by i)
  nets : AllByRecursion IsTreeWire (item_wires i)
  items : AllByRecursion IsTreeItem (item_items i)

-- the parts of a list, of which the first stands after these words
listed_are : {A : Type 0} (P : A → Type 0) (words : A → List Word) → ((x : A) → AreSpelled (words x) → P x) → (before : List Word) (first : A) (more : List A) (after : List Word) → AreSpelled ((before ++ words first) ++ each_after_comma words more ++ after) → AllByRecursion P (first ∷ more)
listed_are P words one before first more after spelled =
    let listed = all_front IsSpelled ((before ++ words first) ++ each_after_comma words more) after spelled in (
      one first (all_back IsSpelled before (words first) (all_front IsSpelled (before ++ words first) (each_after_comma words more) listed)),
      each_is P words one more (all_back IsSpelled (before ++ words first) (each_after_comma words more) listed),
    )

names_are : (before : List Word) (first : List ℕ) (more : List (List ℕ)) → AreSpelled (before ++ (word.Name first ∷ each_after_comma name_words more) ++ word.Symbol Semicolon ∷ []) → AllByRecursion IsTreeName (first ∷ more)
names_are before first more spelled =
    let listed = all_back IsSpelled before (word.Name first ∷ each_after_comma name_words more) (all_front IsSpelled (before ++ (word.Name first ∷ each_after_comma name_words more)) (word.Symbol Semicolon ∷ []) spelled) in
    (listed.0, each_is IsTreeName name_words name_is more listed.1)

before_names : (before : List Word) (first : List ℕ) (more : List (List ℕ)) → AreSpelled (before ++ (word.Name first ∷ each_after_comma name_words more) ++ word.Symbol Semicolon ∷ []) → AreSpelled before
before_names before first more spelled =
    all_front IsSpelled before (word.Name first ∷ each_after_comma name_words more) (all_front IsSpelled (before ++ (word.Name first ∷ each_after_comma name_words more)) (word.Symbol Semicolon ∷ []) spelled)

item_gives : (i : ItemSource) → AreSpelled (item_words i) → item_fits i ≡ true → Gives i
item_gives (directions head first more) spelled fits = record {
  ports = all_mapped IsTreePort (port_of head) (first ∷ more) (all_more IsTreeName (λ name. IsTreePort (port_of head name)) (port_is head (head_is head (before_names (head_words head) first more spelled))) (first ∷ more) (names_are (head_words head) first more spelled));
  nets = tt;
  items = tt;
}
item_gives (wires range first more) spelled fits =
    let before : List Word = word.Reserved key.Wire ∷ optional_words range_words range in
    let is : IfSome range IsTreeRange = ranged_is range (before_names before first more spelled).1 in
    record {
      ports = tt;
      nets = all_mapped IsTreeWire (wire_of range) (first ∷ more) (all_more IsTreeName (λ name. IsTreeWire (wire_of range name)) (λ name named. record { name = named; range = is }) (first ∷ more) (names_are before first more spelled));
      items = tt;
    }
item_gives (assigns first more) spelled fits = record {
  ports = tt;
  nets = tt;
  items = all_mapped IsTreeItem assign_of (first ∷ more) (listed_are (λ a. IsTreeItem (assign_of a)) assign_words assign_is (word.Reserved key.Assign ∷ []) first more (word.Symbol Semicolon ∷ []) spelled);
}
item_gives (gates kind first more) spelled fits = record {
  ports = tt;
  nets = tt;
  items = gates_are kind (first ∷ more)
      (listed_are (λ g. AreSpelled (gate_words g)) gate_words (λ g is. is) (word.Reserved (key_of_gate kind) ∷ []) first more (word.Symbol Semicolon ∷ []) spelled)
      (all_from_list_all (λ g. takes_inputs kind (length (gate_inputs g))) (first ∷ more) fits);
}
item_gives (instances cell first more) spelled fits =
    let named : IsTreeName cell = (all_front IsSpelled ((word.Name cell ∷ []) ++ instance_words first) (each_after_comma instance_words more) (all_front IsSpelled (((word.Name cell ∷ []) ++ instance_words first) ++ each_after_comma instance_words more) (word.Symbol Semicolon ∷ []) spelled)).0 in
    record {
      ports = tt;
      nets = tt;
      items = all_mapped IsTreeItem (instance_of cell) (first ∷ more) (listed_are (λ i. IsTreeItem (instance_of cell i)) instance_words (instance_is cell named) (word.Name cell ∷ []) first more (word.Symbol Semicolon ∷ []) spelled);
    }

items_give : (is : List ItemSource) → AreSpelled (flat_map item_words is) → list_all item_fits is ≡ true → AllByRecursion Gives is
items_give [] spelled fits = tt
items_give (i ∷ is) spelled fits = (
  item_gives i (all_front IsSpelled (item_words i) (flat_map item_words is) spelled) (and_left (item_fits i) (list_all item_fits is) fits),
  items_give is (all_back IsSpelled (item_words i) (flat_map item_words is) spelled) (and_right (item_fits i) (list_all item_fits is) fits),
)

-- The tree.

written_tree_is : (s : Source) → IsSource s → AreSpelled (source_words s) → IsTree (tree_of s)
written_tree_is s is spelled =
    let opened : List Word = word.Reserved key.Module ∷ word.Name s.name ∷ header_words s.header in
    let body : List Word = word.Symbol Semicolon ∷ flat_map item_words s.items in
    let to_body = all_front IsSpelled (opened ++ body) (word.Reserved key.Endmodule ∷ []) spelled in
    let front = all_front IsSpelled opened body to_body in
    let gives = items_give s.items (all_back IsSpelled opened body to_body).1 is.fits in
    let declared = all_flat_map IsTreePort declared_by s.items (all_more Gives (λ i. AllByRecursion IsTreePort (declared_by i)) (λ i g. g.ports) s.items gives) in
    record {
      name = front.1.0;
      ports = header_ports_are s.header (declarations s) front.1.1 declared;
      wires = all_filter IsTreeWire (λ wire. not (is_port_net (ports_of s) wire)) (flat_map item_wires s.items) (all_flat_map IsTreeWire item_wires s.items (all_more Gives (λ i. AllByRecursion IsTreeWire (item_wires i)) (λ i g. g.nets) s.items gives));
      items = all_flat_map IsTreeItem item_items s.items (all_more Gives (λ i. AllByRecursion IsTreeItem (item_items i)) (λ i g. g.items) s.items gives);
      own_nets = all_filtered (is_port_net (ports_of s)) (flat_map item_wires s.items);
    }

-- The tree that a text spells keeps the conditions.
pub spelled_is_tree : (bytes : List ℕ) (tree : Module) → SpellsText bytes tree → IsTree tree
spelled_is_tree bytes tree spells =
    let said = spells.spells in
    subst (λ (t : Module). IsTree t) (sym said.tree_is)
    (written_tree_is said.source said.keeps_rules (subst (λ (ws : List Word). AreSpelled ws) said.words_are (words_are_spelled bytes spells.words spells.cut)))

-- So do the trees of several modules.

written_trees_are : (ss : List Source) → AllByRecursion IsSource ss → AreSpelled (flat_map source_words ss) → AllByRecursion IsTree (map tree_of ss)
written_trees_are [] are spelled = tt
written_trees_are (s ∷ ss) are spelled = (
  written_tree_is s are.0 (all_front IsSpelled (source_words s) (flat_map source_words ss) spelled),
  written_trees_are ss are.1 (all_back IsSpelled (source_words s) (flat_map source_words ss) spelled),
)

pub spelled_are_trees : (bytes : List ℕ) (words : List Spanned) (sources : List Source) → words_of bytes words → AllByRecursion IsSource sources
    → plain words ≡ flat_map source_words sources → AllByRecursion IsTree (map tree_of sources)
spelled_are_trees bytes words sources cut are is =
    written_trees_are sources are (subst (λ (ws : List Word). AreSpelled ws) is (words_are_spelled bytes words cut))
