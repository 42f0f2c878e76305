-- The lines of the canonical text, cut into pieces with the words of the written module, and the round trip.
use Rattle.std.proofs.Common.{◌≡◌, ℕ, List, [], ◌∷◌, ◌++◌, ◌<◌, length, map, Option, Some, None, refl, sym, ap, ◌∙◌, append_assoc}
use Rattle.std.specs.Prelude.{IfSome}
use Rattle.std.specs.List.{flat_map, AllByRecursion}
use Rattle.std.proofs.lemmas.List.{append-nil}
use Rattle.std.proofs.lemmas.List.Concat.{flat_map-append}
use Rattle.std.proofs.lemmas.List.Folds.{flat_map-map}
use Rattle.verilog_lexicon.specs.declared.word.Word.{Word}
use Rattle.verilog_lexicon.specs.declared.word.Word.TheVariants as word
use Rattle.verilog_lexicon.specs.declared.reserved.Reserved.TheVariants as key
use Rattle.verilog_lexicon.specs.declared.symbol.Symbol.TheVariants.{LeftParenthesis, RightParenthesis, Comma, Semicolon, Equals}
use Rattle.verilog_tree.specs.declared.tree.Operand.{Operand}
use Rattle.verilog_tree.specs.declared.tree.Bit.{Bit}
use Rattle.verilog_tree.specs.declared.tree.Link.{Link}
use Rattle.verilog_tree.specs.declared.tree.Port.{Port}
use Rattle.verilog_tree.specs.declared.tree.Wire.{Wire}
use Rattle.verilog_tree.specs.declared.tree.Gate.{Gate}
use Rattle.verilog_tree.specs.declared.tree.Instance.{Instance}
use Rattle.verilog_tree.specs.declared.tree.Item.{Item}
use Rattle.verilog_tree.specs.declared.tree.Item.TheVariants as item
use Rattle.verilog_tree.specs.declared.tree.Module.{Module}
use Rattle.verilog_tree.specs.WrittenWords.{key_of_dir, key_of_gate, each_after_comma, optional_words, name_words, bit_words, operand_words, port_words, header_words, link_words, listed_words, item_words, source_words}
use Rattle.verilog_tree.specs.IsTree.{IsTreeName, IsTreeOperand, IsTreePort, IsTreeWire, IsTreeGate, IsTreeLink, IsTreeInstance, IsTreeAssign, IsTreeItem, IsTree}
use Rattle.verilog_tree.specs.Canonical.{operand_text, port_text, ports_text, wire_text, named_text, gate_text, connected_text, link_text, links_text, instance_text, assign_text, item_text, canonical}
use Rattle.verilog_tree.specs.Texts.{SpellsText}
use Rattle.verilog_texts.proofs.Cuts.{Cut, Anything, NoStar, Apart, joined, with_words, narrowed, spaced, nothing, each_cut, cut_whole}
use Rattle.verilog_texts.proofs.Atoms.{apart_star, name_cut, is_key_gate, is_key_dir, key_cut, module_key, endmodule_key, wire_key, assign_key}
use Rattle.verilog_texts.proofs.Parts.{left_parenthesis, right_parenthesis, dot, equals, space, indent, line_end, statement_end, list_end, ranged_cut, bit_cut, operand_cut, no_star_bit, no_star_operand, apart_each, each_after_cut}
use Rattle.verilog_texts.proofs.Written.{port_source, header_of, wire_source, first_of, others_of, first_and_others, item_source, item_sources, written, written_keeps_rules, tree_of-written}

-- Ports.

port_cut : (port : Port) → IsTreePort port → Cut Apart (port_text port) (port_words (port_source port))
port_cut port is =
    joined (joined (spaced (joined indent (key_cut (key_of_dir port.dir) (is_key_dir port.dir)) (λ rest may. tt)) space (λ rest may. refl)) (ranged_cut port.range is.range) (λ rest may. tt)) (name_cut port.name is.name) (λ rest may. tt)

each_after_comma-map : (ports : List Port) → each_after_comma (λ p. port_words (port_source p)) ports ≡ each_after_comma port_words (map port_source ports)
each_after_comma-map [] = refl
each_after_comma-map (port ∷ ports) = ap (λ (ws : List Word). word.Symbol Comma ∷ port_words (port_source port) ++ ws) (each_after_comma-map ports)

ports_cut : (ports : List Port) → AllByRecursion IsTreePort ports → Cut Anything (ports_text ports) (header_words (header_of ports) ++ word.Symbol Semicolon ∷ [])
ports_cut [] all = joined left_parenthesis list_end (λ rest may. refl)
ports_cut (port ∷ ports) all = with_words (header_words (header_of (port ∷ ports)) ++ word.Symbol Semicolon ∷ [])
    (joined (joined (joined (spaced left_parenthesis line_end (λ rest may. refl)) (port_cut port all.0) (λ rest may. tt))
    (each_after_cut 10 refl port_text (λ p. port_words (port_source p)) port_cut ports all.1)
    (apart_each 10 port_text ports))
    (joined line_end list_end (λ rest may. tt)) (λ rest may. refl))
    (let ws : List Word = word.Symbol LeftParenthesis ∷ port_words (port_source port) in
    ap (λ (x : List Word). (ws ++ x) ++ word.Symbol RightParenthesis ∷ word.Symbol Semicolon ∷ []) (each_after_comma-map ports)
    ∙ sym (append_assoc (ws ++ each_after_comma port_words (map port_source ports)) (word.Symbol RightParenthesis ∷ []) (word.Symbol Semicolon ∷ [])))

-- Wires.

wire_cut : (wire : Wire) → IsTreeWire wire → Cut Anything (wire_text wire) (item_words (wire_source wire))
wire_cut wire is =
    joined (joined (joined (spaced (joined indent wire_key (λ rest may. tt)) space (λ rest may. refl)) (ranged_cut wire.range is.range) (λ rest may. tt)) (name_cut wire.name is.name) (λ rest may. tt)) statement_end (λ rest may. refl)

-- Gates.

named_cut : (name : Option (List ℕ)) → IfSome name IsTreeName → Cut Anything (named_text name) (optional_words name_words name)
named_cut None is = nothing
named_cut (Some name) is = spaced (name_cut name is) space (λ rest may. refl)

-- the words of a gate, grouped as the text is and as the written module is
gate_shape : (r opt l bit first each p s : List Word) → ((((r ++ opt) ++ l) ++ bit) ++ (first ++ each)) ++ (p ++ s) ≡ ((r ++ ((((opt ++ (l ++ bit)) ++ first) ++ each) ++ p)) ++ []) ++ s
gate_shape r opt l bit first each p s = simp (append_assoc, append-nil)

inputs_words : (inputs : List Operand) → 0 < length inputs → each_after_comma operand_words inputs ≡ (word.Symbol Comma ∷ operand_words (first_of inputs)) ++ each_after_comma operand_words (others_of inputs)
inputs_words inputs reads = ap (λ (xs : List Operand). each_after_comma operand_words xs) (sym (first_and_others inputs reads))

gate_cut : (gate : Gate) → IsTreeGate gate → Cut Anything (gate_text gate) (item_words (item_source (item.Gate gate)))
gate_cut gate is = with_words (item_words (item_source (item.Gate gate)))
    (joined (joined (joined (joined (joined
    (spaced (joined indent (key_cut (key_of_gate gate.kind) (is_key_gate gate.kind)) (λ rest may. tt)) space (λ rest may. refl))
    (named_cut gate.name is.name) (λ rest may. tt))
    left_parenthesis (λ rest may. tt))
    (bit_cut gate.output is.output) (λ rest may. no_star_bit gate.output rest))
    (each_after_cut 32 refl operand_text operand_words operand_cut gate.inputs is.inputs) (apart_each 32 operand_text gate.inputs))
    list_end (λ rest may. refl))
    (ap (λ (ws : List Word). ((((word.Reserved (key_of_gate gate.kind) ∷ []) ++ optional_words name_words gate.name) ++ word.Symbol LeftParenthesis ∷ []) ++ bit_words gate.output) ++ ws ++ word.Symbol RightParenthesis ∷ word.Symbol Semicolon ∷ []) (inputs_words gate.inputs is.reads)
    ∙ gate_shape (word.Reserved (key_of_gate gate.kind) ∷ []) (optional_words name_words gate.name) (word.Symbol LeftParenthesis ∷ []) (bit_words gate.output) (word.Symbol Comma ∷ operand_words (first_of gate.inputs)) (each_after_comma operand_words (others_of gate.inputs)) (word.Symbol RightParenthesis ∷ []) (word.Symbol Semicolon ∷ []))

-- Instances.

connected_cut : (o : Option Operand) → IfSome o IsTreeOperand → Cut Apart (connected_text o) (optional_words operand_words o)
connected_cut None is = nothing
connected_cut (Some o) is = operand_cut o is

no_star_connected : (o : Option Operand) (rest : List ℕ) → Apart rest → NoStar (connected_text o ++ rest)
no_star_connected None rest may = apart_star rest may
no_star_connected (Some o) rest may = no_star_operand o rest

link_cut : (link : Link) → IsTreeLink link → Cut Apart (link_text link) (link_words link)
link_cut link is = narrowed
    (joined (joined (joined (joined dot (name_cut link.port is.port) (λ rest may. tt)) left_parenthesis (λ rest may. refl))
    (connected_cut link.operand is.operand) (no_star_connected link.operand))
    right_parenthesis (λ rest may. refl))
    (λ rest may. tt)

links_cut : (links : List Link) → AllByRecursion IsTreeLink links → Cut Apart (links_text links) (listed_words link_words links)
links_cut [] all = nothing
links_cut (link ∷ links) all = joined (link_cut link all.0) (each_after_cut 32 refl link_text link_words link_cut links all.1) (apart_each 32 link_text links)

no_star_links : (links : List Link) (rest : List ℕ) → Apart rest → NoStar (links_text links ++ rest)
no_star_links [] rest may = apart_star rest may
no_star_links (link ∷ links) rest may = refl

instance_shape : (c n l p s : Word) (links : List Word) → ((((c ∷ []) ++ n ∷ []) ++ l ∷ []) ++ links) ++ p ∷ s ∷ [] ≡ ((c ∷ ((n ∷ l ∷ links) ++ p ∷ [])) ++ []) ++ s ∷ []
instance_shape c n l p s links = simp append_assoc

instance_cut : (instance : Instance) → IsTreeInstance instance → Cut Anything (instance_text instance) (item_words (item_source (item.Instance instance)))
instance_cut instance is = with_words (item_words (item_source (item.Instance instance)))
    (joined (joined (joined (joined
    (spaced (joined indent (name_cut instance.cell is.cell) (λ rest may. tt)) space (λ rest may. refl))
    (name_cut instance.name is.name) (λ rest may. tt))
    (joined space left_parenthesis (λ rest may. tt)) (λ rest may. refl))
    (links_cut instance.links is.links) (no_star_links instance.links))
    list_end (λ rest may. refl))
    (instance_shape (word.Name instance.cell) (word.Name instance.name) (word.Symbol LeftParenthesis) (word.Symbol RightParenthesis) (word.Symbol Semicolon) (listed_words link_words instance.links))

-- Assignments.

assign_shape : (a e s : Word) (bit arg : List Word) → ((((a ∷ []) ++ bit) ++ e ∷ []) ++ arg) ++ s ∷ [] ≡ ((a ∷ (bit ++ (e ∷ arg))) ++ []) ++ s ∷ []
assign_shape a e s bit arg = simp (append_assoc, append-nil)

assign_cut : (output : Bit) (input : Operand) → IsTreeAssign output input → Cut Anything (assign_text output input) (item_words (item_source (item.Assign output input)))
assign_cut output input is = with_words (item_words (item_source (item.Assign output input)))
    (joined (joined (joined (joined
    (spaced (joined indent assign_key (λ rest may. tt)) space (λ rest may. refl))
    (bit_cut output is.written) (λ rest may. tt))
    (spaced (joined space equals (λ rest may. tt)) space (λ rest may. tt)) (λ rest may. refl))
    (operand_cut input is.read) (λ rest may. tt))
    statement_end (λ rest may. refl))
    (assign_shape (word.Reserved key.Assign) (word.Symbol Equals) (word.Symbol Semicolon) (bit_words output) (operand_words input))

item_cut : (i : Item) → IsTreeItem i → Cut Anything (item_text i) (item_words (item_source i))
item_cut (item.Gate gate) is = gate_cut gate is
item_cut (item.Instance instance) is = instance_cut instance is
item_cut (item.Assign output input) is = assign_cut output input is

-- The whole text.

module_shape : (m n s e : Word) (header wires items : List Word) → (((((m ∷ []) ++ n ∷ []) ++ (header ++ s ∷ [])) ++ wires) ++ items) ++ e ∷ [] ≡ ((m ∷ n ∷ header) ++ (s ∷ (wires ++ items))) ++ e ∷ []
module_shape m n s e header wires items = simp append_assoc

sources_words : (ws : List Wire) (is : List Item) → flat_map (λ w. item_words (wire_source w)) ws ++ flat_map (λ i. item_words (item_source i)) is ≡ flat_map item_words (item_sources ws is)
sources_words ws is = sym (
    flat_map-append item_words (map wire_source ws) (map item_source is)
    ∙ ap (λ (l : List Word). l ++ flat_map item_words (map item_source is)) (flat_map-map item_words wire_source ws)
    ∙ ap (λ (l : List Word). flat_map (λ w. item_words (wire_source w)) ws ++ l) (flat_map-map item_words item_source is))

canonical_cut : (tree : Module) → IsTree tree → Cut Anything (canonical tree) (source_words (written tree))
canonical_cut tree is = with_words (source_words (written tree))
    (joined (joined (joined (joined
    (spaced (joined (spaced module_key space (λ rest may. refl)) (name_cut tree.name is.name) (λ rest may. tt)) space (λ rest may. refl))
    (ports_cut tree.ports is.ports) (λ rest may. tt))
    (each_cut wire_text (λ w. item_words (wire_source w)) wire_cut tree.wires is.wires) (λ rest may. tt))
    (each_cut item_text (λ i. item_words (item_source i)) item_cut tree.items is.items) (λ rest may. tt))
    (spaced endmodule_key line_end (λ rest may. refl)) (λ rest may. tt))
    (module_shape (word.Reserved key.Module) (word.Name tree.name) (word.Symbol Semicolon) (word.Reserved key.Endmodule) (header_words (header_of tree.ports)) (flat_map (λ w. item_words (wire_source w)) tree.wires) (flat_map (λ i. item_words (item_source i)) tree.items)
    ∙ ap (λ (l : List Word). ((word.Reserved key.Module ∷ word.Name tree.name ∷ header_words (header_of tree.ports)) ++ (word.Symbol Semicolon ∷ l)) ++ word.Reserved key.Endmodule ∷ []) (sources_words tree.wires tree.items))

-- The canonical text of a tree spells it.
pub canonical_spells : (tree : Module) → IsTree tree → SpellsText (canonical tree) tree
canonical_spells tree is =
    let found = cut_whole (canonical_cut tree is) in
    record {
      words = found.0;
      cut = found.1;
      spells = record { source = written tree; keeps_rules = written_keeps_rules tree is; words_are = found.2; tree_is = tree_of-written tree is };
    }
