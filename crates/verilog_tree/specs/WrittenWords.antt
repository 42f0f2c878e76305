-- The words of a written module.
-- IEEE Std 1364-2001: modules and ports, data types, gate-level modelling, continuous assignments.
use Rattle.std.specs.Prelude.{ℕ, List, [], ◌∷◌, ◌++◌, Option, Some, None, Bool, if◌then◌else◌}
use Rattle.std.specs.List.{flat_map}
use Rattle.verilog_lexicon.specs.declared.word.Word.{Word}
use Rattle.verilog_lexicon.specs.declared.word.Word.TheVariants as word
use Rattle.verilog_lexicon.specs.declared.reserved.Reserved.{Reserved}
use Rattle.verilog_lexicon.specs.declared.reserved.Reserved.TheVariants as key
use Rattle.verilog_lexicon.specs.declared.symbol.Symbol.{Symbol}
use Rattle.verilog_lexicon.specs.declared.symbol.Symbol.TheVariants.{LeftParenthesis, RightParenthesis, LeftBracket, RightBracket, Colon, Comma, Semicolon, Dot, Equals}
use Rattle.verilog_tree.specs.declared.tree.Dir.{Dir}
use Rattle.verilog_tree.specs.declared.tree.Dir.TheVariants as dir
use Rattle.verilog_tree.specs.declared.tree.Range.{Range}
use Rattle.verilog_tree.specs.declared.tree.GateKind.{GateKind}
use Rattle.verilog_tree.specs.declared.tree.GateKind.TheVariants as gate
use Rattle.verilog_tree.specs.declared.tree.Bit.{Bit}
use Rattle.verilog_tree.specs.declared.tree.Operand.{Operand}
use Rattle.verilog_tree.specs.declared.tree.Operand.TheVariants as operand
use Rattle.verilog_tree.specs.declared.tree.Link.{Link}
use Rattle.verilog_tree.specs.Sources.{DeclarationHead, PortSource, Header, absent, empty, ansi, names, AssignSource, GateSource, InstanceSource, ItemSource, directions, wires, assigns, gates, instances, Source}

abbrev pub key_of_dir : Dir → Reserved
key_of_dir dir.Input = key.Input
key_of_dir dir.Output = key.Output
key_of_dir dir.Inout = key.Inout

abbrev pub key_of_gate : GateKind → Reserved
key_of_gate gate.And = key.And
key_of_gate gate.Or = key.Or
key_of_gate gate.Nand = key.Nand
key_of_gate gate.Nor = key.Nor
key_of_gate gate.Xor = key.Xor
key_of_gate gate.Xnor = key.Xnor
key_of_gate gate.Buf = key.Buf
key_of_gate gate.Not = key.Not
key_of_gate gate.Bufif0 = key.Bufif0
key_of_gate gate.Bufif1 = key.Bufif1

-- each part with a comma before it
abbrev pub each_after_comma : {A : Type 0} → (A → List Word) → List A → List Word
each_after_comma words [] = []
each_after_comma words (x ∷ xs) = word.Symbol Comma ∷ words x ++ each_after_comma words xs

-- the words of what may be left out
abbrev pub optional_words : {A : Type 0} → (A → List Word) → Option A → List Word
optional_words words None = []
optional_words words (Some x) = words x

abbrev pub name_words : List ℕ → List Word
name_words name = word.Name name ∷ []

abbrev pub range_words : Range → List Word
range_words r = word.Symbol LeftBracket ∷ word.Number r.left ∷ word.Symbol Colon ∷ word.Number r.right ∷ word.Symbol RightBracket ∷ []

abbrev pub index_words : ℕ → List Word
index_words index = word.Symbol LeftBracket ∷ word.Number index ∷ word.Symbol RightBracket ∷ []

abbrev pub bit_words : Bit → List Word
bit_words b = word.Name b.net ∷ optional_words index_words b.index

abbrev pub operand_words : Operand → List Word
operand_words (operand.Bit b) = bit_words b
operand_words (operand.Const value) = word.Const value ∷ []

abbrev pub wire_words : Bool → List Word
wire_words wire = if wire then word.Reserved key.Wire ∷ [] else []

abbrev pub head_words : DeclarationHead → List Word
head_words h = word.Reserved (key_of_dir h.dir) ∷ wire_words h.wire ++ optional_words range_words h.range

abbrev pub port_words : PortSource → List Word
port_words p = optional_words head_words p.head ++ name_words p.name

abbrev pub header_words : Header → List Word
header_words absent = []
header_words empty = word.Symbol LeftParenthesis ∷ word.Symbol RightParenthesis ∷ []
header_words (ansi head first more) = word.Symbol LeftParenthesis ∷ head_words head ++ name_words first ++ each_after_comma port_words more ++ word.Symbol RightParenthesis ∷ []
header_words (names first more) = word.Symbol LeftParenthesis ∷ word.Name first ∷ each_after_comma name_words more ++ word.Symbol RightParenthesis ∷ []

abbrev pub assign_words : AssignSource → List Word
assign_words a = bit_words a.output ++ word.Symbol Equals ∷ operand_words a.input

abbrev pub gate_words : GateSource → List Word
gate_words g = optional_words name_words g.name ++ word.Symbol LeftParenthesis ∷ bit_words g.output ++ word.Symbol Comma ∷ operand_words g.first ++ each_after_comma operand_words g.more ++ word.Symbol RightParenthesis ∷ []

abbrev pub link_words : Link → List Word
link_words l = word.Symbol Dot ∷ word.Name l.port ∷ word.Symbol LeftParenthesis ∷ optional_words operand_words l.operand ++ word.Symbol RightParenthesis ∷ []

-- parts with commas between them, or none
abbrev pub listed_words : {A : Type 0} → (A → List Word) → List A → List Word
listed_words words [] = []
listed_words words (x ∷ xs) = words x ++ each_after_comma words xs

abbrev pub instance_words : InstanceSource → List Word
instance_words i = word.Name i.name ∷ word.Symbol LeftParenthesis ∷ listed_words link_words i.links ++ word.Symbol RightParenthesis ∷ []

abbrev pub item_words : ItemSource → List Word
item_words (directions head first more) = head_words head ++ word.Name first ∷ each_after_comma name_words more ++ word.Symbol Semicolon ∷ []
item_words (wires range first more) = word.Reserved key.Wire ∷ optional_words range_words range ++ word.Name first ∷ each_after_comma name_words more ++ word.Symbol Semicolon ∷ []
item_words (assigns first more) = word.Reserved key.Assign ∷ assign_words first ++ each_after_comma assign_words more ++ word.Symbol Semicolon ∷ []
item_words (gates kind first more) = word.Reserved (key_of_gate kind) ∷ gate_words first ++ each_after_comma gate_words more ++ word.Symbol Semicolon ∷ []
item_words (instances cell first more) = word.Name cell ∷ instance_words first ++ each_after_comma instance_words more ++ word.Symbol Semicolon ∷ []

abbrev pub source_words : Source → List Word
source_words s = word.Reserved key.Module ∷ word.Name s.name ∷ header_words s.header ++ word.Symbol Semicolon ∷ flat_map item_words s.items ++ word.Reserved key.Endmodule ∷ []
