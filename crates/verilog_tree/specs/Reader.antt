-- How a module is read from its words, one word of view, as functions on lists.
-- They only serve the laws that tie the parser to the words of written modules.
use Rattle.std.specs.Prelude.{ℕ, suc, zero, List, [], ◌∷◌, length, filter, Option, Some, None, Bool, true, false, not, if◌then◌else◌, option_and_then}
use Rattle.std.specs.Option.{option_map_or}
use Rattle.std.specs.List.{list_any}
use Rattle.std.specs.Str.{bytes_eq}
use Rattle.verilog_lexicon.specs.declared.word.Word.{Word}
use Rattle.verilog_lexicon.specs.declared.symbol.Symbol.{Symbol}
use Rattle.verilog_lexicon.specs.declared.symbol.Symbol.TheVariants.{LeftParenthesis, RightParenthesis, LeftBracket, RightBracket, Colon, Comma, Semicolon, Dot, Equals}
use Rattle.verilog_lexicon.specs.Words.{name_in, reserved_in, number_in, const_in, symbol_in, front, rest, rest_if}
use Rattle.verilog_tree.specs.declared.tree.Dir.{Dir}
use Rattle.verilog_tree.specs.declared.tree.Range.{Range}
use Rattle.verilog_tree.specs.declared.tree.GateKind.{GateKind}
use Rattle.verilog_tree.specs.declared.tree.GateKind.TheVariants as gate
use Rattle.verilog_tree.specs.declared.tree.Bit.{Bit}
use Rattle.verilog_tree.specs.declared.tree.Operand.{Operand}
use Rattle.verilog_tree.specs.declared.tree.Operand.TheVariants as operand
use Rattle.verilog_tree.specs.declared.tree.Link.{Link}
use Rattle.verilog_tree.specs.Sources.{DeclarationHead, PortSource, Header, absent, empty, ansi, names, AssignSource, GateSource, InstanceSource, ItemSource, directions, wires, assigns, gates, instances, Source}
use Rattle.verilog_tree.specs.Trees.{header_names}
use Rattle.verilog_tree.specs.declared.reading.heads.ItemHead.{ItemHead}
use Rattle.verilog_tree.specs.declared.reading.heads.ItemHead.TheVariants as head
use Rattle.verilog_tree.specs.Heads.{dir_of, is_module, is_wire, item_head_of}

-- What was read, or nothing at a fault; and the words that are left, at a fault from where it stands.
abbrev pub Read : Type 0 → Type 0
Read X = Option X × List Word

abbrev pub done : {X : Type 0} → X → List Word → Read X
done x ws = (Some x, ws)

abbrev pub fault : {X : Type 0} → List Word → Read X
fault ws = (None, ws)

-- goes on after what was read, unless it was a fault
abbrev pub after : {X Y : Type 0} → Read X → (X → List Word → Read Y) → Read Y
after read next = option_map_or (λ x. next x read.1) read.0 (fault read.1)

-- one word, seen so
abbrev pub take_at : {X : Type 0} → (Word → Option X) → List Word → Read X
take_at view ws = (front view ws, rest_if (front view ws) ws)

-- one way where the first word is seen so, else another
abbrev pub either : {X Y : Type 0} → (Word → Option X) → List Word → (X → List Word → Read Y) → (List Word → Read Y) → Read Y
either view ws there other = option_map_or (λ x. there x (rest ws)) (front view ws) (other ws)

abbrev pub name_at : List Word → Read (List ℕ)
name_at ws = take_at name_in ws

abbrev pub number_at : List Word → Read ℕ
number_at ws = take_at number_in ws

abbrev pub symbol_at : Symbol → List Word → Read (Unit {0})
symbol_at wanted ws = take_at (symbol_in wanted) ws

-- what stands only behind this symbol
abbrev pub optional_at : {X : Type 0} → Symbol → (List Word → Read X) → List Word → Read (Option X)
optional_at mark one ws = either (symbol_in mark) ws (λ _ left. after (one left) (λ x more. done (Some x) more)) (λ left. done None left)

-- what follows commas, as long as the fuel lasts; the count of words is enough
abbrev pub more_of : {X : Type 0} → (List Word → Read X) → ℕ → List Word → Read (List X)
more_of one zero ws = done [] ws
more_of one (suc fuel) ws = either (symbol_in Comma) ws
    (λ _ left. after (one left) (λ x more. after (more_of one fuel more) (λ xs end. done (x ∷ xs) end)))
    (λ left. done [] left)

-- one, and those that follow commas
abbrev pub some_of : {X : Type 0} → (List Word → Read X) → List Word → Read (X × List X)
some_of one ws = after (one ws) (λ x left. after (more_of one (length left) left) (λ xs end. done (x, xs) end))

-- Parts.

-- a range, behind its bracket
unfoldable pub range_at : List Word → Read Range
range_at ws =
    after (number_at ws) (λ from a.
    after (symbol_at Colon a) (λ _ b.
    after (number_at b) (λ to c.
    after (symbol_at RightBracket c) (λ _ d. done (record { left = from; right = to }) d))))

-- an index, behind its bracket
unfoldable pub index_at : List Word → Read ℕ
index_at ws = after (number_at ws) (λ index a. after (symbol_at RightBracket a) (λ _ b. done index b))

unfoldable pub bit_at : List Word → Read Bit
bit_at ws = after (name_at ws) (λ net a. after (optional_at LeftBracket index_at a) (λ index b. done (record { net = net; index = index }) b))

unfoldable pub operand_at : List Word → Read Operand
operand_at ws = either const_in ws (λ value left. done (operand.Const value) left) (λ left. after (bit_at left) (λ bit a. done (operand.Bit bit) a))

-- what follows a direction: ["wire"] [range]
unfoldable pub head_at : Dir → List Word → Read DeclarationHead
head_at d ws = either (λ w. option_and_then is_wire (reserved_in w)) ws (λ _ left. ranged true left) (λ left. ranged false left)
  where
    ranged : Bool → List Word → Read DeclarationHead
    ranged wire left = after (optional_at LeftBracket range_at left) (λ range a. done (record { dir = d; wire = wire; range = range }) a)

-- a direction, as a word
abbrev pub dir_in : Word → Option Dir
dir_in w = option_and_then dir_of (reserved_in w)

-- The header.

unfoldable pub port_at : List Word → Read PortSource
port_at ws = after (optional_head ws) (λ h a. after (name_at a) (λ name b. done (record { head = h; name = name }) b))
  where
    optional_head : List Word → Read (Option DeclarationHead)
    optional_head left = either dir_in left (λ d a. after (head_at d a) (λ h b. done (Some h) b)) (λ a. done None a)

unfoldable pub ansi_at : Dir → List Word → Read Header
ansi_at d ws =
    after (head_at d ws) (λ h a.
    after (name_at a) (λ first b.
    after (more_of port_at (length b) b) (λ more c.
    after (symbol_at RightParenthesis c) (λ _ e. done (ansi h first more) e))))

unfoldable pub names_at : List Word → Read Header
names_at ws = after (some_of name_at ws) (λ list a. after (symbol_at RightParenthesis a) (λ _ b. done (names list.0 list.1) b))

unfoldable pub header_at : List Word → Read Header
header_at ws = either (symbol_in LeftParenthesis) ws inside (λ left. done absent left)
  where
    inside : Unit {0} → List Word → Read Header
    inside _ left = either (symbol_in RightParenthesis) left (λ _ a. done empty a) (λ a. either dir_in a ansi_at names_at)

-- Items.

-- the names that are still to be declared once this one is
abbrev pub close : List ℕ → List (List ℕ) → List (List ℕ)
close name open_names = filter (λ other. not (bytes_eq name other)) open_names

abbrev pub close_all : List (List ℕ) → List (List ℕ) → List (List ℕ)
close_all [] open_names = open_names
close_all (name ∷ more) open_names = close_all more (close name open_names)

abbrev pub is_none_left : List (List ℕ) → Bool
is_none_left [] = true
is_none_left (name ∷ more) = false

-- a name that is still to be declared
abbrev pub open_name_in : List (List ℕ) → Word → Option (List ℕ)
open_name_in open_names w = option_and_then (λ name. if list_any (bytes_eq name) open_names then Some name else None) (name_in w)

-- names that direction items declare; a comma goes on only where some name is left to declare
abbrev pub declared_at : ℕ → List (List ℕ) → List Word → Read (List ℕ × List (List ℕ))
declared_at zero open_names ws = fault ws
declared_at (suc fuel) open_names ws = after (take_at (open_name_in open_names) ws) (λ name a.
    if is_none_left (close name open_names) then done (name, []) a else
    either (symbol_in Comma) a
    (λ _ b. after (declared_at fuel (close name open_names) b) (λ more c. done (name, more.0 ∷ more.1) c))
    (λ b. done (name, []) b))

-- the end of an item
abbrev pub closed : {X Y : Type 0} → (X → Y) → Read X → Read Y
closed make read = after read (λ x a. after (symbol_at Semicolon a) (λ _ b. done (make x) b))

unfoldable pub directions_at : Dir → List (List ℕ) → List Word → Read ItemSource
directions_at d open_names ws = after (head_at d ws) (λ h a. closed (λ list. directions h list.0 list.1) (declared_at (length a) open_names a))

unfoldable pub wires_at : List Word → Read ItemSource
wires_at ws = after (optional_at LeftBracket range_at ws) (λ range a. closed (λ list. wires range list.0 list.1) (some_of name_at a))

unfoldable pub assign_at : List Word → Read AssignSource
assign_at ws = after (bit_at ws) (λ output a. after (symbol_at Equals a) (λ _ b. after (operand_at b) (λ input c. done (record { output = output; input = input }) c)))

unfoldable pub assigns_at : List Word → Read ItemSource
assigns_at ws = closed (λ list. assigns list.0 list.1) (some_of assign_at ws)

-- the inputs of a gate: one, two, or some
unfoldable pub inputs_at : GateKind → List Word → Read (Operand × List Operand)
inputs_at gate.Buf ws = after (operand_at ws) (λ x a. done (x, []) a)
inputs_at gate.Not ws = after (operand_at ws) (λ x a. done (x, []) a)
inputs_at gate.Bufif0 ws = after (operand_at ws) (λ x a. after (symbol_at Comma a) (λ _ b. after (operand_at b) (λ y c. done (x, y ∷ []) c)))
inputs_at gate.Bufif1 ws = after (operand_at ws) (λ x a. after (symbol_at Comma a) (λ _ b. after (operand_at b) (λ y c. done (x, y ∷ []) c)))
inputs_at gate.And ws = some_of operand_at ws
inputs_at gate.Or ws = some_of operand_at ws
inputs_at gate.Nand ws = some_of operand_at ws
inputs_at gate.Nor ws = some_of operand_at ws
inputs_at gate.Xor ws = some_of operand_at ws
inputs_at gate.Xnor ws = some_of operand_at ws

abbrev pub optional_name_at : List Word → Read (Option (List ℕ))
optional_name_at ws = either name_in ws (λ name left. done (Some name) left) (λ left. done None left)

unfoldable pub gate_at : GateKind → List Word → Read GateSource
gate_at kind ws =
    after (optional_name_at ws) (λ name a.
    after (symbol_at LeftParenthesis a) (λ _ b.
    after (bit_at b) (λ output c.
    after (symbol_at Comma c) (λ _ d.
    after (inputs_at kind d) (λ inputs e.
    after (symbol_at RightParenthesis e) (λ _ f. done (record { name = name; output = output; first = inputs.0; more = inputs.1 }) f))))))

unfoldable pub gates_at : GateKind → List Word → Read ItemSource
gates_at kind ws = closed (λ list. gates kind list.0 list.1) (some_of (gate_at kind) ws)

unfoldable pub link_at : List Word → Read Link
link_at ws =
    after (symbol_at Dot ws) (λ _ a.
    after (name_at a) (λ port b.
    after (symbol_at LeftParenthesis b) (λ _ c.
    either (symbol_in RightParenthesis) c
    (λ _ d. done (record { port = port; operand = None }) d)
    (λ d. after (operand_at d) (λ x e. after (symbol_at RightParenthesis e) (λ _ f. done (record { port = port; operand = Some x }) f))))))

-- links up to the closing parenthesis
unfoldable pub links_at : List Word → Read (List Link)
links_at ws = either (symbol_in RightParenthesis) ws (λ _ a. done [] a)
    (λ a. after (some_of link_at a) (λ list b. after (symbol_at RightParenthesis b) (λ _ c. done (list.0 ∷ list.1) c)))

unfoldable pub instance_at : List Word → Read InstanceSource
instance_at ws =
    after (name_at ws) (λ name a.
    after (symbol_at LeftParenthesis a) (λ _ b.
    after (links_at b) (λ links c. done (record { name = name; links = links }) c)))

unfoldable pub instances_at : List Word → Read ItemSource
instances_at ws = after (name_at ws) (λ cell a. closed (λ list. instances cell list.0 list.1) (some_of instance_at a))

-- an item that begins with this key word, behind it; the key words of no item are faults at the word itself
abbrev pub item_head_in : Word → Option ItemHead
item_head_in w = option_and_then item_head_of (reserved_in w)

unfoldable pub item_behind : ItemHead → List (List ℕ) → List Word → Read ItemSource
item_behind (head.Direction d) open_names ws = if is_none_left open_names then fault ws else directions_at d open_names (rest ws)
item_behind head.Wire open_names ws = wires_at (rest ws)
item_behind head.Assign open_names ws = assigns_at (rest ws)
item_behind (head.Gate kind) open_names ws = gates_at kind (rest ws)
item_behind head.End open_names ws = fault ws

unfoldable pub item_at : List (List ℕ) → List Word → Read ItemSource
item_at open_names ws = option_map_or (λ h. item_behind h open_names ws) (front item_head_in ws) (instances_at ws)

-- the names that are left to declare after an item
abbrev pub left_after : ItemSource → List (List ℕ) → List (List ℕ)
left_after (directions h first more) open_names = close_all (first ∷ more) open_names
left_after (wires range first more) open_names = open_names
left_after (assigns first more) open_names = open_names
left_after (gates kind first more) open_names = open_names
left_after (instances cell first more) open_names = open_names

abbrev pub is_end : Word → Option (Unit {0})
is_end w = option_and_then end_of (item_head_in w)
  where
    end_of : ItemHead → Option (Unit {0})
    end_of (head.Direction d) = None
    end_of head.Wire = None
    end_of head.Assign = None
    end_of (head.Gate kind) = None
    end_of head.End = Some tt

-- items up to `endmodule`, which stands only where no name is left to declare
abbrev pub items_from : ℕ → List (List ℕ) → List Word → Read (List ItemSource)
items_from zero open_names ws = fault ws
items_from (suc fuel) open_names ws = either is_end ws
    (λ _ left. if is_none_left open_names then done [] left else fault ws)
    (λ left. after (item_at open_names left) (λ item a. after (items_from fuel (left_after item open_names) a) (λ items b. done (item ∷ items) b)))

unfoldable pub items_at : List (List ℕ) → List Word → Read (List ItemSource)
items_at open_names ws = items_from (suc (length ws)) open_names ws

abbrev pub end_at : List Word → Read (Unit {0})
end_at [] = done tt []
end_at (w ∷ ws) = fault (w ∷ ws)

-- a module, whatever follows it
unfoldable pub module_at : List Word → Read Source
module_at ws =
    after (take_at (λ w. option_and_then is_module (reserved_in w)) ws) (λ _ a.
    after (name_at a) (λ name b.
    after (header_at b) (λ header c.
    after (symbol_at Semicolon c) (λ _ d.
    after (items_at (header_names header) d) (λ items e. done (record { name = name; header = header; items = items }) e)))))

-- a module and nothing else
unfoldable pub source_at : List Word → Read Source
source_at ws = after (module_at ws) (λ s a. after (end_at a) (λ _ b. done s b))

-- as it is where no word is left
abbrev pub to_end : {X : Type 0} → X → (List Word → Read X) → List Word → Read X
to_end none read [] = done none []
to_end none read (w ∷ ws) = read (w ∷ ws)

-- modules up to the end of the words, as long as the fuel lasts; the count of words is enough
abbrev pub more_modules : ℕ → List Word → Read (List Source)
more_modules zero ws = to_end [] (λ l. fault l) ws
more_modules (suc fuel) ws = to_end [] (λ l. after (module_at l) (λ s a. after (more_modules fuel a) (λ more b. done (s ∷ more) b))) ws

-- modules one after another, of which there is one at least
unfoldable pub modules_at : List Word → Read (Source × List Source)
modules_at ws = after (module_at ws) (λ s a. after (more_modules (length a) a) (λ more b. done (s, more) b))
