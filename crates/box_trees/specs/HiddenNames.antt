-- own: hidden names as they are gathered, and those with a bit as whose word a scalar port is named.
use Rattle.std.specs.Prelude.{◌≡◌, ℕ, ◌&&◌, Bool, false, List, [], ◌∷◌, ◌++◌, map, find, Option, Some, None, nat_eq}
use Rattle.std.specs.Fmt.{decimal}
use Rattle.std.specs.List.{list_any, flat_map}
use Rattle.std.specs.Option.{option_map_or}
use Rattle.std.specs.Str.{bytes_eq}
use Rattle.verilog_tree.specs.declared.tree.Range.{Range}
use Rattle.verilog_tree.specs.declared.tree.Operand.{Operand}
use Rattle.verilog_tree.specs.declared.tree.Port.{Port}
use Rattle.verilog_tree.specs.declared.tree.Instance.{Instance}
use Rattle.verilog_tree.specs.declared.tree.Item.{Item}
use Rattle.verilog_tree.specs.declared.tree.Item.TheVariants as item
use Rattle.verilog_tree.specs.declared.tree.Module.{Module}
use Rattle.link_model.specs.Nets.{is_within}
use Rattle.link_model.specs.Lists.{has_name}
use Rattle.box_model.specs.declared.boxes.BoxLibrary.{BoxLibrary}
use Rattle.box_model.specs.declared.boxes.BoxPort.{BoxPort}
use Rattle.box_model.specs.Ports.{cut_ports, hidden_name, indexes_of, linked_to}
use Rattle.box_model.specs.Opened.{is_joined}
use Rattle.box_model.specs.Faults.{Hidden, bit_word, is_bit_word}
use Rattle.box_trees.specs.declared.hidden_names.HiddenName.{HiddenName}

-- Names as they are gathered.

-- a port that isn't linked has no bits
abbrev pub name_at : Module → Instance → BoxPort → HiddenName
name_at m i p = record {
  name = hidden_name i.name p.name;
  joined = option_map_or (is_joined m i p) (linked_to i.links p.name) false;
  vector = option_map_or (λ (o : Operand). p.range) (linked_to i.links p.name) None;
}

abbrev pub names_at : BoxLibrary → Module → Item → List HiddenName
names_at B m (item.Instance i) = option_map_or (map (name_at m i)) (cut_ports B i) []
names_at B m (item.Gate g) = []
names_at B m (item.Assign output input) = []

abbrev pub names_of : List HiddenName → List (List ℕ)
names_of hidden = map (λ (h : HiddenName). h.name) hidden

-- Words of bits.

-- a name, and digits in brackets
abbrev pub indexed : List ℕ → List ℕ → List ℕ
indexed name digits = name ++ 91 ∷ digits ++ 93 ∷ []

-- no opening bracket stands there
abbrev pub IsBracketless : List ℕ → Type 0
IsBracketless bytes = list_any (nat_eq 91) bytes ≡ false

-- the digits are those of an index of a range
abbrev pub holds_digits : Range → List ℕ → Bool
holds_digits r digits = list_any (λ index. is_within r index && bytes_eq digits (decimal index)) (indexes_of r)

abbrev pub digits_within : Option Range → List ℕ → Bool
digits_within None digits = false
digits_within (Some r) digits = holds_digits r digits

-- Clashes.

-- the word is that of a bit of a vector
abbrev pub is_word_of : List ℕ → List ℕ → Option Range → Bool
is_word_of word name None = false
is_word_of word name (Some r) = list_any (λ index. is_within r index && bytes_eq word (bit_word name index)) (indexes_of r)

-- it is that of a bit of the first of the hidden ports of this name
abbrev pub is_word_in : List HiddenName → List ℕ → List ℕ → Bool
is_word_in hidden word name = option_map_or (λ (h : HiddenName). is_word_of word name h.vector) (find (λ (h : HiddenName). bytes_eq name h.name) hidden) false

-- it is the name of the port, a scalar
abbrev pub clashes_with : List HiddenName → List ℕ → Port → Bool
clashes_with hidden name q = option_map_or (λ (h : HiddenName). is_bit_word name h.vector q) (find (λ (h : HiddenName). bytes_eq name h.name) hidden) false

-- it is that of some port
abbrev pub clashes_among : List HiddenName → List Port → List ℕ → Bool
clashes_among hidden ports name = list_any (clashes_with hidden name) ports

-- this is the name, if it is one
abbrev pub is_name : Option (List ℕ) → List ℕ → Bool
is_name None name = false
is_name (Some n) name = bytes_eq name n

-- Hidden names as box_model has them, where these names clash.
abbrev pub told : List (List ℕ) → HiddenName → Hidden
told clashing h = record { name = h.name; joined = h.joined; clashes = has_name clashing h.name }
