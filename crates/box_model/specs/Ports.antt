-- The boxes of a library, the instances that are cut from a module, and their hidden ports. Own.
use Rattle.std.specs.Prelude.{ℕ, ◌==◌, Bool, not, List, [], ◌∷◌, ◌++◌, map, filter, find, Option, Some, None, option_and_then, if◌then◌else◌, codes}
use Rattle.std.specs.List.{filter_map, list_any}
use Rattle.std.specs.Option.{option_map, option_or}
use Rattle.std.specs.Str.{bytes_eq}
use Rattle.verilog_tree.specs.declared.tree.Range.{Range}
use Rattle.verilog_tree.specs.declared.tree.Bit.{Bit}
use Rattle.verilog_tree.specs.declared.tree.Operand.{Operand}
use Rattle.verilog_tree.specs.declared.tree.Link.{Link}
use Rattle.verilog_tree.specs.declared.tree.Port.{Port}
use Rattle.verilog_tree.specs.declared.tree.Dir.TheVariants as dir
use Rattle.verilog_tree.specs.declared.tree.Dir.{Dir}
use Rattle.verilog_tree.specs.declared.tree.Instance.{Instance}
use Rattle.cell_library.specs.declared.listed.ListedCell.{ListedCell}
use Rattle.cell_library.specs.declared.Kind.{Kind}
use Rattle.cell_library.specs.Library.{kind_named, output_port}
use Rattle.cell_library.specs.Gates.{is_flop}
use Rattle.link_model.specs.Nets.{width, counted_from, index_at}
use Rattle.link_model.specs.Lists.{has_name}
use Rattle.box_model.specs.declared.boxes.BoxCell.{BoxCell}
use Rattle.box_model.specs.declared.boxes.BoxLibrary.{BoxLibrary}
use Rattle.box_model.specs.declared.boxes.BoxPort.{BoxPort}
use Rattle.box_model.specs.declared.boxes.BoxDir.{BoxDir}
use Rattle.box_model.specs.declared.boxes.BoxDir.TheVariants.{Takes, Gives}

-- a library without boxes and cuts
abbrev pub of_cells : List ListedCell → BoxLibrary
of_cells cells = record { cells = cells; boxes = []; cuts = [] }

abbrev pub box_named : BoxLibrary → List ℕ → Option BoxCell
box_named B name = find (λ (b : BoxCell). bytes_eq b.name name) B.boxes

-- Ports.

abbrev pub is_narrow : BoxPort → Bool
is_narrow p = width p.range == 1

-- those of one bit stand first, so that what is parted stands last
abbrev pub narrow_first : List BoxPort → List BoxPort
narrow_first ports = filter is_narrow ports ++ filter (λ p. not (is_narrow p)) ports

-- the output of a flip-flop of this name
abbrev pub output_of_kind : List ListedCell → Kind → Option (List ℕ)
output_of_kind library kind = if is_flop library kind then output_port library kind else None

abbrev pub flop_output : BoxLibrary → List ℕ → Option (List ℕ)
flop_output B cell = option_and_then (output_of_kind B.cells) (kind_named B.cells cell)

abbrev pub given_scalar : List ℕ → List BoxPort
given_scalar name = record { name = name; dir = Gives; range = None } ∷ []

-- the ports that are cut at an instance; none at one that is left as it is
abbrev pub cut_ports : BoxLibrary → Instance → Option (List BoxPort)
cut_ports B i =
    option_or (option_map (λ (b : BoxCell). narrow_first b.ports) (box_named B i.cell))
    (if has_name B.cuts i.name then option_map given_scalar (flop_output B i.cell) else None)

-- Hidden ports.

-- the instance's name, a dot and the port's
abbrev pub hidden_name : List ℕ → List ℕ → List ℕ
hidden_name instance port = instance ++ codes "." ++ port

-- what a box gives the netlist takes
abbrev pub hidden_dir : BoxDir → Dir
hidden_dir Gives = dir.Input
hidden_dir Takes = dir.Output

abbrev pub hidden_port : Instance → BoxPort → Port
hidden_port i p = record { name = hidden_name i.name p.name; dir = hidden_dir p.dir; range = p.range }

-- the indexes of a range, from the left
abbrev pub indexes_of : Range → List ℕ
indexes_of r = filter_map (λ k. index_at (Some r) k) (counted_from 0 (width (Some r)))

-- the bits of a net, from the left
abbrev pub bits_of : List ℕ → Option Range → List Bit
bits_of name range = map (λ k. record { net = name; index = index_at range k }) (counted_from 0 (width range))

abbrev pub hidden_bits : Instance → BoxPort → List Bit
hidden_bits i p = bits_of (hidden_name i.name p.name) p.range

-- Links.

-- the first link of a port that isn't empty
abbrev pub linked_to : List Link → List ℕ → Option Operand
linked_to [] name = None
linked_to (l ∷ links) name = if bytes_eq l.port name then option_or l.operand (linked_to links name) else linked_to links name

abbrev pub is_port_of : List BoxPort → Link → Bool
is_port_of ports l = list_any (λ (p : BoxPort). bytes_eq p.name l.port) ports

-- the links that aren't cut
abbrev pub other_links : List BoxPort → List Link → List Link
other_links ports links = filter (λ l. not (is_port_of ports l)) links
