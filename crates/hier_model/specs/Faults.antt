-- When a hierarchy can't be made flat: a test at one place each, and the first along the text or in flat order.
-- IEEE Std 1364-2001: modules, module instances, hierarchical names; the limits and the order are own.
use Rattle.std.specs.Prelude.{ℕ, zero, suc, ◌+◌, nat_eq, nat_lt, Bool, true, false, not, ◌&&◌, ◌||◌, List, [], ◌∷◌, ◌++◌, length, map, find, sum_by, Option, Some, None, is_some, is_none, if◌then◌else◌}
use Rattle.std.specs.List.{flat_map, filter_map, list_any}
use Rattle.std.specs.Option.{option_map, option_map_or, option_eq}
use Rattle.std.specs.Str.{bytes_eq}
use Rattle.cell_library.specs.declared.listed.ListedCell.{ListedCell}
use Rattle.cell_library.specs.Library.{kind_named}
use Rattle.verilog_tree.specs.declared.tree.Dir.{Dir}
use Rattle.verilog_tree.specs.declared.tree.Dir.TheVariants as dir
use Rattle.verilog_tree.specs.declared.tree.Range.{Range}
use Rattle.verilog_tree.specs.declared.tree.Bit.{Bit}
use Rattle.verilog_tree.specs.declared.tree.Operand.{Operand}
use Rattle.verilog_tree.specs.declared.tree.Operand.TheVariants as operand
use Rattle.verilog_tree.specs.declared.tree.Link.{Link}
use Rattle.verilog_tree.specs.declared.tree.Port.{Port}
use Rattle.verilog_tree.specs.declared.tree.Wire.{Wire}
use Rattle.verilog_tree.specs.declared.tree.Instance.{Instance}
use Rattle.verilog_tree.specs.declared.tree.Item.{Item}
use Rattle.verilog_tree.specs.declared.tree.Item.TheVariants as item
use Rattle.verilog_tree.specs.declared.tree.Module.{Module}
use Rattle.link_model.specs.Lists.{or_else, first_in, has_name}
use Rattle.link_model.specs.Nets.{Declared, width, is_within, bits_in, declared_nets, declared_names, declared_as}
use Rattle.link_model.specs.Faults.{item_name, item_bits}
use Rattle.hier_model.specs.declared.fault.HierFault.{HierFault}
use Rattle.hier_model.specs.declared.fault.HierFault.TheVariants as fault
use Rattle.hier_model.specs.declared.fault.HierWhat.TheVariants as what
use Rattle.hier_model.specs.Visits.{Turn, keeps, opens, closes, Visit, visits, module_named, opened_by, has_levels}
use Rattle.hier_model.specs.Names.{flat_name}
use Rattle.hier_model.specs.Entries.{Place, place, places, level_limit, is_in, is_out}

-- Modules.

-- one of the seven cells, or one of the library, has the name
abbrev pub is_cell : List ListedCell → List ℕ → Bool
is_cell library name = is_some (kind_named library name)

-- the first module's name that came before, or is a cell's
abbrev pub twice_name : List ListedCell → List (List ℕ) → List Module → Option (List ℕ)
twice_name library before [] = None
twice_name library before (m ∷ ms) = if has_name before m.name || is_cell library m.name then Some m.name else twice_name library (before ++ m.name ∷ []) ms

-- the modules that a module's items are instances of
abbrev pub children : List Module → Module → List Module
children modules m = filter_map (λ i. option_map (λ o. o.1) (opened_by modules i)) m.items

-- in so many steps at most the module leads to one that passes the test
abbrev pub leads_to : ℕ → List Module → (Module → Bool) → Module → Bool
leads_to zero modules test m = test m
leads_to (suc steps) modules test m = test m || list_any (λ c. leads_to steps modules test c) (children modules m)

abbrev pub is_same : Module → Module → Bool
is_same m other = bytes_eq other.name m.name

-- as many steps as there are modules suffice
abbrev pub is_reached : List Module → Module → Module → Bool
is_reached modules top m = leads_to (length modules) modules (is_same m) top

abbrev pub holds_itself : List Module → Module → Bool
holds_itself modules m = list_any (λ c. leads_to (length modules) modules (is_same m) c) (children modules m)

-- an instance of what is no module and no cell
abbrev pub missing_cell : List ListedCell → List Module → Item → Option (List ℕ)
missing_cell library modules (item.Gate g) = None
missing_cell library modules (item.Instance i) = if is_none (module_named modules i.cell) && not (is_cell library i.cell) then Some i.cell else None
missing_cell library modules (item.Assign output input) = None

-- the first such instance in reached modules, in the order of the text
abbrev pub missing_name : List ListedCell → List Module → Module → Option (List ℕ)
missing_name library modules top = first_in (λ (m : Module). if is_reached modules top m then first_in (missing_cell library modules) m.items else None) modules

-- the first reached module that holds itself
abbrev pub recursive_name : List Module → Module → Option (List ℕ)
recursive_name modules top = first_in (λ (m : Module). if is_reached modules top m && holds_itself modules m then Some m.name else None) modules

-- Counts. An item counts as a cell, also an instance of a module; so does each bit of an input or output with a link.

abbrev pub is_linked : List Link → List ℕ → Bool
is_linked links name = list_any (λ (l : Link). is_some l.operand && bytes_eq l.port name) links

abbrev pub linked_bits : List Link → Port → ℕ
linked_bits links p = if (is_in p.dir || is_out p.dir) && is_linked links p.name then width p.range else 0

abbrev pub item_cells : (Module → ℕ) → List Module → Item → ℕ
item_cells below modules i = 1 + option_map_or (λ o. sum_by (linked_bits o.0.links) o.1.ports + below o.1) (opened_by modules i) 0

abbrev pub cell_count : ℕ → List Module → Module → ℕ
cell_count zero modules m = 0
cell_count (suc levels) modules m = sum_by (item_cells (λ c. cell_count levels modules c) modules) m.items

abbrev pub net_count : ℕ → List Module → Module → ℕ
net_count zero modules m = 0
net_count (suc levels) modules m = bits_in (declared_nets m) + sum_by (λ i. option_map_or (λ o. net_count levels modules o.1) (opened_by modules i) 0) m.items

abbrev pub cell_limit : ℕ
cell_limit = 262144

abbrev pub net_limit : ℕ
net_limit = 524288

-- own: the count that is told is the limit and one
abbrev pub too_many_in : List Module → Module → Option HierFault
too_many_in modules top =
    if not (has_levels level_limit modules top) then Some (fault.TooMany what.Depth (level_limit + 1) level_limit)
    else if nat_lt cell_limit (cell_count level_limit modules top) then Some (fault.TooMany what.Cells (cell_limit + 1) cell_limit)
    else if nat_lt net_limit (net_count level_limit modules top) then Some (fault.TooMany what.Nets (net_limit + 1) net_limit)
    else None

-- Links.

abbrev pub index_width : Option Range → ℕ → Option ℕ
index_width None index = None
index_width (Some r) index = if is_within r index then Some 1 else None

abbrev pub net_width : Option ℕ → Declared → Option ℕ
net_width None d = Some (width d.range)
net_width (Some index) d = index_width d.range index

-- how many bits an operand has in its module; none where it names no net, or no bit of it
abbrev pub operand_width : Module → Operand → Option ℕ
operand_width m (operand.Const value) = Some 1
operand_width m (operand.Bit b) = option_map_or (net_width b.index) (declared_as (declared_names m) b.net) None

abbrev pub is_const : Operand → Bool
is_const (operand.Bit b) = false
is_const (operand.Const value) = true

abbrev pub is_inout : Dir → Bool
is_inout d = not (is_in d || is_out d)

-- an operand that can't be linked to the port
abbrev pub is_bad_operand : Module → Port → Operand → Bool
is_bad_operand m p o = is_inout p.dir || (is_out p.dir && is_const o) || not (option_eq nat_eq (operand_width m o) (Some (width p.range)))

abbrev pub port_named : Module → List ℕ → Option Port
port_named child name = find (λ (p : Port). bytes_eq name p.name) child.ports

-- a link is at fault behind these ports
abbrev pub is_bad_link : Module → Module → List (List ℕ) → Link → Bool
is_bad_link m child had l = option_map_or (λ p. has_name had l.port || option_map_or (is_bad_operand m p) l.operand false) (port_named child l.port) true

abbrev pub bad_link : Module → Module → List (List ℕ) → List Link → Option (List ℕ)
bad_link m child had [] = None
bad_link m child had (l ∷ links) = if is_bad_link m child had l then Some l.port else bad_link m child (had ++ l.port ∷ []) links

-- an input or inout without a link, or with an empty one
abbrev pub unlinked : Module → List Link → Option (List ℕ)
unlinked child links = first_in (λ (p : Port). if not (is_out p.dir) && not (is_linked links p.name) then Some p.name else None) child.ports

abbrev pub bad_port : Module → Instance → Module → Option (List ℕ)
bad_port m i child = or_else (bad_link m child [] i.links) (unlinked child i.links)

abbrev pub turn_link : List (List ℕ) → Module → Turn → Option HierFault
turn_link at m (keeps i) = None
turn_link at m (opens i child) = option_map (fault.ModuleLink (flat_name at i.name)) (bad_port m i child)
turn_link at m (closes i child) = None

-- the first instance at fault in flat order
abbrev pub bad_link_in : List Module → Module → Option HierFault
bad_link_in modules top = first_in (λ (v : Visit). turn_link v.at v.within v.turn) (visits level_limit modules [] top)

-- Flat names, in flat order: ports, wires, items.

-- a name of its own, or that of a net that its module doesn't declare
pub data NameCheck : Type 0 where
  enters : List ℕ → NameCheck
  refers : List ℕ → NameCheck

abbrev pub place_names : Place → List (List ℕ)
place_names p = map (λ (port : Port). flat_name p.at port.name) p.here.ports ++ map (λ (wire : Wire). flat_name p.at wire.name) p.here.wires

abbrev pub net_check : List (List ℕ) → Module → Bit → List NameCheck
net_check at m b = if is_none (declared_as (declared_names m) b.net) then refers (flat_name at b.net) ∷ [] else []

abbrev pub item_checks : List (List ℕ) → Module → Item → List NameCheck
item_checks at m i = option_map_or (λ name. enters (flat_name at name) ∷ []) (item_name i) [] ++ flat_map (net_check at m) (item_bits i)

abbrev pub turn_checks : List (List ℕ) → Module → Turn → List NameCheck
turn_checks at m (keeps i) = item_checks at m i
turn_checks at m (opens i child) = enters (flat_name at i.name) ∷ []
turn_checks at m (closes i child) = []

abbrev pub is_long : List ℕ → Bool
is_long name = nat_lt 255 (length name)

-- the first name at fault, behind those that were entered
abbrev pub bad_name_after : List (List ℕ) → List (List ℕ) → List NameCheck → Option HierFault
bad_name_after declared seen [] = None
bad_name_after declared seen (enters name ∷ checks) = if is_long name || has_name seen name then Some (fault.FlatName name) else bad_name_after declared (seen ++ name ∷ []) checks
bad_name_after declared seen (refers name ∷ checks) = if is_long name || has_name declared name then Some (fault.FlatName name) else bad_name_after declared seen checks

abbrev pub declared_flat : List Module → Module → List (List ℕ)
declared_flat modules top = flat_map place_names (places modules top)

abbrev pub bad_name_in : List Module → Module → Option HierFault
bad_name_in modules top = bad_name_after (declared_flat modules top) [] (map (λ name. enters name) (declared_flat modules top) ++ flat_map (λ (v : Visit). turn_checks v.at v.within v.turn) (visits level_limit modules [] top))

-- The first fault.

abbrev pub top_fault : List ListedCell → List Module → Module → Option HierFault
top_fault library modules top =
    or_else (option_map fault.ModuleMissing (missing_name library modules top))
    (or_else (option_map fault.ModuleRecursive (recursive_name modules top))
    (or_else (too_many_in modules top)
    (or_else (bad_link_in modules top)
    (bad_name_in modules top))))

-- The modules, with this library, can't be made flat from the module of this name.
abbrev pub hier_fault : List ListedCell → List Module → List ℕ → Option HierFault
hier_fault library modules name =
    or_else (option_map fault.ModuleTwice (twice_name library [] modules))
    (option_map_or (top_fault library modules) (module_named modules name) (Some (fault.ModuleMissing name)))
