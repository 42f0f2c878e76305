-- Which bytes can begin the names of added nets and cells, by tests.
-- own: the same as specs/Prefixes.antt, with the cells in the order that is kept
use Rattle.std.specs.Prelude.{ℕ, ◌||◌, ◌&&◌, not, nat_eq, nat_le, Bool, true, false, List, [], ◌∷◌, length, Option, Some, None}
use Rattle.std.specs.List.{list_all, starts_with}
use Rattle.verilog_lexicon.specs.Bytes.{is_letter, is_digit}
use Rattle.netlist_model.specs.declared.CellId.{CellId}
use Rattle.netlist_model.specs.declared.Name.{Name}
use Rattle.netlist_model.specs.declared.Name.TheVariants.{Original, Added}
use Rattle.netlist_model.specs.Lists.{PortView, NetView, CellView, cell_at}
use Rattle.netlist_link.specs.Linked.{LinkedView}
use Rattle.netlist_unlink.specs.Trees.{original}

-- own: a byte of a prefix after its first
abbrev pub is_word_byte : ℕ → Bool
is_word_byte byte = is_letter byte || is_digit byte

-- own: a letter or `_`, then letters, digits and `_`, 1 to 32 in all
abbrev pub is_prefix : List ℕ → Bool
is_prefix [] = false
is_prefix (first ∷ rest) = nat_le (length (first ∷ rest)) 32 && (is_letter first && list_all is_word_byte rest)

-- own: the name is no original one that begins with the bytes
abbrev pub is_free_name : List (List ℕ) → List ℕ → Name → Bool
is_free_name table prefix (Original number) = not (starts_with nat_eq (original table number) prefix)
is_free_name table prefix (Added number) = true

-- own: so is a name that may be absent
abbrev pub has_free_name : List (List ℕ) → List ℕ → Option Name → Bool
has_free_name table prefix None = true
has_free_name table prefix (Some name) = is_free_name table prefix name

-- own: so is the name of the cell, if there is one
abbrev pub is_free_cell : List (List ℕ) → List ℕ → Option CellView → Bool
is_free_cell table prefix None = true
is_free_cell table prefix (Some cell) = has_free_name table prefix cell.name

-- own: so are the names of these ports
abbrev pub ports_are_free : List (List ℕ) → List ℕ → List PortView → Bool
ports_are_free table prefix ports = list_all (λ (p : PortView). is_free_name table prefix p.name) ports

-- own: so are the names of these nets
abbrev pub nets_are_free : List (List ℕ) → List ℕ → List NetView → Bool
nets_are_free table prefix nets = list_all (λ (n : NetView). is_free_name table prefix n.name) nets

-- own: so are the names of these cells
abbrev pub cells_are_free : LinkedView → List ℕ → List CellId → Bool
cells_are_free linked prefix order = list_all (λ (c : CellId). is_free_cell linked.names prefix (cell_at linked.arena.lists c.0)) order

-- own: the bytes can be a prefix, and no original name of the netlist begins with them
abbrev pub is_free_prefix : LinkedView → List ℕ → Bool
is_free_prefix linked prefix =
    is_prefix prefix && (ports_are_free linked.names prefix linked.arena.lists.ports
    && (nets_are_free linked.names prefix linked.arena.lists.nets && cells_are_free linked prefix linked.order))
