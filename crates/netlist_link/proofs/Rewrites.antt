-- What holds of a linked netlist while it is rewritten.
use Rattle.std.proofs.Common.{◌≡◌, ℕ, zero, suc, ◌+◌, ◌≤◌, ◌↔◌, inl, inr, Bool, true, false, cond, List, [], ◌∷◌, ◌++◌, length, length-append, arith, refl, sym, ap, ◌∙◌, subst, Option, Some, None}
use Rattle.std.specs.Prelude.{slice_get, nat_lt}
use Rattle.std.specs.Option.{option_or}
use Rattle.std.specs.List.{list_any}
use Rattle.std.specs.Str.{bytes_eq}
use Rattle.std.proofs.lemmas.Bool.{ltb-false}
use Rattle.std.proofs.lemmas.List.Elements.{All-nil}
use Rattle.std.proofs.lemmas.Option.{same_Some}
use Rattle.verilog_tree.specs.IsTree.{IsTreeName}
use Rattle.cell_library.specs.Sound.{IsLibrary, IsSoundCell}
use Rattle.netlist_model.specs.declared.What.{What}
use Rattle.netlist_model.specs.declared.What.TheVariants.{Cells, Nets, Ports}
use Rattle.netlist_model.specs.declared.Name.{Name}
use Rattle.netlist_model.specs.declared.Name.TheVariants.{Original, Added}
use Rattle.netlist_model.specs.Lists.{NetlistView, cell_count}
use Rattle.netlist_model.specs.Formed.{IsWellFormed}
use Rattle.netlist_arena.specs.Arena.{bit_count}
use Rattle.netlist_arena.specs.Room.{excess_of, too_many}
use Rattle.netlist_arena.specs.declared.room.ReserveFault.{ReserveFault}
use Rattle.link_names.specs.link_model.Denoted.{name_bytes}
use Rattle.link_arena.specs.NameTableNames.{IsOnce, number_of, with_name}
use Rattle.netlist_link.specs.WellNamed.{IsKnown, IsWellNamed}
use Rattle.netlist_link.proofs.PinLaws.{number_found}

abbrev pub no_lists : NetlistView
no_lists = record { library = []; ports = []; nets = []; cells = [] }

-- nothing at all is well formed
pub none_formed : IsWellFormed no_lists
none_formed = record {
  counts = λ i cell live. absurd (cc);
  bits_apart = λ p q j k net one other. absurd (cc);
  inputs_free = λ i cell net drives. absurd (let no = drives.live in cc);
  one_driver = λ i j cell other net a b. absurd (let no = a.live in cc);
  outputs_driven = λ net is. absurd (cc);
  inouts_driven = λ net is. absurd (cc);
  read_driven = λ i cell place net reads is. absurd (let no = reads.live in cc);
  bufif_outside = λ i cell net drives three. absurd (let no = drives.live in cc);
  inout_bufif = λ i cell net drives is. absurd (let no = drives.live in cc);
  bufif_unread = λ i j cell other place net drives three reads. absurd (let no = drives.live in cc);
  ordered = (λ net. 0, record { gates = λ i cell net drives gate. absurd (let no = drives.live in cc) });
  cones = λ net control. elim control.operand [ inl f ↦ absurd (let no = f.reads.live in cc) | inr f ↦ absurd (let no = f.reads.live in cc) ];
}

-- it has no cell of a library
no_library : IsLibrary []
no_library = record {
  few = omega arith;
  sound = All-nil IsSoundCell;
  named = λ number cell at. absurd (cc);
  once = λ i j cell other at there same. absurd (cc);
}

-- and well named by any table of names
pub none_named : (table : List (List ℕ)) (N : NetlistView) → IsWellNamed table N → IsWellNamed table no_lists
none_named table N well = record {
  library = no_library;
  once = well.once;
  spelled = well.spelled;
  net_names = λ net view at. absurd (cc);
  cell_names = λ i cell name live is. absurd (cc);
  port_names = λ p port at. absurd (cc);
  port_ranges = λ p port at. absurd (cc);
  port_bits = λ p bit port net at has. absurd (cc);
  wires = λ net number wire. absurd (let no = wire.there in cc);
  added = λ net number view at is. absurd (cc);
  ports_apart = λ p q port other at there same. absurd (cc);
  cells_apart = λ i j number cell other live there is same. absurd (cc);
  port_or_cell = λ p i port cell at live is. absurd (cc);
  port_or_wire = λ p net port at wire. absurd (cc);
  cell_or_wire = λ i net number cell live is wire. absurd (cc);
  library_named = λ i cell live is. absurd (cc);
  assign_unnamed = λ i cell live is. absurd (cc);
  connected = λ i cell live none. absurd (cc);
}

known_more : (table longer : List (List ℕ)) → length table ≤ length longer → (name : Name) → IsKnown table name → IsKnown longer name
known_more table longer more (Original number) known = omega (arith, more, known)
known_more table longer more (Added number) known = known

-- a netlist stays well named where the table grows
pub named_more : (table longer : List (List ℕ)) (N : NetlistView) → length table ≤ length longer → IsOnce longer
    → ((number : ℕ) (name : List ℕ) → slice_get longer number ≡ Some name → IsTreeName name) → IsWellNamed table N → IsWellNamed longer N
named_more table longer N more once spelled well = record {
  library = well.library;
  once = once;
  spelled = spelled;
  net_names = λ net view at. known_more table longer more view.name (well.net_names net view at);
  cell_names = λ i cell name live is. known_more table longer more name (well.cell_names i cell name live is);
  port_names = λ p port at. let name = well.port_names p port at in (name.0, name.1, (let low = name.2 in omega (arith, low, more)));
  port_ranges = well.port_ranges;
  port_bits = well.port_bits;
  wires = well.wires;
  added = well.added;
  ports_apart = well.ports_apart;
  cells_apart = well.cells_apart;
  port_or_cell = well.port_or_cell;
  port_or_wire = well.port_or_wire;
  cell_or_wire = well.cell_or_wire;
  library_named = well.library_named;
  assign_unnamed = well.assign_unnamed;
  connected = well.connected;
}

at_end : (table : List (List ℕ)) (name found : List ℕ) (number : ℕ) → slice_get (table ++ name ∷ []) number ≡ Some found → (IsTreeName name)
    → ((k : ℕ) (other : List ℕ) → slice_get table k ≡ Some other → IsTreeName other) → IsTreeName found
at_end [] name found zero at spelled all = subst IsTreeName (same_Some name found at) spelled
at_end [] name found (suc number) at spelled all = absurd (cc)
at_end (n ∷ table) name found zero at spelled all = all 0 found at
at_end (n ∷ table) name found (suc number) at spelled all = at_end table name found number at spelled (λ k other there. all (suc k) other there)

-- a table with one name more, or with a name that is there
pub entered_spelled : (table : List (List ℕ)) (name : List ℕ) → IsTreeName name → ((k : ℕ) (other : List ℕ) → slice_get table k ≡ Some other → IsTreeName other)
    → (number : ℕ) (found : List ℕ) → slice_get (with_name name table) number ≡ Some found → IsTreeName found
entered_spelled table name spelled all number found at = by (list_any (bytes_eq name) table) at
  where
    by : (b : Bool) → slice_get (cond b table (table ++ name ∷ [])) number ≡ Some found → IsTreeName found
    by true at = all number found at
    by false at = at_end table name found number at spelled all

pub entered_longer : (table : List (List ℕ)) (name : List ℕ) → length table ≤ length (with_name name table)
entered_longer table name = by (list_any (bytes_eq name) table)
  where
    by : (b : Bool) → length table ≤ length (cond b table (table ++ name ∷ []))
    by true = omega arith
    by false = let long = length-append table (name ∷ []) in omega (arith, long)

pub entered_short : (table : List (List ℕ)) (name : List ℕ) → length (with_name name table) ≤ length table + 1
entered_short table name = by (list_any (bytes_eq name) table)
  where
    by : (b : Bool) → length (cond b table (table ++ name ∷ [])) ≤ length table + 1
    by true = omega arith
    by false = let long = length-append table (name ∷ []) in omega (arith, long)

-- the one name with these bytes
pub found_name : (table : List (List ℕ)) (name : List ℕ) (number : ℕ) → IsOnce table → slice_get table number ≡ Some name → (found : Name)
    → (Some (Original number) ≡ Some found) ↔ (name_bytes table found ≡ Some name)
found_name table name number once stands (Original other) = (
  λ e. let same = same_Some (Original number) (Original other) e in subst (λ n. name_bytes table n ≡ Some name) same stands,
  λ at. let one : number ≡ other = once number other name stands at in ap (λ n. Some (Original n)) one,
)
found_name table name number once stands (Added other) = (λ e. absurd (cc), λ at. absurd (cc))

pub no_name : (table : List (List ℕ)) (name : List ℕ) → number_of name table ≡ None → (found : Name) → (None ≡ Some found) ↔ (name_bytes table found ≡ Some name)
no_name table name none (Original other) = (
  λ e. absurd (cc),
  λ at. absurd (let n = number_found name table other at in let no : None ≡ Some n.0 = sym none ∙ n.1 in cc),
)
no_name table name none (Added other) = (λ e. absurd (cc), λ at. absurd (cc))

-- where no limit is passed
pub within : (what : What) (count limit : ℕ) → excess_of what count limit ≡ None → count ≤ limit
within what count limit none = by (nat_lt limit count) refl none
  where
    by : (b : Bool) → nat_lt limit count ≡ b → cond b (Some (ReserveFault.TooMany what count limit)) None ≡ None → count ≤ limit
    by true e told = absurd (cc)
    by false e told = ltb-false limit count e

both_none : (a b : Option ReserveFault) → option_or a b ≡ None → (a ≡ None) × (b ≡ None)
both_none None b e = (refl, e)
both_none (Some f) b e = absurd (cc)

pub few_cells : (N : NetlistView) (cells nets port_bits : ℕ) → too_many N cells nets port_bits ≡ None → cell_count N + cells ≤ 262144
few_cells N cells nets port_bits none =
    let first = both_none (option_or (excess_of Cells (cell_count N + cells) 262144) (excess_of Nets (length N.nets + nets) 524288)) (excess_of Ports (bit_count N.ports + port_bits) 4096) none in
    within Cells (cell_count N + cells) 262144 (both_none (excess_of Cells (cell_count N + cells) 262144) (excess_of Nets (length N.nets + nets) 524288) first.0).0

pub few_nets : (N : NetlistView) (cells nets port_bits : ℕ) → too_many N cells nets port_bits ≡ None → length N.nets + nets ≤ 524288
few_nets N cells nets port_bits none =
    let first = both_none (option_or (excess_of Cells (cell_count N + cells) 262144) (excess_of Nets (length N.nets + nets) 524288)) (excess_of Ports (bit_count N.ports + port_bits) 4096) none in
    within Nets (length N.nets + nets) 524288 (both_none (excess_of Cells (cell_count N + cells) 262144) (excess_of Nets (length N.nets + nets) 524288) first.0).1
