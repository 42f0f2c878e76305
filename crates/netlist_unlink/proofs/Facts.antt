-- What is known of the ports and cells of a linked netlist.
use Rattle.std.proofs.Common.{◌≡◌, ℕ, zero, suc, ◌<◌, ◌≤◌, Bool, true, false, List, [], ◌∷◌, length, take, refl, ap, sym, ◌∙◌, subst, Option, Some, None, arith, IsTrue}
use Rattle.std.specs.Prelude.{slice_get, IsSome, IfSome, MatchOption, ◌↔◌}
use Rattle.std.specs.Option.{option_map, option_and_then}
use Rattle.std.proofs.Math.Seq.{take-length}
use Rattle.verilog_tree.specs.declared.tree.GateKind.{GateKind}
use Rattle.cell_library.specs.declared.listed.ListedCell.{ListedCell}
use Rattle.cell_library.specs.declared.Kind.{Kind}
use Rattle.cell_library.specs.declared.Kind.TheVariants as kind
use Rattle.cell_library.specs.Gates.{is_flop, Takes}
use Rattle.cell_library.specs.Library.{cell_name, operand_ports}
use Rattle.cell_library.specs.Ports.{HasPorts}
use Rattle.cell_library.specs.Sound.{IsLibrary}
use Rattle.cell_library.proofs.PortLaws.{named_cells_have_ports, taken_ports}
use Rattle.netlist_model.specs.declared.Feed.{Feed}
use Rattle.netlist_model.specs.declared.Name.{Name}
use Rattle.netlist_model.specs.declared.Name.TheVariants.{Original, Added}
use Rattle.netlist_model.specs.Lists.{PortView, CellView, NetlistView, cell_at}
use Rattle.netlist_model.specs.Formed.{IsWellFormed}
use Rattle.netlist_arena.specs.Arena.{ArenaView}
use Rattle.netlist_arena.specs.Looks.{feed_at}
use Rattle.netlist_link.specs.WellNamed.{IsWellNamed}
use Rattle.netlist_unlink.specs.Parts.{feeds_of, name_of, output_of}
use Rattle.netlist_unlink.specs.Trees.{Naming, gate_of, operand_links, operand_of}

pub port_known : (table : List (List ℕ)) (N : NetlistView) (p number : ℕ) → IsWellNamed table N
    → option_map (λ (found : PortView). found.name) (slice_get N.ports p) ≡ Some (Original number) → number < length table
port_known table N p number named at = go (slice_get N.ports p) refl at
  where
    go : (o : Option PortView) → slice_get N.ports p ≡ o → option_map (λ (found : PortView). found.name) o ≡ Some (Original number) → number < length table
    go None e is = absurd (cc)
    go (Some port) e is =
        let has = named.port_names p port e in
        let original = has.1 in
        let less = has.2 in
        let same : has.0 ≡ number = grind arith in
        omega arith

pub port_not_added : (table : List (List ℕ)) (N : NetlistView) (p number : ℕ) → IsWellNamed table N
    → option_map (λ (found : PortView). found.name) (slice_get N.ports p) ≡ Some (Added number) → ⊥
port_not_added table N p number named at = go (slice_get N.ports p) refl at
  where
    go : (o : Option PortView) → slice_get N.ports p ≡ o → option_map (λ (found : PortView). found.name) o ≡ Some (Added number) → ⊥
    go None e is = cc
    go (Some port) e is = let has = named.port_names p port e in let original = has.1 in cc

-- what is known of a live cell, by the library that it was linked with
pub record FitsLibrary (library : List ListedCell) (cell : CellView) : Type 0 where
  pub is : IsLibrary library
  pub takes : Takes library cell.kind (length cell.feeds)
  pub named : IsSome (cell_name library cell.kind) → IsSome cell.name
  pub unnamed : cell.kind ≡ kind.Assign → cell.name ≡ None
  pub connected : cell_name library cell.kind ≡ None → IsSome cell.output

pub fits_library : (table : List (List ℕ)) (N : NetlistView) (library : List ListedCell) (i : ℕ) (cell : CellView) → library ≡ N.library → IsWellNamed table N → IsWellFormed N → cell_at N i ≡ Some cell
    → FitsLibrary library cell
fits_library table N library i cell same named formed at =
    let P : List ListedCell → Type 0 = λ l. FitsLibrary l cell in
    subst P (sym same) (record {
      is = named.library;
      takes = formed.counts i cell at;
      named = named.library_named i cell at;
      unnamed = named.assign_unnamed i cell at;
      connected = named.connected i cell at;
    })

-- gates

pub gate_no_flop : (library : List ListedCell) (k : Kind) (gate : GateKind) → gate_of k ≡ Some gate → is_flop library k ≡ false
gate_no_flop library (kind.Flop flop) gate e = absurd (cc)
gate_no_flop library (kind.Listed number) gate e = absurd (cc)
gate_no_flop library k gate e = refl

pub gate_unnamed : (library : List ListedCell) (k : Kind) (gate : GateKind) → gate_of k ≡ Some gate → cell_name library k ≡ None
gate_unnamed library kind.Mux2 gate e = absurd (cc)
gate_unnamed library (kind.Flop flop) gate e = absurd (cc)
gate_unnamed library (kind.Listed number) gate e = absurd (cc)
gate_unnamed library k gate e = refl

pub gate_few : (library : List ListedCell) (k : Kind) (gate : GateKind) (count : ℕ) → gate_of k ≡ Some gate → Takes library k count → count ≤ 256
gate_few library kind.And gate count e takes = takes.1
gate_few library kind.Or gate count e takes = takes.1
gate_few library kind.Nand gate count e takes = takes.1
gate_few library kind.Nor gate count e takes = takes.1
gate_few library kind.Xor gate count e takes = takes.1
gate_few library kind.Xnor gate count e takes = takes.1
gate_few library kind.Buf gate count e takes = omega (arith, takes)
gate_few library kind.Not gate count e takes = omega (arith, takes)
gate_few library kind.Bufif0 gate count e takes = omega (arith, takes)
gate_few library kind.Bufif1 gate count e takes = omega (arith, takes)
gate_few library k gate count e takes = absurd (cc)

-- a cell that is no gate and has no name is an `assign`
pub assign_kind : (library : List ListedCell) (k : Kind) (count : ℕ) → Takes library k count → gate_of k ≡ None → cell_name library k ≡ None → k ≡ kind.Assign
assign_kind library kind.Assign count takes gate name = refl
assign_kind library (kind.Listed number) count takes gate name = by (slice_get library number) takes name
  where
    by : (there : Option ListedCell) → MatchOption there ⊥ (λ (cell : ListedCell). count ≡ length cell.inputs) → option_map (λ (cell : ListedCell). cell.name) there ≡ None → kind.Listed number ≡ kind.Assign
    by None takes name = absurd takes
    by (Some cell) takes name = absurd (cc)
assign_kind library k count takes gate name = absurd (cc)

pub gate_driven : (table : List (List ℕ)) (N : NetlistView) (i : ℕ) (gate : GateKind) → IsWellNamed table N → IsSome (cell_at N i)
    → IfSome (cell_at N i) (λ (found : CellView). gate_of found.kind ≡ Some gate) → IsSome (output_of (cell_at N i))
gate_driven table N i gate named live is = go (cell_at N i) refl live is
  where
    go : (o : Option CellView) → cell_at N i ≡ o → IsSome o → IfSome o (λ (found : CellView). gate_of found.kind ≡ Some gate) → IsSome (output_of o)
    go None e live is = absurd (cc)
    go (Some cell) e live is = named.connected i cell e (gate_unnamed N.library cell.kind gate is)

pub assign_driven : (table : List (List ℕ)) (N : NetlistView) (i : ℕ) → IsWellNamed table N → IsSome (cell_at N i)
    → IfSome (cell_at N i) (λ (found : CellView). cell_name N.library found.kind ≡ None) → IsSome (output_of (cell_at N i))
assign_driven table N i named live is = go (cell_at N i) refl live is
  where
    go : (o : Option CellView) → cell_at N i ≡ o → IsSome o → IfSome o (λ (found : CellView). cell_name N.library found.kind ≡ None) → IsSome (output_of o)
    go None e live is = absurd (cc)
    go (Some cell) e live is = named.connected i cell e is

pub assign_reads : (N : NetlistView) (i : ℕ) → IsWellFormed N → IsSome (cell_at N i) → IfSome (cell_at N i) (λ (found : CellView). gate_of found.kind ≡ None)
    → IfSome (cell_at N i) (λ (found : CellView). cell_name N.library found.kind ≡ None) → 0 < length (feeds_of (cell_at N i))
assign_reads N i formed live gate name = go (cell_at N i) refl live gate name
  where
    go : (o : Option CellView) → cell_at N i ≡ o → IsSome o → IfSome o (λ (found : CellView). gate_of found.kind ≡ None) → IfSome o (λ (found : CellView). cell_name N.library found.kind ≡ None)
        → 0 < length (feeds_of o)
    go None e live gate name = absurd (cc)
    go (Some cell) e live gate name =
        let takes = formed.counts i cell e in
        let is = assign_kind N.library cell.kind (length cell.feeds) takes gate name in
        let T : Kind → Type 0 = λ k. Takes N.library k (length cell.feeds) in
        let one : length cell.feeds ≡ 1 = subst T is takes in
        omega arith

pub instance_named : (table : List (List ℕ)) (N : NetlistView) (i : ℕ) (k : Kind) (library : List ℕ) → IsWellNamed table N → IsSome (cell_at N i)
    → IfSome (cell_at N i) (λ (found : CellView). found.kind ≡ k) → cell_name N.library k ≡ Some library → IsSome (name_of (cell_at N i))
instance_named table N i k library named live is known = go (cell_at N i) refl live is
  where
    go : (o : Option CellView) → cell_at N i ≡ o → IsSome o → IfSome o (λ (found : CellView). found.kind ≡ k) → IsSome (name_of o)
    go None e live is = absurd (cc)
    go (Some cell) e live is = let at : cell_name N.library cell.kind ≡ Some library = ap (cell_name N.library) is ∙ known in named.library_named i cell e (rw at refl)

-- a cell that has a name has its ports
pub library_ports : (library : List ListedCell) (k : Kind) (name : List ℕ) → IsLibrary library → cell_name library k ≡ Some name → HasPorts library k
library_ports library k name is known = named_cells_have_ports library is k (rw known refl)

pub library_count : (library : List ListedCell) (k : Kind) (name : List ℕ) (count : ℕ) → IsLibrary library → cell_name library k ≡ Some name → Takes library k count
    → count ≡ length (operand_ports library k)
library_count library k name count is known takes = taken_ports library k count (library_ports library k name is known) takes

pub instance_ports : (N : NetlistView) (i : ℕ) (k : Kind) (name : List ℕ) → IsLibrary N.library → IsWellFormed N → IsSome (cell_at N i) → IfSome (cell_at N i) (λ (found : CellView). found.kind ≡ k)
    → cell_name N.library k ≡ Some name → length (feeds_of (cell_at N i)) ≤ length (operand_ports N.library k)
instance_ports N i k name library formed live is known = go (cell_at N i) refl live is
  where
    go : (o : Option CellView) → cell_at N i ≡ o → IsSome o → IfSome o (λ (found : CellView). found.kind ≡ k) → length (feeds_of o) ≤ length (operand_ports N.library k)
    go None e live is = absurd (cc)
    go (Some cell) e live is =
        let T : Kind → Type 0 = λ x. Takes N.library x (length cell.feeds) in
        let same = library_count N.library k name (length cell.feeds) library known (subst T is (formed.counts i cell e)) in
        omega arith

-- operands by their places

pub feed_is : (o : Option CellView) (k : ℕ) → slice_get (feeds_of o) k ≡ option_and_then (λ (c : CellView). slice_get c.feeds k) o
feed_is None k = refl
feed_is (Some cell) k = refl

pub count_is : (o : Option CellView) (n : ℕ) → option_map (λ (found : CellView). length found.feeds) o ≡ Some n → length (feeds_of o) ≡ n
count_is None n e = absurd (cc)
count_is (Some cell) n e = grind arith

pub links_at : (naming : Naming) (ports : List (List ℕ)) (feeds : List Feed) (k : ℕ) (port : List ℕ) (feed : Feed) → slice_get ports k ≡ Some port → slice_get feeds k ≡ Some feed
    → slice_get (operand_links naming ports feeds) k ≡ Some (record { port = port; operand = Some (operand_of naming feed) })
links_at naming [] feeds k port feed p f = absurd (cc)
links_at naming (x ∷ ports) [] k port feed p f = absurd (cc)
links_at naming (x ∷ ports) (y ∷ feeds) zero port feed p f =
    let one : x ≡ port = grind arith in
    let two : y ≡ feed = grind arith in
    rw (one, two) refl
links_at naming (x ∷ ports) (y ∷ feeds) (suc k) port feed p f = links_at naming ports feeds k port feed p f

length-operand_links : (naming : Naming) (ports : List (List ℕ)) (feeds : List Feed) → length feeds ≤ length ports → length (operand_links naming ports feeds) ≡ length feeds
length-operand_links naming [] [] h = refl
length-operand_links naming [] (y ∷ feeds) h = absurd (omega arith)
length-operand_links naming (x ∷ ports) [] h = refl
length-operand_links naming (x ∷ ports) (y ∷ feeds) h = ap suc (length-operand_links naming ports feeds (omega arith))

pub links_all : (naming : Naming) (ports : List (List ℕ)) (feeds : List Feed) (n : ℕ) → length feeds ≤ length ports → n ≡ length feeds → take n (operand_links naming ports feeds) ≡ operand_links naming ports feeds
links_all naming ports feeds n few all =
    ap (λ (k : ℕ). take k (operand_links naming ports feeds)) (all ∙ sym (length-operand_links naming ports feeds few)) ∙ take-length (operand_links naming ports feeds)

-- what an arena that is the netlist's answers

pub feed_there : (mine other : ArenaView) (i k : ℕ) (feed : Feed) → mine ≡ other → feed_at mine.lists i k ≡ Some feed → slice_get (feeds_of (cell_at other.lists i)) k ≡ Some feed
feed_there mine other i k feed same at = let P : ArenaView → Type 0 = λ a. feed_at a.lists i k ≡ Some feed in feed_is (cell_at other.lists i) k ∙ subst P same at

pub count_there : (mine other : ArenaView) (i n : ℕ) → mine ≡ other → option_map (λ (found : CellView). length found.feeds) (cell_at mine.lists i) ≡ Some n → length (feeds_of (cell_at other.lists i)) ≡ n
count_there mine other i n same at =
    let P : ArenaView → Type 0 = λ a. option_map (λ (found : CellView). length found.feeds) (cell_at a.lists i) ≡ Some n in
    count_is (cell_at other.lists i) n (subst P same at)

-- a port of the library that is the netlist's
pub port_there : (mine : List ListedCell) (arena other : ArenaView) (k : Kind) (place : ℕ) (port : List ℕ) → mine ≡ arena.lists.library → arena ≡ other → slice_get (operand_ports mine k) place ≡ Some port
    → slice_get (operand_ports other.lists.library k) place ≡ Some port
port_there mine arena other k place port own same at =
    ap (λ (l : List ListedCell). slice_get (operand_ports l k) place) (sym (own ∙ ap (λ (a : ArenaView). a.lists.library) same)) ∙ at

pub port_name_there : (mine other : ArenaView) (p : ℕ) (name : Name) → mine ≡ other → option_map (λ (found : PortView). found.name) (slice_get mine.lists.ports p) ≡ Some name
    → option_map (λ (found : PortView). found.name) (slice_get other.lists.ports p) ≡ Some name
port_name_there mine other p name same at =
    let P : ArenaView → Type 0 = λ a. option_map (λ (found : PortView). found.name) (slice_get a.lists.ports p) ≡ Some name in subst P same at

-- no live cell has the number
pub not_live : (mine other : ArenaView) (i : ℕ) (live : Bool) → mine ≡ other → (IsTrue live ↔ IsSome (cell_at mine.lists i)) → live ≡ false → cell_at other.lists i ≡ None
not_live mine other i live same is dead =
    let P : ArenaView → Type 0 = λ a. IsTrue live ↔ IsSome (cell_at a.lists i) in go (cell_at other.lists i) (subst P same is)
  where
    go : (o : Option CellView) → (IsTrue live ↔ IsSome o) → o ≡ None
    go None is = refl
    go (Some cell) is = let yes : live ≡ true = is.1 refl in absurd (let bad : true ≡ false = sym yes ∙ dead in cc)
