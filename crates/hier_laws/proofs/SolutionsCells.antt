-- The cell of an item at its place, and in the flat module.
use Rattle.std.proofs.Common.{◌≡◌, ◌≢◌, ◌↔◌, ℕ, Bool, true, false, cond, List, [], ◌∷◌, ◌++◌, map, find, Option, Some, None, MatchOption, refl, sym, ap, subst, ◌∙◌, unwrap_or}
use Rattle.std.specs.List.{flat_map, AllByRecursion}
use Rattle.std.specs.Bool.{⊤}
use Rattle.std.specs.Option.{option_map, option_map_or, option_and_then}
use Rattle.std.specs.Str.{bytes_eq}
use Rattle.signal_values.specs.declared.Sig.{Sig}
use Rattle.signal_values.specs.declared.PinSig.{PinSig}
use Rattle.verilog_tree.specs.declared.tree.Operand.{Operand}
use Rattle.verilog_tree.specs.declared.tree.Operand.TheVariants as operand
use Rattle.verilog_tree.specs.declared.tree.Link.{Link}
use Rattle.verilog_tree.specs.declared.tree.Instance.{Instance}
use Rattle.verilog_tree.specs.declared.tree.Item.{Item}
use Rattle.verilog_tree.specs.declared.tree.Item.TheVariants as item
use Rattle.cell_library.specs.declared.listed.ListedCell.{ListedCell}
use Rattle.cell_library.specs.declared.Kind.{Kind}
use Rattle.cell_library.specs.declared.Kind.TheVariants as kind
use Rattle.cell_library.specs.Library.{kind_named, operand_ports, output_port}
use Rattle.netlist_model.specs.declared.Dir.{Dir}
use Rattle.netlist_model.specs.declared.Dir.TheVariants.{Input, Output, Inout}
use Rattle.netlist_model.specs.declared.NetId.{NetId}
use Rattle.netlist_model.specs.declared.Feed.TheVariants.{Const}
use Rattle.netlist_model.specs.Settled.{feed_value, feed_values, cell_value}
use Rattle.link_model.specs.Nets.{Declared, declared_names, net_of}
use Rattle.link_model.specs.Cells.{NamedCell, cell_of, feed_of, linked_operand, operand_net, port_feed, port_net, library_cell}
use Rattle.link_model.specs.Faults.{item_bits, link_bits, operand_bits}
use Rattle.hier_model.specs.Names.{flat_bit, flat_operand, flat_link, flat_item}
use Rattle.hier_model.specs.Entries.{Place, stays, carries}
use Rattle.hier_laws.specs.Solves.{Valuation, dir_at, given_value}
use Rattle.hier_laws.specs.SolutionsLaws.{ReadsBits, FlatMeets, SameRuleAt, BothMeet, EntriesMeetAsCells}

abbrev Names : Type 0
Names = List (List ℕ × Declared)

-- Bits of a list's front and rest.

all_front : {X : Type 0} (P : X → Type 0) (xs ys : List X) → AllByRecursion P (xs ++ ys) → AllByRecursion P xs × AllByRecursion P ys
all_front P [] ys h = (tt, h)
all_front P (x ∷ xs) ys h = let t = all_front P xs ys h.1 in ((h.0, t.0), t.1)

-- Operands.

feed_reads : (names : Names) (v : ℕ → Sig) (value : Valuation) (p : Place) (o : Operand) → ReadsBits names v value p (operand_bits o)
    → feed_value v (feed_of names (flat_operand p.at o)) ≡ feed_value (value p.at) (feed_of (declared_names p.here) o)
feed_reads names v value p (operand.Bit b) h = h.0
feed_reads names v value p (operand.Const c) h = refl

feeds_read : (names : Names) (v : ℕ → Sig) (value : Valuation) (p : Place) (os : List Operand) → ReadsBits names v value p (flat_map operand_bits os)
    → feed_values v (map (feed_of names) (map (flat_operand p.at) os)) ≡ feed_values (value p.at) (map (feed_of (declared_names p.here)) os)
feeds_read names v value p [] h = refl
feeds_read names v value p (o ∷ os) h =
    let t = all_front _ (operand_bits o) (flat_map operand_bits os) h in
    rw (feed_reads names v value p o t.0, feeds_read names v value p os t.1) refl

-- Links.

pub linked_flat : (at : List (List ℕ)) (links : List Link) (port : List ℕ) → linked_operand (map (flat_link at) links) port ≡ option_map (flat_operand at) (linked_operand links port)
linked_flat at [] port = refl
linked_flat at (l ∷ links) port = go (bytes_eq l.port port) (linked_flat at links port)
  where
    go : (b : Bool) → linked_operand (map (flat_link at) links) port ≡ option_map (flat_operand at) (linked_operand links port) → option_and_then (λ (k : Link). k.operand) (cond b (Some (flat_link at l)) (find (λ (k : Link). bytes_eq k.port port) (map (flat_link at) links))) ≡ option_map (flat_operand at) (option_and_then (λ (k : Link). k.operand) (cond b (Some l) (find (λ (k : Link). bytes_eq k.port port) links)))
    go true rest = refl
    go false rest = rest

-- the bits of what is linked to a port are among those of the links
linked_bits : (names : Names) (v : ℕ → Sig) (value : Valuation) (p : Place) (links : List Link) (port : List ℕ) → ReadsBits names v value p (flat_map link_bits links)
    → MatchOption (linked_operand links port) ⊤ (λ (o : Operand). ReadsBits names v value p (operand_bits o))
linked_bits names v value p [] port h = tt
linked_bits names v value p (l ∷ links) port h =
    let t = all_front _ (link_bits l) (flat_map link_bits links) h in
    go (bytes_eq l.port port) t.0 (linked_bits names v value p links port t.1)
  where
    here : (o : Option Operand) → ReadsBits names v value p (option_map_or operand_bits o []) → MatchOption o ⊤ (λ (x : Operand). ReadsBits names v value p (operand_bits x))
    here None e = tt
    here (Some x) e = e

    go : (b : Bool) → ReadsBits names v value p (link_bits l) → MatchOption (linked_operand links port) ⊤ (λ (o : Operand). ReadsBits names v value p (operand_bits o))
        → MatchOption (option_and_then (λ (k : Link). k.operand) (cond b (Some l) (find (λ (k : Link). bytes_eq k.port port) links))) ⊤ (λ (o : Operand). ReadsBits names v value p (operand_bits o))
    go true e rest = here l.operand e
    go false e rest = rest

port_reads : (names : Names) (v : ℕ → Sig) (value : Valuation) (p : Place) (links : List Link) (port : List ℕ) → ReadsBits names v value p (flat_map link_bits links)
    → feed_value v (port_feed names (map (flat_link p.at) links) port) ≡ feed_value (value p.at) (port_feed (declared_names p.here) links port)
port_reads names v value p links port h =
    ap (λ (o : Option Operand). feed_value v (unwrap_or (option_map (feed_of names) o) (Const false))) (linked_flat p.at links port)
    ∙ go (linked_operand links port) (linked_bits names v value p links port h)
  where
    go : (o : Option Operand) → MatchOption o ⊤ (λ (x : Operand). ReadsBits names v value p (operand_bits x))
        → feed_value v (unwrap_or (option_map (feed_of names) (option_map (flat_operand p.at) o)) (Const false)) ≡ feed_value (value p.at) (unwrap_or (option_map (feed_of (declared_names p.here)) o) (Const false))
    go None e = refl
    go (Some o) e = feed_reads names v value p o e

ports_read : (names : Names) (v : ℕ → Sig) (value : Valuation) (p : Place) (links : List Link) (ports : List (List ℕ)) → ReadsBits names v value p (flat_map link_bits links)
    → feed_values v (map (port_feed names (map (flat_link p.at) links)) ports) ≡ feed_values (value p.at) (map (port_feed (declared_names p.here) links) ports)
ports_read names v value p links [] h = refl
ports_read names v value p links (port ∷ ports) h = rw (port_reads names v value p links port h, ports_read names v value p links ports h) refl

-- What cells drive.

-- the flat net has the value of the net at its place
abbrev Same : (ℕ → Sig) → (ℕ → Sig) → NetId → NetId → Type 0
Same v w n m = v n.0 ≡ w m.0

-- both drive nothing, or nets of one value
abbrev pub SameOutput : (ℕ → Sig) → (ℕ → Sig) → Option NetId → Option NetId → Type 0
SameOutput v w None None = Unit {0}
SameOutput v w None (Some m) = ⊥
SameOutput v w (Some n) None = ⊥
SameOutput v w (Some n) (Some m) = Same v w n m

port_output : (names : Names) (v : ℕ → Sig) (value : Valuation) (p : Place) (links : List Link) (port : List ℕ) → ReadsBits names v value p (flat_map link_bits links)
    → SameOutput v (value p.at) (port_net names (map (flat_link p.at) links) port) (port_net (declared_names p.here) links port)
port_output names v value p links port h =
    let P : Option Operand → Type 0 = λ o. SameOutput v (value p.at) (option_and_then (operand_net names) o) (port_net (declared_names p.here) links port) in
    subst P (sym (linked_flat p.at links port)) (go (linked_operand links port) (linked_bits names v value p links port h))
  where
    go : (o : Option Operand) → MatchOption o ⊤ (λ (x : Operand). ReadsBits names v value p (operand_bits x))
        → SameOutput v (value p.at) (option_and_then (operand_net names) (option_map (flat_operand p.at) o)) (option_and_then (operand_net (declared_names p.here)) o)
    go None e = tt
    go (Some (operand.Bit b)) e = e.0
    go (Some (operand.Const c)) e = tt

-- The cell of an item.

pub record SameCell (v w : ℕ → Sig) (cell own : NamedCell) : Type 0 where
  pub kind : cell.kind ≡ own.kind
  pub feeds : feed_values v cell.feeds ≡ feed_values w own.feeds
  pub output : SameOutput v w cell.output own.output

library_same : (library : List ListedCell) (names : Names) (v : ℕ → Sig) (value : Valuation) (p : Place) (i : Instance) (k : Kind) → ReadsBits names v value p (flat_map link_bits i.links)
    → (name : List ℕ) → SameCell v (value p.at) (library_cell library names (record { cell = i.cell; name = name; links = map (flat_link p.at) i.links }) k) (library_cell library (declared_names p.here) i k)
library_same library names v value p i k h name = record {
  kind = refl;
  feeds = ports_read names v value p i.links (operand_ports library k) h;
  output = go (output_port library k);
}
  where
    go : (o : Option (List ℕ)) → SameOutput v (value p.at) (option_and_then (port_net names (map (flat_link p.at) i.links)) o) (option_and_then (port_net (declared_names p.here) i.links) o)
    go None = tt
    go (Some port) = port_output names v value p i.links port h

pub same_cell : (library : List ListedCell) (names : Names) (v : ℕ → Sig) (value : Valuation) (p : Place) (i : Item) → ReadsBits names v value p (item_bits i) → SameCell v (value p.at) (cell_of library names (flat_item p.at i)) (cell_of library (declared_names p.here) i)
same_cell library names v value p (item.Gate g) h = record {
  kind = refl;
  feeds = feeds_read names v value p g.inputs h.1;
  output = h.0;
}
same_cell library names v value p (item.Instance i) h = library_same library names v value p i (unwrap_or (kind_named library i.cell) kind.Buf) h _
same_cell library names v value p (item.Assign output input) h = record {
  kind = refl;
  feeds = rw (feed_reads names v value p input h.1) refl;
  output = h.0;
}

-- Entries.

given_pin : (library : List ListedCell) (dir : Option Dir) (k : Kind) (inputs : List Sig) (kept value : Sig) (one other : PinSig) → (dir ≡ Some Inout → one ≡ other) → given_value library dir k inputs kept value one ≡ given_value library dir k inputs kept value other
given_pin library None k inputs kept value one other same = refl
given_pin library (Some Input) k inputs kept value one other same = refl
given_pin library (Some Output) k inputs kept value one other same = refl
given_pin library (Some Inout) k inputs kept value one other same = ap (λ (pin : PinSig). given_value library (Some Inout) k inputs kept value pin) (same refl)

pub given_inside : (library : List ListedCell) (dir : Option Dir) (k : Kind) (inputs : List Sig) (kept value : Sig) (pin : PinSig) → dir ≢ Some Inout → given_value library dir k inputs kept value pin ≡ cell_value library k inputs kept
given_inside library None k inputs kept value pin none = refl
given_inside library (Some Input) k inputs kept value pin none = refl
given_inside library (Some Output) k inputs kept value pin none = refl
given_inside library (Some Inout) k inputs kept value pin none = absurd (none refl)

abbrev meets_at : List ListedCell → (ℕ → Option Dir) → (ℕ → PinSig) → (ℕ → Sig) → Sig → NamedCell → NetId → Type 0
meets_at library dirs pins v kept cell n = v n.0 ≡ given_value library (dirs n.0) cell.kind (feed_values v cell.feeds) kept (v n.0) (pins n.0)

stays_same : (library : List ListedCell) (dirs own_dirs : ℕ → Option Dir) (pins : ℕ → PinSig) (v w : ℕ → Sig) (kept : Sig) (cell own : NamedCell) (p : Place) → SameCell v w cell own → BothMeet (λ n m. SameRuleAt dirs pins p n m) cell.output own.output
    → MatchOption own.output ⊤ (λ (m : NetId). w m.0 ≡ given_value library (dir_at p m.0) own.kind (feed_values w own.feeds) kept (w m.0) (pins m.0)) ↔ FlatMeets library dirs pins v kept cell
stays_same library dirs own_dirs pins v w kept cell own p s rule = go cell.output own.output s.output rule
  where
    go : (one other : Option NetId) → SameOutput v w one other → BothMeet (λ n m. SameRuleAt dirs pins p n m) one other
        → MatchOption other ⊤ (λ (m : NetId). w m.0 ≡ given_value library (dir_at p m.0) own.kind (feed_values w own.feeds) kept (w m.0) (pins m.0)) ↔ MatchOption one ⊤ (λ (n : NetId). meets_at library dirs pins v kept cell n)
    go None None same r = (λ h. tt, λ h. tt)
    go None (Some m) same r = absurd same
    go (Some n) None same r = absurd same
    go (Some n) (Some m) same r =
        let rule_is : given_value library (dirs n.0) cell.kind (feed_values v cell.feeds) kept (v n.0) (pins n.0) ≡ given_value library (dir_at p m.0) own.kind (feed_values w own.feeds) kept (w m.0) (pins m.0) =
        ap (λ (d : Option Dir). given_value library d cell.kind (feed_values v cell.feeds) kept (v n.0) (pins n.0)) r.dir
        ∙ given_pin library (dir_at p m.0) cell.kind (feed_values v cell.feeds) kept (v n.0) (pins n.0) (pins m.0) r.pin
        ∙ rw (s.kind, s.feeds, same) refl in
        (λ h. same ∙ h ∙ sym rule_is, λ h. sym same ∙ h ∙ rule_is)

pub entries_meet_as_cells : EntriesMeetAsCells
entries_meet_as_cells library names dirs pins v value kept (stays p i) reads rule = stays_same library dirs (λ n. dir_at p n) pins v (value p.at) kept (cell_of library names (flat_item p.at i)) (cell_of library (declared_names p.here) i) p (same_cell library names v value p i reads) rule
entries_meet_as_cells library names dirs pins v value kept (carries p b q o) reads rule =
    let n : NetId = net_of names (flat_bit p.at b) in
    let input : feed_value v (feed_of names (flat_operand q.at o)) ≡ feed_value (value q.at) (feed_of (declared_names q.here) o) = feed_reads names v value q o reads.1 in
    let given : given_value library (dirs n.0) kind.Assign (feed_value v (feed_of names (flat_operand q.at o)) ∷ []) kept (v n.0) (pins n.0) ≡ feed_value v (feed_of names (flat_operand q.at o)) = given_inside library (dirs n.0) kind.Assign (feed_value v (feed_of names (flat_operand q.at o)) ∷ []) kept (v n.0) (pins n.0) rule in
    (λ h. reads.0.0 ∙ h ∙ sym input ∙ sym given, λ h. sym reads.0.0 ∙ h ∙ given ∙ input)
