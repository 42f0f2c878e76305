-- An item of the core, told: what stands behind its operands is what the cell had.
use Rattle.std.proofs.Common.{◌≡◌, ℕ, false, List, [], ◌∷◌, ◌++◌, map, refl, sym, ◌∙◌, ap, Option, Some, None}
use Rattle.std.specs.Option.{option_map}
use Rattle.std.proofs.lemmas.List.{map-append}
use Rattle.netlist_model.specs.declared.NetId.{NetId}
use Rattle.netlist_model.specs.declared.Feed.{Feed}
use Rattle.netlist_model.specs.declared.Feed.TheVariants.{Net}
use Rattle.netlist_model.specs.Lists.{CellView}
use Rattle.verilog_tree.specs.declared.tree.Bit.{Bit}
use Rattle.verilog_tree.specs.declared.tree.GateKind.{GateKind}
use Rattle.verilog_tree.specs.declared.tree.Link.{Link}
use Rattle.verilog_tree.specs.declared.tree.Operand.{Operand}
use Rattle.verilog_tree.specs.declared.tree.Operand.TheVariants as operand
use Rattle.cell_library.specs.declared.listed.ListedCell.{ListedCell}
use Rattle.cell_library.specs.Library.{cell_name, operand_ports, output_port}
use Rattle.netlist_unlink.specs.Trees.{Naming, bit_of, operand_of, output_bit, first_operand, operand_links, output_links, gate_of, cell_text, written, item_of}
use Rattle.strip_model.specs.declared.Side.{Side}
use Rattle.strip_model.specs.Core.{core_operand, bit_or, core_bit, core_link, core_item}
use Rattle.strip_model.specs.Pairs.{Pair, twice}
use Rattle.strip_model.specs.Chain.{written_side}
use Rattle.strip_model.proofs.Nets.{AreNets, core_operand_is, no_name_behind}

-- the links of operands
abbrev links_of : List (List ℕ) → List Operand → List Link
links_of [] operands = []
links_of (port ∷ ports) [] = []
links_of (port ∷ ports) (one ∷ operands) = record { port = port; operand = Some one } ∷ links_of ports operands

links_written : (naming : Naming) (ports : List (List ℕ)) (feeds : List Feed) → operand_links naming ports feeds ≡ links_of ports (map (operand_of naming) feeds)
links_written naming [] feeds = refl
links_written naming (port ∷ ports) [] = refl
links_written naming (port ∷ ports) (feed ∷ feeds) = ap (λ (links : List Link). record { port = port; operand = Some (operand_of naming feed) } ∷ links) (links_written naming ports feeds)

links_told : (sides : List Side) (ports : List (List ℕ)) (operands : List Operand) → map (core_link sides) (links_of ports operands) ≡ links_of ports (map (core_operand sides) operands)
links_told sides [] operands = refl
links_told sides (port ∷ ports) [] = refl
links_told sides (port ∷ ports) (one ∷ operands) = ap (λ (links : List Link). record { port = port; operand = Some (core_operand sides one) } ∷ links) (links_told sides ports operands)

abbrev first_of : List Operand → Operand
first_of [] = operand.Const false
first_of (one ∷ operands) = one

first_written : (naming : Naming) (feeds : List Feed) → first_operand naming feeds ≡ first_of (map (operand_of naming) feeds)
first_written naming [] = refl
first_written naming (feed ∷ feeds) = refl

first_told : (sides : List Side) (operands : List Operand) → core_operand sides (first_of operands) ≡ first_of (map (core_operand sides) operands)
first_told sides [] = refl
first_told sides (one ∷ operands) = refl

operands_told : (naming : Naming) (pairs : List Pair) → AreNets naming pairs → (feeds : List Feed)
    → map (core_operand (map (written_side naming) pairs)) (map (operand_of naming) feeds) ≡ map (operand_of naming) (map (twice pairs) feeds)
operands_told naming pairs are [] = refl
operands_told naming pairs are (feed ∷ feeds) =
    let here = core_operand_is naming pairs are feed in
    let rest = operands_told naming pairs are feeds in rw (here, rest) refl

-- own: how a cell is written before and after
pub record IsWrittenAlike (naming own : Naming) (n m : ℕ) (cell : CellView) : Type 0 where
  pub library : naming.library ≡ own.library
  pub name : option_map (cell_text naming n) cell.name ≡ option_map (cell_text own m) cell.name
  pub feeds : map (operand_of naming) cell.feeds ≡ map (operand_of own) cell.feeds
  pub output : (net : NetId) → cell.output ≡ Some net → bit_of naming net ≡ bit_of own net

abbrev net_of : NetId → Feed
net_of net = Net net

pub item_told : (naming own : Naming) (pairs : List Pair) → AreNets naming pairs → (n m : ℕ) (cell : CellView) (feeds : List Feed) (output : Option NetId)
    → map (twice pairs) feeds ≡ cell.feeds → option_map (λ (net : NetId). twice pairs (Net net)) output ≡ option_map net_of cell.output → IsWrittenAlike naming own n m cell
    → core_item (map (written_side naming) pairs) (item_of naming n (record { kind = cell.kind; name = cell.name; feeds = feeds; output = output })) ≡ item_of own m cell
item_told naming own pairs are n m cell feeds output fed out alike =
    at (gate_of cell.kind) (cell_name naming.library cell.kind) ∙ ap (λ (l : List ListedCell). written own m cell (gate_of cell.kind) (cell_name l cell.kind)) alike.library
  where
    S : List Side
    S = map (written_side naming) pairs

    moved : CellView
    moved = record { kind = cell.kind; name = cell.name; feeds = feeds; output = output }

    all : map (core_operand S) (map (operand_of naming) feeds) ≡ map (operand_of own) cell.feeds
    all = operands_told naming pairs are feeds ∙ ap (map (operand_of naming)) fed ∙ alike.feeds

    same_net : (net other : NetId) → Net net ≡ Net other → net ≡ other
    same_net net other e = cc

    -- the net that is driven
    driven : (was now : Option NetId) → cell.output ≡ now → option_map (λ (net : NetId). twice pairs (Net net)) was ≡ option_map net_of now
        → core_bit S (output_bit naming was) ≡ output_bit own now
    driven None None here e = no_name_behind naming pairs
    driven None (Some net) here e = absurd (cc)
    driven (Some net) None here e = absurd (cc)
    driven (Some net) (Some other) here e =
        let is : twice pairs (Net net) ≡ Net other = inside (twice pairs (Net net)) (Net other) e in
        let told : core_operand S (operand.Bit (bit_of naming net)) ≡ operand.Bit (bit_of naming other) = core_operand_is naming pairs are (Net net) ∙ ap (operand_of naming) is in
        ap (bit_or (bit_of naming net)) told ∙ alike.output other here
      where
        inside : (a b : Feed) → ◌≡◌ {A = Option Feed} (Some a) (Some b) → a ≡ b
        inside a b h = cc

    links : (port : Option (List ℕ)) (was now : Option NetId) → cell.output ≡ now → option_map (λ (net : NetId). twice pairs (Net net)) was ≡ option_map net_of now
        → map (core_link S) (output_links naming port was) ≡ output_links own port now
    links None was now here e = refl
    links (Some port) None None here e = refl
    links (Some port) None (Some net) here e = absurd (cc)
    links (Some port) (Some net) None here e = absurd (cc)
    links (Some port) (Some net) (Some other) here e =
        let is : twice pairs (Net net) ≡ Net other = inside (twice pairs (Net net)) (Net other) e in
        let told : core_operand S (operand.Bit (bit_of naming net)) ≡ operand.Bit (bit_of own other) =
        core_operand_is naming pairs are (Net net) ∙ ap (operand_of naming) is ∙ ap (λ (b : Bit). operand.Bit b) (alike.output other here) in
        rw told refl
      where
        inside : (a b : Feed) → ◌≡◌ {A = Option Feed} (Some a) (Some b) → a ≡ b
        inside a b h = cc

    bit : core_bit S (output_bit naming output) ≡ output_bit own cell.output
    bit = driven output cell.output refl out

    links_by : (ports : List (List ℕ)) (port : Option (List ℕ)) → map (core_link S) (operand_links naming ports feeds ++ output_links naming port output)
        ≡ operand_links own ports cell.feeds ++ output_links own port cell.output
    links_by ports port =
        map-append (core_link S) (operand_links naming ports feeds) (output_links naming port output)
        ∙ ap (λ (more : List Link). map (core_link S) (operand_links naming ports feeds) ++ more) (links port output cell.output refl out)
        ∙ ap (λ (front : List Link). front ++ output_links own port cell.output)
        (ap (map (core_link S)) (links_written naming ports feeds) ∙ links_told S ports (map (operand_of naming) feeds)
        ∙ ap (links_of ports) all ∙ sym (links_written own ports cell.feeds))

    all_links : map (core_link S) (operand_links naming (operand_ports naming.library cell.kind) feeds ++ output_links naming (output_port naming.library cell.kind) output)
        ≡ operand_links own (operand_ports own.library cell.kind) cell.feeds ++ output_links own (output_port own.library cell.kind) cell.output
    all_links =
        links_by (operand_ports naming.library cell.kind) (output_port naming.library cell.kind)
        ∙ ap (λ (l : List ListedCell). operand_links own (operand_ports l cell.kind) cell.feeds ++ output_links own (output_port l cell.kind) cell.output) alike.library

    first : core_operand S (first_operand naming feeds) ≡ first_operand own cell.feeds
    first = ap (core_operand S) (first_written naming feeds) ∙ first_told S (map (operand_of naming) feeds) ∙ ap first_of all ∙ sym (first_written own cell.feeds)

    at : (gate : Option GateKind) (library : Option (List ℕ)) → core_item S (written naming n moved gate library) ≡ written own m cell gate library
    at (Some kind) library = rw (bit, all, alike.name) refl
    at None (Some name) = rw (all_links, alike.name) refl
    at None None = rw (bit, first) refl
