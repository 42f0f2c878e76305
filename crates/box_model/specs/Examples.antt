-- Small modules, opened and closed, and what is at fault in others. Own.
use Rattle.std.specs.Prelude.{◌≡◌, ℕ, zero, suc, true, false, List, [], ◌∷◌, ◌++◌, codes, Option, Some, None}
use Rattle.cell_library.specs.declared.listed.Body.TheVariants as body
use Rattle.cell_library.specs.declared.listed.Step.TheVariants as step
use Rattle.cell_library.specs.declared.listed.ListedCell.{ListedCell}
use Rattle.verilog_tree.specs.declared.tree.GateKind.TheVariants as gate
use Rattle.verilog_tree.specs.declared.tree.Range.{Range}
use Rattle.verilog_tree.specs.declared.tree.Bit.{Bit}
use Rattle.verilog_tree.specs.declared.tree.Operand.{Operand}
use Rattle.verilog_tree.specs.declared.tree.Operand.TheVariants as operand
use Rattle.verilog_tree.specs.declared.tree.Link.{Link}
use Rattle.verilog_tree.specs.declared.tree.Port.{Port}
use Rattle.verilog_tree.specs.declared.tree.Dir.{Dir}
use Rattle.verilog_tree.specs.declared.tree.Dir.TheVariants as dir
use Rattle.verilog_tree.specs.declared.tree.Wire.{Wire}
use Rattle.verilog_tree.specs.declared.tree.Item.{Item}
use Rattle.verilog_tree.specs.declared.tree.Item.TheVariants as item
use Rattle.verilog_tree.specs.declared.tree.Module.{Module}
use Rattle.box_model.specs.declared.boxes.BoxLibrary.{BoxLibrary}
use Rattle.box_model.specs.declared.boxes.BoxPort.{BoxPort}
use Rattle.box_model.specs.declared.boxes.BoxDir.TheVariants.{Takes, Gives}
use Rattle.box_model.specs.declared.fault.BoxFault.TheVariants.{BoxUnknown, BoxLink, BoxName}
use Rattle.box_model.specs.Opened.{opened, origins}
use Rattle.box_model.specs.Closed.{closed}
use Rattle.box_model.specs.Faults.{box_fault}
use Rattle.box_model.specs.Laws.{IsInShape, CanClose}

-- Parts of modules.

abbrev net : List ℕ → Operand
net name = operand.Bit (record { net = name; index = None })

abbrev whole : List ℕ → Bit
whole name = record { net = name; index = None }

abbrev at : List ℕ → ℕ → Bit
at name index = record { net = name; index = Some index }

abbrev down : ℕ → Option Range
down left = Some (record { left = left; right = 0 })

abbrev to : List ℕ → Operand → Link
to port o = record { port = port; operand = Some o }

abbrev port : List ℕ → Dir → Option Range → Port
port name d range = record { name = name; dir = d; range = range }

abbrev scalar : List ℕ → Dir → Port
scalar name d = port name d None

abbrev wire : List ℕ → Option Range → Wire
wire name range = record { name = name; range = range }

abbrev instance : List ℕ → List ℕ → List Link → Item
instance cell name links = item.Instance (record { cell = cell; name = name; links = links })

abbrev buffer : List ℕ → Bit → Operand → Item
buffer name output input = item.Gate (record { kind = gate.Buf; name = Some name; output = output; inputs = input ∷ [] })

-- Parts of libraries.

abbrev gives : List ℕ → Option Range → BoxPort
gives name range = record { name = name; dir = Gives; range = range }

abbrev takes : List ℕ → Option Range → BoxPort
takes name range = record { name = name; dir = Takes; range = range }

-- a box is listed as a gate without inputs
abbrev listed : List ℕ → ListedCell
listed name = record { name = name; output = codes "Y"; inputs = []; body = body.Gate (step.Const false ∷ []) }

abbrev with_box : List ℕ → List BoxPort → BoxLibrary
with_box name ports = record { cells = listed name ∷ []; boxes = record { name = name; ports = ports } ∷ []; cuts = [] }

abbrev with_cut : List ℕ → BoxLibrary
with_cut name = record { cells = []; boxes = []; cuts = name ∷ [] }

-- A reset synchroniser, whose second flip-flop is cut.

abbrev first_stage : Item
first_stage = instance (codes "DFFR") (codes "s1") (to (codes "D") (operand.Const true) ∷ to (codes "CK") (net (codes "ck")) ∷ to (codes "RN") (net (codes "rstn")) ∷ to (codes "Q") (net (codes "a")) ∷ [])

abbrev second_stage : List Link → Item
second_stage more = instance (codes "DFFR") (codes "s2") ((to (codes "D") (net (codes "a")) ∷ to (codes "CK") (net (codes "ck")) ∷ to (codes "RN") (net (codes "rstn")) ∷ []) ++ more)

abbrev cleared : Item
cleared = instance (codes "DFFR") (codes "f") (to (codes "D") (net (codes "d")) ∷ to (codes "CK") (net (codes "ck")) ∷ to (codes "RN") (net (codes "r")) ∷ to (codes "Q") (net (codes "q")) ∷ [])

abbrev synchroniser : List Port → List Item → Module
synchroniser more items = record {
  name = codes "rs";
  ports = (scalar (codes "ck") dir.Input ∷ scalar (codes "rstn") dir.Input ∷ scalar (codes "d") dir.Input ∷ scalar (codes "q") dir.Output ∷ []) ++ more;
  wires = wire (codes "a") None ∷ wire (codes "r") None ∷ [];
  items = items;
}

abbrev whole_synchroniser : Module
whole_synchroniser = synchroniser [] (first_stage ∷ second_stage (to (codes "Q") (net (codes "r")) ∷ []) ∷ cleared ∷ [])

abbrev pub SynchroniserOpens : Type 0
SynchroniserOpens = opened (with_cut (codes "s2")) 4 whole_synchroniser
    ≡ synchroniser (scalar (codes "s2.Q") dir.Input ∷ []) (first_stage ∷ second_stage [] ∷ item.Assign (whole (codes "r")) (net (codes "s2.Q")) ∷ cleared ∷ [])

abbrev pub SynchroniserCloses : Type 0
SynchroniserCloses = closed (with_cut (codes "s2")) (opened (with_cut (codes "s2")) 4 whole_synchroniser) ≡ whole_synchroniser

abbrev pub SynchroniserOrigins : Type 0
SynchroniserOrigins = origins (with_cut (codes "s2")) whole_synchroniser ≡ 0 ∷ 1 ∷ 1 ∷ 2 ∷ []

abbrev pub NoSuchFlop : Type 0
NoSuchFlop = box_fault (with_cut (codes "g")) whole_synchroniser ≡ Some (BoxUnknown (codes "g"))

-- A clock gate, whose test input is linked to nothing.

abbrev gates : BoxLibrary
gates = with_box (codes "ICG") (gives (codes "GCK") None ∷ takes (codes "CK") None ∷ takes (codes "E") None ∷ takes (codes "TE") None ∷ [])

abbrev gated_flop : Item
gated_flop = instance (codes "DFF") (codes "f") (to (codes "D") (net (codes "d")) ∷ to (codes "CK") (net (codes "g")) ∷ to (codes "Q") (net (codes "q")) ∷ [])

abbrev gated : List Port → List Link → List Item → Module
gated more links items = record {
  name = codes "cg";
  ports = (scalar (codes "ck") dir.Input ∷ scalar (codes "en") dir.Input ∷ scalar (codes "d") dir.Input ∷ scalar (codes "q") dir.Output ∷ []) ++ more;
  wires = wire (codes "g") None ∷ [];
  items = instance (codes "ICG") (codes "i") links ∷ (items ++ gated_flop ∷ []);
}

abbrev pub GateOpens : Type 0
GateOpens = opened gates 4 (gated [] (to (codes "CK") (net (codes "ck")) ∷ to (codes "E") (net (codes "en")) ∷ to (codes "GCK") (net (codes "g")) ∷ []) [])
    ≡ gated (scalar (codes "i.GCK") dir.Input ∷ scalar (codes "i.CK") dir.Output ∷ scalar (codes "i.E") dir.Output ∷ []) []
    (item.Assign (whole (codes "g")) (net (codes "i.GCK")) ∷ item.Assign (whole (codes "i.CK")) (net (codes "ck")) ∷ item.Assign (whole (codes "i.E")) (net (codes "en")) ∷ [])

-- A full adder, whose links stand in another order than its ports.

abbrev adders : BoxLibrary
adders = with_box (codes "FA") (gives (codes "S") None ∷ gives (codes "CO") None ∷ takes (codes "A") None ∷ takes (codes "B") None ∷ takes (codes "CI") None ∷ [])

abbrev adder : List Link → Module
adder links = record {
  name = codes "ad";
  ports = scalar (codes "a") dir.Input ∷ scalar (codes "b") dir.Input ∷ scalar (codes "c") dir.Input ∷ scalar (codes "s") dir.Output ∷ scalar (codes "k") dir.Output ∷ [];
  wires = [];
  items = instance (codes "FA") (codes "u") links ∷ [];
}

abbrev pub AdderCloses : Type 0
AdderCloses =
    closed adders (opened adders 5 (adder (to (codes "CO") (net (codes "k")) ∷ to (codes "A") (net (codes "a")) ∷ to (codes "B") (net (codes "b")) ∷ to (codes "CI") (net (codes "c")) ∷ to (codes "S") (net (codes "s")) ∷ [])))
    ≡ adder (to (codes "S") (net (codes "s")) ∷ to (codes "CO") (net (codes "k")) ∷ to (codes "A") (net (codes "a")) ∷ to (codes "B") (net (codes "b")) ∷ to (codes "CI") (net (codes "c")) ∷ [])

abbrev pub UnknownPort : Type 0
UnknownPort = box_fault adders (adder (to (codes "Z") (net (codes "a")) ∷ [])) ≡ Some (BoxLink (codes "u") (codes "Z"))

abbrev pub OutputAtConstant : Type 0
OutputAtConstant = box_fault adders (adder (to (codes "S") (operand.Const true) ∷ [])) ≡ Some (BoxLink (codes "u") (codes "S"))

abbrev pub LinkedTwice : Type 0
LinkedTwice = box_fault adders (adder (to (codes "A") (net (codes "a")) ∷ record { port = codes "A"; operand = None } ∷ [])) ≡ Some (BoxLink (codes "u") (codes "A"))

-- A memory behind boundary cells: the cells part its address, and its data behind it; the output comes back whole.

abbrev memories : BoxLibrary
memories = with_box (codes "RAM4") (gives (codes "Q") (down 3) ∷ takes (codes "A") (down 1) ∷ takes (codes "D") (down 3) ∷ takes (codes "WE") None ∷ takes (codes "CK") None ∷ [])

abbrev memory : List Port → List Wire → List Link → List Item → Module
memory more wires links items = record {
  name = codes "rm";
  ports = (port (codes "a") dir.Input (down 1) ∷ port (codes "d") dir.Input (down 3) ∷ scalar (codes "we") dir.Input ∷ scalar (codes "ck") dir.Input ∷ []) ++ more;
  wires = (wire (codes "w") (down 3) ∷ wire (codes "n1") None ∷ wire (codes "n0") None ∷ []) ++ wires;
  items = instance (codes "RAM4") (codes "u") links ∷ items;
}

abbrev hidden_of_memory : List Port
hidden_of_memory = scalar (codes "u.WE") dir.Output ∷ scalar (codes "u.CK") dir.Output ∷ port (codes "u.Q") dir.Input (down 3) ∷ port (codes "u.A") dir.Output (down 1) ∷ port (codes "u.D") dir.Output (down 3) ∷ []

abbrev bits_down : ℕ → (ℕ → Item) → List Item
bits_down zero each = each zero ∷ []
bits_down (suc n) each = each (suc n) ∷ bits_down n each

abbrev controls : List Item
controls = item.Assign (whole (codes "u.WE")) (net (codes "we")) ∷ item.Assign (whole (codes "u.CK")) (net (codes "ck")) ∷ []

abbrev answers : List Item
answers = bits_down 3 (λ k. item.Assign (at (codes "w") k) (operand.Bit (at (codes "u.Q") k)))

abbrev data_bits : List Item
data_bits = bits_down 3 (λ k. item.Assign (at (codes "u.D") k) (operand.Bit (at (codes "d") k)))

abbrev parted_address : List Item
parted_address = item.Assign (at (codes "u.A") 1) (net (codes "n1")) ∷ item.Assign (at (codes "u.A") 0) (net (codes "n0")) ∷ []

abbrev parted : Module
parted = memory hidden_of_memory [] [] (controls ++ (answers ++ (parted_address ++ data_bits)))

abbrev pub MemoryCloses : Type 0
MemoryCloses = closed memories parted
    ≡ memory [] (wire (codes "u.A") (down 1) ∷ wire (codes "u.D") (down 3) ∷ [])
    (to (codes "WE") (net (codes "we")) ∷ to (codes "CK") (net (codes "ck")) ∷ to (codes "Q") (net (codes "w")) ∷ to (codes "A") (net (codes "u.A")) ∷ to (codes "D") (net (codes "u.D")) ∷ [])
    (parted_address ++ data_bits)

abbrev pub MemoryOpensAgain : Type 0
MemoryOpensAgain = opened memories 4 (closed memories parted) ≡ parted

-- what the laws ask of it
abbrev pub MemoryIsInShape : Type 0
MemoryIsInShape = IsInShape memories 4 parted

abbrev pub MemoryCanClose : Type 0
MemoryCanClose = CanClose memories parted

abbrev pub MemoryIsClear : Type 0
MemoryIsClear = box_fault memories (closed memories parted) ≡ None

abbrev pub BitAtVector : Type 0
BitAtVector = box_fault memories (memory [] [] (to (codes "A") (operand.Bit (at (codes "a") 1)) ∷ []) []) ≡ Some (BoxLink (codes "u") (codes "A"))

abbrev pub OtherWidth : Type 0
OtherWidth = box_fault memories (memory [] [] (to (codes "A") (net (codes "d")) ∷ []) []) ≡ Some (BoxLink (codes "u") (codes "A"))

abbrev pub ConstantAtVector : Type 0
ConstantAtVector = box_fault memories (memory [] [] (to (codes "A") (operand.Const false) ∷ []) []) ≡ Some (BoxLink (codes "u") (codes "A"))

abbrev pub OwnPortIsHidden : Type 0
OwnPortIsHidden = box_fault memories (memory (scalar (codes "u.D") dir.Input ∷ []) [] [] []) ≡ Some (BoxName (codes "u.D"))

abbrev pub UndeclaredIsHidden : Type 0
UndeclaredIsHidden = box_fault memories (memory [] [] [] (item.Assign (whole (codes "n1")) (net (codes "u.WE")) ∷ [])) ≡ Some (BoxName (codes "u.WE"))

-- A box whose output is joined by a wire of its hidden name, which others read: it comes back by the wire, though an assign
-- of it stands right behind.

abbrev sources : BoxLibrary
sources = with_box (codes "SRC") (gives (codes "Q") None ∷ [])

abbrev source : Module
source = record {
  name = codes "so";
  ports = scalar (codes "y") dir.Output ∷ scalar (codes "z") dir.Output ∷ [];
  wires = wire (codes "u.Q") None ∷ [];
  items = instance (codes "SRC") (codes "u") (to (codes "Q") (net (codes "u.Q")) ∷ []) ∷ item.Assign (whole (codes "y")) (net (codes "u.Q")) ∷ buffer (codes "b") (whole (codes "z")) (net (codes "u.Q")) ∷ [];
}

abbrev pub SourceComesBack : Type 0
SourceComesBack = closed sources (opened sources 2 source) ≡ source

abbrev pub SourceIsClear : Type 0
SourceIsClear = box_fault sources source ≡ None
