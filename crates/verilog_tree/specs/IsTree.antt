-- The trees that some text spells, by conditions on the tree alone.
-- IEEE Std 1364-2001: lexical conventions (names, numbers), data types, gate-level modelling.
use Rattle.std.specs.Prelude.{ℕ, ◌<◌, ◌≤◌, ◌^◌, List, length, IsTrue, IfSome}
use Rattle.std.specs.Bool.{IsFalse}
use Rattle.std.specs.List.{AllByRecursion}
use Rattle.verilog_tree.specs.declared.tree.Range.{Range}
use Rattle.verilog_tree.specs.declared.tree.Bit.{Bit}
use Rattle.verilog_tree.specs.declared.tree.Operand.{Operand}
use Rattle.verilog_tree.specs.declared.tree.Operand.TheVariants as operand
use Rattle.verilog_tree.specs.declared.tree.Link.{Link}
use Rattle.verilog_tree.specs.declared.tree.Port.{Port}
use Rattle.verilog_tree.specs.declared.tree.Wire.{Wire}
use Rattle.verilog_tree.specs.declared.tree.Gate.{Gate}
use Rattle.verilog_tree.specs.declared.tree.Instance.{Instance}
use Rattle.verilog_tree.specs.declared.tree.Item.{Item}
use Rattle.verilog_tree.specs.declared.tree.Item.TheVariants as item
use Rattle.verilog_tree.specs.declared.tree.Module.{Module}
use Rattle.verilog_tree.specs.Trees.{takes_inputs, is_port_net}

-- a byte of a name: one that is printed and no blank
pub record IsVisible (byte : ℕ) : Type 0 where
  pub low : 33 ≤ byte
  pub high : byte ≤ 126

-- a name of 1 to 255 such bytes; where it is no simple name, it is written escaped
pub record IsTreeName (name : List ℕ) : Type 0 where
  pub filled : 0 < length name
  pub short : length name ≤ 255
  pub visible : AllByRecursion IsVisible name

-- a number of at most nine digits (own)
abbrev pub IsTreeNumber : ℕ → Type 0
IsTreeNumber number = number < 10 ^ 9

pub record IsTreeRange (range : Range) : Type 0 where
  pub left : IsTreeNumber range.left
  pub right : IsTreeNumber range.right

pub record IsTreeBit (bit : Bit) : Type 0 where
  pub net : IsTreeName bit.net
  pub index : IfSome bit.index IsTreeNumber

abbrev pub IsTreeOperand : Operand → Type 0
IsTreeOperand (operand.Bit bit) = IsTreeBit bit
IsTreeOperand (operand.Const value) = Unit {0}

pub record IsTreePort (port : Port) : Type 0 where
  pub name : IsTreeName port.name
  pub range : IfSome port.range IsTreeRange

pub record IsTreeWire (wire : Wire) : Type 0 where
  pub name : IsTreeName wire.name
  pub range : IfSome wire.range IsTreeRange

-- a gate has an input, and as many as its kind takes
pub record IsTreeGate (gate : Gate) : Type 0 where
  pub name : IfSome gate.name IsTreeName
  pub output : IsTreeBit gate.output
  pub inputs : AllByRecursion IsTreeOperand gate.inputs
  pub reads : 0 < length gate.inputs
  pub takes : IsTrue (takes_inputs gate.kind (length gate.inputs))

pub record IsTreeLink (link : Link) : Type 0 where
  pub port : IsTreeName link.port
  pub operand : IfSome link.operand IsTreeOperand

pub record IsTreeInstance (instance : Instance) : Type 0 where
  pub cell : IsTreeName instance.cell
  pub name : IsTreeName instance.name
  pub links : AllByRecursion IsTreeLink instance.links

pub record IsTreeAssign (output : Bit) (input : Operand) : Type 0 where
  pub written : IsTreeBit output
  pub read : IsTreeOperand input

abbrev pub IsTreeItem : Item → Type 0
IsTreeItem (item.Gate gate) = IsTreeGate gate
IsTreeItem (item.Instance instance) = IsTreeInstance instance
IsTreeItem (item.Assign output input) = IsTreeAssign output input

-- a tree that some text spells
pub record IsTree (tree : Module) : Type 0 where
  pub name : IsTreeName tree.name
  pub ports : AllByRecursion IsTreePort tree.ports
  pub wires : AllByRecursion IsTreeWire tree.wires
  pub items : AllByRecursion IsTreeItem tree.items
  -- a wire with a port's name and range would be the port's net
  pub own_nets : AllByRecursion (λ wire. IsFalse (is_port_net tree.ports wire)) tree.wires
