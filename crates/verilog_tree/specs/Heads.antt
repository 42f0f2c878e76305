-- The key words that begin parts of a module.
use Rattle.std.specs.Prelude.{Option, Some, None}
use Rattle.verilog_lexicon.specs.declared.reserved.Reserved.{Reserved}
use Rattle.verilog_lexicon.specs.declared.reserved.Reserved.TheVariants as key
use Rattle.verilog_tree.specs.declared.tree.Dir.{Dir}
use Rattle.verilog_tree.specs.declared.tree.Dir.TheVariants as dir
use Rattle.verilog_tree.specs.declared.tree.GateKind.TheVariants as gate
use Rattle.verilog_tree.specs.declared.reading.heads.ItemHead.{ItemHead}
use Rattle.verilog_tree.specs.declared.reading.heads.ItemHead.TheVariants as head

abbrev pub is_module : Reserved → Option (Unit {0})
is_module key.Module = Some tt
is_module _ = None

abbrev pub is_wire : Reserved → Option (Unit {0})
is_wire key.Wire = Some tt
is_wire _ = None

abbrev pub dir_of : Reserved → Option Dir
dir_of key.Input = Some dir.Input
dir_of key.Output = Some dir.Output
dir_of key.Inout = Some dir.Inout
dir_of _ = None

abbrev pub item_head_of : Reserved → Option ItemHead
item_head_of key.Input = Some (head.Direction dir.Input)
item_head_of key.Output = Some (head.Direction dir.Output)
item_head_of key.Inout = Some (head.Direction dir.Inout)
item_head_of key.Wire = Some head.Wire
item_head_of key.Assign = Some head.Assign
item_head_of key.And = Some (head.Gate gate.And)
item_head_of key.Or = Some (head.Gate gate.Or)
item_head_of key.Nand = Some (head.Gate gate.Nand)
item_head_of key.Nor = Some (head.Gate gate.Nor)
item_head_of key.Xor = Some (head.Gate gate.Xor)
item_head_of key.Xnor = Some (head.Gate gate.Xnor)
item_head_of key.Buf = Some (head.Gate gate.Buf)
item_head_of key.Not = Some (head.Gate gate.Not)
item_head_of key.Bufif0 = Some (head.Gate gate.Bufif0)
item_head_of key.Bufif1 = Some (head.Gate gate.Bufif1)
item_head_of key.Endmodule = Some head.End
item_head_of _ = None
