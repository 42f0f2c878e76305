-- own: instances of flip-flops, and cuts that are of none.
use Rattle.std.specs.Prelude.{ℕ, List, Option, Some, None, is_some, if◌then◌else◌}
use Rattle.verilog_tree.specs.declared.tree.Item.{Item}
use Rattle.verilog_tree.specs.declared.tree.Item.TheVariants as item
use Rattle.link_model.specs.Lists.{has_name}
use Rattle.box_model.specs.declared.fault.BoxFault.{BoxFault}
use Rattle.box_model.specs.declared.fault.BoxFault.TheVariants.{BoxUnknown}
use Rattle.box_model.specs.declared.boxes.BoxLibrary.{BoxLibrary}
use Rattle.box_model.specs.Ports.{flop_output}

-- the name of an instance of a flip-flop
abbrev pub flop_name : BoxLibrary → Item → Option (List ℕ)
flop_name B (item.Instance i) = if is_some (flop_output B i.cell) then Some i.name else None
flop_name B (item.Gate g) = None
flop_name B (item.Assign output input) = None

-- a cut that is none of these names
abbrev pub unknown_in : List (List ℕ) → List ℕ → Option BoxFault
unknown_in flops cut = if has_name flops cut then None else Some (BoxUnknown cut)
