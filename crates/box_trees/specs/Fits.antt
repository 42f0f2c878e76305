-- own: nets that have the bits of a port, and the first link at fault of an instance.
use Rattle.std.specs.Prelude.{ℕ, ◌==◌, ◌&&◌, Bool, List, [], Option, Some, None}
use Rattle.std.specs.Option.{option_map}
use Rattle.verilog_tree.specs.declared.tree.Range.{Range}
use Rattle.verilog_tree.specs.declared.tree.Instance.{Instance}
use Rattle.verilog_tree.specs.declared.tree.Module.{Module}
use Rattle.link_model.specs.Nets.{width}
use Rattle.box_model.specs.declared.fault.BoxFault.{BoxFault}
use Rattle.box_model.specs.declared.fault.BoxFault.TheVariants.{BoxLink}
use Rattle.box_model.specs.declared.boxes.BoxPort.{BoxPort}
use Rattle.box_model.specs.Faults.{is_one, holds_index, bad_link}

-- a net of this range, or its bit with the index, has the bits of the port
abbrev pub fits_range : BoxPort → Option ℕ → Option Range → Bool
fits_range p None range = width range == width p.range
fits_range p (Some index) range = is_one p && holds_index range index

abbrev pub instance_fault : Module → List BoxPort → Bool → Instance → Option BoxFault
instance_fault m ports whole i = option_map (BoxLink i.name) (bad_link m ports whole [] i.links)
