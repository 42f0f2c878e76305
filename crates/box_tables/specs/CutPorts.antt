-- own: the ports that are cut at instances, and the tables of a library.
use Rattle.std.specs.Prelude.{◌≡◌, ℕ, Bool, not, List, map, Option, None, codes, if◌then◌else◌}
use Rattle.std.specs.Option.{option_map}
use Rattle.verilog_tree.specs.declared.tree.Instance.{Instance}
use Rattle.cell_library.specs.declared.Kind.{Kind}
use Rattle.cell_library.specs.declared.listed.ListedCell.{ListedCell}
use Rattle.box_model.specs.declared.boxes.BoxCell.{BoxCell}
use Rattle.box_model.specs.declared.boxes.BoxLibrary.{BoxLibrary}
use Rattle.box_model.specs.declared.boxes.BoxPort.{BoxPort}
use Rattle.link_model.specs.Lists.{has_name}
use Rattle.box_model.specs.Ports.{is_narrow, narrow_first, given_scalar, output_of_kind, flop_output}

abbrev pub box_port_names : List BoxPort → List (List ℕ)
box_port_names ports = map (λ (p : BoxPort). p.name) ports

abbrev pub box_names : List BoxCell → List (List ℕ)
box_names boxes = map (λ (b : BoxCell). b.name) boxes

abbrev pub cell_names : List ListedCell → List (List ℕ)
cell_names cells = map (λ (c : ListedCell). c.name) cells

-- a port of one bit, or one that isn't
abbrev pub is_of : Bool → BoxPort → Bool
is_of narrow p = if narrow then is_narrow p else not (is_narrow p)

abbrev pub cut_in_box : BoxCell → List BoxPort
cut_in_box b = narrow_first b.ports

abbrev pub cut_in_flop : ListedCell → List BoxPort
cut_in_flop c = given_scalar c.output

-- the ports of boxes and of outputs of cells, and the names of all, are those of the library
pub record HoldsLibrary (B : BoxLibrary) (boxes cells cuts : List (List ℕ)) (box_ports outputs : List (List BoxPort)) (own : List BoxPort) : Type 0 where
  pub boxes_are : boxes ≡ box_names B.boxes
  pub cells_are : cells ≡ cell_names B.cells
  pub cuts_are : cuts ≡ B.cuts
  pub box_ports_are : box_ports ≡ map cut_in_box B.boxes
  pub outputs_are : outputs ≡ map cut_in_flop B.cells
  pub own_is : own ≡ given_scalar (codes "Q")

-- at a flip-flop of a kind
abbrev pub cut_in_kind : BoxLibrary → Kind → Option (List BoxPort)
cut_in_kind B kind = option_map given_scalar (output_of_kind B.cells kind)

-- at an instance whose name is cut
abbrev pub cut_at : BoxLibrary → Instance → Option (List BoxPort)
cut_at B i = if has_name B.cuts i.name then option_map given_scalar (flop_output B i.cell) else None
