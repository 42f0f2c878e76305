-- Own: what checks of flat names enter, and what a part of them comes to.
use Rattle.std.specs.Prelude.{◌≡◌, ℕ, List, [], ◌∷◌, ◌++◌, map, Option, None}
use Rattle.std.specs.List.{flat_map}
use Rattle.verilog_tree.specs.declared.tree.Bit.{Bit}
use Rattle.verilog_tree.specs.declared.tree.Port.{Port}
use Rattle.verilog_tree.specs.declared.tree.Wire.{Wire}
use Rattle.verilog_tree.specs.declared.tree.Module.{Module}
use Rattle.hier_model.specs.declared.fault.HierFault.{HierFault}
use Rattle.hier_model.specs.Names.{flat_name}
use Rattle.hier_model.specs.Entries.{Place}
use Rattle.hier_model.specs.Faults.{NameCheck, enters, refers, net_check, bad_name_after}

-- the names that were entered, behind these
abbrev pub seen_after : List (List ℕ) → List NameCheck → List (List ℕ)
seen_after seen [] = seen
seen_after seen (enters name ∷ checks) = seen_after (seen ++ name ∷ []) checks
seen_after seen (refers name ∷ checks) = seen_after seen checks

-- the first fault of these checks; where there is none, all their names are entered
pub record Checks (declared old : List (List ℕ)) (checks : List NameCheck) (fault : Option HierFault) (new : List (List ℕ)) : Type 0 where
  pub fault_is : fault ≡ bad_name_after declared old checks
  pub seen_is : fault ≡ None → new ≡ seen_after old checks

abbrev pub port_checks : List (List ℕ) → List Port → List NameCheck
port_checks at ports = map (λ (p : Port). enters (flat_name at p.name)) ports

abbrev pub wire_checks : List (List ℕ) → List Wire → List NameCheck
wire_checks at wires = map (λ (w : Wire). enters (flat_name at w.name)) wires

-- the ports and wires of a module at an occurrence
abbrev pub place_checks : List (List ℕ) → Module → List NameCheck
place_checks at m = port_checks at m.ports ++ wire_checks at m.wires

abbrev pub checks_at : Place → List NameCheck
checks_at p = place_checks p.at p.here

-- the nets that bits name and their module doesn't declare
abbrev pub net_checks : List (List ℕ) → Module → List Bit → List NameCheck
net_checks at m bits = flat_map (net_check at m) bits
