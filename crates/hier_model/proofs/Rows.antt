-- The worked rows, by computation alone.
use Rattle.std.proofs.Common.{◌≡◌, ℕ, List, [], ◌∷◌, codes, Option, Some, None, refl}
use Rattle.verilog_tree.specs.declared.tree.Dir.TheVariants as dir
use Rattle.verilog_tree.specs.declared.tree.Range.{Range}
use Rattle.verilog_tree.specs.declared.tree.GateKind.TheVariants as gate
use Rattle.verilog_tree.specs.declared.tree.Bit.{Bit}
use Rattle.verilog_tree.specs.declared.tree.Operand.TheVariants as operand
use Rattle.verilog_tree.specs.declared.tree.Item.{Item}
use Rattle.verilog_tree.specs.declared.tree.Item.TheVariants as item
use Rattle.verilog_tree.specs.declared.tree.Module.{Module}
use Rattle.hier_model.specs.declared.fault.HierFault.TheVariants as fault
use Rattle.hier_model.specs.Faults.{hier_fault}
use Rattle.hier_model.specs.Entries.{level_limit}
use Rattle.hier_model.specs.Flat.{flat}

pair : Option Range
pair = Some (record { left = 1; right = 0 })

bit : List ℕ → ℕ → Bit
bit name k = record { net = name; index = Some k }

inverter : List ℕ → List ℕ → ℕ → Item
inverter i o k = item.Gate (record { kind = gate.Not; name = None; output = bit o k; inputs = operand.Bit (bit i k) ∷ [] })

inv : Module
inv = record {
  name = codes "inv";
  ports = record { name = codes "i"; dir = dir.Input; range = pair } ∷ record { name = codes "o"; dir = dir.Output; range = pair } ∷ [];
  wires = [];
  items = inverter (codes "i") (codes "o") 1 ∷ inverter (codes "i") (codes "o") 0 ∷ [];
}

top : Module
top = record {
  name = codes "top";
  ports = record { name = codes "a"; dir = dir.Input; range = pair } ∷ record { name = codes "y"; dir = dir.Output; range = pair } ∷ [];
  wires = [];
  items = item.Instance (record {
    cell = codes "inv";
    name = codes "u";
    links = record { port = codes "i"; operand = Some (operand.Bit (record { net = codes "a"; index = None })) } ∷ record { port = codes "o"; operand = Some (operand.Bit (record { net = codes "y"; index = None })) } ∷ [];
  }) ∷ [];
}

assign : List ℕ → List ℕ → ℕ → Item
assign output input k = item.Assign (bit output k) (operand.Bit (bit input k))

flat_top : Module
flat_top = record {
  name = codes "top";
  ports = top.ports;
  wires = record { name = codes "u/i"; range = pair } ∷ record { name = codes "u/o"; range = pair } ∷ [];
  items = assign (codes "u/i") (codes "a") 1 ∷ assign (codes "u/i") (codes "a") 0 ∷ inverter (codes "u/i") (codes "u/o") 1 ∷ inverter (codes "u/i") (codes "u/o") 0 ∷ assign (codes "y") (codes "u/o") 1 ∷ assign (codes "y") (codes "u/o") 0 ∷ [];
}

two_inverters : flat (inv ∷ top ∷ []) top ≡ flat_top
unfolding level_limit pair bit inverter inv top assign flat_top
two_inverters = refl

two_inverters_pass : hier_fault [] (inv ∷ top ∷ []) (codes "top") ≡ None
unfolding level_limit pair bit inverter inv top
two_inverters_pass = refl

ring : Module
ring = record { name = codes "a"; ports = []; wires = []; items = item.Instance (record { cell = codes "a"; name = codes "u"; links = [] }) ∷ [] }

ring_is_recursive : hier_fault [] (ring ∷ []) (codes "a") ≡ Some (fault.ModuleRecursive (codes "a"))
unfolding level_limit ring
ring_is_recursive = refl

other_is_missing : hier_fault [] (ring ∷ []) (codes "b") ≡ Some (fault.ModuleMissing (codes "b"))
unfolding level_limit ring
other_is_missing = refl
