-- That each valuation of the flat module's nets can be read as one of the hierarchy.
-- IEEE Std 1364-2001: hierarchical structures; values are those of one flat netlist.
use Rattle.std.specs.Prelude.{◌≡◌, ℕ, List, None}
use Rattle.signal_values.specs.declared.Sig.{Sig}
use Rattle.verilog_tree.specs.declared.tree.Module.{Module}
use Rattle.hier_model.specs.Faults.{bad_name_in}
use Rattle.hier_laws.specs.Solves.{Valuation, IsReading}

-- Where no flat name is at fault, values of the flat module's nets are those of a valuation of the hierarchy.
abbrev pub ReadingExists : Type 0
ReadingExists = (modules : List Module) (top : Module) (flat_value : ℕ → Sig) → bad_name_in modules top ≡ None → (value : Valuation) × IsReading modules top flat_value value
