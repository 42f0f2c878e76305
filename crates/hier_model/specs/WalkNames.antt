-- Own: modules by their names, and what a table of them finds.
use Rattle.std.specs.Prelude.{◌≡◌, ℕ, List, map, position, Option}
use Rattle.std.specs.Borrow.{Bor}
use Rattle.std.specs.Map.{lookup}
use Rattle.std.specs.Str.{bytes_eq}
use Rattle.verilog_tree.specs.declared.tree.Module.{Module}
pub use Rattle.texts.specs.Repeated.{texts}

abbrev pub module_names : List Module → List (List ℕ)
module_names modules = map (λ (m : Module). m.name) modules

-- where the first module of a name stands
abbrev pub module_place : List Module → List ℕ → Option ℕ
module_place modules name = position (λ (m : Module). bytes_eq name m.name) modules

-- the place of the first module of each name stands under it
pub record FindsModules (modules : List Module) (entries : List (Bor (List ℕ) × ℕ)) : Type 0 where
  pub places : (name : List ℕ) → lookup (λ (k : Bor (List ℕ)). bytes_eq name k.now) entries ≡ module_place modules name
