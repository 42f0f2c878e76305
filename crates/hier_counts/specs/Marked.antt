-- Own: the first that a test gives along the modules that are marked.
use Rattle.std.specs.Prelude.{List, [], ◌∷◌, Bool, true, false, Option, None}
use Rattle.texts.specs.First.{or_else}
use Rattle.verilog_tree.specs.declared.tree.Module.{Module}

abbrev pub first_marked : {X : Type 0} → (Module → Option X) → List Bool → List Module → Option X
first_marked test [] ms = None
first_marked test (b ∷ marks) [] = None
first_marked test (true ∷ marks) (m ∷ ms) = or_else (test m) (first_marked test marks ms)
first_marked test (false ∷ marks) (m ∷ ms) = first_marked test marks ms
