-- own: words of a library's lines, and what they name.
use Rattle.std.specs.Prelude.{ℕ, ◌&&◌, nat_le, Bool, true, false, List, [], ◌∷◌, codes, position, slice_index_or, Option, Some, None, if◌then◌else◌}
use Rattle.std.specs.Str.{bytes_eq}
use Rattle.cell_library.specs.declared.FlopKind.{FlopKind}
use Rattle.cell_library.specs.declared.Kind.{Kind}
use Rattle.cell_library.specs.declared.Kind.TheVariants.{Flop}
use Rattle.cell_library.specs.declared.listed.Step.{Step}
use Rattle.cell_library.specs.declared.listed.Step.TheVariants as step
use Rattle.cell_library.specs.Library.{own_kind_named}

-- a line's words
abbrev pub Words : Type 0
Words = List (List ℕ)

-- the word between the inputs and the steps
abbrev pub is_colon : List ℕ → Bool
is_colon word = bytes_eq word (codes ":")

-- 1 to 64 steps
abbrev pub is_step_count : ℕ → Bool
is_step_count count = nat_le 1 count && nat_le count 64

abbrev pub of_kind : Option Kind → Option FlopKind
of_kind (Some (Flop kind)) = Some kind
of_kind _ = None

-- the kind of flip-flop that a word names, of the six
abbrev pub flop_named : List ℕ → Option FlopKind
flop_named word = of_kind (own_kind_named word)

-- the operation or constant of a word
abbrev pub step_named : List ℕ → Option Step
step_named word =
    if bytes_eq word (codes "0") then Some (step.Const false)
    else if bytes_eq word (codes "1") then Some (step.Const true)
    else if bytes_eq word (codes "not") then Some step.Not
    else if bytes_eq word (codes "and") then Some step.And
    else if bytes_eq word (codes "or") then Some step.Or
    else if bytes_eq word (codes "xor") then Some step.Xor
    else if bytes_eq word (codes "mux") then Some step.Mux
    else None

abbrev pub input_or : Option ℕ → Option Step → Option Step
input_or (Some place) other = Some (step.Input place)
input_or None other = other

-- the step of a word: the input of this name, or else an operation or constant
abbrev pub step_of : Words → List ℕ → Option Step
step_of inputs word = input_or (position (λ name. bytes_eq name word) inputs) (step_named word)

-- the word of a step
abbrev pub step_word : Words → Step → List ℕ
step_word inputs (step.Input place) = slice_index_or inputs place []
step_word inputs (step.Const false) = codes "0"
step_word inputs (step.Const true) = codes "1"
step_word inputs step.Not = codes "not"
step_word inputs step.And = codes "and"
step_word inputs step.Or = codes "or"
step_word inputs step.Xor = codes "xor"
step_word inputs step.Mux = codes "mux"
