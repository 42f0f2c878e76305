-- What the table of the nets between finds.
use Rattle.std.proofs.Common.{◌≡◌, ℕ, Bool, true, false, List, [], ◌∷◌, map, position, find, get_or, refl, sym, ◌∙◌, ap, Some, None, option_map}
use Rattle.std.specs.Borrow.{Bor}
use Rattle.std.specs.Map.{lookup}
use Rattle.std.specs.Str.{bytes_eq}
use Rattle.bsdl_port_rules.proofs.Tables.{found, not_found, position-map}
use Rattle.texts.specs.Repeated.{texts}
use Rattle.strip_model.specs.declared.Side.{Side}
use Rattle.strip_model.specs.Core.{find_side}
use Rattle.netlist_recovery.specs.Tables.{FindsSides}

key_of : List ℕ → Bor (List ℕ)
key_of name = record { ref_ptr = (0, 0); now = name }

pub finds_sides : (sides : List Side) (keys : List (Bor (List ℕ))) (entries : List (Bor (List ℕ) × ℕ)) → texts keys ≡ map (λ (side : Side). side.net) sides
    → ((k : Bor (List ℕ)) → lookup (λ (key : Bor (List ℕ)). bytes_eq k.now key.now) entries ≡ position (λ (j : Bor (List ℕ)). bytes_eq k.now j.now) keys) → FindsSides sides entries
unfolding key_of
finds_sides sides keys entries names finds = record {
  places = λ name.
      finds (key_of name)
      ∙ sym (position-map (bytes_eq name) (λ (j : Bor (List ℕ)). j.now) keys)
      ∙ ap (position (bytes_eq name)) names
      ∙ position-map (bytes_eq name) (λ (side : Side). side.net) sides;
}

find_is : (name : List ℕ) (sides : List Side) → option_map (λ (side : Side). side.core) (find (λ (side : Side). bytes_eq name side.net) sides) ≡ find_side sides name
find_is name [] = refl
find_is name (side ∷ sides) = by (bytes_eq name side.net) refl (find_is name sides)
  where
    by : (b : Bool) → bytes_eq name side.net ≡ b → option_map (λ (s : Side). s.core) (find (λ (s : Side). bytes_eq name s.net) sides) ≡ find_side sides name
        → option_map (λ (s : Side). s.core) (find (λ (s : Side). bytes_eq name s.net) (side ∷ sides)) ≡ find_side (side ∷ sides) name
    by true e rest = rw e refl
    by false e rest = rw e rest

pub side_found : (name : List ℕ) (sides : List Side) (i : ℕ) (side : Side) → Some i ≡ position (λ (s : Side). bytes_eq name s.net) sides → side ≡ get_or sides i side → Some side.core ≡ find_side sides name
side_found name sides i side place is =
    ap (option_map (λ (s : Side). s.core)) (found (λ (s : Side). bytes_eq name s.net) sides i side place is) ∙ find_is name sides

pub side_missing : (name : List ℕ) (sides : List Side) → None ≡ position (λ (s : Side). bytes_eq name s.net) sides → None ≡ find_side sides name
side_missing name sides none =
    ap (option_map (λ (s : Side). s.core)) (not_found (λ (s : Side). bytes_eq name s.net) sides none) ∙ find_is name sides
