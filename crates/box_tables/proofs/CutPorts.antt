-- Ports by their names.
use Rattle.std.proofs.Common.{◌≡◌, ℕ, Bool, true, false, ◌||◌, cond, if◌then◌else◌, find, List, [], ◌∷◌, map, Option, Some, None, Bor, refl, ap, sym, ◌∙◌}
use Rattle.std.specs.Prelude.{slice_get, codes, is_some, option_copied}
use Rattle.std.specs.Option.{option_map}
use Rattle.std.specs.List.{list_any}
use Rattle.std.specs.Str.{bytes_eq}
use Rattle.std.proofs.lemmas.Option.{slice_get-map}
use Rattle.list_laws.proofs.Bytes.{bytes_eq-sym}
use Rattle.list_laws.proofs.Lists.{any_map}
use Rattle.list_laws.proofs.Options.{none_some}
use Rattle.texts.specs.Repeated.{has_name}
use Rattle.cell_library.specs.declared.listed.ListedCell.{ListedCell}
use Rattle.cell_library.specs.declared.FlopKind.{FlopKind}
use Rattle.cell_library.specs.declared.Kind.{Kind}
use Rattle.cell_library.specs.declared.Kind.TheVariants.{And, Or, Nand, Nor, Xor, Xnor, Buf, Not, Bufif0, Bufif1, Assign, Mux2, Flop, Listed}
use Rattle.cell_library.specs.Gates.{is_flop}
use Rattle.cell_library.specs.Library.{output_port}
use Rattle.box_model.specs.declared.boxes.BoxCell.{BoxCell}
use Rattle.box_model.specs.declared.boxes.BoxLibrary.{BoxLibrary}
use Rattle.box_model.specs.declared.boxes.BoxPort.{BoxPort}
use Rattle.box_model.specs.Ports.{box_named, given_scalar}
use Rattle.box_model.specs.Faults.{port_named}
use Rattle.box_tables.specs.CutPorts.{box_port_names, box_names, cut_in_flop, cut_in_kind}
use Rattle.box_tables.proofs.Places.{has_found}

pub find_same : {X : Type 0} (p q : X → Bool) → ((x : X) → p x ≡ q x) → (xs : List X) → find p xs ≡ find q xs
find_same p q same [] = refl
find_same {X} p q same (x ∷ xs) = ap (λ (b : Bool). cond b (Some x) (find p xs)) (same x) ∙ ap (λ (o : Option X). cond (q x) (Some x) o) (find_same p q same xs)

pub port_first : (ports : List BoxPort) (name : List ℕ) → find (λ (p : BoxPort). bytes_eq name p.name) ports ≡ port_named ports name
port_first ports name = find_same (λ (p : BoxPort). bytes_eq name p.name) (λ (p : BoxPort). bytes_eq p.name name) (λ p. bytes_eq-sym name p.name) ports

pub port_there : (ports : List BoxPort) (name : List ℕ) → has_name (box_port_names ports) name ≡ list_any (λ (p : BoxPort). bytes_eq p.name name) ports
port_there [] name = refl
port_there (p ∷ ports) name = ap (λ (b : Bool). b || has_name (box_port_names ports) name) (bytes_eq-sym name p.name) ∙ ap (λ (b : Bool). bytes_eq p.name name || b) (port_there ports name)

pub box_first : (B : BoxLibrary) (name : List ℕ) → find (λ (b : BoxCell). bytes_eq name b.name) B.boxes ≡ box_named B name
box_first B name = find_same (λ (b : BoxCell). bytes_eq name b.name) (λ (b : BoxCell). bytes_eq b.name name) (λ b. bytes_eq-sym name b.name) B.boxes

-- The output of a flip-flop, by its kind.

pub no_flop : (B : BoxLibrary) (kind : Kind) → is_flop B.cells kind ≡ false → None ≡ cut_in_kind B kind
no_flop B kind barred = sym (ap (λ (b : Bool). option_map given_scalar (if b then output_port B.cells kind else None)) barred)

is_output : (B : BoxLibrary) (kind : Kind) → is_flop B.cells kind ≡ true → cut_in_kind B kind ≡ option_map given_scalar (output_port B.cells kind)
is_output B kind flop = ap (λ (b : Bool). option_map given_scalar (if b then output_port B.cells kind else None)) flop

pub own_flop : (B : BoxLibrary) (kind : Kind) (f : FlopKind) → kind ≡ Flop f → Some (given_scalar (codes "Q")) ≡ cut_in_kind B kind
own_flop B kind f is = ap (cut_in_kind B) (sym is)

pub listed_flop : (B : BoxLibrary) (kind : Kind) (number : ℕ) (outputs : List (List BoxPort)) → kind ≡ Listed number → outputs ≡ map cut_in_flop B.cells → is_flop B.cells kind ≡ true → slice_get outputs number ≡ cut_in_kind B kind
listed_flop B kind number outputs is are flop =
    ap (λ (l : List (List BoxPort)). slice_get l number) are
    ∙ slice_get-map cut_in_flop B.cells number
    ∙ twice (slice_get B.cells number)
    ∙ ap (λ (k : Kind). option_map given_scalar (output_port B.cells k)) (sym is)
    ∙ sym (is_output B kind flop)
  where
    twice : (o : Option ListedCell) → option_map cut_in_flop o ≡ option_map given_scalar (option_map (λ (c : ListedCell). c.output) o)
    twice None = refl
    twice (Some c) = refl

pub other_kind : (B : BoxLibrary) (kind : Kind) → ((f : FlopKind) → kind ≡ Flop f → ⊥) → ((n : ℕ) → kind ≡ Listed n → ⊥) → None ≡ cut_in_kind B kind
other_kind B (Flop f) no_flop no_listed = absurd (no_flop f refl)
other_kind B (Listed n) no_flop no_listed = absurd (no_listed n refl)
other_kind B And no_flop no_listed = refl
other_kind B Or no_flop no_listed = refl
other_kind B Nand no_flop no_listed = refl
other_kind B Nor no_flop no_listed = refl
other_kind B Xor no_flop no_listed = refl
other_kind B Xnor no_flop no_listed = refl
other_kind B Buf no_flop no_listed = refl
other_kind B Not no_flop no_listed = refl
other_kind B Bufif0 no_flop no_listed = refl
other_kind B Bufif1 no_flop no_listed = refl
other_kind B Assign no_flop no_listed = refl
other_kind B Mux2 no_flop no_listed = refl

pub box_there : (B : BoxLibrary) (name : List ℕ) → has_name (box_names B.boxes) name ≡ is_some (box_named B name)
box_there B name =
    any_map (bytes_eq name) (λ (b : BoxCell). b.name) B.boxes
    ∙ sym (has_found (λ (b : BoxCell). bytes_eq name b.name) B.boxes)
    ∙ ap (λ (o : Option BoxCell). is_some o) (box_first B name)

pub flop_there : (o : Option (Bor (List BoxPort))) (f : Option (List ℕ)) → option_copied o ≡ option_map given_scalar f → is_some o ≡ is_some f
flop_there None None e = refl
flop_there None (Some f) e = none_some e
flop_there (Some x) None e = none_some (sym e)
flop_there (Some x) (Some f) e = refl
