-- Names of a sound library's ports, and hidden names, are names that a tree can have.
use Rattle.std.proofs.Common.{◌≡◌, ℕ, ◌+◌, Bool, true, false, not, ◌&&◌, List, [], ◌∷◌, ◌++◌, length, Option, Some, None, codes, refl, sym, ap, subst, ◌∙◌, arith, leb-true, ltb-false, length-append, append_assoc, if◌then◌else◌}
use Rattle.std.specs.Prelude.{IsTrue, IfSome, filter, find, is_some, nat_le, nat_lt, slice_get, option_and_then}
use Rattle.std.specs.List.{AllByRecursion, list_all}
use Rattle.std.specs.Option.{option_map, option_or}
use Rattle.std.specs.Str.{bytes_eq}
use Rattle.std.proofs.lemmas.List.Elements.{All-head}
use Rattle.std.proofs.lemmas.Option.{slice_get_within, get_or_from_slice_get}
use Rattle.list_laws.proofs.Lists.{all_append, all_from_list_all}
use Rattle.list_laws.proofs.Tests.{both_hold}
use Rattle.verilog_lexicon.specs.Bytes.{is_letter, is_name_byte, is_simple_name}
use Rattle.verilog_lexicon.specs.Keywords.{reserved_of}
use Rattle.cell_library.specs.declared.Kind.{Kind}
use Rattle.cell_library.specs.declared.Kind.TheVariants as kind
use Rattle.cell_library.specs.declared.listed.ListedCell.{ListedCell}
use Rattle.cell_library.specs.Gates.{is_flop}
use Rattle.cell_library.specs.Library.{kind_named}
use Rattle.cell_library.specs.Sound.{is_cell_name, IsPort, IsSoundCell, IsLibrary}
use Rattle.verilog_tree.specs.declared.tree.Instance.{Instance}
use Rattle.verilog_tree.specs.IsTree.{IsVisible, IsTreeName, IsTreeRange}
use Rattle.link_model.specs.Lists.{has_name}
use Rattle.box_model.specs.declared.boxes.BoxCell.{BoxCell}
use Rattle.box_model.specs.declared.boxes.BoxLibrary.{BoxLibrary}
use Rattle.box_model.specs.declared.boxes.BoxPort.{BoxPort}
use Rattle.box_model.specs.Sound.{IsSoundPort, IsSoundBox, IsSoundLibrary}
use Rattle.box_model.specs.Ports.{box_named, is_narrow, narrow_first, output_of_kind, flop_output, given_scalar, cut_ports, hidden_name}
use Rattle.box_model.proofs.Counting.{all_to}

-- a port with a name and a range that a tree can have
pub record IsTreeBoxPort (p : BoxPort) : Type 0 where
  pub name : IsTreeName p.name
  pub range : IfSome p.range IsTreeRange

-- Names.

letter_is_visible : (b : ℕ) → is_name_byte b ≡ true → IsVisible b
letter_is_visible b is = record { low = grind arith; high = grind arith }

cell_tree_name : (name : List ℕ) → IsTrue (is_cell_name name) → IsTreeName name
cell_tree_name [] is = absurd (cc)
cell_tree_name (b ∷ bytes) is =
    let name = b ∷ bytes in
    let parts = both_hold (is_simple_name name) (not (is_some (reserved_of name)) && nat_le (length name) 255) is in
    let simple = both_hold (is_letter b) (list_all is_name_byte name) parts.0 in
    let short = both_hold (not (is_some (reserved_of name))) (nat_le (length name) 255) parts.1 in
    record {
      filled = omega arith;
      short = leb-true (length name) 255 short.1;
      visible = all_to name letter_is_visible (all_from_list_all is_name_byte name simple.1);
    }

pub port_tree_name : (name : List ℕ) → IsPort name → IsTreeName name
port_tree_name name is = cell_tree_name name ((both_hold (is_cell_name name) (not (bytes_eq name (codes "mux"))) is).0)

-- a hidden name that isn't too long
pub hidden_tree_name : (instance port : List ℕ) → IsTreeName instance → IsTreeName port → nat_lt 255 (length (hidden_name instance port)) ≡ false → IsTreeName (hidden_name instance port)
hidden_tree_name instance port i p short =
    let laid : hidden_name instance port ≡ instance ++ 46 ∷ port = append_assoc instance (codes ".") port in
    let long : length (hidden_name instance port) ≡ length instance + length (46 ∷ port) = ap length laid ∙ length-append instance (46 ∷ port) in
    record {
      filled = (let some = i.filled in omega arith);
      short = ltb-false 255 (length (hidden_name instance port)) short;
      visible = subst (AllByRecursion IsVisible) (sym laid) (all_append IsVisible instance (46 ∷ port) i.visible (record { low = omega arith; high = omega arith }, p.visible));
    }

-- Cut ports.

listed_output : (library : List ListedCell) → IsLibrary library → (number : ℕ) (name : List ℕ) → option_map (λ (cell : ListedCell). cell.output) (slice_get library number) ≡ Some name → IsTreeName name
listed_output library is number name h = by (slice_get library number) refl h
  where
    by : (o : Option ListedCell) → slice_get library number ≡ o → option_map (λ (cell : ListedCell). cell.output) o ≡ Some name → IsTreeName name
    by None e k = absurd (cc)
    by (Some cell) e k =
        let sound = subst IsSoundCell (get_or_from_slice_get library number cell cell e) (is.sound number cell (slice_get_within library number cell e)) in
        let it : cell.output ≡ name = cc in
        subst IsTreeName it (port_tree_name cell.output (All-head IsPort cell.output cell.inputs sound.ports))

flop_q : IsTreeName (codes "Q")
flop_q = record { filled = omega arith; short = omega arith; visible = (record { low = omega arith; high = omega arith }, tt) }

kind_output : (library : List ListedCell) → IsLibrary library → (k : Kind) (name : List ℕ) → output_of_kind library k ≡ Some name → IsTreeName name
kind_output library is (kind.Flop flop) name h = let it : codes "Q" ≡ name = cc in subst IsTreeName it flop_q
kind_output library is (kind.Listed number) name h = by (is_flop library (kind.Listed number)) h
  where
    by : (b : Bool) → (if b then option_map (λ (cell : ListedCell). cell.output) (slice_get library number) else None) ≡ Some name → IsTreeName name
    by true k = listed_output library is number name k
    by false k = absurd (cc)
kind_output library is kind.And name h = absurd (cc)
kind_output library is kind.Or name h = absurd (cc)
kind_output library is kind.Nand name h = absurd (cc)
kind_output library is kind.Nor name h = absurd (cc)
kind_output library is kind.Xor name h = absurd (cc)
kind_output library is kind.Xnor name h = absurd (cc)
kind_output library is kind.Buf name h = absurd (cc)
kind_output library is kind.Not name h = absurd (cc)
kind_output library is kind.Bufif0 name h = absurd (cc)
kind_output library is kind.Bufif1 name h = absurd (cc)
kind_output library is kind.Assign name h = absurd (cc)
kind_output library is kind.Mux2 name h = absurd (cc)

output_named : (B : BoxLibrary) → IsLibrary B.cells → (cell name : List ℕ) → flop_output B cell ≡ Some name → IsTreeName name
output_named B is cell name h = by (kind_named B.cells cell) h
  where
    by : (o : Option Kind) → option_and_then (output_of_kind B.cells) o ≡ Some name → IsTreeName name
    by None k = absurd (cc)
    by (Some k) there = kind_output B.cells is k name there

found_all : {X : Type 0} (P : X → Type 0) (test : X → Bool) (xs : List X) (x : X) → AllByRecursion P xs → find test xs ≡ Some x → P x
found_all P test [] x all h = absurd (cc)
found_all {X} P test (y ∷ ys) x all h = by (test y) (found_all P test ys x all.1) h
  where
    by : (b : Bool) → (find test ys ≡ Some x → P x) → (if b then Some y else find test ys) ≡ Some x → P x
    by true rest k = let it : y ≡ x = cc in subst P it all.0
    by false rest k = rest k

pub all_kept : {X : Type 0} (P : X → Type 0) (test : X → Bool) (xs : List X) → AllByRecursion P xs → AllByRecursion P (filter test xs)
all_kept P test [] all = tt
all_kept {X} P test (x ∷ xs) all = by (test x) (all_kept P test xs all.1)
  where
    by : (b : Bool) → AllByRecursion P (filter test xs) → AllByRecursion P (if b then x ∷ filter test xs else filter test xs)
    by true rest = (all.0, rest)
    by false rest = rest

sound_tree : (p : BoxPort) → IsSoundPort p → IsTreeBoxPort p
sound_tree p is = record { name = port_tree_name p.name is.name; range = is.range }

pub cut_tree : (B : BoxLibrary) → IsSoundLibrary B → (i : Instance) (ports : List BoxPort) → cut_ports B i ≡ Some ports → AllByRecursion IsTreeBoxPort ports
cut_tree B is i ports h = boxed (box_named B i.cell) refl h
  where
    scalar : (o : Option (List ℕ)) → flop_output B i.cell ≡ o → option_map given_scalar o ≡ Some ports → AllByRecursion IsTreeBoxPort ports
    scalar None e k = absurd (cc)
    scalar (Some name) e k = let it : given_scalar name ≡ ports = cc in subst (AllByRecursion IsTreeBoxPort) it (record { name = output_named B is.cells i.cell name e; range = tt }, tt)

    cut : (b : Bool) → (if b then option_map given_scalar (flop_output B i.cell) else None) ≡ Some ports → AllByRecursion IsTreeBoxPort ports
    cut true k = scalar (flop_output B i.cell) refl k
    cut false k = absurd (cc)

    boxed : (o : Option BoxCell) → box_named B i.cell ≡ o
        → option_or (option_map (λ (b : BoxCell). narrow_first b.ports) o) (if has_name B.cuts i.name then option_map given_scalar (flop_output B i.cell) else None) ≡ Some ports
        → AllByRecursion IsTreeBoxPort ports
    boxed None e k = cut (has_name B.cuts i.name) k
    boxed (Some b) e k =
        let it : narrow_first b.ports ≡ ports = cc in
        let all = all_to b.ports sound_tree (found_all IsSoundBox (λ (c : BoxCell). bytes_eq c.name i.cell) B.boxes b is.boxes e) in
        subst (AllByRecursion IsTreeBoxPort) it
        (all_append IsTreeBoxPort (filter is_narrow b.ports) (filter (λ p. not (is_narrow p)) b.ports) (all_kept IsTreeBoxPort is_narrow b.ports all) (all_kept IsTreeBoxPort (λ p. not (is_narrow p)) b.ports all))
