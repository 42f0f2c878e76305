-- The table of declarations, beside the names that are left and the declarations so far.
use Rattle.std.proofs.Common.{◌≡◌, ℕ, suc, Bool, true, false, ◌||◌, not, cond, IsTrue, List, [], ◌∷◌, ◌++◌, length, map, Option, Some, None, refl, sym, ap, ◌∙◌, unwrap_or, arith, ◌+◌, ◌<◌, drop, get_or, add-one, drop-cons}
use Rattle.std.specs.Prelude.{find}
use Rattle.std.specs.Borrow.{Bor}
use Rattle.std.specs.List.{list_any}
use Rattle.std.specs.Option.{option_map, option_or}
use Rattle.std.specs.Str.{bytes_eq}
use Rattle.std.proofs.lemmas.List.Folds.{find-append}
use Rattle.std.proofs.lemmas.Slice.Eq.{bytes_eq-Decides}
use Rattle.verilog_tree.specs.declared.tree.Dir.TheVariants as dir
use Rattle.verilog_tree.specs.declared.tree.Port.{Port}
use Rattle.verilog_tree.specs.Trees.{has_name, port_of, declared_port}
use Rattle.verilog_tree.specs.Reader.{close, is_none_left}
use Rattle.verilog_modules.specs.declared.header.WrittenHead.{WrittenHead}
use Rattle.verilog_modules.specs.declared.declarations.Declarations.{Declarations}
use Rattle.verilog_modules.specs.Headers.{declaration_head, texts}
use Rattle.verilog_modules.specs.Tables.{same_name, Tracks, port_in}
use Rattle.std.specs.HashMap as table
use Rattle.std.specs.HashSet as set
use Rattle.list_laws.proofs.Bytes.{bytes_eq-same, bytes_eq-sym}

same_bytes : (a b : List ℕ) → bytes_eq a b ≡ true → a ≡ b
same_bytes a b h = (bytes_eq-Decides a b).0 h

-- Of the names that are left once a name is closed, a name is one that was left and is another.
list_any-close : (name q : List ℕ) (names : List (List ℕ)) → list_any (bytes_eq q) (close name names) ≡ cond (bytes_eq name q) false (list_any (bytes_eq q) names)
list_any-close name q [] = elim (bytes_eq name q) as (λ b. false ≡ cond b false false) [ true ↦ refl | false ↦ refl ]
list_any-close name q (n ∷ names) = by (bytes_eq name n) (bytes_eq q n) (bytes_eq name q) refl refl refl (list_any-close name q names)
  where
    by : (x y z : Bool) → bytes_eq name n ≡ x → bytes_eq q n ≡ y → bytes_eq name q ≡ z → list_any (bytes_eq q) (close name names) ≡ cond z false (list_any (bytes_eq q) names)
        → list_any (bytes_eq q) (cond (not x) (n ∷ close name names) (close name names)) ≡ cond z false (y || list_any (bytes_eq q) names)
    by true true true e f g h = h
    by true true false e f g h = let no : true ≡ false = sym e ∙ ap (bytes_eq name) (sym (same_bytes q n f)) ∙ g in absurd (cc)
    by true false z e f g h = h
    by false true true e f g h = let no : true ≡ false = sym g ∙ ap (bytes_eq name) (same_bytes q n f) ∙ e in absurd (cc)
    by false true false e f g h = ap (λ (b : Bool). b || list_any (bytes_eq q) (close name names)) f
    by false false z e f g h = ap (λ (b : Bool). b || list_any (bytes_eq q) (close name names)) f ∙ h

abbrev borrowed : List ℕ → Bor (List ℕ)
borrowed name = record { ref_ptr = (0, 0); now = name }

-- The table has no name left exactly where none is left.
pub is_none_left-by_count : (names_left : List (List ℕ)) (declared : List Port) (t : Declarations) (empty : Bool) → Tracks names_left declared t → (IsTrue empty → length t.undeclared.keys ≡ 0) → (length t.undeclared.keys ≡ 0 → IsTrue empty) → empty ≡ is_none_left names_left
is_none_left-by_count names_left declared t empty tracks to from = by names_left empty t.undeclared.keys (λ q. tracks.is_open q) to from
  where
    by : (names : List (List ℕ)) (b : Bool) (keys : List (Bor (List ℕ))) → ((q : Bor (List ℕ)) → list_any (same_name q) keys ≡ list_any (bytes_eq q.now) names) → (IsTrue b → length keys ≡ 0) → (length keys ≡ 0 → IsTrue b) → b ≡ is_none_left names
    by [] true keys same to from = refl
    by [] false [] same to from = from refl
    by [] false (k ∷ keys) same to from = let no : true ≡ false = sym (ap (λ (b : Bool). b || list_any (same_name k) keys) (bytes_eq-same k.now)) ∙ same k in absurd (cc)
    by (n ∷ names) false keys same to from = refl
    by (n ∷ names) true (k ∷ keys) same to from = let no : suc (length keys) ≡ 0 = to refl in absurd (omega arith)
    by (n ∷ names) true [] same to from = let no : false ≡ true = same (borrowed n) ∙ ap (λ (b : Bool). b || list_any (bytes_eq n) names) (bytes_eq-same n) in absurd (cc)

or_none : (o : Option Port) → option_or o None ≡ o
or_none None = refl
or_none (Some p) = refl

-- A name that was left is declared.
pub tracks-declare : (names_left : List (List ℕ)) (declared : List Port) (name : Bor (List ℕ)) (head : WrittenHead) (old new : Declarations) → Tracks names_left declared old → IsTrue (list_any (bytes_eq name.now) names_left)
    → ((q : Bor (List ℕ)) → set.contains same_name new.undeclared q ≡ cond (bytes_eq name.now q.now) false (set.contains same_name old.undeclared q))
    → ((q : Bor (List ℕ)) → table.get same_name new.declared q ≡ cond (bytes_eq name.now q.now) (Some head) (table.get same_name old.declared q))
    → Tracks (close name.now names_left) (declared ++ port_of (declaration_head head) name.now ∷ []) new
tracks-declare names_left declared name head old new tracks left removed put = record {
  is_open = λ q. removed q ∙ ap (cond (bytes_eq name.now q.now) false) (tracks.is_open q) ∙ sym (list_any-close name.now q.now names_left);
  is_declared = λ q. find-append (has_name q.now) declared (port_of (declaration_head head) name.now ∷ []) ∙ found q (bytes_eq name.now q.now) refl ∙ ap (option_map (port_as q)) (sym (put q));
  apart = λ q there. put q ∙ others q (bytes_eq name.now q.now) refl (sym (removed q) ∙ there);
}
  where
    port_as : Bor (List ℕ) → WrittenHead → Port
    port_as q h = port_of (declaration_head h) q.now

    none_before : table.get same_name old.declared name ≡ None
    none_before = tracks.apart name (tracks.is_open name ∙ left)

    found : (q : Bor (List ℕ)) (b : Bool) → bytes_eq name.now q.now ≡ b → option_or (find (has_name q.now) declared) (cond (bytes_eq name.now q.now) (Some (port_of (declaration_head head) name.now)) None)
        ≡ option_map (port_as q) (cond (bytes_eq name.now q.now) (Some head) (table.get same_name old.declared q))
    found q true e =
        let same : name.now ≡ q.now = same_bytes name.now q.now e in
        let none : find (has_name q.now) declared ≡ None = ap (λ (n : List ℕ). find (has_name n) declared) (sym same) ∙ tracks.is_declared name ∙ ap (option_map (port_as name)) none_before in
        ap (λ (o : Option Port). option_or o (cond (bytes_eq name.now q.now) (Some (port_of (declaration_head head) name.now)) None)) none
        ∙ ap (λ (b : Bool). let p : Option Port = cond b (Some (port_of (declaration_head head) name.now)) None in p) e
        ∙ ap (λ (n : List ℕ). let p : Option Port = Some (port_of (declaration_head head) n) in p) same
        ∙ sym (ap (λ (b : Bool). option_map (port_as q) (cond b (Some head) (table.get same_name old.declared q))) e)
    found q false e =
        ap (λ (b : Bool). option_or (find (has_name q.now) declared) (cond b (Some (port_of (declaration_head head) name.now)) None)) e
        ∙ or_none (find (has_name q.now) declared)
        ∙ tracks.is_declared q
        ∙ sym (ap (λ (b : Bool). option_map (port_as q) (cond b (Some head) (table.get same_name old.declared q))) e)

    others : (q : Bor (List ℕ)) (b : Bool) → bytes_eq name.now q.now ≡ b → cond (bytes_eq name.now q.now) false (set.contains same_name old.undeclared q) ≡ true → cond (bytes_eq name.now q.now) (Some head) (table.get same_name old.declared q) ≡ None
    others q true e h = let no : false ≡ true = sym (ap (λ (b : Bool). cond b false (set.contains same_name old.undeclared q)) e) ∙ h in absurd (cc)
    others q false e h =
        ap (λ (b : Bool). let o : Option WrittenHead = cond b (Some head) (table.get same_name old.declared q) in o) e
        ∙ tracks.apart q (sym (ap (λ (b : Bool). cond b false (set.contains same_name old.undeclared q)) e) ∙ h)

pub or_moved : (x y z : Bool) → (cond x true y || z) ≡ (y || (x || z))
or_moved true true z = refl
or_moved true false z = refl
or_moved false y z = refl

-- One more name is to be declared.
pub contains-insert : (before later now : List (Bor (List ℕ))) (name : Bor (List ℕ)) (all : List (List ℕ)) → ((q : Bor (List ℕ)) → (list_any (same_name q) before || list_any (bytes_eq q.now) (texts (name ∷ later))) ≡ list_any (bytes_eq q.now) all)
    → ((q : Bor (List ℕ)) → list_any (same_name q) now ≡ cond (bytes_eq name.now q.now) true (list_any (same_name q) before))
    → (q : Bor (List ℕ)) → (list_any (same_name q) now || list_any (bytes_eq q.now) (texts later)) ≡ list_any (bytes_eq q.now) all
contains-insert before later now name all was put q =
    ap (λ (b : Bool). b || list_any (bytes_eq q.now) (texts later)) (put q)
    ∙ ap (λ (b : Bool). cond b true (list_any (same_name q) before) || list_any (bytes_eq q.now) (texts later)) (bytes_eq-sym name.now q.now)
    ∙ or_moved (bytes_eq q.now name.now) (list_any (same_name q) before) (list_any (bytes_eq q.now) (texts later)) ∙ was q

-- The table's port of a name is the declared one.
pub port_in-declared : (names_left : List (List ℕ)) (declared : List Port) (t : Declarations) (name : Bor (List ℕ)) → Tracks names_left declared t → port_in t name ≡ declared_port declared name.now
port_in-declared names_left declared t name tracks = ap (λ (o : Option Port). unwrap_or o (record { name = name.now; dir = dir.Input; range = None })) (sym (tracks.is_declared name))

pub map-port_in : (names_left : List (List ℕ)) (declared : List Port) (t : Declarations) (names : List (Bor (List ℕ))) → Tracks names_left declared t → map (port_in t) names ≡ map (declared_port declared) (texts names)
map-port_in names_left declared t [] tracks = refl
map-port_in names_left declared t (name ∷ names) tracks =
    ap (λ (p : Port). p ∷ map (port_in t) names) (port_in-declared names_left declared t name tracks)
    ∙ ap (λ (l : List Port). declared_port declared name.now ∷ l) (map-port_in names_left declared t names tracks)

pub drop-next : {X : Type 0} (xs : List X) (i : ℕ) (d : X) → i < length xs → drop i xs ≡ get_or xs i d ∷ drop (i + 1) xs
drop-next xs i d lt = rw (add-one, drop-cons xs i d)
