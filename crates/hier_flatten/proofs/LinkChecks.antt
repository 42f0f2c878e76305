-- Links of instances: the names that some link connects, and the ports that none does.
use Rattle.std.proofs.Common.{◌≡◌, ℕ, ◌+◌, ◌<◌, Bool, true, false, if◌then◌else◌, not, ◌||◌, ◌&&◌, List, [], ◌∷◌, ◌++◌, drop, get_or, length, add-one, drop-cons, is_some, Some, None, refl, sym, ap, ◌∙◌}
use Rattle.std.specs.Str.{bytes_eq}
use Rattle.std.specs.Cmp.Lexicographic.{bytes_decides}
use Rattle.std.proofs.lemmas.List.Folds.{list_any-append}
use Rattle.list_laws.specs.Options.{or_else}
use Rattle.list_laws.proofs.Bytes.{bytes_eq-sym}
use Rattle.list_laws.proofs.Tests.{or_false}
use Rattle.texts.specs.Repeated.{has_name}
use Rattle.verilog_tree.specs.declared.tree.Link.{Link}
use Rattle.verilog_tree.specs.declared.tree.Port.{Port}
use Rattle.hier_model.specs.Entries.{is_out}
use Rattle.hier_model.specs.Faults.{is_linked}
use Rattle.hier_flatten.specs.Nets.{first_open}

has_pushed : (had : List (List ℕ)) (n name : List ℕ) → has_name (had ++ n ∷ []) name ≡ (has_name had name || bytes_eq n name)
has_pushed had n name = list_any-append (bytes_eq name) had (n ∷ []) ∙ ap (λ (b : Bool). has_name had name || b) (or_false (bytes_eq name n) ∙ bytes_eq-sym name n)

-- a name that is noted
pub noted : (old new : List (List ℕ)) (n : List ℕ) (fresh : Bool) → fresh ≡ not (has_name old n) → new ≡ (if fresh then old ++ n ∷ [] else old) → (name : List ℕ) → has_name new name ≡ (has_name old name || bytes_eq n name)
noted old new n fresh is made name = by (has_name old n) (bytes_eq n name) refl refl
  where
    by : (a b : Bool) → has_name old n ≡ a → bytes_eq n name ≡ b → has_name new name ≡ (has_name old name || bytes_eq n name)
    by false b e f =
        let yes : fresh ≡ true = is ∙ ap not e in
        ap (λ (l : List (List ℕ)). has_name l name) (made ∙ ap (λ (c : Bool). if c then old ++ n ∷ [] else old) yes) ∙ has_pushed old n name
    by true false e f =
        let no : fresh ≡ false = is ∙ ap not e in
        ap (λ (l : List (List ℕ)). has_name l name) (made ∙ ap (λ (c : Bool). if c then old ++ n ∷ [] else old) no) ∙ sym (ap (λ (c : Bool). has_name old name || c) f ∙ or_false (has_name old name))
    by true true e f =
        let no : fresh ≡ false = is ∙ ap not e in
        let same : n ≡ name = (bytes_decides n name).0 f in
        let there : has_name old name ≡ true = ap (has_name old) (sym same) ∙ e in
        ap (λ (l : List (List ℕ)). has_name l name) (made ∙ ap (λ (c : Bool). if c then old ++ n ∷ [] else old) no) ∙ there ∙ sym (ap (λ (c : Bool). c || bytes_eq n name) there)

or_assoc : (a b c : Bool) → ((a || b) || c) ≡ (a || (b || c))
or_assoc true b c = refl
or_assoc false b c = refl

-- one more link that connects a name
pub linked_more : (old new : List (List ℕ)) (l : Link) (links left : List Link) → is_some l.operand ≡ true → ((name : List ℕ) → has_name new name ≡ (has_name old name || bytes_eq l.port name)) → left ≡ l ∷ links
    → (name : List ℕ) → (has_name new name || is_linked links name) ≡ (has_name old name || is_linked left name)
linked_more old new l links left some grown here name =
    ap (λ (b : Bool). b || is_linked links name) (grown name)
    ∙ or_assoc (has_name old name) (bytes_eq l.port name) (is_linked links name)
    ∙ ap (λ (b : Bool). has_name old name || ((b && bytes_eq l.port name) || is_linked links name)) (sym some)
    ∙ ap (λ (ls : List Link). has_name old name || is_linked ls name) (sym here)

-- one that is empty
pub linked_same : (old : List (List ℕ)) (l : Link) (links left : List Link) → is_some l.operand ≡ false → left ≡ l ∷ links → (name : List ℕ) → (has_name old name || is_linked links name) ≡ (has_name old name || is_linked left name)
linked_same old l links left none here name =
    ap (λ (b : Bool). has_name old name || ((b && bytes_eq l.port name) || is_linked links name)) (sym none)
    ∙ ap (λ (ls : List Link). has_name old name || is_linked ls name) (sym here)

-- what is left of a list, by its next element
pub left_next : {X : Type 0} (xs : List X) (i : ℕ) (x : X) → i < length xs → x ≡ get_or xs i x → drop i xs ≡ x ∷ drop (i + 1) xs
left_next {X} xs i x low is = front ∙ ap (λ (y : X). y ∷ drop (i + 1) xs) (sym is)
  where
    front : drop i xs ≡ get_or xs i x ∷ drop (i + 1) xs
    front = rw (add-one, drop-cons xs i x)

-- The first open port: this one, or one behind it.

pub open_found : (names : List (List ℕ)) (p : Port) (left rest : List Port) (name : List ℕ) (passes : Bool) → left ≡ p ∷ rest → passes ≡ (not (is_out p.dir) && not (has_name names p.name)) → passes ≡ true → name ≡ p.name
    → Some name ≡ first_open names left
open_found names p left rest name passes here is holds same =
    ap (λ (n : List ℕ). Some n) same
    ∙ sym (ap (first_open names) here ∙ ap (λ (b : Bool). or_else (if b then Some p.name else None) (first_open names rest)) (sym is ∙ holds))

pub open_next : (names : List (List ℕ)) (p : Port) (left rest : List Port) (passes : Bool) → left ≡ p ∷ rest → passes ≡ (not (is_out p.dir) && not (has_name names p.name)) → passes ≡ false
    → first_open names left ≡ first_open names rest
open_next names p left rest passes here is fails = ap (first_open names) here ∙ ap (λ (b : Bool). or_else (if b then Some p.name else None) (first_open names rest)) (sym is ∙ fails)
