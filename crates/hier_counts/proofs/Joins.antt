-- Bits that links join, by names of ports and by ports: the two sums are one.
use Rattle.std.proofs.Common.{◌≡◌, ℕ, ◌+◌, Bool, true, false, if◌then◌else◌, not, ◌||◌, ◌&&◌, List, [], ◌∷◌, ◌++◌, sum_by, is_some, refl, sym, ap, ◌∙◌, arith}
use Rattle.std.specs.Str.{bytes_eq}
use Rattle.std.specs.Cmp.Lexicographic.{bytes_decides}
use Rattle.std.proofs.lemmas.List.Sums.{sum_by-cons}
use Rattle.std.proofs.lemmas.List.Folds.{list_any-append}
use Rattle.list_laws.proofs.Tests.{or_false}
use Rattle.texts.specs.Repeated.{has_name}
use Rattle.verilog_tree.specs.declared.tree.Link.{Link}
use Rattle.verilog_tree.specs.declared.tree.Port.{Port}
use Rattle.link_model.specs.Nets.{width}
use Rattle.hier_model.specs.Entries.{is_in, is_out}
use Rattle.hier_model.specs.Faults.{is_linked, linked_bits}
use Rattle.hier_counts.specs.Widths.{port_bits, named_bits, joined_bits}

-- Sums of the same, and of two.

pub sum_same : {X : Type 0} (f g : X → ℕ) → ((x : X) → f x ≡ g x) → (xs : List X) → sum_by f xs ≡ sum_by g xs
sum_same f g same [] = refl
sum_same f g same (x ∷ xs) = omega (arith, sum_by-cons f x xs, sum_by-cons g x xs, same x, sum_same f g same xs)

pub sum_plus : {X : Type 0} (f g h : X → ℕ) → ((x : X) → f x ≡ g x + h x) → (xs : List X) → sum_by f xs ≡ sum_by g xs + sum_by h xs
sum_plus f g h plus [] = refl
sum_plus f g h plus (x ∷ xs) = omega (arith, sum_by-cons f x xs, sum_by-cons g x xs, sum_by-cons h x xs, plus x, sum_plus f g h plus xs)

pub sum_none : {X : Type 0} (f : X → ℕ) → ((x : X) → f x ≡ 0) → (xs : List X) → sum_by f xs ≡ 0
sum_none f none [] = refl
sum_none f none (x ∷ xs) = omega (arith, sum_by-cons f x xs, none x, sum_none f none xs)

-- Names.

pub turned : (a b : List ℕ) → bytes_eq a b ≡ bytes_eq b a
turned a b = by (bytes_eq a b) (bytes_eq b a) refl refl
  where
    by : (x y : Bool) → bytes_eq a b ≡ x → bytes_eq b a ≡ y → x ≡ y
    by true true e f = refl
    by true false e f = sym ((bytes_decides b a).1 (sym ((bytes_decides a b).0 e))) ∙ f
    by false true e f = sym e ∙ (bytes_decides a b).1 (sym ((bytes_decides b a).0 f))
    by false false e f = refl

has_more : (had : List (List ℕ)) (n name : List ℕ) → has_name (had ++ n ∷ []) name ≡ (has_name had name || bytes_eq n name)
has_more had n name = list_any-append (bytes_eq name) had (n ∷ []) ∙ ap (λ (b : Bool). has_name had name || b) (or_false (bytes_eq name n) ∙ turned name n)

-- a name that is in the list is in it under any other that equals it
had_too : (had : List (List ℕ)) (n name : List ℕ) (b : Bool) → has_name had n ≡ b → bytes_eq n name ≡ true → has_name had name ≡ b
had_too had n name b h same = ap (has_name had) (sym ((bytes_decides n name).0 same)) ∙ h

-- What a port adds: to those that were linked before, to those that are linked too, to those of a name.

abbrev before_bits : List (List ℕ) → Port → ℕ
before_bits had p = if has_name had p.name then port_bits p else 0

abbrev all_bits : List (List ℕ) → List Link → Port → ℕ
all_bits had links p = if has_name had p.name || is_linked links p.name then port_bits p else 0

abbrev name_bits : List ℕ → Port → ℕ
name_bits name p = if bytes_eq name p.name then port_bits p else 0

bits_if : (a b : Bool) (n : ℕ) → a ≡ b → (if a then n else 0) ≡ (if b then n else 0)
bits_if a b n e = ap (λ (x : Bool). if x then n else 0) e

-- one name more
name_more : (had : List (List ℕ)) (n : List ℕ) → has_name had n ≡ false → (p : Port) → before_bits (had ++ n ∷ []) p ≡ before_bits had p + name_bits n p
name_more had n new p = bits_if (has_name (had ++ n ∷ []) p.name) (has_name had p.name || bytes_eq n p.name) (port_bits p) (has_more had n p.name) ∙ by (has_name had p.name) (bytes_eq n p.name) refl refl
  where
    by : (a b : Bool) → has_name had p.name ≡ a → bytes_eq n p.name ≡ b → (if a || b then port_bits p else 0) ≡ (if a then port_bits p else 0) + (if b then port_bits p else 0)
    by true true e f = let no : true ≡ false = sym e ∙ had_too had n p.name false new f in absurd (cc)
    by true false e f = omega arith
    by false true e f = omega arith
    by false false e f = omega arith

link_more : (had : List (List ℕ)) (l : Link) (links : List Link) → is_some l.operand ≡ true → (p : Port) → all_bits (had ++ l.port ∷ []) links p ≡ all_bits had (l ∷ links) p
link_more had l links some p =
    bits_if (has_name (had ++ l.port ∷ []) p.name || is_linked links p.name) (has_name had p.name || ((is_some l.operand && bytes_eq l.port p.name) || is_linked links p.name)) (port_bits p)
    (ap (λ (b : Bool). b || is_linked links p.name) (has_more had l.port p.name) ∙ assoc (has_name had p.name) (bytes_eq l.port p.name) (is_linked links p.name)
    ∙ ap (λ (b : Bool). has_name had p.name || ((b && bytes_eq l.port p.name) || is_linked links p.name)) (sym some))
  where
    assoc : (a b c : Bool) → ((a || b) || c) ≡ (a || (b || c))
    assoc true b c = refl
    assoc false b c = refl

-- a link of a name that was linked before adds nothing
link_known : (had : List (List ℕ)) (l : Link) (links : List Link) → has_name had l.port ≡ true → (p : Port) → all_bits had links p ≡ all_bits had (l ∷ links) p
link_known had l links known p = bits_if (has_name had p.name || is_linked links p.name) (has_name had p.name || ((is_some l.operand && bytes_eq l.port p.name) || is_linked links p.name)) (port_bits p) (by (has_name had p.name) (bytes_eq l.port p.name) (is_some l.operand) refl refl)
  where
    by : (a b c : Bool) → has_name had p.name ≡ a → bytes_eq l.port p.name ≡ b → (a || is_linked links p.name) ≡ (a || ((c && b) || is_linked links p.name))
    by true b c e f = refl
    by false true true e f = let no : false ≡ true = sym e ∙ had_too had l.port p.name true known f in absurd (cc)
    by false true false e f = refl
    by false false true e f = refl
    by false false false e f = refl

-- an empty link adds nothing
link_empty : (had : List (List ℕ)) (l : Link) (links : List Link) → is_some l.operand ≡ false → (p : Port) → all_bits had links p ≡ all_bits had (l ∷ links) p
link_empty had l links none p = bits_if (has_name had p.name || is_linked links p.name) (has_name had p.name || ((is_some l.operand && bytes_eq l.port p.name) || is_linked links p.name)) (port_bits p) (ap (λ (b : Bool). has_name had p.name || ((b && bytes_eq l.port p.name) || is_linked links p.name)) (sym none))

joined_before : (ports : List Port) (links : List Link) (had : List (List ℕ)) → joined_bits had links ports + sum_by (before_bits had) ports ≡ sum_by (all_bits had links) ports
joined_before ports [] had =
    let same = sum_same (before_bits had) (all_bits had []) (λ p. bits_if (has_name had p.name) (has_name had p.name || false) (port_bits p) (sym (or_false (has_name had p.name)))) ports in
    omega (arith, same)
joined_before ports (l ∷ links) had = by (is_some l.operand) (has_name had l.port) refl refl (joined_before ports links had) (joined_before ports links (had ++ l.port ∷ []))
  where
    by : (a b : Bool) → is_some l.operand ≡ a → has_name had l.port ≡ b → joined_bits had links ports + sum_by (before_bits had) ports ≡ sum_by (all_bits had links) ports
        → joined_bits (had ++ l.port ∷ []) links ports + sum_by (before_bits (had ++ l.port ∷ [])) ports ≡ sum_by (all_bits (had ++ l.port ∷ []) links) ports
        → (if a && not b then named_bits l.port ports + joined_bits (had ++ l.port ∷ []) links ports else joined_bits had links ports) + sum_by (before_bits had) ports ≡ sum_by (all_bits had (l ∷ links)) ports
    by true true e f same more = same ∙ sum_same (all_bits had links) (all_bits had (l ∷ links)) (link_known had l links f) ports
    by true false e f same more =
        let plus = sum_plus (before_bits (had ++ l.port ∷ [])) (before_bits had) (name_bits l.port) (name_more had l.port f) ports in
        let all = sum_same (all_bits (had ++ l.port ∷ []) links) (all_bits had (l ∷ links)) (link_more had l links e) ports in
        omega (arith, plus, all, more)
    by false true e f same more = same ∙ sum_same (all_bits had links) (all_bits had (l ∷ links)) (link_empty had l links e) ports
    by false false e f same more = same ∙ sum_same (all_bits had links) (all_bits had (l ∷ links)) (link_empty had l links e) ports

-- what links join is what they join by ports
pub joined_is : (links : List Link) (ports : List Port) → joined_bits [] links ports ≡ sum_by (linked_bits links) ports
joined_is links ports =
    let all = joined_before ports links [] in
    let none = sum_none (before_bits []) (λ p. refl) ports in
    let same = sum_same (all_bits [] links) (linked_bits links) (λ p. by p (is_in p.dir || is_out p.dir) (is_linked links p.name)) ports in
    omega (arith, all, none, same)
  where
    by : (p : Port) (a b : Bool) → (if b then (if a then width p.range else 0) else 0) ≡ (if a && b then width p.range else 0)
    by p true true = refl
    by p true false = refl
    by p false true = refl
    by p false false = refl
