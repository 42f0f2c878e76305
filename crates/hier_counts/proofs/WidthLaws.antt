-- Bits of ports by name, and of links, one more at a time.
use Rattle.std.proofs.Common.{◌≡◌, ℕ, ◌+◌, min, Bool, true, false, if◌then◌else◌, not, ◌&&◌, List, [], ◌∷◌, ◌++◌, take, unwrap_or, Option, Some, Bor, is_some, refl, sym, ap, ◌∙◌, arith}
use Rattle.std.specs.Prelude.{slice_get}
use Rattle.std.specs.Map.{lookup}
use Rattle.std.specs.Str.{bytes_eq}
use Rattle.std.specs.Cmp.Lexicographic.{bytes_decides}
use Rattle.std.proofs.lemmas.List.Sums.{sum_by_push}
use Rattle.list_laws.proofs.Lists.{taken_more}
use Rattle.verilog_tree.specs.declared.tree.Link.{Link}
use Rattle.verilog_tree.specs.declared.tree.Port.{Port}
use Rattle.texts.specs.Repeated.{has_name}
use Rattle.hier_model.specs.Faults.{cell_limit}
use Rattle.hier_counts.specs.Widths.{capped, port_bits, named_bits, joined_bits, width_under}

-- two counts up to a limit, as one
pub cap_add : (l a b : ℕ) → min (min a (l + 1) + b) (l + 1) ≡ min (a + b) (l + 1)
cap_add l a b = omega arith

named_push : (name : List ℕ) (ports : List Port) (p : Port) → named_bits name (ports ++ p ∷ []) ≡ named_bits name ports + (if bytes_eq name p.name then port_bits p else 0)
named_push name ports p = sum_by_push (λ (q : Port). if bytes_eq name q.name then port_bits q else 0) ports p

-- the table with one port more, by what its entry for the port's name became
pub widths_more : (ports : List Port) (k : ℕ) (p : Port) (key : Bor (List ℕ)) (sum : ℕ) (old new : List (Bor (List ℕ) × ℕ)) → slice_get ports k ≡ Some p → key.now ≡ p.name
    → ((name : List ℕ) → width_under old name ≡ capped cell_limit (named_bits name (take k ports)))
    → sum ≡ capped cell_limit (width_under old key.now + port_bits p)
    → ((name : List ℕ) → lookup (λ (j : Bor (List ℕ)). bytes_eq name j.now) new ≡ (if bytes_eq name key.now then Some sum else lookup (λ (j : Bor (List ℕ)). bytes_eq name j.now) old))
    → (name : List ℕ) → width_under new name ≡ capped cell_limit (named_bits name (take (k + 1) ports))
widths_more ports k p key sum old new at named was is updates name =
    ap (λ (o : Option ℕ). unwrap_or o 0) (updates name)
    ∙ by (bytes_eq name key.now) refl
    ∙ ap (capped cell_limit) (sym (named_push name (take k ports) p ∙ ap (λ (x : List ℕ). named_bits name (take k ports) + (if bytes_eq name x then port_bits p else 0)) (sym named)))
    ∙ ap (λ (l : List Port). capped cell_limit (named_bits name l)) (taken_more ports k p (take k ports) (take k ports ++ p ∷ []) at refl refl)
  where
    by : (b : Bool) → bytes_eq name key.now ≡ b → unwrap_or (if b then Some sum else lookup (λ (j : Bor (List ℕ)). bytes_eq name j.now) old) 0 ≡ capped cell_limit (named_bits name (take k ports) + (if b then port_bits p else 0))
    by true e =
        let same : key.now ≡ name = sym ((bytes_decides name key.now).0 e) in
        is ∙ ap (λ (x : List ℕ). capped cell_limit (width_under old x + port_bits p)) same ∙ ap (λ (n : ℕ). capped cell_limit (n + port_bits p)) (was name) ∙ cap_add cell_limit (named_bits name (take k ports)) (port_bits p)
    by false e = let none : named_bits name (take k ports) ≡ named_bits name (take k ports) + 0 = omega arith in was name ∙ ap (capped cell_limit) none

-- the sum of the links that are left, once one is looked at
cap_rest : (l sum bits rest total new : ℕ) → min (sum + (bits + rest)) (l + 1) ≡ total → new ≡ min (sum + min bits (l + 1)) (l + 1) → min (new + rest) (l + 1) ≡ total
cap_rest l sum bits rest total new was is = let e : min (new + rest) (l + 1) ≡ min (sum + (bits + rest)) (l + 1) = omega (arith, is) in e ∙ was

pub joined_more : (had : List (List ℕ)) (l : Link) (links : List Link) (ports : List Port) (sum new total : ℕ) → capped cell_limit (sum + joined_bits had (l ∷ links) ports) ≡ total → is_some l.operand ≡ true → has_name had l.port ≡ false
    → new ≡ capped cell_limit (sum + capped cell_limit (named_bits l.port ports)) → capped cell_limit (new + joined_bits (had ++ l.port ∷ []) links ports) ≡ total
joined_more had l links ports sum new total was some fresh is =
    let unfolds : joined_bits had (l ∷ links) ports ≡ named_bits l.port ports + joined_bits (had ++ l.port ∷ []) links ports =
    ap (λ (b : Bool). if b && not (has_name had l.port) then named_bits l.port ports + joined_bits (had ++ l.port ∷ []) links ports else joined_bits had links ports) some
    ∙ ap (λ (b : Bool). if not b then named_bits l.port ports + joined_bits (had ++ l.port ∷ []) links ports else joined_bits had links ports) fresh in
    cap_rest cell_limit sum (named_bits l.port ports) (joined_bits (had ++ l.port ∷ []) links ports) total new (ap (λ (n : ℕ). capped cell_limit (sum + n)) (sym unfolds) ∙ was) is

pub joined_same : (had : List (List ℕ)) (l : Link) (links : List Link) (ports : List Port) (sum total : ℕ) → capped cell_limit (sum + joined_bits had (l ∷ links) ports) ≡ total → (is_some l.operand && not (has_name had l.port)) ≡ false
    → capped cell_limit (sum + joined_bits had links ports) ≡ total
joined_same had l links ports sum total was none =
    ap (λ (b : Bool). capped cell_limit (sum + (if b then named_bits l.port ports + joined_bits (had ++ l.port ∷ []) links ports else joined_bits had links ports))) (sym none) ∙ was
