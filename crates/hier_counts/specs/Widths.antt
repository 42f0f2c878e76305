-- Own: counts that aren't told past a limit and one; bits of ports by name, and bits that links join.
use Rattle.std.specs.Prelude.{◌≡◌, ℕ, ◌+◌, min, unwrap_or, not, ◌&&◌, ◌||◌, List, [], ◌∷◌, ◌++◌, sum_by, is_some, if◌then◌else◌}
use Rattle.std.specs.Borrow.{Bor}
use Rattle.std.specs.Map.{lookup}
use Rattle.std.specs.Str.{bytes_eq}
use Rattle.texts.specs.Repeated.{has_name}
use Rattle.verilog_tree.specs.declared.tree.Link.{Link}
use Rattle.verilog_tree.specs.declared.tree.Port.{Port}
use Rattle.link_model.specs.Nets.{width}
use Rattle.hier_model.specs.Entries.{is_in, is_out}
use Rattle.hier_model.specs.Faults.{cell_limit}

abbrev pub capped : ℕ → ℕ → ℕ
capped limit n = min n (limit + 1)

-- how many bits a port has that links can join
abbrev pub port_bits : Port → ℕ
port_bits p = if is_in p.dir || is_out p.dir then width p.range else 0

-- how many the ports of a name have
abbrev pub named_bits : List ℕ → List Port → ℕ
named_bits name ports = sum_by (λ (p : Port). if bytes_eq name p.name then port_bits p else 0) ports

-- how many the links join, where these names were linked before
abbrev pub joined_bits : List (List ℕ) → List Link → List Port → ℕ
joined_bits had [] ports = 0
joined_bits had (l ∷ links) ports =
    if is_some l.operand && not (has_name had l.port) then named_bits l.port ports + joined_bits (had ++ l.port ∷ []) links ports
    else joined_bits had links ports

abbrev pub width_under : List (Bor (List ℕ) × ℕ) → List ℕ → ℕ
width_under entries name = unwrap_or (lookup (λ (k : Bor (List ℕ)). bytes_eq name k.now) entries) 0

pub record HasWidths (ports : List Port) (entries : List (Bor (List ℕ) × ℕ)) : Type 0 where
  pub widths : (name : List ℕ) → width_under entries name ≡ capped cell_limit (named_bits name ports)
