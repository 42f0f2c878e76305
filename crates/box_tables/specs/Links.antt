-- own: the links of an instance that aren't empty.
use Rattle.std.specs.Prelude.{◌≡◌, ℕ, Bool, List, map, filter, is_some}
use Rattle.std.specs.Borrow.{Bor}
use Rattle.verilog_tree.specs.declared.tree.Link.{Link}

abbrev pub is_linked : Link → Bool
is_linked l = is_some l.operand

abbrev pub link_names : List Link → List (List ℕ)
link_names links = map (λ (l : Link). l.port) links

-- borrowed links
abbrev pub lent_links : List (Bor Link) → List Link
lent_links links = map (λ (l : Bor Link). l.now) links

-- the links that aren't empty, and their ports
pub record HoldsLinks (links linked : List Link) (names : List (List ℕ)) : Type 0 where
  pub linked_are : linked ≡ filter is_linked links
  pub names_are : names ≡ link_names (filter is_linked links)
