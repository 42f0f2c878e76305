-- What the names of added nets and cells may begin with.
-- IEEE Std 1364-2001: lexical conventions (simple names); that a prefix is short and has no `$` is own.
use Rattle.std.specs.Prelude.{◌≡◌, ℕ, ◌≤◌, ◌||◌, List, ◌∷◌, ◌++◌, length, slice_get, Some, IsTrue}
use Rattle.std.specs.List.{list_all}
use Rattle.verilog_lexicon.specs.Bytes.{is_letter, is_digit}
use Rattle.netlist_model.specs.declared.Name.{Name}
use Rattle.netlist_model.specs.declared.Name.TheVariants.{Original}
use Rattle.netlist_model.specs.Lists.{PortView, NetView, CellView, NetlistView, cell_at}
use Rattle.netlist_link.specs.Linked.{LinkedView}

-- own: a letter or `_`, then letters, digits and `_`, 1 to 32 bytes in all
pub record IsPrefix (prefix : List ℕ) : Type 0 where
  pub first : ℕ
  pub rest : List ℕ
  pub is : prefix ≡ first ∷ rest
  pub letter : IsTrue (is_letter first)
  pub word : IsTrue (list_all (λ byte. is_letter byte || is_digit byte) rest)
  pub short : length prefix ≤ 32

-- own: a port, a net or a cell has the name
pub data IsUsed (N : NetlistView) : Name → Type 0 where
  port : (p : ℕ) (port : PortView) → slice_get N.ports p ≡ Some port → IsUsed N port.name
  net : (number : ℕ) (view : NetView) → slice_get N.nets number ≡ Some view → IsUsed N view.name
  cell : (i : ℕ) (cell : CellView) (name : Name) → cell_at N i ≡ Some cell → cell.name ≡ Some name → IsUsed N name

-- own: the bytes can begin the names of added nets and cells: no original name of the netlist begins with them
pub record IsFreePrefix (linked : LinkedView) (prefix : List ℕ) : Type 0 where
  pub word : IsPrefix prefix
  pub free : (number : ℕ) (rest : List ℕ) → IsUsed linked.arena.lists (Original number) → slice_get linked.names number ≡ Some (prefix ++ rest) → ⊥
