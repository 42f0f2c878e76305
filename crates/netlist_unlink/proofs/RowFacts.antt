-- What is known of the rows of a netlist that is well named.
use Rattle.std.proofs.Common.{◌≡◌, ℕ, suc, ◌<◌, Bool, true, false, ◌==◌, List, [], ◌∷◌, length, refl, Option, Some, None}
use Rattle.std.specs.Prelude.{slice_get, IfSome, All}
use Rattle.std.specs.Option.{option_map}
use Rattle.std.specs.List.{AllByRecursion}
use Rattle.std.proofs.lemmas.List.Elements.{All-nil, All-cons}
use Rattle.verilog_tree.specs.declared.tree.Range.{Range}
use Rattle.verilog_tree.specs.IsTree.{IsTreeNumber, IsTreeRange}
use Rattle.netlist_model.specs.declared.Name.{Name}
use Rattle.netlist_model.specs.declared.Name.TheVariants.{Original, Added}
use Rattle.netlist_model.specs.Lists.{PortView, NetView}
use Rattle.netlist_link.specs.WellNamed.{IsKnown}
use Rattle.netlist_unlink.specs.declared.rows.NetRow.{NetRow}
use Rattle.netlist_unlink.specs.Rows.{before, has_port_name, joined_range, named_row, one_index, rows, with_row}

-- a row under a known name that no port has, with a short range
pub record RowFits (table : List (List ℕ)) (ports : List PortView) (row : NetRow) : Type 0 where
  pub known : row.name < length table
  pub apart : has_port_name ports row.name ≡ false
  pub short : IfSome row.range IsTreeRange

joined_short : (first last : Option Range) → IfSome first IsTreeRange → IfSome last IsTreeRange → IfSome (joined_range first last) IsTreeRange
joined_short None last f l = tt
joined_short (Some first) None f l = tt
joined_short (Some first) (Some last) f l = record { left = f.left; right = l.right }

before_fits : (table : List (List ℕ)) (ports : List PortView) (row : NetRow) (rest : List NetRow) → RowFits table ports row → AllByRecursion (RowFits table ports) rest
    → AllByRecursion (RowFits table ports) (before row rest)
before_fits table ports row [] fits all = (fits, tt)
before_fits table ports row (next ∷ rest) fits all = go (row.name == next.name) refl
  where
    go : (b : Bool) → (row.name == next.name) ≡ b → AllByRecursion (RowFits table ports) (before row (next ∷ rest))
    go true e = rw e (record { known = fits.known; apart = fits.apart; short = joined_short row.range next.range fits.short all.0.short }, all.1)
    go false e = rw e (fits, (all.0, all.1))

one_short : (index : Option ℕ) → IfSome index IsTreeNumber → IfSome (option_map one_index index) IsTreeRange
one_short None short = tt
one_short (Some index) short = record { left = short; right = short }

with_fits : (table : List (List ℕ)) (ports : List PortView) (index : Option ℕ) (name : Name) (rest : List NetRow) → IsKnown table name → IfSome index IsTreeNumber
    → AllByRecursion (RowFits table ports) rest → AllByRecursion (RowFits table ports) (with_row (named_row ports index name) rest)
with_fits table ports index (Added number) rest known short all = all
with_fits table ports index (Original number) rest known short all = go (has_port_name ports number) refl
  where
    go : (b : Bool) → has_port_name ports number ≡ b → AllByRecursion (RowFits table ports) (with_row (named_row ports index (Original number)) rest)
    go true e = rw e all
    go false e = rw e (before_fits table ports (record { name = number; range = option_map one_index index }) rest
        (record { known = known; apart = e; short = one_short index short }) all)

-- each net has a known name and a short index
pub rows_fit : (table : List (List ℕ)) (ports : List PortView) (nets : List NetView) → ((k : ℕ) (view : NetView) → slice_get nets k ≡ Some view → IsKnown table view.name × IfSome view.index IsTreeNumber)
    → AllByRecursion (RowFits table ports) (rows ports nets)
rows_fit table ports [] each = tt
rows_fit table ports (view ∷ nets) each =
    let here = each 0 view refl in
    with_fits table ports view.index view.name (rows ports nets) here.0 here.1 (rows_fit table ports nets (λ k other at. each (suc k) other at))

pub rows_known : (table : List (List ℕ)) (ports : List PortView) (found : List NetRow) → AllByRecursion (RowFits table ports) found → All (λ (row : NetRow). row.name < length table) found
rows_known table ports [] all = All-nil (λ (row : NetRow). row.name < length table)
rows_known table ports (row ∷ found) all = All-cons (λ (r : NetRow). r.name < length table) row found all.0.known (rows_known table ports found all.1)
