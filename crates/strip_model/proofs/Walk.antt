-- The rows one after the other, the last of the register first.
use Rattle.std.proofs.Common.{◌≡◌, ℕ, suc, ◌+◌, ◌<◌, List, [], ◌∷◌, ◌++◌, map, reverse, length, drop, refl, sym, ◌∙◌, ap, Option, Some, option_map, option_and_then, arith, append_assoc}
use Rattle.std.proofs.lemmas.List.{reverse-append, length-reverse}
use Rattle.std.proofs.Math.Seq.{drop-append_seam}
use Rattle.netlist_model.specs.declared.NetId.{NetId}
use Rattle.netlist_model.specs.Lists.{CellView}
use Rattle.verilog_tree.specs.declared.tree.Item.{Item}
use Rattle.test_logic.specs.declared.ScanNets.{ScanNets}
use Rattle.plan_fitting.specs.declared.fitted.FitRow.{FitRow}
use Rattle.plan_fitting.specs.declared.fitted.Fitted.{Fitted}
use Rattle.plan_fitting.specs.Devices.{cell_row}
use Rattle.netlist_unlink.specs.Trees.{Naming, item_of, items_from}
use Rattle.stitched_netlist.specs.declared.model.Site.{Site}
use Rattle.stitched_netlist.specs.declared.model.Site.TheVariants as site
use Rattle.stitched_netlist.specs.Sites.{Boundary, row_net, is_own_net, site_of, row_sides, sides_of}
use Rattle.stitched_netlist.specs.ModelRows.{row_cells, rows_cells, nets_of_rows, last_bit}
use Rattle.stitched_netlist.proofs.ModelMoves.{sides_cons}
use Rattle.strip_model.specs.declared.Side.{Side}
use Rattle.strip_model.specs.declared.Stand.{Stand}
use Rattle.strip_model.specs.Sides.{stand_at, sides_in, with_side}
use Rattle.strip_model.specs.Pairs.{Pair, pair_at, pairs_from}
use Rattle.strip_model.specs.Chain.{written_side, AreAdded}
use Rattle.strip_model.proofs.NetlistsStands.{first_side, IsAddedNet, IsTold, told}

-- Items.

pub items_joined : (naming : Naming) (number : ℕ) (xs ys : List CellView)
    → items_from naming number (map Some (xs ++ ys)) ≡ items_from naming number (map Some xs) ++ items_from naming (number + length xs) (map Some ys)
items_joined naming number [] ys =
    let same : number + 0 ≡ number = omega arith in rw same refl
items_joined naming number (x ∷ xs) ys =
    let rest = items_joined naming (number + 1) xs ys in
    let same : number + 1 + length xs ≡ number + length (x ∷ xs) = omega arith in
    ap (λ (items : List Item). item_of naming number x ∷ items) (rest ∙ ap (λ (n : ℕ). items_from naming (number + 1) (map Some xs) ++ items_from naming n (map Some ys)) same)

pub items_counted : (naming : Naming) (number : ℕ) (xs : List CellView) → length (items_from naming number (map Some xs)) ≡ length xs
items_counted naming number [] = refl
items_counted naming number (x ∷ xs) = ap suc (items_counted naming (number + 1) xs)

-- One row.

told_row : (naming : Naming) (B : Boundary) (scan : ScanNets) (first number written side : ℕ) (row : FitRow) (next : NetId) (before : List Item)
    → (0 < row_sides B.ports row → IsAddedNet naming side) → IsTold naming B scan first number written side row next before (site_of B.ports row)
told_row naming B scan first number written side row next before added =
    told naming B scan first number written side next before row.cell row.function (is_own_net (row_net B.ports row) row.core) row.pin row.core row.control row.active_high added

-- a row's pair before others
with_first : (naming : Naming) (B : Boundary) (side : ℕ) (row : FitRow) (at : Site) (pairs : List Pair)
    → with_side (first_side naming (pair_at B side row at)) (map (written_side naming) pairs) ≡ map (written_side naming) (pair_at B side row at ++ pairs)
with_first naming B side row site.Observed pairs = refl
with_first naming B side row site.Input pairs = refl
with_first naming B side row site.Output pairs = refl
with_first naming B side row site.AddedDriver pairs = refl
with_first naming B side row site.Driver pairs = refl
with_first naming B side row site.Inout pairs = refl
with_first naming B side row site.Control pairs = refl

-- All rows.

pub chain_read : (naming : Naming) (B : Boundary) (f : Fitted) (scan : ScanNets) (first number written side : ℕ) (tdi : NetId) (rows : List FitRow) (before : List Item)
    → AreAdded naming side (sides_of B.ports rows)
    → sides_in (map (cell_row f) rows) (reverse (items_from naming written (map Some (rows_cells B scan first number tdi side rows))) ++ before)
    ≡ Some (map (written_side naming) (pairs_from B side rows))
chain_read naming B f scan first number written side tdi [] before added = refl
chain_read naming B f scan first number written side tdi (row ∷ rows) before added =
    let past : List CellView = rows_cells B scan first number tdi (side + row_sides B.ports row) rows in
    let own : List CellView = row_cells B scan (first + nets_of_rows B.ports rows) (number + length past) side row (last_bit B.ports first tdi rows) in
    let past_items : List Item = items_from naming written (map Some past) in
    let own_items : List Item = items_from naming (written + length past) (map Some own) in
    let more = sides_cons B.ports row rows in
    let split : reverse (items_from naming written (map Some (past ++ own))) ++ before ≡ reverse own_items ++ (reverse past_items ++ before) =
    ap (λ (items : List Item). reverse items ++ before) (items_joined naming written past own)
    ∙ ap (λ (items : List Item). items ++ before) (reverse-append past_items own_items)
    ∙ append_assoc (reverse own_items) (reverse past_items) before in
    let here : stand_at row.function row.cell (reverse own_items ++ (reverse past_items ++ before)) ≡ Some (record { side = first_side naming (pair_at B side row (site_of B.ports row)); count = length own }) =
    told_row naming B scan (first + nets_of_rows B.ports rows) (number + length past) (written + length past) side row (last_bit B.ports first tdi rows) (reverse past_items ++ before)
    (λ some. added side (omega arith) (omega (arith, some, more))) in
    let count : length own ≡ length (reverse own_items) = sym (length-reverse own_items ∙ items_counted naming (written + length past) own) in
    let left : drop (length own) (reverse own_items ++ (reverse past_items ++ before)) ≡ reverse past_items ++ before =
    ap (λ (n : ℕ). drop n (reverse own_items ++ (reverse past_items ++ before))) count ∙ drop-append_seam (reverse own_items) (reverse past_items ++ before) in
    let rest = chain_read naming B f scan first number written (side + row_sides B.ports row) tdi rows before (λ net low high. added net (omega (arith, low)) (omega (arith, high, more))) in
    let go : List Item → Option (List Side) = λ items.
    option_and_then (λ (s : Stand). option_map (with_side s.side) (sides_in (map (cell_row f) rows) (drop s.count items))) (stand_at row.function row.cell items) in
    ap go split
    ∙ ap (λ (found : Option Stand). option_and_then (λ (s : Stand). option_map (with_side s.side) (sides_in (map (cell_row f) rows) (drop s.count (reverse own_items ++ (reverse past_items ++ before))))) found) here
    ∙ ap (λ (items : List Item). option_map (with_side (first_side naming (pair_at B side row (site_of B.ports row)))) (sides_in (map (cell_row f) rows) items)) left
    ∙ ap (λ (found : Option (List Side)). option_map (with_side (first_side naming (pair_at B side row (site_of B.ports row)))) found) rest
    ∙ ap (λ (sides : List Side). Some sides) (with_first naming B side row (site_of B.ports row) (pairs_from B (side + row_sides B.ports row) rows))
