-- Wires of the core that nothing drives.
use Rattle.std.proofs.Common.{◌≡◌, ◌≢◌, ℕ, ◌+◌, ◌<◌, ◌≤◌, ◌==◌, inl, inr, Bool, true, false, List, ◌∷◌, [], ◌++◌, length, length-append, Option, Some, None, refl, ap, sym, ◌∙◌, arith, eqb-true, eq-eqb}
use Rattle.std.specs.Prelude.{slice_get}
use Rattle.list_laws.proofs.Lists.{slice_get-append_left, slice_get-append_right}
use Rattle.std.proofs.lemmas.Option.{slice_get_within}
use Rattle.std.proofs.lemmas.Bool.{cases_lt}
use Rattle.netlist_model.specs.declared.NetId.{NetId}
use Rattle.netlist_model.specs.declared.Dir.{Dir}
use Rattle.netlist_model.specs.declared.Dir.TheVariants.{Output}
use Rattle.netlist_model.specs.declared.Feed.{Feed}
use Rattle.netlist_model.specs.declared.Feed.TheVariants.{Net}
use Rattle.netlist_model.specs.Lists.{CellView, NetlistView, cell_at, direction, Drives, IsUndriven}
use Rattle.netlist_arena.specs.Moves.{with_feed}
use Rattle.gate_parts.specs.Parts.{added_nets}
use Rattle.plan_fitting.specs.declared.fitted.Fitted.{Fitted}
use Rattle.stitched_netlist.specs.declared.model.TapNames.{TapNames}
use Rattle.stitched_netlist.specs.Sites.{sides_of}
use Rattle.stitched_netlist.specs.ModelRows.{nets_of_rows}
use Rattle.stitched_netlist.specs.ModelLogic.{logic_size, bypass_at}
use Rattle.stitched_netlist.specs.Stitched.{boundary_at, first_net, test_logic_nets, stitched_cells_by, stitched_cells, stitched}
use Rattle.stitched_netlist.proofs.PlacesLaws.{listed_at}
use Rattle.stitched_netlist.proofs.FormedContext.{FitsWell}
use Rattle.stitched_netlist.proofs.FormedPlaces.{PinDriver, own_pin, cell_pin, added_pin, DriverOf, of_pin, of_tdo_pin, of_side, of_logic, of_row_net, of_tdo_net}
use Rattle.stitched_netlist.proofs.OneDriver.{within}
use Rattle.stitched_netlist.proofs.Laid.{driver_in}
use Rattle.open_stitch.proofs.Connected.{opened_length, opened_output}
use Rattle.open_stitch.specs.Open.{through_number, through_net, through_cell, open_cells, stitched_open}
use Rattle.open_stitch.specs.Runs.{Extends}
use Rattle.open_stitch.proofs.Places.{stitched_nets}

-- In the stitched netlist.

by_pin : (N : NetlistView) (f : Fitted) (i net : ℕ) (cell : CellView) → direction N.ports net ≡ None → IsUndriven N net → PinDriver N f i net cell → ⊥
by_pin N f i net cell none free (own_pin old d is s) = free i old d.live d.output
by_pin N f i net cell none free (cell_pin k row there on out here at) = absurd (let no : ◌≡◌ {A = Option Dir} None (Some Output) = sym none ∙ out in cc)
by_pin N f i net cell none free (added_pin k row there on out here at) = absurd (let no : ◌≡◌ {A = Option Dir} None (Some Output) = sym none ∙ out in cc)

by_place : (N : NetlistView) (f : Fitted) (i net : ℕ) (cell : CellView) → net < length N.nets → direction N.ports net ≡ None → IsUndriven N net → DriverOf N f i net cell → ⊥
by_place N f i net cell low none free (of_pin below d) = by_pin N f i net cell none free d
by_place N f i net cell low none free (of_tdo_pin is e) = omega (arith, low, e)
by_place N f i net cell low none free (of_side k row e there few is d) =
    let w = within N f i net cell (of_side k row e there few is d) in
    let past : length N.nets + 5 ≤ net = w.low in omega (arith, low, past)
by_place N f i net cell low none free (of_logic j few is e) =
    let start : first_net N f ≡ length N.nets + 5 + sides_of N.ports f.rows = refl in omega (arith, low, e, start)
by_place N f i net cell low none free (of_row_net k row j there few is e) =
    let w = within N f i net cell (of_row_net k row j there few is e) in
    let start : first_net N f ≡ length N.nets + 5 + sides_of N.ports f.rows = refl in
    let past : first_net N f + logic_size f ≤ net = w.low in omega (arith, low, past, start)
by_place N f i net cell low none free (of_tdo_net j few is e) =
    let start : first_net N f ≡ length N.nets + 5 + sides_of N.ports f.rows = refl in
    let own : net ≡ first_net N f + logic_size f + nets_of_rows N.ports f.rows + j = e in omega (arith, low, own, start)

-- In a netlist that extends the one with the buffer.

same_cell : (a b : CellView) → ◌≡◌ {A = Option CellView} (Some a) (Some b) → a ≡ b
same_cell a b e = cc

same_id : (a b : NetId) → ◌≡◌ {A = Option NetId} (Some a) (Some b) → a ≡ b
same_id a b e = cc

-- the buffer's own net stands behind the netlist's
buffer_past : (N : NetlistView) (f : Fitted) (net : ℕ) (cell : CellView) (operand : Feed) → net < length N.nets → cell ≡ with_feed 0 operand (through_cell N f (Net (bypass_at (first_net N f) f)))
    → cell.output ≡ Some (record { 0 = net }) → ⊥
buffer_past N f net cell operand low is output =
    let same : through_net N f ≡ record { 0 = net } = same_id (through_net N f) (record { 0 = net }) (ap (λ (c : CellView). c.output) (sym is) ∙ output) in
    let at : first_net N f + test_logic_nets (boundary_at N f) f ≡ net = ap (λ (n : NetId). n.0) same in
    let start : first_net N f ≡ length N.nets + 5 + sides_of N.ports f.rows = refl in
    omega (arith, low, at, start)

in_front : (N : NetlistView) (names : TapNames) (f : Fitted) (net i : ℕ) (old : CellView) → FitsWell N f → net < length N.nets → direction N.ports net ≡ None → IsUndriven N net
    → slice_get (stitched_cells_by (through_net N f) N f) i ≡ Some old → old.output ≡ Some (record { 0 = net }) → ⊥
in_front N names f net i old well low none free at output =
    let o = opened_output N f (through_net N f) i old at in
    let drives : Drives (stitched N names f) i o.other net = record { live = listed_at (stitched_cells N f) i ∙ o.at; output = o.output ∙ output } in
    by_place N f i net o.other low none free (driver_in N names f well i o.other net drives)

pub stays_undriven : (N M : NetlistView) (names : TapNames) (f : Fitted) (operand : Feed) → FitsWell N f → Extends (stitched_open N names f) M (through_number N f) operand
    → (net : ℕ) → net < length N.nets → direction N.ports net ≡ None → IsUndriven N net → IsUndriven M net
stays_undriven N M names f operand well x net low none free i cell live output = by_old (cell_at (stitched_open N names f) i) refl
  where
    cells : List CellView
    cells = stitched_cells_by (through_net N f) N f

    own : CellView
    own = through_cell N f (Net (bypass_at (first_net N f) f))

    more : length N.nets ≤ length (stitched_open N names f).nets
    more =
        let many = stitched_nets N names f in
        let start : first_net N f ≡ length N.nets + 5 + sides_of N.ports f.rows = refl in
        let both = length-append (stitched N names f).nets (added_nets (through_net N f).0 1) in
        let all : length (stitched_open N names f).nets ≡ length ((stitched N names f).nets ++ added_nets (through_net N f).0 1) = refl in
        omega (arith, many, start, both, all)

    at_buffer : i ≡ through_number N f → ⊥
    at_buffer is =
        let k : ℕ = through_number N f in
        let long = opened_length N f (through_net N f) in
        let number : k ≡ length (stitched_cells N f) = refl in
        let place : k ≡ length cells + 0 = omega (arith, long, number) in
        let there : cell_at M k ≡ Some (with_feed 0 operand own) = x.buffer own (listed_at (open_cells N f) k ∙ slice_get-append_right cells (own ∷ []) k 0 place) in
        buffer_past N f net cell operand low (same_cell cell (with_feed 0 operand own) (sym live ∙ ap (cell_at M) is ∙ there)) output

    at_other : (old : CellView) → cell_at (stitched_open N names f) i ≡ Some old → i ≢ through_number N f → ⊥
    at_other old here apart =
        let same = same_cell old cell (sym (x.cells i old apart here) ∙ live) in
        let listed : slice_get (open_cells N f) i ≡ Some old = sym (listed_at (open_cells N f) i) ∙ here in
        let within_all = slice_get_within (open_cells N f) i old listed in
        let both = length-append cells (own ∷ []) in
        let long = opened_length N f (through_net N f) in
        let all : length (open_cells N f) ≡ length (cells ++ own ∷ []) = refl in
        let one : length (own ∷ []) ≡ 1 = refl in
        let number : through_number N f ≡ length (stitched_cells N f) = refl in
        elim (cases_lt i (length cells)) [
          | inl inside ↦
              in_front N names f net i old well low none free (sym (slice_get-append_left cells (own ∷ []) i inside) ∙ listed) (ap (λ (c : CellView). c.output) same ∙ output)
          | inr past ↦ apart (omega (arith, within_all, all, one, both, long, number, past))
        ]

    by_test : (old : CellView) → cell_at (stitched_open N names f) i ≡ Some old → (b : Bool) → (i == through_number N f) ≡ b → ⊥
    by_test old here true is = at_buffer (eqb-true i (through_number N f) is)
    by_test old here false is = at_other old here (λ e. absurd (let no : true ≡ false = sym (eq-eqb i (through_number N f) e) ∙ is in cc))

    by_old : (place : Option CellView) → cell_at (stitched_open N names f) i ≡ place → ⊥
    by_old None here = let past = x.own i cell net here (record { live = live; output = output }) in omega (arith, past, more, low)
    by_old (Some old) here = by_test old here (i == through_number N f) refl
