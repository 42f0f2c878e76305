-- The netlist whose core stands behind its boundary cells, and that it can take the test logic.
use Rattle.std.proofs.Common.{◌≡◌, ◌≢◌, ℕ, suc, ◌+◌, ◌==◌, ◌<◌, ◌≤◌, ◌⊎◌, inl, inr, Bool, true, false, List, [], ◌∷◌, ◌++◌, length, length-append, get_or, refl, sym, ◌∙◌, ap, subst, arith, Option, Some, None}
use Rattle.std.specs.Prelude.{map, slice_get, count_by, is_some, option_and_then, unwrap_or, MatchOption, IsSome, ⊤, if◌then◌else◌}
use Rattle.std.specs.Option.{option_map, option_map_or}
use Rattle.std.proofs.lemmas.Option.{slice_get-get_or, slice_get_within}
use Rattle.std.proofs.lemmas.Bool.{ne_eqb}
use Rattle.std.proofs.lemmas.List.Sums.{sum_by-cons}
use Rattle.cell_library.specs.declared.codes.BoundaryKind.{BoundaryKind}
use Rattle.cell_library.specs.declared.codes.BoundaryKind.TheVariants.{Bc1, Bc2, Bc4, Bc7}
use Rattle.cell_library.specs.declared.codes.Function.{Function}
use Rattle.cell_library.specs.declared.codes.Function.TheVariants as function
use Rattle.netlist_model.specs.declared.Dir.TheVariants.{Input}
use Rattle.netlist_model.specs.declared.Feed.{Feed}
use Rattle.netlist_model.specs.declared.Feed.TheVariants.{Net, Const}
use Rattle.netlist_model.specs.declared.NetId.{NetId}
use Rattle.netlist_model.specs.declared.PinBit.{PinBit}
use Rattle.netlist_model.specs.Below.{IsFeedBelow}
use Rattle.netlist_model.specs.Contained.{IsDense}
use Rattle.netlist_model.specs.Formed.{IsLaidOut}
use Rattle.netlist_model.specs.Lists.{PortView, NetView, CellView, NetlistView, live_cell, cell_at, cell_count, direction, is_among, Drives}
use Rattle.netlist_arena.specs.Arena.{ArenaView}
use Rattle.netlist_arena.specs.Adds.{IsFree}
use Rattle.netlist_arena.proofs.Laid.{All-slice_get}
use Rattle.gate_parts.specs.Parts.{added_nets}
use Rattle.gate_parts.proofs.Steps.{length-added_nets}
use Rattle.netlist_model.specs.Nested.{renamed_net, renamed_feed}
use Rattle.plan_fitting.specs.declared.fitted.FitRow.{FitRow}
use Rattle.plan_fitting.specs.declared.fitted.Fitted.{Fitted}
use Rattle.stitched_netlist.specs.declared.model.Site.{Site}
use Rattle.stitched_netlist.specs.declared.model.Site.TheVariants as site
use Rattle.stitched_netlist.specs.declared.model.TapNames.{TapNames}
use Rattle.stitched_netlist.specs.Sites.{Boundary, boundary_of, pin_net, row_net, is_own_net, site_by, site_of, side_count, row_sides, sides_of, side_at}
use Rattle.stitched_netlist.specs.Sides.{is_moved, core_side, core_cell, core_feed}
use Rattle.stitched_netlist.specs.ModelRows.{net_at}
use Rattle.stitched_netlist.specs.Stitched.{tap_port, tap_net_views, with_nets}
use Rattle.stitched_netlist.proofs.ModelMoves.{sides_within, side_range}
use Rattle.written_netlists.specs.core_sides.Pins.{IsPinThere}
use Rattle.written_netlists.specs.core_sides.Ready.{IsDrivenAt, IsControlAt, HasControl}
use Rattle.written_netlists.proofs.core_sides.Behind.{mapped_at}
use Rattle.test_logic_parts.specs.Rows.{into_from, IsApart, IsReady}
use Rattle.test_logic_parts.specs.Whole.{net_room, cell_room, CanTakeLogic}
use Rattle.scan_stitch.specs.Stitched.{nets_around, surrounded, IsRowFit, CanBeStitched}
use Rattle.test_logic_parts.proofs.IntoNets.{EachFits, before_rows, core_apart, into_apart, into_free}
use Rattle.test_logic_parts.proofs.Outputs.{net_number}

-- Bits of rows.

no_bit : (cell : BoundaryKind) (own : Bool) (does : Function) → does ≡ function.Control → is_moved (site_by does cell own) ≡ true → ⊥
no_bit cell own does is e =
    let still : is_moved (site_by does cell own) ≡ false = ap (λ (d : Function). is_moved (site_by d cell own)) is in
    let both : false ≡ true = sym still ∙ e in
    cc

bit_there : (ports : List PortView) (pin : Option PinBit) (does : Function) (cell : BoundaryKind) (own : Bool) → MatchOption pin ⊤ (λ bit. IsSome (pin_net ports bit))
    → (pin ≡ None → does ≡ function.Control) → is_moved (site_by does cell own) ≡ true → IsSome (option_and_then (pin_net ports) pin)
bit_there ports None does cell own there placed moved = absurd (no_bit cell own does (placed refl) moved)
bit_there ports (Some bit) does cell own there placed moved = there

some_is : (net : Option NetId) → IsSome net → net ≡ Some (unwrap_or net (record { 0 = 0 }))
some_is None there = absurd (cc there)
some_is (Some net) there = refl

bit_below : (N : NetlistView) → IsLaidOut N → (pin : Option PinBit) (net : NetId) → option_and_then (pin_net N.ports) pin ≡ Some net → net.0 < length N.nets
bit_below N laid None net e = absurd (cc)
bit_below N laid (Some bit) net e = laid.port_nets bit.port.0 bit.bit net e

pub net_below : (N : NetlistView) → IsLaidOut N → (row : FitRow) (net : NetId) → row_net N.ports row ≡ Some net → net.0 < length N.nets
net_below N laid row net e = bit_below N laid row.pin net e

-- Rows of what was fitted.

driven_outside : (N : NetlistView) (more : List NetView) (at : Site) (net : ℕ) → ((i : ℕ) (cell : CellView) (out : ℕ) → Drives N i cell out → direction N.ports out ≢ Some Input)
    → is_moved at ≡ true → at ≢ site.Input → IsDrivenAt (with_nets more N) at net → direction N.ports net ≢ Some Input
driven_outside N more site.Observed net inputs moved other driven = absurd (cc)
driven_outside N more site.Input net inputs moved other driven = absurd (other refl)
driven_outside N more site.Output net inputs moved other driven =
    inputs driven.number driven.cell net (record { live = driven.drives.live; output = driven.drives.output })
driven_outside N more site.AddedDriver net inputs moved other driven =
    inputs driven.number driven.cell net (record { live = driven.drives.live; output = driven.drives.output })
driven_outside N more site.Driver net inputs moved other driven = absurd (cc)
driven_outside N more site.Inout net inputs moved other driven = absurd (cc)
driven_outside N more site.Control net inputs moved other driven = absurd (cc)

pub each_fits : (N : NetlistView) (names : TapNames) (f : Fitted) → IsLaidOut N → CanBeStitched N names f → EachFits N (boundary_of N f.rows) (length N.nets) f.rows
each_fits N names f laid can k row at =
    let B : Boundary = boundary_of N f.rows in
    let more : List NetView = nets_around N names f.rows in
    let fit = All-slice_get (IsRowFit N) f.rows k row can.fit at in
    let there = All-slice_get (IsPinThere N.ports) f.rows k row can.stands.pins at in
    let bit : is_moved (site_of N.ports row) ≡ true → row_net N.ports row ≡ Some (net_at B row)
    = λ moved. some_is (row_net N.ports row) (bit_there N.ports row.pin row.function row.cell (is_own_net (row_net N.ports row) row.core) there fit.placed moved) in
    record {
      net = λ moved. net_below N laid row (net_at B row) (bit moved);
      bit = bit;
      outside = λ moved other. driven_outside N more (site_of N.ports row) (net_at B row).0 can.inputs moved other (can.stands.driven k row (net_at B row) at (bit moved));
      undriven = λ is.
          let P : Site → Type 0 = λ s. IsDrivenAt (with_nets more N) s (net_at B row).0 in
          subst P is (can.stands.driven k row (net_at B row) at (bit (ap is_moved is)));
    }

-- The core's cells.

lived : (change : CellView → CellView) (place : Option (Option CellView)) → live_cell (option_map (option_map change) place) ≡ option_map change (live_cell place)
lived change None = refl
lived change (Some place) = refl

some_same : (change : CellView → CellView) (place : Option CellView) → is_some (option_map change place) ≡ is_some place
some_same change None = refl
some_same change (Some cell) = refl

pub mapped_count : (change : CellView → CellView) (cells : List (Option CellView)) → count_by is_some (map (option_map change) cells) ≡ count_by is_some cells
mapped_count change [] = refl
mapped_count change (place ∷ cells) =
    let weight : Option CellView → ℕ = λ x. if is_some x then 1 else 0 in
    let a = sum_by-cons weight (option_map change place) (map (option_map change) cells) in
    let b = sum_by-cons weight place cells in
    let same = some_same change place in
    let rest = mapped_count change cells in
    a ∙ ap (λ (t : Bool). (if t then 1 else 0) + count_by is_some (map (option_map change) cells)) same ∙ ap (λ (n : ℕ). (if is_some place then 1 else 0) + n) rest ∙ sym b

some_of : (change : CellView → CellView) (place : Option CellView) → IsSome place → IsSome (option_map change place)
some_of change None there = there
some_of change (Some cell) there = refl

pub dense_around : (N : NetlistView) (names : TapNames) (rows : List FitRow) → IsDense N → IsDense (surrounded N names rows)
dense_around N names rows dense i low =
    let change : CellView → CellView = core_cell (boundary_of N rows) in
    let many = mapped_count change N.cells in
    let low' : i < cell_count N = omega arith in
    let P : Option CellView → Type 0 = λ o. IsSome o in
    subst P (sym (mapped_at change N.cells i)) (some_of change (cell_at N i) (dense i low'))

-- what drives a net of it
record FromCore (N : NetlistView) (B : Boundary) (i net : ℕ) : Type 0 where
  pub cell : CellView
  pub out : ℕ
  pub drives : Drives N i cell out
  pub is : net ≡ core_side B out

by_output : (N : NetlistView) (B : Boundary) (i net : ℕ) (old : CellView) → cell_at N i ≡ Some old → (output : Option NetId) → old.output ≡ output
    → option_map (renamed_net (core_side B)) old.output ≡ Some (record { 0 = net }) → FromCore N B i net
by_output N B i net old here None is drives =
    let none : option_map (renamed_net (core_side B)) None ≡ Some (record { 0 = net })
    = sym (ap (λ (o : Option NetId). option_map (renamed_net (core_side B)) o) is) ∙ drives in
    absurd (cc)
by_output N B i net old here (Some out) is drives =
    let moved : option_map (renamed_net (core_side B)) (Some out) ≡ Some (record { 0 = net })
    = sym (ap (λ (o : Option NetId). option_map (renamed_net (core_side B)) o) is) ∙ drives in
    record { cell = old; out = out.0; drives = record { live = here; output = is }; is = sym (ap net_number moved) }

from_core : (N : NetlistView) (B : Boundary) (i net : ℕ) (place : Option CellView) (cell : CellView) → cell_at N i ≡ place → option_map (core_cell B) place ≡ Some cell
    → cell.output ≡ Some (record { 0 = net }) → FromCore N B i net
from_core N B i net None cell here e drives = absurd (cc)
from_core N B i net (Some old) cell here e drives =
    let same : core_cell B old ≡ cell = cc in
    by_output N B i net old here old.output refl (ap (λ (c : CellView). c.output) same ∙ drives)

driver_around : (N : NetlistView) (names : TapNames) (rows : List FitRow) (i : ℕ) (cell : CellView) (net : ℕ) → Drives (surrounded N names rows) i cell net → FromCore N (boundary_of N rows) i net
driver_around N names rows i cell net drives =
    let B : Boundary = boundary_of N rows in
    from_core N B i net (cell_at N i) cell refl (sym (mapped_at (core_cell B) N.cells i) ∙ drives.live) drives.output

-- Nets that nothing drives.

core_free : (N : NetlistView) (names : TapNames) (f : Fitted) → IsLaidOut N → CanBeStitched N names f → (i : ℕ) (cell : CellView) (net : ℕ) → Drives (surrounded N names f.rows) i cell net
    → IsApart (into_from (boundary_of N f.rows) (length N.nets + 5) f.rows) net
core_free N names f laid can i cell net drives =
    let B : Boundary = boundary_of N f.rows in
    let from = driver_around N names f.rows i cell net drives in
    let P : ℕ → Type 0 = λ n. IsApart (into_from B B.first B.rows) n in
    subst P (sym from.is)
    (core_apart N B (length N.nets) B.first from.out B.rows (each_fits N names f laid can) (omega arith) (laid.outputs i from.cell from.out from.drives) i from.cell from.drives)

among_none : (nets : List NetId) (limit net : ℕ) → ((k : ℕ) (n : NetId) → slice_get nets k ≡ Some n → n.0 < limit) → limit ≤ net → is_among net nets ≡ false
among_none [] limit net below past = refl
among_none (n ∷ nets) limit net below past =
    let low = below 0 n refl in
    let here : (n.0 == net) ≡ false = ne_eqb n.0 net (λ e. omega arith) in
    let rest = among_none nets limit net (λ k m h. below (suc k) m h) past in
    rw here rest

abbrev BitsBelow : ℕ → List PortView → Type 0
BitsBelow limit ports = (p bit : ℕ) (net : NetId) → option_and_then (λ (port : PortView). slice_get port.nets bit) (slice_get ports p) ≡ Some net → net.0 < limit

none_past : (ports : List PortView) (limit net : ℕ) → BitsBelow limit ports → limit ≤ net → direction ports net ≡ None
none_past [] limit net below past = refl
none_past (port ∷ ports) limit net below past =
    let here = among_none port.nets limit net (λ k n h. below 0 k n h) past in
    let rest = none_past ports limit net (λ p bit n h. below (suc p) bit n h) past in
    rw here rest

-- a net behind those of the netlist is no port's
pub no_port : (N : NetlistView) → IsLaidOut N → (net : ℕ) → length N.nets ≤ net → direction N.ports net ≡ None
no_port N laid net past = none_past N.ports (length N.nets) net (λ p bit n h. laid.port_nets p bit n h) past

pub no_input : (N : NetlistView) → IsLaidOut N → (net : ℕ) → length N.nets ≤ net → direction N.ports net ≢ Some Input
no_input N laid net past e = let none = no_port N laid net past in absurd (cc)

-- a net of the test access port
pub lone_free : (N : NetlistView) (names : TapNames) (rows : List FitRow) → IsLaidOut N → (net : ℕ) → length N.nets ≤ net → net < length N.nets + 5 → IsFree (surrounded N names rows) net
lone_free N names rows laid net past low = record {
  undriven = λ i cell live drives.
      let from = driver_around N names rows i cell net (record { live = live; output = drives }) in
      let out = laid.outputs i from.cell from.out from.drives in
      let is = from.is in
      elim (side_range N.ports from.out (length N.nets + 5) rows) [
        | inl stays ↦ omega arith
        | inr beyond ↦ (let a = beyond.0 in omega arith)
      ];
  outside = no_input N laid net past;
}

-- What the rows read.

moved_below : (B : Boundary) (limit n : ℕ) (feed : Feed) → limit ≤ n → B.first + sides_of B.ports B.rows ≤ n → IsFeedBelow limit feed → IsFeedBelow n (renamed_feed (core_side B) feed)
moved_below B limit n (Const b) more sides below = tt
moved_below B limit n (Net net) more sides below =
    let b : net.0 < limit = below in
    let there : core_side B net.0 < n = elim (side_range B.ports net.0 B.first B.rows) [
      | inl stays ↦ omega arith
      | inr beyond ↦ (let past = beyond.1 in omega arith)
    ] in
    there

given_below : (limit : ℕ) (core : Option Feed) → MatchOption core ⊤ (IsFeedBelow limit) → IsFeedBelow limit (unwrap_or core (Const false))
given_below limit None below = tt
given_below limit (Some feed) below = below

enabled_at : (B : Boundary) (n : ℕ) (rows : List FitRow) (k : ℕ) (place : Option FitRow) → slice_get rows k ≡ place
    → ((j : ℕ) (row : FitRow) → slice_get rows j ≡ Some row → IsFeedBelow n (core_feed B row)) → IsFeedBelow n (option_map_or (core_feed B) place (Const false))
enabled_at B n rows k None at each = tt
enabled_at B n rows k (Some row) at each = each k row at

enabled_below : (B : Boundary) (n : ℕ) (rows : List FitRow) (named : Option ℕ) → ((k : ℕ) (row : FitRow) → slice_get rows k ≡ Some row → IsFeedBelow n (core_feed B row))
    → IsFeedBelow n (option_map_or (core_feed B) (option_and_then (slice_get rows) named) (Const false))
enabled_below B n rows None each = tt
enabled_below B n rows (Some k) each = enabled_at B n rows k (slice_get rows k) refl each

level_below : (B : Boundary) (n : ℕ) (named : Option ℕ) → MatchOption named ⊤ (IsControlAt B.rows) → B.first < n → B.first + sides_of B.ports B.rows ≤ n
    → option_map_or (side_at B) named B.first < n
level_below B n None there low sides = low
level_below B n (Some k) there low sides =
    let kind : (does : Function) → ℕ = λ does. side_count (site_by does there.row.cell (is_own_net (row_net B.ports there.row) there.row.core)) in
    let one : row_sides B.ports there.row ≡ 1 = ap kind there.does in
    let taken = sides_within B.ports B.rows k there.row there.there in
    let goal : side_at B k < n = omega arith in
    goal

named_below : (rows : List FitRow) (named : Option ℕ) → MatchOption named ⊤ (IsControlAt rows) → MatchOption named ⊤ (λ number. number < length rows)
named_below rows None there = tt
named_below rows (Some k) there = slice_get_within rows k there.row there.there

is_inout : (does : Function) (cell : BoundaryKind) (own : Bool) → site_by does cell own ≡ site.Inout → does ≡ function.Bidir
is_inout function.Input Bc1 own e = absurd (cc)
is_inout function.Input Bc2 own e = absurd (cc)
is_inout function.Input Bc4 own e = absurd (cc)
is_inout function.Input Bc7 own e = absurd (cc)
is_inout function.Clock Bc1 own e = absurd (cc)
is_inout function.Clock Bc2 own e = absurd (cc)
is_inout function.Clock Bc4 own e = absurd (cc)
is_inout function.Clock Bc7 own e = absurd (cc)
is_inout function.Output2 cell own e = absurd (cc)
is_inout function.Output3 cell true e = absurd (cc)
is_inout function.Output3 cell false e = absurd (cc)
is_inout function.Bidir cell own e = refl
is_inout function.Control cell own e = absurd (cc)

net_there : (N : NetlistView) → IsLaidOut N → (n : ℕ) → length N.nets + 5 ≤ n → (row : FitRow) (net : Option NetId) → row_net N.ports row ≡ net → (unwrap_or net (record { 0 = 0 })).0 < n
net_there N laid n more row None is = omega arith
net_there N laid n more row (Some net) is = let low = net_below N laid row net is in omega arith

pub rows_ready : (N : NetlistView) (names : TapNames) (f : Fitted) → IsLaidOut N → CanBeStitched N names f → (n : ℕ) → length N.nets + 5 + sides_of N.ports f.rows ≤ n
    → (k : ℕ) (row : FitRow) → slice_get f.rows k ≡ Some row → IsReady (boundary_of N f.rows) n row
rows_ready N names f laid can n more k row at =
    let B : Boundary = boundary_of N f.rows in
    let each : (j : ℕ) (other : FitRow) → slice_get f.rows j ≡ Some other → IsFeedBelow n (core_feed B other)
    = λ j other there. moved_below B (length N.nets) n (unwrap_or other.core (Const false)) (omega arith) more
    (given_below (length N.nets) other.core (All-slice_get (IsRowFit N) f.rows j other can.fit there).core) in
    let named = All-slice_get (HasControl f.rows) f.rows k row can.stands.controls at in
    record {
      net = net_there N laid n (omega arith) row (row_net N.ports row) refl;
      core = each k row at;
      enable = enabled_below B n f.rows row.control each;
      level = λ is.
          let two : row_sides N.ports row ≡ 2 = ap side_count is in
          let taken = sides_within N.ports f.rows k row at in
          level_below B n row.control named (omega arith) more;
      control = named_below f.rows row.control named;
      inout = λ is. (All-slice_get (IsRowFit N) f.rows k row can.fit at).inout (is_inout row.function row.cell (is_own_net (row_net N.ports row) row.core) is);
    }

-- The whole.

pub length_around : (N : NetlistView) (names : TapNames) (rows : List FitRow) → length (surrounded N names rows).nets ≡ length N.nets + (5 + sides_of N.ports rows)
length_around N names rows =
    let sides : List NetView = added_nets (length N.nets + 5) (sides_of N.ports rows) in
    let five : length (tap_net_views names) ≡ 5 = refl in
    let many = length-added_nets (length N.nets + 5) (sides_of N.ports rows) in
    let both = length-append (tap_net_views names) sides in
    let all = length-append N.nets (tap_net_views names ++ sides) in
    omega arith

around_can_take : (N : NetlistView) (names : TapNames) (f : Fitted) (A : ArenaView) → IsLaidOut N → CanBeStitched N names f → net_room f ≤ A.spare.nets → cell_room f ≤ A.spare.cells
    → CanTakeLogic (record A { lists = surrounded N names f.rows }) (boundary_of N f.rows) f (tap_port (length N.nets))
around_can_take N names f A laid can nets cells =
    let B : Boundary = boundary_of N f.rows in
    let S : NetlistView = surrounded N names f.rows in
    let long = length_around N names f.rows in
    let fits = each_fits N names f laid can in
    record {
      dense = dense_around N names f.rows can.dense;
      bits = can.small.bits;
      rows = refl;
      boundary = record { few = can.stands.few; pins = can.stands.pins; fits = can.stands.fits };
      nets = nets;
      cells = cells;
      port_there = record { tck = omega arith; tms = omega arith; tdi = omega arith; tdo = omega arith; trst = omega arith };
      between = omega arith;
      ready = λ k d low. rows_ready N names f laid can (length S.nets) (omega arith) k (get_or f.rows k d) (slice_get-get_or f.rows k d low);
      free = into_free N S B (length N.nets) fits (omega arith) (omega arith) (no_input N laid) refl (core_free N names f laid can);
      apart = into_apart N B (length N.nets) B.first f.rows fits (λ j k one other net at there has too. can.stands.apart j k one other net at there has too) (omega arith);
      tdo_free = lone_free N names f.rows laid (length N.nets + 3) (omega arith) (omega arith);
      tdo_apart = before_rows N B (length N.nets) B.first (length N.nets + 3) f.rows fits (omega arith) (omega arith);
    }

pub can_take : (N : NetlistView) (names : TapNames) (f : Fitted) (A : ArenaView) → A.lists ≡ surrounded N names f.rows → IsLaidOut N → CanBeStitched N names f → net_room f ≤ A.spare.nets
    → cell_room f ≤ A.spare.cells → CanTakeLogic A (boundary_of N f.rows) f (tap_port (length N.nets))
can_take N names f A is laid can nets cells =
    let P : NetlistView → Type 0 = λ L. CanTakeLogic (record A { lists = L }) (boundary_of N f.rows) f (tap_port (length N.nets)) in
    subst P (sym is) (around_can_take N names f A laid can nets cells)

-- the other nets of the test access port
pub port_apart : (N : NetlistView) (names : TapNames) (f : Fitted) → IsLaidOut N → CanBeStitched N names f → (net : ℕ) → length N.nets ≤ net → net < length N.nets + 5
    → IsApart (into_from (boundary_of N f.rows) (length N.nets + 5) f.rows) net
port_apart N names f laid can net past low = before_rows N (boundary_of N f.rows) (length N.nets) (length N.nets + 5) net f.rows (each_fits N names f laid can) past low
