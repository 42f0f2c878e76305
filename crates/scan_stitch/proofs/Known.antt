-- What linking, fitting and preparing give stitching.
use Rattle.std.proofs.Common.{◌≡◌, ℕ, ◌+◌, ◌^◌, ◌<◌, ◌≤◌, max, List, [], length, sym, ◌∙◌, ap, subst, arith, inl}
use Rattle.cell_library.specs.declared.listed.ListedCell.{ListedCell}
use Rattle.cell_library.specs.Gates.{is_flop}
use Rattle.netlist_model.specs.Formed.{IsWellFormed, IsNumbered, IsLaidOut}
use Rattle.netlist_model.specs.Lists.{CellView, NetlistView, cell_count, Drives}
use Rattle.netlist_model.specs.Settle.{IsDrivenOnce}
use Rattle.netlist_arena.specs.Arena.{ArenaView}
use Rattle.cell_order.specs.Tables.{RoomView, FitsRoom}
use Rattle.netlist_link.specs.Grown.{GrownIsFormed}
use Rattle.netlist_link.specs.Linked.{LinkedView}
use Rattle.netlist_link.specs.WellNamed.{IsWellNamed}
use Rattle.netlist_link.proofs.Rewrites.{few_nets}
use Rattle.plan_fitting.specs.declared.fitted.Fitted.{Fitted}
use Rattle.plan_fitting.specs.Devices.{fitted_of}
use Rattle.stitched_netlist.specs.declared.model.TapNames.{TapNames}
use Rattle.stitched_netlist.specs.Stitched.{stitched}
use Rattle.written_netlists.specs.Prepared.{room_of, ports_of, prepared, with_tap_names, AreTapNames, HasEntered}
use Rattle.written_netlists.specs.Same.{IsSameNetlist, SameIsNamed}
use Rattle.written_netlists.specs.NamesLaws.{TapNamesAreEntered, StitchedIsNamed}
use Rattle.written_netlists.specs.ReadyLaws.{FittedCanStandBehind}
use Rattle.stitched_netlist.specs.FormedLaws.{StitchedIsFormed}
use Rattle.scan_stitch.specs.Ready.{IsSmall}
use Rattle.scan_stitch.specs.Stitched.{CanBeStitched, HasStitchRoom}
use Rattle.scan_stitch.specs.Stitch.{CanStitch}
use Rattle.scan_stitch.proofs.Fit.{can_be_stitched}

-- Room.

-- Well formed.

pub same_is_formed : GrownIsFormed → (one other : NetlistView) → IsSameNetlist one other → IsWellFormed other → IsWellFormed one
same_is_formed grown one other same formed =
    let back : (i : ℕ) (cell : CellView) (net : ℕ) → Drives one i cell net → Drives other i cell net
    = λ i cell net drives. record { live = sym (same.cells i) ∙ drives.live; output = drives.output } in
    let once : IsDrivenOnce one = λ i j cell found net a b. formed.one_driver i j cell found net (back i cell net a) (back j found net b) in
    let numbered : IsNumbered one formed.ordered.0 = record { gates = λ i cell net drives gate. formed.ordered.1.gates i cell net (back i cell net drives) (ap (λ (l : List ListedCell). is_flop l cell.kind) (sym same.library) ∙ gate) } in
    grown other one [] formed.ordered.0 formed
    (record {
      library = same.library;
      ports = same.ports;
      kept = λ i cell live. same.cells i ∙ live;
      either = λ i cell live. inl (sym (same.cells i) ∙ live);
    })
    once numbered (λ cell is. absurd (let at = is.at in cc))

-- What a caller knows.

pub lists_before : (linked : LinkedView) (f : Fitted) (can : CanStitch linked f) → linked.arena.lists ≡ can.before.arena.lists
lists_before linked f can = ap (λ (K : LinkedView). K.arena.lists) can.prepared_is

pub laid_before : (linked : LinkedView) (f : Fitted) (can : CanStitch linked f) → IsLaidOut linked.arena.lists → IsLaidOut can.before.arena.lists
laid_before linked f can laid = let P : NetlistView → Type 0 = λ N. IsLaidOut N in subst P (lists_before linked f can) laid

pub names_entered : TapNamesAreEntered → (linked : LinkedView) (f : Fitted) → CanStitch linked f → HasEntered linked.names f
names_entered entered linked f can =
    let P : List (List ℕ) → Type 0 = λ names. HasEntered names f in
    subst P (sym (ap (λ (K : LinkedView). K.names) can.prepared_is)) (entered can.before.names f).entered

pub can_of : FittedCanStandBehind → (linked : LinkedView) (f : Fitted) (names : TapNames) → CanStitch linked f → IsLaidOut linked.arena.lists → CanBeStitched linked.arena.lists names f
can_of stand linked f names can laid =
    let L : LinkedView = can.before in
    let fit = can.fitted.is in
    let made : Fitted = fitted_of L can.plan can.fitted.seen in
    let S : Fitted → Type 0 = λ g. IsSmall g in
    let few = few_nets L.arena.lists (room_of f) (room_of f) (ports_of f) can.few in
    let room : room_of f ≡ room_of made = ap room_of fit in
    let base = can_be_stitched stand L can.plan can.fitted.seen names can.fitting (laid_before linked f can laid) can.dense (subst S fit can.small) (omega arith) in
    let P : NetlistView → Fitted → Type 0 = λ N g. CanBeStitched N names g in
    subst (λ (N : NetlistView). P N f) (sym (lists_before linked f can)) (subst (λ (g : Fitted). P L.arena.lists g) (sym fit) base)

pub room_made : (linked : LinkedView) (f : Fitted) → CanStitch linked f → HasStitchRoom linked.arena f
room_made linked f can =
    let L : LinkedView = can.before in
    let few = few_nets L.arena.lists (room_of f) (room_of f) (ports_of f) can.few in
    let nets : linked.arena.spare.nets ≡ max L.arena.spare.nets (room_of f) = ap (λ (K : LinkedView). K.arena.spare.nets) can.prepared_is in
    let cells : linked.arena.spare.cells ≡ max L.arena.spare.cells (room_of f) = ap (λ (K : LinkedView). K.arena.spare.cells) can.prepared_is in
    let bits : linked.arena.spare.port_bits ≡ max L.arena.spare.port_bits (ports_of f) = ap (λ (K : LinkedView). K.arena.spare.port_bits) can.prepared_is in
    let long : length linked.arena.lists.nets ≡ length L.arena.lists.nets = ap (λ (N : NetlistView). length N.nets) (lists_before linked f can) in
    record { nets = omega arith; cells = omega arith; port_bits = omega arith; fits = omega arith }

pub fits_room : (linked : LinkedView) (f : Fitted) (new : NetlistView) (room : RoomView) → CanStitch linked f → room ≡ linked.room → length new.nets ≤ length linked.arena.lists.nets + room_of f
    → cell_count new ≤ cell_count linked.arena.lists + room_of f → FitsRoom new room
fits_room linked f new room can is nets cells =
    let L : LinkedView = can.before in
    let a : room.nets ≡ max L.room.nets (length L.arena.lists.nets + room_of f) = ap (λ (R : RoomView). R.nets) is ∙ ap (λ (K : LinkedView). K.room.nets) can.prepared_is in
    let b : room.cells ≡ max L.room.cells (cell_count L.arena.lists + room_of f) = ap (λ (R : RoomView). R.cells) is ∙ ap (λ (K : LinkedView). K.room.cells) can.prepared_is in
    let long : length linked.arena.lists.nets ≡ length L.arena.lists.nets = ap (λ (N : NetlistView). length N.nets) (lists_before linked f can) in
    let many : cell_count linked.arena.lists ≡ cell_count L.arena.lists = ap (λ (N : NetlistView). cell_count N) (lists_before linked f can) in
    record { cells = omega arith; nets = omega arith }

-- the netlist with the test logic, of the netlist that was prepared
pub stitched_same : (linked : LinkedView) (f : Fitted) (names : TapNames) (can : CanStitch linked f)
    → stitched linked.arena.lists names f ≡ stitched can.before.arena.lists names (fitted_of can.before can.plan can.fitted.seen)
stitched_same linked f names can =
    ap (λ (N : NetlistView). stitched N names f) (lists_before linked f can) ∙ ap (λ (g : Fitted). stitched can.before.arena.lists names g) can.fitted.is

pub named_of : SameIsNamed → StitchedIsNamed → (linked : LinkedView) (f : Fitted) (names : TapNames) (new : NetlistView) (table : List (List ℕ)) → CanStitch linked f
    → IsLaidOut linked.arena.lists → AreTapNames linked.names f names → table ≡ linked.names → IsSameNetlist new (stitched linked.arena.lists names f) → IsWellNamed table new
named_of same_named named linked f names new table can laid are kept same =
    let L : LinkedView = can.before in
    let fit = can.fitted.is in
    let made : Fitted = fitted_of L can.plan can.fitted.seen in
    let entered : linked.names ≡ with_tap_names made L.names = ap (λ (K : LinkedView). K.names) can.prepared_is ∙ ap (λ (g : Fitted). with_tap_names g L.names) fit in
    let P : List (List ℕ) → Fitted → Type 0 = λ ns g. AreTapNames ns g names in
    let are' : AreTapNames (with_tap_names made L.names) made names
    = subst (λ (g : Fitted). P (with_tap_names made L.names) g) fit (subst (λ (ns : List (List ℕ)). P ns f) entered are) in
    let base = named L can.plan can.fitted.seen names can.fitting (laid_before linked f can laid) can.dense are' in
    let Q : List (List ℕ) → NetlistView → Type 0 = λ ns N. IsWellNamed ns N in
    same_named table new (stitched linked.arena.lists names f) same
    (subst (λ (ns : List (List ℕ)). Q ns (stitched linked.arena.lists names f)) (sym (kept ∙ entered))
    (subst (λ (N : NetlistView). Q (with_tap_names made L.names) N) (sym (stitched_same linked f names can)) base))

pub formed_of : GrownIsFormed → StitchedIsFormed → (linked : LinkedView) (f : Fitted) (names : TapNames) (new : NetlistView) → CanStitch linked f → IsLaidOut linked.arena.lists
    → IsSameNetlist new (stitched linked.arena.lists names f) → IsWellFormed new
formed_of grown formed linked f names new can laid same =
    let L : LinkedView = can.before in
    let base = formed L can.plan can.fitted.seen names can.fitting (laid_before linked f can laid) can.dense in
    let Q : NetlistView → Type 0 = λ N. IsWellFormed N in
    same_is_formed grown new (stitched linked.arena.lists names f) same (subst Q (sym (stitched_same linked f names can)) base)

pub fits_room_at : (linked : LinkedView) (f : Fitted) (new : NetlistView) (room : RoomView) (A : ArenaView) → CanStitch linked f → A ≡ linked.arena → room ≡ linked.room
    → length new.nets ≤ length A.lists.nets + room_of f → cell_count new ≤ cell_count A.lists + room_of f → FitsRoom new room
fits_room_at linked f new room A can same is nets cells =
    let P : ArenaView → Type 0 = λ B. length new.nets ≤ length B.lists.nets + room_of f in
    let Q : ArenaView → Type 0 = λ B. cell_count new ≤ cell_count B.lists + room_of f in
    fits_room linked f new room can is (subst P same nets) (subst Q same cells)
