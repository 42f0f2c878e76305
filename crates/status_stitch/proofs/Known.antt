-- What linking, fitting and preparing give.
use Rattle.std.proofs.Common.{◌≡◌, ℕ, ◌+◌, ◌*◌, ◌^◌, ◌<◌, ◌≤◌, max, List, length, refl, sym, ◌∙◌, ap, subst, arith}
use Rattle.netlist_model.specs.Formed.{IsLaidOut, IsWellFormed}
use Rattle.netlist_model.specs.Lists.{NetlistView, cell_count}
use Rattle.netlist_arena.specs.Arena.{ArenaView}
use Rattle.cell_order.specs.Tables.{RoomView, FitsRoom}
use Rattle.netlist_link.specs.Grown.{GrownIsFormed}
use Rattle.netlist_link.specs.Linked.{LinkedView}
use Rattle.netlist_link.specs.WellNamed.{IsWellNamed}
use Rattle.netlist_link.proofs.Rewrites.{few_nets}
use Rattle.plan_fitting.specs.declared.fitted.Fitted.{Fitted}
use Rattle.stitched_netlist.specs.declared.model.TapNames.{TapNames}
use Rattle.stitched_netlist.specs.Stitched.{stitched}
use Rattle.written_netlists.specs.Prepared.{room_of, ports_of, prepared, AreTapNames, HasEntered}
use Rattle.written_netlists.specs.Same.{IsSameNetlist, SameIsNamed}
use Rattle.written_netlists.specs.NamesLaws.{TapNamesAreEntered, StitchedIsNamed}
use Rattle.written_netlists.specs.ReadyLaws.{FittedCanStandBehind}
use Rattle.stitched_netlist.specs.FormedLaws.{StitchedIsFormed}
use Rattle.status_room.specs.scan_stitch.Stitched.{CanBeStitched}
use Rattle.status_room.specs.scan_stitch.Stitch.{CanStitch}
use Rattle.status_room.proofs.scan_stitch.Known.{names_entered, can_of, named_of, formed_of}
use Rattle.status_fitting.specs.declared.fitted.FittedRegister.{FittedRegister}
use Rattle.status_room.specs.Needed.{AreBuildable}
use Rattle.status_room.specs.ReadyLaws.{FittedCanBeBuilt}
use Rattle.status_room.specs.Ready.{whole_room, HasStatusRoom}
use Rattle.status_room.proofs.Limits.{too_many_less}
use Rattle.status_stitch.specs.Stitch.{CanStitchStatus}

-- The netlist as it would be prepared for the test logic alone.

pub base_of : (linked : LinkedView) (f : Fitted) (rs : List FittedRegister) → (can : CanStitchStatus linked f rs) → CanStitch (prepared f can.before) f
base_of linked f rs can = record {
  before = can.before;
  plan = can.plan;
  fitted = can.fitted;
  fitting = can.fitting;
  dense = can.dense;
  prepared_is = refl;
  small = can.small;
  few = too_many_less can.before.arena.lists (room_of f) (whole_room f rs) (ports_of f) (omega arith) can.few;
}

pub lists_are : (linked : LinkedView) (f : Fitted) (rs : List FittedRegister) → (can : CanStitchStatus linked f rs) → linked.arena.lists ≡ can.before.arena.lists
lists_are linked f rs can = ap (λ (K : LinkedView). K.arena.lists) can.prepared_is

pub names_are : (linked : LinkedView) (f : Fitted) (rs : List FittedRegister) → (can : CanStitchStatus linked f rs) → linked.names ≡ (prepared f can.before).names
names_are linked f rs can = ap (λ (K : LinkedView). K.names) can.prepared_is

pub laid_base : (linked : LinkedView) (f : Fitted) (rs : List FittedRegister) → (can : CanStitchStatus linked f rs) → IsLaidOut linked.arena.lists → IsLaidOut (prepared f can.before).arena.lists
laid_base linked f rs can laid = let P : NetlistView → Type 0 = λ N. IsLaidOut N in subst P (lists_are linked f rs can) laid

pub status_names_entered : TapNamesAreEntered → (linked : LinkedView) (f : Fitted) (rs : List FittedRegister) → CanStitchStatus linked f rs → HasEntered linked.names f
status_names_entered entered linked f rs can =
    let P : List (List ℕ) → Type 0 = λ names. HasEntered names f in
    subst P (sym (names_are linked f rs can)) (names_entered entered (prepared f can.before) f (base_of linked f rs can))

pub status_can : FittedCanStandBehind → (linked : LinkedView) (f : Fitted) (rs : List FittedRegister) (names : TapNames) → CanStitchStatus linked f rs → IsLaidOut linked.arena.lists
    → CanBeStitched linked.arena.lists names f
status_can stand linked f rs names can laid =
    let P : NetlistView → Type 0 = λ N. CanBeStitched N names f in
    subst P (sym (lists_are linked f rs can)) (can_of stand (prepared f can.before) f names (base_of linked f rs can) (laid_base linked f rs can laid))

pub status_buildable : FittedCanBeBuilt → (linked : LinkedView) (f : Fitted) (rs : List FittedRegister) → CanStitchStatus linked f rs → AreBuildable linked.arena.lists f rs
status_buildable fits linked f rs can =
    let base = fits can.before can.plan can.fitted.seen can.lines (record { registers = rs }) can.fitting can.spelled can.registers can.faultless in
    let P : NetlistView → Fitted → Type 0 = λ N g. AreBuildable N g rs in
    subst (λ (N : NetlistView). P N f) (sym (lists_are linked f rs can)) (subst (λ (g : Fitted). P can.before.arena.lists g) (sym can.fitted.is) base)

same_itself : (N : NetlistView) → IsSameNetlist N N
same_itself N = record { library = refl; ports = refl; nets = refl; cells = λ i. refl }

pub base_formed : GrownIsFormed → StitchedIsFormed → (linked : LinkedView) (f : Fitted) (rs : List FittedRegister) (names : TapNames) → CanStitchStatus linked f rs → IsLaidOut linked.arena.lists
    → IsWellFormed (stitched linked.arena.lists names f)
base_formed grown formed linked f rs names can laid =
    let K : LinkedView = prepared f can.before in
    let P : NetlistView → Type 0 = λ N. IsWellFormed (stitched N names f) in
    subst P (sym (lists_are linked f rs can))
    (formed_of grown formed K f names (stitched K.arena.lists names f) (base_of linked f rs can) (laid_base linked f rs can laid) (same_itself (stitched K.arena.lists names f)))

pub base_named : SameIsNamed → StitchedIsNamed → (linked : LinkedView) (f : Fitted) (rs : List FittedRegister) (names : TapNames) → CanStitchStatus linked f rs → IsLaidOut linked.arena.lists
    → AreTapNames linked.names f names → IsWellNamed linked.names (stitched linked.arena.lists names f)
base_named same named linked f rs names can laid are =
    let K : LinkedView = prepared f can.before in
    let A : List (List ℕ) → Type 0 = λ table. AreTapNames table f names in
    let P : List (List ℕ) → NetlistView → Type 0 = λ table N. IsWellNamed table (stitched N names f) in
    let base = named_of same named K f names (stitched K.arena.lists names f) K.names (base_of linked f rs can) (laid_base linked f rs can laid) (subst A (names_are linked f rs can) are) refl
    (same_itself (stitched K.arena.lists names f)) in
    subst (λ (table : List (List ℕ)). P table linked.arena.lists) (sym (names_are linked f rs can)) (subst (λ (N : NetlistView). P K.names N) (sym (lists_are linked f rs can)) base)

-- Room.

pub status_room_made : (linked : LinkedView) (f : Fitted) (rs : List FittedRegister) → CanStitchStatus linked f rs → HasStatusRoom linked.arena f rs
status_room_made linked f rs can =
    let L : LinkedView = can.before in
    let few = few_nets L.arena.lists (whole_room f rs) (whole_room f rs) (ports_of f) can.few in
    let nets : linked.arena.spare.nets ≡ max L.arena.spare.nets (whole_room f rs) = ap (λ (K : LinkedView). K.arena.spare.nets) can.prepared_is in
    let cells : linked.arena.spare.cells ≡ max L.arena.spare.cells (whole_room f rs) = ap (λ (K : LinkedView). K.arena.spare.cells) can.prepared_is in
    let bits : linked.arena.spare.port_bits ≡ max L.arena.spare.port_bits (ports_of f) = ap (λ (K : LinkedView). K.arena.spare.port_bits) can.prepared_is in
    let long : length linked.arena.lists.nets ≡ length L.arena.lists.nets = ap (λ (N : NetlistView). length N.nets) (lists_are linked f rs can) in
    record { nets = omega (arith, nets); cells = omega (arith, cells); port_bits = omega (arith, bits); fits = omega (arith, few, long) }

pub status_fits : (linked : LinkedView) (f : Fitted) (rs : List FittedRegister) (new : NetlistView) (room : RoomView) (A : ArenaView) → CanStitchStatus linked f rs → A ≡ linked.arena → room ≡ linked.room
    → length new.nets ≤ length A.lists.nets + whole_room f rs → cell_count new ≤ cell_count A.lists + whole_room f rs → FitsRoom new room
status_fits linked f rs new room A can same is nets cells =
    let L : LinkedView = can.before in
    let a : room.nets ≡ max L.room.nets (length L.arena.lists.nets + whole_room f rs) = ap (λ (R : RoomView). R.nets) is ∙ ap (λ (K : LinkedView). K.room.nets) can.prepared_is in
    let b : room.cells ≡ max L.room.cells (cell_count L.arena.lists + whole_room f rs) = ap (λ (R : RoomView). R.cells) is ∙ ap (λ (K : LinkedView). K.room.cells) can.prepared_is in
    let long : length A.lists.nets ≡ length L.arena.lists.nets = ap (λ (B : ArenaView). length B.lists.nets) same ∙ ap (λ (N : NetlistView). length N.nets) (lists_are linked f rs can) in
    let many : cell_count A.lists ≡ cell_count L.arena.lists = ap (λ (B : ArenaView). cell_count B.lists) same ∙ ap (λ (N : NetlistView). cell_count N) (lists_are linked f rs can) in
    record { cells = omega (arith, b, many, cells); nets = omega (arith, a, long, nets) }
