-- The netlist stays well formed.
use Rattle.std.proofs.Common.{◌≡◌, ◌≢◌, ℕ, zero, suc, ◌+◌, ◌<◌, ◌≤◌, ◌⊎◌, inr, List, [], ◌∷◌, ◌++◌, length, Option, Some, None, ap, sym, ◌∙◌, arith}
use Rattle.std.specs.Prelude.{slice_get, slice_set, All}
use Rattle.cell_library.specs.declared.listed.ListedCell.{ListedCell}
use Rattle.cell_library.specs.Gates.{is_flop}
use Rattle.netlist_model.specs.declared.Dir.{Dir}
use Rattle.netlist_model.specs.declared.Dir.TheVariants.{Output}
use Rattle.netlist_model.specs.declared.NetId.{NetId}
use Rattle.netlist_model.specs.declared.Feed.{Feed}
use Rattle.netlist_model.specs.declared.Feed.TheVariants.{Net}
use Rattle.netlist_model.specs.Lists.{CellView, NetlistView, cell_at, cell_count, direction}
use Rattle.netlist_model.specs.Formed.{IsDriven, IsLaidOut, IsWellFormed}
use Rattle.netlist_model.specs.Contained.{HasCells}
use Rattle.netlist_arena.specs.Moves.{connected}
use Rattle.gate_parts.specs.Appended.{Grows}
use Rattle.gate_parts.specs.Laws.{AppendedCount, AppendedGrows, AppendedIsThere}
use Rattle.netlist_link.specs.Readable.{IsPure}
use Rattle.netlist_link.specs.Sources.{InputIsPure}
use Rattle.netlist_link.specs.Parts.{IsGrown}
use Rattle.status_build.specs.ReconnectedLaws.{Reconnects, ReadsFlop}
use Rattle.status_fitting.specs.declared.fitted.FittedRegister.{FittedRegister}
use Rattle.status_gates.specs.declared.parts.SharedNets.{SharedNets}
use Rattle.status_gates.specs.Registers.{registers_size, shown_of}
use Rattle.status_build.specs.FormedLaws.{IsReadNet, CanShare, CanCapture, RegistersAreFormed}
use Rattle.status_build.specs.OrderLaws.{IsHeld, IsCopy, IsProper, ShownIsFormed}
use Rattle.status_build.specs.Build.{IsInputNet, IsInnerFlop, IsInnerCopy, IsOpenTo, added_cells, shown_at, CanRead, StatusIsFormed}
use Rattle.status_build.proofs.Connected.{connected_other, connected_at}

pub record BuiltLaws : Type 0 where
  pub pure : InputIsPure
  pub count : AppendedCount
  pub grows : AppendedGrows
  pub there : AppendedIsThere
  pub formed : RegistersAreFormed
  pub shown : ShownIsFormed

-- What the registers stand on can be read.

input_read : InputIsPure → (N : NetlistView) (net : ℕ) → IsWellFormed N → IsInputNet N net → IsReadNet N net
input_read pure N net formed is = (is.low, (pure N net formed is.input).0)

input_pure : InputIsPure → (N : NetlistView) (net : ℕ) → IsWellFormed N → IsInputNet N net → IsPure N net
input_pure pure N net formed is = (pure N net formed is.input).1

inner_read : (N : NetlistView) (net : ℕ) → IsLaidOut N → direction N.ports net ≡ None → IsDriven N net → IsReadNet N net
inner_read N net laid inside d = (
  laid.outputs d.number d.cell net d.drives,
  record {
    driven = λ none. d;
    steady = λ i cell drives three out. absurd (let no : ◌≡◌ {A = Option Dir} None (Some Output) = sym inside ∙ out in cc);
  },
)

flop_read : (N : NetlistView) (net : ℕ) → IsLaidOut N → IsInnerFlop N net → IsReadNet N net
flop_read N net laid is = inner_read N net laid is.inside (record { number = is.held.number; cell = is.held.cell; drives = is.held.drives })

copy_read : (N : NetlistView) (net : ℕ) → IsLaidOut N → IsInnerCopy N net → IsReadNet N net
copy_read N net laid is = inner_read N net laid is.inside (record { number = is.copy.number; cell = is.copy.cell; drives = is.copy.drives })

can_share : InputIsPure → (N : NetlistView) (shared : SharedNets) (bypass : NetId) (bits number : ℕ) → IsLaidOut N → IsWellFormed N → IsOpenTo N shared bypass bits number → CanShare N shared bits
can_share pure N shared bypass bits number laid formed o = record {
  tck = input_read pure N shared.tap.tck.0 formed o.tck;
  trst = input_read pure N shared.tap.trst.0 formed o.trst;
  clock = input_pure pure N shared.tap.tck.0 formed o.tck;
  clear = input_pure pure N shared.tap.trst.0 formed o.trst;
  capture = flop_read N shared.tap.capture_dr.0 laid o.capture;
  shift = flop_read N shared.tap.shift_dr.0 laid o.shift;
  tdi = input_read pure N shared.tdi.0 formed o.tdi;
  opcode = λ k low. copy_read N (shared.opcode.0 + k) laid (o.opcode k low);
}

can_capture : (N : NetlistView) (bits : ℕ) (rs : List FittedRegister) → All (IsProper bits) rs → All (CanRead N) rs → All (CanCapture N bits) rs
can_capture N bits rs proper read = λ k d within. (let p = proper k d within in record { some = p.some; few = p.few; wires = read k d within })

-- In the netlist with the gates of registers.

held_later : (old new : NetlistView) (net : ℕ) → new.library ≡ old.library → Grows old new → IsHeld old net → IsHeld new net
held_later old new net library grows held = record {
  number = held.number;
  cell = held.cell;
  flop = ap (λ (l : List ListedCell). is_flop l held.cell.kind) library ∙ held.flop;
  drives = record { live = grows.cells held.number held.cell held.drives.live; output = held.drives.output };
}

copy_later : (old new : NetlistView) (net : ℕ) → new.library ≡ old.library → Grows old new → IsCopy old net → IsCopy new net
copy_later old new net library grows copy = record {
  number = copy.number;
  cell = copy.cell;
  drives = record { live = grows.cells copy.number copy.cell copy.drives.live; output = copy.drives.output };
  reads = λ place read e. held_later old new read library grows (copy.reads place read e);
}

-- what they show is one of their nets
shown_among : (first : ℕ) (bypass : NetId) (rs : List FittedRegister) → 0 < length rs → (first ≤ (shown_of first bypass rs).0) × ((shown_of first bypass rs).0 < first + registers_size rs)
shown_among first bypass [] some = absurd (omega (arith, some))
shown_among first bypass (r ∷ rs) some = (omega arith, omega arith)

-- Another operand.

same_id : (a b : NetId) → ◌≡◌ {A = Option Feed} (Some (Net a)) (Some (Net b)) → a ≡ b
same_id a b e = cc

one_operand : (bypass to : NetId) (place net : ℕ) → slice_get (slice_set (Net bypass ∷ []) 0 (Net to)) place ≡ Some (Net (record { 0 = net })) → net ≡ to.0
one_operand bypass to zero net e = sym (ap (λ (n : NetId). n.0) (same_id to (record { 0 = net }) e))
one_operand bypass to (suc place) net e = absurd (let no : ◌≡◌ {A = Option Feed} None (Some (Net (record { 0 = net }))) = e in cc)

abbrev reconnects : (N M C : NetlistView) (shared : SharedNets) (bypass to : NetId) (bits number : ℕ) → (o : IsOpenTo N shared bypass bits number) → M.library ≡ N.library → Grows N M
    → C ≡ connected number 0 (Net to) M → Reconnects M C number to.0
reconnects N M C shared bypass to bits number o library grows is =
    let live : cell_at M number ≡ Some o.gate = grows.cells number o.gate o.live in
    record {
      library = ap (λ (L : NetlistView). L.library) is;
      ports = ap (λ (L : NetlistView). L.ports) is;
      cell = o.gate;
      live = live;
      gate = ap (λ (l : List ListedCell). is_flop l o.gate.kind) library ∙ o.plain;
      feeds = slice_set o.gate.feeds 0 (Net to);
      long = ap (λ (fs : List Feed). length (slice_set fs 0 (Net to))) o.reads ∙ sym (ap (λ (fs : List Feed). length fs) o.reads);
      each = λ place net e. inr (one_operand bypass to place net (ap (λ (fs : List Feed). slice_get (slice_set fs 0 (Net to)) place) (sym o.reads) ∙ e));
      changed = ap (λ (L : NetlistView). cell_at L number) is ∙ connected_at M number 0 (Net to) o.gate live;
      others = λ i apart. ap (λ (L : NetlistView). cell_at L i) is ∙ connected_other M number 0 i (Net to) apart;
    }

reads_flop : (N M : NetlistView) (shared : SharedNets) (bypass : NetId) (bits number : ℕ) → (o : IsOpenTo N shared bypass bits number) → IsHeld M bypass.0 → ReadsFlop M o.gate
reads_flop N M shared bypass bits number o held = record {
  place = 0;
  source = bypass.0;
  reads = ap (λ (fs : List Feed). slice_get fs 0) o.reads;
  number = held.number;
  flop = held.cell;
  is = held.flop;
  drives = held.drives;
}

-- The whole.

pub status_formed : BuiltLaws → StatusIsFormed
status_formed laws old middle new shared bypass bits number rs laid formed once added inverses o some proper read is =
    let N : NetlistView = old.lists in
    let M : NetlistView = middle.lists in
    let first : ℕ = length old.lists.nets in
    let start : ℕ = cell_count old.lists in
    let part : List CellView = added_cells N shared bypass bits rs in
    let grown : IsGrown M first = laws.formed old middle shared bypass bits rs laid formed once added inverses (can_share laws.pure N shared bypass bits number laid formed o)
    (flop_read N bypass.0 laid o.bit) (can_capture N bits rs proper read) in
    let grows : Grows N M = laws.grows old middle (bits + registers_size rs) part added in
    let many : length M.nets ≡ first + (bits + registers_size rs) = laws.count old middle (bits + registers_size rs) part added in
    let has : HasCells M part = (laws.there old middle (bits + registers_size rs) part added).cells in
    let to : NetId = shown_at N bypass bits rs in
    let among = shown_among (first + bits) bypass rs some in
    let a = among.0 in
    let b = among.1 in
    let can = grown.read to.0 (omega (arith, a)) (omega (arith, b, many)) in
    let held : IsHeld M bypass.0 = held_later N M bypass.0 added.library grows o.bit.held in
    let r : Reconnects M new number to.0 = reconnects N M new shared bypass to bits number o added.library grows is in
    laws.shown M new number first start shared bypass bits rs grown.formed has inverses some proper
    (λ k low. copy_later N M (shared.opcode.0 + k) added.library grows (o.opcode k low).copy) held r
    (reads_flop N M shared bypass bits number o held) (record { driven = can.driven; steady = can.steady }) o.drives
