-- The netlist with the buffer is open to registers.
use Rattle.std.proofs.Common.{◌≡◌, ℕ, ◌+◌, ◌<◌, ◌≤◌, List, [], ◌∷◌, ◌++◌, length, Option, Some, None, refl, ap, sym, ◌∙◌, subst, arith}
use Rattle.std.specs.Prelude.{slice_get, All, IsSome, is_some, option_and_then}
use Rattle.std.proofs.lemmas.Option.{slice_get_within}
use Rattle.list_laws.proofs.Lists.{slice_get-append_left, slice_get-append_right}
use Rattle.netlist_model.specs.declared.Dir.{Dir}
use Rattle.netlist_model.specs.declared.Dir.TheVariants.{Output}
use Rattle.netlist_model.specs.declared.NetId.{NetId}
use Rattle.netlist_model.specs.declared.Feed.TheVariants.{Net}
use Rattle.netlist_model.specs.Lists.{PortView, CellView, NetlistView, cell_at, direction}
use Rattle.netlist_model.specs.Formed.{IsLaidOut}
use Rattle.netlist_model.specs.Contained.{IsDense}
use Rattle.netlist_arena.specs.Looks.{feed_at}
use Rattle.plan_fitting.specs.declared.fitted.Fitted.{Fitted}
use Rattle.stitched_netlist.specs.declared.model.TapNames.{TapNames}
use Rattle.stitched_netlist.specs.Stitched.{first_net, stitched_cells_by, stitched_cells, stitched}
use Rattle.stitched_netlist.specs.Places.{HasBuiltIn, ExtendsStitched, ExtensionIsBuiltIn}
use Rattle.stitched_netlist.proofs.PlacesLaws.{listed_at}
use Rattle.stitched_netlist.specs.Directions.{KeepsDirections, StitchedDirections}
use Rattle.written_netlists.specs.Same.{IsSameNetlist}
use Rattle.open_stitch.proofs.Connected.{opened_length}
use Rattle.open_stitch.specs.declared.Parts.{Parts}
use Rattle.open_stitch.specs.Open.{through_number, through_net, through_cell, open_cells, stitched_open, parts_at}
use Rattle.status_fitting.specs.declared.fitted.FittedRegister.{FittedRegister}
use Rattle.status_build.specs.FormedLaws.{IsReadNet}
use Rattle.status_build.specs.OrderLaws.{IsProper}
use Rattle.status_build.specs.PlacesLaws.{HasShared, SharedNetsStand, WiresStand}
use Rattle.status_build.specs.Build.{IsOpenTo, CanRead}
use Rattle.status_stitch.specs.Stitched.{shared_at}
use Rattle.status_room.specs.Needed.{IsCaptured, AreBuildable}
use Rattle.status_stitch.proofs.Numbers.{opened_nets, opcode_end, order_of}

pub record OpenLaws : Type 0 where
  pub extension : ExtensionIsBuiltIn
  pub directions : StitchedDirections
  pub shared : SharedNetsStand
  pub wires : WiresStand

-- The cells.

pub front_cells : (N O : NetlistView) (names : TapNames) (f : Fitted) → IsSameNetlist O (stitched_open N names f) → ExtendsStitched O N names f (through_net N f)
front_cells N O names f same = record {
  library = same.library;
  ports = same.ports;
  cells = λ k cell at.
      let within = slice_get_within (stitched_cells_by (through_net N f) N f) k cell at in
      same.cells k ∙ listed_at (open_cells N f) k ∙ slice_get-append_left (stitched_cells_by (through_net N f) N f) _ k within ∙ at;
}

pub buffer_there : (N O : NetlistView) (names : TapNames) (f : Fitted) → IsSameNetlist O (stitched_open N names f) → cell_at O (through_number N f) ≡ Some (through_cell N f (Net (parts_at N f).bypass))
buffer_there N O names f same =
    let cells : List CellView = stitched_cells_by (through_net N f) N f in
    let own : CellView = through_cell N f (Net (parts_at N f).bypass) in
    let k : ℕ = through_number N f in
    let long = opened_length N f (through_net N f) in
    let number : k ≡ length (stitched_cells N f) = refl in
    let is : k ≡ length cells + 0 = omega (arith, long, number) in
    same.cells k ∙ listed_at (open_cells N f) k ∙ slice_get-append_right cells (own ∷ []) k 0 is

-- Directions.

inside_at : (N O : NetlistView) (names : TapNames) (f : Fitted) → IsSameNetlist O (stitched_open N names f) → KeepsDirections N (stitched N names f) → (net : ℕ) → length N.nets + 5 ≤ net
    → direction O.ports net ≡ None
inside_at N O names f same keeps net past = ap (λ (ps : List PortView). direction ps net) same.ports ∙ keeps.others net past

-- The whole.

pub open_to : OpenLaws → (N O : NetlistView) (names : TapNames) (f : Fitted) → IsLaidOut N → IsDense N → IsSameNetlist O (stitched_open N names f)
    → IsOpenTo O (shared_at N f) (parts_at N f).bypass f.codes.length (through_number N f)
open_to laws N O names f laid dense same =
    let keeps = laws.directions N names f laid in
    let built : HasBuiltIn O N names f (through_net N f) = laws.extension O N names f (through_net N f) dense (front_cells N O names f same) in
    let shared : HasShared O N f = laws.shared O N f (through_net N f) built.parts in
    let many = opened_nets N O names f same in
    let o = order_of N f in
    let port = o.port in
    let bypass = o.bypass in
    let capture = o.capture in
    let shift = o.shift in
    let bit = o.bit in
    let end = opcode_end N f in
    record {
      tck = record { low = omega (arith, many, port, bypass); input = ap (λ (ps : List PortView). direction ps (parts_at N f).tap.tck.0) same.ports ∙ keeps.tck };
      trst = record { low = omega (arith, many, port, bypass); input = ap (λ (ps : List PortView). direction ps (parts_at N f).tap.trst.0) same.ports ∙ keeps.trst };
      tdi = record { low = omega (arith, many, port, bypass); input = ap (λ (ps : List PortView). direction ps (parts_at N f).tdi.0) same.ports ∙ keeps.tdi };
      capture = record { inside = inside_at N O names f same keeps (parts_at N f).tap.capture_dr.0 (omega (arith, port, capture)); held = shared.capture };
      shift = record { inside = inside_at N O names f same keeps (parts_at N f).tap.shift_dr.0 (omega (arith, port, shift)); held = shared.shift };
      bit = record { inside = inside_at N O names f same keeps (parts_at N f).bypass.0 (omega (arith, port, bit)); held = shared.bypass };
      opcode = λ k low. record {
        inside = inside_at N O names f same keeps ((parts_at N f).instr.opcode.0 + k) (opcode_past k);
        copy = shared.opcode k low;
      };
      gate = through_cell N f (Net (parts_at N f).bypass);
      live = buffer_there N O names f same;
      plain = refl;
      reads = refl;
      drives = λ net out.
          let is : through_net N f ≡ record { 0 = net } = same_id (through_net N f) (record { 0 = net }) out in
          let at : (through_net N f).0 ≡ net = ap (λ (n : NetId). n.0) is in
          (omega (arith, end, bypass, at), omega (arith, many, at));
    }
  where
    same_id : (a b : NetId) → ◌≡◌ {A = Option NetId} (Some a) (Some b) → a ≡ b
    same_id a b e = cc

    opcode_past : (k : ℕ) → length N.nets + 5 ≤ (parts_at N f).instr.opcode.0 + k
    opcode_past k =
        let port = (order_of N f).port in
        let from : first_net N f ≤ (parts_at N f).instr.opcode.0 = omega arith in
        omega (arith, port, from)

-- The registers.

pub all_proper : (N : NetlistView) (f : Fitted) (rs : List FittedRegister) → AreBuildable N f rs → All (IsProper f.codes.length) rs
all_proper N f rs can = λ k d within.
    (let r = can.each k d within in
    let same = r.bits in
    let bits = can.bits in
    record { some = omega (arith, same, bits); few = omega (arith, same); wired = r.some })

wire_read : OpenLaws → (N O : NetlistView) (names : TapNames) (f : Fitted) → IsLaidOut N → IsDense N → IsSameNetlist O (stitched_open N names f) → (net : ℕ) → IsCaptured N f net → IsReadNet O net
wire_read laws N O names f laid dense same net c =
    let keeps = laws.directions N names f laid in
    let built : HasBuiltIn O N names f (through_net N f) = laws.extension O N names f (through_net N f) dense (front_cells N O names f same) in
    let inside : direction O.ports net ≡ None = ap (λ (ps : List PortView). direction ps net) same.ports ∙ keeps.core net c.low ∙ c.wire in
    let d = laws.wires O N names f (through_net N f) built net c.stays c.driven in
    let many = opened_nets N O names f same in
    let o = order_of N f in
    let port = o.port in
    let bypass = o.bypass in
    let low = c.low in (
      omega (arith, many, port, bypass, low),
      record {
        driven = λ none. d;
        steady = λ i cell drives three out. absurd (let no : ◌≡◌ {A = Option Dir} None (Some Output) = sym inside ∙ out in cc);
      },
    )

pub all_read : OpenLaws → (N O : NetlistView) (names : TapNames) (f : Fitted) (rs : List FittedRegister) → IsLaidOut N → IsDense N → IsSameNetlist O (stitched_open N names f) → AreBuildable N f rs
    → All (CanRead O) rs
all_read laws N O names f rs laid dense same can = λ k d within. λ j e inside. wire_read laws N O names f laid dense same _ ((can.each k d within).wires j e inside)

-- What the steps are handed.

pub moved : (P : Parts → ℕ → ℕ → Type 0) (p q : Parts) (k nets at : ℕ) → p ≡ q → k ≡ at → nets ≡ at → P q at at → P p k nets
moved P p q k nets at e f g h = subst (λ (x : Parts). P x k nets) (sym e) (subst (λ (x : ℕ). P q x nets) (sym f) (subst (λ (x : ℕ). P q at x) (sym g) h))

pub operand_there : (N O : NetlistView) (names : TapNames) (f : Fitted) (p : Parts) → p ≡ parts_at N f → IsSameNetlist O (stitched_open N names f) → IsSome (feed_at O p.through.0 0)
operand_there N O names f p e same =
    subst (λ (x : Parts). IsSome (feed_at O x.through.0 0)) (sym e)
    (ap (λ (o : Option CellView). is_some (option_and_then (λ (cell : CellView). slice_get cell.feeds 0) o)) (buffer_there N O names f same))
