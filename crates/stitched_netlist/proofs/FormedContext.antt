-- A netlist and rows that fit it, as the conditions need them.
use Rattle.std.proofs.Common.{◌≡◌, ◌⊎◌, inl, inr, ℕ, ◌<◌, Bool, true, false, List, length, refl, sym, ap, ◌∙◌, Option, Some}
use Rattle.std.specs.Prelude.{slice_get, ◌&&◌, option_and_then}
use Rattle.std.proofs.lemmas.Bool.{eq-eqb}
use Rattle.list_laws.proofs.Tests.{both_true}
use Rattle.list_laws.proofs.Options.{some_same}
use Rattle.netlist_model.specs.declared.Dir.{Dir}
use Rattle.netlist_model.specs.declared.NetId.{NetId}
use Rattle.netlist_model.specs.Lists.{PortView, NetlistView, bit_net, direction}
use Rattle.netlist_model.specs.Settled.{is_output}
use Rattle.netlist_model.specs.Contained.{IsDense}
use Rattle.netlist_model.specs.Formed.{IsLaidOut, IsWellFormed}
use Rattle.netlist_model.specs.Ports.{DirectionHasBit}
use Rattle.plan_fitting.specs.netlist_link.Linked.{LinkedView}
use Rattle.plan_texts.specs.declared.plan.Plan.{Plan}
use Rattle.plan_fitting.specs.declared.fitted.FitRow.{FitRow}
use Rattle.plan_fitting.specs.declared.fitted.Fitted.{Fitted}
use Rattle.plan_fitting.specs.Devices.{fitted_of}
use Rattle.plan_fitting.specs.Pins.{PinSeen}
use Rattle.plan_fitting.specs.FittingPlan.{IsFitting}
use Rattle.stitched_netlist.specs.Sites.{row_net, site_of}
use Rattle.stitched_netlist.specs.Sides.{is_moved, moves, core_side}
use Rattle.stitched_netlist.specs.Stitched.{boundary_at}
use Rattle.stitched_netlist.proofs.ModelMoves.{output_is}
use Rattle.stitched_netlist.specs.PlacesLaws.{row_side}
use Rattle.stitched_netlist.specs.RowsLaws.{StandsAt, HasRowAt, IsStraightNet, RowsStandSomewhere, RowsStandOnce, NetsHaveRows}
use Rattle.stitched_netlist.proofs.Moved.{moved_or_stays}

pub record FitsWell (N : NetlistView) (f : Fitted) : Type 0 where
  pub laid : IsLaidOut N
  pub formed : IsWellFormed N
  pub dense : IsDense N
  pub stand : (k : ℕ) (row : FitRow) → slice_get f.rows k ≡ Some row → StandsAt N f row
  pub once : (j k : ℕ) (one other : FitRow) (net : NetId) → slice_get f.rows j ≡ Some one → slice_get f.rows k ≡ Some other → row_net N.ports one ≡ Some net
      → row_net N.ports other ≡ Some net → j ≡ k
  pub has : (net : ℕ) (dir : Dir) → direction N.ports net ≡ Some dir → HasRowAt N f net ⊎ IsStraightNet N f net
  pub inside : (net : ℕ) (dir : Dir) → direction N.ports net ≡ Some dir → net < length N.nets

pub fits_well : RowsStandSomewhere → RowsStandOnce → NetsHaveRows → DirectionHasBit → (L : LinkedView) (p : Plan) (seen : List PinSeen) → IsFitting L p seen → IsLaidOut L.arena.lists
    → IsDense L.arena.lists → FitsWell L.arena.lists (fitted_of L p seen)
fits_well stand once has law L p seen fits laid dense = record {
  laid = laid;
  formed = fits.formed;
  dense = dense;
  stand = λ k row there. stand L p seen fits k row there;
  once = λ j k one other net a b c d. once L p seen fits j k one other net a b c d;
  has = λ net dir e. elim (has L p seen fits net dir e) [
    | inl row ↦ inl row
    | inr hidden ↦ inr hidden.straight
  ];
  inside = λ net dir e.
      let b = law L.arena.lists dir (record { 0 = net }) e in
      let at : bit_net L.arena.lists b.number b.bit ≡ Some (record { 0 = net }) = ap (option_and_then (λ (q : PortView). slice_get q.nets b.bit)) b.stands ∙ b.has in
      laid.port_nets b.number b.bit (record { 0 = net }) at;
}

pub net_number : (a b : NetId) (o : Option NetId) → o ≡ Some a → o ≡ Some b → a.0 ≡ b.0
net_number a b o e f = ap (λ (n : NetId). n.0) (some_same a b o e f)

-- The core's side of a net.

on_stands : (o : Option NetId) (net : ℕ) → o ≡ Some (record { 0 = net }) → is_output o net ≡ true
on_stands o net e = ap (λ (x : Option NetId). is_output x net) e ∙ eq-eqb net net refl

pub record MovesNet (N : NetlistView) (row : FitRow) (net : ℕ) : Type 0 where
  pub moved : is_moved (site_of N.ports row) ≡ true
  pub on : row_net N.ports row ≡ Some (record { 0 = net })

moves_is : (N : NetlistView) (net : ℕ) (row : FitRow) → moves N.ports net row ≡ true → MovesNet N row net
moves_is N net row e =
    let b = both_true (is_moved (site_of N.ports row)) (is_output (row_net N.ports row) net) e in record { moved = b.0; on = output_is (row_net N.ports row) net b.1 }

-- a net stays where no row moves it, and goes to the row's first side where one does
pub record Stays (N : NetlistView) (f : Fitted) (net : ℕ) : Type 0 where
  pub is : core_side (boundary_at N f) net ≡ net
  pub none : (k : ℕ) (row : FitRow) → slice_get f.rows k ≡ Some row → row_net N.ports row ≡ Some (record { 0 = net }) → is_moved (site_of N.ports row) ≡ false

pub record Goes (N : NetlistView) (f : Fitted) (net : ℕ) : Type 0 where
  pub k : ℕ
  pub row : FitRow
  pub there : slice_get f.rows k ≡ Some row
  pub moved : is_moved (site_of N.ports row) ≡ true
  pub on : row_net N.ports row ≡ Some (record { 0 = net })
  pub is : core_side (boundary_at N f) net ≡ row_side N f k

not_both : (a b : Bool) → (a && b) ≡ false → b ≡ true → a ≡ false
not_both true b e h = absurd (cc)
not_both false b e h = refl

pub side_of : (N : NetlistView) (f : Fitted) (net : ℕ) → Stays N f net ⊎ Goes N f net
side_of N f net = elim (moved_or_stays N.ports net (boundary_at N f).first f.rows) [
  | inl still ↦ inl (record {
    is = still.same;
    none = λ k row there on. not_both (is_moved (site_of N.ports row)) (is_output (row_net N.ports row) net) (still.none k row there) (on_stands (row_net N.ports row) net on);
  })
  | inr m ↦ (let how = moves_is N net m.row m.moved in
      inr (record { k = m.k; row = m.row; there = m.there; moved = how.moved; on = how.on; is = m.is }))
]

-- a net without a row stays
pub straight_stays : (N : NetlistView) (f : Fitted) (net : ℕ) → IsStraightNet N f net → core_side (boundary_at N f) net ≡ net
straight_stays N f net straight = elim (side_of N f net) [
  | inl s ↦ s.is
  | inr g ↦ absurd (straight.none g.k g.row g.there g.on)
]

-- at a row that moves nothing the net stays
pub stays_at : (N : NetlistView) (f : Fitted) → FitsWell N f → (k : ℕ) (row : FitRow) (net : ℕ) → slice_get f.rows k ≡ Some row → row_net N.ports row ≡ Some (record { 0 = net })
    → is_moved (site_of N.ports row) ≡ false → core_side (boundary_at N f) net ≡ net
stays_at N f well k row net there on still = elim (side_of N f net) [
  | inl s ↦ s.is
  | inr g ↦ absurd (
      let same : g.k ≡ k = well.once g.k k g.row row (record { 0 = net }) g.there there g.on on in
      let one : g.row ≡ row = some_same g.row row (slice_get f.rows k) (ap (slice_get f.rows) (sym same) ∙ g.there) there in
      let no : is_moved (site_of N.ports row) ≡ true = ap (λ (r : FitRow). is_moved (site_of N.ports r)) (sym one) ∙ g.moved in cc)
]

-- and at one that moves it goes to that row's side
pub goes_at : (N : NetlistView) (f : Fitted) → FitsWell N f → (k : ℕ) (row : FitRow) (net : ℕ) → slice_get f.rows k ≡ Some row → row_net N.ports row ≡ Some (record { 0 = net })
    → is_moved (site_of N.ports row) ≡ true → core_side (boundary_at N f) net ≡ row_side N f k
goes_at N f well k row net there on moved = elim (side_of N f net) [
  | inl s ↦ absurd (let no = s.none k row there on in cc)
  | inr g ↦ (let same : g.k ≡ k = well.once g.k k g.row row (record { 0 = net }) g.there there g.on on in g.is ∙ ap (row_side N f) same)
]
