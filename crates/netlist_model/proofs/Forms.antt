-- A netlist with new numbers stays well formed.
use Rattle.std.proofs.Common.{◌≡◌, ℕ, List, [], ◌∷◌, map, length, refl, ap, sym, subst, ◌∙◌, inl, inr}
use Rattle.std.specs.Prelude.{Some, None, Option}
use Rattle.cell_library.specs.declared.listed.ListedCell.{ListedCell}
use Rattle.cell_library.specs.Gates.{is_flop, Takes}
use Rattle.netlist_model.specs.declared.Feed.{Feed}
use Rattle.netlist_model.specs.declared.Feed.TheVariants.{Net, Const}
use Rattle.netlist_model.specs.declared.Name.{Name}
use Rattle.netlist_model.specs.declared.NetId.{NetId}
use Rattle.netlist_model.specs.Lists.{PortView, CellView, NetlistView, cell_at, direction}
use Rattle.netlist_model.specs.Formed.{IsDriven, IsCombinational, FeedsBelow, IsWellFormed}
use Rattle.std.specs.Option.{option_map}
use Rattle.netlist_model.proofs.Search.{cell_at_once}
use Rattle.netlist_model.specs.Nested.{renamed_net, renamed_feed, renamed_cell, Nested}
use Rattle.netlist_model.specs.Renumbered.{ArePortImages, IsRenumbering}
use Rattle.netlist_model.specs.RenumberedLaws.{CopyIsRenumbering, RenumberedBits, RenumberingTurns}
use Rattle.netlist_model.proofs.Numbers.{copied_direction, copied_bit, copied_nested, drives_over, reads_over, driven_over, control_over}
use Rattle.std.proofs.lemmas.List.{length-map}

pub renumbering_turns : RenumberingTurns
renumbering_turns N M to at r = record { back = to; from = at; there = r.here; here = r.there }

-- own: so N is nested in M
pub renumbered_nested : (N M : NetlistView) (to at : ℕ → ℕ) → IsRenumbering N M to at → Nested N M to at
renumbered_nested N M to at r = copied_nested N M to at r.back r.from r.there r.here

below_back : (back rank : ℕ → ℕ) (feeds : List Feed) (bound : ℕ) → FeedsBelow rank (map (renamed_feed back) feeds) bound → FeedsBelow (λ n. rank (back n)) feeds bound
below_back back rank [] bound h = tt
below_back back rank (Net net ∷ feeds) bound h = (h.0, below_back back rank feeds bound h.1)
below_back back rank (Const b ∷ feeds) bound h = below_back back rank feeds bound h

combinational_over : (N M : NetlistView) (to at : ℕ → ℕ) → Nested N M to at → ((n : ℕ) → direction M.ports (to n) ≡ direction N.ports n) → (net : ℕ)
    → IsCombinational N net → IsCombinational M (to net)
combinational_over N M to at n dirs net (inl e) = inl (dirs net ∙ e)
combinational_over N M to at n dirs net (inr d) = inr (driven_over N M to at n net d.0, ap (λ (l : List ListedCell). is_flop l d.0.cell.kind) n.library ∙ d.1, λ e. d.2 (sym (dirs net) ∙ e))

-- own: what is numbered anew stays well formed
pub renumbered_is_formed : (N M : NetlistView) (to at : ℕ → ℕ) → IsRenumbering N M to at → IsWellFormed N → IsWellFormed M
renumbered_is_formed N M to at r formed =
    let back = r.back in
    let from = r.from in
    let n : Nested N M to at = renumbered_nested N M to at r in
    let m : Nested M N back from = copied_nested M N back from to at r.here r.there in
    let dirs : (net : ℕ) → direction N.ports (back net) ≡ direction M.ports net = copied_direction M N back from to at r.here in
    let driven : (net : ℕ) → IsDriven N (back net) → IsDriven M net = λ net d. (let d' = driven_over N M to at n (back net) d in rw (r.here.nets net) at d') in
    record {
      counts = λ i cell live.
          let there = m.cells i cell live in
          let count : Takes N.library cell.kind (length (map (renamed_feed back) cell.feeds)) = formed.counts (from i) (renamed_cell back there.name cell) there.live in
          let here : Takes M.library cell.kind (length (map (renamed_feed back) cell.feeds))
          = subst (λ (l : List ListedCell). Takes l cell.kind (length (map (renamed_feed back) cell.feeds))) m.library count in
          rw (length-map cell.feeds (renamed_feed back)) at here;
      bits_apart = λ p q j k net a b.
          formed.bits_apart p q j k (record { 0 = back net.0 }) (copied_bit M N back from to at r.here p j net a) (copied_bit M N back from to at r.here q k net b);
      inputs_free = λ i cell net d e.
          formed.inputs_free (from i) (renamed_cell back (m.cells i cell d.live).name cell) (back net) (drives_over M N back from m i cell net d) (dirs net ∙ e);
      one_driver = λ i j cell other net d d'.
          let e : from i ≡ from j = formed.one_driver (from i) (from j) (renamed_cell back (m.cells i cell d.live).name cell) (renamed_cell back (m.cells j other d'.live).name other) (back net)
          (drives_over M N back from m i cell net d) (drives_over M N back from m j other net d') in
          sym (r.here.numbers i cell d.live) ∙ ap at e ∙ r.here.numbers j other d'.live;
      outputs_driven = λ net e. driven net (formed.outputs_driven (back net) (dirs net ∙ e));
      inouts_driven = λ net e. driven net (formed.inouts_driven (back net) (dirs net ∙ e));
      read_driven = λ i cell place net reads e.
          driven net (formed.read_driven (from i) (renamed_cell back (m.cells i cell reads.live).name cell) place (back net) (reads_over M N back from m i cell place net reads) (dirs net ∙ e));
      bufif_outside = λ i cell net d three.
          elim (formed.bufif_outside (from i) (renamed_cell back (m.cells i cell d.live).name cell) (back net) (drives_over M N back from m i cell net d) three) [
            | inl e ↦ inl (sym (dirs net) ∙ e)
            | inr e ↦ inr (sym (dirs net) ∙ e)
          ];
      inout_bufif = λ i cell net d e.
          formed.inout_bufif (from i) (renamed_cell back (m.cells i cell d.live).name cell) (back net) (drives_over M N back from m i cell net d) (dirs net ∙ e);
      bufif_unread = λ i j cell other place net d three reads e.
          formed.bufif_unread (from i) (from j) (renamed_cell back (m.cells i cell d.live).name cell) (renamed_cell back (m.cells j other reads.live).name other) place (back net)
          (drives_over M N back from m i cell net d) three (reads_over M N back from m j other place net reads) (dirs net ∙ e);
      ordered = (
        λ net. formed.ordered.0 (back net),
        record {
          gates = λ i cell net d gate.
              below_back back formed.ordered.0 cell.feeds (formed.ordered.0 (back net))
              (formed.ordered.1.gates (from i) (renamed_cell back (m.cells i cell d.live).name cell) (back net) (drives_over M N back from m i cell net d)
              (ap (λ (l : List ListedCell). is_flop l cell.kind) m.library ∙ gate));
        },
      );
      cones = λ net c.
          let found : IsCombinational M (to (back net))
          = combinational_over N M to at n (copied_direction N M to at back from r.there) (back net) (formed.cones (back net) (control_over M N back from m net c)) in
          rw (r.here.nets net) at found;
    }

pub renumbered_bits : RenumberedBits
renumbered_bits N M to at r = copied_bit N M to at r.back r.from r.there

-- Nets renamed there and back.

nets_undone : (to back : ℕ → ℕ) → ((n : ℕ) → back (to n) ≡ n) → (nets : List NetId) → map (renamed_net back) (map (renamed_net to) nets) ≡ nets
nets_undone to back undo [] = refl
nets_undone to back undo (net ∷ nets) =
    let first : renamed_net back (renamed_net to net) ≡ net = ap (λ n. record { 0 = n }) (undo net.0) in rw (first, nets_undone to back undo nets) refl

feeds_undone : (to back : ℕ → ℕ) → ((n : ℕ) → back (to n) ≡ n) → (feeds : List Feed) → map (renamed_feed back) (map (renamed_feed to) feeds) ≡ feeds
feeds_undone to back undo [] = refl
feeds_undone to back undo (Net net ∷ feeds) =
    let first : renamed_net back (renamed_net to net) ≡ net = ap (λ n. record { 0 = n }) (undo net.0) in rw (first, feeds_undone to back undo feeds) refl
feeds_undone to back undo (Const b ∷ feeds) = rw (feeds_undone to back undo feeds) refl

output_undone : (to back : ℕ → ℕ) → ((n : ℕ) → back (to n) ≡ n) → (output : Option NetId) → option_map (renamed_net back) (option_map (renamed_net to) output) ≡ output
output_undone to back undo None = refl
output_undone to back undo (Some net) = let first : renamed_net back (renamed_net to net) ≡ net = ap (λ n. record { 0 = n }) (undo net.0) in rw first refl

cell_undone : (to back : ℕ → ℕ) → ((n : ℕ) → back (to n) ≡ n) → (name : Option Name) (cell : CellView) → renamed_cell back cell.name (renamed_cell to name cell) ≡ cell
cell_undone to back undo name cell = rw (feeds_undone to back undo cell.feeds, output_undone to back undo cell.output) refl

ports_undone : (to back : ℕ → ℕ) → ((n : ℕ) → back (to n) ≡ n) → (ports images : List PortView) → ArePortImages to ports images → ArePortImages back images ports
ports_undone to back undo [] [] are = tt
ports_undone to back undo [] (y ∷ ys) are = absurd are
ports_undone to back undo (x ∷ xs) [] are = absurd are
ports_undone to back undo (x ∷ xs) (y ∷ ys) are = (
  record { dir = sym are.0.dir; range = sym are.0.range; nets = sym (ap (map (renamed_net back)) are.0.nets ∙ nets_undone to back undo x.nets) },
  ports_undone to back undo xs ys are.1,
)

pub copy_is_renumbering : CopyIsRenumbering
copy_is_renumbering N M to at back from c undo covers = record {
  back = back;
  from = from;
  there = c;
  here = record {
    library = sym c.library;
    nets = undo;
    ports = ports_undone to back c.nets N.ports M.ports c.ports;
    cells = λ j cell live.
        let image = covers j cell live in
        let there = c.cells image.old image.cell image.live in
        let same : cell ≡ renamed_cell to there.name image.cell = cell_at_once M j (at image.old) cell (renamed_cell to there.name image.cell) (sym image.same) live there.live in
        let number : from j ≡ image.old = ap from (sym image.same) ∙ c.numbers image.old image.cell image.live in
        let undone : renamed_cell back image.cell.name cell ≡ image.cell = ap (renamed_cell back image.cell.name) same ∙ cell_undone to back c.nets there.name image.cell in
        record { name = image.cell.name; live = ap (cell_at N) number ∙ image.live ∙ ap (λ (x : CellView). Some x) (sym undone) };
    numbers = λ j cell live.
        let image = covers j cell live in
        ap at (ap from (sym image.same) ∙ c.numbers image.old image.cell image.live) ∙ image.same;
  };
}
