-- The netlist that the written module tells, by other numbers of nets.
use Rattle.std.proofs.Common.{ℕ, List, sym, ◌∙◌, subst, Option}
use Rattle.std.specs.Prelude.{IsSome}
use Rattle.netlist_model.specs.Lists.{PortView, CellView, NetlistView}
use Rattle.netlist_model.specs.Nested.{IsNested}
use Rattle.netlist_model.specs.Renumbered.{ArePortImages, IsRenumbering}
use Rattle.core_sides.specs.netlist_unlink.ImagesLaws.{new_number, new_place, WrittenIsRenumbered, DenseKeepsPlaces}
use Rattle.core_sides.specs.stitched_netlist.Sizes.{StitchedHasCounts}
use Rattle.core_sides.specs.stitched_netlist.Stitched.{stitched}
use Rattle.written_netlists.specs.Same.{IsSameNetlist}
use Rattle.written_netlists.specs.ModulesLaws.{StitchedIsRenumbered}
use Rattle.written_netlists.proofs.ModulesWhole.{dense_after}

-- what stands in a netlist stands in one with the same live cells
nested_same : (one other : NetlistView) → IsSameNetlist one other → (to : ℕ → ℕ) (number : ℕ) (cell : CellView) → IsNested one to number cell → IsNested other to number cell
nested_same one other same to number cell n = record { name = n.name; live = sym (same.cells number) ∙ n.live }

-- what is numbered anew of one is so of the other
renumbered_same : (one other M : NetlistView) → IsSameNetlist one other → (to at : ℕ → ℕ) → IsRenumbering one M to at → IsRenumbering other M to at
renumbered_same one other M same to at r = record {
  back = r.back;
  from = r.from;
  there = record {
    library = r.there.library ∙ same.library;
    nets = r.there.nets;
    ports = subst (λ (ports : List PortView). ArePortImages to ports M.ports) same.ports r.there.ports;
    cells = λ i cell live. r.there.cells i cell (same.cells i ∙ live);
    numbers = λ i cell live. r.there.numbers i cell (same.cells i ∙ live);
  };
  here = record {
    library = sym same.library ∙ r.here.library;
    nets = r.here.nets;
    ports = subst (λ (ports : List PortView). ArePortImages r.back M.ports ports) same.ports r.here.ports;
    cells = λ i cell live. nested_same one other same r.back (r.from i) cell (r.here.cells i cell live);
    numbers = r.here.numbers;
  };
}

pub is_renumbered : StitchedHasCounts → WrittenIsRenumbered → DenseKeepsPlaces → StitchedIsRenumbered
is_renumbered counts anew places L f after is prefix tree laid writes written listed link =
    let A : NetlistView = after.arena.lists in
    let S : NetlistView = stitched L.arena.lists is.names f in
    record {
      to = new_number A;
      at = new_place A.cells;
      is = renumbered_same A S written.arena.lists is.same (new_number A) (new_place A.cells) (anew after written prefix tree laid writes (listed ∙ sym is.same.library) link);
      stay = λ i some. places A (dense_after counts L after f is) i (subst (λ (o : Option CellView). IsSome o) (sym (is.same.cells i)) some);
    }
