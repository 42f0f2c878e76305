-- One cell more in a netlist whose live cells are the first named ones.
use Rattle.std.proofs.Common.{◌≡◌, ◌≢◌, ◌⊎◌, inl, inr, ℕ, ◌+◌, ◌<◌, ◌≤◌, List, length, take, get_or, refl, ap, sym, ◌∙◌, Option, Some, None, arith, subst}
use Rattle.std.specs.Prelude.{slice_get, IsSome, MatchOption, ⊤, ◌==◌, ◌&&◌, nat_le, true, false}
use Rattle.std.proofs.lemmas.List.{length-take}
use Rattle.std.proofs.lemmas.Bool.Decides.{eqb_tells, leb_tells}
use Rattle.std.proofs.lemmas.Option.{slice_get_within}
use Rattle.list_laws.proofs.Lists.{slice_get_there}
use Rattle.list_laws.proofs.Tests.{and_left}
use Rattle.netlist_arena.proofs.Laid.{All-slice_get}
use Rattle.cell_library.specs.declared.ResetTo.{ResetTo}
use Rattle.cell_library.specs.declared.ResetTo.TheVariants as reset
use Rattle.cell_library.specs.declared.Kind.{Kind}
use Rattle.cell_library.specs.declared.Kind.TheVariants as kind
use Rattle.cell_library.specs.declared.listed.Body.{Body}
use Rattle.cell_library.specs.declared.listed.Body.TheVariants as body
use Rattle.cell_library.specs.declared.listed.ListedCell.{ListedCell}
use Rattle.cell_library.specs.Gates.{Takes, flop_operand_count}
use Rattle.cell_library.specs.Sound.{IsLibrary, IsSoundCell, is_sound_body, leaves_one}
use Rattle.netlist_model.specs.declared.NetId.{NetId}
use Rattle.netlist_model.specs.Lists.{CellView, NetlistView, cell_at, cell_count}
use Rattle.netlist_model.specs.Contained.{IsDense}
use Rattle.netlist_arena.specs.Adds.{AddsCell, CanDrive, IsFree}
use Rattle.link_rules.specs.link_model.Cells.{NamedCell}
use Rattle.link_rules.specs.link_model.Fits.{FitsCell}
use Rattle.link_rules.specs.link_model.Denoted.{AreCells, IsLive, IsCell}
use Rattle.link_rules.specs.DriversLaws.{DrivesNet}
use Rattle.link_arena.specs.Named.{DriveApart}
use Rattle.link_arena.proofs.Rows.{at-take}

few_flop : (r : ResetTo) → flop_operand_count r ≤ 3
few_flop reset.Nothing = omega arith
few_flop reset.Zero = omega arith
few_flop reset.One = omega arith

at_most : (a b : ℕ) → nat_le a b ≡ true → a ≤ b
at_most a b h = elim (leb_tells a b) [
  | inl e ↦ e.1
  | inr e ↦ absurd (let clash : true ≡ false = sym h ∙ e.0 in cc)
]

equal : (a b : ℕ) → (a == b) ≡ true → a ≡ b
equal a b h = elim (eqb_tells a b) [
  | inl e ↦ e.1
  | inr e ↦ absurd (let clash : true ≡ false = sym h ∙ e.0 in cc)
]

few_inputs : (count : ℕ) (b : Body) → is_sound_body count b ≡ true → count ≤ 256
few_inputs count (body.Gate steps) sound =
    let few = at_most count 16 (and_left (nat_le count 16) (nat_le 1 (length steps) && (nat_le (length steps) 64 && leaves_one count 0 steps)) sound) in omega (arith, few)
few_inputs count (body.Flop k) sound =
    let few = few_flop k.reset in let is = equal count (flop_operand_count k.reset) sound in omega (arith, few, is)

-- a cell of a kind has at most 256 operands
pub few_taken : (library : List ListedCell) (k : Kind) (count : ℕ) → IsLibrary library → Takes library k count → count ≤ 256
few_taken library kind.And count is takes = takes.1
few_taken library kind.Or count is takes = takes.1
few_taken library kind.Nand count is takes = takes.1
few_taken library kind.Nor count is takes = takes.1
few_taken library kind.Xor count is takes = takes.1
few_taken library kind.Xnor count is takes = takes.1
few_taken library kind.Buf count is takes = omega (arith, takes)
few_taken library kind.Not count is takes = omega (arith, takes)
few_taken library kind.Assign count is takes = omega (arith, takes)
few_taken library kind.Bufif0 count is takes = omega (arith, takes)
few_taken library kind.Bufif1 count is takes = omega (arith, takes)
few_taken library kind.Mux2 count is takes = omega (arith, takes)
few_taken library (kind.Flop k) count is takes = let few = few_flop k.reset in omega (arith, few, takes)
few_taken library (kind.Listed n) count is takes = by (slice_get library n) refl takes
  where
    by : (o : Option ListedCell) → slice_get library n ≡ o → MatchOption o ⊥ (λ (cell : ListedCell). count ≡ length cell.inputs) → count ≤ 256
    by None at t = absurd t
    by (Some cell) at t =
        let sound = All-slice_get IsSoundCell library n cell is.sound at in
        let few = few_inputs (length cell.inputs) cell.body sound.body in omega (arith, few, t)

same-number : (a b : ℕ) → (a ≡ b) ⊎ (a ≢ b)
same-number a b = elim (eqb_tells a b) [ inl e ↦ inl e.1 | inr e ↦ inr e.1 ]

live-some : (table : List (List ℕ)) (place : Option CellView) (named : NamedCell) → IsLive table place named → IsSome place
live-some table None named live = absurd live
live-some table (Some cell) named live = refl

-- the live cells have the numbers of the named ones
pub dense-cells : (table : List (List ℕ)) (N : NetlistView) (cells : List NamedCell) → AreCells table N cells → cell_count N ≡ length cells → IsDense N
dense-cells table N cells are count i h =
    let named = slice_get_there cells i (omega (arith, count)) in live-some table (cell_at N i) named.0 (are.each i named.0 named.1)

-- what a live cell's named cell drives
named-drives : (table : List (List ℕ)) (N : NetlistView) (cells : List NamedCell) (i j : ℕ) (cell : CellView) (net : ℕ) → AreCells table N (take i cells) → i ≤ length cells → cell_at N j ≡ Some cell
    → cell.output ≡ Some (record { 0 = net }) → (j < i) × ((named : NamedCell) × DrivesNet cells j named net)
named-drives table N cells i j cell net are few at output =
    let count = length-take i cells in
    let some : IsSome (cell_at N j) = rw at refl in
    let inside = are.only j some in
    let less : j < i = omega (arith, count, inside) in
    let named = slice_get_there (take i cells) j inside in
    let is : IsCell table cell named.0 = rw at at (are.each j named.0 named.1) in
    (less, (named.0, record { there = sym (at-take cells i j less) ∙ named.1; output = sym is.output ∙ output }))

pub can_drive : (table : List (List ℕ)) (old N : NetlistView) (cells : List NamedCell) (i : ℕ) (cell : NamedCell) (output : Option NetId) → i < length cells → slice_get cells i ≡ Some cell → output ≡ cell.output
    → AreCells table N (take i cells) → N.ports ≡ old.ports → N.nets ≡ old.nets → FitsCell old.library (length old.nets) cell → DriveApart old cells → CanDrive N output
can_drive table old N cells i cell output h here same are ports nets fits apart = by output same
  where
    by : (o : Option NetId) → o ≡ cell.output → MatchOption o ⊤ (λ net. (net.0 < length N.nets) × IsFree N net.0)
    by None e = tt
    by (Some net) e =
        let drives : DrivesNet cells i cell net.0 = record { there = here; output = sym e } in
        let below : net.0 < length old.nets = rw (sym e) at fits.output in
        let there : net.0 < length N.nets = rw nets below in (
          there,
          record {
            undriven = λ j other at output.
                let n = named-drives table N cells i j other net.0 are (omega arith) at output in
                let same = apart.once j i n.1.0 cell net.0 n.1.1 drives in
                let less = n.0 in omega arith;
            outside = rw ports (apart.inputs i cell net.0 drives);
          },
        )

pub cells-more : (table : List (List ℕ)) (N new : NetlistView) (cells : List NamedCell) (i number : ℕ) (cell : NamedCell) (view : CellView) → i < length cells → cell ≡ get_or cells i cell → slice_get cells i ≡ Some cell
    → AreCells table N (take i cells) → cell_count N ≡ i → AddsCell N new number view → IsCell table view cell → AreCells table new (take (i + 1) cells)
cells-more table N new cells i number cell view h is here are count adds same =
    let short = length-take i cells in
    let long = length-take (i + 1) cells in
    let dense = dense-cells table N (take i cells) are (omega (arith, count, short)) in
    let at : number ≡ i = adds.last dense ∙ count in
    record {
      each = λ k named there. elim (same-number k i) [
        | inl e ↦
            let found : Some cell ≡ Some named = sym here ∙ ap (slice_get cells) (sym e) ∙ sym (at-take cells (i + 1) k (omega arith)) ∙ there in
            let cells_same : cell ≡ named = cc in
            let live : cell_at new k ≡ Some view = ap (cell_at new) (e ∙ sym at) ∙ adds.added in
            rw live (let P : NamedCell → Type 0 = λ n. IsCell table view n in subst P cells_same same)
        | inr e ↦
            let inside = slice_get_within (take (i + 1) cells) k named there in
            let less : k < i = omega (arith, long, inside) in
            let before : slice_get (take i cells) k ≡ Some named = at-take cells i k less ∙ sym (at-take cells (i + 1) k (omega arith)) ∙ there in
            rw (adds.others k (λ f. e (f ∙ at))) (are.each k named before)
      ];
      only = λ k some. elim (same-number k i) [
        | inl e ↦ omega (arith, long)
        | inr e ↦
            let old : IsSome (cell_at N k) = rw (adds.others k (λ f. e (f ∙ at))) at some in
            let inside = are.only k old in omega (arith, short, long, inside)
      ];
    }
