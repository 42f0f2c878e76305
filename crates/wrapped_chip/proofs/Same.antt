-- A netlist with the same library, ports and live cells is numbered anew by the numbers that it has, and behaves as the other does.
use Rattle.std.proofs.Common.{◌≡◌, ℕ, List, [], ◌∷◌, map, Option, Some, None, option_map, refl, sym, ap, ◌∙◌, subst}
use Rattle.netlist_model.specs.declared.NetId.{NetId}
use Rattle.netlist_model.specs.declared.Feed.{Feed}
use Rattle.netlist_model.specs.declared.Feed.TheVariants.{Net, Const}
use Rattle.netlist_model.specs.Lists.{PortView, CellView, NetlistView, cell_at}
use Rattle.netlist_model.specs.Nested.{renamed_net, renamed_feed, renamed_cell}
use Rattle.netlist_model.specs.Renumbered.{ArePortImages, IsCopied, IsRenumbering}
use Rattle.wrapped_chip.specs.CopiesLaws.{RenumberedRealisesBy, RenumberedAlone, RenumberedFindsHomeBy, SameRealisesBy, SameAlone, SameFindsHomeBy}

-- the same number
abbrev itself : ℕ → ℕ
itself n = n

same_net : (net : NetId) → renamed_net itself net ≡ net
same_net net = refl

same_feed : (feed : Feed) → renamed_feed itself feed ≡ feed
same_feed (Net net) = refl
same_feed (Const b) = refl

same_feeds : (feeds : List Feed) → map (renamed_feed itself) feeds ≡ feeds
same_feeds [] = refl
same_feeds (feed ∷ feeds) = ap (λ (f : Feed). f ∷ map (renamed_feed itself) feeds) (same_feed feed) ∙ ap (λ (fs : List Feed). feed ∷ fs) (same_feeds feeds)

same_nets : (nets : List NetId) → map (renamed_net itself) nets ≡ nets
same_nets [] = refl
same_nets (net ∷ nets) = ap (λ (ns : List NetId). net ∷ ns) (same_nets nets)

same_output : (output : Option NetId) → option_map (renamed_net itself) output ≡ output
same_output None = refl
same_output (Some net) = refl

same_cell : (cell : CellView) → renamed_cell itself cell.name cell ≡ cell
same_cell cell =
    let one : renamed_cell itself cell.name cell ≡ record cell { feeds = map (renamed_feed itself) cell.feeds } = ap (λ (o : Option NetId). record (renamed_cell itself cell.name cell) { output = o }) (same_output cell.output) in
    one ∙ ap (λ (fs : List Feed). record cell { feeds = fs }) (same_feeds cell.feeds)

images : (ports : List PortView) → ArePortImages itself ports ports
images [] = tt
images (port ∷ ports) = (record { dir = refl; range = refl; nets = sym (same_nets port.nets) }, images ports)

copied : (M M' : NetlistView) → M.library ≡ M'.library → M.ports ≡ M'.ports → ((i : ℕ) → cell_at M i ≡ cell_at M' i) → IsCopied M M' itself itself itself itself
copied M M' library ports cells = record {
  library = sym library;
  nets = λ net. refl;
  ports = subst (λ (ps : List PortView). ArePortImages itself M.ports ps) ports (images M.ports);
  cells = λ i cell live. record { name = cell.name; live = sym (cells i) ∙ live ∙ ap (λ (c : CellView). Some c) (sym (same_cell cell)) };
  numbers = λ i cell live. refl;
}

numbered_anew : (M M' : NetlistView) → M.library ≡ M'.library → M.ports ≡ M'.ports → ((i : ℕ) → cell_at M i ≡ cell_at M' i) → IsRenumbering M M' itself itself
numbered_anew M M' library ports cells = record {
  back = itself;
  from = itself;
  there = copied M M' library ports cells;
  here = copied M' M (sym library) (sym ports) (λ i. sym (cells i));
}

pub same_realises : RenumberedRealisesBy → SameRealisesBy
same_realises copies M M' N B tdo library ports cells formed realises = copies M M' N B tdo itself itself (numbered_anew M M' library ports cells) formed (λ i cell live. refl) realises

pub same_is_alone : RenumberedAlone → SameAlone
same_is_alone copies M M' N B library ports cells formed alone = copies M M' N B itself itself (numbered_anew M M' library ports cells) formed (λ i cell live. refl) alone

pub same_finds_home : RenumberedFindsHomeBy → SameFindsHomeBy
same_finds_home copies M M' N B lengths tdo library ports cells formed has finds = copies M M' N B lengths tdo itself itself (numbered_anew M M' library ports cells) formed has (λ i cell live. refl) finds
