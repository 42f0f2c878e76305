-- The netlist that a written tree denotes is the argument's under other numbers.
use Rattle.std.proofs.Common.{◌≡◌, ℕ, suc, ◌<◌, List, [], ◌∷◌, length, map, refl, ap, sym, ◌∙◌, subst, Option, Some, None}
use Rattle.std.specs.Prelude.{slice_get, IsSome}
use Rattle.std.specs.Option.{option_map}
use Rattle.list_laws.proofs.Lists.{map_same}
use Rattle.cell_library.specs.declared.listed.ListedCell.{ListedCell}
use Rattle.cell_library.specs.declared.Kind.{Kind}
use Rattle.netlist_model.specs.declared.NetId.{NetId}
use Rattle.netlist_model.specs.declared.Feed.{Feed}
use Rattle.netlist_model.specs.declared.Feed.TheVariants.{Net, Const}
use Rattle.netlist_model.specs.Lists.{PortView, CellView, NetlistView, bit_net, cell_at}
use Rattle.netlist_model.specs.Formed.{IsLaidOut}
use Rattle.link_model.specs.Cells.{NamedCell}
use Rattle.link_model.specs.Denoted.{AreAll, IsLive, IsNamed, IsPort, denoted}
use Rattle.netlist_unlink.specs.Renumbered.{cells_from, net_order, new_feed, new_net, new_port, renumbered}
use Rattle.netlist_model.specs.Nested.{renamed_net, renamed_feed, IsNested}
use Rattle.netlist_model.specs.Renumbered.{ArePortImages, IsCopied, IsCellImage}
use Rattle.netlist_model.specs.RenumberedLaws.{CopyIsRenumbering}
use Rattle.netlist_unlink.specs.ImagesLaws.{new_number, new_place, DenotedIsRenumbered, WrittenIsRenumbered}
use Rattle.netlist_unlink.proofs.ImagesPlaces.{number_of, place_back, IsNewOf, HasNew, new_at, HasOld, old_at}
use Rattle.netlist_unlink.proofs.Orders.{old_number, new_number-below, old_of_new, new_of_old}

same_net : (N : NetlistView) (net : NetId) → net.0 < length N.nets → new_net (net_order N) net ≡ renamed_net (new_number N) net
same_net N net less = let wrap : ℕ → NetId = λ n. record { 0 = n } in ap wrap (sym (new_number-below N net.0 less))

same_feed : (N : NetlistView) (i : ℕ) (cell : CellView) → IsLaidOut N → cell_at N i ≡ Some cell → (place : ℕ) (feed : Feed) → slice_get cell.feeds place ≡ Some feed
    → new_feed (net_order N) feed ≡ renamed_feed (new_number N) feed
same_feed N i cell laid live place (Net net) read = ap Net (same_net N net (laid.operands i cell place net.0 (record { live = live; operand = read })))
same_feed N i cell laid live place (Const b) read = refl

same_output : (N : NetlistView) (output : Option NetId) → ((net : NetId) → output ≡ Some net → net.0 < length N.nets)
    → option_map (new_net (net_order N)) output ≡ option_map (renamed_net (new_number N)) output
same_output N None below = refl
same_output N (Some net) below = ap Some (same_net N net (below net refl))

ports_are : (N : NetlistView) (names table : List (List ℕ)) (ports images : List PortView)
    → ((p k : ℕ) (port : PortView) (net : NetId) → slice_get ports p ≡ Some port → slice_get port.nets k ≡ Some net → net.0 < length N.nets)
    → AreAll (IsPort names) images (map (new_port table (net_order N)) ports) → ArePortImages (new_number N) ports images
ports_are N names table [] [] below all = tt
ports_are N names table [] (y ∷ ys) below all = absurd all
ports_are N names table (x ∷ xs) [] below all = absurd all
ports_are N names table (x ∷ xs) (y ∷ ys) below all = (
  record {
    dir = all.0.dir;
    range = all.0.range;
    nets = all.0.nets ∙ map_same (new_net (net_order N)) (renamed_net (new_number N)) x.nets (λ k net at. same_net N net (below 0 k x net refl at));
  },
  ports_are N names table xs ys (λ p k port net there at. below (suc p) k port net there at) all.1,
)

same_view : (c : CellView) (kind : Kind) (feeds : List Feed) (output : Option NetId) → c.kind ≡ kind → c.feeds ≡ feeds → c.output ≡ output
    → c ≡ record { kind = kind; name = c.name; feeds = feeds; output = output }
same_view c kind feeds output k f o =
    ap (λ x. record { kind = x; name = c.name; feeds = c.feeds; output = c.output }) k ∙ ap (λ x. record { kind = kind; name = c.name; feeds = x; output = c.output }) f
    ∙ ap (λ x. record { kind = kind; name = c.name; feeds = feeds; output = x }) o

nested_by : (N M : NetlistView) (names : List (List ℕ)) (i place : ℕ) (cell : CellView) (named : NamedCell) (found : Option CellView) → IsLaidOut N → cell_at N i ≡ Some cell
    → IsNewOf (net_order N) cell named → cell_at M place ≡ found → IsLive names found named → IsNested M (new_number N) place cell
nested_by N M names i place cell named None laid live new e is = absurd is
nested_by N M names i place cell named (Some c) laid live new e is =
    let feeds : c.feeds ≡ map (renamed_feed (new_number N)) cell.feeds
    = is.feeds ∙ new.feeds ∙ map_same (new_feed (net_order N)) (renamed_feed (new_number N)) cell.feeds (same_feed N i cell laid live) in
    let output : c.output ≡ option_map (renamed_net (new_number N)) cell.output
    = is.output ∙ new.output ∙ same_output N cell.output (λ net out. laid.outputs i cell net.0 (record { live = live; output = out })) in
    record {
      name = c.name;
      live = e ∙ ap (λ (x : CellView). Some x) (same_view c cell.kind (map (renamed_feed (new_number N)) cell.feeds) (option_map (renamed_net (new_number N)) cell.output) (is.kind ∙ new.kind) feeds output);
    }

pub denoted_is_renumbered : CopyIsRenumbering → DenotedIsRenumbered
denoted_is_renumbered copy naming N M tree names laid written same named =
    let is : IsNamed names M (renumbered naming N) = rw written.denotes at named in
    let order : List ℕ = net_order N in
    let copied : IsCopied N M (new_number N) (new_place N.cells) (old_number N) (number_of N.cells) = record {
      library = same;
      nets = old_of_new N written.nets;
      ports = ports_are N names naming.table N.ports M.ports
          (λ p k port net there at. let has : bit_net N p k ≡ Some net = rw there at in laid.port_nets p k net has) is.ports;
      cells = λ i cell live.
          let new : HasNew (net_order N) (cells_from naming (net_order N) 0 N.cells) (new_place N.cells i) cell = new_at naming (net_order N) 0 N.cells i cell live in
          nested_by N M names i (new_place N.cells i) cell new.named (cell_at M (new_place N.cells i)) laid live new.is refl (is.cells.each (new_place N.cells i) new.named new.there);
      numbers = λ i cell live. place_back N.cells i cell live;
    } in
    copy N M (new_number N) (new_place N.cells) (old_number N) (number_of N.cells) copied (new_of_old N written.nets)
    (λ j cell live. covers (is.cells.only j (some_live j cell live)))
  where
    some_live : (j : ℕ) (cell : CellView) → cell_at M j ≡ Some cell → IsSome (cell_at M j)
    some_live j cell live = rw live refl

    covers : {j : ℕ} → j < length (cells_from naming (net_order N) 0 N.cells) → IsCellImage N (new_place N.cells) j
    covers {j} less = let o : HasOld N.cells j = old_at naming (net_order N) 0 N.cells j less in record { old = o.old; cell = o.cell; live = o.live; same = o.same }

pub written_is_renumbered : CopyIsRenumbering → WrittenIsRenumbered
written_is_renumbered copy linked written prefix tree laid is same link =
    let P : List ListedCell → Type 0 = λ l. IsNamed written.names written.arena.lists (denoted l tree) in
    denoted_is_renumbered copy _ linked.arena.lists written.arena.lists tree written.names laid is same (subst P same link.denoted)
