-- Names of a link view, of which none begins with the prefix.
use Rattle.std.proofs.Common.{◌≡◌, ℕ, ◌<◌, true, false, List, [], ◌∷◌, ◌++◌, length, refl, sym, ◌∙◌, ap, Option, Some, None, slice_get, arith, eqb-true}
use Rattle.std.specs.List.{starts_with}
use Rattle.std.specs.Prelude.{nat_eq}
use Rattle.std.proofs.lemmas.Option.{slice_get_within}
use Rattle.list_laws.proofs.Tests.{both_true, never_true}
use Rattle.list_laws.proofs.Lists.{AreAll-right, slice_get_there}
use Rattle.netlist_arena.proofs.Laid.{All-slice_get}
use Rattle.netlist_model.specs.declared.Name.{Name}
use Rattle.netlist_model.specs.declared.Name.TheVariants.{Original, Added}
use Rattle.netlist_model.specs.Lists.{PortView, NetView, CellView, cell_at}
use Rattle.verilog_tree.specs.declared.tree.Module.{Module}
use Rattle.link_model.specs.Denoted.{name_bytes, IsPort, IsNet, IsName, IsLive, denoted}
use Rattle.netlist_link.specs.Linked.{LinkedView}
use Rattle.netlist_link.specs.Links.{IsLinkOf}
use Rattle.netlist_unlink.specs.Trees.{original}
use Rattle.netlist_unlink.specs.Prefixes.{IsUsed, port, net, cell, IsFreePrefix}
use Rattle.plan_texts.specs.declared.plan.Plan.{Plan}
use Rattle.plan_texts.specs.declared.plan.TapLine.{TapLine}
use Rattle.plan_fitting.specs.declared.fitted.Fitted.{Fitted}
use Rattle.plan_fitting.specs.Pins.{PinSeen}
use Rattle.plan_fitting.specs.Fits.{tap_lines}
use Rattle.plan_fitting.specs.Devices.{fitted_of}
use Rattle.plan_fitting.specs.FittingPlan.{IsFitting}
use Rattle.plan_fitting.specs.DevicesLaws.{PrefixesAreFree, TapNamesAreNew, HasFreePrefix, HasNewTapNames}
use Rattle.written_netlists.specs.NamesLaws.{TapNamesAreEntered}
use Rattle.written_netlists.specs.Prepared.{with_tap_names}
use Rattle.strip_model.specs.Core.{begins}
use Rattle.strip_model.specs.NetlistsTold.{IsOwn, IsNewTap}
use Rattle.strip_model.specs.Ready.{FittedCanBeUndone}
use Rattle.strip_model.specs.RecoveryLaw.{FittedCanBeTold}

both_same : (x p : ℕ) (xs prefix rest : List ℕ) → p ≡ x → xs ≡ prefix ++ rest → x ∷ xs ≡ (p ∷ prefix) ++ rest
both_same x p xs prefix rest same tail = rw (same, tail) refl

joined : (xs prefix : List ℕ) → starts_with nat_eq xs prefix ≡ true → (rest : List ℕ) × (xs ≡ prefix ++ rest)
joined xs [] h = (xs, refl)
joined [] (p ∷ prefix) h = absurd (let bad : false ≡ true = h in cc)
joined (x ∷ xs) (p ∷ prefix) h =
    let both = both_true (nat_eq p x) (starts_with nat_eq xs prefix) h in
    let rest = joined xs prefix both.1 in
    (rest.0, both_same x p xs prefix rest.0 (eqb-true p x both.0) rest.1)

-- a name with these bytes is an original one
own_name : (table : List (List ℕ)) (prefix : List ℕ) (name : Name) (bytes : List ℕ) → name_bytes table name ≡ Some bytes → ((rest : List ℕ) → bytes ≡ prefix ++ rest → ⊥) → IsOwn table prefix name
own_name table prefix (Added number) bytes e free = absurd (let bad : None ≡ Some bytes = e in cc)
own_name table prefix (Original number) bytes e free =
    let is : original table number ≡ bytes = rw e refl in (
      slice_get_within table number bytes e,
      never_true (begins prefix (original table number)) (λ yes.
          let r = joined (original table number) prefix yes in free r.0 (sym is ∙ r.1)),
    )

-- a used name is free of the prefix
used_name : (L : LinkedView) (prefix : List ℕ) → IsFreePrefix L prefix → (name : Name) (bytes : List ℕ) → IsUsed L.arena.lists name → name_bytes L.names name ≡ Some bytes → IsOwn L.names prefix name
used_name L prefix free (Added number) bytes used e = absurd (let bad : None ≡ Some bytes = e in cc)
used_name L prefix free (Original number) bytes used e =
    own_name L.names prefix (Original number) bytes e (λ rest is. free.free number rest used (e ∙ ap (λ (b : List ℕ). Some b) is))

-- the bytes of names
net_bytes : (m : Module) (L : LinkedView) → IsLinkOf m L → (k : ℕ) (view : NetView) → slice_get L.arena.lists.nets k ≡ Some view → (bytes : List ℕ) × (name_bytes L.names view.name ≡ Some bytes)
net_bytes m L links k view at =
    let named = AreAll-right (IsNet L.names) L.arena.lists.nets (denoted L.arena.lists.library m).nets k view links.denoted.nets at in
    (named.0.name, named.2.name)

port_bytes : (m : Module) (L : LinkedView) → IsLinkOf m L → (k : ℕ) (view : PortView) → slice_get L.arena.lists.ports k ≡ Some view → (bytes : List ℕ) × (name_bytes L.names view.name ≡ Some bytes)
port_bytes m L links k view at =
    let named = AreAll-right (IsPort L.names) L.arena.lists.ports (denoted L.arena.lists.library m).ports k view links.denoted.ports at in
    (named.0.name, named.2.name)

cell_bytes : (m : Module) (L : LinkedView) → IsLinkOf m L → (i : ℕ) (one : CellView) (name : Name) → cell_at L.arena.lists i ≡ Some one → one.name ≡ Some name → (bytes : List ℕ) × (name_bytes L.names name ≡ Some bytes)
cell_bytes m L links i one name at e =
    let cells = links.denoted.cells in
    let within : i < length (denoted L.arena.lists.library m).cells = cells.only i (rw at refl) in
    let named = slice_get_there (denoted L.arena.lists.library m).cells i within in
    let is : IsLive L.names (Some one) named.0 = rw at at (cells.each i named.0 named.1) in
    by named.0.name (rw e at is.name)
  where
    by : (o : Option (List ℕ)) → IsName L.names (Some name) o → (bytes : List ℕ) × (name_bytes L.names name ≡ Some bytes)
    by None is = absurd is
    by (Some bytes) is = (bytes, is)

-- a name of the test access port
new_tap : (m : Module) (L : LinkedView) (p : Plan) (seen : List PinSeen) (f : Fitted) → IsLinkOf m L → IsFitting L p seen
    → ((number : ℕ) (bytes : List ℕ) → slice_get L.names number ≡ Some bytes → slice_get (with_tap_names f L.names) number ≡ Some bytes)
    → HasFreePrefix L p → HasNewTapNames L p → (k : ℕ) (line : TapLine) → slice_get (tap_lines p) k ≡ Some line → (name : Name) → name_bytes (with_tap_names f L.names) name ≡ Some line.name
    → IsNewTap L.arena.lists (with_tap_names f L.names) p.prefix name
new_tap m L p seen f links fits kept free fresh k line at name is = record {
  own = own_name (with_tap_names f L.names) p.prefix name line.name is (λ rest e. All-slice_get (λ (l : TapLine). (rest : List ℕ) → l.name ≡ p.prefix ++ rest → ⊥) (tap_lines p) k line free.taps at rest e);
  new = λ number view there same.
      let b = net_bytes m L links number view there in clash number view there view.name refl b.0 b.1 (ap (name_bytes (with_tap_names f L.names)) same ∙ is);
}
  where
    some_bytes : (a b : List ℕ) → ◌≡◌ {A = Option (List ℕ)} (Some a) (Some b) → a ≡ b
    some_bytes a b e = cc

    clash : (number : ℕ) (view : NetView) → slice_get L.arena.lists.nets number ≡ Some view → (own : Name) → view.name ≡ own → (bytes : List ℕ) → name_bytes L.names view.name ≡ Some bytes
        → name_bytes (with_tap_names f L.names) view.name ≡ Some line.name → ⊥
    clash number view there (Added n) e bytes was now = let gone : None ≡ Some bytes = rw e at was in cc
    clash number view there (Original n) e bytes was now =
        let old : slice_get L.names n ≡ Some bytes = rw e at was in
        let new : slice_get (with_tap_names f L.names) n ≡ Some line.name = rw e at now in
        let same = some_bytes bytes line.name (sym (kept n bytes old) ∙ new) in
        let own : IsUsed L.arena.lists view.name = net number view there in
        let used : IsUsed L.arena.lists (Original n) = rw e at own in
        All-slice_get (λ (l : TapLine). (number : ℕ) → IsUsed L.arena.lists (Original number) → slice_get L.names number ≡ Some l.name → ⊥) (tap_lines p) k line fresh.new at n used (old ∙ ap (λ (b : List ℕ). Some b) same)

filled : (prefix : List ℕ) (first : ℕ) (rest : List ℕ) → prefix ≡ first ∷ rest → 0 < length prefix
filled prefix first rest is = rw is (omega arith)

pub can_be_told : TapNamesAreEntered → PrefixesAreFree → TapNamesAreNew → FittedCanBeUndone → FittedCanBeTold
can_be_told entered free_law new_law undone m L p seen names links fits laid taps few =
    let f : Fitted = fitted_of L p seen in
    let kept = (entered L.names f).kept in
    let free = free_law L p seen fits in
    let fresh = new_law L p seen fits in
    record {
      kept = kept;
      ports = λ k view at. let b = port_bytes m L links k view at in used_name L p.prefix free.netlist view.name b.0 (port k view at) b.1;
      nets = λ k view at. let b = net_bytes m L links k view at in used_name L p.prefix free.netlist view.name b.0 (net k view at) b.1;
      cells = λ i one name at e. let b = cell_bytes m L links i one name at e in used_name L p.prefix free.netlist name b.0 (cell i one name at e) b.1;
      tck = new_tap m L p seen f links fits kept free fresh 0 p.tck refl names.tck taps.tck;
      tms = new_tap m L p seen f links fits kept free fresh 1 p.tms refl names.tms taps.tms;
      tdi = new_tap m L p seen f links fits kept free fresh 2 p.tdi refl names.tdi taps.tdi;
      tdo = new_tap m L p seen f links fits kept free fresh 3 p.tdo refl names.tdo taps.tdo;
      trst = new_tap m L p seen f links fits kept free fresh 4 p.trst refl names.trst taps.trst;
      undone = undone L p seen fits laid;
      laid = laid;
      few = few;
      filled = filled p.prefix free.netlist.word.first free.netlist.word.rest free.netlist.word.is;
    }
