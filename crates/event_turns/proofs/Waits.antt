-- On which nets operands wait, one operand after another.
use Rattle.std.proofs.Common.{◌≡◌, ◌⊎◌, ℕ, ◌+◌, ◌<◌, ◌≤◌, Bool, true, false, List, [], ◌∷◌, ◌++◌, length, slice_index, Option, Some, None, refl, sym, ap, ◌∙◌, inl, inr, arith, length-append}
use Rattle.std.specs.Option.{option_map}
use Rattle.std.specs.Prelude.{slice_get, is_some}
use Rattle.std.proofs.lemmas.Bool.Decides.{eqb_tells}
use Rattle.std.proofs.lemmas.List.{get_or_append_left}
use Rattle.std.proofs.lemmas.Option.{slice_get_within, get_or_from_slice_get}
use Rattle.list_laws.proofs.Lists.{at_push, before_push, last_push}
use Rattle.list_laws.proofs.Options.{some_same}
use Rattle.cell_library.specs.declared.FlopKind.{FlopKind}
use Rattle.cell_library.specs.Gates.{flop_of, is_flop}
use Rattle.netlist_model.specs.declared.CellId.{CellId}
use Rattle.netlist_model.specs.declared.NetId.{NetId}
use Rattle.netlist_model.specs.declared.Feed.{Feed}
use Rattle.netlist_model.specs.declared.Feed.TheVariants.{Net, Const}
use Rattle.netlist_model.specs.Lists.{CellView, NetlistView, cell_at}
use Rattle.netlist_model.specs.Formed.{IsLaidOut}
use Rattle.netlist_model.specs.Orders.{StandsAt, IsCellOrder}
use Rattle.netlist_arena.specs.Looks.{feed_at}
use Rattle.netlist_model.proofs.Search.{cell_at_once}
use Rattle.netlist_settling.proofs.Turns.{stands_same}
use Rattle.event_laws.specs.Turns.{WaitsOn}
use Rattle.event_parts.specs.KeysLaws.{IsKey, AreRanges}
use Rattle.event_turns.specs.Circuits.{AreReaders, turn_at}
use Rattle.event_turns.specs.Tables.{AreOwnersAt, AreWaits, HasKey, IsNoted, waited}

-- an operand waits where it is a trigger
abbrev Triggers : Bool → ℕ → Type 0
Triggers flop operand = (flop ≡ false) ⊎ ((operand ≡ 1) ⊎ (operand ≡ 2))

trigger_waits : (flop : Bool) (operand : ℕ) (net : NetId) → Triggers flop operand → waited flop operand (Net net) ≡ Some net.0
trigger_waits false operand net trigger = refl
trigger_waits true operand net (inl gate) = absurd (let no : true ≡ false = gate in cc)
trigger_waits true operand net (inr (inl one)) = rw one refl
trigger_waits true operand net (inr (inr two)) = rw two refl

record IsWaited (flop : Bool) (operand : ℕ) (feed : Feed) (net : ℕ) : Type 0 where
  feed_is : feed ≡ Net (record { 0 = net })
  trigger : Triggers flop operand

net_is : (own : NetId) (net : ℕ) → Some own.0 ≡ Some net → Net own ≡ Net (record { 0 = net })
net_is own net e =
    let unwrap : Option ℕ → ℕ = (λ o. elim o [ None ↦ 0 | Some k ↦ k ]) in
    ap (λ (k : ℕ). Net (record { 0 = k })) (ap unwrap e)

waits_for : (flop : Bool) (operand : ℕ) (feed : Feed) (net : ℕ) → waited flop operand feed ≡ Some net → IsWaited flop operand feed net
waits_for flop operand (Const b) net is = absurd (let no : None ≡ Some net = is in cc)
waits_for false operand (Net own) net is = record { feed_is = net_is own net is; trigger = inl refl }
waits_for true operand (Net own) net is =
    elim (eqb_tells operand 1) [
      | inl one ↦ record { feed_is = net_is own net (rw one.0 at is); trigger = inr (inl one.1) }
      | inr not_one ↦ elim (eqb_tells operand 2) [
        | inl two ↦ record { feed_is = net_is own net (rw (not_one.0, two.0) at is); trigger = inr (inr two.1) }
        | inr not_two ↦ absurd (let no : None ≡ Some net = rw (not_one.0, not_two.0) at is in cc)
      ]
    ]

-- one operand more
pub waits_more : (N : NetlistView) (order : List CellId) (turns : List ℕ) (keys keys' : List (Option ℕ)) (owners owners' : List ℕ) (count upto number turn : ℕ) (cell : CellView) (feed : Feed) (key : Option ℕ) → StandsAt order count number
    → cell_at N number ≡ Some cell → slice_get cell.feeds upto ≡ Some feed → key ≡ waited (is_flop N.library cell.kind) upto feed → turn ≡ turn_at turns number
    → keys' ≡ keys ++ key ∷ [] → owners' ≡ owners ++ turn ∷ [] → AreWaits N order turns keys owners count upto → AreWaits N order turns keys' owners' count (upto + 1)
waits_more N order turns keys keys' owners owners' count upto number turn cell feed key stands live at key_is turn_is more one so_far = rw (more, one) (record {
  long = (let a = length-append owners (turn ∷ []) in let b = length-append keys (key ∷ []) in let long = so_far.long in omega arith);
  sound = λ k net is.
      elim (at_push keys key (Some net) k is) [
        | inl new ↦ (let w = waits_for (is_flop N.library cell.kind) upto feed net (sym key_is ∙ new.1) in
            let operand : slice_get cell.feeds upto ≡ Some (Net (record { 0 = net })) = at ∙ ap (λ (f : Feed). Some f) w.feed_is in
            record {
              reader = number;
              waits = record { cell = cell; place = upto; reads = record { live = live; operand = operand }; trigger = w.trigger };
              there = sym turn_is ∙ sym (own_owner k new.0);
            })
        | inr old ↦ (let r = so_far.sound k net old.1 in
            record { reader = r.reader; waits = r.waits; there = r.there ∙ sym (old_owner k old.0) })
      ];
  full = λ other net place waits there noted.
      elim noted [
        | inl early ↦ kept (turn_at turns other) net (so_far.full other net place waits there (inl early))
        | inr here ↦ elim (less_or_here waits.place here.1) [
          | inl before ↦ kept (turn_at turns other) net (so_far.full other net place waits there (inr (here.0, before)))
          | inr this ↦ new_key other net place waits there here.0 this
        ]
      ];
})
  where
    less_or_here : (k : ℕ) → k < upto + 1 → (k < upto) ⊎ (k ≡ upto)
    less_or_here k below = elim (eqb_tells k upto) [ inl same ↦ inr same.1 | inr apart ↦ inl (let ne = apart.1 in omega arith) ]

    own_owner : (k : ℕ) → k ≡ length keys → slice_index (owners ++ turn ∷ []) k ≡ turn
    own_owner k here =
        let long = so_far.long in
        let at_end : k ≡ length owners = omega arith in
        get_or_from_slice_get (owners ++ turn ∷ []) k turn 0 (rw at_end (last_push owners turn))

    old_owner : (k : ℕ) → k < length keys → slice_index (owners ++ turn ∷ []) k ≡ slice_index owners k
    old_owner k below = (let long = so_far.long in get_or_append_left owners (turn ∷ []) 0 k (omega arith))

    kept : (own net : ℕ) → HasKey keys owners net own → HasKey (keys ++ key ∷ []) (owners ++ turn ∷ []) net own
    kept own net h = record {
      place = h.place;
      is = before_push keys (key ∷ []) (Some net) h.place h.is;
      owner = old_owner h.place (slice_get_within keys h.place (Some net) h.is) ∙ h.owner;
    }

    new_key : (other net place : ℕ) (waits : WaitsOn N other net) → StandsAt order place other → place ≡ count → waits.place ≡ upto → HasKey (keys ++ key ∷ []) (owners ++ turn ∷ []) net (turn_at turns other)
    new_key other net place waits there here this =
        let there_here : StandsAt order count other = rw here at there in
        let same : other ≡ number = stands_same order count other number there_here stands in
        let cells : waits.cell ≡ cell = cell_at_once N other number waits.cell cell same waits.reads.live live in
        let operand : slice_get cell.feeds upto ≡ Some (Net (record { 0 = net })) = ap (λ (c : CellView). slice_get c.feeds upto) (sym cells) ∙ ap (slice_get waits.cell.feeds) (sym this) ∙ waits.reads.operand in
        let feeds : feed ≡ Net (record { 0 = net }) = some_same feed (Net (record { 0 = net })) _ at operand in
        let trigger : Triggers (is_flop N.library cell.kind) upto = rw (cells, this) at waits.trigger in
        let is : key ≡ Some net = key_is ∙ ap (waited (is_flop N.library cell.kind) upto) feeds ∙ trigger_waits (is_flop N.library cell.kind) upto (record { 0 = net }) trigger in
        record {
          place = length keys;
          is = last_push keys key ∙ ap (λ (k : Option ℕ). Some k) is;
          owner = own_owner (length keys) refl ∙ turn_is ∙ ap (turn_at turns) (sym same);
        }

pub no_waits : (N : NetlistView) (order : List CellId) (turns : List ℕ) → AreWaits N order turns [] [] 0 0
no_waits N order turns = record {
  long = refl;
  sound = λ k net is. absurd (let no : None ≡ Some (Some net) = is in cc);
  full = λ number net place waits there noted. absurd (elim noted [ inl early ↦ omega arith | inr here ↦ (let less = here.1 in omega arith) ]);
}

pub no_waits_in : (N : NetlistView) (order : List CellId) (turns : List ℕ) (keys : List (Option ℕ)) (owners : List ℕ) → keys ≡ [] → owners ≡ [] → AreWaits N order turns keys owners 0 0
no_waits_in N order turns keys owners no_keys no_owners = rw (no_keys, no_owners) (no_waits N order turns)

-- all operands of the cell
pub cell_waits : (N : NetlistView) (order : List CellId) (turns : List ℕ) (keys : List (Option ℕ)) (owners : List ℕ) (count upto number : ℕ) (cell : CellView) → StandsAt order count number → cell_at N number ≡ Some cell → length cell.feeds ≤ upto
    → AreWaits N order turns keys owners count upto → AreWaits N order turns keys owners (count + 1) 0
cell_waits N order turns keys owners count upto number cell stands live whole all = record {
  long = all.long;
  sound = all.sound;
  full = λ other net place waits there noted. all.full other net place waits there (was_noted other net place waits there noted);
}
  where
    was_noted : (other net place : ℕ) (waits : WaitsOn N other net) → StandsAt order place other → IsNoted (count + 1) 0 place waits.place → IsNoted count upto place waits.place
    was_noted other net place waits there (inr here) = absurd (let less = here.1 in omega arith)
    was_noted other net place waits there (inl below) =
        elim (eqb_tells place count) [
          | inl same ↦ inr (
            same.1,
            (let there_here : StandsAt order count other = rw same.1 at there in
                let one : other ≡ number = stands_same order count other number there_here stands in
                let cells : waits.cell ≡ cell = cell_at_once N other number waits.cell cell one waits.reads.live live in
                let within = slice_get_within waits.cell.feeds waits.place _ waits.reads.operand in
                let long : length waits.cell.feeds ≡ length cell.feeds = ap (λ (c : CellView). length c.feeds) cells in
                omega arith),
          )
          | inr apart ↦ inl (let ne = apart.1 in omega arith)
        ]

-- the operands of all cells
pub all_waits : (N : NetlistView) (order : List CellId) (turns : List ℕ) (keys : List (Option ℕ)) (owners : List ℕ) (count : ℕ) → length order ≤ count → AreWaits N order turns keys owners count 0 → AreWaits N order turns keys owners (length order) 0
all_waits N order turns keys owners count whole all = record {
  long = all.long;
  sound = all.sound;
  full = λ number net place waits there noted. all.full number net place waits there (inl (let within = slice_get_within order place _ there in omega arith));
}

-- what was looked up of a cell
pub flop_looked : (N : NetlistView) (number : ℕ) (cell : CellView) (flop : Option FlopKind) → cell_at N number ≡ Some cell → option_map (λ (c : CellView). flop_of N.library c.kind) (cell_at N number) ≡ Some flop → is_some flop ≡ is_flop N.library cell.kind
flop_looked N number cell flop live looked = (let e : flop_of N.library cell.kind ≡ flop = (let l = rw live at looked in cc) in ap (λ (o : Option FlopKind). is_some o) (sym e))

pub feed_looked : (N : NetlistView) (number place : ℕ) (cell : CellView) (feed : Feed) → cell_at N number ≡ Some cell → feed_at N number place ≡ Some feed → slice_get cell.feeds place ≡ Some feed
feed_looked N number place cell feed live looked = rw live at looked

pub long_looked : (N : NetlistView) (number : ℕ) (cell : CellView) (count : ℕ) → cell_at N number ≡ Some cell → option_map (λ (c : CellView). length c.feeds) (cell_at N number) ≡ Some count → length cell.feeds ≡ count
long_looked N number cell count live looked = (let e : Some (length cell.feeds) ≡ Some count = rw live at looked in cc)

-- one owner more
pub owner_more : (places owners readers new : List ℕ) (count owner : ℕ) → length readers ≡ count → owner ≡ slice_index owners (slice_index places count) → new ≡ readers ++ owner ∷ []
    → ((k : ℕ) → k < count → slice_index readers k ≡ slice_index owners (slice_index places k)) → (k : ℕ) → k < count + 1 → slice_index new k ≡ slice_index owners (slice_index places k)
owner_more places owners readers new count owner long is pushed each k below = rw pushed (elim (eqb_tells k count) [
  | inl same ↦ (let at_end : k ≡ length readers = same.1 ∙ sym long in
      get_or_from_slice_get (readers ++ owner ∷ []) k owner 0 (rw at_end (last_push readers owner)) ∙ is ∙ ap (λ (n : ℕ). slice_index owners (slice_index places n)) (sym same.1))
  | inr apart ↦ (let ne = apart.1 in get_or_append_left readers (owner ∷ []) 0 k (omega arith) ∙ each k (omega arith))
])

pub key_below : (N : NetlistView) (order : List CellId) (turns : List ℕ) (keys : List (Option ℕ)) (owners : List ℕ) (count upto place net : ℕ) → IsLaidOut N → AreWaits N order turns keys owners count upto → IsKey keys place net → net < length N.nets
key_below N order turns keys owners count upto place net laid waits is = (let r = waits.sound place net is in laid.operands r.reader r.waits.cell r.waits.place net r.waits.reads)

-- the readers of each net, by ranges
pub are_readers : (N : NetlistView) (order : List CellId) (turns : List ℕ) (keys : List (Option ℕ)) (owners starts places readers : List ℕ) (bound : ℕ) → IsLaidOut N → IsCellOrder N order → bound ≡ length N.nets
    → AreWaits N order turns keys owners (length order) 0 → AreRanges keys bound starts places → AreOwnersAt places owners readers → AreReaders N turns starts readers
are_readers N order turns keys owners starts places readers bound laid ordered long waits ranges owned = record {
  long = ranges.long ∙ ap (λ (n : ℕ). n + 1) long;
  within = λ net below. (let r = ranges.each net (rw long below) in let within = r.within in let l = owned.long in omega arith);
  rising = λ net below. (ranges.each net (rw long below)).rising;
  only = λ net k below range.
      (let r = ranges.each net (rw long below) in
      let to = range.to in let within = r.within in
      let h = waits.sound (slice_index places k) net (r.only k range.from range.to) in
      record { reader = h.reader; waits = h.waits; there = h.there ∙ sym (owned.each k (omega arith)) });
  each = λ net turn reader.
      (let w = reader.waits in
      let live = w.reads.live in
      let there = ordered.each reader.reader (rw live refl) in
      let inside = slice_get_within order there.0 _ there.1 in
      let below = laid.operands reader.reader w.cell w.place net w.reads in
      let key = waits.full reader.reader net there.0 w there.1 (inl inside) in
      let r = ranges.each net (rw long below) in
      let k = r.each key.place key.is in
      let within = r.within in
      let less = k.2 in
      (k.0, record { from = k.1; to = k.2 }, owned.each k.0 (omega arith) ∙ ap (slice_index owners) k.3 ∙ key.owner ∙ reader.there));
}
