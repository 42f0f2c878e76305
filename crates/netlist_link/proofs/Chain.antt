-- Parts that are appended one behind another keep a netlist well formed.
use Rattle.std.proofs.Common.{◌≡◌, ℕ, suc, ◌+◌, ◌-◌, ◌<◌, ◌≤◌, false, List, [], ◌∷◌, length, Some, IsTrue, refl, sym, ap, subst, ◌∙◌, arith, inl, inr}
use Rattle.std.specs.Prelude.{slice_get}
use Rattle.std.specs.List.{list_all}
use Rattle.std.proofs.lemmas.Bool.{cases_lt}
use Rattle.std.proofs.lemmas.List.Elements.{All-nil, All-cons}
use Rattle.std.proofs.lemmas.Option.{slice_get_within}
use Rattle.list_laws.proofs.Tests.{both_hold}
use Rattle.cell_library.specs.declared.listed.ListedCell.{ListedCell}
use Rattle.cell_library.specs.Gates.{is_three_state, is_flop}
use Rattle.netlist_model.specs.declared.Feed.{Feed}
use Rattle.netlist_model.specs.declared.Feed.TheVariants.{Net, Const}
use Rattle.netlist_model.specs.Below.{IsFeedBelow, AreFeedsBelow}
use Rattle.netlist_model.specs.Lists.{PortView, CellView, NetlistView, bit_net, cell_at, cell_count}
use Rattle.netlist_model.specs.Formed.{IsLaidOut, IsNumbered, IsWellFormed}
use Rattle.netlist_model.specs.Settle.{IsDrivenOnce}
use Rattle.netlist_model.specs.Ports.{DirectionHasBit}
use Rattle.netlist_arena.specs.Arena.{ArenaView}
use Rattle.netlist_arena.proofs.Laid.{All-slice_get}
use Rattle.gate_parts.specs.declared.Pin.{Pin}
use Rattle.gate_parts.specs.declared.Pin.TheVariants.{Own, Given}
use Rattle.gate_parts.specs.declared.Gate.{Gate}
use Rattle.gate_parts.specs.Parts.{feed_of, pins_of, cells_from, part_cells, takes_few, is_sound_pin, is_sound_gate}
use Rattle.gate_parts.specs.Levels.{LevelsNumber}
use Rattle.gate_parts.specs.Appended.{Appended}
use Rattle.gate_parts.specs.Laws.{AppendedGrows}
use Rattle.gate_parts.proofs.Steps.{appended_count}
use Rattle.netlist_link.specs.Readable.{CanBeRead, IsPure}
use Rattle.netlist_link.specs.Grown.{IsOneOf, AddsCells}
use Rattle.netlist_link.specs.DraftLawsTables.{CanBeGiven}
use Rattle.netlist_link.specs.Parts.{Part, parts_size, parts_cells, IsThere, IsHanded, AreHanded, IsGrown, PartsAreFormed}
use Rattle.netlist_link.proofs.Growth.{grown_formed, pure_stays_so, readable_stays_so}
use Rattle.netlist_link.proofs.Parts.{IsAppendedPart, adds_appended, appended_part, part_of, gate_of, output_of, own_net, given_at, pin_at, all_at, two_state_of, wires_of_part, own_readable, part_formed_by}
use Rattle.netlist_link.proofs.Split.{middle_of, middle_count, middle_nets, first_appended, rest_appended}

-- the laws that it stands on
pub record ChainLaws : Type 0 where
  pub grows : AppendedGrows
  pub number : LevelsNumber
  pub has : DirectionHasBit

-- what holds after some parts, of the netlist that was there at first
record Holds (N : NetlistView) (M : ArenaView) : Type 0 where
  laid : IsLaidOut M.lists
  formed : IsWellFormed M.lists
  more : length N.nets ≤ length M.lists.nets
  old_read : (net : ℕ) → CanBeRead N net → CanBeRead M.lists net
  old_pure : (net : ℕ) → IsPure N net → IsPure M.lists net
  own_read : (net : ℕ) → length N.nets ≤ net → net < length M.lists.nets → CanBeRead M.lists net

-- what is handed in is there
below_all : (nets : ℕ) (given : List Feed) → ((k net : ℕ) → slice_get given k ≡ Some (Net (record { 0 = net })) → net < nets) → AreFeedsBelow nets given
below_all nets [] h = All-nil (IsFeedBelow nets)
below_all nets (Net net ∷ feeds) h = All-cons (IsFeedBelow nets) (Net net) feeds (h 0 net.0 refl) (below_all nets feeds (λ k. h (suc k)))
below_all nets (Const b ∷ feeds) h = All-cons (IsFeedBelow nets) (Const b) feeds tt (below_all nets feeds (λ k. h (suc k)))

there_below : (N : NetlistView) (M : ArenaView) → Holds N M → (net : ℕ) → IsThere N (length M.lists.nets) net → net < length M.lists.nets
there_below N M h net (inl low) = let a = low.0 in let b = h.more in omega (arith, a, b)
there_below N M h net (inr own) = own.1

there_read : (N : NetlistView) (M : ArenaView) → Holds N M → (net : ℕ) → IsThere N (length M.lists.nets) net → CanBeRead M.lists net
there_read N M h net (inl low) = h.old_read net low.1
there_read N M h net (inr own) = h.own_read net own.0 own.1

can_be_given : (N : NetlistView) (M : ArenaView) (p : Part) → Holds N M → IsHanded N (length M.lists.nets) p → CanBeGiven M.lists p.gates p.given
can_be_given N M p h handed = record {
  below = below_all (length M.lists.nets) p.given (λ k net at. there_below N M h net (handed.read k net at));
  read = λ k net at. there_read N M h net (handed.read k net at);
  control = λ k net control at. h.old_pure net (handed.control k net control at);
}

-- The new netlist is laid out.

pin_low : (first count : ℕ) (given : List Feed) (pin : Pin) (net : ℕ) → AreFeedsBelow first given → (j : ℕ) → pin ≡ Own j → j < count → feed_of first given pin ≡ Net (record { 0 = net }) → net < first + count
pin_low first count given pin net below j is low e =
    let at : first + j ≡ net = own_net first j net (ap (feed_of first given) (sym is) ∙ e) in omega (arith, at, low)

operand_low : (old new : ArenaView) (gates : List Gate) (levels : List ℕ) (given : List Feed) → IsAppendedPart old new gates levels given → (cell : CellView) → IsOneOf (part_of old gates given) cell
    → (place net : ℕ) → slice_get cell.feeds place ≡ Some (Net (record { 0 = net })) → net < length old.lists.nets + length gates
operand_low old new gates levels given c cell of place net at =
    let g = gate_of old gates given cell of in
    let pins : List Pin = pins_of g.gate.pins in
    let sound = both_hold (takes_few g.gate.kind (length pins)) (list_all (is_sound_pin (length gates) (length given)) pins)
    (all_at (is_sound_gate (length gates) (length given)) gates of.place g.gate c.table.sound g.at) in
    let feeds = ap (λ (x : CellView). slice_get x.feeds place) g.same ∙ at in
    let pin = pin_at (length old.lists.nets) given pins place (Net (record { 0 = net })) feeds in
    by pin.pin (all_at (is_sound_pin (length gates) (length given)) pins place pin.pin sound.1 pin.at) pin.same
  where
    by : (pin : Pin) → IsTrue (is_sound_pin (length gates) (length given) pin) → feed_of (length old.lists.nets) given pin ≡ Net (record { 0 = net }) → net < length old.lists.nets + length gates
    by (Own j) s e =
        let low : j < length gates = grind (arith, s) in
        let at : length old.lists.nets + j ≡ net = own_net (length old.lists.nets) j net e in omega (arith, at, low)
    by (Given j) s e =
        let low : net < length old.lists.nets = All-slice_get (IsFeedBelow (length old.lists.nets)) given j (Net (record { 0 = net })) c.can.below (given_at given j (record { 0 = net }) e) in
        omega (arith, low)

laid_part : (old new : ArenaView) (gates : List Gate) (levels : List ℕ) (given : List Feed) → IsAppendedPart old new gates levels given → IsLaidOut new.lists
laid_part old new gates levels given c =
    let many : length new.lists.nets ≡ length old.lists.nets + length gates = appended_count old new (length gates) (part_of old gates given) c.added in
    let ports : new.lists.ports ≡ old.lists.ports = c.added.ports in
    record {
      widths = λ p port at. c.laid.widths p port (sym (ap (λ (ps : List PortView). slice_get ps p) ports) ∙ at);
      port_nets = λ p bit net at.
          let low : net.0 < length old.lists.nets = c.laid.port_nets p bit net (subst (λ (ps : List PortView). bit_net (record old.lists { ports = ps }) p bit ≡ Some net) ports at) in omega (arith, low, many);
      operands = λ i cell place net reads. elim (c.adds.either i cell reads.live) [
        | inl before ↦ (let low : net < length old.lists.nets = c.laid.operands i cell place net (record { live = before; operand = reads.operand }) in omega (arith, low, many))
        | inr of ↦ (let low = operand_low old new gates levels given c cell of place net reads.operand in omega (arith, low, many))
      ];
      outputs = λ i cell net d. elim (c.adds.either i cell d.live) [
        | inl before ↦ (let low : net < length old.lists.nets = c.laid.outputs i cell net (record { live = before; output = d.output }) in omega (arith, low, many))
        | inr of ↦ (let e = output_of old gates given cell of net d.output in
            let g = gate_of old gates given cell of in
            let low = slice_get_within gates of.place g.gate g.at in omega (arith, e, low, many))
      ];
    }

-- One part more.

one_more : ChainLaws → (N : NetlistView) (M M' : ArenaView) (p : Part) → Holds N M → IsDrivenOnce M'.lists
    → Appended M M' (length p.gates) (part_cells p.gates p.given (length M.lists.nets) (cell_count M.lists)) → IsHanded N (length M.lists.nets) p → Holds N M'
one_more laws N M M' p h once added handed =
    let part : List CellView = part_of M p.gates p.given in
    let c : IsAppendedPart M M' p.gates p.levels p.given
    = appended_part laws.grows laws.has M M' p.gates p.levels p.given h.laid h.formed once added handed.table (can_be_given N M p h handed) in
    let many : length M'.lists.nets ≡ length M.lists.nets + length p.gates = appended_count M M' (length p.gates) part added in
    let two : (cell : CellView) → IsOneOf part cell → is_three_state cell.kind ≡ false = two_state_of M M' p.gates p.levels p.given c in
    let more = h.more in
    record {
      laid = laid_part M M' p.gates p.levels p.given c;
      formed = part_formed_by laws.number M M' p.gates p.levels p.given c;
      more = omega (arith, more, many);
      old_read = λ net can. readable_stays_so M.lists M'.lists part net c.adds two (h.old_read net can);
      old_pure = λ net pure. pure_stays_so M.lists M'.lists part net h.formed c.adds once (wires_of_part M M' p.gates p.levels p.given c) (h.old_pure net pure);
      own_read = λ net from low. elim (cases_lt net (length M.lists.nets)) [
        | inl before ↦ readable_stays_so M.lists M'.lists part net c.adds two (h.own_read net from before)
        | inr past ↦ (let j : ℕ = net - length M.lists.nets in
            let e : length M.lists.nets + j ≡ net = omega (arith, past) in
            rw e at (own_readable M M' p.gates p.levels p.given c j (omega (arith, past, low, many))))
      ];
    }

-- Nothing more.

none_of : (cell : CellView) → IsOneOf [] cell → ⊥
none_of cell of = no of.place of.at
  where
    no : (k : ℕ) → slice_get [] k ≡ Some cell → ⊥
    no k e = cc

at_last : ChainLaws → (N : NetlistView) (M new : ArenaView) → Holds N M → IsDrivenOnce new.lists → Appended M new 0 [] → IsGrown new.lists (length N.nets)
at_last laws N M new h once added =
    let adds : AddsCells M.lists new.lists [] = adds_appended laws.grows M new 0 [] added in
    let before : (i : ℕ) (cell : CellView) → cell_at new.lists i ≡ Some cell → cell_at M.lists i ≡ Some cell
    = λ i cell live. elim (adds.either i cell live) [ inl b ↦ b | inr of ↦ absurd (none_of cell of) ] in
    let rank : ℕ → ℕ = h.formed.ordered.0 in
    let numbered : IsNumbered new.lists rank = record {
      gates = λ i cell net d gate.
          h.formed.ordered.1.gates i cell net (record { live = before i cell d.live; output = d.output }) (ap (λ (l : List ListedCell). is_flop l cell.kind) (sym adds.library) ∙ gate);
    } in
    let many : length new.lists.nets ≡ length M.lists.nets + 0 = appended_count M new 0 [] added in
    record {
      formed = grown_formed M.lists new.lists [] rank h.formed adds once numbered (λ cell of. absurd (none_of cell of));
      read = λ net from low. readable_stays_so M.lists new.lists [] net adds (λ cell of. absurd (none_of cell of)) (h.own_read net from (omega (arith, low, many)));
    }

-- All of them.

cells_counted : (first : ℕ) (given : List Feed) (number net : ℕ) (gates : List Gate) → length (cells_from first given number net gates) ≡ length gates
cells_counted first given number net [] = refl
cells_counted first given number net (gate ∷ gates) = ap (λ (n : ℕ). suc n) (cells_counted first given (suc number) (suc net) gates)

chain : ChainLaws → (N : NetlistView) (M new : ArenaView) (ps : List Part) → Holds N M → IsDrivenOnce new.lists
    → Appended M new (parts_size ps) (parts_cells (length M.lists.nets) (cell_count M.lists) ps) → AreHanded N (length M.lists.nets) ps → IsGrown new.lists (length N.nets)
chain laws N M new [] h once added handed = at_last laws N M new h once added
chain laws N M new (p ∷ ps) h once added handed =
    let n : ℕ = length p.gates in
    let first : ℕ = length M.lists.nets in
    let number : ℕ = cell_count M.lists in
    let part : List CellView = part_cells p.gates p.given first number in
    let rest : List CellView = parts_cells (first + n) (number + n) ps in
    let M' : ArenaView = middle_of M new n (parts_size ps) part rest in
    let a : Appended M M' n part = first_appended M new n (parts_size ps) part rest added in
    let b : Appended M' new (parts_size ps) rest = rest_appended M new n (parts_size ps) part rest added in
    let grown = laws.grows M' new (parts_size ps) rest b in
    let once' : IsDrivenOnce M'.lists
    = λ i j cell other net d e. once i j cell other net (record { live = grown.cells i cell d.live; output = d.output }) (record { live = grown.cells j other e.live; output = e.output }) in
    let nets : length M'.lists.nets ≡ first + n = middle_nets M new n (parts_size ps) part rest in
    let counted : length part ≡ n = cells_counted first p.given number first p.gates in
    let count : cell_count M'.lists ≡ number + n = middle_count M new n (parts_size ps) part rest added ∙ ap (λ (k : ℕ). number + k) counted in
    let P : ℕ → ℕ → Type 0 = λ f k. Appended M' new (parts_size ps) (parts_cells f k ps) in
    let b' : P (length M'.lists.nets) (cell_count M'.lists) = subst (λ (f : ℕ). P f (cell_count M'.lists)) (sym nets) (subst (λ (k : ℕ). P (first + n) k) (sym count) b) in
    chain laws N M' new ps (one_more laws N M M' p h once' a handed.0) once b' (subst (λ (at : ℕ). AreHanded N at ps) (sym nets) handed.1)

pub parts_formed : ChainLaws → PartsAreFormed
parts_formed laws old new ps laid formed once added handed =
    chain laws old.lists old new ps
    (record {
      laid = laid;
      formed = formed;
      more = omega arith;
      old_read = λ net can. can;
      old_pure = λ net pure. pure;
      own_read = λ net from low. absurd (omega (arith, from, low));
    })
    once added handed
