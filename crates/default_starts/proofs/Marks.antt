-- The flags of the bits that starts name, line by line.
use Rattle.std.proofs.Common.{◌≡◌, subst, ℕ, ◌<◌, ◌⊎◌, inl, inr, Bool, true, false, List, [], ◌∷◌, ◌++◌, length, replicate, refl, ap, sym, ◌∙◌, Some, arith, length-set}
use Rattle.std.specs.Prelude.{slice_get, slice_set, IsSome}
use Rattle.std.proofs.lemmas.Bool.{cases_eq}
use Rattle.std.proofs.lemmas.List.{length-replicate}
use Rattle.std.proofs.lemmas.Option.{same_Some}
use Rattle.list_laws.proofs.Lists.{last_push, slice_get-set_same, slice_get-set_other}
use Rattle.netlist_model.specs.declared.NetId.{NetId}
use Rattle.netlist_model.specs.declared.PinBit.{PinBit}
use Rattle.netlist_model.specs.Lists.{NetlistView}
use Rattle.netlist_model.specs.Formed.{IsWellFormed}
use Rattle.netlist_link.specs.Linked.{LinkedView}
use Rattle.scan_vectors.specs.declared.lines.Act.TheVariants.{Start}
use Rattle.scan_vectors.specs.declared.lines.Line.{Line}
use Rattle.scan_vectors.specs.Grammar.{act_of, pin_of}
use Rattle.scan_vectors.specs.Pins.{Names, net_of, HasStart}
use Rattle.scan_vectors.proofs.Flags.{get_push, get_push_left, get_replicate}
use Rattle.scan_vectors.proofs.Named.{IsThere, bit_alone}
use Rattle.default_starts.specs.Found.{AreStarted}

nothing : (k : ℕ) (line : Line) → slice_get [] k ≡ Some line → ⊥
nothing k line at = cc

-- starts among the lines with one more

pub start_before : (L : LinkedView) (before : List Line) (line : Line) (pin : PinBit) → HasStart L before pin → HasStart L (before ++ line ∷ []) pin
start_before L before line pin has = record {
  place = has.place;
  line = has.line;
  there = get_push_left before line has.place has.line has.there;
  start = has.start;
  named = has.named;
}

start_here : (L : LinkedView) (before : List Line) (line : Line) (pin : PinBit) → act_of line ≡ Start → Names L (pin_of line) pin → HasStart L (before ++ line ∷ []) pin
start_here L before line pin start named = record { place = length before; line = line; there = last_push before line; start = start; named = named }

start_split : (L : LinkedView) (before : List Line) (line : Line) (pin : PinBit) → HasStart L (before ++ line ∷ []) pin
    → HasStart L before pin ⊎ ((act_of line ≡ Start) × Names L (pin_of line) pin)
start_split L before line pin has = elim (get_push before line has.place has.line has.there) [
  | inl there ↦ inl (record { place = has.place; line = has.line; there = there; start = has.start; named = has.named })
  | inr last ↦
      let same : line ≡ has.line = same_Some line has.line last.1 in
      let P : Line → Type 0 = λ l. Names L (pin_of l) pin in
      inr (ap act_of same ∙ has.start, subst P (sym same) has.named)
]

-- no line came yet
pub started_none : (L : LinkedView) (n : ℕ) → n ≡ length L.arena.lists.nets → AreStarted L [] (replicate n false)
started_none L n is = record {
  count = length-replicate n false ∙ is;
  each = λ pin net there. (λ at. absurd (get_replicate n net.0 at), λ has. absurd (nothing has.place has.line has.there));
}

-- the next line starts no bit
pub started_same : (L : LinkedView) (before : List Line) (line : Line) (flags : List Bool) → ((pin : PinBit) → act_of line ≡ Start → Names L (pin_of line) pin → ⊥)
    → AreStarted L before flags → AreStarted L (before ++ line ∷ []) flags
started_same L before line flags none are = record {
  count = are.count;
  each = λ pin net there. (
    λ at. start_before L before line pin ((are.each pin net there).0 at),
    λ has. elim (start_split L before line pin has) [
      | inl earlier ↦ (are.each pin net there).1 earlier
      | inr here ↦ absurd (none pin here.0 here.1)
    ],
  );
}

-- it starts this bit
pub started_next : (L : LinkedView) (before : List Line) (line : Line) (flags : List Bool) (bit : PinBit) (at : NetId) → IsWellFormed L.arena.lists → act_of line ≡ Start
    → Names L (pin_of line) bit → ((pin : PinBit) → Names L (pin_of line) pin → pin ≡ bit) → net_of L.arena.lists bit ≡ Some at → at.0 < length L.arena.lists.nets
    → AreStarted L before flags → AreStarted L (before ++ line ∷ []) (slice_set flags at.0 true)
started_next L before line flags bit at formed start named only at_is below are = record {
  count = length-set flags at.0 true ∙ are.count;
  each = λ pin net there. elim (cases_eq net.0 at.0) [
    | inl same ↦
        let is : pin ≡ bit = bit_alone L.arena.lists bit pin at formed at_is (there ∙ ap (λ (n : ℕ). Some (record { 0 = n })) same) in
        let P : PinBit → Type 0 = Names L (pin_of line) in
        let count = are.count in (
          λ set. start_here L before line pin start (subst P (sym is) named),
          λ has. ap (slice_get (slice_set flags at.0 true)) same ∙ slice_get-set_same flags at.0 true (omega arith),
        )
    | inr apart ↦ (
      λ set. start_before L before line pin ((are.each pin net there).0 (sym (slice_get-set_other flags at.0 net.0 true apart) ∙ set)),
      λ has. slice_get-set_other flags at.0 net.0 true apart ∙ elim (start_split L before line pin has) [
        | inl earlier ↦ (are.each pin net there).1 earlier
        | inr here ↦ absurd (apart (ap (λ (n : NetId). n.0) (same_Some net at (sym there ∙ ap (net_of L.arena.lists) (only pin here.1) ∙ at_is))))
      ],
    )
  ];
}

-- a bit that is there has a net
pub is_there : (N : NetlistView) (pin : PinBit) → IsThere N pin → IsSome (net_of N pin)
is_there N pin there = subst IsSome (sym there.net_is) refl
