-- The table of the nets of input and inout bits.
use Rattle.std.proofs.Common.{◌≡◌, ℕ, ◌+◌, ◌<◌, ◌⊎◌, inl, inr, Bool, true, false, List, [], length, replicate, refl, ap, sym, ◌∙◌, Option, Some, None, arith, length-set}
use Rattle.std.specs.Prelude.{slice_get, slice_set, option_and_then}
use Rattle.std.specs.Option.{option_map}
use Rattle.std.proofs.lemmas.List.{length-replicate}
use Rattle.std.proofs.lemmas.Bool.{cases_eq, cases_lt}
use Rattle.std.proofs.lemmas.Option.{same_Some, slice_get_within, option_and_then_some}
use Rattle.list_laws.proofs.Lists.{slice_get_there, slice_get-set_same, slice_get-set_other}
use Rattle.netlist_model.specs.declared.Dir.TheVariants.{Output}
use Rattle.netlist_model.specs.declared.NetId.{NetId}
use Rattle.netlist_model.specs.declared.PinBit.{PinBit}
use Rattle.netlist_model.specs.declared.Range.{Range}
use Rattle.netlist_model.specs.Lists.{PortView, NetlistView}
use Rattle.netlist_model.specs.Formed.{IsLaidOut, width_of}
use Rattle.netlist_model.specs.Settled.{follows_pin}
use Rattle.netlist_link.specs.Linked.{LinkedView}
use Rattle.scan_vectors.specs.declared.lines.Line.{Line}
use Rattle.scan_vectors.specs.Pins.{side_at, net_of, TakesValue}
use Rattle.scan_vectors.specs.Starts.{IsPortBefore, IsBitBefore, AreMarked, IsAfter}
use Rattle.scan_vectors.proofs.Flags.{get_replicate}

nothing : (k : ℕ) (line : Line) → slice_get [] k ≡ Some line → ⊥
nothing k line at = cc

-- none was looked at
pub marked_none : (N : NetlistView) (n : ℕ) → n ≡ length N.nets → AreMarked N (IsPortBefore 0) (replicate n false)
marked_none N n is = record {
  count = length-replicate n false ∙ is;
  each = λ pin net before takes there. absurd (omega arith);
  only = λ net at. absurd (get_replicate n net at);
}

-- one net more
pub marked_next : (N : NetlistView) (IsDone IsNext : PinBit → Type 0) (flags : List Bool) (pin : PinBit) (net : NetId)
    → ((other : PinBit) → IsNext other → IsDone other ⊎ (other ≡ pin)) → TakesValue N pin → net_of N pin ≡ Some net → net.0 < length N.nets
    → AreMarked N IsDone flags → AreMarked N IsNext (slice_set flags net.0 true)
marked_next N IsDone IsNext flags pin net split takes there below marked = record {
  count = length-set flags net.0 true ∙ marked.count;
  each = λ other n next other_takes other_there.
      let count = marked.count in
      elim (cases_eq n.0 net.0) [
        | inl same ↦ ap (slice_get (slice_set flags net.0 true)) same ∙ slice_get-set_same flags net.0 true (omega arith)
        | inr apart ↦ slice_get-set_other flags net.0 n.0 true apart ∙ elim (split other next) [
          | inl done ↦ marked.each other n done other_takes other_there
          | inr is ↦ absurd (apart (ap (λ (m : NetId). m.0) (same_Some n net (sym other_there ∙ ap (net_of N) is ∙ there))))
        ]
      ];
  only = λ k at. elim (cases_eq k net.0) [
    | inl same ↦ record { pin = pin; takes = takes; net_is = there ∙ ap (λ (n : ℕ). Some (record { 0 = n })) (sym same) }
    | inr apart ↦ marked.only k (sym (slice_get-set_other flags net.0 k true apart) ∙ at)
  ];
}

-- no bit more
pub marked_same : (N : NetlistView) (IsDone IsNext : PinBit → Type 0) (flags : List Bool) → ((pin : PinBit) → TakesValue N pin → IsNext pin → IsDone pin)
    → AreMarked N IsDone flags → AreMarked N IsNext flags
marked_same N IsDone IsNext flags still marked = record {
  count = marked.count;
  each = λ pin net next takes there. marked.each pin net (still pin takes next) takes there;
  only = marked.only;
}

pub no_bits : (N : NetlistView) (port : ℕ) (flags : List Bool) → AreMarked N (IsPortBefore port) flags → AreMarked N (IsBitBefore port 0) flags
no_bits N port flags = marked_same N (IsPortBefore port) (IsBitBefore port 0) flags (λ pin takes before. elim before [ inl low ↦ low | inr here ↦ absurd (omega (arith, here.1)) ])

-- the bit with this number is one of the first so many, and the next
pub next_bit : (port bit : ℕ) (other : PinBit) → IsBitBefore port (bit + 1) other → IsBitBefore port bit other ⊎ (other ≡ record { port = record { 0 = port }; bit = bit })
next_bit port bit other (inl low) = inl (inl low)
next_bit port bit other (inr here) = elim (cases_lt other.bit bit) [
  | inl low ↦ inl (inr (here.0, low))
  | inr high ↦
      let at : other.bit ≡ bit = omega (arith, here.1) in
      inr (ap (λ (p : ℕ). record { port = record { 0 = p }; bit = other.bit }) here.0 ∙ ap (λ (b : ℕ). record { port = record { 0 = port }; bit = b }) at)
]

-- the range of the port with this number
pub record HasRange (N : NetlistView) (number : ℕ) (range : Option Range) : Type 0 where
  pub port : PortView
  pub there : slice_get N.ports number ≡ Some port
  pub range_is : port.range ≡ range

pub has_range : (N : NetlistView) (number : ℕ) (range : Option Range) → option_map (λ (p : PortView). p.range) (slice_get N.ports number) ≡ Some range → HasRange N number range
has_range N number range e = go (slice_get N.ports number) refl e
  where
    go : (o : Option PortView) → slice_get N.ports number ≡ o → option_map (λ (p : PortView). p.range) o ≡ Some range → HasRange N number range
    go None at is = absurd (cc)
    go (Some port) at is = record { port = port; there = at; range_is = same_Some port.range range is }

-- a bit of the port is one of its width
bit_within : (N : NetlistView) (number : ℕ) (range : Option Range) (pin : PinBit) → IsLaidOut N → HasRange N number range → TakesValue N pin → pin.port.0 ≡ number → pin.bit < width_of range
bit_within N number range pin laid has takes at =
    option_and_then_some (λ (p : PortView). slice_get p.nets pin.bit) (slice_get N.ports pin.port.0) takes.net takes.there (λ port here net_at.
    let within = slice_get_within port.nets pin.bit takes.net net_at in
    let same : port ≡ has.port = same_Some port has.port (sym here ∙ ap (slice_get N.ports) at ∙ has.there) in
    let wide : length port.nets ≡ width_of range = laid.widths pin.port.0 port here ∙ ap width_of (ap (λ (p : PortView). p.range) same ∙ has.range_is) in
    omega arith)

-- each bit of its width has a net
pub bit_there : (N : NetlistView) (number : ℕ) (range : Option Range) (bit : ℕ) → IsLaidOut N → HasRange N number range → bit < width_of range
    → (net : NetId) × (net_of N (record { port = record { 0 = number }; bit = bit }) ≡ Some net)
bit_there N number range bit laid has less =
    let wide : length has.port.nets ≡ width_of range = laid.widths number has.port has.there ∙ ap width_of has.range_is in
    let found = slice_get_there has.port.nets bit (omega arith) in
    (found.0, ap (option_and_then (λ (p : PortView). slice_get p.nets bit)) has.there ∙ found.1)

-- the bit takes a value where its port does
pub bit_takes : (N : NetlistView) (number bit : ℕ) (net : NetId) → follows_pin (side_at N number) ≡ true → net_of N (record { port = record { 0 = number }; bit = bit }) ≡ Some net
    → TakesValue N (record { port = record { 0 = number }; bit = bit })
bit_takes N number bit net side there = record { net = net; there = there; side = side }

-- all bits of the port were looked at
pub marked_port : (N : NetlistView) (number : ℕ) (range : Option Range) (flags : List Bool) → IsLaidOut N → HasRange N number range
    → AreMarked N (IsBitBefore number (width_of range)) flags → AreMarked N (IsPortBefore (number + 1)) flags
marked_port N number range flags laid has =
    marked_same N (IsBitBefore number (width_of range)) (IsPortBefore (number + 1)) flags (λ pin takes next. elim (cases_lt pin.port.0 number) [
      | inl low ↦ inl low
      | inr high ↦ let at : pin.port.0 ≡ number = omega arith in inr (at, bit_within N number range pin laid has takes at)
    ])

-- an output's bits take no value
pub marked_output : (N : NetlistView) (number : ℕ) (flags : List Bool) → side_at N number ≡ Some Output → AreMarked N (IsPortBefore number) flags → AreMarked N (IsPortBefore (number + 1)) flags
marked_output N number flags side =
    marked_same N (IsPortBefore number) (IsPortBefore (number + 1)) flags (λ pin takes next. elim (cases_lt pin.port.0 number) [
      | inl low ↦ low
      | inr high ↦
          let at : pin.port.0 ≡ number = omega arith in
          let no : false ≡ true = ap follows_pin (sym side) ∙ ap (λ (p : ℕ). follows_pin (side_at N p)) (sym at) ∙ takes.side in
          absurd (cc)
    ])

-- no line came yet
pub after_none : (L : LinkedView) (flags : List Bool) → AreMarked L.arena.lists (IsPortBefore (length L.arena.lists.ports)) flags → IsAfter L [] flags
after_none L flags marked = record {
  wanted = record {
    count = marked.count;
    each = λ pin net takes there.
        option_and_then_some (λ (p : PortView). slice_get p.nets pin.bit) (slice_get L.arena.lists.ports pin.port.0) net there (λ port here net_at.
        inl (marked.each pin net (slice_get_within L.arena.lists.ports pin.port.0 port here) takes there, λ has. nothing has.place has.line has.there));
    only = marked.only;
  };
  begun = λ has. absurd (nothing has.place has.line has.there);
}
