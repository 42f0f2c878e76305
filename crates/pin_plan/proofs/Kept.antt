-- What is kept of the bits that pin lines name.
use Rattle.std.proofs.Common.{◌≡◌, ℕ, zero, suc, ◌+◌, ◌<◌, ◌≤◌, Bool, List, [], ◌∷◌, ◌++◌, length, map, take, refl, ap, sym, ◌∙◌, arith, Option, Some, None, IsTrue, subst}
use Rattle.std.specs.Prelude.{slice_get, IsSome, ◌↔◌}
use Rattle.std.specs.Option.{option_map}
use Rattle.list_laws.proofs.Lists.{slice_get_there, taken_more, map_push}
use Rattle.netlist_model.specs.declared.NetId.{NetId}
use Rattle.netlist_model.specs.declared.Dir.{Dir}
use Rattle.netlist_model.specs.declared.PinBit.{PinBit}
use Rattle.netlist_model.specs.Lists.{PortView, NetlistView, bit_net}
use Rattle.netlist_model.specs.Settled.{driver_of}
use Rattle.netlist_model.specs.Cones.{IsClockPort, IsControlPort}
use Rattle.netlist_model.specs.Formed.{IsLaidOut, width_of}
use Rattle.netlist_model.specs.declared.Range.{Range}
use Rattle.netlist_link.specs.Linked.{LinkedView}
use Rattle.netlist_link.specs.PinWords.{IsPinWord, scalar, vector}
use Rattle.plan_texts.specs.declared.plan.PinLine.{PinLine}
use Rattle.plan_fitting.specs.declared.fault.FitFault.{FitFault}
use Rattle.plan_fitting.specs.declared.fault.FitFault.TheVariants as fault
use Rattle.plan_fitting.specs.Pins.{PinSeen, NamesBit, IsSeen, AreSeen}
use Rattle.plan_fitting.specs.Rows.{Driver, three_state}
use Rattle.plan_fitting.proofs.Seen.{and_seen}
use Rattle.pin_plan.specs.Seen.{cell_of, plain, IsPinOf, IsPinOfLine, ArePinsOf, IsLineFault, IsPortFault}

-- A bit.

bit_there : (N : NetlistView) (number bit : ℕ) (port : PortView) (range : Option Range) → IsLaidOut N → slice_get N.ports number ≡ Some port → port.range ≡ range → bit < width_of range → IsSome (bit_net N number bit)
bit_there N number bit port range laid there is less =
    let wide = laid.widths number port there in
    let same = ap width_of is in
    let some = slice_get_there port.nets bit (omega (arith, wide, same, less)) in
    rw there (rw some.1 refl)

-- a word names a bit that is there
pub named_there : (table : List (List ℕ)) (N : NetlistView) (word : List ℕ) (pin : PinBit) → IsLaidOut N → IsPinWord table N word pin → IsSome (bit_net N pin.port.0 pin.bit)
named_there table N word _ laid (scalar {number} s) = bit_there N number 0 s.port None laid s.named.there s.scalar (omega arith)
named_there table N word _ laid (vector {number} {bit} unnamed w) = let v = w.of.indexed in bit_there N number bit v.port (Some v.range) laid v.there v.vector v.at.within

abbrev pub kept_with : PinBit → NetId → Dir → Bool → Bool → Option Driver → PinSeen
kept_with pin net side clock control driver = record { pin = pin; net = net; side = side; clock = clock; control = control; driver = option_map cell_of driver }

pub pin_kept : (L : LinkedView) (pin : PinBit) (net : NetId) (side : Dir) (clock control : Bool) (driver : Option Driver) → bit_net L.arena.lists pin.port.0 pin.bit ≡ Some net
    → option_map (λ (found : PortView). found.dir) (slice_get L.arena.lists.ports pin.port.0) ≡ Some side
    → (IsTrue clock ↔ IsClockPort L.arena.lists net.0) → (IsTrue control ↔ IsControlPort L.arena.lists net.0) → driver ≡ three_state (driver_of L.arena.lists.cells net.0)
    → IsPinOf L pin (kept_with pin net side clock control driver)
pin_kept L pin net side clock control driver at sided clocks controls is = λ word named. by word named (slice_get L.arena.lists.ports pin.port.0) refl
  where
    by : (word : List ℕ) → NamesBit L word pin → (o : Option PortView) → slice_get L.arena.lists.ports pin.port.0 ≡ o
        → (seen : PinSeen) × IsSeen L word seen × (kept_with pin net side clock control driver ≡ plain seen)
    by word named None e = let no : None ≡ Some side = rw e at sided in absurd (cc)
    by word named (Some port) e =
        let side_is : port.dir ≡ side = let s : Some port.dir ≡ Some side = rw e at sided in cc in
        let net_is : slice_get port.nets pin.bit ≡ Some net = rw e at at in (
          record { pin = pin; net = net; side = side; clock = clock; control = control; driver = driver_of L.arena.lists.cells net.0 },
          record { named = named; port = port; there = e; side = sym side_is; net = net_is; clock = clocks; control = controls; driver = refl },
          ap (kept_with pin net side clock control) is,
        )

-- All lines.

tail : (L : LinkedView) (line : PinLine) (lines : List PinLine) (one : PinSeen) (seen : List PinSeen) → AreSeen L (line ∷ lines) (one ∷ seen) → AreSeen L lines seen
tail L line lines one seen all = record { count = let c = all.count in omega (arith, c); each = λ place. all.each (suc place) }

seen_more : (L : LinkedView) (lines : List PinLine) (line : PinLine) (seen : List PinSeen) (one : PinSeen) → AreSeen L lines seen → IsSeen L line.port one
    → AreSeen L (lines ++ line ∷ []) (seen ++ one ∷ [])
seen_more L [] line [] one all last = and_seen L line [] one [] last all
seen_more L [] line (s ∷ seen) one all last = let c = all.count in absurd (omega (arith, c))
seen_more L (l ∷ lines) line [] one all last = let c = all.count in absurd (omega (arith, c))
seen_more L (l ∷ lines) line (s ∷ seen) one all last = and_seen L l (lines ++ line ∷ []) s (seen ++ one ∷ []) (all.each 0 l s refl refl) (seen_more L lines line seen one (tail L l lines s seen all) last)

pub kept_more : (L : LinkedView) (lines : List PinLine) (i : ℕ) (line : PinLine) (one : PinSeen) (kept new : List PinSeen) → slice_get lines i ≡ Some line → ArePinsOf L (take i lines) kept
    → IsPinOfLine L line one → new ≡ kept ++ one ∷ [] → ArePinsOf L (take (i + 1) lines) new
kept_more L lines i line one kept new at so_far next grown =
    let longer : take i lines ++ line ∷ [] ≡ take (i + 1) lines = taken_more lines i line (take i lines) (take i lines ++ line ∷ []) at refl refl in
    subst (λ (ls : List PinLine). ArePinsOf L ls new) longer (
      so_far.0 ++ next.0 ∷ [],
      seen_more L (take i lines) line so_far.0 next.0 so_far.1 next.1,
      grown ∙ ap (λ (k : List PinSeen). k ++ one ∷ []) so_far.2 ∙ ap (λ (o : PinSeen). map plain so_far.0 ++ o ∷ []) next.2 ∙ sym (map_push plain so_far.0 next.0),
    )

-- each of the lines before names a bit
named_before : (L : LinkedView) (lines : List PinLine) (i k : ℕ) (other : PinLine) (kept : List PinSeen) → ArePinsOf L (take i lines) kept → k < i → slice_get lines k ≡ Some other
    → (pin : PinBit) × NamesBit L other.port pin
named_before L lines i k other kept so_far less at =
    let there = in_front lines i k other less at in
    let same = so_far.1.count in
    let one = slice_get_there so_far.0 k (omega (arith, same, inside (take i lines) k other there)) in
    (one.0.pin, (so_far.1.each k other one.0 there one.1).named)
  where
    in_front : (ls : List PinLine) (n m : ℕ) (l : PinLine) → m < n → slice_get ls m ≡ Some l → slice_get (take n ls) m ≡ Some l
    in_front [] n m l h e = absurd (cc)
    in_front (x ∷ ls) zero m l h e = absurd (omega arith)
    in_front (x ∷ ls) (suc n) zero l h e = e
    in_front (x ∷ ls) (suc n) (suc m) l h e = in_front ls n m l (omega arith) e

    inside : (ls : List PinLine) (m : ℕ) (l : PinLine) → slice_get ls m ≡ Some l → m < length ls
    inside [] m l e = absurd (cc)
    inside (x ∷ ls) zero l e = omega arith
    inside (x ∷ ls) (suc m) l e = let more = inside ls m l e in omega arith

-- the first line that names none
pub first_unnamed : (L : LinkedView) (lines : List PinLine) (i : ℕ) (line : PinLine) (kept : List PinSeen) (f : FitFault) → slice_get lines i ≡ Some line → ArePinsOf L (take i lines) kept
    → IsLineFault L line f → IsPortFault L lines f
first_unnamed L lines i line kept (fault.PlanPort word) at so_far is =
    record { place = i; line = line; there = at; is = is.is; unnamed = is.unnamed; before = λ k other less there. named_before L lines i k other kept so_far less there }
first_unnamed L lines i line kept (fault.PlanPortMissing word) at so_far is = absurd is
first_unnamed L lines i line kept (fault.PlanTwice word) at so_far is = absurd is
first_unnamed L lines i line kept (fault.PlanCell word) at so_far is = absurd is
first_unnamed L lines i line kept (fault.PlanName word) at so_far is = absurd is
first_unnamed L lines i line kept (fault.PrefixTaken word) at so_far is = absurd is
first_unnamed L lines i line kept fault.OutOfMemory at so_far is = tt
