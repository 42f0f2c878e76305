-- Starts that are added, bit by bit and port by port.
use Rattle.std.proofs.Common.{◌≡◌, subst, ℕ, zero, suc, ◌+◌, ◌<◌, ◌≤◌, ◌⊎◌, inl, inr, ◌&&◌, nat_le, nat_lt, Bool, true, false, List, [], ◌∷◌, ◌++◌, length, take, get_or, refl, ap, sym, ◌∙◌, Option, Some, arith, append_assoc}
use Rattle.std.specs.Prelude.{slice_get, option_and_then, if◌then◌else◌}
use Rattle.std.specs.List.{enumerate_from, flat_map}
use Rattle.std.specs.Option.{option_map, option_map_or}
use Rattle.std.proofs.lemmas.Grind.{flat_map-append}
use Rattle.std.proofs.Math.Bool.{and-false}
use Rattle.std.proofs.lemmas.Bool.{cases_lt, le-ltb, lt-leb}
use Rattle.std.proofs.lemmas.List.{append-nil, length-map, take_all}
use Rattle.std.proofs.lemmas.List.FromFn.{length-enumerate_from}
use Rattle.std.proofs.lemmas.List.Concat.{flat_map-cons}
use Rattle.std.proofs.lemmas.Option.{same_Some, slice_get-get_or}
use Rattle.signal_values.specs.declared.PinSig.{PinSig}
use Rattle.netlist_model.proofs.Numbers.{slice_get-mapped}
use Rattle.netlist_model.specs.declared.NetId.{NetId}
use Rattle.netlist_model.specs.declared.PinBit.{PinBit}
use Rattle.netlist_model.specs.declared.Range.{Range}
use Rattle.netlist_model.specs.Lists.{PortView, NetlistView}
use Rattle.netlist_model.specs.Formed.{IsLaidOut, width_of}
use Rattle.netlist_link.specs.Linked.{LinkedView, is_straight}
use Rattle.netlist_link.specs.PinWords.{pin_at}
use Rattle.scan_vectors.specs.declared.lines.Line.{Line}
use Rattle.scan_vectors.specs.declared.lines.Line.TheVariants.{Start}
use Rattle.scan_vectors.specs.Pins.{net_of, HasStart}
use Rattle.scan_vectors.proofs.Flags.{take_push}
use Rattle.scan_vectors.proofs.Marked.{has_range}
use Rattle.default_starts.specs.Starts.{HiddenBit, hidden_bit, bits_of, is_input, is_hidden_input, inputs_of, hidden_inputs, BeginsAt, AreStarts}
use Rattle.default_starts.specs.Starts.AreStarts.{none, had, added}
use Rattle.default_starts.specs.Found.{AreStarted, IsWordOf, AddsStarts, AddsBit, AddsPort}

-- one bit's starts behind others'
pub starts_more : (L : LinkedView) (lines : List Line) (bits more : List HiddenBit) (starts next : List Line) → AreStarts L lines bits starts → AreStarts L lines more next
    → AreStarts L lines (bits ++ more) (starts ++ next)
starts_more L lines bits more starts next none b = b
starts_more L lines bits more starts next (had {bits = rest} has a) b = had has (starts_more L lines rest more starts next a b)
starts_more L lines bits more starts next (added {bits = rest} {starts = behind} hasnt begins a) b = added hasnt begins (starts_more L lines rest more behind next a b)

-- lists with their numbers

enumerate-push : {X : Type 0} (xs : List X) (n k : ℕ) (x : X) → slice_get xs k ≡ Some x → enumerate_from n (take (k + 1) xs) ≡ enumerate_from n (take k xs) ++ (n + k, x) ∷ []
enumerate-push [] n k x at = absurd (cc)
enumerate-push (y ∷ xs) n zero x at = let e : n ≡ n + 0 = omega arith in ap (λ (r : ℕ × _). r ∷ []) (ap (λ (m : ℕ). (m, y)) e ∙ ap (λ z. (n + 0, z)) (same_Some y x at))
enumerate-push (y ∷ xs) n (suc k) x at =
    let e : suc k + 1 ≡ suc (k + 1) = omega arith in
    let f : n + 1 + k ≡ n + suc k = omega arith in
    ap (λ (m : ℕ). enumerate_from n (take m (y ∷ xs))) e ∙ ap (λ zs. (n, y) ∷ zs) (enumerate-push xs (n + 1) k x at ∙ ap (λ (m : ℕ). enumerate_from (n + 1) (take k xs) ++ (m, x) ∷ []) f)

-- no bit and no port more

pub adds_none : (L : LinkedView) (flags : List Bool) (starts : List Line) → AddsStarts L flags [] starts starts
adds_none L flags starts lines before started are = subst (λ (bits : List HiddenBit). AreStarts L lines bits starts) (sym (append-nil before)) are

-- some and then others
pub adds_both : (L : LinkedView) (flags : List Bool) (bits more all : List HiddenBit) (old mid new : List Line) → AddsStarts L flags bits old mid → AddsStarts L flags more mid new
    → all ≡ bits ++ more → AddsStarts L flags all old new
adds_both L flags bits more all old mid new first second is lines before started are =
    subst (λ (b : List HiddenBit). AreStarts L lines b new) (append_assoc before bits more ∙ ap (λ (b : List HiddenBit). before ++ b) (sym is))
    (second lines (before ++ bits) started (first lines before started are))

-- A bit.

bit_net : (N : NetlistView) (pin : PinBit) (net other : NetId) → net_of N pin ≡ Some net → net_of N pin ≡ Some other → net ≡ other
bit_net N pin net other one two = same_Some net other (sym one ∙ two)

-- it has its start
pub bit_had : (L : LinkedView) (flags : List Bool) (pin : PinBit) (at : NetId) (starts : List Line) → net_of L.arena.lists pin ≡ Some at → slice_get flags at.0 ≡ Some true
    → AddsBit L flags pin starts starts
bit_had L flags pin at starts at_is set port net there net_is lines before started are =
    let has : HasStart L lines pin = (started.each pin at at_is).0 set in
    subst (λ (s : List Line). AreStarts L lines (before ++ hidden_bit L pin.port.0 port (pin.bit, net) ∷ []) s) (append-nil starts)
    (starts_more L lines before (hidden_bit L pin.port.0 port (pin.bit, net) ∷ []) starts [] are (had has none))

-- it has none
pub bit_added : (L : LinkedView) (flags : List Bool) (pin : PinBit) (at : NetId) (word : List ℕ) (value : PinSig) (starts : List Line) → net_of L.arena.lists pin ≡ Some at
    → slice_get flags at.0 ≡ Some false → IsWordOf L pin word → BeginsAt L.arena.lists at.0 value → AddsBit L flags pin starts (starts ++ Start word value ∷ [])
bit_added L flags pin at word value starts at_is unset word_is begins port net there net_is lines before started are =
    let same : at ≡ net = bit_net L.arena.lists pin at net at_is net_is in
    let bit : HiddenBit = hidden_bit L pin.port.0 port (pin.bit, net) in
    let hasnt : HasStart L lines pin → ⊥ = λ has. absurd (let no : Some true ≡ Some false = sym ((started.each pin at at_is).1 has) ∙ unset in cc) in
    let here : BeginsAt L.arena.lists net.0 value = subst (λ (n : NetId). BeginsAt L.arena.lists n.0 value) same begins in
    let line : Line = Start word value in
    subst (λ (w : List ℕ). AreStarts L lines (before ++ bit ∷ []) (starts ++ Start w value ∷ [])) (sym (word_is port there))
    (starts_more L lines before (bit ∷ []) starts (Start bit.word value ∷ []) are (added hasnt here none))

-- The bits of a port.

slice_get-enumerate : {X : Type 0} (xs : List X) (n k : ℕ) (x : X) → slice_get xs k ≡ Some x → slice_get (enumerate_from n xs) k ≡ Some (n + k, x)
slice_get-enumerate [] n k x at = absurd (cc)
slice_get-enumerate (y ∷ xs) n zero x at = let e : n ≡ n + 0 = omega arith in ap (λ (m : ℕ). Some (m, y)) e ∙ ap (λ z. Some (n + 0, z)) (same_Some y x at)
slice_get-enumerate (y ∷ xs) n (suc k) x at =
    let f : n + 1 + k ≡ n + suc k = omega arith in
    slice_get-enumerate xs (n + 1) k x at ∙ ap (λ (m : ℕ). Some (m, x)) f

bit_there : (L : LinkedView) (number : ℕ) (port : PortView) (bit : ℕ) (net : NetId) → slice_get port.nets bit ≡ Some net
    → slice_get (bits_of L number port) bit ≡ Some (hidden_bit L number port (bit, net))
bit_there L number port bit net at =
    let e : 0 + bit ≡ bit = omega arith in
    slice_get-mapped (hidden_bit L number port) (enumerate_from 0 port.nets) bit (bit, net) (slice_get-enumerate port.nets 0 bit net at ∙ ap (λ (m : ℕ). Some (m, net)) e)

bits_count : (L : LinkedView) (number : ℕ) (port : PortView) → length (bits_of L number port) ≡ length port.nets
bits_count L number port = length-map (enumerate_from 0 port.nets) (hidden_bit L number port) ∙ length-enumerate_from 0 port.nets

abbrev pub bits_under : LinkedView → ℕ → List HiddenBit
bits_under L number = option_map_or (bits_of L number) (slice_get L.arena.lists.ports number) []

-- one bit more
pub port_next : (L : LinkedView) (flags : List Bool) (number bit : ℕ) (port : PortView) (net : NetId) (old mid new : List Line) → slice_get L.arena.lists.ports number ≡ Some port
    → net_of L.arena.lists (pin_at number bit) ≡ Some net → AddsStarts L flags (take bit (bits_under L number)) old mid → AddsBit L flags (pin_at number bit) mid new
    → AddsStarts L flags (take (bit + 1) (bits_under L number)) old new
port_next L flags number bit port net old mid new there net_is before adds =
    let at : slice_get port.nets bit ≡ Some net = ap (option_and_then (λ (p : PortView). slice_get p.nets bit)) (sym there) ∙ net_is in
    let bits : bits_under L number ≡ bits_of L number port = ap (λ (o : Option PortView). option_map_or (bits_of L number) o []) there in
    let here : slice_get (bits_under L number) bit ≡ Some (hidden_bit L number port (bit, net)) = ap (λ (b : List HiddenBit). slice_get b bit) bits ∙ bit_there L number port bit net at in
    adds_both L flags (take bit (bits_under L number)) (hidden_bit L number port (bit, net) ∷ []) (take (bit + 1) (bits_under L number)) old mid new before (adds port net there net_is)
    (take_push (bits_under L number) bit (hidden_bit L number port (bit, net)) here)

-- all bits
pub port_all : (L : LinkedView) (flags : List Bool) (number bit : ℕ) (range : Option Range) (old new : List Line) → IsLaidOut L.arena.lists
    → option_map (λ (p : PortView). p.range) (slice_get L.arena.lists.ports number) ≡ Some range → width_of range ≤ bit → AddsStarts L flags (take bit (bits_under L number)) old new
    → AddsPort L flags number old new
port_all L flags number bit range old new laid range_is wide adds =
    let has = has_range L.arena.lists number range range_is in
    let bits : bits_under L number ≡ bits_of L number has.port = ap (λ (o : Option PortView). option_map_or (bits_of L number) o []) has.there in
    let count : length (bits_under L number) ≡ width_of range = ap length bits ∙ bits_count L number has.port ∙ laid.widths number has.port has.there ∙ ap width_of has.range_is in
    subst (λ (b : List HiddenBit). AddsStarts L flags b old new) (take_all bit (bits_under L number) (omega (arith, count, wide))) adds

-- The ports.

pub port_hidden : (L : LinkedView) (flags : List Bool) (number : ℕ) (port : PortView) (old new : List Line) → slice_get L.arena.lists.ports number ≡ Some port
    → is_hidden_input L number port ≡ true → AddsPort L flags number old new → AddsStarts L flags (inputs_of L (number, port)) old new
port_hidden L flags number port old new there is adds =
    let bits : bits_under L number ≡ inputs_of L (number, port) =
    ap (λ (o : Option PortView). option_map_or (bits_of L number) o []) there ∙ ap (λ (b : Bool). if b then bits_of L number port else []) (sym is) in
    subst (λ (b : List HiddenBit). AddsStarts L flags b old new) bits adds

pub port_other : (L : LinkedView) (flags : List Bool) (number : ℕ) (port : PortView) (starts : List Line) → is_hidden_input L number port ≡ false
    → AddsStarts L flags (inputs_of L (number, port)) starts starts
port_other L flags number port starts isnt =
    subst (λ (b : Bool). AddsStarts L flags (if b then bits_of L number port else []) starts starts) (sym isnt) (adds_none L flags starts)

-- the bits of the first so many ports
abbrev pub first_inputs : LinkedView → ℕ → List HiddenBit
first_inputs L number = flat_map (inputs_of L) (enumerate_from 0 (take number L.arena.lists.ports))

pub number_next : (L : LinkedView) (flags : List Bool) (number : ℕ) (port : PortView) (old mid new : List Line) → slice_get L.arena.lists.ports number ≡ Some port
    → AddsStarts L flags (first_inputs L number) old mid → AddsStarts L flags (inputs_of L (number, port)) mid new → AddsStarts L flags (first_inputs L (number + 1)) old new
number_next L flags number port old mid new there before adds =
    let e : 0 + number ≡ number = omega arith in
    let rows : enumerate_from 0 (take (number + 1) L.arena.lists.ports) ≡ enumerate_from 0 (take number L.arena.lists.ports) ++ (number, port) ∷ []
    = enumerate-push L.arena.lists.ports 0 number port there ∙ ap (λ (m : ℕ). enumerate_from 0 (take number L.arena.lists.ports) ++ (m, port) ∷ []) e in
    let bits : first_inputs L (number + 1) ≡ first_inputs L number ++ inputs_of L (number, port)
    = ap (flat_map (inputs_of L)) rows ∙ flat_map-append (inputs_of L) (enumerate_from 0 (take number L.arena.lists.ports)) ((number, port) ∷ [])
    ∙ ap (λ (b : List HiddenBit). first_inputs L number ++ b) (flat_map-cons (inputs_of L) (number, port) [] ∙ append-nil (inputs_of L (number, port))) in
    adds_both L flags (first_inputs L number) (inputs_of L (number, port)) (first_inputs L (number + 1)) old mid new before adds bits

pub number_all : (L : LinkedView) (flags : List Bool) (number : ℕ) (lines new : List Line) → length L.arena.lists.ports ≤ number → AddsStarts L flags (first_inputs L number) [] new
    → AreStarted L lines flags → AreStarts L lines (hidden_inputs L) new
number_all L flags number lines new all adds started =
    let ports = take_all number L.arena.lists.ports all in
    subst (λ (p : List PortView). AreStarts L lines (flat_map (inputs_of L) (enumerate_from 0 p)) new) ports (adds lines [] started none)

-- nothing is hidden

not_straight : (first number count : ℕ) → count ≡ 0 → (nat_le first number && nat_lt number (first + count)) ≡ false
not_straight first number count e = by (cases_lt number first)
  where
    by : (number < first) ⊎ (first ≤ number) → (nat_le first number && nat_lt number (first + count)) ≡ false
    by (inl low) = ap (λ (b : Bool). b && nat_lt number (first + count)) (lt-leb first number low)
    by (inr high) = ap (λ (b : Bool). nat_le first number && b) (le-ltb number (first + count) (omega (arith, e, high))) ∙ and-false (nat_le first number)

pub no_hidden : (L : LinkedView) (number : ℕ) → L.straight.count ≡ 0 → is_straight L number ≡ true → ⊥
no_hidden L number e hidden = let no : false ≡ true = sym (not_straight L.straight.first number L.straight.count e) ∙ hidden in cc

no_inputs : (L : LinkedView) (n : ℕ) (ports : List PortView) → L.straight.count ≡ 0 → flat_map (inputs_of L) (enumerate_from n ports) ≡ []
no_inputs L n [] e = refl
no_inputs L n (port ∷ ports) e =
    flat_map-cons (inputs_of L) (n, port) (enumerate_from (n + 1) ports)
    ∙ ap (λ (b : Bool). (if b && is_input port.dir then bits_of L n port else []) ++ flat_map (inputs_of L) (enumerate_from (n + 1) ports)) (not_straight L.straight.first n L.straight.count e)
    ∙ no_inputs L (n + 1) ports e

pub none_hidden : (L : LinkedView) → L.straight.count ≡ 0 → hidden_inputs L ≡ []
none_hidden L e = no_inputs L 0 L.arena.lists.ports e

pub no_starts : (L : LinkedView) (lines : List Line) → L.straight.count ≡ 0 → AreStarts L lines (hidden_inputs L) []
no_starts L lines e = subst (λ (b : List HiddenBit). AreStarts L lines b []) (sym (none_hidden L e)) none

-- what a look at a flag gives
pub flag_at : (flags : List Bool) (k : ℕ) (b : Bool) → k < length flags → get_or flags k false ≡ b → slice_get flags k ≡ Some b
flag_at flags k b less e = slice_get-get_or flags k false less ∙ ap (λ (x : Bool). Some x) e
