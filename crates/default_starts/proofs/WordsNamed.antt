-- The word of a hidden bit names it, and a word names one bit at most.
use Rattle.std.proofs.Common.{◌≡◌, ℕ, zero, suc, ◌+◌, ◌*◌, ◌-◌, ◌%◌, ◌/◌, ◌<◌, ◌≤◌, ◌^◌, ◌==◌, Bool, true, false, cond, if◌then◌else◌, List, [], ◌∷◌, ◌++◌, Option, Some, None, refl, sym, ap, ◌∙◌, subst, arith, leb-true, leb-false, lit<, lt-ltb}
use Rattle.std.specs.Prelude.{IfSome, nat_le, slice_get, unwrap_or}
use Rattle.std.specs.Fmt.{decimal, digits, digits_onto, digit_glyph}
use Rattle.std.proofs.lemmas.Fmt.{decimal_by_steps, decimal_nonempty, length-decimal-le}
use Rattle.std.proofs.lemmas.Option.{same_Some, slice_get_within}
use Rattle.list_laws.proofs.Lists.{slice_get_there}
use Rattle.netlist_model.specs.declared.PinBit.{PinBit}
use Rattle.netlist_model.specs.declared.NetId.{NetId}
use Rattle.netlist_model.specs.declared.Range.{Range}
use Rattle.netlist_model.specs.Lists.{PortView, NetlistView}
use Rattle.netlist_model.specs.Formed.{width_of}
use Rattle.verilog_lexicon.specs.Bytes.{is_digit}
use Rattle.verilog_lexicon.specs.Pieces.{IsNumber, value_from}
use Rattle.netlist_link.proofs.Digits.{AreDigits}
use Rattle.netlist_link.proofs.PinLaws.{indexed_once, one_port}
use Rattle.link_model.specs.Denoted.{name_bytes}
use Rattle.netlist_link.specs.Linked.{LinkedView, is_straight}
use Rattle.netlist_link.specs.PinWords.{IsPortNamed, IsPinWord, IsScalarWord, IsBitWord, IsVectorBit, HasPortName, pin_at}
use Rattle.netlist_link.specs.PinWords.IsPinWord.{scalar, vector}
use Rattle.netlist_link.specs.WellNamed.{IsWellNamed, IsShortRange, index_from}
use Rattle.scan_vectors.specs.Pins.{Names}
use Rattle.default_starts.specs.Starts.{bit_word, port_name}
use Rattle.default_starts.specs.Words.{HasHiddenWords}

-- Digits.

value_push : (n : ℕ) (ds : List ℕ) (d : ℕ) → value_from n (ds ++ d ∷ []) ≡ 10 * value_from n ds + (d - 48)
value_push n [] d = refl
value_push n (x ∷ ds) d = value_push (10 * n + (x - 48)) ds d

value_last : (n value : ℕ) → value ≡ n / 10 → 10 * value + ((48 + n % 10) - 48) ≡ n
value_last n value e = omega (arith, e)

decimal_value : (n : ℕ) → n < 2 ^ 64 → value_from 0 (decimal n) ≡ n
decimal_value = decimal_by_steps (λ n ds. value_from 0 ds ≡ n) (λ n h. omega arith)
    (λ n ds h e. value_push 0 ds (48 + n % 10) ∙ value_last n (value_from 0 ds) e)

digit_byte : (d : ℕ) → d < 10 → is_digit (48 + d) ≡ true
digit_byte d h = grind arith

last_digit : (n : ℕ) → n % 10 < 10
last_digit n = omega arith

glyph_is : (n : ℕ) → is_digit (digit_glyph false (n % 10)) ≡ true
glyph_is n =
    ap (λ (b : Bool). is_digit (if b then 48 + n % 10 else 87 + n % 10)) (lt-ltb (n % 10) 10 (last_digit n))
    ∙ digit_byte (n % 10) (last_digit n)

digits_onto_are : (k n : ℕ) (after : List ℕ) → AreDigits after → AreDigits (digits_onto k 10 false n after)
digits_onto_are zero n after all = all
digits_onto_are (suc k) n after all =
    let more = digits_onto_are k (n / 10) (digit_glyph false (n % 10) ∷ after) (glyph_is n, all) in
    elim (n / 10 == 0) as (λ (b : Bool). AreDigits (if b then digit_glyph false (n % 10) ∷ after else digits_onto k 10 false (n / 10) (digit_glyph false (n % 10) ∷ after))) [
      | true ↦ (glyph_is n, all)
      | false ↦ more
    ]

digits_are : (n : ℕ) → AreDigits (decimal n)
unfolding digits
digits_are n = digits_onto_are 64 n [] tt

number_there : (n : ℕ) → n < 10 ^ 9 → IsNumber (decimal n)
number_there n low = let fits : n < 2 ^ 64 = omega (arith, low) in (decimal_nonempty n fits, length-decimal-le 9 n (lit< tt) low fits, digits_are n)

short_index : (r : Range) (bit : ℕ) (b : Bool) → nat_le r.left r.right ≡ b → r.left < 10 ^ 9 → r.right < 10 ^ 9 → bit < width_of (Some r) → cond b (r.left + bit) (r.left - bit) < 10 ^ 9
short_index r bit true e left right low = let up : r.left ≤ r.right = leb-true r.left r.right e in omega (arith, up, left, right, low)
short_index r bit false e left right low = omega (arith, left)

-- No other scalar port has the word of a hidden vector's bit.

word_is_clear : (L : LinkedView) → HasHiddenWords L → (number other bit index : ℕ) (port : PortView) (name : List ℕ) (r : Range) → is_straight L number ≡ true
    → IsPortNamed L.names L.arena.lists number port name → port.range ≡ Some r → bit < width_of (Some r) → index_from (Some r) bit ≡ Some index
    → IsScalarWord L.names L.arena.lists (bit_word name (Some index)) other → ⊥
word_is_clear L words number other bit index port name r hidden named range low at is = by (is_straight L other) refl
  where
    by : (b : Bool) → is_straight L other ≡ b → ⊥
    by false e = words.clear number other bit index port name r hidden e named range low at is
    by true e =
        words.open_names other is.port (name ++ 91 ∷ decimal index) e is.named.there is.named.named

-- The word of a hidden bit names it.

vector_named : (L : LinkedView) → HasHiddenWords L → (number : ℕ) (port : PortView) (name : List ℕ) → is_straight L number ≡ true → IsPortNamed L.names L.arena.lists number port name
    → (r : Range) → port.range ≡ Some r → (bit : ℕ) → bit < width_of (Some r) → Names L (bit_word name (index_from (Some r) bit)) (pin_at number bit)
vector_named L words number port name hidden named r range bit low =
    let short : IsShortRange r = subst (λ (o : Option Range). IfSome o IsShortRange) range (words.named.port_ranges number port named.there) in
    let index : ℕ = cond (nat_le r.left r.right) (r.left + bit) (r.left - bit) in
    let few : index < 10 ^ 9 = short_index r bit (nat_le r.left r.right) refl short.left short.right low in
    let value : index ≡ value_from 0 (decimal index) = sym (decimal_value index (let fits : index < 2 ^ 64 = omega (arith, few) in fits)) in
    vector (λ other is. word_is_clear L words number other bit index port name r hidden named range low refl is) (record {
      name = name;
      index = index;
      indexed = record { digits = decimal index; number = number_there index few; spelled = refl; value = value };
      of = record {
        named = record { port = port; named = named };
        indexed = record { port = port; there = named.there; range = r; vector = range; at = record { within = low; at = refl } };
      };
    })

bit_named : (L : LinkedView) → HasHiddenWords L → (number : ℕ) (port : PortView) (name : List ℕ) → is_straight L number ≡ true → IsPortNamed L.names L.arena.lists number port name
    → (bit : ℕ) → bit < width_of port.range → Names L (bit_word name (index_from port.range bit)) (pin_at number bit)
bit_named L words number port name hidden named bit low = by port.range refl low
  where
    by : (o : Option Range) → port.range ≡ o → bit < width_of o → Names L (bit_word name (index_from o bit)) (pin_at number bit)
    by None e h =
        let none : 0 ≡ bit = omega (arith, h) in
        subst (λ (n : ℕ). Names L name (pin_at number n)) none (scalar (record { port = port; named = named; scalar = e }))
    by (Some r) e h = vector_named L words number port name hidden named r e bit h

-- a port's name stands in the table
record HasBytes (L : LinkedView) (port : PortView) : Type 0 where
  name : List ℕ
  is : name_bytes L.names port.name ≡ Some name
  same : port_name L port ≡ name

port_has_name : (L : LinkedView) → IsWellNamed L.names L.arena.lists → (number : ℕ) (port : PortView) → slice_get L.arena.lists.ports number ≡ Some port → HasBytes L port
port_has_name L well number port there =
    let original = well.port_names number port there in
    let found = slice_get_there L.names original.0 original.2 in
    let is : name_bytes L.names port.name ≡ Some found.0 = ap (name_bytes L.names) original.1 ∙ found.1 in
    record { name = found.0; is = is; same = ap (λ (o : Option (List ℕ)). unwrap_or o []) is }

pub hidden_named : (L : LinkedView) → HasHiddenWords L → (number bit : ℕ) (port : PortView) (net : NetId) → is_straight L number ≡ true → slice_get L.arena.lists.ports number ≡ Some port
    → slice_get port.nets bit ≡ Some net → Names L (bit_word (port_name L port) (index_from port.range bit)) (pin_at number bit)
hidden_named L words number bit port net hidden there at =
    let has = port_has_name L words.named number port there in
    let within = slice_get_within port.nets bit net at in
    let wide = words.laid.widths number port there in
    subst (λ (n : List ℕ). Names L (bit_word n (index_from port.range bit)) (pin_at number bit)) (sym has.same)
    (bit_named L words number port has.name hidden (record { there = there; named = has.is }) bit (omega (arith, within, wide)))

-- A word names one bit at most.

index_apart : (r : Range) (one two : ℕ) (b : Bool) → nat_le r.left r.right ≡ b → one < width_of (Some r) → two < width_of (Some r)
    → cond b (r.left + one) (r.left - one) ≡ cond b (r.left + two) (r.left - two) → one ≡ two
index_apart r one two true e low less same = omega (arith, same)
index_apart r one two false e low less same = let down : r.right < r.left = leb-false r.left r.right e in omega (arith, down, low, less, same)

same_index : (r : Range) (one two at : ℕ) → one < width_of (Some r) → two < width_of (Some r) → index_from (Some r) one ≡ Some at → index_from (Some r) two ≡ Some at → one ≡ two
same_index r one two at low less e f =
    index_apart r one two (nat_le r.left r.right) refl low less
    (same_Some (cond (nat_le r.left r.right) (r.left + one) (r.left - one)) (cond (nat_le r.left r.right) (r.left + two) (r.left - two)) (e ∙ sym f))

vector_once : (N : NetlistView) (number index one two : ℕ) → IsVectorBit N number index one → IsVectorBit N number index two → one ≡ two
vector_once N number index one two a b =
    let port : a.port ≡ b.port = same_Some a.port b.port (sym a.there ∙ b.there) in
    let range : a.range ≡ b.range = same_Some a.range b.range (sym a.vector ∙ ap (λ (p : PortView). p.range) port ∙ b.vector) in
    let low : one < width_of (Some b.range) = subst (λ (r : Range). one < width_of (Some r)) range a.at.within in
    let at : index_from (Some b.range) one ≡ Some index = subst (λ (r : Range). index_from (Some r) one ≡ Some index) range a.at.at in
    same_index b.range one two index low b.at.within at b.at.at

bits_once : (table : List (List ℕ)) (N : NetlistView) (word : List ℕ) (p q j k : ℕ) → IsWellNamed table N → IsBitWord table N word p j → IsBitWord table N word q k → pin_at p j ≡ pin_at q k
bits_once table N word p q j k well a b =
    let same = indexed_once word a.name b.name a.index b.index a.indexed b.indexed in
    let port : p ≡ q = one_port table N p q b.name well (subst (λ (n : List ℕ). HasPortName table N p n) same.name_is a.of.named) b.of.named in
    let here : IsVectorBit N q b.index j
    = subst (λ (n : ℕ). IsVectorBit N n b.index j) port (subst (λ (i : ℕ). IsVectorBit N p i j) same.index_is a.of.indexed) in
    ap (λ (n : ℕ). pin_at n j) port ∙ ap (pin_at q) (vector_once N q b.index j k here b.of.indexed)

pub names_once : (table : List (List ℕ)) (N : NetlistView) (word : List ℕ) (p q : PinBit) → IsWellNamed table N → IsPinWord table N word p → IsPinWord table N word q → p ≡ q
names_once table N word p q well (scalar {number = one} a) (scalar {number = other} b) =
    ap (λ (n : ℕ). pin_at n 0) (one_port table N one other word well (record { port = a.port; named = a.named }) (record { port = b.port; named = b.named }))
names_once table N word p q well (scalar {number = one} a) (vector none b) = absurd (none one a)
names_once table N word p q well (vector none a) (scalar {number = other} b) = absurd (none other b)
names_once table N word p q well (vector {number = one} {bit = j} none a) (vector {number = other} {bit = k} none_too b) = bits_once table N word one other j k well a b
