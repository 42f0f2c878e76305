-- What the word of a bit names, where no own port has a bracket in its name.
use Rattle.std.proofs.Common.{◌≡◌, ℕ, zero, suc, ◌+◌, ◌*◌, ◌-◌, ◌%◌, ◌/◌, ◌<◌, ◌^◌, ◌==◌, Bool, true, false, if◌then◌else◌, List, [], ◌∷◌, ◌++◌, slice_get, Option, Some, None, refl, sym, ap, ◌∙◌, subst, arith, lt-ltb}
use Rattle.std.specs.Prelude.{IfSome}
use Rattle.std.specs.Bool.{IsFalse}
use Rattle.std.specs.Fmt.{decimal, digits, digits_onto, digit_glyph}
use Rattle.std.proofs.lemmas.Fmt.{decimal_by_steps}
use Rattle.std.proofs.lemmas.List.{append_assoc, append_cancel_right}
use Rattle.verilog_lexicon.specs.Bytes.{is_digit}
use Rattle.verilog_lexicon.specs.Pieces.{value_from}
use Rattle.netlist_model.specs.declared.Range.{Range}
use Rattle.netlist_model.specs.Lists.{PortView, NetlistView}
use Rattle.netlist_model.specs.Formed.{width_of}
use Rattle.netlist_link.specs.Linked.{LinkedView, is_straight}
use Rattle.netlist_link.specs.PinWords.{HasPortName, IsIndexed, IsScalarWord, IsVectorBit, pin_at}
use Rattle.netlist_link.specs.PinWords.IsPinWord.{scalar, vector}
use Rattle.netlist_link.specs.WellNamed.{IsWellNamed, IsShortRange, index_from}
use Rattle.netlist_link.proofs.Digits.{AreDigits, split_once}
use Rattle.netlist_link.proofs.PinLaws.{one_port}
use Rattle.wrapped_chip.specs.Cells.{bit_place}
use Rattle.plan_fitting.specs.Names.{HasOpenNames}
use Rattle.plan_fitting.proofs.Indices.{place_of_index}
use Rattle.scan_programs.specs.Pins.{bit_word}
use Rattle.program_runs.specs.ScriptsWords.{IsPlain, ArePlain, WordsNameBits}

-- Brackets.

pub not_plain : (front rest : List ℕ) → IsPlain (front ++ 91 ∷ rest) → ⊥
not_plain [] rest all = let no : IsFalse (91 == 91) = all.0 in cc
not_plain (b ∷ front) rest all = not_plain front rest all.1

-- no scalar port is named so
pub no_scalar : (L : LinkedView) → ArePlain L → HasOpenNames L → (name : List ℕ) (index other : ℕ) → IsScalarWord L.names L.arena.lists (bit_word name (Some index)) other → ⊥
no_scalar L plain open_names name index other is = by (is_straight L other) refl
  where
    by : (b : Bool) → is_straight L other ≡ b → ⊥
    by false e = not_plain name (decimal index ++ 93 ∷ []) (plain other is.port (bit_word name (Some index)) e is.named)
    by true e =
        open_names other is.port (name ++ 91 ∷ decimal index) e is.named.there
        (is.named.named ∙ ap (λ (bytes : List ℕ). Some bytes) (sym (append_assoc name (91 ∷ decimal index) (93 ∷ []))))

-- Digits.

value_push : (n : ℕ) (ds : List ℕ) (d : ℕ) → value_from n (ds ++ d ∷ []) ≡ 10 * value_from n ds + (d - 48)
value_push n [] d = refl
value_push n (x ∷ ds) d = value_push (10 * n + (x - 48)) ds d

value_last : (n value : ℕ) → value ≡ n / 10 → 10 * value + ((48 + n % 10) - 48) ≡ n
value_last n value e = omega (arith, e)

pub decimal_value : (n : ℕ) → n < 2 ^ 64 → value_from 0 (decimal n) ≡ n
decimal_value = decimal_by_steps (λ n ds. value_from 0 ds ≡ n) (λ n h. omega arith)
    (λ n ds h e. value_push 0 ds (48 + n % 10) ∙ value_last n (value_from 0 ds) e)

digit_byte : (d : ℕ) → d < 10 → is_digit (48 + d) ≡ true
digit_byte d h = grind arith

last_digit : (n : ℕ) → n % 10 < 10
last_digit n = omega arith

glyph_is : (n : ℕ) → is_digit (digit_glyph false (n % 10)) ≡ true
glyph_is n =
    ap (λ (b : Bool). is_digit (if b then 48 + n % 10 else 87 + n % 10)) (lt-ltb (n % 10) 10 (last_digit n))
    ∙ digit_byte (n % 10) (last_digit n)

digits_onto_are : (k n : ℕ) (after : List ℕ) → AreDigits after → AreDigits (digits_onto k 10 false n after)
digits_onto_are zero n after all = all
digits_onto_are (suc k) n after all =
    let more = digits_onto_are k (n / 10) (digit_glyph false (n % 10) ∷ after) (glyph_is n, all) in
    elim (n / 10 == 0) as (λ (b : Bool). AreDigits (if b then digit_glyph false (n % 10) ∷ after else digits_onto k 10 false (n / 10) (digit_glyph false (n % 10) ∷ after))) [
      | true ↦ (glyph_is n, all)
      | false ↦ more
    ]

pub digits_are : (n : ℕ) → AreDigits (decimal n)
unfolding digits
digits_are n = digits_onto_are 64 n [] tt

-- Indices.

low_index : (left index bound : ℕ) → (left - index) + (index - left) < bound → index < left + bound
low_index left index bound h = omega (arith, h)

short_index : (r : Range) (index : ℕ) → IsShortRange r → bit_place (Some r) (Some index) < width_of (Some r) → index < 2 ^ 64
short_index r index short within =
    let left : r.left < 10 ^ 9 = short.left in
    let right : r.right < 10 ^ 9 = short.right in
    let low : index < r.left + ((r.left - r.right) + (r.right - r.left) + 1) = low_index r.left index ((r.left - r.right) + (r.right - r.left) + 1) within in
    omega (arith, left, right, low)

some_index : (i j : ℕ) (o : Option ℕ) → o ≡ Some i → o ≡ Some j → i ≡ j
some_index i j o e f = cc

-- The bit.

same_port : (p q : PortView) (o : Option PortView) → o ≡ Some p → o ≡ Some q → p ≡ q
same_port p q o e f = cc

place_none : (range : Option Range) → 0 ≡ bit_place range None
place_none None = refl
place_none (Some r) = refl

-- the index of the word is that of the bit
bit_is : (r : Range) (index at bit : ℕ) → index ≡ at → bit < width_of (Some r) → index_from (Some r) bit ≡ Some at → bit ≡ bit_place (Some r) (Some index)
bit_is r index at bit e within h = sym (ap (bit_place (Some r)) (ap (λ (i : ℕ). Some i) e ∙ sym h) ∙ place_of_index (Some r) bit within)

-- a word with an index, taken apart
record IsCut (name other : List ℕ) (index at : ℕ) : Type 0 where
  name_is : other ≡ name
  value : at ≡ value_from 0 (decimal index)

cut : (name other : List ℕ) (index at : ℕ) → IsIndexed (bit_word name (Some index)) other at → IsCut name other index at
cut name other index at is =
    let spelled : name ++ 91 ∷ decimal index ≡ other ++ 91 ∷ is.digits =
    append_cancel_right (name ++ 91 ∷ decimal index) (other ++ 91 ∷ is.digits) (93 ∷ []) (append_assoc name (91 ∷ decimal index) (93 ∷ []) ∙ is.spelled) in
    let two = split_once name (decimal index) other is.digits (digits_are index) is.number.2 spelled in
    record { name_is = sym two.0; value = is.value ∙ ap (value_from 0) (sym two.1) }

-- a vector's bit under the same number
vector_bit : (N : NetlistView) (number index at bit : ℕ) (port : PortView) → slice_get N.ports number ≡ Some port → IsVectorBit N number at bit → index ≡ at
    → bit ≡ bit_place port.range (Some index)
vector_bit N number index at bit port there is e =
    let same : port ≡ is.port = same_port port is.port (slice_get N.ports number) there is.there in
    let range : port.range ≡ Some is.range = ap (λ (p : PortView). p.range) same ∙ is.vector in
    bit_is is.range index at bit e is.at.within is.at.at ∙ ap (λ (r : Option Range). bit_place r (Some index)) (sym range)

index_is : (table : List (List ℕ)) (N : NetlistView) (number index at bit : ℕ) (port : PortView) → IsWellNamed table N → slice_get N.ports number ≡ Some port → IsVectorBit N number at bit
    → bit_place port.range (Some index) < width_of port.range → at ≡ value_from 0 (decimal index) → index ≡ at
index_is table N number index at bit port well there is within value =
    let same : port ≡ is.port = same_port port is.port (slice_get N.ports number) there is.there in
    let range : port.range ≡ Some is.range = ap (λ (p : PortView). p.range) same ∙ is.vector in
    let short : IsShortRange is.range = subst (λ (r : Option Range). IfSome r IsShortRange) range (well.port_ranges number port there) in
    let low : bit_place (Some is.range) (Some index) < width_of (Some is.range) = subst (λ (r : Option Range). bit_place r (Some index) < width_of r) range within in
    sym (decimal_value index (short_index is.range index short low)) ∙ sym value

pub words_name_bits : WordsNameBits
words_name_bits L well plain open_names number port name own named None within pin (scalar {number = other} is) =
    let same : other ≡ number = one_port L.names L.arena.lists other number name well (record { port = is.port; named = is.named }) (record { port = port; named = named }) in
    ap (λ (n : ℕ). pin_at n 0) same ∙ ap (pin_at number) (place_none port.range)
words_name_bits L well plain open_names number port name own named None within pin (vector {number = other} {bit = bit} none is) =
    absurd (not_plain is.name (is.indexed.digits ++ 93 ∷ [])
    (subst IsPlain (is.indexed.spelled ∙ append_assoc is.name (91 ∷ is.indexed.digits) (93 ∷ [])) (plain number port name own named)))
words_name_bits L well plain open_names number port name own named (Some index) within pin (scalar {number = other} is) = absurd (no_scalar L plain open_names name index other is)
words_name_bits L well plain open_names number port name own named (Some index) within pin (vector {number = other} {bit = bit} none is) =
    let N = L.arena.lists in
    let c = cut name is.name index is.index is.indexed in
    let same : other ≡ number = one_port L.names N other number name well (subst (HasPortName L.names N other) c.name_is is.of.named) (record { port = port; named = named }) in
    let at_number : IsVectorBit N number is.index bit = subst (λ (n : ℕ). IsVectorBit N n is.index bit) same is.of.indexed in
    let e : index ≡ is.index = index_is L.names N number index is.index bit port well named.there at_number within c.value in
    ap (λ (n : ℕ). pin_at n bit) same ∙ ap (pin_at number) (vector_bit N number index is.index bit port named.there at_number e)
