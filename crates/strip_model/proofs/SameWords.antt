-- The word of a bit names the bit.
use Rattle.std.proofs.Common.{◌≡◌, inl, inr, ℕ, suc, zero, ◌+◌, ◌-◌, ◌*◌, ◌/◌, ◌%◌, ◌<◌, ◌≤◌, ◌^◌, ◌==◌, Bool, true, false, List, [], ◌∷◌, ◌++◌, length, filter_map, refl, sym, ◌∙◌, ap, subst, Option, Some, None, slice_get, arith, if◌then◌else◌, leb-true, IsTrue}
use Rattle.std.specs.Prelude.{nat_le, IfSome}
use Rattle.std.specs.Option.{unwrap_or, option_map_or}
use Rattle.std.specs.List.{AllByRecursion}
use Rattle.std.specs.Fmt.{decimal}
use Rattle.std.proofs.lemmas.Fmt.{decimal_by_steps, decimal_nonempty, length-decimal-le}
use Rattle.std.proofs.lemmas.List.{append-nil, append_assoc}
use Rattle.list_laws.proofs.Lists.{slice_get_there}
use Rattle.verilog_lexicon.specs.Bytes.{is_digit}
use Rattle.verilog_lexicon.specs.Pieces.{value_from}
use Rattle.bsdl_lexicon.specs.Bytes.{is_letter, is_name_byte}
use Rattle.bsdl_lexicon.specs.Pieces.{IsIdentifier}
use Rattle.bsdl_device.specs.IsDevice.{IsDeviceName}
use Rattle.netlist_model.specs.declared.PinBit.{PinBit}
use Rattle.netlist_model.specs.declared.Range.{Range}
use Rattle.netlist_model.specs.Lists.{PortView}
use Rattle.netlist_model.specs.Formed.{width_of}
use Rattle.link_model.specs.Denoted.{name_bytes}
use Rattle.netlist_link.specs.Hidden.{EndsHidden}
use Rattle.netlist_link.specs.Linked.{LinkedView, own_ports}
use Rattle.netlist_link.specs.PinWords.{IsIndexed, IsPortNamed, IsScalarWord, IsBitWord, IsPinWord, pin_at}
use Rattle.netlist_link.specs.PinWords.IsPinWord.{scalar, vector}
use Rattle.netlist_link.specs.WellNamed.{IsWellNamed, IsShortRange, index_from}
use Rattle.plan_texts.specs.declared.plan.Plan.{Plan}
use Rattle.plan_texts.specs.declared.plan.PinLine.{PinLine}
use Rattle.plan_fitting.specs.Names.{HasOpenNames, port_name, index_word}
use Rattle.plan_fitting.specs.Pins.{PinSeen, IsSeen, AreSeen}
use Rattle.plan_fitting.specs.FittingPlan.{IsFitting}
use Rattle.plan_fitting.proofs.Indices.{IsBit, bit_there}
use Rattle.plan_fitting.proofs.OwnPorts.{own_there, own_from, own_or_hidden}
use Rattle.plan_fitting.proofs.DevicesNames.{NamesFit}
use Rattle.plan_fitting.proofs.DevicesFacts.{Facts}
use Rattle.plan_fitting.proofs.DeviceRows.{lined_bit}
use Rattle.strip_model.specs.PlansTold.{word_at, told_lines}

-- Brackets.

abbrev IsPlain : List ℕ → Type 0
IsPlain name = AllByRecursion (λ c. c == 91 ≡ false) name

letter_plain : (b : ℕ) → is_letter b ≡ true → b == 91 ≡ false
letter_plain b h = grind arith

byte_plain : (b : ℕ) → is_name_byte b ≡ true → b == 91 ≡ false
byte_plain b h = grind arith

bytes_plain : (bytes : List ℕ) → AllByRecursion (λ c. IsTrue (is_name_byte c)) bytes → IsPlain bytes
bytes_plain [] all = tt
bytes_plain (b ∷ bytes) all = (byte_plain b all.0, bytes_plain bytes all.1)

identifier_plain : (name : List ℕ) → IsIdentifier name → IsPlain name
identifier_plain [] is = absurd is
identifier_plain (b ∷ bytes) is = (letter_plain b is.0, bytes_plain bytes is.1)

not_plain : (front rest : List ℕ) → IsPlain (front ++ 91 ∷ rest) → ⊥
not_plain [] rest all = let bad : 91 == 91 ≡ false = all.0 in cc
not_plain (b ∷ front) rest all = not_plain front rest all.1

-- Digits.

pub record DigitsOf (n : ℕ) (ds : List ℕ) : Type 0 where
  pub digits : AllByRecursion (λ c. IsTrue (is_digit c)) ds
  pub value : value_from 0 ds ≡ n

push_value : (n : ℕ) (ds : List ℕ) (d : ℕ) → value_from n (ds ++ d ∷ []) ≡ 10 * value_from n ds + (d - 48)
push_value n [] d = refl
push_value n (e ∷ ds) d = push_value (10 * n + (e - 48)) ds d

push_digits : (ds : List ℕ) (d : ℕ) → AllByRecursion (λ c. IsTrue (is_digit c)) ds → IsTrue (is_digit d) → AllByRecursion (λ c. IsTrue (is_digit c)) (ds ++ d ∷ [])
push_digits [] d all last = (last, tt)
push_digits (e ∷ ds) d all last = (all.0, push_digits ds d all.1 last)

digit_byte : (d : ℕ) → d < 10 → IsTrue (is_digit (48 + d))
digit_byte d low = grind arith

one_digit : (n : ℕ) → n < 10 → DigitsOf n ((48 + n) ∷ [])
one_digit n low = record { digits = (digit_byte n low, tt); value = omega arith }

more_digits : (n : ℕ) (ds : List ℕ) → 10 ≤ n → DigitsOf (n / 10) ds → DigitsOf n (ds ++ (48 + n % 10) ∷ [])
more_digits n ds large before = record {
  digits = push_digits ds (48 + n % 10) before.digits (digit_byte (n % 10) (omega arith));
  value = push_value 0 ds (48 + n % 10) ∙ (let e : value_from 0 ds ≡ n / 10 = before.value in omega arith);
}

pub decimal_digits : (n : ℕ) → n < 2 ^ 64 → DigitsOf n (decimal n)
decimal_digits n low = decimal_by_steps DigitsOf one_digit more_digits n low

indexed : (name : List ℕ) (index : ℕ) → index < 10 ^ 9 → IsIndexed (name ++ index_word (Some index)) name index
indexed name index low =
    let wide : index < 2 ^ 64 = omega arith in
    let digits = decimal_digits index wide in
    record {
      digits = decimal index;
      number = (decimal_nonempty index wide, length-decimal-le 9 index (omega arith) (omega arith) wide, digits.digits);
      spelled = sym (append_assoc name (91 ∷ decimal index) (93 ∷ []));
      value = sym digits.value;
    }

-- Ports.

record IsNamedPort (L : LinkedView) (port : PortView) : Type 0 where
  pub bytes : List ℕ
  pub is : name_bytes L.names port.name ≡ Some bytes
  pub plain : IsPlain bytes

pub filtered_at : {X : Type 0} (P : List ℕ → Type 0) (g : X → Option (List ℕ)) (xs : List X) (k : ℕ) (x : X) (y : List ℕ) → AllByRecursion P (filter_map g xs) → slice_get xs k ≡ Some x → g x ≡ Some y → P y
filtered_at P g [] k x y all at e = absurd (cc)
filtered_at {X} P g (z ∷ xs) zero x y all at e =
    let same : z ≡ x = inside z x at in
    let now : g z ≡ Some y = ap g same ∙ e in
    let here : AllByRecursion P (y ∷ filter_map g xs) = rw now at all in here.0
  where
    inside : (a b : X) → ◌≡◌ {A = Option X} (Some a) (Some b) → a ≡ b
    inside a b h = cc
filtered_at P g (z ∷ xs) (suc k) x y all at e = by (g z) refl (λ rest. filtered_at P g xs k x y rest at e)
  where
    by : (o : Option (List ℕ)) → g z ≡ o → (AllByRecursion P (filter_map g xs) → P y) → P y
    by None h go = let rest : AllByRecursion P (filter_map g xs) = rw h at all in go rest
    by (Some w) h go = let rest : AllByRecursion P (w ∷ filter_map g xs) = rw h at all in go rest.1

named_port : (L : LinkedView) (p : Plan) → IsWellNamed L.names L.arena.lists → NamesFit L p → (k : ℕ) (port : PortView) → slice_get (own_ports L) k ≡ Some port → IsNamedPort L port
named_port L p well fit k port at =
    let has = well.port_names k port (own_there L k port at) in
    let there = slice_get_there L.names has.0 has.2 in
    let is : name_bytes L.names port.name ≡ Some there.0 = ap (name_bytes L.names) has.1 ∙ there.1 in
    let good = filtered_at IsDeviceName (λ (q : PortView). name_bytes L.names q.name) (own_ports L) k port there.0 fit.unit.1.1 at is in
    record { bytes = there.0; is = is; plain = identifier_plain there.0 good.identifier }

-- an index of a short range is short
short_index : (r : Range) (bit index : ℕ) → IsShortRange r → bit < width_of (Some r) → index_from (Some r) bit ≡ Some index → index < 10 ^ 9
short_index r bit index short low e = by (nat_le r.left r.right) refl
  where
    some_same : (a b : ℕ) → ◌≡◌ {A = Option ℕ} (Some a) (Some b) → a ≡ b
    some_same a b h = cc

    by : (b : Bool) → nat_le r.left r.right ≡ b → index < 10 ^ 9
    by true h =
        let up : r.left ≤ r.right = leb-true r.left r.right h in
        let is : r.left + bit ≡ index = some_same (r.left + bit) index (ap (λ (t : Bool). Some (if t then r.left + bit else r.left - bit)) (sym h) ∙ e) in
        let right = short.right in omega (arith, up, is, right, low)
    by false h =
        let is : r.left - bit ≡ index = some_same (r.left - bit) index (ap (λ (t : Bool). Some (if t then r.left + bit else r.left - bit)) (sym h) ∙ e) in
        let left = short.left in omega (arith, is, left)

-- The word of a bit.

word_names : (L : LinkedView) (p : Plan) → IsWellNamed L.names L.arena.lists → NamesFit L p → EndsHidden L → HasOpenNames L → (pin : PinBit) → (b : IsBit L pin)
    → IsPinWord L.names L.arena.lists (word_at L pin) pin
word_names L p well fit ends open_names pin b =
    let port = named_port L p well fit pin.port.0 b.port (bit_there L pin b) in
    let name : port_name L b.port ≡ port.bytes = ap (λ (o : Option (List ℕ)). unwrap_or o []) port.is in
    let word : word_at L pin ≡ port.bytes ++ index_word (index_from b.port.range pin.bit) =
    ap (λ (o : Option PortView). option_map_or (λ (q : PortView). port_name L q ++ index_word (index_from q.range pin.bit)) o []) b.there
    ∙ ap (λ (n : List ℕ). n ++ index_word (index_from b.port.range pin.bit)) name in
    subst (λ (w : List ℕ). IsPinWord L.names L.arena.lists w pin) (sym word) (by port.bytes port.is b.port.range refl)
  where
    of : (bytes : List ℕ) → name_bytes L.names b.port.name ≡ Some bytes → IsPortNamed L.names L.arena.lists pin.port.0 b.port bytes
    of bytes is = record { there = b.there; named = is }

    none : (name : List ℕ) (index : ℕ) (other : ℕ) → IsScalarWord L.names L.arena.lists (name ++ index_word (Some index)) other → ⊥
    none name index other is = elim (own_or_hidden L ends other is.port is.named.there) [
      | inl own ↦ (let q = named_port L p well fit other is.port (own_from L other is.port own is.named.there) in
          let same : q.bytes ≡ name ++ index_word (Some index) = some_bytes q.bytes (name ++ index_word (Some index)) (sym q.is ∙ is.named.named) in
          let plain : IsPlain (name ++ index_word (Some index)) = subst IsPlain same q.plain in
          not_plain name (decimal index ++ 93 ∷ []) plain)
      | inr hidden ↦
          (let last : name ++ index_word (Some index) ≡ (name ++ 91 ∷ decimal index) ++ 93 ∷ [] = sym (append_assoc name (91 ∷ decimal index) (93 ∷ [])) in
          open_names other is.port (name ++ 91 ∷ decimal index) hidden is.named.there (is.named.named ∙ ap (λ (w : List ℕ). Some w) last))
    ]
      where
        some_bytes : (a b : List ℕ) → ◌≡◌ {A = Option (List ℕ)} (Some a) (Some b) → a ≡ b
        some_bytes a b e = cc

    by : (bytes : List ℕ) → name_bytes L.names b.port.name ≡ Some bytes → (range : Option Range) → b.port.range ≡ range
        → IsPinWord L.names L.arena.lists (bytes ++ index_word (index_from b.port.range pin.bit)) pin
    by bytes is None e =
        let first : pin.bit < 1 = subst (λ (r : Option Range). pin.bit < width_of r) e b.within in
        let zeroth : 0 ≡ pin.bit = omega (arith, first) in
        let plain : bytes ≡ bytes ++ index_word (index_from b.port.range pin.bit) = sym (append-nil bytes) ∙ ap (λ (r : Option Range). bytes ++ index_word (index_from r pin.bit)) (sym e) in
        subst (λ (w : List ℕ). IsPinWord L.names L.arena.lists w pin) plain
        (subst (λ (n : ℕ). IsPinWord L.names L.arena.lists bytes (pin_at pin.port.0 n)) zeroth (scalar (record { port = b.port; named = of bytes is; scalar = e })))
    by bytes is (Some r) e =
        let at = index_there r pin.bit in
        let within : pin.bit < width_of (Some r) = subst (λ (q : Option Range). pin.bit < width_of q) e b.within in
        let short : IsShortRange r = subst (λ (q : Option Range). IfSome q IsShortRange) e (well.port_ranges pin.port.0 b.port b.there) in
        let low = short_index r pin.bit at.0 short within at.1 in
        let word : bytes ++ index_word (Some at.0) ≡ bytes ++ index_word (index_from b.port.range pin.bit) =
        ap (λ (o : Option ℕ). bytes ++ index_word o) (sym at.1) ∙ ap (λ (q : Option Range). bytes ++ index_word (index_from q pin.bit)) (sym e) in
        let found : IsBitWord L.names L.arena.lists (bytes ++ index_word (Some at.0)) pin.port.0 pin.bit = record {
          name = bytes;
          index = at.0;
          indexed = indexed bytes at.0 low;
          of = record {
            named = record { port = b.port; named = of bytes is };
            indexed = record { port = b.port; there = b.there; range = r; vector = e; at = record { within = within; at = at.1 } };
          };
        } in
        subst (λ (w : List ℕ). IsPinWord L.names L.arena.lists w pin) word (vector (none bytes at.0) found)
      where
        index_there : (r : Range) (bit : ℕ) → (index : ℕ) × (index_from (Some r) bit ≡ Some index)
        index_there r bit = (_, refl)

-- All lines.

told_line_at : (L : LinkedView) (lines : List PinLine) (seen : List PinSeen) (k : ℕ) (line : PinLine) (one : PinSeen) → slice_get (told_lines L lines seen) k ≡ Some line → slice_get seen k ≡ Some one
    → (old : PinLine) × (slice_get lines k ≡ Some old) × (line.port ≡ word_at L one.pin)
told_line_at L [] seen k line one at there = absurd (cc)
told_line_at L (l ∷ lines) [] k line one at there = absurd (cc)
told_line_at L (l ∷ lines) (o ∷ seen) zero line one at there =
    let same : o ≡ one = some_one o one there in
    let is : record { port = word_at L o.pin; pin = l.pin; cell = l.cell } ≡ line = some_line (record { port = word_at L o.pin; pin = l.pin; cell = l.cell }) line at in
    (l, refl, ap (λ (x : PinLine). x.port) (sym is) ∙ ap (λ (x : PinSeen). word_at L x.pin) same)
  where
    some_one : (a b : PinSeen) → ◌≡◌ {A = Option PinSeen} (Some a) (Some b) → a ≡ b
    some_one a b e = cc

    some_line : (a b : PinLine) → ◌≡◌ {A = Option PinLine} (Some a) (Some b) → a ≡ b
    some_line a b e = cc
told_line_at L (l ∷ lines) (o ∷ seen) (suc k) line one at there = told_line_at L lines seen k line one at there

told_count : (L : LinkedView) (lines : List PinLine) (seen : List PinSeen) → length seen ≡ length lines → length seen ≡ length (told_lines L lines seen)
told_count L [] seen many = many
told_count L (line ∷ lines) [] many = refl
told_count L (line ∷ lines) (one ∷ seen) many = ap suc (told_count L lines seen (omega arith))

pub told_seen : (L : LinkedView) (p : Plan) (seen : List PinSeen) → IsFitting L p seen → HasOpenNames L → Facts L p seen → AreSeen L (told_lines L p.pins seen) seen
told_seen L p seen fits open_names facts = record {
  count = told_count L p.pins seen fits.are_seen.count;
  each = λ place line one at there.
      let old = told_line_at L p.pins seen place line one at there in
      let was = facts.lines place old.0 one old.1 there in
      let bit = lined_bit L fits.wide old.0 one was in
      let named = word_names L p fits.named facts.names fits.ends open_names one.pin bit in
      again line one old.0 old.2 was.seen named;
}
  where
    again : (line : PinLine) (one : PinSeen) (old : PinLine) → line.port ≡ word_at L one.pin → IsSeen L old.port one → IsPinWord L.names L.arena.lists (word_at L one.pin) one.pin → IsSeen L line.port one
    again line one old same seen named = record {
      named = (subst (λ (w : List ℕ). IsPinWord L.names L.arena.lists w one.pin) (sym same) named, seen.named.1);
      port = seen.port;
      there = seen.there;
      side = seen.side;
      net = seen.net;
      clock = seen.clock;
      control = seen.control;
      driver = seen.driver;
    }
