-- The words of ports, read and spelled.
use Rattle.std.proofs.Common.{◌≡◌, ◌≤◌, ◌<◌, ℕ, suc, ◌+◌, ◌-◌, ◌*◌, ◌^◌, Bool, true, false, ◌&&◌, ◌==◌, not, cond, if◌then◌else◌, List, [], ◌∷◌, ◌++◌, length, take, drop, codes, nat_le, is_some, Option, Some, None, option_and_then, refl, sym, ap, ◌∙◌, subst, arith, le-leb, leb-true, eqb-true, append_assoc, take-append-drop}
use Rattle.std.specs.Prelude.{IsTrue}
use Rattle.std.specs.List.{prefix_len, list_all, AllByRecursion}
use Rattle.std.specs.Option.{option_map}
use Rattle.std.specs.Str.{bytes_eq}
use Rattle.std.proofs.lemmas.Slice.Eq.{bytes_eq-Decides}
use Rattle.std.proofs.Math.Nat.{mul-le-mul_right, pow-succ', mul_assoc, pow-le-pow_right}
use Rattle.std.proofs.Math.Seq.{take-append_seam, drop-append_seam}
use Rattle.list_laws.proofs.Lists.{all_from_list_all}
use Rattle.list_laws.proofs.Tests.{and_left, and_right, and_true}
use Rattle.verilog_lexicon.specs.Bytes.{is_letter, is_digit, is_name_byte, is_simple_name}
use Rattle.verilog_lexicon.specs.Keywords.{reserved_of}
use Rattle.verilog_lexicon.specs.Pieces.{IsNumber, value_from}
use Rattle.verilog_tree.specs.declared.tree.Range.{Range}
use Rattle.verilog_tree.specs.IsTree.{IsTreeRange}
use Rattle.cell_library.specs.Sound.{is_cell_name, is_port_name, IsPort}
use Rattle.box_model.specs.declared.boxes.BoxDir.{BoxDir}
use Rattle.box_model.specs.declared.boxes.BoxPort.{BoxPort}
use Rattle.box_model.specs.Sound.{IsSoundPort}
use Rattle.box_texts.specs.Ports.{is_digit_count, number_before, number_first, range_closed, range_from, range_in, port, port_of, port_named, port_in}
use Rattle.box_texts.specs.Grammar.{SpellsNumber, SpellsBounds, SpellsRange, SpellsPort}

-- Fronts that pass a test.

pub front_passes : (p : ℕ → Bool) (xs : List ℕ) → list_all p (take (prefix_len p xs) xs) ≡ true
front_passes p [] = refl
front_passes p (x ∷ xs) = by (p x) refl (front_passes p xs)
  where
    by : (b : Bool) → p x ≡ b → list_all p (take (prefix_len p xs) xs) ≡ true → list_all p (take (cond b (1 + prefix_len p xs) 0) (x ∷ xs)) ≡ true
    by false e rest = refl
    by true e rest =
        let more : 1 + prefix_len p xs ≡ suc (prefix_len p xs) = omega arith in
        ap (λ (n : ℕ). list_all p (take n (x ∷ xs))) more ∙ and_true (p x) (list_all p (take (prefix_len p xs) xs)) e rest

-- none, or a first one that doesn't pass
abbrev pub Stops : {X : Type 0} → (X → Bool) → List X → Type 0
Stops p [] = Unit {0}
Stops p (x ∷ xs) = p x ≡ false

pub front_exact : {X : Type 0} (p : X → Bool) (xs ys : List X) → list_all p xs ≡ true → Stops p ys → prefix_len p (xs ++ ys) ≡ length xs
front_exact p [] [] all stop = refl
front_exact p [] (y ∷ ys) all stop = ap (λ (b : Bool). cond b (1 + prefix_len p ys) 0) stop
front_exact p (x ∷ xs) ys all stop =
    let more : prefix_len p (xs ++ ys) ≡ length xs = front_exact p xs ys (and_right (p x) (list_all p xs) all) stop in
    let next : 1 + prefix_len p (xs ++ ys) ≡ suc (length xs) = omega arith in
    ap (λ (b : Bool). cond b (1 + prefix_len p (xs ++ ys)) 0) (and_left (p x) (list_all p xs) all) ∙ next

all_tests : (p : ℕ → Bool) (xs : List ℕ) → AllByRecursion (λ x. IsTrue (p x)) xs → list_all p xs ≡ true
all_tests p [] all = refl
all_tests p (x ∷ xs) all = and_true (p x) (list_all p xs) all.0 (all_tests p xs all.1)

-- Numbers.

pub is_number : (bytes : List ℕ) → 1 ≤ length (take (prefix_len is_digit bytes) bytes) → length (take (prefix_len is_digit bytes) bytes) ≤ 9 → IsNumber (take (prefix_len is_digit bytes) bytes)
is_number bytes some few =
    let digits = take (prefix_len is_digit bytes) bytes in
    (omega arith, few, all_from_list_all is_digit digits (front_passes is_digit bytes))

number_again : (digits rest : List ℕ) (number : ℕ) → SpellsNumber digits number → Stops is_digit rest → number_first (digits ++ rest) ≡ Some (number, rest)
number_again digits rest number is stop =
    let front : prefix_len is_digit (digits ++ rest) ≡ length digits = front_exact is_digit digits rest (all_tests is_digit digits is.is.2) stop in
    let some : 0 < length digits = is.is.0 in
    let few : length digits ≤ 9 = is.is.1 in
    let count : is_digit_count (length digits) ≡ true = and_true (nat_le 1 (length digits)) (nat_le (length digits) 9) (le-leb 1 (length digits) (omega arith)) (le-leb (length digits) 9 few) in
    ap (λ (n : ℕ). number_before (take n (digits ++ rest)) (drop n (digits ++ rest))) front
    ∙ ap (λ (ds : List ℕ). number_before ds (drop (length digits) (digits ++ rest))) (take-append_seam digits rest)
    ∙ ap (number_before digits) (drop-append_seam digits rest)
    ∙ ap (λ (b : Bool). if b then Some (value_from 0 digits, rest) else None) count
    ∙ ap (λ (n : ℕ). Some (n, rest)) is.value

-- digits in front, and what follows them
record IsNumberFirst (bytes : List ℕ) (found : ℕ × List ℕ) : Type 0 where
  digits : List ℕ
  bytes_are : bytes ≡ digits ++ found.1
  is : SpellsNumber digits found.0

number_spelled : (bytes : List ℕ) (found : ℕ × List ℕ) → number_first bytes ≡ Some found → IsNumberFirst bytes found
number_spelled bytes found e = by (is_digit_count (length digits)) refl e
  where
    digits : List ℕ
    digits = take (prefix_len is_digit bytes) bytes

    by : (b : Bool) → is_digit_count (length digits) ≡ b → (if b then Some (value_from 0 digits, drop (prefix_len is_digit bytes) bytes) else None) ≡ Some found → IsNumberFirst bytes found
    by false count e = absurd (let none : None ≡ Some found = e in cc)
    by true count e =
        let same : (value_from 0 digits, drop (prefix_len is_digit bytes) bytes) ≡ found = cc in
        let some : 1 ≤ length digits = leb-true 1 (length digits) (and_left (nat_le 1 (length digits)) (nat_le (length digits) 9) count) in
        let few : length digits ≤ 9 = leb-true (length digits) 9 (and_right (nat_le 1 (length digits)) (nat_le (length digits) 9) count) in
        subst (IsNumberFirst bytes) same (record {
          digits = digits;
          bytes_are = sym (take-append-drop (prefix_len is_digit bytes) bytes);
          is = record { is = is_number bytes some few; value = refl };
        })

digit_below : (d : ℕ) → IsTrue (is_digit d) → d - 48 ≤ 9
digit_below d is = grind arith

value_below : (n : ℕ) (ds : List ℕ) → AllByRecursion (λ c. IsTrue (is_digit c)) ds → value_from n ds + 1 ≤ (n + 1) * 10 ^ length ds
value_below n [] all = omega arith
value_below n (d ∷ ds) all =
    let digit : d - 48 ≤ 9 = digit_below d all.0 in
    let rest : value_from (10 * n + (d - 48)) ds + 1 ≤ (10 * n + (d - 48) + 1) * 10 ^ length ds = value_below (10 * n + (d - 48)) ds all.1 in
    let more : (10 * n + (d - 48) + 1) * 10 ^ length ds ≤ ((n + 1) * 10) * 10 ^ length ds = mul-le-mul_right (10 ^ length ds) (omega arith) in
    let power : (n + 1) * 10 ^ length (d ∷ ds) ≡ ((n + 1) * 10) * 10 ^ length ds = ap (λ (k : ℕ). (n + 1) * k) (pow-succ' 10 (length ds)) ∙ sym (mul_assoc (n + 1) 10 (10 ^ length ds)) in
    omega arith

number_fits : (digits : List ℕ) (number : ℕ) → SpellsNumber digits number → number < 10 ^ 9
number_fits digits number is =
    let value : value_from 0 digits ≡ number = is.value in
    let few : length digits ≤ 9 = is.is.1 in
    let low : value_from 0 digits + 1 ≤ (0 + 1) * 10 ^ length digits = value_below 0 digits is.is.2 in
    let high : 10 ^ length digits ≤ 10 ^ 9 = pow-le-pow_right {n = 10} (omega arith) {i = length digits} {j = 9} few in
    omega arith

-- Ranges.

pub bounds_are : (left right : List ℕ) → codes "[" ++ left ++ codes ":" ++ right ++ codes "]" ≡ 91 ∷ (left ++ 58 ∷ (right ++ 93 ∷ []))
bounds_are left right = simp append_assoc

pub range_again : (bytes : List ℕ) (range : Range) → SpellsBounds bytes range → range_in bytes ≡ Some range
range_again bytes range is =
    let behind = is.right ++ 93 ∷ [] in
    let left : number_first (is.left ++ 58 ∷ behind) ≡ Some (range.left, 58 ∷ behind) = number_again is.left (58 ∷ behind) range.left is.is_left refl in
    let right : number_first (is.right ++ 93 ∷ []) ≡ Some (range.right, 93 ∷ []) = number_again is.right (93 ∷ []) range.right is.is_right refl in
    ap range_in (is.bytes_are ∙ bounds_are is.left is.right)
    ∙ ap (option_and_then (λ (found : ℕ × List ℕ). range_from found.0 found.1)) left
    ∙ ap (option_and_then (range_closed range.left)) right

-- `:`, a number and `]`
record IsRangeFrom (left : ℕ) (bytes : List ℕ) (range : Range) : Type 0 where
  right : List ℕ
  bytes_are : bytes ≡ 58 ∷ (right ++ 93 ∷ [])
  is_right : SpellsNumber right range.right
  is_left : range.left ≡ left

closed_spelled : (left : ℕ) (bytes : List ℕ) (found : ℕ × List ℕ) (range : Range) → IsNumberFirst bytes found → range_closed left found ≡ Some range → IsRangeFrom left (58 ∷ bytes) range
closed_spelled left bytes found range first e = by (bytes_eq found.1 (codes "]")) refl e
  where
    by : (b : Bool) → bytes_eq found.1 (codes "]") ≡ b → (if b then Some (record { left = left; right = found.0 }) else None) ≡ Some range → IsRangeFrom left (58 ∷ bytes) range
    by false is e = absurd (let none : None ≡ Some range = e in cc)
    by true is e =
        let same : record { left = left; right = found.0 } ≡ range = cc in
        let rest : found.1 ≡ codes "]" = (bytes_eq-Decides found.1 (codes "]")).0 is in
        subst (IsRangeFrom left (58 ∷ bytes)) same (record {
          right = first.digits;
          bytes_are = ap (λ (l : List ℕ). 58 ∷ l) (first.bytes_are ∙ ap (λ (l : List ℕ). first.digits ++ l) rest);
          is_right = first.is;
          is_left = refl;
        })

from_spelled : (left : ℕ) (bytes : List ℕ) (range : Range) → range_from left bytes ≡ Some range → IsRangeFrom left bytes range
from_spelled left [] range e = absurd (let none : None ≡ Some range = e in cc)
from_spelled left (b ∷ bytes) range e = colon (b == 58) refl e
  where
    closed : (o : Option (ℕ × List ℕ)) → number_first bytes ≡ o → option_and_then (range_closed left) o ≡ Some range → IsRangeFrom left (58 ∷ bytes) range
    closed None is e = absurd (let none : None ≡ Some range = e in cc)
    closed (Some found) is e = closed_spelled left bytes found range (number_spelled bytes found is) e

    colon : (c : Bool) → (b == 58) ≡ c → (if c then option_and_then (range_closed left) (number_first bytes) else None) ≡ Some range → IsRangeFrom left (b ∷ bytes) range
    colon false is e = absurd (let none : None ≡ Some range = e in cc)
    colon true is e =
        let same : b ≡ 58 = eqb-true b 58 is in
        subst (λ (d : ℕ). IsRangeFrom left (d ∷ bytes) range) (sym same) (closed (number_first bytes) refl e)

pub range_spelled : (bytes : List ℕ) (range : Range) → range_in bytes ≡ Some range → SpellsBounds bytes range
range_spelled [] range e = absurd (let none : None ≡ Some range = e in cc)
range_spelled (b ∷ bytes) range e = bracket (b == 91) refl e
  where
    spelled : (found : ℕ × List ℕ) → IsNumberFirst bytes found → IsRangeFrom found.0 found.1 range → SpellsBounds (91 ∷ bytes) range
    spelled found first from = record {
      left = first.digits;
      right = from.right;
      bytes_are = ap (λ (l : List ℕ). 91 ∷ l) (first.bytes_are ∙ ap (λ (l : List ℕ). first.digits ++ l) from.bytes_are) ∙ sym (bounds_are first.digits from.right);
      is_left = subst (SpellsNumber first.digits) (sym from.is_left) first.is;
      is_right = from.is_right;
    }

    opened : (o : Option (ℕ × List ℕ)) → number_first bytes ≡ o → option_and_then (λ (found : ℕ × List ℕ). range_from found.0 found.1) o ≡ Some range → SpellsBounds (91 ∷ bytes) range
    opened None is e = absurd (let none : None ≡ Some range = e in cc)
    opened (Some found) is e = spelled found (number_spelled bytes found is) (from_spelled found.0 found.1 range e)

    bracket : (c : Bool) → (b == 91) ≡ c → (if c then option_and_then (λ (found : ℕ × List ℕ). range_from found.0 found.1) (number_first bytes) else None) ≡ Some range → SpellsBounds (b ∷ bytes) range
    bracket false is e = absurd (let none : None ≡ Some range = e in cc)
    bracket true is e =
        let same : b ≡ 91 = eqb-true b 91 is in
        subst (λ (d : ℕ). SpellsBounds (d ∷ bytes) range) (sym same) (opened (number_first bytes) refl e)

bounds_fit : (bytes : List ℕ) (range : Range) → SpellsBounds bytes range → IsTreeRange range
bounds_fit bytes range is = record { left = number_fits is.left range.left is.is_left; right = number_fits is.right range.right is.is_right }

-- Ports.

pub name_bytes : (name : List ℕ) → is_port_name name ≡ true → list_all is_name_byte name ≡ true
name_bytes name is = simple name (and_left (is_simple_name name) (not (is_some (reserved_of name)) && nat_le (length name) 255) (and_left (is_cell_name name) (not (bytes_eq name (codes "mux"))) is))
  where
    simple : (name : List ℕ) → is_simple_name name ≡ true → list_all is_name_byte name ≡ true
    simple [] is = refl
    simple (b ∷ bytes) is = and_right (is_letter b) (list_all is_name_byte (b ∷ bytes)) is

behind_stops : (behind : List ℕ) (range : Option Range) → SpellsRange behind range → Stops is_name_byte behind
behind_stops behind None is = subst (Stops is_name_byte) (sym is) tt
behind_stops behind (Some range) is = subst (Stops is_name_byte) (sym (is.bytes_are ∙ bounds_are is.left is.right)) refl

named_again : (dir : BoxDir) (name behind : List ℕ) (range : Option Range) → SpellsRange behind range → port_of dir name behind ≡ Some (port dir name range)
named_again dir name behind None is = ap (port_of dir name) is
named_again dir name behind (Some range) is =
    ap (port_of dir name) there ∙ ap (option_map (λ (r : Range). port dir name (Some r))) (ap range_in (sym there) ∙ range_again behind range is)
  where
    there : behind ≡ 91 ∷ (is.left ++ 58 ∷ (is.right ++ 93 ∷ []))
    there = is.bytes_are ∙ bounds_are is.left is.right

pub port_again : (dir : BoxDir) (word : List ℕ) (p : BoxPort) → SpellsPort dir word p → IsPort p.name → port_in dir word ≡ Some p
port_again dir word p is named =
    let behind = is.behind in
    let front : prefix_len is_name_byte (p.name ++ behind) ≡ length p.name = front_exact is_name_byte p.name behind (name_bytes p.name named) (behind_stops behind p.range is.range) in
    ap (port_in dir) is.word_is
    ∙ ap (λ (n : ℕ). port_named dir (take n (p.name ++ behind)) (drop n (p.name ++ behind))) front
    ∙ ap (λ (name : List ℕ). port_named dir name (drop (length p.name) (p.name ++ behind))) (take-append_seam p.name behind)
    ∙ ap (port_named dir p.name) (drop-append_seam p.name behind)
    ∙ ap (λ (b : Bool). if b then port_of dir p.name behind else None) named
    ∙ named_again dir p.name behind p.range is.range
    ∙ ap (λ (d : BoxDir). Some (port d p.name p.range)) (sym is.dir_is)

-- what is known of the port of a word
pub record IsPortOf (dir : BoxDir) (word : List ℕ) (p : BoxPort) : Type 0 where
  pub spelled : SpellsPort dir word p
  pub sound : IsSoundPort p

of_spelled : (dir : BoxDir) (name behind : List ℕ) (p : BoxPort) → IsPort name → port_of dir name behind ≡ Some p → IsPortOf dir (name ++ behind) p
of_spelled dir name [] p named e =
    let same : port dir name None ≡ p = cc in
    subst (IsPortOf dir (name ++ [])) same (record { spelled = record { behind = []; word_is = refl; range = refl; dir_is = refl }; sound = record { name = named; range = tt } })
of_spelled dir name (b ∷ bytes) p named e = by (range_in (b ∷ bytes)) refl e
  where
    by : (o : Option Range) → range_in (b ∷ bytes) ≡ o → option_map (λ (r : Range). port dir name (Some r)) o ≡ Some p → IsPortOf dir (name ++ b ∷ bytes) p
    by None is e = absurd (let none : None ≡ Some p = e in cc)
    by (Some range) is e =
        let same : port dir name (Some range) ≡ p = cc in
        let spelled = range_spelled (b ∷ bytes) range is in
        subst (IsPortOf dir (name ++ b ∷ bytes)) same (record {
          spelled = record { behind = b ∷ bytes; word_is = refl; range = spelled; dir_is = refl };
          sound = record { name = named; range = bounds_fit (b ∷ bytes) range spelled };
        })

pub port_spelled : (dir : BoxDir) (word : List ℕ) (p : BoxPort) → port_in dir word ≡ Some p → IsPortOf dir word p
port_spelled dir word p e = by (is_port_name name) refl e
  where
    name : List ℕ
    name = take (prefix_len is_name_byte word) word

    behind : List ℕ
    behind = drop (prefix_len is_name_byte word) word

    by : (b : Bool) → is_port_name name ≡ b → (if b then port_of dir name behind else None) ≡ Some p → IsPortOf dir word p
    by false is e = absurd (let none : None ≡ Some p = e in cc)
    by true is e = subst (λ (w : List ℕ). IsPortOf dir w p) (take-append-drop (prefix_len is_name_byte word) word) (of_spelled dir name behind p is e)
