-- Tests along the bits of ports, and along numbers that are counted up.
use Rattle.std.proofs.Common.{◌≡◌, ℕ, suc, ◌+◌, ◌-◌, ◌<◌, ◌≤◌, Bool, true, false, ◌||◌, ◌&&◌, cond, List, [], ◌∷◌, ◌++◌, map, filter, length, take, get_or, Option, Some, None, refl, ap, sym, ◌∙◌, add-one, arith}
use Rattle.std.specs.List.{list_any, filter_map, cons_option}
use Rattle.std.proofs.lemmas.List.Elements.{filter_map-append}
use Rattle.std.proofs.Math.Seq.{take-suc}
use Rattle.list_laws.proofs.Tests.{or_false}
use Rattle.bsdl_device.specs.declared.values.PortRange.{PortRange}
use Rattle.std.proofs.lemmas.List.Folds.{list_any-append}
use Rattle.bsdl_device.specs.declared.written.DeclaredPort.{DeclaredPort}
use Rattle.bsdl_device.specs.declared.entries.PortBit.{PortBit}
use Rattle.bsdl_device.specs.Ports.{counted_from, bits_of, bit_of_port, index_at, indices, width}
use Rattle.bsdl_port_rules.proofs.Repeats.{list_any-map}
use Rattle.bsdl_row_rules.specs.Bits.{some_bit}

-- a test along the bits of the ports that pass another
pub along_bits : (test : PortBit → Bool) (passes : DeclaredPort → Bool) → (ports : List DeclaredPort) → list_any test (bits_of (filter passes ports)) ≡ list_any (λ p. passes p && some_bit test p) ports
along_bits test passes [] = refl
along_bits test passes (p ∷ ps) = by (along_bits test passes ps) (passes p)
  where
    by : list_any test (bits_of (filter passes ps)) ≡ list_any (λ p. passes p && some_bit test p) ps → (b : Bool) → list_any test (bits_of (cond b (p ∷ filter passes ps) (filter passes ps))) ≡ ((b && some_bit test p) || list_any (λ q. passes q && some_bit test q) ps)
    by rest true =
        list_any-append test (map (bit_of_port p.name) (indices p.range)) (bits_of (filter passes ps))
        ∙ ap (λ b. b || list_any test (bits_of (filter passes ps))) (list_any-map test (bit_of_port p.name) (indices p.range))
        ∙ ap (λ b. some_bit test p || b) rest
    by rest false = rest

-- a vector's bits, by the places of their indices
pub along_places : (test : Option ℕ → Bool) (at : ℕ → ℕ) (n : ℕ) → list_any test (map (λ place. Some (at place)) (counted_from 0 n)) ≡ list_any (λ place. test (Some (at place))) (counted_from 0 n)
along_places test at n = list_any-map test (λ place. Some (at place)) (counted_from 0 n)

counted_next : (i n : ℕ) → i < n → counted_from i (n - i) ≡ i ∷ counted_from (i + 1) (n - (i + 1))
counted_next i n h = let e : n - i ≡ suc (n - (i + 1)) = omega arith in ap (counted_from i) e ∙ ap (λ (k : ℕ). i ∷ counted_from k (n - (i + 1))) (sym (add-one i))

pub passed : (test : ℕ → Bool) (i n : ℕ) (whole : Bool) → i < n → test i ≡ false → list_any test (counted_from i (n - i)) ≡ whole → list_any test (counted_from (i + 1) (n - (i + 1))) ≡ whole
passed test i n whole h fails rest =
    sym (ap (λ b. b || list_any test (counted_from (i + 1) (n - (i + 1)))) fails) ∙ sym (ap (list_any test) (counted_next i n h)) ∙ rest

pub met : (test : ℕ → Bool) (i n : ℕ) (whole : Bool) → i < n → test i ≡ true → list_any test (counted_from i (n - i)) ≡ whole → true ≡ whole
met test i n whole h passes rest =
    sym (ap (λ b. b || list_any test (counted_from (i + 1) (n - (i + 1)))) passes) ∙ sym (ap (list_any test) (counted_next i n h)) ∙ rest

pub none_left : (test : ℕ → Bool) (i n : ℕ) (whole : Bool) → n ≤ i → list_any test (counted_from i (n - i)) ≡ whole → false ≡ whole
none_left test i n whole h rest = let e : n - i ≡ 0 = omega arith in sym (ap (λ (k : ℕ). list_any test (counted_from i k)) e) ∙ rest

-- a port of one bit, and a vector
pub at_scalar : (test : PortBit → Bool) (p : DeclaredPort) (name : List ℕ) (b : Bool) → p.range ≡ None → name ≡ p.name → b ≡ test (bit_of_port name None) → b ≡ some_bit test p
at_scalar test p name b scalar same h =
    h ∙ ap (λ (n : List ℕ). test (bit_of_port n None)) same ∙ sym (or_false (test (bit_of_port p.name None)))
    ∙ sym (ap (λ (r : Option PortRange). list_any (λ index. test (bit_of_port p.name index)) (indices r)) scalar)

pub at_vector : (test : PortBit → Bool) (p : DeclaredPort) (name : List ℕ) (range : PortRange) (b : Bool) → p.range ≡ Some range → name ≡ p.name
    → b ≡ list_any (λ place. test (bit_of_port name (Some (index_at range place)))) (counted_from 0 (width (Some range))) → b ≡ some_bit test p
at_vector test p name range b vector same h =
    h ∙ ap (λ (n : List ℕ). list_any (λ place. test (bit_of_port n (Some (index_at range place)))) (counted_from 0 (width (Some range)))) same
    ∙ sym (along_places (λ index. test (bit_of_port p.name index)) (index_at range) (width (Some range)))
    ∙ sym (ap (λ (r : Option PortRange). list_any (λ index. test (bit_of_port p.name index)) (indices r)) vector)

-- one item more
pub filter_map-next : {A B : Type 0} (f : A → Option B) (xs : List A) (i : ℕ) (x : A) → i < length xs → x ≡ get_or xs i x
    → filter_map f (take (i + 1) xs) ≡ filter_map f (take i xs) ++ cons_option (f x) []
filter_map-next {A} f xs i x within is =
    ap (λ (k : ℕ). filter_map f (take k xs)) (add-one i)
    ∙ ap (filter_map f) (take-suc xs i x within)
    ∙ filter_map-append f (take i xs) (get_or xs i x ∷ [])
    ∙ ap (λ (y : A). filter_map f (take i xs) ++ cons_option (f y) []) (sym is)
