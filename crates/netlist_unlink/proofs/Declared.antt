-- Declarations of nets under names that differ: each net is the one that its own bit names.
use Rattle.std.proofs.Common.{◌≡◌, ℕ, zero, suc, ◌+◌, ◌-◌, ◌<◌, ◌≤◌, Bool, true, false, List, [], ◌∷◌, map, refl, ap, sym, ◌∙◌, subst, Option, Some, None, arith}
use Rattle.std.specs.Prelude.{slice_get, nat_le}
use Rattle.std.specs.Option.{option_map}
use Rattle.std.specs.Str.{bytes_eq}
use Rattle.std.proofs.lemmas.Option.{same_Some, slice_get-map}
use Rattle.std.proofs.lemmas.Bool.Decides.{nat_tests}
use Rattle.list_laws.proofs.Bytes.{bytes_eq-same}
use Rattle.verilog_tree.specs.declared.tree.Range.{Range}
use Rattle.verilog_tree.specs.declared.tree.Bit.{Bit}
use Rattle.link_model.specs.Nets.{Declared, NamedNet, NetDeclaration, declared_as, index_at, is_within, names_from, net_at, net_in, net_of, nets_in, offset, width}
use Rattle.link_model.specs.Faults.{at_bit, bit_outside, name_unknown, wrong_width}
use Rattle.netlist_link.proofs.Named.{bit_in, start}
use Rattle.netlist_unlink.proofs.Apart.{Apart, bytes_differ}

abbrev pub names : List NetDeclaration → List (List ℕ)
names nets = map (λ (n : NetDeclaration). n.name) nets

-- the bit by which a named net is written
abbrev pub bit_named : NamedNet → Bit
bit_named net = record { net = net.name; index = net.index }

-- what is declared under the name of the declaration at a place
declared_at : (nets : List NetDeclaration) (first d : ℕ) (net : NetDeclaration) → Apart (names nets) → slice_get nets d ≡ Some net
    → declared_as (names_from first nets) net.name ≡ Some (record { first = first + start nets d; range = net.range })
declared_at [] first d net apart at = absurd (cc)
declared_at (n ∷ nets) first zero net apart at =
    let same : n ≡ net = same_Some n net at in
    let here : bytes_eq net.name n.name ≡ true = ap (bytes_eq net.name) (ap (λ (x : NetDeclaration). x.name) same) ∙ bytes_eq-same net.name in
    let place : first ≡ first + 0 = omega arith in
    rw here (ap (λ (x : NetDeclaration). Some (record { first = first; range = x.range })) same ∙ ap (λ (k : ℕ). Some (record { first = k; range = net.range })) place)
declared_at (n ∷ nets) first (suc d) net apart at =
    let there : slice_get (names nets) d ≡ Some net.name = slice_get-map (λ (x : NetDeclaration). x.name) nets d ∙ ap (option_map (λ (x : NetDeclaration). x.name)) at in
    let here : bytes_eq net.name n.name ≡ false = bytes_differ net.name n.name (λ same. apart.0 d (there ∙ ap Some same)) in
    let rest = declared_at nets (first + width n.range) d net apart.1 at in
    let place : first + width n.range + start nets d ≡ first + (width n.range + start nets d) = omega arith in
    rw here (rest ∙ ap (λ (k : ℕ). Some (record { first = k; range = net.range })) place)

-- a place of a range, and its index
index_back : (range : Range) (bit : ℕ) → bit < width (Some range)
    → (index : ℕ) × (index_at (Some range) bit ≡ Some index) × (offset (Some range) index ≡ bit) × (is_within range index ≡ true)
index_back range bit within = go (nat_le range.left range.right) refl
  where
    rising : (left right bit : ℕ) → left ≤ right → bit < right - left + 1 → is_within (record { left = left; right = right }) (left + bit) ≡ true
    rising left right bit up less = grind (arith, nat_tests)

    falling : (left right bit : ℕ) → right < left → bit < left - right + 1 → is_within (record { left = left; right = right }) (left - bit) ≡ true
    falling left right bit down less = grind (arith, nat_tests)

    go : (b : Bool) → nat_le range.left range.right ≡ b → (index : ℕ) × (index_at (Some range) bit ≡ Some index) × (offset (Some range) index ≡ bit) × (is_within range index ≡ true)
    go true e =
        let up : range.left ≤ range.right = grind (arith, nat_tests) in
        (range.left + bit, rw e refl, omega arith, rising range.left range.right bit up (omega arith))
    go false e =
        let down : range.right < range.left = grind (arith, nat_tests) in
        (range.left - bit, rw e refl, omega arith, falling range.left range.right bit down (omega arith))

-- what is known of the bit of a net
pub record IsFound (decls : List (List ℕ × Declared)) (bit : Bit) (net : ℕ) : Type 0 where
  pub is : net_of decls bit ≡ record { 0 = net }
  pub known : at_bit name_unknown decls bit ≡ None
  pub inside : at_bit bit_outside decls bit ≡ None
  pub narrow : at_bit wrong_width decls bit ≡ None

at_place : (declaration : NetDeclaration) (first bit : ℕ) (o : Option Declared) → o ≡ Some (record { first = first; range = declaration.range }) → bit < width declaration.range
    → (net_in o (net_at declaration bit).index ≡ first + bit) × (name_unknown (bit_named (net_at declaration bit)) o ≡ None) × (bit_outside (bit_named (net_at declaration bit)) o ≡ None)
    × (wrong_width (bit_named (net_at declaration bit)) o ≡ None)
at_place declaration first bit o is within = rw is (by_range declaration.range within)
  where
    by_range : (range : Option Range) → bit < width range
        → (net_in (Some (record { first = first; range = range })) (index_at range bit) ≡ first + bit)
        × (name_unknown (record { net = declaration.name; index = index_at range bit }) (Some (record { first = first; range = range })) ≡ None)
        × (bit_outside (record { net = declaration.name; index = index_at range bit }) (Some (record { first = first; range = range })) ≡ None)
        × (wrong_width (record { net = declaration.name; index = index_at range bit }) (Some (record { first = first; range = range })) ≡ None)
    by_range None less = (omega arith, refl, refl, refl)
    by_range (Some range) less =
        let back = index_back range bit less in
        let index : ℕ = back.0 in
        let place = back.2 in
        let P : Option ℕ → Type 0 = λ o. (net_in (Some (record { first = first; range = Some range })) o ≡ first + bit)
        × (name_unknown (record { net = declaration.name; index = o }) (Some (record { first = first; range = Some range })) ≡ None)
        × (bit_outside (record { net = declaration.name; index = o }) (Some (record { first = first; range = Some range })) ≡ None)
        × (wrong_width (record { net = declaration.name; index = o }) (Some (record { first = first; range = Some range })) ≡ None) in
        subst P (sym back.1) (ap (λ (k : ℕ). first + k) place, refl, rw back.3 refl, refl)

-- where no two declarations have the same name, the net at a place is the one that its bit names
pub net_found : (nets : List NetDeclaration) (net : ℕ) (named : NamedNet) → Apart (names nets) → slice_get (nets_in nets) net ≡ Some named
    → IsFound (names_from 0 nets) (bit_named named) net
net_found nets net named apart at =
    let b = bit_in nets net named at in
    let declared = declared_at nets 0 b.d b.declaration apart b.there in
    let zeroth : 0 + start nets b.d ≡ start nets b.d = omega arith in
    let here = at_place b.declaration (start nets b.d) b.bit (declared_as (names_from 0 nets) b.declaration.name) (declared ∙ ap (λ (k : ℕ). Some (record { first = k; range = b.declaration.range })) zeroth) b.within in
    let P : NamedNet → Type 0 = λ n. IsFound (names_from 0 nets) (bit_named n) net in
    let found : P (net_at b.declaration b.bit) = record {
      is = ap (λ (k : ℕ). record { 0 = k }) (here.0 ∙ sym b.at);
      known = here.1;
      inside = here.2;
      narrow = here.3;
    } in
    rw b.is found
