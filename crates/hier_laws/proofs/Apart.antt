-- Each net of the flat module is one bit of one place.
use Rattle.std.proofs.Common.{◌≡◌, ℕ, zero, suc, ◌+◌, ◌-◌, ◌<◌, ◌≤◌, Bool, true, false, cond, nat_le, List, [], ◌∷◌, ◌++◌, map, Option, Some, None, slice_get, refl, sym, ap, ◌∙◌, arith, inl, inr, leb-true}
use Rattle.std.proofs.lemmas.Bool.{leb-false}
use Rattle.std.specs.Map.{lookup}
use Rattle.std.specs.Str.{bytes_eq}
use Rattle.std.proofs.lemmas.List.Sums.{sum_by-append}
use Rattle.list_laws.proofs.Bytes.{bytes_eq-same}
use Rattle.verilog_tree.specs.declared.tree.Range.{Range}
use Rattle.verilog_tree.specs.declared.tree.Bit.{Bit}
use Rattle.verilog_tree.specs.declared.tree.Module.{Module}
use Rattle.link_model.specs.Lists.{repeated, repeated_after}
use Rattle.link_model.specs.Nets.{Declared, NetDeclaration, width, index_at, offset, net_in, bits_in, declared_nets, declared_names, declared_as, names_from}
use Rattle.hier_model.specs.Names.{flat_name}
use Rattle.hier_model.specs.Entries.{Place, places, opened_places}
use Rattle.hier_model.specs.Flat.{flat}
use Rattle.hier_laws.specs.Solves.{own_net, IsOwnBit}
use Rattle.hier_laws.specs.SolutionsLaws.{bits_before}
use Rattle.hier_laws.proofs.Blocks.{Listed, found_listed, listed_found, listed_whole, shifted, keys, keys_from, bits_cons, block, block_bits, blocks, blocks_first, whole_nets}

-- Places one after another.

pub blocks_apart : (ps : List Place) (j k : ℕ) (p q : Place) (a c : ℕ) → slice_get ps j ≡ Some p → slice_get ps k ≡ Some q → a < bits_in (declared_nets p.here) → c < bits_in (declared_nets q.here)
    → bits_before ps j + a ≡ bits_before ps k + c → (p ≡ q) × (a ≡ c)
blocks_apart [] j k p q a c x y l m e = absurd (cc)
blocks_apart (r ∷ ps) zero zero p q a c x y l m e = (cc, omega (arith, e))
blocks_apart (r ∷ ps) zero (suc k) p q a c x y l m e =
    let is : r ≡ p = cc in
    let same : bits_in (declared_nets r.here) ≡ bits_in (declared_nets p.here) = ap (λ (z : Place). bits_in (declared_nets z.here)) is in
    absurd (omega (arith, l, e, same))
blocks_apart (r ∷ ps) (suc j) zero p q a c x y l m e =
    let is : r ≡ q = cc in
    let same : bits_in (declared_nets r.here) ≡ bits_in (declared_nets q.here) = ap (λ (z : Place). bits_in (declared_nets z.here)) is in
    absurd (omega (arith, m, e, same))
blocks_apart (r ∷ ps) (suc j) (suc k) p q a c x y l m e = blocks_apart ps j k p q a c x y l m (omega (arith, e))

-- the bits of all places
abbrev pub bits_of_places : List Place → ℕ
bits_of_places [] = 0
bits_of_places (p ∷ ps) = bits_in (declared_nets p.here) + bits_of_places ps

pub record BitAt (ps : List Place) (net : ℕ) : Type 0 where
  pub number : ℕ
  pub at_place : Place
  pub own : ℕ
  pub there : slice_get ps number ≡ Some at_place
  pub within : own < bits_in (declared_nets at_place.here)
  pub is : net ≡ bits_before ps number + own

pub bit_at : (ps : List Place) (net : ℕ) → net < bits_of_places ps → BitAt ps net
bit_at [] net less = absurd (omega (arith, less))
bit_at (p ∷ ps) net less = go (nat_le (suc net) (bits_in (declared_nets p.here))) refl (λ n l. bit_at ps n l)
  where
    go : (b : Bool) → nat_le (suc net) (bits_in (declared_nets p.here)) ≡ b → ((n : ℕ) → n < bits_of_places ps → BitAt ps n) → BitAt (p ∷ ps) net
    go true e later = record { number = zero; at_place = p; own = net; there = refl; within = omega (arith, leb-true (suc net) (bits_in (declared_nets p.here)) e); is = omega arith }
    go false e later =
        let far : bits_in (declared_nets p.here) ≤ net = omega (arith, leb-false (suc net) (bits_in (declared_nets p.here)) e) in
        let t = later (net - bits_in (declared_nets p.here)) (omega (arith, less, far)) in
        record { number = suc t.number; at_place = t.at_place; own = t.own; there = t.there; within = t.within; is = omega (arith, t.is, far) }

bits_append : (xs ys : List NetDeclaration) → bits_in (xs ++ ys) ≡ bits_in xs + bits_in ys
bits_append xs ys = sum_by-append (λ (n : NetDeclaration). width n.range) xs ys

bits_blocks : (ps : List Place) → bits_in (blocks ps) ≡ bits_of_places ps
unfolding blocks
bits_blocks [] = refl
bits_blocks (p ∷ ps) = ap bits_in (blocks_first p ps) ∙ bits_append (block p) (blocks ps) ∙ omega (arith, block_bits p, bits_blocks ps)

pub whole_bits : (modules : List Module) (top : Module) → bits_in (declared_nets (flat modules top)) ≡ bits_of_places (places modules top)
whole_bits modules top = ap bits_in (whole_nets modules top) ∙ bits_append (declared_nets top) (blocks (opened_places modules top)) ∙ ap (λ (n : ℕ). bits_in (declared_nets top) + n) (bits_blocks (opened_places modules top))

-- The bit of an own net.

abbrev Names : Type 0
Names = List (List ℕ × Declared)

record NetIn (first : ℕ) (nets : List NetDeclaration) (net : ℕ) : Type 0 where
  pub name : List ℕ
  pub declared : Declared
  pub offset_in : ℕ
  pub listed : Listed name declared (names_from first nets)
  pub within : offset_in < width declared.range
  pub is : first + net ≡ declared.first + offset_in

net_among : (first : ℕ) (nets : List NetDeclaration) (net : ℕ) → net < bits_in nets → NetIn first nets net
net_among first [] net less = absurd (omega (arith, less))
net_among first (n ∷ nets) net less = go (nat_le (suc net) (width n.range)) refl (λ f k l. net_among f nets k l)
  where
    go : (b : Bool) → nat_le (suc net) (width n.range) ≡ b → ((f k : ℕ) → k < bits_in nets → NetIn f nets k) → NetIn first (n ∷ nets) net
    go true e later = record { name = n.name; declared = record { first = first; range = n.range }; offset_in = net; listed = inl (refl, refl); within = omega (arith, leb-true (suc net) (width n.range) e); is = refl }
    go false e later =
        let far : width n.range ≤ net = omega (arith, leb-false (suc net) (width n.range) e) in
        let t = later (first + width n.range) (net - width n.range) (omega (arith, less, far, bits_cons n nets)) in
        record { name = t.name; declared = t.declared; offset_in = t.offset_in; listed = inr t.listed; within = t.within; is = omega (arith, t.is, far) }

pub index_there : (d : Declared) (k : ℕ) → k < width d.range → net_in (Some d) (index_at d.range k) ≡ d.first + k
index_there d k less = by d.range less
  where
    by : (r : Option Range) → k < width r → net_in (Some (record { first = d.first; range = r })) (index_at r k) ≡ d.first + k
    by None l = omega (arith, l)
    by (Some r) l = go (nat_le r.left r.right) refl
      where
        go : (b : Bool) → nat_le r.left r.right ≡ b → d.first + offset (Some r) (cond b (r.left + k) (r.left - k)) ≡ d.first + k
        go true e = omega (arith, leb-true r.left r.right e)
        go false e = omega (arith, l, leb-false r.left r.right e)

pub listed_some : (name : List ℕ) (d : Declared) (es : Names) → Listed name d es → (c : Declared) × (lookup (bytes_eq name) es ≡ Some c)
listed_some name d [] h = absurd h
listed_some name d (e ∷ es) (inl h) = (e.1, ap (λ (b : Bool). cond b (Some e.1) (lookup (bytes_eq name) es)) (ap (bytes_eq name) h.0 ∙ bytes_eq-same name))
listed_some name d (e ∷ es) (inr h) = go (bytes_eq name e.0) (listed_some name d es h)
  where
    go : (b : Bool) → (c : Declared) × (lookup (bytes_eq name) es ≡ Some c) → (c : Declared) × (cond b (Some e.1) (lookup (bytes_eq name) es) ≡ Some c)
    go true t = (e.1, refl)
    go false t = t

-- two declarations of one name at a place are one, where no name stands twice in the whole
pub same_declared : (modules : List Module) (top : Module) (j : ℕ) (p : Place) (name : List ℕ) (c d : Declared) → repeated (map (λ (n : NetDeclaration). n.name) (declared_nets (flat modules top))) ≡ None → slice_get (places modules top) j ≡ Some p
    → Listed name c (declared_names p.here) → Listed name d (declared_names p.here) → c ≡ d
same_declared modules top j p name c d once there one other =
    let names = declared_names (flat modules top) in
    let only : repeated_after [] (keys names) ≡ None = ap (repeated_after []) (keys_from 0 (declared_nets (flat modules top))) ∙ once in
    let first : ℕ = bits_before (places modules top) j in
    let a : lookup (bytes_eq (flat_name p.at name)) names ≡ Some (shifted first c) = listed_found [] (flat_name p.at name) (shifted first c) names only (listed_whole modules top j p name c there one) in
    let b : lookup (bytes_eq (flat_name p.at name)) names ≡ Some (shifted first d) = listed_found [] (flat_name p.at name) (shifted first d) names only (listed_whole modules top j p name d there other) in
    let both : ◌≡◌ {A = Option Declared} (Some (shifted first c)) (Some (shifted first d)) = sym a ∙ b in
    let whole : shifted first c ≡ shifted first d = cc in
    let start : c.first ≡ d.first = omega (arith, ap (λ (x : Declared). x.first) whole) in
    ap (λ (n : ℕ). let x : Declared = record { first = n; range = c.range } in x) start
    ∙ ap (λ (r : Option Range). let x : Declared = record { first = d.first; range = r } in x) (ap (λ (x : Declared). x.range) whole)

pub record BitOf (m : Module) (net : ℕ) : Type 0 where
  pub bit : Bit
  pub own : IsOwnBit m bit
  pub is : own_net m bit ≡ net

pub bit_of : (modules : List Module) (top : Module) (j : ℕ) (p : Place) (net : ℕ) → repeated (map (λ (n : NetDeclaration). n.name) (declared_nets (flat modules top))) ≡ None → slice_get (places modules top) j ≡ Some p → net < bits_in (declared_nets p.here) → BitOf p.here net
bit_of modules top j p net once there less = by (net_among 0 (declared_nets p.here) net less)
  where
    by : NetIn 0 (declared_nets p.here) net → BitOf p.here net
    by t =
        let s = listed_some t.name t.declared (declared_names p.here) t.listed in
        let same : s.0 ≡ t.declared = same_declared modules top j p t.name s.0 t.declared once there (found_listed t.name s.0 (declared_names p.here) s.1) t.listed in
        let found : declared_as (declared_names p.here) t.name ≡ Some t.declared = s.1 ∙ ap (λ (x : Declared). Some x) same in
        let value : own_net p.here (record { net = t.name; index = index_at t.declared.range t.offset_in }) ≡ t.declared.first + t.offset_in = ap (λ (o : Option Declared). net_in o (index_at t.declared.range t.offset_in)) found ∙ index_there t.declared t.offset_in t.within in
        record {
          bit = record { net = t.name; index = index_at t.declared.range t.offset_in };
          own = record { declared = t.declared; found = found; within = omega (arith, value, t.within) };
          is = value ∙ omega (arith, t.is);
        }
