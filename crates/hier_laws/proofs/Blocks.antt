-- The nets of the flat module stand in blocks, one for each place.
use Rattle.std.proofs.Common.{◌≡◌, ℕ, zero, suc, ◌+◌, Bool, true, false, cond, List, [], ◌∷◌, ◌++◌, map, Option, Some, None, slice_get, refl, sym, ap, subst, ◌∙◌, arith, append_assoc, ◌⊎◌, inl, inr}
use Rattle.std.specs.List.{flat_map, list_any}
use Rattle.std.specs.Map.{lookup}
use Rattle.std.specs.Str.{bytes_eq}
use Rattle.std.specs.Cmp.Lexicographic.{bytes_decides}
use Rattle.std.proofs.lemmas.List.{map-append}
use Rattle.std.proofs.lemmas.List.Sums.{sum_by-append}
use Rattle.std.proofs.lemmas.List.Folds.{list_any-append}
use Rattle.list_laws.proofs.Bytes.{bytes_eq-same}
use Rattle.list_laws.proofs.Tests.{or_first, or_second}
use Rattle.texts.proofs.Tables.{not_before}
use Rattle.verilog_tree.specs.declared.tree.Port.{Port}
use Rattle.verilog_tree.specs.declared.tree.Wire.{Wire}
use Rattle.verilog_tree.specs.declared.tree.Module.{Module}
use Rattle.link_model.specs.Lists.{has_name, repeated_after}
use Rattle.link_model.specs.Nets.{Declared, NetDeclaration, port_nets, wire_nets, declared_nets, declared_names, declared_as, names_from, bits_in, width, net_in}
use Rattle.hier_model.specs.Names.{flat_name}
use Rattle.hier_model.specs.Entries.{Place, place, places, opened_places}
use Rattle.hier_model.specs.Flat.{flat, place_wires}
use Rattle.hier_laws.specs.SolutionsLaws.{bits_before, PlacesResolve}

abbrev Names : Type 0
Names = List (List ℕ × Declared)

-- An entry stands in a table.
abbrev pub Listed : List ℕ → Declared → Names → Type 0
Listed name d [] = ⊥
Listed name d (e ∷ es) = ((e.0 ≡ name) × (e.1 ≡ d)) ⊎ Listed name d es

listed_front : (name : List ℕ) (d : Declared) (xs ys : Names) → Listed name d xs → Listed name d (xs ++ ys)
listed_front name d [] ys h = absurd h
listed_front name d (x ∷ xs) ys (inl h) = inl h
listed_front name d (x ∷ xs) ys (inr h) = inr (listed_front name d xs ys h)

listed_back : (name : List ℕ) (d : Declared) (xs ys : Names) → Listed name d ys → Listed name d (xs ++ ys)
listed_back name d [] ys h = h
listed_back name d (x ∷ xs) ys h = inr (listed_back name d xs ys h)

-- what is found stands there
pub found_listed : (name : List ℕ) (d : Declared) (es : Names) → lookup (bytes_eq name) es ≡ Some d → Listed name d es
found_listed name d [] h = absurd (cc)
found_listed name d (e ∷ es) h = go (bytes_eq name e.0) refl (found_listed name d es) h
  where
    go : (b : Bool) → bytes_eq name e.0 ≡ b → (lookup (bytes_eq name) es ≡ Some d → Listed name d es) → cond b (Some e.1) (lookup (bytes_eq name) es) ≡ Some d → Listed name d (e ∷ es)
    go true is later found = inl (sym ((bytes_decides name e.0).0 is), cc)
    go false is later found = inr (later found)

unfoldable pub keys : Names → List (List ℕ)
keys es = map (λ (e : List ℕ × Declared). e.0) es

-- a name among names that don't repeat isn't one of those before
pub apart : (before : List (List ℕ)) (name : List ℕ) (d : Declared) (es : Names) → repeated_after before (keys es) ≡ None → Listed name d es → has_name before name ≡ false
unfolding keys
apart before name d [] once h = absurd h
apart before name d (e ∷ es) once (inl h) = ap (has_name before) (sym h.0) ∙ (not_before before (keys es) e.0 once).0
apart before name d (e ∷ es) once (inr h) =
    let later = apart (before ++ e.0 ∷ []) name d es (not_before before (keys es) e.0 once).1 h in
    or_first (has_name before name) (list_any (bytes_eq name) (e.0 ∷ [])) (sym (list_any-append (bytes_eq name) before (e.0 ∷ [])) ∙ later)

-- where names don't repeat, an entry is what is found under its name
pub listed_found : (before : List (List ℕ)) (name : List ℕ) (d : Declared) (es : Names) → repeated_after before (keys es) ≡ None → Listed name d es → lookup (bytes_eq name) es ≡ Some d
unfolding keys
listed_found before name d [] once h = absurd h
listed_found before name d (e ∷ es) once (inl h) = ap (λ (b : Bool). cond b (Some e.1) (lookup (bytes_eq name) es)) (ap (bytes_eq name) h.0 ∙ bytes_eq-same name) ∙ ap (λ (x : Declared). Some x) h.1
listed_found before name d (e ∷ es) once (inr h) =
    let rest = (not_before before (keys es) e.0 once).1 in
    let later = apart (before ++ e.0 ∷ []) name d es rest h in
    let here : list_any (bytes_eq name) (e.0 ∷ []) ≡ false = or_second (has_name before name) (list_any (bytes_eq name) (e.0 ∷ [])) (sym (list_any-append (bytes_eq name) before (e.0 ∷ [])) ∙ later) in
    ap (λ (b : Bool). cond b (Some e.1) (lookup (bytes_eq name) es)) (or_first (bytes_eq name e.0) false here)
    ∙ listed_found (before ++ e.0 ∷ []) name d es rest h

-- Tables of declarations.

abbrev name_of : NetDeclaration → List ℕ
name_of n = n.name

pub keys_from : (first : ℕ) (nets : List NetDeclaration) → keys (names_from first nets) ≡ map name_of nets
unfolding keys
keys_from first [] = refl
keys_from first (n ∷ nets) = ap (λ (l : List (List ℕ)). n.name ∷ l) (keys_from (first + width n.range) nets)

pub bits_cons : (n : NetDeclaration) (nets : List NetDeclaration) → bits_in (n ∷ nets) ≡ width n.range + bits_in nets
bits_cons n nets = omega (arith, sum_by-append (λ (m : NetDeclaration). width m.range) (n ∷ []) nets)

names_append : (first : ℕ) (xs ys : List NetDeclaration) → names_from first (xs ++ ys) ≡ names_from first xs ++ names_from (first + bits_in xs) ys
names_append first [] ys = ap (λ (n : ℕ). names_from n ys) (omega arith)
names_append first (x ∷ xs) ys =
    let same : (first + width x.range) + bits_in xs ≡ first + bits_in (x ∷ xs) = omega (arith, bits_cons x xs) in
    ap (λ (l : Names). (x.name, record { first = first; range = x.range }) ∷ l) (names_append (first + width x.range) xs ys ∙ ap (λ (n : ℕ). names_from (first + width x.range) xs ++ names_from n ys) same)

-- a declaration of a place below the top, as the flat module has it
abbrev below : List (List ℕ) → NetDeclaration → NetDeclaration
below at n = record { name = flat_name at n.name; range = n.range; dir = None }

abbrev pub shifted : ℕ → Declared → Declared
shifted first d = record { first = first + d.first; range = d.range }

listed_below : (at : List (List ℕ)) (start first : ℕ) (nets : List NetDeclaration) (name : List ℕ) (d : Declared) → Listed name d (names_from first nets) → Listed (flat_name at name) (shifted start d) (names_from (start + first) (map (below at) nets))
listed_below at start first [] name d h = absurd h
listed_below at start first (n ∷ nets) name d (inl h) = inl (ap (flat_name at) h.0, ap (shifted start) h.1)
listed_below at start first (n ∷ nets) name d (inr h) =
    let same : start + (first + width n.range) ≡ (start + first) + width n.range = omega arith in
    let P : ℕ → Type 0 = λ k. Listed (flat_name at name) (shifted start d) (names_from k (map (below at) nets)) in
    inr (subst P same (listed_below at start (first + width n.range) nets name d h))

-- The block of a place.

abbrev pub block : Place → List NetDeclaration
block p = map wire_nets (place_wires p)

ports_below : (at : List (List ℕ)) (ports : List Port) → map wire_nets (map (λ (port : Port). record { name = flat_name at port.name; range = port.range }) ports) ≡ map (below at) (map port_nets ports)
ports_below at [] = refl
ports_below at (p ∷ ports) = ap (λ (l : List NetDeclaration). below at (port_nets p) ∷ l) (ports_below at ports)

wires_below : (at : List (List ℕ)) (wires : List Wire) → map wire_nets (map (λ (wire : Wire). record { name = flat_name at wire.name; range = wire.range }) wires) ≡ map (below at) (map wire_nets wires)
wires_below at [] = refl
wires_below at (w ∷ wires) = ap (λ (l : List NetDeclaration). below at (wire_nets w) ∷ l) (wires_below at wires)

block_is : (p : Place) → block p ≡ map (below p.at) (declared_nets p.here)
block_is p =
    map-append wire_nets (map (λ (port : Port). record { name = flat_name p.at port.name; range = port.range }) p.here.ports) (map (λ (wire : Wire). record { name = flat_name p.at wire.name; range = wire.range }) p.here.wires)
    ∙ rw (ports_below p.at p.here.ports, wires_below p.at p.here.wires) (sym (map-append (below p.at) (map port_nets p.here.ports) (map wire_nets p.here.wires)))

bits_below : (at : List (List ℕ)) (nets : List NetDeclaration) → bits_in (map (below at) nets) ≡ bits_in nets
bits_below at [] = refl
bits_below at (n ∷ nets) = omega (arith, bits_cons (below at n) (map (below at) nets), bits_cons n nets, bits_below at nets)

pub block_bits : (p : Place) → bits_in (block p) ≡ bits_in (declared_nets p.here)
block_bits p = ap bits_in (block_is p) ∙ bits_below p.at (declared_nets p.here)

unfoldable pub blocks : List Place → List NetDeclaration
blocks ps = map wire_nets (flat_map place_wires ps)

pub blocks_first : (p : Place) (ps : List Place) → blocks (p ∷ ps) ≡ block p ++ blocks ps
unfolding blocks
blocks_first p ps = map-append wire_nets (place_wires p) (flat_map place_wires ps)

-- what is declared at a place stands in its block
listed_blocks : (ps : List Place) (start k : ℕ) (p : Place) (name : List ℕ) (d : Declared) → slice_get ps k ≡ Some p → Listed name d (declared_names p.here) → Listed (flat_name p.at name) (shifted (start + bits_before ps k) d) (names_from start (blocks ps))
listed_blocks [] start k p name d there h = absurd (cc)
listed_blocks (q ∷ ps) start zero p name d there h =
    let is : q ≡ p = cc in
    let here : start + 0 ≡ start = omega arith in
    let P : List NetDeclaration → Type 0 = λ l. Listed (flat_name p.at name) (shifted (start + 0) d) (names_from start l) in
    let Q : ℕ → Type 0 = λ n. Listed (flat_name p.at name) (shifted (start + 0) d) (names_from n (map (below p.at) (declared_nets p.here))) in
    let R : Place → Type 0 = λ r. Listed (flat_name p.at name) (shifted (start + 0) d) (names_from start (block r)) in
    let inside : Listed (flat_name p.at name) (shifted (start + 0) d) (names_from start (block p)) = subst P (sym (block_is p)) (subst Q (omega arith) (listed_below p.at (start + 0) 0 (declared_nets p.here) name d h)) in
    let S : Names → Type 0 = λ l. Listed (flat_name p.at name) (shifted (start + 0) d) l in
    subst S (sym (ap (names_from start) (blocks_first q ps) ∙ names_append start (block q) (blocks ps))) (listed_front (flat_name p.at name) (shifted (start + 0) d) (names_from start (block q)) (names_from (start + bits_in (block q)) (blocks ps)) (subst R (sym is) inside))
listed_blocks (q ∷ ps) start (suc k) p name d there h =
    let later = listed_blocks ps (start + bits_in (block q)) k p name d there h in
    let same : (start + bits_in (block q)) + bits_before ps k ≡ start + (bits_in (declared_nets q.here) + bits_before ps k) = omega (arith, block_bits q) in
    let P : ℕ → Type 0 = λ n. Listed (flat_name p.at name) (shifted n d) (names_from (start + bits_in (block q)) (blocks ps)) in
    let S : Names → Type 0 = λ l. Listed (flat_name p.at name) (shifted (start + (bits_in (declared_nets q.here) + bits_before ps k)) d) l in
    subst S (sym (ap (names_from start) (blocks_first q ps) ∙ names_append start (block q) (blocks ps))) (listed_back (flat_name p.at name) (shifted (start + (bits_in (declared_nets q.here) + bits_before ps k)) d) (names_from start (block q)) (names_from (start + bits_in (block q)) (blocks ps)) (subst P same later))

-- The whole.

pub whole_nets : (modules : List Module) (top : Module) → declared_nets (flat modules top) ≡ declared_nets top ++ blocks (opened_places modules top)
unfolding blocks
whole_nets modules top =
    ap (λ (l : List NetDeclaration). map port_nets top.ports ++ l) (map-append wire_nets top.wires (flat_map place_wires (opened_places modules top)))
    ∙ sym (append_assoc (map port_nets top.ports) (map wire_nets top.wires) (map wire_nets (flat_map place_wires (opened_places modules top))))

whole_names : (modules : List Module) (top : Module) → declared_names (flat modules top) ≡ declared_names top ++ names_from (bits_in (declared_nets top)) (blocks (opened_places modules top))
whole_names modules top = ap (names_from 0) (whole_nets modules top) ∙ names_append 0 (declared_nets top) (blocks (opened_places modules top)) ∙ ap (λ (n : ℕ). declared_names top ++ names_from n (blocks (opened_places modules top))) (omega arith)

pub listed_whole : (modules : List Module) (top : Module) (k : ℕ) (p : Place) (name : List ℕ) (d : Declared) → slice_get (places modules top) k ≡ Some p → Listed name d (declared_names p.here)
    → Listed (flat_name p.at name) (shifted (bits_before (places modules top) k) d) (declared_names (flat modules top))
listed_whole modules top zero p name d there h =
    let is : place [] top ≡ p = cc in
    let P : Place → Type 0 = λ q. Listed name d (declared_names q.here) in
    let Q : Place → Type 0 = λ q. Listed (flat_name q.at name) (shifted 0 d) (declared_names (flat modules top)) in
    let front : Listed name d (declared_names (flat modules top)) = let S : Names → Type 0 = λ l. Listed name d l in subst S (sym (whole_names modules top)) (listed_front name d (declared_names top) (names_from (bits_in (declared_nets top)) (blocks (opened_places modules top))) (subst P (sym is) h)) in
    let zero_first : d ≡ shifted 0 d = ap (λ (n : ℕ). let x : Declared = record { first = n; range = d.range } in x) (omega arith) in
    let R : Declared → Type 0 = λ x. Listed name x (declared_names (flat modules top)) in
    subst Q is (subst R zero_first front)
listed_whole modules top (suc k) p name d there h =
    let S : Names → Type 0 = λ l. Listed (flat_name p.at name) (shifted (bits_in (declared_nets top) + bits_before (opened_places modules top) k) d) l in
    subst S (sym (whole_names modules top)) (listed_back (flat_name p.at name) _ (declared_names top) (names_from (bits_in (declared_nets top)) (blocks (opened_places modules top))) (listed_blocks (opened_places modules top) (bits_in (declared_nets top)) k p name d there h))

net_shifted : (start : ℕ) (d : Declared) (index : Option ℕ) → net_in (Some (shifted start d)) index ≡ start + net_in (Some d) index
net_shifted start d None = refl
net_shifted start d (Some i) = omega arith

pub places_resolve : PlacesResolve
places_resolve modules top once k p b d there declared =
    let names = declared_names (flat modules top) in
    let only : repeated_after [] (keys names) ≡ None = ap (repeated_after []) (keys_from 0 (declared_nets (flat modules top))) ∙ once in
    let found : declared_as names (flat_name p.at b.net) ≡ Some (shifted (bits_before (places modules top) k) d) = listed_found [] (flat_name p.at b.net) _ names only (listed_whole modules top k p b.net d there (found_listed b.net d (declared_names p.here) declared)) in
    ap (λ (o : Option Declared). net_in o b.index) found
    ∙ net_shifted (bits_before (places modules top) k) d b.index
    ∙ ap (λ (o : Option Declared). bits_before (places modules top) k + net_in o b.index) (sym declared)
