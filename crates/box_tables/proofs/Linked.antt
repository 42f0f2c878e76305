-- What the first link of a port that isn't empty connects.
use Rattle.std.proofs.Common.{◌≡◌, ℕ, ◌<◌, Bool, true, false, cond, if◌then◌else◌, find, filter, get_or, position, List, [], ◌∷◌, length, Option, Some, None, Bor, refl, ap, sym, ◌∙◌, arith}
use Rattle.std.specs.Prelude.{option_and_then}
use Rattle.std.specs.Str.{bytes_eq}
use Rattle.std.proofs.lemmas.List.{length-map, get_or-map}
use Rattle.list_laws.proofs.Bytes.{bytes_eq-sym}
use Rattle.verilog_tree.specs.declared.tree.Link.{Link}
use Rattle.verilog_tree.specs.declared.tree.Operand.{Operand}
use Rattle.box_model.specs.Ports.{linked_to}
use Rattle.box_tables.specs.Links.{is_linked, link_names, lent_links}
use Rattle.box_tables.proofs.Places.{found_at, found_nowhere, position_low}

abbrev operand_of : Option Link → Option Operand
operand_of l = option_and_then (λ (k : Link). k.operand) l

abbrev first_linked : List Link → List ℕ → Option Operand
first_linked links name = operand_of (find (λ (l : Link). bytes_eq name l.port) (filter is_linked links))

either_same : {X : Type 0} (b : Bool) (x y : X) → x ≡ y → (if b then x else x) ≡ y
either_same true x y e = e
either_same false x y e = e

here_or_behind : (b c : Bool) (l : Link) (o : Operand) (links : List Link) (name : List ℕ) → b ≡ c → l.operand ≡ Some o → linked_to links name ≡ first_linked links name
    → (if b then Some o else linked_to links name) ≡ operand_of (cond c (Some l) (find (λ (k : Link). bytes_eq name k.port) (filter is_linked links)))
here_or_behind true true l o links name e is behind = sym is
here_or_behind true false l o links name e is behind = absurd (cc)
here_or_behind false true l o links name e is behind = absurd (cc)
here_or_behind false false l o links name e is behind = behind

linked_step : (port : List ℕ) (o : Option Operand) (links : List Link) (name : List ℕ) → linked_to links name ≡ first_linked links name
    → linked_to (record { port = port; operand = o } ∷ links) name ≡ first_linked (record { port = port; operand = o } ∷ links) name
linked_step port None links name behind = either_same (bytes_eq port name) (linked_to links name) (first_linked links name) behind
linked_step port (Some o) links name behind = here_or_behind (bytes_eq port name) (bytes_eq name port) (record { port = port; operand = Some o }) o links name (bytes_eq-sym port name) refl behind

linked_first : (links : List Link) (name : List ℕ) → linked_to links name ≡ first_linked links name
linked_first [] name = refl
linked_first (l ∷ links) name = linked_step l.port l.operand links name (linked_first links name)

pub linked_nowhere : (links : List Link) (names : List (List ℕ)) (port : List ℕ) → names ≡ link_names (filter is_linked links) → None ≡ position (bytes_eq port) names → None ≡ linked_to links port
linked_nowhere links names port same none =
    ap operand_of (found_nowhere (λ (l : Link). l.port) (filter is_linked links) names port same none) ∙ sym (linked_first links port)

same_length : (links : List Link) (linked : List (Bor Link)) (names : List (List ℕ)) → lent_links linked ≡ filter is_linked links → names ≡ link_names (filter is_linked links) → length names ≡ length linked
same_length links linked names are same =
    ap (λ (l : List (List ℕ)). length l) same
    ∙ length-map (filter is_linked links) (λ (l : Link). l.port)
    ∙ ap (λ (l : List Link). length l) (sym are)
    ∙ length-map linked (λ (l : Bor Link). l.now)

pub linked_low : (links : List Link) (linked : List (Bor Link)) (names : List (List ℕ)) (port : List ℕ) (i : ℕ) → lent_links linked ≡ filter is_linked links → names ≡ link_names (filter is_linked links)
    → Some i ≡ position (bytes_eq port) names → i < length linked
linked_low links linked names port i are same place =
    let low = position_low (bytes_eq port) names i place in
    let long = same_length links linked names are same in
    omega (arith, low, long)

pub linked_at : (links : List Link) (linked : List (Bor Link)) (names : List (List ℕ)) (port : List ℕ) (i : ℕ) (l : Bor Link) → lent_links linked ≡ filter is_linked links → names ≡ link_names (filter is_linked links)
    → Some i ≡ position (bytes_eq port) names → l ≡ get_or linked i l → l.now.operand ≡ linked_to links port
linked_at links linked names port i l are same place is =
    let low = linked_low links linked names port i are same place in
    let here : l.now ≡ get_or (filter is_linked links) i l.now =
    ap (λ (k : Bor Link). k.now) is ∙ sym (get_or-map (λ (k : Bor Link). k.now) linked i l l.now low) ∙ ap (λ (ls : List Link). get_or ls i l.now) are in
    ap operand_of (found_at (λ (k : Link). k.port) (filter is_linked links) names port i l.now same place here) ∙ sym (linked_first links port)
