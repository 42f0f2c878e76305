-- The nets of shown bits, port after port, and that each is there once.
use Rattle.std.proofs.Common.{◌≡◌, ◌≢◌, ◌⊎◌, ℕ, zero, suc, ◌+◌, ◌-◌, ◌<◌, ◌≤◌, List, [], ◌∷◌, ◌++◌, length, take, Option, Some, None, refl, sym, ap, ◌∙◌, inl, inr, arith, append-nil, append_assoc}
use Rattle.std.specs.List.{slice_get, flat_map}
use Rattle.std.specs.Option.{option_and_then, option_map}
use Rattle.std.proofs.lemmas.Bool.{cases_lt}
use Rattle.list_laws.proofs.Lists.{slice_get-append_left, slice_get-append_right, taken_more}
use Rattle.netlist_model.specs.declared.NetId.{NetId}
use Rattle.netlist_model.specs.declared.Dir.{Dir}
use Rattle.netlist_model.specs.declared.Dir.TheVariants.{Input, Output, Inout}
use Rattle.netlist_model.specs.Lists.{PortView, NetlistView}
use Rattle.netlist_model.specs.Formed.{IsLaidOut, IsWellFormed}
use Rattle.event_sim.specs.Shown.{shown_of, shown_nets, shown_at}

abbrev shown : PortView → List NetId
shown port = shown_of port.dir port.nets

flat_map_push : {X Z : Type 0} (f : X → List Z) (xs : List X) (x : X) → flat_map f (xs ++ x ∷ []) ≡ flat_map f xs ++ f x
flat_map_push f [] x = append-nil (f x)
flat_map_push {Z = Z} f (y ∷ ys) x = ap (λ (l : List Z). f y ++ l) (flat_map_push f ys x) ∙ sym (append_assoc (f y) (flat_map f ys) (f x))

past : (xs : List PortView) (k : ℕ) → k < length xs → slice_get xs k ≡ None → ⊥
past [] k below at = omega arith
past (x ∷ xs) zero below at = let no : Some x ≡ None = at in cc
past (x ∷ xs) (suc k) below at = past xs k (omega arith) at

-- one port more
pub shown_next : (ports : List PortView) (place : ℕ) → place < length ports → flat_map shown (take place ports) ++ shown_at (slice_get ports place) ≡ flat_map shown (take (place + 1) ports)
shown_next ports place below = go (slice_get ports place) refl
  where
    go : (found : Option PortView) → slice_get ports place ≡ found → flat_map shown (take place ports) ++ shown_at found ≡ flat_map shown (take (place + 1) ports)
    go None at = absurd (past ports place below at)
    go (Some port) at =
        sym (flat_map_push shown (take place ports) port)
        ∙ ap (λ (ps : List PortView). flat_map shown ps) (taken_more ports place port (take place ports) (take place ports ++ port ∷ []) at refl refl)

-- what was looked up of a port
pub none_shown : (found : Option PortView) (old : List NetId) → option_map (λ (p : PortView). p.dir) found ≡ Some Input → old ≡ old ++ shown_at found
none_shown None old dir = absurd (cc)
none_shown (Some port) old dir = let is : port.dir ≡ Input = cc in rw is (sym (append-nil old))

pub output_shown : (found : Option PortView) (nets old new : List NetId) → option_map (λ (p : PortView). p.dir) found ≡ Some Output → option_map (λ (p : PortView). p.nets) found ≡ Some nets
    → new ≡ old ++ nets → new ≡ old ++ shown_at found
output_shown None nets old new dirs own is = absurd (cc)
output_shown (Some port) nets old new dirs own is = let d : port.dir ≡ Output = cc in let n : port.nets ≡ nets = cc in rw (d, n) is

pub inout_shown : (found : Option PortView) (nets old new : List NetId) → option_map (λ (p : PortView). p.dir) found ≡ Some Inout → option_map (λ (p : PortView). p.nets) found ≡ Some nets
    → new ≡ old ++ nets → new ≡ old ++ shown_at found
inout_shown None nets old new dirs own is = absurd (cc)
inout_shown (Some port) nets old new dirs own is = let d : port.dir ≡ Inout = cc in let n : port.nets ≡ nets = cc in rw (d, n) is

-- the bit of a port that has a net
abbrev bit_in : List PortView → ℕ → ℕ → Option NetId
bit_in ports p j = option_and_then (λ (port : PortView). slice_get port.nets j) (slice_get ports p)

pub record IsShownAt (ports : List PortView) (net : NetId) : Type 0 where
  pub port : ℕ
  pub bit : ℕ
  pub at : bit_in ports port bit ≡ Some net

own_bit : (dir : Dir) (nets : List NetId) (k : ℕ) (net : NetId) → slice_get (shown_of dir nets) k ≡ Some net → slice_get nets k ≡ Some net
own_bit Input nets k net at = absurd (let no : None ≡ Some net = at in cc)
own_bit Output nets k net at = at
own_bit Inout nets k net at = at

right : (xs ys : List NetId) (k : ℕ) (net : NetId) → length xs ≤ k → slice_get (xs ++ ys) k ≡ Some net → slice_get ys (k - length xs) ≡ Some net
right xs ys k net late at = sym (slice_get-append_right xs ys k (k - length xs) (omega arith)) ∙ at

pub shown_in : (ports : List PortView) (k : ℕ) (net : NetId) → slice_get (flat_map shown ports) k ≡ Some net → IsShownAt ports net
shown_in [] k net at = absurd (let no : None ≡ Some net = at in cc)
shown_in (p ∷ ps) k net at =
    elim (cases_lt k (length (shown p))) [
      | inl early ↦ record { port = 0; bit = k; at = own_bit p.dir p.nets k net (sym (slice_get-append_left (shown p) (flat_map shown ps) k early) ∙ at) }
      | inr late ↦ (let rest = shown_in ps (k - length (shown p)) net (right (shown p) (flat_map shown ps) k net late at) in
          record { port = suc rest.port; bit = rest.bit; at = rest.at })
    ]

abbrev AreApart : List PortView → Type 0
AreApart ports = (p q j k : ℕ) (net : NetId) → bit_in ports p j ≡ Some net → bit_in ports q k ≡ Some net → (p ≡ q) × (j ≡ k)

once : (ports : List PortView) → AreApart ports → (i j : ℕ) (net : NetId) → slice_get (flat_map shown ports) i ≡ Some net → slice_get (flat_map shown ports) j ≡ Some net → i ≡ j
once [] apart i j net a b = absurd (let no : None ≡ Some net = a in cc)
once (p ∷ ps) apart i j net a b =
    elim (cases_lt i (length (shown p))) [
      | inl i_early ↦ elim (cases_lt j (length (shown p))) [
        | inl j_early ↦ (apart 0 0 i j net (first i i_early a) (first j j_early b)).1
        | inr j_late ↦ absurd (crossed i j i_early j_late a b)
      ]
      | inr i_late ↦ elim (cases_lt j (length (shown p))) [
        | inl j_early ↦ absurd (crossed j i j_early i_late b a)
        | inr j_late ↦ (let same = once ps (λ q r m n x at there. (let both = apart (suc q) (suc r) m n x at there in (let e = both.0 in omega arith, both.1)))
            (i - length (shown p)) (j - length (shown p)) net (rest i i_late a) (rest j j_late b) in omega arith)
      ]
    ]
  where
    first : (k : ℕ) → k < length (shown p) → slice_get (shown p ++ flat_map shown ps) k ≡ Some net → bit_in (p ∷ ps) 0 k ≡ Some net
    first k early at = own_bit p.dir p.nets k net (sym (slice_get-append_left (shown p) (flat_map shown ps) k early) ∙ at)

    rest : (k : ℕ) → length (shown p) ≤ k → slice_get (shown p ++ flat_map shown ps) k ≡ Some net → slice_get (flat_map shown ps) (k - length (shown p)) ≡ Some net
    rest k late at = right (shown p) (flat_map shown ps) k net late at

    crossed : (k l : ℕ) → k < length (shown p) → length (shown p) ≤ l → slice_get (shown p ++ flat_map shown ps) k ≡ Some net → slice_get (shown p ++ flat_map shown ps) l ≡ Some net → ⊥
    crossed k l early late at there =
        let back = shown_in ps (l - length (shown p)) net (rest l late there) in
        let both = apart 0 (suc back.port) k back.bit net (first k early at) back.at in
        (let e = both.0 in omega arith)

pub shown_once : (N : NetlistView) → IsWellFormed N → (i j : ℕ) (net : NetId) → slice_get (shown_nets N) i ≡ Some net → slice_get (shown_nets N) j ≡ Some net → i ≡ j
shown_once N formed = once N.ports (λ p q j k net at there. formed.bits_apart p q j k net at there)

pub shown_below : (N : NetlistView) → IsLaidOut N → (k : ℕ) (net : NetId) → slice_get (shown_nets N) k ≡ Some net → net.0 < length N.nets
shown_below N laid k net at = (let s = shown_in N.ports k net at in laid.port_nets s.port s.bit net s.at)
