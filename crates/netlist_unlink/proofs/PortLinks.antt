-- The links of an instance, port by port, for any ports that are apart.
use Rattle.std.proofs.Common.{◌≡◌, ℕ, zero, suc, ◌+◌, ◌⊎◌, inl, inr, Bool, true, false, ◌&&◌, ◌||◌, List, [], ◌∷◌, ◌++◌, map, find, length, Option, Some, None, refl, sym, ap, ◌∙◌, arith, append_assoc}
use Rattle.std.specs.Prelude.{slice_get, unwrap_or, is_none, ◌==◌, if◌then◌else◌}
use Rattle.std.specs.Option.{option_map, option_and_then}
use Rattle.std.specs.List.{AllByRecursion, flat_map, list_any}
use Rattle.std.specs.Str.{bytes_eq}
use Rattle.std.proofs.lemmas.Bool.Decides.{eqb_tells}
use Rattle.std.proofs.lemmas.Option.{same_Some, slice_get_within}
use Rattle.list_laws.proofs.Bytes.{bytes_eq-same, bytes_eq-sym}
use Rattle.list_laws.proofs.Lists.{all_append, any_at, before_push, slice_get_there}
use Rattle.list_laws.proofs.Options.{none_along}
use Rattle.verilog_tree.specs.declared.tree.Instance.{Instance}
use Rattle.verilog_tree.specs.declared.tree.Link.{Link}
use Rattle.verilog_tree.specs.declared.tree.Operand.{Operand}
use Rattle.cell_library.specs.declared.listed.ListedCell.{ListedCell}
use Rattle.cell_library.specs.declared.Kind.{Kind}
use Rattle.cell_library.specs.declared.PortPlace.{PortPlace}
use Rattle.cell_library.specs.declared.PortPlace.TheVariants.{Output, Input}
use Rattle.cell_library.specs.Library.{operand_ports, output_port, port_named}
use Rattle.cell_library.specs.Ports.{IsNoneOf, AreApart, HasPorts}
use Rattle.cell_library.proofs.PortLaws.{apart_not_at}
use Rattle.netlist_model.specs.declared.Feed.{Feed}
use Rattle.netlist_model.specs.declared.Feed.TheVariants.{Net, Const}
use Rattle.netlist_model.specs.declared.NetId.{NetId}
use Rattle.link_model.specs.declared.fault.LinkFault.{LinkFault}
use Rattle.link_model.specs.declared.fault.LinkFault.TheVariants as fault
use Rattle.link_model.specs.Lists.{repeated}
use Rattle.link_model.specs.Nets.{Declared, net_of}
use Rattle.link_model.specs.Cells.{feed_of, linked_operand, operand_net, port_feed, port_net}
use Rattle.link_model.specs.Faults.{is_connected, is_output_place, port_missing, port_twice, port_unknown}
use Rattle.link_model.specs.Late.{ControlLink, bit_links, is_control_place}
use Rattle.netlist_unlink.specs.Trees.{Naming, bit_of, operand_links, operand_of, output_links}
use Rattle.netlist_unlink.proofs.Apart.{Apart, NotIn, apart_joined, none_repeated}
use Rattle.netlist_unlink.proofs.Facts.{links_at}
use Rattle.netlist_unlink.proofs.Members.{IsIn, joined_source}

abbrev pub links_of : Naming → List (List ℕ) → Option (List ℕ) → List Feed → Option NetId → List Link
links_of naming ports out feeds output = operand_links naming ports feeds ++ output_links naming out output

-- What is read from the links again.

abbrev is_of : List ℕ → Link → Bool
is_of port link = bytes_eq link.port port

-- what isn't found in front is looked for behind
find_past : (port : List ℕ) (front back : List Link) → find (is_of port) front ≡ None → find (is_of port) (front ++ back) ≡ find (is_of port) back
find_past port [] back none = refl
find_past port (l ∷ front) back none = by (is_of port l) refl none (λ rest. find_past port front back rest)
  where
    by : (b : Bool) → is_of port l ≡ b → find (is_of port) (l ∷ front) ≡ None → (find (is_of port) front ≡ None → find (is_of port) (front ++ back) ≡ find (is_of port) back)
        → find (is_of port) (l ∷ front ++ back) ≡ find (is_of port) back
    by true e none later = absurd (let some : Some l ≡ None = rw e at none in cc)
    by false e none later = let rest : find (is_of port) front ≡ None = rw e at none in rw e (later rest)

-- a link of the port is found where none stands in front
find_here : (port : List ℕ) (front : List Link) (o : Option Operand) (back : List Link) → find (is_of port) front ≡ None
    → linked_operand (front ++ record { port = port; operand = o } ∷ back) port ≡ o
find_here port front o back none =
    ap (option_and_then (λ (l : Link). l.operand)) (find_past port front (record { port = port; operand = o } ∷ back) none) ∙ rw (bytes_eq-same port) refl

-- one link more in front, of another port
front_more : (port other : List ℕ) (o : Option Operand) (front : List Link) → find (is_of port) front ≡ None → bytes_eq other port ≡ false
    → find (is_of port) (front ++ record { port = other; operand = o } ∷ []) ≡ None
front_more port other o front none differ = find_past port front (record { port = other; operand = o } ∷ []) none ∙ rw differ refl

-- none of these ports is found in front
abbrev ArePast : List Link → List (List ℕ) → Type 0
ArePast front ports = AllByRecursion (λ port. find (is_of port) front ≡ None) ports

past_more : (other : List ℕ) (o : Option Operand) (front : List Link) (ports : List (List ℕ)) → ArePast front ports → IsNoneOf other ports
    → ArePast (front ++ record { port = other; operand = o } ∷ []) ports
past_more other o front [] past apart = tt
past_more other o front (port ∷ ports) past apart = (front_more port other o front past.0 apart.0, past_more other o front ports past.1 apart.1)

none_past : (ports : List (List ℕ)) → ArePast [] ports
none_past [] = tt
none_past (port ∷ ports) = (refl, none_past ports)

operands_back : (naming : Naming) (names : List (List ℕ × Declared)) (front : List Link) (ports : List (List ℕ)) (feeds : List Feed) (back : List Link) → length feeds ≡ length ports → ArePast front ports
    → AreApart ports → map (port_feed names (front ++ (operand_links naming ports feeds ++ back))) ports ≡ map (λ (f : Feed). feed_of names (operand_of naming f)) feeds
operands_back naming names front [] [] back e past apart = refl
operands_back naming names front [] (f ∷ feeds) back e past apart = absurd (omega arith)
operands_back naming names front (port ∷ ports) [] back e past apart = absurd (omega arith)
operands_back naming names front (port ∷ ports) (f ∷ feeds) back e past apart =
    let link : Link = record { port = port; operand = Some (operand_of naming f) } in
    let rest : List Link = operand_links naming ports feeds ++ back in
    let here = find_here port front (Some (operand_of naming f)) rest past.0 in
    let later = operands_back naming names (front ++ link ∷ []) ports feeds back (omega arith) (past_more port (Some (operand_of naming f)) front ports past.1 apart.0) apart.1 in
    let whole : (front ++ link ∷ []) ++ rest ≡ front ++ link ∷ rest = append_assoc front (link ∷ []) rest in
    let links : List Link = front ++ link ∷ rest in
    let head : port_feed names links port ≡ feed_of names (operand_of naming f) = ap (λ (x : Option Operand). unwrap_or (option_map (feed_of names) x) (Const false)) here in
    let tail : map (port_feed names links) ports ≡ map (λ (g : Feed). feed_of names (operand_of naming g)) feeds = ap (λ (ls : List Link). map (port_feed names ls) ports) (sym whole) ∙ later in
    ap (λ (x : Feed). x ∷ map (port_feed names links) ports) head ∙ ap (λ (xs : List Feed). feed_of names (operand_of naming f) ∷ xs) tail

no_output : (naming : Naming) (output : List ℕ) (ports : List (List ℕ)) (feeds : List Feed) → IsNoneOf output ports → find (is_of output) (operand_links naming ports feeds) ≡ None
no_output naming output [] feeds apart = refl
no_output naming output (port ∷ ports) [] apart = refl
no_output naming output (port ∷ ports) (f ∷ feeds) apart =
    let differ : bytes_eq port output ≡ false = bytes_eq-sym port output ∙ apart.0 in rw differ (no_output naming output ports feeds apart.1)

output_back : (naming : Naming) (names : List (List ℕ × Declared)) (ports : List (List ℕ)) (feeds : List Feed) (port : List ℕ) (output : Option NetId) → IsNoneOf port ports
    → port_net names (links_of naming ports (Some port) feeds output) port ≡ option_map (λ (net : NetId). net_of names (bit_of naming net)) output
output_back naming names ports feeds port None apart =
    ap (λ (o : Option Link). option_and_then (operand_net names) (option_and_then (λ (l : Link). l.operand) o))
    (find_past port (operand_links naming ports feeds) [] (no_output naming port ports feeds apart))
output_back naming names ports feeds port (Some net) apart =
    ap (option_and_then (operand_net names)) (find_here port (operand_links naming ports feeds) (Some _) [] (no_output naming port ports feeds apart))

-- the operands and the output of a cell come back
pub record AreLinked (naming : Naming) (names : List (List ℕ × Declared)) (k : Kind) (feeds : List Feed) (output : Option NetId) : Type 0 where
  pub operands : map (port_feed names (links_of naming (operand_ports naming.library k) (output_port naming.library k) feeds output)) (operand_ports naming.library k) ≡ map (λ (f : Feed). feed_of names (operand_of naming f)) feeds
  pub out : option_and_then (port_net names (links_of naming (operand_ports naming.library k) (output_port naming.library k) feeds output)) (output_port naming.library k) ≡ option_map (λ (net : NetId). net_of names (bit_of naming net)) output

pub are_linked : (naming : Naming) (names : List (List ℕ × Declared)) (k : Kind) (feeds : List Feed) (output : Option NetId) → HasPorts naming.library k → length feeds ≡ length (operand_ports naming.library k) → AreLinked naming names k feeds output
are_linked naming names k feeds output has e = record {
  operands = operands_back naming names [] (operand_ports naming.library k) feeds (output_links naming (output_port naming.library k) output) e (none_past (operand_ports naming.library k)) has.once;
  out = ap (λ (o : Option (List ℕ)). option_and_then (port_net names (links_of naming (operand_ports naming.library k) o feeds output)) o) has.output_is
      ∙ output_back naming names (operand_ports naming.library k) feeds has.output output has.no_output;
}

-- No fault of the links.

each_port : (P : List ℕ → Type 0) (ports : List (List ℕ)) → ((place : ℕ) (port : List ℕ) → slice_get ports place ≡ Some port → P port) → AllByRecursion P ports
each_port P [] each = tt
each_port P (port ∷ ports) each = (each 0 port refl, each_port P ports (λ place other at. each (suc place) other at))

-- what holds of each link that a port may have
each_link : (P : Link → Type 0) (naming : Naming) (ports : List (List ℕ)) (feeds : List Feed) → AllByRecursion (λ port. (o : Operand) → P (record { port = port; operand = Some o })) ports
    → AllByRecursion P (operand_links naming ports feeds)
each_link P naming [] feeds all = tt
each_link P naming (port ∷ ports) [] all = tt
each_link P naming (port ∷ ports) (f ∷ feeds) all = (all.0 (operand_of naming f), each_link P naming ports feeds all.1)

output_link : (P : Link → Type 0) (naming : Naming) (port : List ℕ) (output : Option NetId) → ((o : Operand) → P (record { port = port; operand = Some o })) → AllByRecursion P (output_links naming (Some port) output)
output_link P naming port None holds = tt
output_link P naming port (Some net) holds = (holds _, tt)

-- what holds of each link of a cell that has its ports
all_links : (P : Link → Type 0) (naming : Naming) (k : Kind) (feeds : List Feed) (output : Option NetId) → (has : HasPorts naming.library k)
    → ((place : ℕ) (port : List ℕ) (o : Operand) → slice_get (operand_ports naming.library k) place ≡ Some port → P (record { port = port; operand = Some o })) → ((o : Operand) → P (record { port = has.output; operand = Some o }))
    → AllByRecursion P (links_of naming (operand_ports naming.library k) (output_port naming.library k) feeds output)
all_links P naming k feeds output has inside out =
    all_append P (operand_links naming (operand_ports naming.library k) feeds) (output_links naming (output_port naming.library k) output)
    (each_link P naming (operand_ports naming.library k) feeds (each_port (λ port. (o : Operand) → P (record { port = port; operand = Some o })) (operand_ports naming.library k) (λ place port at o. inside place port o at)))
    (rw has.output_is (output_link P naming has.output output out))

none_unknown : (naming : Naming) (library name : List ℕ) (k : Kind) (feeds : List Feed) (output : Option NetId) → HasPorts naming.library k
    → port_unknown naming.library (record { cell = library; name = name; links = links_of naming (operand_ports naming.library k) (output_port naming.library k) feeds output }) k ≡ None
none_unknown naming library name k feeds output has =
    let test : Link → Option LinkFault = λ l. if is_none (port_named naming.library k l.port) then Some (fault.PortUnknown name l.port) else None in
    none_along test (links_of naming (operand_ports naming.library k) (output_port naming.library k) feeds output)
    (all_links (λ l. test l ≡ None) naming k feeds output has (λ place port o at. known port (Input place) (has.operand_found place port at)) (λ o. known has.output Output has.output_found))
  where
    known : (port : List ℕ) (place : PortPlace) → port_named naming.library k port ≡ Some place → (if is_none (port_named naming.library k port) then Some (fault.PortUnknown name port) else None) ≡ None
    known port place e = rw e refl

none_open : (port : List ℕ) (links : List Link) → AllByRecursion (λ (l : Link). is_none l.operand ≡ false) links → list_any (λ (l : Link). bytes_eq l.port port && is_none l.operand) links ≡ false
none_open port [] all = refl
none_open port (l ∷ links) all = one (bytes_eq l.port port) (is_none l.operand) all.0 (none_open port links all.1)
  where
    one : (a b : Bool) → b ≡ false → list_any (λ (x : Link). bytes_eq x.port port && is_none x.operand) links ≡ false → ((a && b) || list_any (λ (x : Link). bytes_eq x.port port && is_none x.operand) links) ≡ false
    one true b e rest = rw (e, rest) refl
    one false b e rest = rw rest refl

connected : (naming : Naming) (k : Kind) (feeds : List Feed) (output : Option NetId) → HasPorts naming.library k → length feeds ≡ length (operand_ports naming.library k) → (place : ℕ) (port : List ℕ) → slice_get (operand_ports naming.library k) place ≡ Some port
    → is_connected (links_of naming (operand_ports naming.library k) (output_port naming.library k) feeds output) port ≡ true
connected naming k feeds output has e place port at =
    let low = slice_get_within (operand_ports naming.library k) place port at in
    let feed = slice_get_there feeds place (omega (arith, low, e)) in
    let link : Link = record { port = port; operand = Some (operand_of naming feed.0) } in
    let there = before_push (operand_links naming (operand_ports naming.library k) feeds) (output_links naming (output_port naming.library k) output) link place (links_at naming (operand_ports naming.library k) feeds place port feed.0 at feed.1) in
    let some = any_at (λ (l : Link). bytes_eq l.port port) (links_of naming (operand_ports naming.library k) (output_port naming.library k) feeds output) place link there (bytes_eq-same port) in
    let none = none_open port (links_of naming (operand_ports naming.library k) (output_port naming.library k) feeds output)
    (all_links (λ (l : Link). is_none l.operand ≡ false) naming k feeds output has (λ i p o here. refl) (λ o. refl)) in
    rw (some, none) refl

none_missing : (naming : Naming) (library name : List ℕ) (k : Kind) (feeds : List Feed) (output : Option NetId) → HasPorts naming.library k → length feeds ≡ length (operand_ports naming.library k)
    → port_missing naming.library (record { cell = library; name = name; links = links_of naming (operand_ports naming.library k) (output_port naming.library k) feeds output }) k ≡ None
none_missing naming library name k feeds output has e =
    let links : List Link = links_of naming (operand_ports naming.library k) (output_port naming.library k) feeds output in
    let test : List ℕ → Option LinkFault = λ port. if is_connected links port then None else Some (fault.PortMissing name port) in
    none_along test (operand_ports naming.library k) (each_port (λ port. test port ≡ None) (operand_ports naming.library k) (λ place port at. ap (λ (b : Bool). if b then None else Some (fault.PortMissing name port)) (connected naming k feeds output has e place port at)))

-- no port stands in the links twice

apart_ports : (ports : List (List ℕ)) → AreApart ports → Apart ports
apart_ports [] apart = tt
apart_ports (port ∷ ports) apart = ((λ place at. apart_not_at port ports place apart.0 at), apart_ports ports apart.1)

link_ports : (naming : Naming) (ports : List (List ℕ)) (feeds : List Feed) (back : List Link) → length feeds ≡ length ports
    → map (λ (l : Link). l.port) (operand_links naming ports feeds ++ back) ≡ ports ++ map (λ (l : Link). l.port) back
link_ports naming [] [] back e = refl
link_ports naming [] (f ∷ feeds) back e = absurd (omega arith)
link_ports naming (port ∷ ports) [] back e = absurd (omega arith)
link_ports naming (port ∷ ports) (f ∷ feeds) back e = ap (λ (rest : List (List ℕ)). port ∷ rest) (link_ports naming ports feeds back (omega arith))

with_output : (naming : Naming) (ports : List (List ℕ)) (port : List ℕ) (output : Option NetId) → AreApart ports → IsNoneOf port ports → Apart (ports ++ map (λ (l : Link). l.port) (output_links naming (Some port) output))
with_output naming ports port None apart none = apart_joined ports [] (apart_ports ports apart) tt (λ j name at k there. let bad : None ≡ Some name = there in cc)
with_output naming ports port (Some net) apart none = apart_joined ports (port ∷ []) (apart_ports ports apart) ((λ k at. let bad : None ≡ Some port = at in cc), tt) away
  where
    away : (j : ℕ) (name : List ℕ) → slice_get ports j ≡ Some name → NotIn name (port ∷ [])
    away j name at zero there = apart_not_at port ports j none (at ∙ ap Some (sym (same_Some port name there)))
    away j name at (suc k) there = let bad : None ≡ Some name = there in cc

none_twice : (naming : Naming) (library name : List ℕ) (k : Kind) (feeds : List Feed) (output : Option NetId) → HasPorts naming.library k → length feeds ≡ length (operand_ports naming.library k)
    → port_twice (record { cell = library; name = name; links = links_of naming (operand_ports naming.library k) (output_port naming.library k) feeds output }) k ≡ None
none_twice naming library name k feeds output has e =
    let names = link_ports naming (operand_ports naming.library k) feeds (output_links naming (output_port naming.library k) output) e in
    let apart : Apart (operand_ports naming.library k ++ map (λ (l : Link). l.port) (output_links naming (output_port naming.library k) output)) = rw has.output_is (with_output naming (operand_ports naming.library k) has.output output has.once has.no_output) in
    ap (option_map (fault.PortTwice name)) (ap repeated names ∙ none_repeated (operand_ports naming.library k ++ map (λ (l : Link). l.port) (output_links naming (output_port naming.library k) output)) apart)

-- no fault of an instance's links
pub record HasNoFault (library : List ListedCell) (i : Instance) (k : Kind) : Type 0 where
  pub unknown : port_unknown library i k ≡ None
  pub missing : port_missing library i k ≡ None
  pub twice : port_twice i k ≡ None

pub links_fit : (naming : Naming) (k : Kind) (library name : List ℕ) (feeds : List Feed) (output : Option NetId) → HasPorts naming.library k → length feeds ≡ length (operand_ports naming.library k)
    → HasNoFault naming.library (record { cell = library; name = name; links = links_of naming (operand_ports naming.library k) (output_port naming.library k) feeds output }) k
links_fit naming k library name feeds output has e = record {
  unknown = none_unknown naming library name k feeds output has;
  missing = none_missing naming library name k feeds output has e;
  twice = none_twice naming library name k feeds output has e;
}

-- no port of an operand is an output
abbrev pub AreInputs : List ListedCell → Kind → List (List ℕ) → Type 0
AreInputs library k ports = AllByRecursion (λ port. is_output_place (port_named library k port) ≡ false) ports

pub are_inputs : (library : List ListedCell) (k : Kind) → HasPorts library k → AreInputs library k (operand_ports library k)
are_inputs library k has = each_port (λ port. is_output_place (port_named library k port) ≡ false) (operand_ports library k) (λ place port at. ap is_output_place (has.operand_found place port at))

-- The links of clocks, clears and presets.

-- the link is that of the operand at this place of a control, counted from the first
pub record IsControlAt (naming : Naming) (names : List (List ℕ × Declared)) (first : ℕ) (feeds : List Feed) (link : ControlLink) : Type 0 where
  pub place : ℕ
  pub net : NetId
  pub at : slice_get feeds place ≡ Some (Net net)
  pub control : ((first + place) == 1 || (first + place) == 2) ≡ true
  pub is : link.net ≡ (net_of names (bit_of naming net)).0

abbrev pub control_of : List ListedCell → List (List ℕ × Declared) → List ℕ → Kind → Link → List ControlLink
control_of library names name k l = if is_control_place (port_named library k l.port) then bit_links name names l.operand else []

here_at : (naming : Naming) (names : List (List ℕ × Declared)) (name : List ℕ) (first : ℕ) (feed : Feed) (feeds : List Feed) (b : Bool) (j : ℕ) (link : ControlLink) → ((first + 0) == 1 || (first + 0) == 2) ≡ b
    → slice_get (if b then bit_links name names (Some (operand_of naming feed)) else []) j ≡ Some link → IsControlAt naming names first (feed ∷ feeds) link
here_at naming names name first feed feeds false j link e at = absurd (let bad : None ≡ Some link = at in cc)
here_at naming names name first (Const value) feeds true j link e at = absurd (let bad : None ≡ Some link = at in cc)
here_at naming names name first (Net net) feeds true zero link e at = record {
  place = 0;
  net = net;
  at = refl;
  control = e;
  is = ap (λ (l : ControlLink). l.net) (sym (same_Some (record { flop = name; net = (net_of names (bit_of naming net)).0 }) link at));
}
here_at naming names name first (Net net) feeds true (suc j) link e at = absurd (let bad : None ≡ Some link = at in cc)

operand_controls : (naming : Naming) (names : List (List ℕ × Declared)) (name : List ℕ) (k : Kind) (first : ℕ) (ports : List (List ℕ)) (feeds : List Feed) (back : List Link) (j : ℕ) (link : ControlLink)
    → ((place : ℕ) (port : List ℕ) → slice_get ports place ≡ Some port → port_named naming.library k port ≡ Some (Input (first + place)))
    → slice_get (flat_map (control_of naming.library names name k) (operand_links naming ports feeds ++ back)) j ≡ Some link → IsControlAt naming names first feeds link ⊎ IsIn link (flat_map (control_of naming.library names name k) back)
operand_controls naming names name k first [] feeds back j link found at = inr (j, at)
operand_controls naming names name k first (port ∷ ports) [] back j link found at = inr (j, at)
operand_controls naming names name k first (port ∷ ports) (feed ∷ feeds) back j link found at =
    let l : Link = record { port = port; operand = Some (operand_of naming feed) } in
    elim (joined_source (control_of naming.library names name k l) (flat_map (control_of naming.library names name k) (operand_links naming ports feeds ++ back)) j link at) [
      | inl here ↦
          let same : control_of naming.library names name k l ≡ (if is_control_place (Some (Input (first + 0))) then bit_links name names (Some (operand_of naming feed)) else [])
          = ap (λ (o : Option PortPlace). if is_control_place o then bit_links name names (Some (operand_of naming feed)) else []) (found 0 port refl) in
          inl (here_at naming names name first feed feeds ((first + 0) == 1 || (first + 0) == 2) here.0 link refl (ap (λ (xs : List ControlLink). slice_get xs here.0) (sym same) ∙ here.1))
      | inr there ↦
          elim (operand_controls naming names name k (suc first) ports feeds back there.0 link
          (λ place other o. let next : first + suc place ≡ suc first + place = omega arith in found (suc place) other o ∙ ap (λ (n : ℕ). Some (Input n)) next) there.1) [
            | inl r ↦
                let next : suc first + r.place ≡ first + suc r.place = omega arith in
                inl (record { place = suc r.place; net = r.net; at = r.at; control = ap (λ (n : ℕ). n == 1 || n == 2) (sym next) ∙ r.control; is = r.is })
            | inr back_one ↦ inr back_one
          ]
    ]

no_output_control : (naming : Naming) (names : List (List ℕ × Declared)) (name : List ℕ) (k : Kind) (port : List ℕ) (output : Option NetId) (j : ℕ) (link : ControlLink) → port_named naming.library k port ≡ Some Output
    → slice_get (flat_map (control_of naming.library names name k) (output_links naming (Some port) output)) j ≡ Some link → ⊥
no_output_control naming names name k port None j link out at = let bad : None ≡ Some link = at in cc
no_output_control naming names name k port (Some net) j link out at = let bad : None ≡ Some link = rw out at at in cc

-- each link of a clock, clear or preset is that of operand 1 or 2
pub control_operand : (naming : Naming) (names : List (List ℕ × Declared)) (name : List ℕ) (k : Kind) (feeds : List Feed) (output : Option NetId) (j : ℕ) (link : ControlLink) → HasPorts naming.library k
    → slice_get (flat_map (control_of naming.library names name k) (links_of naming (operand_ports naming.library k) (output_port naming.library k) feeds output)) j ≡ Some link → IsControlAt naming names 0 feeds link
control_operand naming names name k feeds output j link has at =
    elim (operand_controls naming names name k 0 (operand_ports naming.library k) feeds (output_links naming (output_port naming.library k) output) j link
    (λ place port there. let same : place ≡ 0 + place = omega arith in has.operand_found place port there ∙ ap (λ (n : ℕ). Some (Input n)) same) at) [
      | inl one ↦ one
      | inr out ↦
          absurd (no_output_control naming names name k has.output output out.0 link has.output_found
          (ap (λ (o : Option (List ℕ)). slice_get (flat_map (control_of naming.library names name k) (output_links naming o output)) out.0) (sym has.output_is) ∙ out.1))
    ]

pub control_place : (place : ℕ) → ((0 + place) == 1 || (0 + place) == 2) ≡ true → (place ≡ 1) ⊎ (place ≡ 2)
control_place place control =
    let same : place ≡ 0 + place = omega arith in
    let plain : (place == 1 || place == 2) ≡ true = ap (λ (n : ℕ). n == 1 || n == 2) same ∙ control in
    elim (eqb_tells place 1) [
      | inl one ↦ inl one.1
      | inr other ↦ elim (eqb_tells place 2) [
        | inl two ↦ inr two.1
        | inr neither ↦ absurd (let bad : false ≡ true = rw (other.0, neither.0) at plain in cc)
      ]
    ]
