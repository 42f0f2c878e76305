-- The written netlist has the ports of the netlist without the test logic, and those of the test access port.
use Rattle.std.proofs.Common.{◌≡◌, ℕ, suc, ◌+◌, ◌<◌, List, [], ◌∷◌, ◌++◌, map, length, refl, sym, ◌∙◌, ap, subst, Option, Some, None, arith}
use Rattle.std.specs.Prelude.{slice_get}
use Rattle.std.proofs.lemmas.List.{length-map}
use Rattle.std.proofs.lemmas.List.Sums.{sum_by-cons}
use Rattle.list_laws.proofs.Lists.{slice_get_there}
use Rattle.link_model.specs.Denoted.{AreAll, NamedPort, name_bytes, IsPort}
use Rattle.netlist_model.specs.declared.Dir.{Dir}
use Rattle.netlist_model.specs.declared.Dir.TheVariants.{Input, Output}
use Rattle.netlist_model.specs.declared.Name.{Name}
use Rattle.netlist_model.specs.declared.Name.TheVariants.{Original, Added}
use Rattle.netlist_model.specs.declared.NetId.{NetId}
use Rattle.netlist_model.specs.declared.Range.{Range}
use Rattle.netlist_model.specs.Lists.{PortView, NetlistView}
use Rattle.netlist_arena.specs.Arena.{bit_count}
use Rattle.netlist_link.specs.Linked.{LinkedView}
use Rattle.netlist_link.specs.WellNamed.{IsWellNamed}
use Rattle.core_sides.specs.netlist_unlink.Trees.{port_text as tree_text}
use Rattle.core_sides.specs.netlist_unlink.Renumbered.{new_net, new_port}
use Rattle.wrapped_chip.specs.Realises.{PortText, port_text, tap_ports as tap_texts}
use Rattle.plan_texts.specs.declared.plan.Plan.{Plan}
use Rattle.core_sides.specs.plan_fitting.declared.fitted.Fitted.{Fitted}
use Rattle.core_sides.specs.plan_fitting.Pins.{PinSeen}
use Rattle.core_sides.specs.plan_fitting.Devices.{fitted_of}
use Rattle.core_sides.specs.stitched_netlist.declared.model.TapNames.{TapNames}
use Rattle.core_sides.specs.stitched_netlist.Stitched.{tap_port, tap_ports, stitched}
use Rattle.written_netlists.specs.Prepared.{AreTapNames}
use Rattle.written_netlists.specs.Written.{spelt, tap_of}
use Rattle.written_netlists.proofs.ModulesLists.{bits_append}

-- a port by the bytes of its name
abbrev text_of : NamedPort → PortText
text_of port = record { name = port.name; dir = port.dir; range = port.range }

-- a port of the netlist as the tree tells it
abbrev pub told : List (List ℕ) → PortView → PortText
told table port = record { name = tree_text table port.name; dir = port.dir; range = port.range }

spelt_at : (table : List (List ℕ)) (name : Name) (bytes : List ℕ) → name_bytes table name ≡ Some bytes → spelt table name ≡ bytes
spelt_at table name bytes e = rw e refl

same_text : (a b : List ℕ) (d e : Dir) (r s : Option Range) → a ≡ b → d ≡ e → r ≡ s
    → ◌≡◌ {A = PortText} (record { name = a; dir = d; range = r }) (record { name = b; dir = e; range = s })
same_text a b d e r s p q t = rw (p, q, t) refl

-- what is read of the written ports
read_ports : (table : List (List ℕ)) (ports : List PortView) (named : List NamedPort) → AreAll (IsPort table) ports named → map (port_text (spelt table)) ports ≡ map text_of named
read_ports table [] [] all = refl
read_ports table [] (n ∷ named) all = absurd all
read_ports table (p ∷ ports) [] all = absurd all
read_ports table (p ∷ ports) (n ∷ named) all =
    ap (λ (t : PortText). t ∷ map (port_text (spelt table)) ports) (same_text (spelt table p.name) n.name p.dir n.dir p.range n.range (spelt_at table p.name n.name all.0.name) all.0.dir all.0.range)
    ∙ ap (λ (ts : List PortText). text_of n ∷ ts) (read_ports table ports named all.1)

written_ports : (table : List (List ℕ)) (order : List ℕ) (ports : List PortView) → map text_of (map (new_port table order) ports) ≡ map (told table) ports
written_ports table order [] = refl
written_ports table order (p ∷ ports) = ap (λ (ts : List PortText). told table p ∷ ts) (written_ports table order ports)

told_append : (table : List (List ℕ)) (ps qs : List PortView) → map (told table) (ps ++ qs) ≡ map (told table) ps ++ map (told table) qs
told_append table [] qs = refl
told_append table (p ∷ ps) qs = ap (λ (ts : List PortText). told table p ∷ ts) (told_append table ps qs)

-- an original name that was there is told as before
told_before : (old table : List (List ℕ)) (name : Name) (number : ℕ) → ((k : ℕ) (bytes : List ℕ) → slice_get old k ≡ Some bytes → slice_get table k ≡ Some bytes)
    → name ≡ Original number → number < length old → tree_text table name ≡ spelt old name
told_before old table name number kept is low =
    let there = slice_get_there old number low in
    let before : spelt old (Original number) ≡ there.0 = spelt_at old (Original number) there.0 there.1 in
    let after : tree_text table (Original number) ≡ there.0 = after_is table number there.0 (kept number there.0 there.1) in
    subst (λ (n : Name). tree_text table n ≡ spelt old n) (sym is) (after ∙ sym before)
  where
    after_is : (table : List (List ℕ)) (number : ℕ) (bytes : List ℕ) → slice_get table number ≡ Some bytes → tree_text table (Original number) ≡ bytes
    after_is table number bytes e = rw e refl

same_ports : (old table : List (List ℕ)) (ports : List PortView) → ((k : ℕ) (bytes : List ℕ) → slice_get old k ≡ Some bytes → slice_get table k ≡ Some bytes)
    → ((p : ℕ) (port : PortView) → slice_get ports p ≡ Some port → (number : ℕ) × (port.name ≡ Original number) × (number < length old))
    → map (told table) ports ≡ map (port_text (spelt old)) ports
same_ports old table [] kept named = refl
same_ports old table (p ∷ ports) kept named =
    let own = named 0 p refl in
    ap (λ (bytes : List ℕ). record { name = bytes; dir = p.dir; range = p.range } ∷ map (told table) ports) (told_before old table p.name own.0 kept own.1 own.2)
    ∙ ap (λ (ts : List PortText). port_text (spelt old) p ∷ ts) (same_ports old table ports kept (λ k q at. named (suc k) q at))

-- a scalar port
abbrev line : List ℕ → Dir → PortText
line name dir = record { name = name; dir = dir; range = None }

-- a name of the test access port is told by its bytes
told_tap : (table : List (List ℕ)) (name : Name) (bytes : List ℕ) → name_bytes table name ≡ Some bytes → tree_text table name ≡ bytes
told_tap table (Original number) bytes e = rw e refl
told_tap table (Added number) bytes e = absurd (let no : None ≡ Some bytes = e in cc)

same_taps : (table : List (List ℕ)) (L : LinkedView) (p : Plan) (seen : List PinSeen) (names : TapNames) (first : ℕ) → AreTapNames table (fitted_of L p seen) names
    → map (told table) (tap_ports names (tap_port first)) ≡ tap_texts (tap_of p)
same_taps table L p seen names first are =
    five (tree_text table names.tck) (tree_text table names.tms) (tree_text table names.tdi) (tree_text table names.tdo) (tree_text table names.trst) p.tck.name p.tms.name p.tdi.name p.tdo.name p.trst.name
    (told_tap table names.tck p.tck.name are.tck) (told_tap table names.tms p.tms.name are.tms) (told_tap table names.tdi p.tdi.name are.tdi) (told_tap table names.tdo p.tdo.name are.tdo)
    (told_tap table names.trst p.trst.name are.trst)
  where
    five : (a b c d e a' b' c' d' e' : List ℕ) → a ≡ a' → b ≡ b' → c ≡ c' → d ≡ d' → e ≡ e'
        → line a Input ∷ line b Input ∷ line c Input ∷ line d Output ∷ line e Input ∷ [] ≡ line a' Input ∷ line b' Input ∷ line c' Input ∷ line d' Output ∷ line e' Input ∷ []
    five a b c d e a' b' c' d' e' p q r s t = rw (p, q, r, s, t) refl

-- All ports.

pub ports_kept : (L : LinkedView) (p : Plan) (seen : List PinSeen) (M : NetlistView) (table written : List (List ℕ)) (order : List ℕ) (names : TapNames) → IsWellNamed L.names L.arena.lists
    → ((k : ℕ) (bytes : List ℕ) → slice_get L.names k ≡ Some bytes → slice_get table k ≡ Some bytes) → AreTapNames table (fitted_of L p seen) names
    → AreAll (IsPort written) M.ports (map (new_port table order) (stitched L.arena.lists names (fitted_of L p seen)).ports)
    → map (port_text (spelt written)) M.ports ≡ map (port_text (spelt L.names)) L.arena.lists.ports ++ tap_texts (tap_of p)
ports_kept L p seen M table written order names well kept are all =
    let N : NetlistView = L.arena.lists in
    let taps : List PortView = tap_ports names (tap_port (length N.nets)) in
    read_ports written M.ports (map (new_port table order) (N.ports ++ taps)) all ∙ written_ports table order (N.ports ++ taps) ∙ told_append table N.ports taps
    ∙ ap (λ (ts : List PortText). ts ++ map (told table) taps) (same_ports L.names table N.ports kept well.port_names)
    ∙ ap (λ (ts : List PortText). map (port_text (spelt L.names)) N.ports ++ ts) (same_taps table L p seen names (length N.nets) are)

-- Their bits.

read_bits : (table written : List (List ℕ)) (order : List ℕ) (ports old : List PortView) → AreAll (IsPort written) ports (map (new_port table order) old) → bit_count ports ≡ bit_count old
read_bits table written order [] [] all = refl
read_bits table written order [] (q ∷ old) all = absurd all
read_bits table written order (p ∷ ports) [] all = absurd all
read_bits table written order (p ∷ ports) (q ∷ old) all =
    let here : length p.nets ≡ length q.nets = ap (λ (nets : List NetId). length nets) all.0.nets ∙ length-map q.nets (new_net order) in
    let rest = read_bits table written order ports old all.1 in
    let a = sum_by-cons (λ (port : PortView). length port.nets) p ports in
    let b = sum_by-cons (λ (port : PortView). length port.nets) q old in
    omega arith

pub bits_kept : (N M : NetlistView) (f : Fitted) (table written : List (List ℕ)) (order : List ℕ) (names : TapNames) → AreAll (IsPort written) M.ports (map (new_port table order) (stitched N names f).ports)
    → bit_count M.ports ≡ bit_count N.ports + 5
bits_kept N M f table written order names all =
    let taps : List PortView = tap_ports names (tap_port (length N.nets)) in
    let five : bit_count taps ≡ 5 = refl in
    let read = read_bits table written order M.ports (N.ports ++ taps) all in
    let both = bits_append N.ports taps in
    omega arith
