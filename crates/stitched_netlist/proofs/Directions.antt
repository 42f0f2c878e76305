-- The directions of nets in the netlist with the test logic.
use Rattle.std.proofs.Common.{◌≡◌, ◌≢◌, inl, inr, ℕ, ◌+◌, ◌≤◌, ◌==◌, true, false, List, [], ◌∷◌, ◌++◌, length, refl, sym, ◌∙◌, arith, eq-eqb, Option, Some, None}
use Rattle.std.proofs.lemmas.Bool.Decides.{eqb_tells}
use Rattle.netlist_model.specs.declared.Name.{Name}
use Rattle.netlist_model.specs.declared.NetId.{NetId}
use Rattle.netlist_model.specs.declared.Dir.{Dir}
use Rattle.netlist_model.specs.declared.Dir.TheVariants.{Input, Output}
use Rattle.netlist_model.specs.Lists.{PortView, direction}
use Rattle.netlist_model.specs.Ports.{DirectionHasBit}
use Rattle.gate_parts.proofs.Ports.{dir_stays, dir_of_more, no_port_past}
use Rattle.stitched_netlist.specs.declared.model.TapNames.{TapNames}
use Rattle.stitched_netlist.specs.declared.model.TapPort.{TapPort}
use Rattle.stitched_netlist.specs.Stitched.{scalar, tap_ports, tap_port}
use Rattle.stitched_netlist.specs.PlacesLaws.{port_of}
use Rattle.stitched_netlist.specs.Directions.{StitchedDirections}

-- Ports behind others.

same_before : (ports more : List PortView) (net : ℕ) (found : Option Dir) → direction ports net ≡ found → direction more net ≡ None → direction (ports ++ more) net ≡ direction ports net
same_before ports more net None e none = dir_of_more ports more net e ∙ none ∙ sym e
same_before ports more net (Some dir) e none = dir_stays ports more net dir e ∙ sym e

-- A scalar port.

hit : (name : Name) (dir : Dir) (net : NetId) (ports : List PortView) (other : ℕ) → net.0 ≡ other → direction (scalar name dir net ∷ ports) other ≡ Some dir
hit name dir net ports other e = let here : (net.0 == other) ≡ true = eq-eqb net.0 other e in rw here refl

miss : (name : Name) (dir : Dir) (net : NetId) (ports : List PortView) (other : ℕ) → net.0 ≢ other → direction (scalar name dir net ∷ ports) other ≡ direction ports other
miss name dir net ports other apart = elim (eqb_tells net.0 other) [
  | inl h ↦ absurd (apart h.1)
  | inr h ↦ (let here : (net.0 == other) ≡ false = h.0 in rw here refl)
]

-- the ports behind each of the test access port
abbrev behind_trst : List PortView
behind_trst = []

abbrev behind_tdo : TapNames → TapPort → List PortView
behind_tdo names port = scalar names.trst Input port.trst ∷ []

abbrev behind_tdi : TapNames → TapPort → List PortView
behind_tdi names port = scalar names.tdo Output port.tdo ∷ behind_tdo names port

abbrev behind_tms : TapNames → TapPort → List PortView
behind_tms names port = scalar names.tdi Input port.tdi ∷ behind_tdi names port

abbrev behind_tck : TapNames → TapPort → List PortView
behind_tck names port = scalar names.tms Input port.tms ∷ behind_tms names port

past_tck : (n : ℕ) (names : TapNames) (net : ℕ) → n ≢ net → direction (tap_ports names (tap_port n)) net ≡ direction (behind_tck names (tap_port n)) net
past_tck n names net a = miss names.tck Input (tap_port n).tck (behind_tck names (tap_port n)) net a

past_tms : (n : ℕ) (names : TapNames) (net : ℕ) → n ≢ net → n + 1 ≢ net → direction (tap_ports names (tap_port n)) net ≡ direction (behind_tms names (tap_port n)) net
past_tms n names net a b = past_tck n names net a ∙ miss names.tms Input (tap_port n).tms (behind_tms names (tap_port n)) net b

past_tdi : (n : ℕ) (names : TapNames) (net : ℕ) → n ≢ net → n + 1 ≢ net → n + 2 ≢ net
    → direction (tap_ports names (tap_port n)) net ≡ direction (behind_tdi names (tap_port n)) net
past_tdi n names net a b c = past_tms n names net a b ∙ miss names.tdi Input (tap_port n).tdi (behind_tdi names (tap_port n)) net c

past_tdo : (n : ℕ) (names : TapNames) (net : ℕ) → n ≢ net → n + 1 ≢ net → n + 2 ≢ net → n + 3 ≢ net
    → direction (tap_ports names (tap_port n)) net ≡ direction (behind_tdo names (tap_port n)) net
past_tdo n names net a b c d = past_tdi n names net a b c ∙ miss names.tdo Output (tap_port n).tdo (behind_tdo names (tap_port n)) net d

no_tap : (n : ℕ) (names : TapNames) (net : ℕ) → n ≢ net → n + 1 ≢ net → n + 2 ≢ net → n + 3 ≢ net → n + 4 ≢ net → direction (tap_ports names (tap_port n)) net ≡ None
no_tap n names net a b c d e = past_tdo n names net a b c d ∙ miss names.trst Input (tap_port n).trst behind_trst net e

record TapDirections (n : ℕ) (ports : List PortView) : Type 0 where
  tck : direction ports n ≡ Some Input
  tms : direction ports (n + 1) ≡ Some Input
  tdi : direction ports (n + 2) ≡ Some Input
  tdo : direction ports (n + 3) ≡ Some Output
  trst : direction ports (n + 4) ≡ Some Input

tap_directions : (n : ℕ) (names : TapNames) → TapDirections n (tap_ports names (tap_port n))
tap_directions n names =
    let port : TapPort = tap_port n in
    record {
      tck = hit names.tck Input port.tck (behind_tck names port) n refl;
      tms = past_tck n names (n + 1) (λ e. omega arith) ∙ hit names.tms Input port.tms (behind_tms names port) (n + 1) refl;
      tdi = past_tms n names (n + 2) (λ e. omega arith) (λ e. omega arith) ∙ hit names.tdi Input port.tdi (behind_tdi names port) (n + 2) refl;
      tdo = past_tdi n names (n + 3) (λ e. omega arith) (λ e. omega arith) (λ e. omega arith) ∙ hit names.tdo Output port.tdo (behind_tdo names port) (n + 3) refl;
      trst = past_tdo n names (n + 4) (λ e. omega arith) (λ e. omega arith) (λ e. omega arith) (λ e. omega arith) ∙ hit names.trst Input port.trst behind_trst (n + 4) refl;
    }

pub directions : DirectionHasBit → StitchedDirections
directions law N names f laid =
    let n : ℕ = length N.nets in
    let more : List PortView = tap_ports names (port_of N) in
    let tap = tap_directions n names in
    let past : (net : ℕ) → n ≤ net → direction (N.ports ++ more) net ≡ direction more net =
    λ net low. dir_of_more N.ports more net (no_port_past law N laid net low (direction N.ports net) refl) in
    record {
      core = λ net low. same_before N.ports more net (direction N.ports net) refl
          (no_tap n names net (λ e. omega arith) (λ e. omega arith) (λ e. omega arith) (λ e. omega arith) (λ e. omega arith));
      tck = past n (omega arith) ∙ tap.tck;
      tms = past (n + 1) (omega arith) ∙ tap.tms;
      tdi = past (n + 2) (omega arith) ∙ tap.tdi;
      tdo = past (n + 3) (omega arith) ∙ tap.tdo;
      trst = past (n + 4) (omega arith) ∙ tap.trst;
      others = λ net low. past net (omega arith)
          ∙ no_tap n names net (λ e. omega arith) (λ e. omega arith) (λ e. omega arith) (λ e. omega arith) (λ e. omega arith);
    }
