use Rattle.std.proofs.Common.{◌≡◌, ℕ, List, Some, ◌∙◌, ap, sym}
use Rattle.bsdl_lexicon.specs.Names.{is_same_name}
use Rattle.bsdl_device.specs.declared.written.DeclaredPort.{DeclaredPort}
use Rattle.bsdl_device.specs.Ports.{place_named, port_named}
use Rattle.bsdl_port_rules.proofs.Tables.{found, not_found}
use Rattle.bsdl_port_rules.proofs.port_table.PortTable.find.Goals as goal

pub returns-in-None : goal.returns-in-None
returns-in-None c = not_found (λ (p : DeclaredPort). is_same_name c.args.name.now p.name) c.args.self.now c.in-None.ensures

pub returns-in-Some : goal.returns-in-Some
returns-in-Some c =
    let at : Some c.in-Some.place ≡ place_named c.self.inside.ports.now c.args.name.now =
    c.in-Some.ensures ∙ ap (λ (ports : List DeclaredPort). place_named ports c.args.name.now) (sym c.self.view_is) in
    ap (λ (p : DeclaredPort). Some p) (sym c.index-self-place.is)
    ∙ found (λ (p : DeclaredPort). is_same_name c.args.name.now p.name) c.self.inside.ports.now c.in-Some.place c.index-self-place.result at c.index-self-place.is
    ∙ ap (λ (ports : List DeclaredPort). port_named ports c.args.name.now) c.self.view_is
