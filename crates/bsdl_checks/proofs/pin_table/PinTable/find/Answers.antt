use Rattle.std.proofs.Common.{◌≡◌, ℕ, List, Some, find, position, ◌∙◌, ap, sym}
use Rattle.bsdl_lexicon.specs.Names.{is_same_name}
use Rattle.bsdl_device.specs.declared.entries.PinEntry.{PinEntry}
use Rattle.bsdl_port_rules.proofs.Tables.{found, not_found}
use Rattle.bsdl_checks.proofs.pin_table.PinTable.find.Goals as goal

pub returns-in-None : goal.returns-in-None
returns-in-None c = not_found (λ (e : PinEntry). is_same_name e.port c.args.name.now) c.args.self.now c.in-None.ensures

pub returns-in-Some : goal.returns-in-Some
returns-in-Some c =
    let at : Some c.in-Some.place ≡ position (λ (e : PinEntry). is_same_name e.port c.args.name.now) c.self.inside.entries.now =
    c.in-Some.ensures ∙ ap (λ (list : List PinEntry). position (λ (e : PinEntry). is_same_name e.port c.args.name.now) list) (sym c.self.view_is) in
    ap (λ (e : PinEntry). Some e) (sym c.index-self-place.is)
    ∙ found (λ (e : PinEntry). is_same_name e.port c.args.name.now) c.self.inside.entries.now c.in-Some.place c.index-self-place.result at c.index-self-place.is
    ∙ ap (λ (list : List PinEntry). find (λ (e : PinEntry). is_same_name e.port c.args.name.now) list) c.self.view_is
