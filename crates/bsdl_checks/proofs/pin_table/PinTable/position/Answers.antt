use Rattle.std.proofs.Common.{List, position, ◌∙◌, ap}
use Rattle.bsdl_lexicon.specs.Names.{is_same_name}
use Rattle.bsdl_device.specs.declared.entries.PinEntry.{PinEntry}
use Rattle.bsdl_checks.proofs.pin_table.PinTable.position.Goals as goal

pub returns : goal.returns
returns c =
    c.copied.ensures ∙ c.get.ensures.value ∙ c.self.invariant.places c.args.name.now
    ∙ ap (λ (list : List PinEntry). position (λ (e : PinEntry). is_same_name e.port c.args.name.now) list) c.self.view_is
